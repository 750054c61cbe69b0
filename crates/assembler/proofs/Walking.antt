-- One turn of each walk over items.
use Rattle.std.proofs.Common.{◌≡◌, ℕ, ◌+◌, ◌≤◌, ◌<◌, Bool, true, false, cond, ◌||◌, List, [], ◌∷◌, ◌++◌, length, refl, sym, ap, ◌∙◌, append_assoc, append-nil, arith}
use Rattle.std.specs.Prelude.{Option, Some, None, is_some, bytes_eq}
use Rattle.std.specs.List.{list_any}
use Rattle.std.proofs.lemmas.Bool.{lt-ltb, le-ltb}
use Rattle.asm_items.specs.declared.item.AsmItem.{AsmItem}
use Rattle.assembler.specs.Labels.{address_of, has_label}
use Rattle.assembler.specs.Placed.{item_size, label_at, labels_from}
use Rattle.assembler.specs.Sizes.{total_size}
use Rattle.assembler.specs.Faults.{label_in, is_among, with_name, twice_from, unknown_from, past_from}
use Rattle.assembler.specs.Naming.{is_known}
use Rattle.assembler.specs.inner.Survey.{with_item, collected, has_item, or_twice, names_of, or_later}

-- ---- sizes

module _ (rest after : List AsmItem) (item : AsmItem) (number words size : ℕ) (total : Option ℕ) where
  pub past_here : rest ≡ item ∷ after → size ≡ item_size item → 33554432 < words + size → past_from number words rest ≡ total → Some number ≡ total
  unfolding past_from
  past_here whole is past so_far =
      let e : past_from number words rest ≡ Some number = rw (whole, sym is, lt-ltb 33554432 (words + size) past) refl in
      sym e ∙ so_far

  pub past_on : rest ≡ item ∷ after → size ≡ item_size item → words + size ≤ 33554432 → past_from number words rest ≡ total → past_from (number + 1) (words + size) after ≡ total
  unfolding past_from
  past_on whole is within so_far =
      let e : past_from number words rest ≡ past_from (number + 1) (words + size) after = rw (whole, sym is, le-ltb 33554432 (words + size) within) refl in
      sym e ∙ so_far

pub past_done : (rest : List AsmItem) (number words : ℕ) (total : Option ℕ) → length rest ≡ 0 → past_from number words rest ≡ total → None ≡ total
unfolding past_from
past_done [] number words total empty so_far = so_far
past_done (item ∷ rest) number words total empty so_far = absurd cc

-- ---- unknown labels

module _ (rest after : List AsmItem) (item : AsmItem) (number : ℕ) (labels : List (List ℕ × ℕ)) (total : Option ℕ) where
  pub unknown_here : rest ≡ item ∷ after → false ≡ is_known labels item → unknown_from number labels rest ≡ total → Some number ≡ total
  unfolding unknown_from
  unknown_here whole is so_far =
      let e : unknown_from number labels rest ≡ Some number = rw (whole, sym is) refl in
      sym e ∙ so_far

  pub unknown_on : rest ≡ item ∷ after → true ≡ is_known labels item → unknown_from number labels rest ≡ total → unknown_from (number + 1) labels after ≡ total
  unfolding unknown_from
  unknown_on whole is so_far =
      let e : unknown_from number labels rest ≡ unknown_from (number + 1) labels after = rw (whole, sym is) refl in
      sym e ∙ so_far

pub unknown_done : (rest : List AsmItem) (number : ℕ) (labels : List (List ℕ × ℕ)) (total : Option ℕ) → length rest ≡ 0 → unknown_from number labels rest ≡ total → None ≡ total
unfolding unknown_from
unknown_done [] number labels total empty so_far = so_far
unknown_done (item ∷ rest) number labels total empty so_far = absurd cc

-- ---- the labels of the first pass

module _ (rest after : List AsmItem) (item : AsmItem) (address size : ℕ) (labels new total : List (List ℕ × ℕ)) where
  pub collect_on : rest ≡ item ∷ after → size ≡ item_size item → new ≡ with_item labels (label_in item) address → collected address labels rest ≡ total → collected (address + size) new after ≡ total
  unfolding collected
  collect_on whole is new_is so_far =
      let e : collected address labels rest ≡ collected (address + size) new after = rw (whole, is, new_is) refl in
      sym e ∙ so_far

pub collect_done : (rest : List AsmItem) (address : ℕ) (labels total : List (List ℕ × ℕ)) → length rest ≡ 0 → collected address labels rest ≡ total → labels ≡ total
unfolding collected
collect_done [] address labels total empty so_far = so_far
collect_done (item ∷ rest) address labels total empty so_far = absurd cc

-- ---- the first label that stands twice

pub has_name : (labels : List (List ℕ × ℕ)) (name : List ℕ) → list_any (bytes_eq name) (names_of labels) ≡ has_label labels name
has_name [] name = refl
has_name (l ∷ labels) name = elim (bytes_eq name l.0) as (λ b. (b || list_any (bytes_eq name) (names_of labels)) ≡ is_some (cond b (Some l.1) (address_of labels name))) [
  | true ↦ refl
  | false ↦ has_name labels name
]

pub among : (labels : List (List ℕ × ℕ)) (name : Option (List ℕ)) → is_among (names_of labels) name ≡ has_item labels name
among labels None = refl
among labels (Some name) = has_name labels name

pub names_more : (labels : List (List ℕ × ℕ)) (name : Option (List ℕ)) (address : ℕ) → has_item labels name ≡ false → names_of (with_item labels name address) ≡ with_name (names_of labels) name
names_more labels None address absent = refl
names_more labels (Some name) address absent = rw absent (names_push labels)
  where
    names_push : (ls : List (List ℕ × ℕ)) → names_of (ls ++ (name, address) ∷ []) ≡ names_of ls ++ name ∷ []
    names_push [] = refl
    names_push (l ∷ ls) = ap (λ (ns : List (List ℕ)). l.0 ∷ ns) (names_push ls)

module _ (rest after : List AsmItem) (item : AsmItem) (number address : ℕ) (labels new : List (List ℕ × ℕ)) (total : Option ℕ) where
  noted : (b : Bool) → has_item labels (label_in item) ≡ b → new ≡ with_item labels (label_in item) address →
      cond b (Some number) (twice_from (number + 1) (with_name (names_of labels) (label_in item)) after) ≡ total →
      or_later (cond b (Some number) None) (twice_from (number + 1) (names_of new) after) ≡ total
  noted true is new_is so_far = so_far
  noted false is new_is so_far =
      let same : names_of new ≡ with_name (names_of labels) (label_in item) = ap names_of new_is ∙ names_more labels (label_in item) address is in
      ap (λ ns. twice_from (number + 1) ns after) same ∙ so_far

  pub twice_on : (twice now : Option ℕ) → rest ≡ item ∷ after → new ≡ with_item labels (label_in item) address → now ≡ or_twice twice (has_item labels (label_in item)) number →
      or_later twice (twice_from number (names_of labels) rest) ≡ total → or_later now (twice_from (number + 1) (names_of new) after) ≡ total
  unfolding twice_from
  twice_on (Some t) now whole new_is now_is so_far = ap (λ n. or_later n (twice_from (number + 1) (names_of new) after)) now_is ∙ so_far
  twice_on None now whole new_is now_is so_far =
      let step : twice_from number (names_of labels) rest ≡ cond (has_item labels (label_in item)) (Some number) (twice_from (number + 1) (with_name (names_of labels) (label_in item)) after) = rw (whole, among labels (label_in item)) refl in
      ap (λ n. or_later n (twice_from (number + 1) (names_of new) after)) now_is ∙ noted (has_item labels (label_in item)) refl new_is (sym step ∙ so_far)

pub twice_done : (rest : List AsmItem) (number : ℕ) (names : List (List ℕ)) (twice total : Option ℕ) → length rest ≡ 0 → or_later twice (twice_from number names rest) ≡ total → twice ≡ total
unfolding twice_from
twice_done [] number names None total empty so_far = so_far
twice_done [] number names (Some t) total empty so_far = so_far
twice_done (item ∷ rest) number names twice total empty so_far = absurd cc

-- ---- the labels of a placement

module _ (rest after : List AsmItem) (item : AsmItem) (address size : ℕ) (done new total : List (List ℕ × ℕ)) where
  pub labels_on : rest ≡ item ∷ after → size ≡ item_size item → new ≡ done ++ label_at address item → done ++ labels_from address rest ≡ total → new ++ labels_from (address + size) after ≡ total
  unfolding labels_from
  labels_on whole is new_is so_far =
      let step : labels_from address rest ≡ label_at address item ++ labels_from (address + size) after = rw (whole, is) refl in
      ap (λ ls. ls ++ labels_from (address + size) after) new_is ∙ append_assoc done (label_at address item) (labels_from (address + size) after) ∙ ap (λ ls. done ++ ls) (sym step) ∙ so_far

  pub room : rest ≡ item ∷ after → size ≡ item_size item → address + total_size rest ≤ 570425344 → address + size + total_size after ≤ 570425344
  unfolding total_size
  room whole is fits =
      let step : total_size rest ≡ size + total_size after = rw (whole, is) refl in
      omega (arith, step, fits)

pub labels_done : (rest : List AsmItem) (address : ℕ) (done total : List (List ℕ × ℕ)) → length rest ≡ 0 → done ++ labels_from address rest ≡ total → done ≡ total
unfolding labels_from
labels_done [] address done total empty so_far = sym (append-nil done) ∙ so_far
labels_done (item ∷ rest) address done total empty so_far = absurd cc

pub ruleset walking = (collect_on, collect_done, twice_on, twice_done)
