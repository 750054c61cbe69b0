-- Where items and labels stand.
use Rattle.std.proofs.Common.{◌≡◌, ℕ, ◌+◌, Bool, true, false, cond, List, [], ◌∷◌, ◌++◌, length, refl, sym, ap, ◌∙◌, append-nil, true≢false, arith}
use Rattle.std.specs.Prelude.{Option, Some, None, is_some, bytes_eq}
use Rattle.std.specs.List.{flat_map}
use Rattle.std.proofs.lemmas.Grind.{flat_map-append}
use Rattle.std.proofs.lemmas.List.{length-append}
use Rattle.std.proofs.lemmas.Slice.Eq.{bytes_eq-Decides}
use Rattle.asm_items.specs.declared.item.AsmItem.{AsmItem}
use Rattle.asm_items.specs.declared.item.AsmItem.TheVariants.{Label, Op, Integer, Pointer}
use Rattle.asm_items.specs.Words.{item_words, words_of_items}
use Rattle.assembler.specs.Labels.{address_of, address_in, has_label}
use Rattle.assembler.specs.Placed.{item_size, label_at, labels_from, Placed}
use Rattle.assembler.specs.Sizes.{total_size}
use Rattle.assembler.specs.Faults.{label_in, with_name, twice_from, fault_of}
use Rattle.assembler.specs.inner.Survey.{with_item, has_item, names_of}
use Rattle.assembler.specs.Standing.{Stands}
use Rattle.assembler.proofs.ItemSizes.{op_size}
use Rattle.assembler.proofs.Walking.{among, names_more}
use Rattle.assembler.proofs.Whole.{has_append, goes_last, faultless}

-- an item's size is the same wherever labels stand
pub item_length : (address : List ℕ → ℕ) (item : AsmItem) → length (item_words address item) ≡ item_size item
item_length address (Label name) = refl
item_length address (Op i) = op_size address i ∙ sym (op_size (λ name. 0) i)
item_length address (Integer w) = refl
item_length address (Pointer name) = refl

pub words_length : (address : List ℕ → ℕ) (items : List AsmItem) → length (words_of_items address items) ≡ total_size items
unfolding total_size
words_length address [] = refl
words_length address (item ∷ items) =
    let both = length-append (item_words address item) (words_of_items address items) in
    omega (arith, both, item_length address item, words_length address items)

pub stands : (before after : List AsmItem) (item : AsmItem) (words : List ℕ) (labels : List (List ℕ × ℕ)) → Placed (before ++ item ∷ after) words labels → Stands labels item (total_size before) words
stands before after item words labels placed =
    record {
      before = flat_map (item_words (address_in labels)) before;
      after = flat_map (item_words (address_in labels)) after;
      words_are = placed.words_are ∙ flat_map-append (item_words (address_in labels)) before (item ∷ after);
      place_is = words_length (address_in labels) before;
    }

-- ---- labels

neither : (a b : Bool) → cond a true b ≡ false → (a ≡ false) × (b ≡ false)
neither true b h = absurd (true≢false h)
neither false b h = (refl, h)

not_here : (labels : List (List ℕ × ℕ)) (item : AsmItem) (address : ℕ) (name : List ℕ) (rest : List (List ℕ × ℕ)) →
    has_label (labels ++ label_at address item) name ≡ false → (has_label labels name ≡ false) × (address_of (label_at address item ++ rest) name ≡ address_of rest name)
not_here labels (Label other) address name rest absent =
    let both = neither (has_label labels name) (has_label ((other, address) ∷ []) name) (sym (has_append labels ((other, address) ∷ []) name) ∙ absent) in
    (both.0, apart (bytes_eq name other) both.1)
  where
    apart : (b : Bool) → is_some (cond b (Some address) None) ≡ false → cond b (Some address) (address_of rest name) ≡ address_of rest name
    apart true h = absurd (true≢false h)
    apart false h = refl
not_here labels (Op i) address name rest absent = (ap (λ (ls : List (List ℕ × ℕ)). has_label ls name) (sym (append-nil labels)) ∙ absent, refl)
not_here labels (Integer w) address name rest absent = (ap (λ (ls : List (List ℕ × ℕ)). has_label ls name) (sym (append-nil labels)) ∙ absent, refl)
not_here labels (Pointer other) address name rest absent = (ap (λ (ls : List (List ℕ × ℕ)). has_label ls name) (sym (append-nil labels)) ∙ absent, refl)

module _ (after : List AsmItem) (name : List ℕ) where
  abbrev At : List AsmItem → ℕ → List (List ℕ × ℕ) → Type 0
  At before address labels = (has_label labels name ≡ false) × (address_of (labels_from address (before ++ Label name ∷ after)) name ≡ Some (address + total_size before))

  first : (number address : ℕ) (labels : List (List ℕ × ℕ)) (b : Bool) → has_label labels name ≡ b → cond b (Some number) (twice_from (number + 1) (names_of labels ++ name ∷ []) after) ≡ None → At [] address labels
  unfolding labels_from total_size
  first number address labels true is h = absurd cc
  first number address labels false is h =
      let same : bytes_eq name name ≡ true = (bytes_eq-Decides name name).1 refl in
      let here : address ≡ address + 0 = omega arith in
      (is, ap (λ b. cond b (Some address) (address_of (labels_from (address + 0) after) name)) same ∙ ap (λ (a : ℕ). some_address a) here)
    where
      some_address : ℕ → Option ℕ
      some_address a = Some a

  further : (item : AsmItem) (before : List AsmItem) (number address : ℕ) (labels : List (List ℕ × ℕ)) (b : Bool) → has_item labels (label_in item) ≡ b →
      cond b (Some number) (twice_from (number + 1) (with_name (names_of labels) (label_in item)) (before ++ Label name ∷ after)) ≡ None →
      (twice_from (number + 1) (names_of (with_item labels (label_in item) address)) (before ++ Label name ∷ after) ≡ None → At before (address + item_size item) (with_item labels (label_in item) address)) →
      At (item ∷ before) address labels
  unfolding labels_from total_size
  further item before number address labels true is h rest = absurd cc
  further item before number address labels false is h rest =
      let later = rest (ap (λ ns. twice_from (number + 1) ns (before ++ Label name ∷ after)) (names_more labels (label_in item) address is) ∙ h) in
      let absent : has_label (labels ++ label_at address item) name ≡ false = ap (λ (ls : List (List ℕ × ℕ)). has_label ls name) (sym (goes_last labels item address is)) ∙ later.0 in
      let apart = not_here labels item address name (labels_from (address + item_size item) (before ++ Label name ∷ after)) absent in
      let sum : address + item_size item + total_size before ≡ address + (item_size item + total_size before) = omega arith in
      (apart.0, apart.1 ∙ later.1 ∙ ap (λ (a : ℕ). some_of a) sum)
    where
      some_of : ℕ → Option ℕ
      some_of a = Some a

  found : (before : List AsmItem) (number address : ℕ) (labels : List (List ℕ × ℕ)) → twice_from number (names_of labels) (before ++ Label name ∷ after) ≡ None → At before address labels
  unfolding twice_from
  found [] number address labels e =
      first number address labels (has_label labels name) refl (ap (λ b. cond b (Some number) (twice_from (number + 1) (names_of labels ++ name ∷ []) after)) (sym (among labels (Some name))) ∙ e)
  found (item ∷ before) number address labels e =
      further item before number address labels (has_item labels (label_in item)) refl
      (ap (λ b. cond b (Some number) (twice_from (number + 1) (with_name (names_of labels) (label_in item)) (before ++ Label name ∷ after))) (sym (among labels (label_in item))) ∙ e)
      (found before (number + 1) (address + item_size item) (with_item labels (label_in item) address))

pub is_address : (before after : List AsmItem) (name words : List ℕ) (labels : List (List ℕ × ℕ)) → fault_of (before ++ Label name ∷ after) ≡ None → Placed (before ++ Label name ∷ after) words labels → address_of labels name ≡ Some (0x20000000 + total_size before)
is_address before after name words labels e placed =
    ap (λ (ls : List (List ℕ × ℕ)). address_of ls name) placed.labels_are ∙ (found after name before 1 0x20000000 [] (faultless (before ++ Label name ∷ after) e).0).1
