-- A text in pieces that end where lines do.
use Rattle.std.proofs.Common.{◌≡◌, ℕ, ◌+◌, ◌<◌, Bool, true, false, not, cond, List, [], ◌∷◌, ◌++◌, Bor, take, drop, length, refl, sym, ap, ◌∙◌, append_assoc, append-nil, arith}
use Rattle.std.specs.Prelude.{Option, Some, None, Result, Ok, Err, option_map}
use Rattle.std.specs.Option.{option_map_or}
use Rattle.std.specs.List.{take_while}
use Rattle.std.proofs.lemmas.Grind.{flat_map-append}
use Rattle.std.proofs.lemmas.List.{drop-drop, length-drop, length-append, nil_from_length, take-append-drop}
use Rattle.std.proofs.lemmas.List.Sums.{take_while-cons}
use Rattle.asm_items.specs.declared.item.AsmItem.{AsmItem}
use Rattle.asm_items.specs.Items.{Imm}
use Rattle.asm_reader.specs.declared.fault.LineFault.{LineFault}
use Rattle.asm_reader.specs.Lines.{line_items}
use Rattle.asm_reader.specs.Parted.{parted, with_first}
use Rattle.asm_reader.specs.Reading.{Text, at_line, before_items, is_newline, read, read_from}
use Rattle.asm_reader.specs.Tokens.{tokens_of}
use Rattle.assembler.specs.Placed.{item_size, label_at, labels_from}
use Rattle.assembler.specs.Sizes.{total_size}
use Rattle.assembler.specs.inner.Parts.{AreOf, Goes, ReadsMore, item_parts, parts_of}
use Rattle.assembler.proofs.Parted.{total_parts}

-- ---- parts of a list

front_first : {A : Type 0} (x : A) (ps qs : List (List A)) (p : List A) → with_first x ((p ∷ ps) ++ qs) ≡ with_first x (p ∷ ps) ++ qs
front_first x ps qs p = refl

is_there : {A : Type 0} (m : A → Bool) (xs : List A) → (p : List A) × (ps : List (List A)) × (parted m xs ≡ p ∷ ps)
unfolding parted
is_there m [] = ([], [], refl)
is_there {A = A} m (x ∷ xs) = by_mark (m x) refl (is_there m xs)
  where
    by_mark : (b : Bool) → m x ≡ b → ((p : List A) × (ps : List (List A)) × (parted m xs ≡ p ∷ ps)) → (p : List A) × (ps : List (List A)) × (cond b ([] ∷ parted m xs) (with_first x (parted m xs)) ≡ p ∷ ps)
    by_mark true is h = ([], parted m xs, refl)
    by_mark false is h = (x ∷ h.0, h.1, ap (with_first x) h.2)

first_on : {A : Type 0} (x : A) (parts qs : List (List A)) (p : List A) (ps : List (List A)) → parts ≡ p ∷ ps → with_first x (parts ++ qs) ≡ with_first x parts ++ qs
first_on x parts qs p ps is = rw is refl

cut : {A : Type 0} (m : A → Bool) (xs : List A) (x : A) (ys : List A) → m x ≡ true → parted m (xs ++ x ∷ ys) ≡ parted m xs ++ parted m ys
unfolding parted
cut m [] x ys marks = rw marks refl
cut {A = A} m (z ∷ xs) x ys marks = by_mark (m z) refl (cut m xs x ys marks)
  where
    by_mark : (b : Bool) → m z ≡ b → parted m (xs ++ x ∷ ys) ≡ parted m xs ++ parted m ys
        → cond b ([] ∷ parted m (xs ++ x ∷ ys)) (with_first z (parted m (xs ++ x ∷ ys))) ≡ cond b ([] ∷ parted m xs) (with_first z (parted m xs)) ++ parted m ys
    by_mark true is h = ap (λ (ps : List (List A)). [] ∷ ps) h
    by_mark false is h = let there = is_there m xs in ap (with_first z) h ∙ first_on z (parted m xs) (parted m ys) there.0 there.1 there.2

-- what stands behind the bytes before the first mark begins with a mark
stops : {A : Type 0} (m : A → Bool) (xs : List A) (x : A) (after : List A) → drop (length (take_while (λ y. not (m y)) xs)) xs ≡ x ∷ after → m x ≡ true
stops m [] x after e = absurd cc
stops {A = A} m (y ∷ ys) x after e = by_mark (m y) refl (stops m ys x after)
    (ap (λ (f : List A). drop (length f) (y ∷ ys)) (sym (take_while-cons (λ z. not (m z)) y ys)) ∙ e)
  where
    by_mark : (b : Bool) → m y ≡ b → (drop (length (take_while (λ z. not (m z)) ys)) ys ≡ x ∷ after → m x ≡ true)
        → drop (length (cond (not b) (y ∷ take_while (λ z. not (m z)) ys) [])) (y ∷ ys) ≡ x ∷ after → m x ≡ true
    by_mark true is again h = let same : y ≡ x = cc in ap m (sym same) ∙ is
    by_mark false is again h = again h

module _ (bytes piece rest : List ℕ) (least n : ℕ) (size : n ≡ least + length (take_while (λ b. not (is_newline b)) (drop least bytes)))
    (piece_is : piece ≡ take n bytes) (rest_is : rest ≡ drop n bytes) where
  whole : piece ++ rest ≡ bytes
  whole = ap (λ (p : List ℕ). p ++ rest) piece_is ∙ ap (λ (r : List ℕ). take n bytes ++ r) rest_is ∙ take-append-drop n bytes

  behind : rest ≡ drop (length (take_while (λ b. not (is_newline b)) (drop least bytes))) (drop least bytes)
  behind = rest_is ∙ ap (λ k. drop k bytes) (let s = size in omega (arith, s)) ∙ sym (drop-drop (length (take_while (λ b. not (is_newline b)) (drop least bytes))) least bytes)

  pub more : (x : ℕ) (after : List ℕ) → rest ≡ x ∷ after → parted is_newline bytes ≡ parted is_newline piece ++ parted is_newline after
  more x after is =
      let marks : is_newline x ≡ true = stops is_newline (drop least bytes) x after (sym behind ∙ is) in
      ap (parted is_newline) (sym whole ∙ ap (λ (r : List ℕ). piece ++ r) is) ∙ cut is_newline piece x after marks

  pub last : length rest ≡ 0 → parted is_newline bytes ≡ parted is_newline piece ++ []
  last empty =
      let none = nil_from_length rest empty in
      ap (parted is_newline) (sym whole ∙ ap (λ (r : List ℕ). piece ++ r) none ∙ append-nil piece) ∙ sym (append-nil (parted is_newline piece))

pub shorter : (bytes rest : List ℕ) (n x : ℕ) (after : List ℕ) → rest ≡ drop n bytes → rest ≡ x ∷ after → length after < length bytes
shorter bytes rest n x after rest_is is = let a = ap length (sym rest_is ∙ is) in let b = length-drop n bytes in omega (arith, a, b)

-- ---- the items of pieces

read_parts : (n k : ℕ) (ls ms : List (List ℕ)) (a b : List AsmItem) → read_from n ls ≡ Ok a → read_from k ms ≡ Ok b → read_from n (ls ++ ms) ≡ Ok (a ++ b)
unfolding read_from
read_parts n k [] [] a b e h = let x : [] ≡ a = cc in let y : [] ≡ b = cc in ap Ok (ap (λ (is : List AsmItem). [] ++ is) y ∙ ap (λ (is : List AsmItem). is ++ b) x)
read_parts n k [] (m ∷ ms) a b e h =
    let x : [] ≡ a = cc in
    by_line (line_items (tokens_of m)) (read_from (k + 1) ms) (read_from (n + 1) ms) h (λ c g. read_parts (n + 1) (k + 1) [] ms [] c refl g)
    ∙ ap (λ (is : List AsmItem). Ok (is ++ b)) x
  where
    by_line : (r : Result (List AsmItem) LineFault) (t s : Text) → at_line k r t ≡ Ok b → ((c : List AsmItem) → t ≡ Ok c → s ≡ Ok c) → at_line n r s ≡ Ok b
    by_line (Err f) t s g again = absurd cc
    by_line (Ok is) (Err f) s g again = absurd cc
    by_line (Ok is) (Ok c) s g again = ap (before_items is) (again c refl) ∙ g
read_parts n k (l ∷ ls) ms a b e h = by_line (line_items (tokens_of l)) (read_from (n + 1) ls) e (λ c g. read_parts (n + 1) k ls ms c b g h)
  where
    by_line : (r : Result (List AsmItem) LineFault) (t : Text) → at_line n r t ≡ Ok a → ((c : List AsmItem) → t ≡ Ok c → read_from (n + 1) (ls ++ ms) ≡ Ok (c ++ b)) → at_line n r (read_from (n + 1) (ls ++ ms)) ≡ Ok (a ++ b)
    by_line (Err f) t g again = absurd cc
    by_line (Ok is) (Err f) g again = absurd cc
    by_line (Ok is) (Ok c) g again =
        let same : is ++ c ≡ a = cc in
        ap (before_items is) (again c refl) ∙ ap Ok (sym (append_assoc is c b)) ∙ ap (λ (xs : List AsmItem). Ok (xs ++ b)) same

reads_on : (bytes piece after : List ℕ) (a b : List AsmItem) → parted is_newline bytes ≡ parted is_newline piece ++ parted is_newline after → read piece ≡ Ok a → read after ≡ Ok b → read bytes ≡ Ok (a ++ b)
unfolding read
reads_on bytes piece after a b parts e h = ap (read_from 1) parts ∙ read_parts 1 1 (parted is_newline piece) (parted is_newline after) a b e h

labels_more : (a b : List AsmItem) (address : ℕ) → labels_from address (a ++ b) ≡ labels_from address a ++ labels_from (address + total_size a) b
unfolding labels_from total_size
labels_more [] b address = ap (λ (k : ℕ). labels_from k b) (omega arith)
labels_more (x ∷ a) b address =
    ap (λ (ls : List (List ℕ × ℕ)). label_at address x ++ ls) (labels_more a b (address + item_size x) ∙ ap (λ (k : ℕ). labels_from (address + item_size x) a ++ labels_from k b) (omega arith))
    ∙ sym (append_assoc (label_at address x) (labels_from (address + item_size x) a) (labels_from (address + (item_size x + total_size a)) b))

-- ---- a turn of the loop over pieces

module _ (text rest piece : List ℕ) (words new : List Imm) (labels more : List (List ℕ × ℕ)) (so_far : Goes text (Some rest) words labels) (taken : ReadsMore piece words labels new more) where
  words_joined : (is : List AsmItem) → new ++ parts_of is ≡ words ++ parts_of (taken.items ++ is)
  words_joined is =
      ap (λ (ps : List Imm). ps ++ parts_of is) taken.more.words_are ∙ append_assoc words (parts_of taken.items) (parts_of is)
      ∙ ap (λ (ps : List Imm). words ++ ps) (sym (flat_map-append item_parts taken.items is))

  labels_joined : (is : List AsmItem) → more ++ labels_from (0x20000000 + length new) is ≡ labels ++ labels_from (0x20000000 + length words) (taken.items ++ is)
  labels_joined is =
      let size : 0x20000000 + length new ≡ 0x20000000 + length words + total_size taken.items =
      (let a = ap length taken.more.words_are ∙ length-append words (parts_of taken.items) in let b = total_parts taken.items in omega (arith, a, b)) in
      ap (λ (ls : List (List ℕ × ℕ)). ls ++ labels_from (0x20000000 + length new) is) taken.more.labels_are
      ∙ append_assoc labels (labels_from (0x20000000 + length words) taken.items) (labels_from (0x20000000 + length new) is)
      ∙ ap (λ k. labels ++ (labels_from (0x20000000 + length words) taken.items ++ labels_from k is)) size
      ∙ ap (λ (ls : List (List ℕ × ℕ)). labels ++ ls) (sym (labels_more taken.items is (0x20000000 + length words)))

  are_joined : (is : List AsmItem) → AreOf text (words ++ parts_of (taken.items ++ is)) (labels ++ labels_from (0x20000000 + length words) (taken.items ++ is))
      → AreOf text (new ++ parts_of is) (more ++ labels_from (0x20000000 + length new) is)
  are_joined is are = record { items = are.items; reads = are.reads; words_are = words_joined is ∙ are.words_are; labels_are = labels_joined is ∙ are.labels_are }

  none_left : parted is_newline rest ≡ parted is_newline piece ++ [] → read rest ≡ Ok taken.items
  unfolding read
  none_left parts = ap (read_from 1) (parts ∙ append-nil (parted is_newline piece)) ∙ taken.reads

  pub goes_on : (after : Option (Bor (List ℕ))) → parted is_newline rest ≡ parted is_newline piece ++ option_map_or (λ r. parted is_newline r.now) after []
      → Goes text (option_map (λ r. r.now) after) new more
  goes_on None parts =
      let are = so_far taken.items (none_left parts) in
      record { items = are.items; reads = are.reads; words_are = taken.more.words_are ∙ are.words_are; labels_are = taken.more.labels_are ∙ are.labels_are }
  goes_on (Some r) parts = λ is reads. are_joined is (so_far (taken.items ++ is) (reads_on rest piece r.now taken.items is parts taken.reads reads))
