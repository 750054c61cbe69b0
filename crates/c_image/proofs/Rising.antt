-- The rows of functions rise and lie in the program.
use Rattle.std.proofs.Common.{◌≡◌, ℕ, ◌+◌, ◌≤◌, ◌<◌, true, List, [], ◌∷◌, ◌++◌, length, map, refl, sym, ap, subst, ◌∙◌, append_assoc, arith, ltb, leb}
use Rattle.std.specs.Prelude.{None, unwrap_or}
use Rattle.std.specs.List.{AllByRecursion}
use Rattle.std.proofs.lemmas.Bool.{and_from, lt-ltb, le-leb}
use Rattle.asm_items.specs.declared.item.AsmItem.{AsmItem}
use Rattle.asm_items.specs.declared.item.AsmItem.TheVariants.{Label, Op, Integer, Pointer}
use Rattle.assembler.specs.Faults.{fault_of}
use Rattle.assembler.specs.Labels.{address_in}
use Rattle.assembler.specs.Placed.{item_size, Placed}
use Rattle.assembler.specs.Sizes.{total_size}
use Rattle.assembler.proofs.Standing.{is_address, words_length}
use Rattle.c_front.specs.Places.{Place}
use Rattle.c_types.specs.Programs.{TFunctionT}
use Rattle.cart_format.specs.declared.row.LineRow.{LineRow}
use Rattle.cart_format.specs.Table.{is_name, is_row, are_rows}
use Rattle.mid_code.specs.declared.placed.Where.{Where}
use Rattle.mid_code.specs.Code.{FunctionT}
use Rattle.asm_laws.specs.Labelled.{label_of_function}
use Rattle.asm_laws.proofs.Walked.{total_append, total_more}
use Rattle.asm_emit.specs.EmittedFrom.{HasInstruction, AreFunctions}
use Rattle.c_image.specs.Lines.{number_of, rows_of}

-- ---- sizes

pub op_has_words : (item : AsmItem) → HasInstruction (item ∷ []) → 1 ≤ item_size item
op_has_words (Op i) h = omega arith
op_has_words (Label name) h = absurd h
op_has_words (Integer w) h = absurd h
op_has_words (Pointer name) h = absurd h

has_words : (items : List AsmItem) → HasInstruction items → 1 ≤ total_size items
has_words [] h = absurd h
has_words (Op i ∷ items) h = let some = op_has_words (Op i) tt in omega (arith, some, total_more (Op i) items)
has_words (Label name ∷ items) h = let some = has_words items h in omega (arith, some, total_more (Label name) items)
has_words (Integer w ∷ items) h = let some = has_words items h in omega (arith, some, total_more (Integer w) items)
has_words (Pointer name ∷ items) h = let some = has_words items h in omega (arith, some, total_more (Pointer name) items)

-- a function with what stands behind it
function_size : (name : List ℕ) (own rest : List AsmItem) → HasInstruction own → 1 + total_size rest ≤ total_size (Label name ∷ own ++ rest)
function_size name own rest h =
    let some = has_words own h in
    let sum = total_append own rest in
    let more = total_more (Label name) (own ++ rest) in
    omega (arith, some, sum, more)

-- ---- rows

row_is : (files least end : ℕ) (r : LineRow) → least ≤ r.address → r.address < end → r.file < files → 1 ≤ r.line → is_name r.name ≡ true → is_row files least end r ≡ true
unfolding is_row
row_is files least end r above below file line name =
    and_from (leb least r.address) _ (le-leb least r.address above)
    (and_from (ltb r.address end) _ (lt-ltb r.address end below)
    (and_from (ltb r.file files) _ (lt-ltb r.file files file) (and_from (leb 1 r.line) (is_name r.name) (le-leb 1 r.line line) name)))

-- what a row says beside its address
pub record IsTold (files : List (List ℕ)) (o : Place) : Type 0 where
  pub file : number_of o.0 files < length files
  pub line : 1 ≤ o.1

module _ (items : List AsmItem) (words : List ℕ) (labels : List (List ℕ × ℕ)) (faultless : fault_of items ≡ None) (placed : Placed items words labels) where
  count : length words ≡ total_size items
  count = ap length placed.words_are ∙ words_length (address_in labels) items

  pub stands_at : (before after : List AsmItem) (name : List ℕ) → items ≡ before ++ Label name ∷ after → address_in labels name ≡ 0x20000000 + total_size before
  stands_at before after name e =
      let none : fault_of (before ++ Label name ∷ after) ≡ None = subst (λ (is : List AsmItem). fault_of is ≡ None) e faultless in
      let there : Placed (before ++ Label name ∷ after) words labels = subst (λ (is : List AsmItem). Placed is words labels) e placed in
      ap (λ o. unwrap_or o 0) (is_address before after name words labels none there)

  module _ (names : List (List ℕ)) (files : List (List ℕ)) where
    pub rise : (fs : List TFunctionT) (gs : List (FunctionT Where)) (os : List Place) (before rest : List AsmItem) (least : ℕ) → items ≡ before ++ rest
        → AreFunctions names (map (λ f. f.name) fs) gs rest → least ≤ 0x20000000 + total_size before → AllByRecursion (λ f. is_name f.name ≡ true) fs → AllByRecursion (IsTold files) os
        → are_rows (length files) least (0x20000000 + length words) (rows_of (address_in labels) files fs os) ≡ true
    unfolding are_rows
    rise [] gs os before rest least e h from named told = refl
    rise (f ∷ fs) [] os before rest least e h from named told = absurd h
    rise (f ∷ fs) (g ∷ gs) [] before rest least e h from named told = refl
    rise (f ∷ fs) (g ∷ gs) (o ∷ os) before rest least e h from named told =
        let name = label_of_function f.name in
        let whole : items ≡ before ++ (Label name ∷ (h.0 ++ h.1)) = e ∙ ap (λ (r : List AsmItem). before ++ r) h.2 in
        let next : items ≡ (before ++ (Label name ∷ h.0)) ++ h.1 = whole ∙ sym (append_assoc before (Label name ∷ h.0) h.1) in
        let at : address_in labels name ≡ 0x20000000 + total_size before = stands_at before (h.0 ++ h.1) name whole in
        let some = has_words h.0 h.3.some in
        let front = total_append before (Label name ∷ h.0) in
        let more = total_more (Label name) h.0 in
        let all = ap total_size next ∙ total_append (before ++ (Label name ∷ h.0)) h.1 in
        let least_next : address_in labels name + 1 ≤ 0x20000000 + total_size (before ++ (Label name ∷ h.0)) = omega (arith, at, some, front, more) in
        let below : address_in labels name < 0x20000000 + length words = omega (arith, at, some, front, more, all, count) in
        let above : least ≤ address_in labels name = omega (arith, at, from) in
        let row : LineRow = record { address = address_in labels name; file = number_of o.0 files; line = o.1; name = f.name } in
        and_from (is_row (length files) least (0x20000000 + length words) row) (are_rows (length files) (address_in labels name + 1) (0x20000000 + length words) (rows_of (address_in labels) files fs os))
        (row_is (length files) least (0x20000000 + length words) row above below told.0.file told.0.line named.0)
        (rise fs gs os (before ++ (Label name ∷ h.0)) h.1 (address_in labels name + 1) next h.4 least_next named.1 told.1)

    -- a program with a function has a word
    pub some_words : (f : TFunctionT) (fs : List TFunctionT) (gs : List (FunctionT Where)) (before rest : List AsmItem) → items ≡ before ++ rest
        → AreFunctions names (map (λ f. f.name) (f ∷ fs)) gs rest → 1 ≤ length words
    some_words f fs [] before rest e h = absurd h
    some_words f fs (g ∷ gs) before rest e h =
        let some = function_size (label_of_function f.name) h.0 h.1 h.3.some in
        let all : total_size items ≡ total_size before + total_size rest = ap total_size e ∙ total_append before rest in
        let own : total_size rest ≡ total_size (Label (label_of_function f.name) ∷ h.0 ++ h.1) = ap total_size h.2 in
        omega (arith, some, all, own, count)
