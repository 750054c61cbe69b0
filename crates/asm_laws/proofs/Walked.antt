-- Items that are placed stand among the words.
use Rattle.std.proofs.Common.{◌≡◌, ℕ, ◌+◌, List, [], ◌∷◌, ◌++◌, refl, sym, ap, subst, ◌∙◌, append_assoc, arith}
use Rattle.std.specs.Prelude.{None, unwrap_or}
use Rattle.asm_items.specs.declared.item.AsmItem.{AsmItem}
use Rattle.asm_items.specs.declared.item.AsmItem.TheVariants.{Label, Op, Integer, Pointer}
use Rattle.asm_items.specs.Words.{item_words}
use Rattle.assembler.specs.Faults.{fault_of}
use Rattle.assembler.specs.Labels.{address_in}
use Rattle.assembler.specs.Placed.{item_size, Placed}
use Rattle.assembler.specs.Sizes.{total_size}
use Rattle.assembler.specs.Standing.{Stands}
use Rattle.assembler.proofs.Standing.{stands, is_address, item_length}
use Rattle.asm_laws.specs.Placing.{WordsAt}
use Rattle.asm_laws.specs.Standing.{ItemAt, Stand}

pub total_append : (xs ys : List AsmItem) → total_size (xs ++ ys) ≡ total_size xs + total_size ys
unfolding total_size
total_append [] ys = omega arith
total_append (x ∷ xs) ys = let r = total_append xs ys in omega (arith, r)

pub total_one : (x : AsmItem) → total_size (x ∷ []) ≡ item_size x
unfolding total_size
total_one x = omega arith

pub total_none : total_size [] ≡ 0
unfolding total_size
total_none = refl

pub total_more : (x : AsmItem) (xs : List AsmItem) → total_size (x ∷ xs) ≡ item_size x + total_size xs
unfolding total_size
total_more x xs = refl

module _ (words : List ℕ) (labels : List (List ℕ × ℕ)) where
  abbrev place : List AsmItem → ℕ
  place before = 0x20000000 + total_size before

  -- the words of one item
  words_at : (before rest : List AsmItem) (item : AsmItem) → Placed (before ++ item ∷ rest) words labels → WordsAt words (place before) (item_words (address_in labels) item) (place before + item_size item)
  words_at before rest item placed =
      let s : Stands labels item (total_size before) words = stands before rest item words labels placed in
      record { front = s.before; rest = s.after; words_are = s.words_are; place_is = ap (λ n. 0x20000000 + n) (sym s.place_is); next_is = ap (λ n. place before + n) (sym (item_length (address_in labels) item)) }

  item_at : (before rest : List AsmItem) (item : AsmItem) → fault_of (before ++ item ∷ rest) ≡ None → Placed (before ++ item ∷ rest) words labels → ItemAt words (address_in labels) (place before) item (place before + item_size item)
  item_at before rest (Label name) ok placed = (ap (λ a. unwrap_or a 0) (is_address before rest name words labels ok placed), omega arith)
  item_at before rest (Op i) ok placed = words_at before rest (Op i) placed
  item_at before rest (Integer w) ok placed = words_at before rest (Integer w) placed
  item_at before rest (Pointer name) ok placed = words_at before rest (Pointer name) placed

  walk : (before rest : List AsmItem) → fault_of (before ++ rest) ≡ None → Placed (before ++ rest) words labels → Stand words (address_in labels) (place before) rest (place before + total_size rest)
  walk before [] ok placed = omega (arith, total_none)
  walk before (item ∷ rest) ok placed =
      let same : (before ++ item ∷ []) ++ rest ≡ before ++ item ∷ rest = append_assoc before (item ∷ []) rest in
      let r = walk (before ++ item ∷ []) rest (ap fault_of same ∙ ok) (subst (λ xs. Placed xs words labels) (sym same) placed) in
      let here : place (before ++ item ∷ []) ≡ place before + item_size item = omega (arith, total_append before (item ∷ []), total_one item) in
      let there : place (before ++ item ∷ []) + total_size rest ≡ place before + total_size (item ∷ rest) = omega (arith, here, total_more item rest) in
      (place before + item_size item, item_at before rest item ok placed, subst (λ n. Stand words (address_in labels) n rest (place before + total_size (item ∷ rest))) here (subst (λ n. Stand words (address_in labels) (place (before ++ item ∷ [])) rest n) there r))

  -- items without a fault stand where they are placed
  pub placed_stand : (items : List AsmItem) → fault_of items ≡ None → Placed items words labels → Stand words (address_in labels) 0x20000000 items (0x20000000 + total_size items)
  placed_stand items ok placed =
      let z : place [] ≡ 0x20000000 = omega (arith, total_none) in
      subst (λ n. Stand words (address_in labels) n items (n + total_size items)) z (walk [] items ok placed)
