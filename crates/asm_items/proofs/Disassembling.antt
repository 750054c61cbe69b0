-- Words taken apart one item at a time.
use Rattle.std.proofs.Common.{◌≡◌, ℕ, Bool, true, false, cond, List, [], ◌∷◌, ◌++◌, drop, length, refl, sym, ap, ◌∙◌, append_assoc, append-nil}
use Rattle.std.specs.Prelude.{Option, Some, None, slice_get}
use Rattle.v32_isa.specs.declared.instruction.Instr.{Instr}
use Rattle.v32_isa.specs.Decoding.{decoded}
use Rattle.asm_items.specs.declared.item.AsmItem.{AsmItem}
use Rattle.asm_items.specs.Disassembled.{disassembled, with_first, has_immediate, first_item, after_first}

abbrev no_items : List AsmItem
no_items = []

abbrev no_words : List ℕ
no_words = []

at_end : (b : Bool) → cond b no_items no_items ≡ disassembled (cond b (drop 1 no_words) no_words)
unfolding disassembled
at_end true = refl
at_end false = refl

before_more : (next : ℕ) (rest : List ℕ) (b : Bool) → cond b (disassembled rest) (disassembled (next ∷ rest)) ≡ disassembled (cond b (drop 1 (next ∷ rest)) (next ∷ rest))
before_more next rest true = refl
before_more next rest false = refl

last_item : (word : ℕ) (found : Option (Instr ℕ)) → with_first word found [] [] ≡ first_item word found ∷ disassembled (after_first found [])
unfolding disassembled
last_item word None = refl
last_item word (Some i) = ap (λ (items : List AsmItem). first_item word (Some i) ∷ items) (at_end (has_immediate i))

further_item : (word next : ℕ) (rest : List ℕ) (found : Option (Instr ℕ)) → with_first word found (disassembled (next ∷ rest)) (disassembled rest) ≡ first_item word found ∷ disassembled (after_first found (next ∷ rest))
further_item word next rest None = refl
further_item word next rest (Some i) = ap (λ (items : List AsmItem). first_item word (Some i) ∷ items) (before_more next rest (has_immediate i))

one_item : (word : ℕ) (after : List ℕ) → disassembled (word ∷ after) ≡ first_item word (decoded word (slice_get after 0)) ∷ disassembled (after_first (decoded word (slice_get after 0)) after)
unfolding disassembled
one_item word [] = last_item word (decoded word None)
one_item word (next ∷ rest) = further_item word next rest (decoded word (Some next))

-- one turn of the loop
pub go_on : (rest after next total : List ℕ) (done new : List AsmItem) (word : ℕ) (found : Option (Instr ℕ)) (item : AsmItem) →
    rest ≡ word ∷ after → found ≡ decoded word (slice_get after 0) → next ≡ after_first found after → item ≡ first_item word found →
    new ≡ done ++ (item ∷ []) → done ++ disassembled rest ≡ disassembled total → new ++ disassembled next ≡ disassembled total
go_on rest after next total done new word found item whole is next_is item_is pushed so_far =
    let step : disassembled rest ≡ item ∷ disassembled next = rw (whole, next_is, item_is, is) (one_item word after) in
    ap (λ (xs : List AsmItem). xs ++ disassembled next) pushed ∙ append_assoc done (item ∷ []) (disassembled next) ∙ ap (λ (xs : List AsmItem). done ++ xs) (sym step) ∙ so_far

pub ended : (rest total : List ℕ) (done : List AsmItem) → length rest ≡ 0 → done ++ disassembled rest ≡ disassembled total → done ≡ disassembled total
unfolding disassembled
ended [] total done empty so_far = sym (append-nil done) ∙ so_far
ended (word ∷ rest) total done empty so_far = absurd cc
