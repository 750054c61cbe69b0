-- The words of the items of words.
use Rattle.std.proofs.Common.{◌≡◌, ℕ, Bool, true, false, cond, List, [], ◌∷◌, ◌++◌, refl, ap}
use Rattle.std.specs.Prelude.{Option, Some, None, is_some, option_to_list}
use Rattle.std.specs.List.{flat_map}
use Rattle.v32_isa.specs.declared.instruction.Src.{Src}
use Rattle.v32_isa.specs.declared.instruction.Src.TheVariants as src
use Rattle.v32_isa.specs.declared.instruction.Mov.{Mov}
use Rattle.v32_isa.specs.declared.instruction.Mov.TheVariants.{RegImm, RegReg, RegAt, RegAtReg, RegAtOff, AtReg, AtRegReg, AtOffReg}
use Rattle.v32_isa.specs.declared.instruction.Instr.{Instr}
use Rattle.v32_isa.specs.declared.instruction.Instr.TheVariants as instr
use Rattle.v32_isa.specs.Table.{row_of}
use Rattle.v32_isa.specs.Decoding.{decoded}
use Rattle.v32_isa.proofs.Decoded.{decoded-begins}
use Rattle.asm_items.specs.declared.item.AsmItem.{AsmItem}
use Rattle.asm_items.specs.Items.{literal, src_with, mov_with, instr_with}
use Rattle.asm_items.specs.Words.{imm_word, item_words}
use Rattle.asm_items.specs.Disassembled.{disassembled, with_first, has_immediate}

src_again : (address : List ℕ → ℕ) (s : Src ℕ) → src_with (imm_word address) (src_with literal s) ≡ s
src_again address (src.Imm i) = refl
src_again address (src.Reg b) = refl

mov_again : (address : List ℕ → ℕ) (m : Mov ℕ) → mov_with (imm_word address) (mov_with literal m) ≡ m
mov_again address (RegImm a i) = refl
mov_again address (RegReg a b) = refl
mov_again address (RegAt a i) = refl
mov_again address (RegAtReg a b) = refl
mov_again address (RegAtOff a b i) = refl
mov_again address (AtReg i b) = refl
mov_again address (AtRegReg a b) = refl
mov_again address (AtOffReg a i b) = refl

-- literal immediates stay, wherever the labels stand
instr_again : (address : List ℕ → ℕ) (i : Instr ℕ) → instr_with (imm_word address) (instr_with literal i) ≡ i
instr_again address (instr.Plain p) = refl
instr_again address (instr.Go g s) = ap (instr.Go g) (src_again address s)
instr_again address (instr.Branch b a s) = ap (instr.Branch b a) (src_again address s)
instr_again address (instr.Two t a s) = ap (instr.Two t a) (src_again address s)
instr_again address (instr.One o a) = refl
instr_again address (instr.Mov m) = ap instr.Mov (mov_again address m)
instr_again address (instr.Lea a b None) = refl
instr_again address (instr.Lea a b (Some i)) = refl
instr_again address (instr.In a p) = refl
instr_again address (instr.Out p s) = ap (instr.Out p) (src_again address s)

-- the words of the items of a word, of the words after it, and of those after the second
module _ (address : List ℕ → ℕ) where
  abbrev words : List AsmItem → List ℕ
  words items = flat_map (item_words address) items

  chosen : (one two : List AsmItem) (b : Bool) → words (cond b two one) ≡ cond b (words two) (words one)
  chosen one two true = refl
  chosen one two false = refl

  pieces : (first word next : ℕ) (immediate : Option ℕ) (after rest one two : List ℕ) →
      word ∷ next ∷ [] ≡ (first ∷ option_to_list immediate) ++ after → one ≡ next ∷ rest → two ≡ rest →
      (first ∷ option_to_list immediate) ++ cond (is_some immediate) two one ≡ word ∷ next ∷ rest
  pieces first word next None after rest one two e is_one is_two = cc
  pieces first word next (Some i) after rest one two e is_one is_two = cc

  last_pieces : (first word : ℕ) (immediate : Option ℕ) (after : List ℕ) →
      word ∷ [] ≡ (first ∷ option_to_list immediate) ++ after → (first ∷ option_to_list immediate) ++ cond (is_some immediate) [] [] ≡ word ∷ []
  last_pieces first word None after e = cc
  last_pieces first word (Some i) after e = absurd cc

  further : (word next : ℕ) (rest : List ℕ) (one two : List AsmItem) (found : Option (Instr ℕ)) → decoded word (Some next) ≡ found →
      words one ≡ next ∷ rest → words two ≡ rest → words (with_first word found one two) ≡ word ∷ next ∷ rest
  further word next rest one two None is is_one is_two = ap (λ (xs : List ℕ). word ∷ xs) is_one
  further word next rest one two (Some i) is is_one is_two =
      let begins = decoded-begins word (Some next) i is in
      rw (instr_again address i, chosen one two (has_immediate i)) (pieces _ word next (row_of i).immediate begins.1.0 rest (words one) (words two) begins.1.1 is_one is_two)

  last : (word : ℕ) (found : Option (Instr ℕ)) → decoded word None ≡ found → words (with_first word found [] []) ≡ word ∷ []
  last word None is = refl
  last word (Some i) is =
      let begins = decoded-begins word None i is in
      rw (instr_again address i, chosen [] [] (has_immediate i)) (last_pieces _ word (row_of i).immediate begins.1.0 begins.1.1)

  pub given_again : (xs : List ℕ) → words (disassembled xs) ≡ xs
  unfolding disassembled
  given_again [] = refl
  given_again (word ∷ []) = last word (decoded word None) refl
  given_again (word ∷ next ∷ rest) = further word next rest (disassembled (next ∷ rest)) (disassembled rest) (decoded word (Some next)) refl (given_again (next ∷ rest)) (given_again rest)
