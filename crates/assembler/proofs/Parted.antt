-- What stands for the words of items, and the words that it becomes.
use Rattle.std.proofs.Common.{◌≡◌, ℕ, ◌+◌, List, [], ◌∷◌, ◌++◌, map, length, refl, sym, ap, ◌∙◌, append_assoc, append-nil, arith}
use Rattle.std.specs.Prelude.{Option, Some, None, get_or, option_to_list}
use Rattle.std.proofs.lemmas.List.{length-append, length-map, map-append}
use Rattle.either.specs.declared.Either.TheVariants.{Left}
use Rattle.v32_isa.specs.Table.{spelling}
use Rattle.v32_isa.specs.declared.instruction.Src.TheVariants as src
use Rattle.v32_isa.specs.declared.instruction.Mov.TheVariants.{RegImm, RegReg, RegAt, RegAtReg, RegAtOff, AtReg, AtRegReg, AtOffReg}
use Rattle.v32_isa.specs.declared.instruction.Instr.{Instr}
use Rattle.v32_isa.specs.declared.instruction.Instr.TheVariants as instr
use Rattle.asm_items.specs.declared.item.AsmItem.{AsmItem}
use Rattle.asm_items.specs.declared.item.AsmItem.TheVariants.{Label, Op, Integer, Pointer}
use Rattle.asm_items.specs.Items.{Imm, instr_with}
use Rattle.asm_items.specs.Words.{imm_word, item_words, words_of_items}
use Rattle.assembler.specs.Naming.{immediate}
use Rattle.assembler.specs.Placed.{item_size, label_at, labels_from}
use Rattle.assembler.specs.Sizes.{total_size}
use Rattle.assembler.specs.inner.Parts.{first_word, item_parts, parts_of}

-- ---- an instruction

first_is : (i : Instr Imm) (first : ℕ) (second : Option ℕ) → spelling (instr_with (imm_word (λ name. 0)) i) ≡ first ∷ option_to_list second → first_word i ≡ first
first_is i first second e = ap (λ (ws : List ℕ). get_or ws 0 0) e

pub op_parts : (i : Instr Imm) (first : ℕ) (second : Option ℕ) (o : Option Imm) → spelling (instr_with (imm_word (λ name. 0)) i) ≡ first ∷ option_to_list second → o ≡ immediate i
    → Left first ∷ option_to_list o ≡ item_parts (Op i)
op_parts i first second o e is = ap (λ (w : ℕ). Left w ∷ option_to_list o) (sym (first_is i first second e)) ∙ ap (λ (x : Option Imm). Left (first_word i) ∷ option_to_list x) is

-- the words that they become
op_words : (address : List ℕ → ℕ) (i : Instr Imm) → first_word i ∷ map (imm_word address) (option_to_list (immediate i)) ≡ spelling (instr_with (imm_word address) i)
op_words address (instr.Plain p) = refl
op_words address (instr.Go g (src.Imm i)) = refl
op_words address (instr.Go g (src.Reg b)) = refl
op_words address (instr.Branch t a (src.Imm i)) = refl
op_words address (instr.Branch t a (src.Reg b)) = refl
op_words address (instr.Two t a (src.Imm i)) = refl
op_words address (instr.Two t a (src.Reg b)) = refl
op_words address (instr.One o a) = refl
op_words address (instr.Mov (RegImm a i)) = refl
op_words address (instr.Mov (RegReg a b)) = refl
op_words address (instr.Mov (RegAt a i)) = refl
op_words address (instr.Mov (RegAtReg a b)) = refl
op_words address (instr.Mov (RegAtOff a b i)) = refl
op_words address (instr.Mov (AtReg i b)) = refl
op_words address (instr.Mov (AtRegReg a b)) = refl
op_words address (instr.Mov (AtOffReg a i b)) = refl
op_words address (instr.Lea a b None) = refl
op_words address (instr.Lea a b (Some i)) = refl
op_words address (instr.In a p) = refl
op_words address (instr.Out p (src.Imm i)) = refl
op_words address (instr.Out p (src.Reg b)) = refl

part_words : (address : List ℕ → ℕ) (item : AsmItem) → map (imm_word address) (item_parts item) ≡ item_words address item
part_words address (Label name) = refl
part_words address (Op i) = op_words address i
part_words address (Integer w) = refl
part_words address (Pointer name) = refl

pub parts_words : (address : List ℕ → ℕ) (items : List AsmItem) → map (imm_word address) (parts_of items) ≡ words_of_items address items
parts_words address [] = refl
parts_words address (item ∷ items) =
    map-append (imm_word address) (item_parts item) (parts_of items)
    ∙ ap (λ (ws : List ℕ). ws ++ map (imm_word address) (parts_of items)) (part_words address item)
    ∙ ap (λ (ws : List ℕ). item_words address item ++ ws) (parts_words address items)

pub parts_size : (item : AsmItem) → length (item_parts item) ≡ item_size item
parts_size item = sym (length-map (item_parts item) (imm_word (λ name. 0))) ∙ ap length (part_words (λ name. 0) item)

pub total_parts : (items : List AsmItem) → length (parts_of items) ≡ total_size items
unfolding total_size
total_parts [] = refl
total_parts (item ∷ items) = length-append (item_parts item) (parts_of items) ∙ rw (parts_size item, total_parts items) refl

-- ---- a turn of the walk over items

module _ (rest after : List AsmItem) (item : AsmItem) (whole : rest ≡ item ∷ after) (words new : List Imm) (new_is : new ≡ words ++ item_parts item) where
  pub words_on : (total : List Imm) → words ++ parts_of rest ≡ total → new ++ parts_of after ≡ total
  words_on total so_far =
      ap (λ (ps : List Imm). ps ++ parts_of after) new_is ∙ append_assoc words (item_parts item) (parts_of after)
      ∙ ap (λ (is : List AsmItem). words ++ parts_of is) (sym whole) ∙ so_far

  pub labels_on : (labels more total : List (List ℕ × ℕ)) (address : ℕ) → address ≡ 0x20000000 + length words → more ≡ labels ++ label_at address item
      → labels ++ labels_from (0x20000000 + length words) rest ≡ total → more ++ labels_from (0x20000000 + length new) after ≡ total
  unfolding labels_from
  labels_on labels more total address at more_is so_far =
      let size : 0x20000000 + length new ≡ 0x20000000 + length words + item_size item =
      (let a = ap length new_is ∙ length-append words (item_parts item) in let b = parts_size item in omega (arith, a, b)) in
      let e : labels_from (0x20000000 + length words) rest ≡ label_at (0x20000000 + length words) item ++ labels_from (0x20000000 + length words + item_size item) after = rw whole refl in
      ap (λ (ls : List (List ℕ × ℕ)). ls ++ labels_from (0x20000000 + length new) after) (more_is ∙ ap (λ (k : ℕ). labels ++ label_at k item) at)
      ∙ append_assoc labels (label_at (0x20000000 + length words) item) (labels_from (0x20000000 + length new) after)
      ∙ ap (λ (k : ℕ). labels ++ (label_at (0x20000000 + length words) item ++ labels_from k after)) size
      ∙ ap (λ (ls : List (List ℕ × ℕ)). labels ++ ls) (sym e) ∙ so_far

pub words_done : (rest : List AsmItem) (words total : List Imm) → length rest ≡ 0 → words ++ parts_of rest ≡ total → words ≡ total
words_done [] words total empty so_far = sym (append-nil words) ∙ so_far
words_done (item ∷ rest) words total empty so_far = absurd cc

pub labels_done : (rest : List AsmItem) (address : ℕ) (labels total : List (List ℕ × ℕ)) → length rest ≡ 0 → labels ++ labels_from address rest ≡ total → labels ≡ total
unfolding labels_from
labels_done [] address labels total empty so_far = sym (append-nil labels) ∙ so_far
labels_done (item ∷ rest) address labels total empty so_far = absurd cc

pub ruleset parting = (words_on, labels_on, words_done, labels_done)
