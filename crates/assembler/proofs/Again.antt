-- Words that are taken apart and assembled again.
use Rattle.std.proofs.Common.{◌≡◌, ℕ, ◌+◌, ◌≤◌, Bool, true, false, cond, ltb, List, [], ◌∷◌, length, refl, sym, ap, ◌∙◌, arith}
use Rattle.std.specs.Prelude.{Option, Some, None, option_and_then}
use Rattle.std.proofs.lemmas.Bool.{le-ltb}
use Rattle.either.specs.Either.{right}
use Rattle.v32_isa.specs.declared.instruction.Src.{Src}
use Rattle.v32_isa.specs.declared.instruction.Src.TheVariants as src
use Rattle.v32_isa.specs.declared.instruction.Mov.{Mov}
use Rattle.v32_isa.specs.declared.instruction.Mov.TheVariants.{RegImm, RegReg, RegAt, RegAtReg, RegAtOff, AtReg, AtRegReg, AtOffReg}
use Rattle.v32_isa.specs.declared.instruction.Instr.{Instr}
use Rattle.v32_isa.specs.declared.instruction.Instr.TheVariants as instr
use Rattle.v32_isa.specs.Decoding.{decoded}
use Rattle.asm_items.specs.declared.item.AsmItem.{AsmItem}
use Rattle.asm_items.specs.Items.{literal, instr_with, mov_with, src_with}
use Rattle.asm_items.specs.Disassembled.{disassembled, with_first, has_immediate}
use Rattle.asm_items.proofs.Spelled.{given_again}
use Rattle.assembler.specs.Labels.{address_in}
use Rattle.assembler.specs.Naming.{immediate, mov_immediate, src_immediate, named_in}
use Rattle.assembler.specs.Placed.{item_size, labels_of, Placed}
use Rattle.assembler.specs.Sizes.{total_size}
use Rattle.assembler.specs.Faults.{label_in, twice_from, unknown_from, past_from, fault_of}
use Rattle.assembler.proofs.Standing.{words_length}

-- items without labels
abbrev Plain : List AsmItem → Type 0
Plain [] = Unit {0}
Plain (item ∷ items) = (label_in item ≡ None) × (named_in item ≡ None) × Plain items

src_plain : (s : Src ℕ) → option_and_then right (src_immediate (src_with literal s)) ≡ None
src_plain (src.Imm i) = refl
src_plain (src.Reg b) = refl

mov_plain : (m : Mov ℕ) → option_and_then right (mov_immediate (mov_with literal m)) ≡ None
mov_plain (RegImm a i) = refl
mov_plain (RegReg a b) = refl
mov_plain (RegAt a i) = refl
mov_plain (RegAtReg a b) = refl
mov_plain (RegAtOff a b i) = refl
mov_plain (AtReg i b) = refl
mov_plain (AtRegReg a b) = refl
mov_plain (AtOffReg a i b) = refl

instr_plain : (i : Instr ℕ) → option_and_then right (immediate (instr_with literal i)) ≡ None
instr_plain (instr.Plain p) = refl
instr_plain (instr.Go g s) = src_plain s
instr_plain (instr.Branch b a s) = src_plain s
instr_plain (instr.Two t a s) = src_plain s
instr_plain (instr.One o a) = refl
instr_plain (instr.Mov m) = mov_plain m
instr_plain (instr.Lea a b None) = refl
instr_plain (instr.Lea a b (Some i)) = refl
instr_plain (instr.In a p) = refl
instr_plain (instr.Out p s) = src_plain s

either_plain : (one two : List AsmItem) (b : Bool) → Plain one → Plain two → Plain (cond b two one)
either_plain one two true h k = k
either_plain one two false h k = h

first_plain : (word : ℕ) (found : Option (Instr ℕ)) (one two : List AsmItem) → Plain one → Plain two → Plain (with_first word found one two)
first_plain word None one two h k = (refl, refl, h)
first_plain word (Some i) one two h k = (refl, instr_plain i, either_plain one two (has_immediate i) h k)

plain : (words : List ℕ) → Plain (disassembled words)
unfolding disassembled
plain [] = tt
plain (word ∷ []) = first_plain word (decoded word None) [] [] tt tt
plain (word ∷ next ∷ rest) = first_plain word (decoded word (Some next)) (disassembled (next ∷ rest)) (disassembled rest) (plain (next ∷ rest)) (plain rest)

none_twice : (items : List AsmItem) (number : ℕ) → Plain items → twice_from number [] items ≡ None
unfolding twice_from
none_twice [] number h = refl
none_twice (item ∷ items) number h = rw h.0 (none_twice items (number + 1) h.2)

none_unknown : (items : List AsmItem) (number : ℕ) (labels : List (List ℕ × ℕ)) → Plain items → unknown_from number labels items ≡ None
unfolding unknown_from
none_unknown [] number labels h = refl
none_unknown (item ∷ items) number labels h = rw h.1 (none_unknown items (number + 1) labels h.2)

none_past : (items : List AsmItem) (number words : ℕ) → words + total_size items ≤ 33554432 → past_from number words items ≡ None
unfolding past_from total_size
none_past [] number words room = refl
none_past (item ∷ items) number words room =
    let here : ltb 33554432 (words + item_size item) ≡ false = le-ltb 33554432 (words + item_size item) (omega (arith, room)) in
    rw here (none_past items (number + 1) (words + item_size item) (omega (arith, room)))

pub no_fault : (words : List ℕ) → length words ≤ 33554432 → fault_of (disassembled words) ≡ None
unfolding fault_of
no_fault words few =
    let size : length words ≡ total_size (disassembled words) = ap length (sym (given_again (λ name. 0) words)) ∙ words_length (λ name. 0) (disassembled words) in
    rw (none_twice (disassembled words) 1 (plain words), none_unknown (disassembled words) 1 (labels_of (disassembled words)) (plain words), none_past (disassembled words) 1 0 (omega (arith, size, few))) refl

pub same_words : (words again : List ℕ) (labels : List (List ℕ × ℕ)) → Placed (disassembled words) again labels → again ≡ words
same_words words again labels placed = placed.words_are ∙ given_again (address_in labels) words
