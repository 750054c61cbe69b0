-- Words that are taken apart, written, read and assembled again.
use Rattle.std.proofs.Common.{◌≡◌, ℕ, ◌^◌, ◌<◌, ◌≤◌, Bool, true, false, cond, All, List, [], ◌∷◌, ◌++◌, length, refl, sym, ap, subst, ◌∙◌}
use Rattle.std.specs.Prelude.{Option, Some, None, Ok, option_to_list}
use Rattle.std.proofs.lemmas.List.Elements.{All-nil, All-cons, All-head, All-tail}
use Rattle.v32_isa.specs.declared.instruction.Src.TheVariants as src
use Rattle.v32_isa.specs.declared.instruction.Mov.TheVariants.{RegImm, RegReg, RegAt, RegAtReg, RegAtOff, AtReg, AtRegReg, AtOffReg}
use Rattle.v32_isa.specs.declared.instruction.Instr.{Instr}
use Rattle.v32_isa.specs.declared.instruction.Instr.TheVariants as instr
use Rattle.v32_isa.specs.Table.{Fits, row_of}
use Rattle.v32_isa.specs.Decoding.{decoded}
use Rattle.v32_isa.proofs.Decoded.{decoded-begins}
use Rattle.asm_items.specs.declared.item.AsmItem.{AsmItem}
use Rattle.asm_items.specs.declared.item.AsmItem.TheVariants as item
use Rattle.asm_items.specs.Items.{literal, instr_with}
use Rattle.asm_items.specs.Operands.{Operand, operands}
use Rattle.asm_items.specs.Disassembled.{disassembled, with_first, has_immediate}
use Rattle.asm_items.specs.Written.{written}
use Rattle.asm_reader.specs.Readable.{IsArgument, IsReadable, AreReadable}
use Rattle.asm_reader.specs.Reading.{Text, read}
use Rattle.asm_reader.proofs.AgainLaws.{written_again}
use Rattle.asm_items.proofs.Spelled.{given_again}
use Rattle.assembler.specs.Faults.{fault_of}
use Rattle.assembler.specs.Labels.{address_in}
use Rattle.assembler.specs.Placed.{labels_of, Placed}
use Rattle.assembler.proofs.Again.{no_fault}

abbrev IsWord : ℕ → Type 0
IsWord w = w < 2 ^ 32

one : (x : Operand) → IsArgument x → All IsArgument (x ∷ [])
one x h = All-cons IsArgument x [] h (All-nil IsArgument)

two : (x y : Operand) → IsArgument x → IsArgument y → All IsArgument (x ∷ y ∷ [])
two x y h k = All-cons IsArgument x (y ∷ []) h (one y k)

-- the operands of an instruction whose fields fit, and whose immediate is a word
arguments : (i : Instr ℕ) → Fits i → ((w : ℕ) → (row_of i).immediate ≡ Some w → IsWord w) → All IsArgument (operands (instr_with literal i))
arguments (instr.Plain p) f n = All-nil IsArgument
arguments (instr.Go g (src.Imm i)) f n = one _ (n i refl)
arguments (instr.Go g (src.Reg b)) f n = one _ f.0
arguments (instr.Branch b a (src.Imm i)) f n = two _ _ f.0 (n i refl)
arguments (instr.Branch b a (src.Reg r)) f n = two _ _ f.0 f.1
arguments (instr.Two t a (src.Imm i)) f n = two _ _ f.0 (n i refl)
arguments (instr.Two t a (src.Reg b)) f n = two _ _ f.0 f.1
arguments (instr.One o a) f n = one _ f.0
arguments (instr.Mov (RegImm a i)) f n = two _ _ f.0 (n i refl)
arguments (instr.Mov (RegReg a b)) f n = two _ _ f.0 f.1
arguments (instr.Mov (RegAt a i)) f n = two _ _ f.0 (n i refl)
arguments (instr.Mov (RegAtReg a b)) f n = two _ _ f.0 f.1
arguments (instr.Mov (RegAtOff a b i)) f n = two _ _ f.0 (f.1, n i refl)
arguments (instr.Mov (AtReg i b)) f n = two _ _ (n i refl) f.1
arguments (instr.Mov (AtRegReg a b)) f n = two _ _ f.0 f.1
arguments (instr.Mov (AtOffReg a i b)) f n = two _ _ (f.0, n i refl) f.1
arguments (instr.Lea a b None) f n = two _ _ f.0 f.1
arguments (instr.Lea a b (Some i)) f n = two _ _ f.0 (f.1, n i refl)
arguments (instr.In a p) f n = two _ _ f.0 f.2
arguments (instr.Out p (src.Imm i)) f n = two _ _ f.2 (n i refl)
arguments (instr.Out p (src.Reg a)) f n = two _ _ f.2 f.0

-- the immediate is the word after the first
second_word : (first word : ℕ) (second immediate : Option ℕ) (rest : List ℕ) → word ∷ option_to_list second ≡ (first ∷ option_to_list immediate) ++ rest →
    ((w : ℕ) → second ≡ Some w → IsWord w) → (w : ℕ) → immediate ≡ Some w → IsWord w
second_word first word None None rest e small w is = absurd cc
second_word first word (Some s) None rest e small w is = absurd cc
second_word first word None (Some j) rest e small w is = absurd cc
second_word first word (Some s) (Some j) rest e small w is = let same : s ≡ w = cc in small w (ap Some same)

decoded_arguments : (word : ℕ) (second : Option ℕ) (i : Instr ℕ) → decoded word second ≡ Some i → ((w : ℕ) → second ≡ Some w → IsWord w) → All IsArgument (operands (instr_with literal i))
decoded_arguments word second i e small =
    let begins = decoded-begins word second i e in
    arguments i begins.0 (second_word _ word second (row_of i).immediate begins.1.0 begins.1.1 small)

either_readable : (a b : List AsmItem) (c : Bool) → AreReadable a → AreReadable b → AreReadable (cond c b a)
either_readable a b true h k = k
either_readable a b false h k = h

first_readable : (word : ℕ) (second : Option ℕ) (found : Option (Instr ℕ)) (a b : List AsmItem) → decoded word second ≡ found → IsWord word → ((w : ℕ) → second ≡ Some w → IsWord w) →
    AreReadable a → AreReadable b → AreReadable (with_first word found a b)
first_readable word second None a b e first small h k = All-cons IsReadable (item.Integer word) a first h
first_readable word second (Some i) a b e first small h k =
    All-cons IsReadable (item.Op (instr_with literal i)) _ (decoded_arguments word second i e small) (either_readable a b (has_immediate i) h k)

no_word : (w : ℕ) → (let o : Option ℕ = None in o ≡ Some w) → IsWord w
no_word w e = absurd cc

that_word : (next : ℕ) → IsWord next → (w : ℕ) → Some next ≡ Some w → IsWord w
that_word next small w e = let same : next ≡ w = cc in subst IsWord same small

readable : (words : List ℕ) → All IsWord words → AreReadable (disassembled words)
unfolding disassembled
readable [] h = All-nil IsReadable
readable (word ∷ []) h = first_readable word None (decoded word None) [] [] refl (All-head IsWord word [] h) no_word (All-nil IsReadable) (All-nil IsReadable)
readable (word ∷ next ∷ rest) h =
    let after = All-tail IsWord word (next ∷ rest) h in
    first_readable word (Some next) (decoded word (Some next)) (disassembled (next ∷ rest)) (disassembled rest) refl (All-head IsWord word (next ∷ rest) h)
    (that_word next (All-head IsWord next rest after)) (readable (next ∷ rest) after) (readable rest (All-tail IsWord next rest after))

pub reads_again : (words : List ℕ) → All IsWord words → read (written (disassembled words)) ≡ Ok (disassembled words)
reads_again words h = written_again (disassembled words) (readable words h)

ok_items : (a b : List AsmItem) → (let r : Text = Ok a in r ≡ Ok b) → a ≡ b
ok_items a b h = cc

pub assembles_again : (words : List ℕ) (items : List AsmItem) → All IsWord words → length words ≤ 33554432 → read (written (disassembled words)) ≡ Ok items →
    (fault_of items ≡ None) × Placed items words (labels_of items)
assembles_again words items h few is =
    let P : List AsmItem → Type 0 = λ xs. (fault_of xs ≡ None) × Placed xs words (labels_of xs) in
    let placed : Placed (disassembled words) words (labels_of (disassembled words)) = record {
      labels_are = refl;
      words_are = sym (given_again (address_in (labels_of (disassembled words))) words);
    } in
    subst P (ok_items (disassembled words) items (sym (reads_again words h) ∙ is)) (no_fault words few, placed)
