-- The text of items reads as those items.
use Rattle.std.proofs.Common.{◌≡◌, ℕ, ◌+◌, ◌<◌, true, false, List, [], ◌∷◌, ◌++◌, map, refl, ap, ◌∙◌, append_assoc, append-nil, lt-ltb, All, Some, Ok, Result}
use Rattle.std.proofs.lemmas.List.Elements.{All-head, All-tail}
use Rattle.either.specs.declared.Either.TheVariants.{Left, Right}
use Rattle.v32_isa.specs.declared.instruction.Instr.{Instr}
use Rattle.asm_items.specs.declared.item.AsmItem.{AsmItem}
use Rattle.asm_items.specs.declared.item.AsmItem.TheVariants as item
use Rattle.asm_items.specs.Items.{Imm}
use Rattle.asm_items.specs.Operands.{Operand, Register, Immediate, AtRegister, AtImmediate, AtOffset, AtPort, operands}
use Rattle.asm_items.specs.Written.{item_text, written}
use Rattle.asm_items.specs.declared.vocabulary.Operation.{Operation}
use Rattle.asm_reader.specs.declared.fault.LineFault.{LineFault}
use Rattle.asm_reader.specs.declared.token.Token.{Token}
use Rattle.asm_reader.specs.declared.token.Token.TheVariants as t
use Rattle.asm_reader.specs.declared.value.Value.TheVariants.{Number}
use Rattle.asm_reader.specs.declared.value.Written.{Written}
use Rattle.asm_reader.specs.declared.value.Written.TheVariants as w
use Rattle.asm_reader.specs.Forms.{immediate, port_of, word_of, judged, instruction}
use Rattle.asm_reader.specs.Grammar.{is_free, operation_of, Writes, WritesAll}
use Rattle.asm_reader.specs.Lines.{integers, pointers, data_items, statement_items, has_label, label_items, begins_float, parts_items, line_items}
use Rattle.asm_reader.specs.Operands.{is_comma, plain, inside_one, inside_three, bracketed, operand, operands_in, operands_of}
use Rattle.asm_reader.specs.Parted.{parted}
use Rattle.asm_reader.specs.Readable.{IsArgument, IsReadable, AreReadable}
use Rattle.asm_reader.specs.Reading.{is_newline, Text, at_line, read_from, read}
use Rattle.asm_reader.specs.Tokens.{tokens_from, tokens_of}
use Rattle.asm_reader.proofs.FormLaws.{found_at}
use Rattle.asm_reader.proofs.PartLaws.{part_ends, part_last}
use Rattle.asm_reader.proofs.SpellingLaws.{imm_value, operand_tokens, further_tokens, list_tokens, item_tokens, one_line, item_tokens_are}

abbrev written_as : Operand → Written
written_as (Register a) = w.Register a
written_as (Immediate i) = w.Value (imm_value i)
written_as (AtRegister b) = w.AtRegister b
written_as (AtImmediate i) = w.AtValue (imm_value i)
written_as (AtOffset b i) = w.AtOffset b (imm_value i)
written_as (AtPort p) = w.Value (Number false (Some p))

operand_again : (o : Operand) → operand (operand_tokens o) ≡ Ok (written_as o)
unfolding operand plain bracketed inside_one inside_three
operand_again (Register a) = refl
operand_again (Immediate (Left n)) = refl
operand_again (Immediate (Right name)) = refl
operand_again (AtRegister b) = refl
operand_again (AtImmediate (Left n)) = refl
operand_again (AtImmediate (Right name)) = refl
operand_again (AtOffset b (Left n)) = refl
operand_again (AtOffset b (Right name)) = refl
operand_again (AtPort p) = refl

without_comma : (o : Operand) → is_free is_comma (operand_tokens o) ≡ true
without_comma (Register a) = refl
without_comma (Immediate (Left n)) = refl
without_comma (Immediate (Right name)) = refl
without_comma (AtRegister b) = refl
without_comma (AtImmediate (Left n)) = refl
without_comma (AtImmediate (Right name)) = refl
without_comma (AtOffset b (Left n)) = refl
without_comma (AtOffset b (Right name)) = refl
without_comma (AtPort p) = refl

parts_are : (o : Operand) (os : List Operand) → parted is_comma (operand_tokens o ++ further_tokens os) ≡ operand_tokens o ∷ map operand_tokens os
parts_are o [] = ap (parted is_comma) (append-nil (operand_tokens o)) ∙ part_last is_comma (operand_tokens o) (without_comma o)
parts_are o (p ∷ os) =
    part_ends is_comma t.Comma (operand_tokens o) (operand_tokens p ++ further_tokens os) refl (without_comma o)
    ∙ ap (λ (parts : List (List Token)). operand_tokens o ∷ parts) (parts_are p os)

each_again : (os : List Operand) → operands_in (map operand_tokens os) ≡ Ok (map written_as os)
unfolding operands_in
each_again [] = refl
each_again (o ∷ os) = rw (operand_again o, each_again os) refl

some_operands : (o : Operand) (more : List Token) → operands_of (operand_tokens o ++ more) ≡ operands_in (parted is_comma (operand_tokens o ++ more))
unfolding operands_of
some_operands (Register a) more = refl
some_operands (Immediate i) more = refl
some_operands (AtRegister b) more = refl
some_operands (AtImmediate i) more = refl
some_operands (AtOffset b i) more = refl
some_operands (AtPort p) more = refl

operands_again : (os : List Operand) → operands_of (list_tokens os) ≡ Ok (map written_as os)
unfolding operands_of
operands_again [] = refl
operands_again (o ∷ os) = some_operands o (further_tokens os) ∙ ap operands_in (parts_are o os) ∙ each_again (o ∷ os)

immediate_again : (i : Imm) → immediate (imm_value i) ≡ Ok i
unfolding immediate word_of
immediate_again (Left n) = refl
immediate_again (Right name) = refl

within_ports : (p : ℕ) → p < 16384 → port_of false (Some p) ≡ Some p
unfolding port_of
within_ports p below = rw (lt-ltb p 16384 below) refl

writes : (o : Operand) → IsArgument o → Writes (written_as o) o
writes (Register a) h = refl
writes (Immediate i) h = immediate_again i
writes (AtRegister b) h = refl
writes (AtImmediate i) h = immediate_again i
writes (AtOffset b i) h = (refl, immediate_again i)
writes (AtPort p) h = within_ports p h

writes_all : (os : List Operand) → All IsArgument os → WritesAll (map written_as os) os
writes_all [] h = tt
writes_all (o ∷ os) h = (writes o (All-head IsArgument o os h), writes_all os (All-tail IsArgument o os h))

instruction_again : (i : Instr Imm) → All IsArgument (operands i) → instruction (operation_of i) (map written_as (operands i)) ≡ Ok i
unfolding instruction
instruction_again i h = ap (judged (map written_as (operands i))) (found_at i (map written_as (operands i)) (writes_all (operands i) h))

no_label : (operation : Operation) (os : List Operand) → has_label (t.Operation operation ∷ list_tokens os) ≡ false
unfolding has_label
no_label operation [] = refl
no_label operation (Register a ∷ os) = refl
no_label operation (Immediate (Left n) ∷ os) = refl
no_label operation (Immediate (Right name) ∷ os) = refl
no_label operation (AtRegister b ∷ os) = refl
no_label operation (AtImmediate i ∷ os) = refl
no_label operation (AtOffset b i ∷ os) = refl
no_label operation (AtPort p ∷ os) = refl

statement_again : (i : Instr Imm) → All IsArgument (operands i) → statement_items (t.Operation (operation_of i) ∷ list_tokens (operands i)) ≡ Ok (item.Op i ∷ [])
unfolding statement_items
statement_again i h = rw (operands_again (operands i), instruction_again i h) refl

operation_again : (i : Instr Imm) → All IsArgument (operands i) → line_items (t.Operation (operation_of i) ∷ list_tokens (operands i)) ≡ Ok (item.Op i ∷ [])
unfolding line_items parts_items begins_float
operation_again i h = rw (no_label (operation_of i) (operands i), statement_again i h) refl

line_again : (x : AsmItem) → IsReadable x → line_items (item_tokens x) ≡ Ok (x ∷ [])
unfolding line_items parts_items begins_float has_label label_items statement_items data_items integers pointers word_of operands_of operands_in operand plain parted
line_again (item.Label name) h = refl
line_again (item.Op i) h = operation_again i h
line_again (item.Integer n) h = refl
line_again (item.Pointer name) h = refl

text_again : (x : AsmItem) → IsReadable x → line_items (tokens_of (item_text x)) ≡ Ok (x ∷ [])
text_again x h = ap line_items (item_tokens_are x h) ∙ line_again x h

lines_are : (x : AsmItem) (items : List AsmItem) → IsReadable x → parted is_newline (written (x ∷ items)) ≡ item_text x ∷ parted is_newline (written items)
lines_are x items h =
    ap (parted is_newline) (append_assoc (item_text x) (10 ∷ []) (written items))
    ∙ part_ends is_newline 10 (item_text x) (written items) refl (one_line x h)

lines_again : (number : ℕ) (items : List AsmItem) → AreReadable items → read_from number (parted is_newline (written items)) ≡ Ok items
unfolding read_from parted tokens_of tokens_from line_items parts_items begins_float has_label statement_items
lines_again number [] h = refl
lines_again number (x ∷ items) h =
    ap (read_from number) (lines_are x items (All-head IsReadable x items h))
    ∙ ap (λ (r : Result (List AsmItem) LineFault). at_line number r (read_from (number + 1) (parted is_newline (written items)))) (text_again x (All-head IsReadable x items h))
    ∙ ap (λ (r : Text). at_line number (Ok (x ∷ [])) r) (lines_again (number + 1) items (All-tail IsReadable x items h))

pub written_again : (items : List AsmItem) → AreReadable items → read (written items) ≡ Ok items
unfolding read
written_again items h = lines_again 1 items h
