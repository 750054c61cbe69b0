-- The tokens of an item's text.
use Rattle.std.proofs.Common.{◌≡◌, ℕ, zero, suc, ◌<◌, ◌==◌, Bool, true, false, not, List, [], ◌∷◌, ◌++◌, codes, refl, sym, ap, subst, ◌∙◌, arith, append_assoc, append-nil, All, flat_map, Some}
use Rattle.std.specs.Char.{is_ascii_digit}
use Rattle.std.specs.List.{list_all}
use Rattle.std.proofs.lemmas.Bool.Decides.{nat_tests}
use Rattle.std.proofs.lemmas.List.Elements.{All-head, All-tail}
use Rattle.std.proofs.lemmas.List.Folds.{list_all-append}
use Rattle.either.specs.declared.Either.TheVariants.{Left, Right}
use Rattle.v32_isa.specs.declared.instruction.Plain.TheVariants.{HLT, WAIT, RET, MOVS, SETS}
use Rattle.v32_isa.specs.declared.instruction.Go.TheVariants.{JMP, CALL}
use Rattle.v32_isa.specs.declared.instruction.Branch.TheVariants.{JT, JF}
use Rattle.v32_isa.specs.declared.instruction.Two.TheVariants.{IEQ, INE, IGT, IGE, ILT, ILE, AND, OR, XOR, SHL, IADD, ISUB, IMUL, IDIV, IMOD, IMIN, IMAX}
use Rattle.v32_isa.specs.declared.instruction.One.TheVariants.{PUSH, POP, CMPS, CIB, NOT, BNOT, ISGN, IABS}
use Rattle.v32_isa.specs.declared.instruction.Instr.{Instr}
use Rattle.v32_isa.specs.declared.instruction.Instr.TheVariants as instr
use Rattle.asm_items.specs.declared.item.AsmItem.{AsmItem}
use Rattle.asm_items.specs.declared.item.AsmItem.TheVariants as item
use Rattle.asm_items.specs.declared.vocabulary.DataWord.TheVariants as d
use Rattle.asm_items.specs.declared.vocabulary.WordKind.{WordKind}
use Rattle.asm_items.specs.declared.vocabulary.WordKind.TheVariants as k
use Rattle.asm_items.specs.Items.{Imm}
use Rattle.asm_items.specs.Mnemonics.{mnemonic, register_name}
use Rattle.asm_items.specs.Operands.{Operand, Register, Immediate, AtRegister, AtImmediate, AtOffset, AtPort, operands}
use Rattle.asm_items.specs.Vocabulary.{is_letter, is_word_byte, is_word, is_label, is_label_word, is_spelled, vocabulary, word_kind}
use Rattle.asm_items.specs.Written.{number_text, imm_text, operand_text, operand_list, operation_text, item_text}
use Rattle.asm_reader.specs.declared.token.Token.{Token}
use Rattle.asm_reader.specs.declared.token.Token.TheVariants as t
use Rattle.asm_reader.specs.declared.value.Value.{Value}
use Rattle.asm_reader.specs.declared.value.Value.TheVariants.{Number, Label}
use Rattle.asm_reader.specs.Grammar.{is_free, operation_of, value_token}
use Rattle.asm_reader.specs.Readable.{IsName, IsValue, IsArgument, IsReadable}
use Rattle.asm_reader.specs.Reading.{is_newline}
use Rattle.asm_reader.specs.Tokens.{begins, is_blank, kind_token, mark_token, run_token, token_at, tokens_from, tokens_of}
use Rattle.asm_reader.proofs.DigitLaws.{IsRun, both, word_number, port_number}
use Rattle.asm_reader.proofs.TokenLaws.{both_true, blanks, runs, token_first, word_is_not}
use Rattle.asm_reader.proofs.WordLaws.{mnemonics_stand, registers_stand}

-- words

no_digit : (b : ℕ) → is_letter b ≡ true → is_ascii_digit b ≡ false
no_digit b h = grind (arith, nat_tests)

letter_within : (b : ℕ) → is_letter b ≡ true → is_word_byte b ≡ true
letter_within b h = rw h refl

word_run : (text : List ℕ) (kind : WordKind) → is_word text ≡ true → word_kind text ≡ kind → IsRun text (kind_token text kind)
unfolding run_token
word_run [] kind h is = absurd cc
word_run (b ∷ bs) kind h is =
    let parts = both_true (is_letter b) (list_all is_word_byte bs) h in
    record {
      some = omega arith;
      all = both (is_word_byte b) (list_all is_word_byte bs) (letter_within b parts.0) parts.1;
      read = rw (no_digit b parts.0) (ap (kind_token (b ∷ bs)) is);
    }

label_kind : (kind : WordKind) → is_label kind ≡ true → kind ≡ k.Label
label_kind k.Label h = refl
label_kind _ h = absurd cc

name_run : (name : List ℕ) → IsName name → IsRun name (t.Label name)
unfolding is_label_word
name_run name h =
    let parts = both_true (is_word name) (is_label (word_kind name)) h in
    word_run name k.Label parts.0 (label_kind (word_kind name) parts.1)

register_word : (r : ℕ) → r < 16 → is_word (register_name r) ≡ true
register_word zero below = refl
register_word (suc zero) below = refl
register_word (suc (suc zero)) below = refl
register_word (suc (suc (suc zero))) below = refl
register_word (suc (suc (suc (suc zero)))) below = refl
register_word (suc (suc (suc (suc (suc zero))))) below = refl
register_word (suc (suc (suc (suc (suc (suc zero)))))) below = refl
register_word (suc (suc (suc (suc (suc (suc (suc zero))))))) below = refl
register_word (suc (suc (suc (suc (suc (suc (suc (suc zero)))))))) below = refl
register_word (suc (suc (suc (suc (suc (suc (suc (suc (suc zero))))))))) below = refl
register_word (suc (suc (suc (suc (suc (suc (suc (suc (suc (suc zero)))))))))) below = refl
register_word (suc (suc (suc (suc (suc (suc (suc (suc (suc (suc (suc zero))))))))))) below = refl
register_word (suc (suc (suc (suc (suc (suc (suc (suc (suc (suc (suc (suc zero)))))))))))) below = refl
register_word (suc (suc (suc (suc (suc (suc (suc (suc (suc (suc (suc (suc (suc zero))))))))))))) below = refl
register_word (suc (suc (suc (suc (suc (suc (suc (suc (suc (suc (suc (suc (suc (suc zero)))))))))))))) below = refl
register_word (suc (suc (suc (suc (suc (suc (suc (suc (suc (suc (suc (suc (suc (suc (suc zero))))))))))))))) below = refl
register_word (suc (suc (suc (suc (suc (suc (suc (suc (suc (suc (suc (suc (suc (suc (suc (suc r)))))))))))))))) below = absurd (omega arith)

register_run : (r : ℕ) → r < 16 → IsRun (register_name r) (t.Register r)
register_run r below = word_run (register_name r) (k.Register r) (register_word r below) (registers_stand r below)

mnemonic_word : {I : Type 0} (i : Instr I) → is_word (mnemonic i) ≡ true
mnemonic_word (instr.Plain HLT) = refl
mnemonic_word (instr.Plain WAIT) = refl
mnemonic_word (instr.Plain RET) = refl
mnemonic_word (instr.Plain MOVS) = refl
mnemonic_word (instr.Plain SETS) = refl
mnemonic_word (instr.Go JMP src) = refl
mnemonic_word (instr.Go CALL src) = refl
mnemonic_word (instr.Branch JT a src) = refl
mnemonic_word (instr.Branch JF a src) = refl
mnemonic_word (instr.Two IEQ a src) = refl
mnemonic_word (instr.Two INE a src) = refl
mnemonic_word (instr.Two IGT a src) = refl
mnemonic_word (instr.Two IGE a src) = refl
mnemonic_word (instr.Two ILT a src) = refl
mnemonic_word (instr.Two ILE a src) = refl
mnemonic_word (instr.Two AND a src) = refl
mnemonic_word (instr.Two OR a src) = refl
mnemonic_word (instr.Two XOR a src) = refl
mnemonic_word (instr.Two SHL a src) = refl
mnemonic_word (instr.Two IADD a src) = refl
mnemonic_word (instr.Two ISUB a src) = refl
mnemonic_word (instr.Two IMUL a src) = refl
mnemonic_word (instr.Two IDIV a src) = refl
mnemonic_word (instr.Two IMOD a src) = refl
mnemonic_word (instr.Two IMIN a src) = refl
mnemonic_word (instr.Two IMAX a src) = refl
mnemonic_word (instr.One PUSH a) = refl
mnemonic_word (instr.One POP a) = refl
mnemonic_word (instr.One CMPS a) = refl
mnemonic_word (instr.One CIB a) = refl
mnemonic_word (instr.One NOT a) = refl
mnemonic_word (instr.One BNOT a) = refl
mnemonic_word (instr.One ISGN a) = refl
mnemonic_word (instr.One IABS a) = refl
mnemonic_word (instr.Mov m) = refl
mnemonic_word (instr.Lea a b i) = refl
mnemonic_word (instr.In a p) = refl
mnemonic_word (instr.Out p src) = refl

mnemonic_run : (i : Instr Imm) → IsRun (mnemonic i) (t.Operation (operation_of i))
mnemonic_run i = word_run (mnemonic i) (k.Operation (operation_of i)) (mnemonic_word i) (mnemonics_stand i)

-- a number, or a label
abbrev pub imm_value : Imm → Value
imm_value (Left n) = Number false (Some n)
imm_value (Right name) = Label name

imm_run : (i : Imm) → IsValue i → IsRun (imm_text i) (value_token (imm_value i))
imm_run (Left n) below = word_number n below
imm_run (Right name) h = name_run name h

-- The text has these tokens, whatever stands after it but a letter, a digit or `_`, and is of one line.
pub record Spells (text : List ℕ) (tokens : List Token) : Type 0 where
  pub free : is_free is_newline text ≡ true
  pub read : (rest : List ℕ) → begins is_word_byte rest ≡ false → tokens_of (text ++ rest) ≡ tokens ++ tokens_of rest

nothing : Spells [] []
nothing = record { free = refl; read = λ rest ends. refl }

before_blank : (text : List ℕ) (tokens : List Token) → Spells text tokens → Spells (32 ∷ text) tokens
before_blank text tokens s = record { free = s.free; read = λ rest ends. blanks 32 (text ++ rest) refl ∙ s.read rest ends }

-- a byte that is a token by itself
record IsMark (b : ℕ) (token : Token) : Type 0 where
  no_newline : is_newline b ≡ false
  no_blank : is_blank b ≡ false
  no_comment : (b == 59) ≡ false
  at : (bs : List ℕ) → token_at (b ∷ bs) ≡ (token, 0)

colon : IsMark 58 t.Colon
unfolding token_at mark_token
colon = record { no_newline = refl; no_blank = refl; no_comment = refl; at = λ bs. refl }

comma : IsMark 44 t.Comma
unfolding token_at mark_token
comma = record { no_newline = refl; no_blank = refl; no_comment = refl; at = λ bs. refl }

open_mark : IsMark 91 t.Open
unfolding token_at mark_token
open_mark = record { no_newline = refl; no_blank = refl; no_comment = refl; at = λ bs. refl }

close_mark : IsMark 93 t.Close
unfolding token_at mark_token
close_mark = record { no_newline = refl; no_blank = refl; no_comment = refl; at = λ bs. refl }

plus : IsMark 43 t.Plus
unfolding token_at mark_token
plus = record { no_newline = refl; no_blank = refl; no_comment = refl; at = λ bs. refl }

not_true : (b : Bool) → b ≡ false → not b ≡ true
not_true b h = rw h refl

before_mark : (b : ℕ) (token : Token) (text : List ℕ) (tokens : List Token) → IsMark b token → Spells text tokens → Spells (b ∷ text) (token ∷ tokens)
before_mark b token text tokens m s = record {
  free = both (not (is_newline b)) (is_free is_newline text) (not_true (is_newline b) m.no_newline) s.free;
  read = λ rest ends.
      token_first b 0 (text ++ rest) (text ++ rest) token m.no_blank m.no_comment (m.at (text ++ rest)) refl
      ∙ ap (λ (ts : List Token). token ∷ ts) (s.read rest ends);
}

run_free : (run : List ℕ) → list_all is_word_byte run ≡ true → is_free is_newline run ≡ true
run_free [] all = refl
run_free (b ∷ bs) all =
    let parts = both_true (is_word_byte b) (list_all is_word_byte bs) all in
    both (not (is_newline b)) (is_free is_newline bs) (not_true (is_newline b) (word_is_not 10 b refl parts.0)) (run_free bs parts.1)

joined_begins : (text rest : List ℕ) → begins is_word_byte text ≡ false → begins is_word_byte rest ≡ false → begins is_word_byte (text ++ rest) ≡ false
joined_begins [] rest one two = two
joined_begins (b ∷ bs) rest one two = one

joined_free : (a b : List ℕ) → is_free is_newline a ≡ true → is_free is_newline b ≡ true → is_free is_newline (a ++ b) ≡ true
joined_free a b h k = list_all-append (λ x. not (is_newline x)) a b ∙ both (is_free is_newline a) (is_free is_newline b) h k

before_run : (run text : List ℕ) (token : Token) (tokens : List Token) → IsRun run token → begins is_word_byte text ≡ false → Spells text tokens → Spells (run ++ text) (token ∷ tokens)
before_run run text token tokens r ended s = record {
  free = joined_free run text (run_free run r.all) s.free;
  read = λ rest ends.
      ap tokens_of (append_assoc run text rest)
      ∙ runs run (text ++ rest) r.some r.all (joined_begins text rest ended ends)
      ∙ ap (λ (x : Token). x ∷ tokens_of (text ++ rest)) r.read
      ∙ ap (λ (ts : List Token). token ∷ ts) (s.read rest ends);
}

last_run : (run : List ℕ) (token : Token) → IsRun run token → Spells run (token ∷ [])
last_run run token r =
    let P : List ℕ → Type 0 = λ text. Spells text (token ∷ []) in
    subst P (append-nil run) (before_run run [] token [] r refl nothing)

-- operands

abbrev pub operand_tokens : Operand → List Token
operand_tokens (Register a) = t.Register a ∷ []
operand_tokens (Immediate i) = value_token (imm_value i) ∷ []
operand_tokens (AtRegister b) = t.Open ∷ t.Register b ∷ t.Close ∷ []
operand_tokens (AtImmediate i) = t.Open ∷ value_token (imm_value i) ∷ t.Close ∷ []
operand_tokens (AtOffset b i) = t.Open ∷ t.Register b ∷ t.Plus ∷ value_token (imm_value i) ∷ t.Close ∷ []
operand_tokens (AtPort p) = t.Number false (Some p) ∷ []

-- between brackets
enclosed : (run text : List ℕ) (token : Token) (tokens : List Token) → IsRun run token → Spells text tokens → Spells ((91 ∷ (run ++ 93 ∷ [])) ++ text) (t.Open ∷ token ∷ t.Close ∷ tokens)
enclosed run text token tokens r s =
    let P : List ℕ → Type 0 = λ x. Spells (91 ∷ x) (t.Open ∷ token ∷ t.Close ∷ tokens) in
    subst P (sym (append_assoc run (93 ∷ []) text))
    (before_mark 91 t.Open _ _ open_mark (before_run run (93 ∷ text) token (t.Close ∷ tokens) r refl (before_mark 93 t.Close text tokens close_mark s)))

regrouped : (a b text : List ℕ) → (((a ++ 43 ∷ []) ++ b) ++ 93 ∷ []) ++ text ≡ a ++ 43 ∷ (b ++ 93 ∷ text)
regrouped a b text = simp append_assoc

enclosed_sum : (a b text : List ℕ) (one two : Token) (tokens : List Token) → IsRun a one → IsRun b two → Spells text tokens →
    Spells ((91 ∷ (((a ++ 43 ∷ []) ++ b) ++ 93 ∷ [])) ++ text) (t.Open ∷ one ∷ t.Plus ∷ two ∷ t.Close ∷ tokens)
enclosed_sum a b text one two tokens r q s =
    let P : List ℕ → Type 0 = λ x. Spells (91 ∷ x) (t.Open ∷ one ∷ t.Plus ∷ two ∷ t.Close ∷ tokens) in
    let inner : Spells (b ++ 93 ∷ text) (two ∷ t.Close ∷ tokens) = before_run b (93 ∷ text) two (t.Close ∷ tokens) q refl (before_mark 93 t.Close text tokens close_mark s) in
    subst P (sym (regrouped a b text))
    (before_mark 91 t.Open _ _ open_mark (before_run a (43 ∷ (b ++ 93 ∷ text)) one (t.Plus ∷ two ∷ t.Close ∷ tokens) r refl (before_mark 43 t.Plus _ _ plus inner)))

before_operand : (o : Operand) (text : List ℕ) (tokens : List Token) → IsArgument o → begins is_word_byte text ≡ false → Spells text tokens → Spells (operand_text o ++ text) (operand_tokens o ++ tokens)
before_operand (Register a) text tokens h ended s = before_run _ text _ tokens (register_run a h) ended s
before_operand (Immediate i) text tokens h ended s = before_run _ text _ tokens (imm_run i h) ended s
before_operand (AtRegister b) text tokens h ended s = enclosed _ text _ tokens (register_run b h) s
before_operand (AtImmediate i) text tokens h ended s = enclosed _ text _ tokens (imm_run i h) s
before_operand (AtOffset b i) text tokens h ended s = enclosed_sum _ _ text _ _ tokens (register_run b h.0) (imm_run i h.1) s
before_operand (AtPort p) text tokens h ended s = before_run _ text _ tokens (port_number p h) ended s

abbrev further_text : List Operand → List ℕ
further_text os = flat_map (λ x. codes ", " ++ operand_text x) os

abbrev pub further_tokens : List Operand → List Token
further_tokens [] = []
further_tokens (o ∷ os) = t.Comma ∷ (operand_tokens o ++ further_tokens os)

abbrev pub list_tokens : List Operand → List Token
list_tokens [] = []
list_tokens (o ∷ os) = operand_tokens o ++ further_tokens os

further_begins : (os : List Operand) → begins is_word_byte (further_text os) ≡ false
further_begins [] = refl
further_begins (o ∷ os) = refl

list_begins : (os : List Operand) → begins is_word_byte (operand_list os) ≡ false
list_begins [] = refl
list_begins (o ∷ os) = refl

further_spelled : (os : List Operand) → All IsArgument os → Spells (further_text os) (further_tokens os)
further_spelled [] h = nothing
further_spelled (o ∷ os) h =
    before_mark 44 t.Comma _ _ comma (before_blank _ _ (before_operand o (further_text os) (further_tokens os) (All-head IsArgument o os h) (further_begins os)
    (further_spelled os (All-tail IsArgument o os h))))

list_spelled : (os : List Operand) → All IsArgument os → Spells (operand_list os) (list_tokens os)
list_spelled [] h = nothing
list_spelled (o ∷ os) h =
    before_blank _ _ (before_operand o (further_text os) (further_tokens os) (All-head IsArgument o os h) (further_begins os)
    (further_spelled os (All-tail IsArgument o os h)))

operation_spelled : (i : Instr Imm) → All IsArgument (operands i) → Spells (operation_text i) (t.Operation (operation_of i) ∷ list_tokens (operands i))
unfolding operation_text
operation_spelled i h = before_run (mnemonic i) (operand_list (operands i)) _ _ (mnemonic_run i) (list_begins (operands i)) (list_spelled (operands i) h)

-- items

abbrev pub item_tokens : AsmItem → List Token
item_tokens (item.Label name) = t.Label name ∷ t.Colon ∷ []
item_tokens (item.Op i) = t.Operation (operation_of i) ∷ list_tokens (operands i)
item_tokens (item.Integer w) = t.Data d.Integers ∷ t.Number false (Some w) ∷ []
item_tokens (item.Pointer name) = t.Data d.Pointers ∷ t.Label name ∷ []

integer_run : IsRun (codes "integer") (t.Data d.Integers)
unfolding word_kind vocabulary is_spelled
integer_run = word_run (codes "integer") (k.Data d.Integers) refl refl

pointer_run : IsRun (codes "pointer") (t.Data d.Pointers)
unfolding word_kind vocabulary is_spelled
pointer_run = word_run (codes "pointer") (k.Data d.Pointers) refl refl

item_spelled : (x : AsmItem) → IsReadable x → Spells (item_text x) (item_tokens x)
item_spelled (item.Label name) h = before_run name (58 ∷ []) _ _ (name_run name h) refl (before_mark 58 t.Colon [] [] colon nothing)
item_spelled (item.Op i) h = operation_spelled i h
item_spelled (item.Integer w) h = before_run (codes "integer") (32 ∷ number_text w) _ _ integer_run refl (before_blank _ _ (last_run _ _ (word_number w h)))
item_spelled (item.Pointer name) h = before_run (codes "pointer") (32 ∷ name) _ _ pointer_run refl (before_blank _ _ (last_run _ _ (name_run name h)))

pub one_line : (x : AsmItem) → IsReadable x → is_free is_newline (item_text x) ≡ true
one_line x h = (item_spelled x h).free

pub item_tokens_are : (x : AsmItem) → IsReadable x → tokens_of (item_text x) ≡ item_tokens x
unfolding tokens_of tokens_from
item_tokens_are x h = ap tokens_of (sym (append-nil (item_text x))) ∙ (item_spelled x h).read [] refl ∙ append-nil (item_tokens x)
