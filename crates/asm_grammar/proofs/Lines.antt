-- The items of a line are those that its tokens are.
use Rattle.std.proofs.Common.{◌≡◌, ℕ, suc, ◌<◌, Bool, true, false, cond, ◌&&◌, List, [], ◌∷◌, ◌++◌, length, map, refl, sym, ap, subst, ◌∙◌, arith, inl, inr, lt-ltb, ltb}
use Rattle.std.specs.Prelude.{Option, Some, None, is_some, Result, Ok, Err}
use Rattle.std.specs.List.{list_all, AllZip}
use Rattle.v32_isa.specs.declared.instruction.Instr.{Instr}
use Rattle.asm_items.specs.Items.{Imm}
use Rattle.asm_items.specs.declared.item.AsmItem.{AsmItem}
use Rattle.asm_items.specs.declared.item.AsmItem.TheVariants as item
use Rattle.asm_items.specs.declared.vocabulary.Operation.{Operation}
use Rattle.asm_items.specs.declared.vocabulary.DataWord.{DataWord}
use Rattle.asm_items.specs.declared.vocabulary.DataWord.TheVariants as d
use Rattle.asm_reader.specs.declared.fault.LineFault.{LineFault}
use Rattle.asm_reader.specs.declared.fault.LineFault.TheVariants.{BadLine, FloatInstruction, NumberTooLarge, NoSuchForm}
use Rattle.asm_reader.specs.declared.token.Token.{Token}
use Rattle.asm_reader.specs.declared.token.Token.TheVariants as t
use Rattle.asm_reader.specs.declared.value.Value.TheVariants.{Number, Label}
use Rattle.asm_reader.specs.declared.value.Written.{Written}
use Rattle.asm_reader.specs.declared.value.Written.TheVariants as w
use Rattle.asm_reader.specs.Faults.{◌>>=◌}
use Rattle.asm_reader.specs.Forms.{fits_some, formed, instruction, judged, word_of}
use Rattle.asm_reader.specs.Grammar.{IsForm, IsOperand}
use Rattle.asm_reader.specs.Lines.{is_number, word_or_zero, integer_of, integers as integers_of, is_name, pointer_of, pointers as pointers_of, text_items, data_items, instruction_of, statement_items, is_colon, has_label, label_items, begins_float, both, parts_items, line_items}
use Rattle.asm_reader.specs.Operands.{is_comma, plain, operand, operands_in, operands_of}
use Rattle.asm_reader.specs.Parted.{parted, with_first}
use Rattle.asm_reader.proofs.FormLaws.{bind_ok, ok_is, forms_both_ways}
use Rattle.asm_reader.proofs.OperandLaws.{operands_both_ways}
use Rattle.asm_reader.proofs.PartLaws.{operands_apart_both_ways}
use Rattle.asm_reader.proofs.TokenLaws.{both_true}
use Rattle.asm_grammar.specs.Statements.{AreParted, AreOperands, none, some, IsWordOf, IsNameOf, IsStatement, nothing, operation, integers, pointers, text, IsLine, alone, labelled}

-- ---- operands

each_is : (parts : List (List Token)) (xs : List Written) → operands_in parts ≡ Ok xs → AllZip IsOperand parts xs
unfolding operands_in
each_is [] xs e = let P : List Written → Type 0 = λ ys. AllZip IsOperand [] ys in subst P (ok_is e) tt
each_is (part ∷ parts) xs e =
    let b = bind_ok (operand part) (λ (first : Written). operands_in parts >>= λ (others : List Written). Ok (first ∷ others)) xs e in
    let c = bind_ok (operands_in parts) (λ (others : List Written). Ok (b.value ∷ others)) xs b.rest in
    let P : List Written → Type 0 = λ ys. AllZip IsOperand (part ∷ parts) ys in
    subst P (ok_is c.rest) ((operands_both_ways part b.value).0 b.first, each_is parts c.value c.first)

each_read : (parts : List (List Token)) (xs : List Written) → AllZip IsOperand parts xs → operands_in parts ≡ Ok xs
unfolding operands_in
each_read [] [] h = refl
each_read [] (x ∷ xs) h = absurd h
each_read (part ∷ parts) [] h = absurd h
each_read (part ∷ parts) (x ∷ xs) h = rw ((operands_both_ways part x).1 h.0, each_read parts xs h.1) refl

pub operands_are : (tokens : List Token) (xs : List Written) → operands_of tokens ≡ Ok xs → AreOperands tokens xs
unfolding operands_of
operands_are [] xs e = none refl (sym (ok_is e))
operands_are (x ∷ more) xs e = some (record {
  parts = parted is_comma (x ∷ more);
  parted = (operands_apart_both_ways (x ∷ more) (parted is_comma (x ∷ more))).0 refl;
  each = each_is (parted is_comma (x ∷ more)) xs e;
})

no_operand : (x : Written) → IsOperand [] x → ⊥
no_operand (w.Register a) h = absurd cc
no_operand (w.Port p) h = absurd cc
no_operand (w.Value v) h = absurd cc
no_operand (w.AtRegister b) h = absurd cc
no_operand (w.AtValue v) h = absurd cc
no_operand (w.AtOffset b (Number s m)) (inl h) = absurd cc
no_operand (w.AtOffset b (Number s m)) (inr (inl h)) = absurd cc
no_operand (w.AtOffset b (Number s m)) (inr (inr h)) = let e = h.1 in absurd cc
no_operand (w.AtOffset b (Label n)) (inl h) = absurd cc
no_operand (w.AtOffset b (Label n)) (inr h) = h

no_parts : (parts : List (List Token)) (xs : List Written) → parts ≡ [] ∷ [] → AllZip IsOperand parts xs → ⊥
no_parts parts [] e h = let P : List (List Token) → Type 0 = λ ps. AllZip IsOperand ps [] in subst P e h
no_parts parts (x ∷ xs) e h = let P : List (List Token) → Type 0 = λ ps. AllZip IsOperand ps (x ∷ xs) in no_operand x ((subst P e h).0)

pub parted_read : (tokens : List Token) (xs : List Written) → AreParted tokens xs → operands_of tokens ≡ Ok xs
unfolding operands_of parted
parted_read [] xs h = absurd (no_parts h.parts xs (sym ((operands_apart_both_ways [] h.parts).1 h.parted)) h.each)
parted_read (x ∷ more) xs h = ap operands_in ((operands_apart_both_ways (x ∷ more) h.parts).1 h.parted) ∙ each_read h.parts xs h.each

none_read : operands_of [] ≡ Ok []
unfolding operands_of
none_read = refl

pub operands_read : (tokens : List Token) (xs : List Written) → AreOperands tokens xs → operands_of tokens ≡ Ok xs
operands_read tokens xs (none e f) = ap operands_of e ∙ none_read ∙ ap Ok (sym f)
operands_read tokens xs (some h) = parted_read tokens xs h

pub some_parted : (tokens : List Token) (xs : List Written) → AreOperands tokens xs → 0 < length xs → AreParted tokens xs
some_parted tokens xs (none e f) lt = let z : length xs ≡ 0 = ap length f in absurd (omega (arith, lt, z))
some_parted tokens xs (some h) lt = h

same_length : (parts : List (List Token)) (xs : List Written) → AllZip IsOperand parts xs → length parts ≡ length xs
same_length [] [] h = refl
same_length [] (x ∷ xs) h = absurd h
same_length (p ∷ ps) [] h = absurd h
same_length (p ∷ ps) (x ∷ xs) h = ap suc (same_length ps xs h.1)

pub parted_some : (tokens : List Token) (xs : List Written) → AreParted tokens xs → 0 < length xs
parted_some tokens xs h = let e = same_length h.parts xs h.each in let lt = h.parted.some in omega (arith, lt, e)

-- ---- instructions

judged_ok : (xs : List Written) (r : Result (Instr Imm) LineFault) (i : Instr Imm) → judged xs r ≡ Ok i → r ≡ Ok i
judged_ok xs (Ok j) i e = e
judged_ok xs (Err NoSuchForm) i e = go (list_all fits_some xs) e
  where
    go : (b : Bool) → (let r : Result (Instr Imm) LineFault = cond b (Err NoSuchForm) (Err BadLine) in r ≡ Ok i) → (let r : Result (Instr Imm) LineFault = Err NoSuchForm in r ≡ Ok i)
    go true h = absurd cc
    go false h = absurd cc
judged_ok xs (Err BadLine) i e = absurd cc
judged_ok xs (Err FloatInstruction) i e = absurd cc
judged_ok xs (Err NumberTooLarge) i e = absurd cc

instruction_is : (o : Operation) (xs : List Written) (i : Instr Imm) → instruction o xs ≡ Ok i → IsForm o xs i
unfolding instruction
instruction_is o xs i e = (forms_both_ways o xs i).0 (judged_ok xs (formed o xs) i e)

instruction_read : (o : Operation) (xs : List Written) (i : Instr Imm) → IsForm o xs i → instruction o xs ≡ Ok i
unfolding instruction
instruction_read o xs i f = ap (judged xs) ((forms_both_ways o xs i).1 f)

-- ---- data

pub record Words (xs : List Written) : Type 0 where
  pub words : List ℕ
  pub each : AllZip IsWordOf xs words
  pub whole : map integer_of xs ≡ map item.Integer words

word_some : (o : Option ℕ) → is_some o ≡ true → (n : ℕ) × (o ≡ Some n)
word_some (Some n) h = (n, refl)
word_some None h = absurd cc

pub words_are : (xs : List Written) → list_all is_number xs ≡ true → list_all fits_some xs ≡ true → Words xs
words_are [] n f = record { words = []; each = tt; whole = refl }
words_are (w.Value (Number s m) ∷ xs) n f =
    let g = both_true (is_some (word_of s m)) (list_all fits_some xs) f in
    let v = word_some (word_of s m) g.0 in
    let r = words_are xs n g.1 in
    record { words = v.0 ∷ r.words; each = (v.1, r.each); whole = ap (λ (o : Option ℕ). item.Integer (word_or_zero o) ∷ map integer_of xs) v.1 ∙ ap (λ (is : List AsmItem). item.Integer v.0 ∷ is) r.whole }
words_are (w.Value (Label a) ∷ xs) n f = absurd cc
words_are (w.Register a ∷ xs) n f = absurd cc
words_are (w.Port a ∷ xs) n f = absurd cc
words_are (w.AtRegister a ∷ xs) n f = absurd cc
words_are (w.AtValue a ∷ xs) n f = absurd cc
words_are (w.AtOffset a b ∷ xs) n f = absurd cc

pub record Read (xs : List Written) (words : List ℕ) : Type 0 where
  pub numbers : list_all is_number xs ≡ true
  pub fit : list_all fits_some xs ≡ true
  pub whole : map integer_of xs ≡ map item.Integer words

pub words_read : (xs : List Written) (words : List ℕ) → AllZip IsWordOf xs words → Read xs words
words_read [] [] h = record { numbers = refl; fit = refl; whole = refl }
words_read [] (n ∷ ns) h = absurd h
words_read (x ∷ xs) [] h = absurd h
words_read (w.Value (Number s m) ∷ xs) (n ∷ ns) h =
    let r = words_read xs ns h.1 in
    record { numbers = r.numbers; fit = rw (h.0, r.fit) refl; whole = ap (λ (o : Option ℕ). item.Integer (word_or_zero o) ∷ map integer_of xs) h.0 ∙ ap (λ (is : List AsmItem). item.Integer n ∷ is) r.whole }
words_read (w.Value (Label a) ∷ xs) (n ∷ ns) h = absurd (h.0)
words_read (w.Register a ∷ xs) (n ∷ ns) h = absurd (h.0)
words_read (w.Port a ∷ xs) (n ∷ ns) h = absurd (h.0)
words_read (w.AtRegister a ∷ xs) (n ∷ ns) h = absurd (h.0)
words_read (w.AtValue a ∷ xs) (n ∷ ns) h = absurd (h.0)
words_read (w.AtOffset a b ∷ xs) (n ∷ ns) h = absurd (h.0)

record Integers (xs : List Written) (items : List AsmItem) : Type 0 where
  some : 0 < length xs
  words : Words xs
  are : items ≡ map integer_of xs

pub some_of : (n : ℕ) → ltb 0 n ≡ true → 0 < n
some_of n e = grind (arith, e)

integers_are : (xs : List Written) (items : List AsmItem) → integers_of xs ≡ Ok items → Integers xs items
unfolding integers_of
integers_are xs items e = go (ltb 0 (length xs)) (list_all is_number xs) (list_all fits_some xs) refl refl refl e
  where
    go : (p q r : Bool) → ltb 0 (length xs) ≡ p → list_all is_number xs ≡ q → list_all fits_some xs ≡ r
        → (let res : Result (List AsmItem) LineFault = cond (p && q) (cond r (Ok (map integer_of xs)) (Err NumberTooLarge)) (Err BadLine) in res ≡ Ok items) → Integers xs items
    go true true true ep eq er h = record { some = some_of (length xs) ep; words = words_are xs eq er; are = sym (ok_is h) }
    go true true false ep eq er h = absurd cc
    go true false r ep eq er h = absurd cc
    go false q r ep eq er h = absurd cc

integers_read : (xs : List Written) (words : List ℕ) → 0 < length xs → AllZip IsWordOf xs words → integers_of xs ≡ Ok (map item.Integer words)
unfolding integers_of
integers_read xs words lt h = let r = words_read xs words h in rw (lt-ltb 0 (length xs) lt, r.numbers, r.fit) (ap Ok r.whole)

record Names (xs : List Written) : Type 0 where
  names : List (List ℕ)
  each : AllZip IsNameOf xs names
  whole : map pointer_of xs ≡ map item.Pointer names

names_are : (xs : List Written) → list_all is_name xs ≡ true → Names xs
names_are [] n = record { names = []; each = tt; whole = refl }
names_are (w.Value (Label a) ∷ xs) n = let r = names_are xs n in record { names = a ∷ r.names; each = (refl, r.each); whole = ap (λ (is : List AsmItem). item.Pointer a ∷ is) r.whole }
names_are (w.Value (Number s m) ∷ xs) n = absurd cc
names_are (w.Register a ∷ xs) n = absurd cc
names_are (w.Port a ∷ xs) n = absurd cc
names_are (w.AtRegister a ∷ xs) n = absurd cc
names_are (w.AtValue a ∷ xs) n = absurd cc
names_are (w.AtOffset a b ∷ xs) n = absurd cc

names_read : (xs : List Written) (names : List (List ℕ)) → AllZip IsNameOf xs names → (list_all is_name xs ≡ true) × (map pointer_of xs ≡ map item.Pointer names)
names_read [] [] h = (refl, refl)
names_read [] (n ∷ ns) h = absurd h
names_read (x ∷ xs) [] h = absurd h
names_read (w.Value (Label a) ∷ xs) (n ∷ ns) h = let r = names_read xs ns h.1 in (r.0, ap (λ (b : List ℕ). item.Pointer b ∷ map pointer_of xs) h.0 ∙ ap (λ (is : List AsmItem). item.Pointer n ∷ is) r.1)
names_read (w.Value (Number s m) ∷ xs) (n ∷ ns) h = absurd (h.0)
names_read (w.Register a ∷ xs) (n ∷ ns) h = absurd (h.0)
names_read (w.Port a ∷ xs) (n ∷ ns) h = absurd (h.0)
names_read (w.AtRegister a ∷ xs) (n ∷ ns) h = absurd (h.0)
names_read (w.AtValue a ∷ xs) (n ∷ ns) h = absurd (h.0)
names_read (w.AtOffset a b ∷ xs) (n ∷ ns) h = absurd (h.0)

record Pointers (xs : List Written) (items : List AsmItem) : Type 0 where
  some : 0 < length xs
  names : Names xs
  are : items ≡ map pointer_of xs

pointers_are : (xs : List Written) (items : List AsmItem) → pointers_of xs ≡ Ok items → Pointers xs items
unfolding pointers_of
pointers_are xs items e = go (ltb 0 (length xs)) (list_all is_name xs) refl refl e
  where
    go : (p q : Bool) → ltb 0 (length xs) ≡ p → list_all is_name xs ≡ q
        → (let res : Result (List AsmItem) LineFault = cond (p && q) (Ok (map pointer_of xs)) (Err BadLine) in res ≡ Ok items) → Pointers xs items
    go true true ep eq h = record { some = some_of (length xs) ep; names = names_are xs eq; are = sym (ok_is h) }
    go true false ep eq h = absurd cc
    go false q ep eq h = absurd cc

pointers_read : (xs : List Written) (names : List (List ℕ)) → 0 < length xs → AllZip IsNameOf xs names → pointers_of xs ≡ Ok (map item.Pointer names)
unfolding pointers_of
pointers_read xs names lt h = let r = names_read xs names h in rw (lt-ltb 0 (length xs) lt, r.0) (ap Ok r.1)

text_is : (more : List Token) (items : List AsmItem) → text_items more ≡ Ok items → IsStatement (t.Data d.Text ∷ more) items
unfolding text_items
text_is [] items e = absurd cc
text_is (t.Text content ∷ []) items e = text content refl (sym (ok_is e))
text_is (t.Text content ∷ y ∷ more) items e = absurd cc
text_is (t.Float ∷ more) items e = absurd cc
text_is (t.Operation x ∷ more) items e = absurd cc
text_is (t.Data x ∷ more) items e = absurd cc
text_is (t.Register x ∷ more) items e = absurd cc
text_is (t.Port x ∷ more) items e = absurd cc
text_is (t.Label x ∷ more) items e = absurd cc
text_is (t.Number s m ∷ more) items e = absurd cc
text_is (t.Colon ∷ more) items e = absurd cc
text_is (t.Comma ∷ more) items e = absurd cc
text_is (t.Open ∷ more) items e = absurd cc
text_is (t.Close ∷ more) items e = absurd cc
text_is (t.Plus ∷ more) items e = absurd cc
text_is (t.Minus ∷ more) items e = absurd cc
text_is (t.Stray ∷ more) items e = absurd cc

-- ---- statements

operation_is : (o : Operation) (more : List Token) (items : List AsmItem) → statement_items (t.Operation o ∷ more) ≡ Ok items → IsStatement (t.Operation o ∷ more) items
unfolding statement_items
operation_is o more items e =
    let b = bind_ok (instruction_of o more) (λ (i : Instr Imm). Ok (item.Op i ∷ [])) items e in
    let c = bind_ok (operands_of more) (instruction o) b.value b.first in
    operation o more c.value b.value refl (operands_are more c.value c.first) (instruction_is o c.value b.value c.rest) (sym (ok_is b.rest))

data_is : (k : DataWord) (more : List Token) (items : List AsmItem) → data_items k more ≡ Ok items → IsStatement (t.Data k ∷ more) items
unfolding data_items
data_is d.Integers more items e =
    let b = bind_ok (operands_of more) integers_of items e in
    let r = integers_are b.value items b.rest in
    integers more b.value r.words.words refl (some_parted more b.value (operands_are more b.value b.first) r.some) r.words.each (r.are ∙ r.words.whole)
data_is d.Pointers more items e =
    let b = bind_ok (operands_of more) pointers_of items e in
    let r = pointers_are b.value items b.rest in
    pointers more b.value r.names.names refl (some_parted more b.value (operands_are more b.value b.first) r.some) r.names.each (r.are ∙ r.names.whole)
data_is d.Text more items e = text_is more items e

statement_is : (tokens : List Token) (items : List AsmItem) → statement_items tokens ≡ Ok items → IsStatement tokens items
unfolding statement_items
statement_is [] items e = nothing refl (sym (ok_is e))
statement_is (t.Operation o ∷ more) items e = operation_is o more items e
statement_is (t.Data k ∷ more) items e = data_is k more items e
statement_is (t.Text x ∷ more) items e = absurd cc
statement_is (t.Float ∷ more) items e = absurd cc
statement_is (t.Register x ∷ more) items e = absurd cc
statement_is (t.Port x ∷ more) items e = absurd cc
statement_is (t.Label x ∷ more) items e = absurd cc
statement_is (t.Number s m ∷ more) items e = absurd cc
statement_is (t.Colon ∷ more) items e = absurd cc
statement_is (t.Comma ∷ more) items e = absurd cc
statement_is (t.Open ∷ more) items e = absurd cc
statement_is (t.Close ∷ more) items e = absurd cc
statement_is (t.Plus ∷ more) items e = absurd cc
statement_is (t.Minus ∷ more) items e = absurd cc
statement_is (t.Stray ∷ more) items e = absurd cc

statement_read : (tokens : List Token) (items : List AsmItem) → IsStatement tokens items → statement_items tokens ≡ Ok items
unfolding statement_items data_items text_items
statement_read tokens items (nothing e f) = ap statement_items e ∙ ap Ok (sym f)
statement_read tokens items (operation o rest xs i e ops form f) =
    let one : statement_items (t.Operation o ∷ rest) ≡ Ok (item.Op i ∷ []) = rw (operands_read rest xs ops, instruction_read o xs i form) refl in
    ap statement_items e ∙ one ∙ ap Ok (sym f)
statement_read tokens items (integers rest xs words e ops each f) =
    let one : statement_items (t.Data d.Integers ∷ rest) ≡ Ok (map item.Integer words) = rw (parted_read rest xs ops) (integers_read xs words (parted_some rest xs ops) each) in
    ap statement_items e ∙ one ∙ ap Ok (sym f)
statement_read tokens items (pointers rest xs names e ops each f) =
    let one : statement_items (t.Data d.Pointers ∷ rest) ≡ Ok (map item.Pointer names) = rw (parted_read rest xs ops) (pointers_read xs names (parted_some rest xs ops) each) in
    ap statement_items e ∙ one ∙ ap Ok (sym f)
statement_read tokens items (text content e f) = ap statement_items e ∙ ap Ok (sym f)

-- ---- lines

first_of : (x : Token) (parts : List (List Token)) (xs : List Written) → ((part : List Token) → operand (x ∷ part) ≡ Err BadLine) → operands_in (with_first x parts) ≡ Ok xs → ⊥
unfolding operands_in
first_of x [] xs bad e = let h : operands_in ((x ∷ []) ∷ []) ≡ Err BadLine = rw (bad []) refl in let c = sym e ∙ h in absurd cc
first_of x (p ∷ ps) xs bad e = let h : operands_in ((x ∷ p) ∷ ps) ≡ Err BadLine = rw (bad p) refl in let c = sym e ∙ h in absurd cc

colon_bad : (part : List Token) → operand (t.Colon ∷ part) ≡ Err BadLine
unfolding operand plain
colon_bad [] = refl
colon_bad (y ∷ more) = refl

pub no_colon_operands : (more : List Token) (xs : List Written) → operands_of (t.Colon ∷ more) ≡ Ok xs → ⊥
unfolding operands_of parted
no_colon_operands more xs e = first_of t.Colon (parted is_comma more) xs colon_bad e

no_colon : (x : Token) (more : List Token) (items : List AsmItem) → IsStatement (x ∷ t.Colon ∷ more) items → ⊥
no_colon x more items (nothing e f) = absurd cc
no_colon x more items (operation o rest xs i e ops form f) =
    let tail : t.Colon ∷ more ≡ rest = cc in
    no_colon_operands more xs (ap operands_of tail ∙ operands_read rest xs ops)
no_colon x more items (integers rest xs words e ops each f) = let tail : t.Colon ∷ more ≡ rest = cc in no_colon_operands more xs (ap operands_of tail ∙ parted_read rest xs ops)
no_colon x more items (pointers rest xs names e ops each f) = let tail : t.Colon ∷ more ≡ rest = cc in no_colon_operands more xs (ap operands_of tail ∙ parted_read rest xs ops)
no_colon x more items (text content e f) = absurd cc

pub colon_is : (x : Token) → is_colon x ≡ true → x ≡ t.Colon
colon_is t.Colon h = refl
colon_is _ h = absurd cc

unlabelled : (tokens : List Token) (items : List AsmItem) → IsStatement tokens items → has_label tokens ≡ false
unfolding has_label
unlabelled [] items s = refl
unlabelled (x ∷ []) items s = refl
unlabelled (x ∷ y ∷ more) items s = go (is_colon y) refl
  where
    go : (b : Bool) → is_colon y ≡ b → b ≡ false
    go true e = absurd (no_colon x more items (let P : Token → Type 0 = λ z. IsStatement (x ∷ z ∷ more) items in subst P (colon_is y e) s))
    go false e = refl

no_float : (tokens : List Token) (items : List AsmItem) → statement_items tokens ≡ Ok items → begins_float tokens ≡ false
unfolding begins_float statement_items
no_float [] items e = refl
no_float (t.Float ∷ more) items e = absurd cc
no_float (t.Operation x ∷ more) items e = refl
no_float (t.Data x ∷ more) items e = refl
no_float (t.Register x ∷ more) items e = refl
no_float (t.Port x ∷ more) items e = refl
no_float (t.Label x ∷ more) items e = refl
no_float (t.Number s m ∷ more) items e = refl
no_float (t.Text x ∷ more) items e = refl
no_float (t.Colon ∷ more) items e = refl
no_float (t.Comma ∷ more) items e = refl
no_float (t.Open ∷ more) items e = refl
no_float (t.Close ∷ more) items e = refl
no_float (t.Plus ∷ more) items e = refl
no_float (t.Minus ∷ more) items e = refl
no_float (t.Stray ∷ more) items e = refl

with_label : (own : List ℕ) (after : List Token) (others : List AsmItem) → statement_items after ≡ Ok others → line_items (t.Label own ∷ t.Colon ∷ after) ≡ Ok (item.Label own ∷ others)
unfolding line_items parts_items has_label label_items
with_label own after others r = rw (no_float after others r, r) refl

pub line_read : (tokens : List Token) (items : List AsmItem) → IsLine tokens items → line_items tokens ≡ Ok items
unfolding line_items parts_items
line_read tokens items (alone s) =
    let e = statement_read tokens items s in
    rw (unlabelled tokens items s, no_float tokens items e, e) refl
line_read tokens items (labelled name rest more e f s) =
    let r = statement_read rest more s in
    let one : line_items (t.Label name ∷ t.Colon ∷ rest) ≡ Ok (item.Label name ∷ more) = with_label name rest more r in
    ap line_items e ∙ one ∙ ap Ok (sym f)

labelled_is : (x y : Token) (more : List Token) (items : List AsmItem) → is_colon y ≡ true → both (label_items (x ∷ y ∷ more)) (statement_items more) ≡ Ok items → IsLine (x ∷ y ∷ more) items
unfolding label_items
labelled_is (t.Label name) y more items c e =
    let b = bind_ok (statement_items more) (λ (ys : List AsmItem). Ok (item.Label name ∷ [] ++ ys)) items e in
    labelled name more b.value (ap (λ (z : Token). t.Label name ∷ z ∷ more) (colon_is y c)) (sym (ok_is b.rest)) (statement_is more b.value b.first)
labelled_is t.Float y more items c e = absurd cc
labelled_is (t.Operation x) y more items c e = absurd cc
labelled_is (t.Data x) y more items c e = absurd cc
labelled_is (t.Register x) y more items c e = absurd cc
labelled_is (t.Port x) y more items c e = absurd cc
labelled_is (t.Number s m) y more items c e = absurd cc
labelled_is (t.Text x) y more items c e = absurd cc
labelled_is t.Colon y more items c e = absurd cc
labelled_is t.Comma y more items c e = absurd cc
labelled_is t.Open y more items c e = absurd cc
labelled_is t.Close y more items c e = absurd cc
labelled_is t.Plus y more items c e = absurd cc
labelled_is t.Minus y more items c e = absurd cc
labelled_is t.Stray y more items c e = absurd cc

alone_is : (tokens : List Token) (items : List AsmItem) → both (Ok []) (statement_items tokens) ≡ Ok items → IsLine tokens items
alone_is tokens items e =
    let b = bind_ok (statement_items tokens) (λ (ys : List AsmItem). Ok ([] ++ ys)) items e in
    alone (let P : List AsmItem → Type 0 = λ is. IsStatement tokens is in subst P (ok_is b.rest) (statement_is tokens b.value b.first))

not_float : (b : Bool) (r : Result (List AsmItem) LineFault) (items : List AsmItem) → cond b (Err FloatInstruction) r ≡ Ok items → r ≡ Ok items
not_float true r items e = absurd cc
not_float false r items e = e

pub line_is : (tokens : List Token) (items : List AsmItem) → line_items tokens ≡ Ok items → IsLine tokens items
unfolding line_items parts_items has_label
line_is [] items e = alone_is [] items (not_float (begins_float []) (both (Ok []) (statement_items [])) items e)
line_is (x ∷ []) items e = alone_is (x ∷ []) items (not_float (begins_float (x ∷ [])) (both (Ok []) (statement_items (x ∷ []))) items e)
line_is (x ∷ y ∷ more) items e = go (is_colon y) refl e
  where
    go : (b : Bool) → is_colon y ≡ b → parts_items b (x ∷ y ∷ more) ≡ Ok items → IsLine (x ∷ y ∷ more) items
    go true c h = labelled_is x y more items c (not_float (begins_float more) (both (label_items (x ∷ y ∷ more)) (statement_items more)) items h)
    go false c h = alone_is (x ∷ y ∷ more) items (not_float (begins_float (x ∷ y ∷ more)) (both (Ok []) (statement_items (x ∷ y ∷ more))) items h)
