-- The class of a line that has no items, both ways.
use Rattle.std.proofs.Common.{◌≡◌, ℕ, Bool, true, false, cond, ◌&&◌, List, [], ◌∷◌, ◌++◌, length, map, refl, sym, ap, subst, ◌∙◌, lt-ltb, ltb}
use Rattle.std.specs.Prelude.{Result, Ok, Err}
use Rattle.std.specs.List.{list_all, AllZip}
use Rattle.v32_isa.specs.declared.instruction.Instr.{Instr}
use Rattle.asm_items.specs.Items.{Imm}
use Rattle.asm_items.specs.declared.item.AsmItem.{AsmItem}
use Rattle.asm_items.specs.declared.item.AsmItem.TheVariants as item
use Rattle.asm_items.specs.declared.vocabulary.Operation.{Operation}
use Rattle.asm_items.specs.declared.vocabulary.DataWord.{DataWord}
use Rattle.asm_items.specs.declared.vocabulary.DataWord.TheVariants as d
use Rattle.asm_reader.specs.declared.fault.LineFault.{LineFault}
use Rattle.asm_reader.specs.declared.fault.LineFault.TheVariants.{BadLine, FloatInstruction, NumberTooLarge, NoSuchForm}
use Rattle.asm_reader.specs.declared.token.Token.{Token}
use Rattle.asm_reader.specs.declared.token.Token.TheVariants as t
use Rattle.asm_reader.specs.declared.value.Value.TheVariants.{Number, Label}
use Rattle.asm_reader.specs.declared.value.Written.{Written}
use Rattle.asm_reader.specs.declared.value.Written.TheVariants as w
use Rattle.asm_reader.specs.Faults.{◌>>=◌}
use Rattle.asm_reader.specs.Forms.{fits_some, instruction, word_of}
use Rattle.asm_reader.specs.Lines.{is_number, integer_of, integers as integers_of, is_name, pointer_of, pointers as pointers_of, text_items, data_items, instruction_of, statement_items, is_colon, has_label, label_items, begins_float, both, parts_items, line_items}
use Rattle.asm_reader.specs.Operands.{is_comma, plain, inside_one, joined_to, inside_two, added_to, taken_from, signed_to, inside_three, closed_by, bracketed, opened_by, operand, operands_in, operands_of}
use Rattle.asm_reader.specs.Parted.{parted}
use Rattle.asm_grammar.specs.Classes.{zeroed}
use Rattle.asm_grammar.specs.Refused.{IsFloatLine, first, behind, HasWords, IsTooLarge, operation, integers, IsFormless, IsLineWith, alone, labelled, IsOther, IsOfClass}
use Rattle.asm_grammar.specs.Statements.{AreParted, AreOperands, IsWordOf}
use Rattle.asm_grammar.proofs.Classes.{ranges_both, forms_both, no_float}
use Rattle.asm_grammar.proofs.Lines.{words_are, words_read, some_of, operands_are, operands_read, parted_read, parted_some, some_parted, no_colon_operands, colon_is, line_is, line_read}

-- ---- operands that can't be read have no class of their own

abbrev OnlyBad : {X : Type 0} → Result X LineFault → Type 0
OnlyBad (Ok x) = Unit {0}
OnlyBad (Err BadLine) = Unit {0}
OnlyBad (Err NoSuchForm) = ⊥
OnlyBad (Err FloatInstruction) = ⊥
OnlyBad (Err NumberTooLarge) = ⊥

plain_bad : (x : Token) → OnlyBad (plain x)
unfolding plain
plain_bad t.Float = tt
plain_bad _ = tt

one_bad : (x : Token) → OnlyBad (inside_one x)
unfolding inside_one
one_bad t.Float = tt
one_bad _ = tt

joined_bad : (b : ℕ) (x : Token) → OnlyBad (joined_to b x)
joined_bad b (t.Number true m) = tt
joined_bad b (t.Number false m) = tt
joined_bad b _ = tt

two_bad : (x y : Token) → OnlyBad (inside_two x y)
unfolding inside_two
two_bad (t.Register b) y = joined_bad b y
two_bad _ y = tt

added_bad : (b : ℕ) (x : Token) → OnlyBad (added_to b x)
added_bad b t.Float = tt
added_bad b _ = tt

taken_bad : (b : ℕ) (x : Token) → OnlyBad (taken_from b x)
taken_bad b t.Float = tt
taken_bad b _ = tt

signed_bad : (b : ℕ) (sign x : Token) → OnlyBad (signed_to b sign x)
signed_bad b t.Plus x = added_bad b x
signed_bad b t.Minus x = taken_bad b x
signed_bad b _ x = tt

three_bad : (x sign y : Token) → OnlyBad (inside_three x sign y)
unfolding inside_three
three_bad (t.Register b) sign y = signed_bad b sign y
three_bad _ sign y = tt

closed_bad : (x : Token) (r : Result Written LineFault) → OnlyBad r → OnlyBad (closed_by x r)
closed_bad t.Close r h = h
closed_bad _ r h = tt

bracketed_bad : (ts : List Token) → OnlyBad (bracketed ts)
unfolding bracketed
bracketed_bad [] = tt
bracketed_bad (x ∷ []) = tt
bracketed_bad (x ∷ y ∷ []) = closed_bad y (inside_one x) (one_bad x)
bracketed_bad (x ∷ y ∷ z ∷ []) = closed_bad z (inside_two x y) (two_bad x y)
bracketed_bad (x ∷ y ∷ z ∷ u ∷ []) = closed_bad u (inside_three x y z) (three_bad x y z)
bracketed_bad (x ∷ y ∷ z ∷ u ∷ v ∷ more) = tt

opened_bad : (x : Token) (r : Result Written LineFault) → OnlyBad r → OnlyBad (opened_by x r)
opened_bad t.Open r h = h
opened_bad _ r h = tt

operand_bad : (ts : List Token) → OnlyBad (operand ts)
unfolding operand
operand_bad [] = tt
operand_bad (x ∷ []) = plain_bad x
operand_bad (x ∷ y ∷ more) = opened_bad x (bracketed (y ∷ more)) (bracketed_bad (y ∷ more))

bind_bad : {X Y : Type 0} (r : Result X LineFault) (f : X → Result Y LineFault) → OnlyBad r → ((x : X) → OnlyBad (f x)) → OnlyBad (r >>= f)
bind_bad (Ok x) f h g = g x
bind_bad (Err BadLine) f h g = tt
bind_bad (Err NoSuchForm) f h g = h
bind_bad (Err FloatInstruction) f h g = h
bind_bad (Err NumberTooLarge) f h g = h

each_bad : (parts : List (List Token)) → OnlyBad (operands_in parts)
unfolding operands_in
each_bad [] = tt
each_bad (part ∷ parts) =
    bind_bad (operand part) (λ (one : Written). operands_in parts >>= λ (others : List Written). Ok (one ∷ others)) (operand_bad part)
    (λ one. bind_bad (operands_in parts) (λ (others : List Written). Ok (one ∷ others)) (each_bad parts) (λ others. tt))

operands_bad : (ts : List Token) → OnlyBad (operands_of ts)
unfolding operands_of
operands_bad [] = tt
operands_bad (x ∷ more) = each_bad (parted is_comma (x ∷ more))

label_bad : (ts : List Token) → OnlyBad (label_items ts)
unfolding label_items
label_bad [] = tt
label_bad (t.Label name ∷ more) = tt
label_bad (_ ∷ more) = tt

-- a class of its own
abbrev IsOwn : LineFault → Type 0
IsOwn BadLine = ⊥
IsOwn NoSuchForm = Unit {0}
IsOwn FloatInstruction = Unit {0}
IsOwn NumberTooLarge = Unit {0}

bad_has_none : (fault : LineFault) → IsOwn fault → BadLine ≡ fault → ⊥
bad_has_none BadLine own e = own
bad_has_none NoSuchForm own e = absurd cc
bad_has_none FloatInstruction own e = absurd cc
bad_has_none NumberTooLarge own e = absurd cc

err_is : {X : Type 0} {x y : LineFault} → (let r : Result X LineFault = Err x in r ≡ Err y) → x ≡ y
err_is h = cc

-- what came first was read
record After {X Y : Type 0} (r : Result X LineFault) (f : X → Result Y LineFault) (fault : LineFault) : Type 0 where
  value : X
  read : r ≡ Ok value
  rest : f value ≡ Err fault

after_bad : {X Y : Type 0} (r : Result X LineFault) (f : X → Result Y LineFault) (fault : LineFault) → IsOwn fault → OnlyBad r → (r >>= f) ≡ Err fault → After r f fault
after_bad (Ok x) f fault own h e = record { value = x; read = refl; rest = e }
after_bad (Err BadLine) f fault own h e = absurd (bad_has_none fault own (err_is e))
after_bad (Err NoSuchForm) f fault own h e = absurd h
after_bad (Err FloatInstruction) f fault own h e = absurd h
after_bad (Err NumberTooLarge) f fault own h e = absurd h

-- ---- statements

abbrev IsStatementOf : LineFault → List Token → Type 0
IsStatementOf BadLine tokens = ⊥
IsStatementOf NoSuchForm tokens = IsFormless tokens
IsStatementOf FloatInstruction tokens = ⊥
IsStatementOf NumberTooLarge tokens = IsTooLarge tokens

operation_fault : (o : Operation) (rest : List Token) (xs : List Written) (fault : LineFault) → IsOwn fault → AreOperands rest xs → instruction o xs ≡ Err fault → IsStatementOf fault (t.Operation o ∷ rest)
operation_fault o rest xs BadLine own ops e = own
operation_fault o rest xs NoSuchForm own ops e = record { operation = o; rest = rest; xs = xs; spelled = refl; operands = ops; no_form = (forms_both o xs).0 e }
operation_fault o rest xs FloatInstruction own ops e = no_float o xs e
operation_fault o rest xs NumberTooLarge own ops e = operation o rest xs refl ops ((ranges_both o xs).0 e)

words_zeroed : (xs : List Written) → list_all is_number xs ≡ true → HasWords (map zeroed xs)
unfolding word_of
words_zeroed [] n = record { words = []; each = tt }
words_zeroed (w.Value (Number s m) ∷ xs) n = let r = words_zeroed xs n in record { words = 0 ∷ r.words; each = (refl, r.each) }
words_zeroed (w.Value (Label a) ∷ xs) n = absurd cc
words_zeroed (w.Register a ∷ xs) n = absurd cc
words_zeroed (w.Port a ∷ xs) n = absurd cc
words_zeroed (w.AtRegister a ∷ xs) n = absurd cc
words_zeroed (w.AtValue a ∷ xs) n = absurd cc
words_zeroed (w.AtOffset a b ∷ xs) n = absurd cc

are_numbers : (xs : List Written) (words : List ℕ) → AllZip IsWordOf (map zeroed xs) words → list_all is_number xs ≡ true
are_numbers [] words h = refl
are_numbers (x ∷ xs) [] h = absurd h
are_numbers (w.Value (Number s m) ∷ xs) (n ∷ ns) h = are_numbers xs ns h.1
are_numbers (w.Value (Label a) ∷ xs) (n ∷ ns) h = absurd (h.0)
are_numbers (w.Register a ∷ xs) (n ∷ ns) h = absurd (h.0)
are_numbers (w.Port a ∷ xs) (n ∷ ns) h = absurd (h.0)
are_numbers (w.AtRegister a ∷ xs) (n ∷ ns) h = absurd (h.0)
are_numbers (w.AtValue a ∷ xs) (n ∷ ns) h = absurd (h.0)
are_numbers (w.AtOffset a b ∷ xs) (n ∷ ns) h = absurd (h.0)

not_fit : (xs : List Written) → list_all fits_some xs ≡ false → HasWords xs → ⊥
not_fit xs h has = let r = words_read xs has.words has.each in let bad : true ≡ false = sym r.fit ∙ h in absurd cc

integers_fault : (rest : List Token) (xs : List Written) (fault : LineFault) → IsOwn fault → AreOperands rest xs → integers_of xs ≡ Err fault → IsStatementOf fault (t.Data d.Integers ∷ rest)
unfolding integers_of
integers_fault rest xs fault own ops e = go (ltb 0 (length xs)) (list_all is_number xs) (list_all fits_some xs) refl refl refl e
  where
    too_large : (given : LineFault) → NumberTooLarge ≡ given → IsTooLarge (t.Data d.Integers ∷ rest) → IsStatementOf given (t.Data d.Integers ∷ rest)
    too_large given e is = subst (λ (k : LineFault). IsStatementOf k (t.Data d.Integers ∷ rest)) e is

    go : (p q r : Bool) → ltb 0 (length xs) ≡ p → list_all is_number xs ≡ q → list_all fits_some xs ≡ r
        → (let res : Result (List AsmItem) LineFault = cond (p && q) (cond r (Ok (map integer_of xs)) (Err NumberTooLarge)) (Err BadLine) in res ≡ Err fault) → IsStatementOf fault (t.Data d.Integers ∷ rest)
    go true true true ep eq er h = absurd cc
    go true true false ep eq er h = too_large fault (err_is h) (integers rest xs refl (some_parted rest xs ops (some_of (length xs) ep)) (not_fit xs er) (words_zeroed xs eq))
    go true false r ep eq er h = absurd (bad_has_none fault own (err_is h))
    go false q r ep eq er h = absurd (bad_has_none fault own (err_is h))

pointers_bad : (xs : List Written) → OnlyBad (pointers_of xs)
unfolding pointers_of
pointers_bad xs = go (ltb 0 (length xs) && list_all is_name xs)
  where
    go : (p : Bool) → OnlyBad (let res : Result (List AsmItem) LineFault = cond p (Ok (map pointer_of xs)) (Err BadLine) in res)
    go true = tt
    go false = tt

text_bad : (ts : List Token) → OnlyBad (text_items ts)
unfolding text_items
text_bad [] = tt
text_bad (t.Text content ∷ []) = tt
text_bad (t.Text content ∷ y ∷ more) = tt
text_bad (_ ∷ more) = tt

never : {X : Type 0} (r : Result X LineFault) (fault : LineFault) → IsOwn fault → OnlyBad r → r ≡ Err fault → ⊥
never (Ok x) fault own h e = absurd cc
never (Err BadLine) fault own h e = bad_has_none fault own (err_is e)
never (Err NoSuchForm) fault own h e = h
never (Err FloatInstruction) fault own h e = h
never (Err NumberTooLarge) fault own h e = h

data_fault : (k : DataWord) (rest : List Token) (fault : LineFault) → IsOwn fault → data_items k rest ≡ Err fault → IsStatementOf fault (t.Data k ∷ rest)
unfolding data_items
data_fault d.Integers rest fault own e =
    let a = after_bad (operands_of rest) integers_of fault own (operands_bad rest) e in
    integers_fault rest a.value fault own (operands_are rest a.value a.read) a.rest
data_fault d.Pointers rest fault own e =
    let a = after_bad (operands_of rest) pointers_of fault own (operands_bad rest) e in
    absurd (never (pointers_of a.value) fault own (pointers_bad a.value) a.rest)
data_fault d.Text rest fault own e = absurd (never (text_items rest) fault own (text_bad rest) e)

statement_fault : (tokens : List Token) (fault : LineFault) → IsOwn fault → statement_items tokens ≡ Err fault → IsStatementOf fault tokens
unfolding statement_items
statement_fault [] fault own e = absurd cc
statement_fault (t.Operation o ∷ rest) fault own e =
    let b = no_item (instruction_of o rest) e in
    let a = after_bad (operands_of rest) (instruction o) fault own (operands_bad rest) b in
    operation_fault o rest a.value fault own (operands_are rest a.value a.read) a.rest
  where
    no_item : (r : Result (Instr Imm) LineFault) → (r >>= λ (i : Instr Imm). let items : Result (List AsmItem) LineFault = Ok (item.Op i ∷ []) in items) ≡ Err fault → r ≡ Err fault
    no_item (Ok i) h = absurd cc
    no_item (Err f) h = ap Err (err_is h)
statement_fault (t.Data k ∷ rest) fault own e = data_fault k rest fault own e
statement_fault (_ ∷ rest) fault own e = absurd (bad_has_none fault own (err_is e))

record Refused (tokens : List Token) (fault : LineFault) : Type 0 where
  unlabelled : has_label tokens ≡ false
  unfloat : begins_float tokens ≡ false
  items : statement_items tokens ≡ Err fault

refused_by : (ts us : List Token) (fault : LineFault) → ts ≡ us → Refused us fault → Refused ts fault
refused_by ts us fault e r = subst (λ (l : List Token). Refused l fault) (sym e) r

unlabelled : (x : Token) (rest : List Token) (xs : List Written) → operands_of rest ≡ Ok xs → has_label (x ∷ rest) ≡ false
unfolding has_label
unlabelled x [] xs e = refl
unlabelled x (y ∷ more) xs e = go (is_colon y) refl
  where
    go : (b : Bool) → is_colon y ≡ b → b ≡ false
    go true c = absurd (no_colon_operands more xs (ap (λ (z : Token). operands_of (z ∷ more)) (sym (colon_is y c)) ∙ e))
    go false c = refl

operation_refused : (o : Operation) (rest : List Token) (xs : List Written) (fault : LineFault) → AreOperands rest xs → instruction o xs ≡ Err fault → Refused (t.Operation o ∷ rest) fault
unfolding statement_items begins_float
operation_refused o rest xs fault ops e = let r = operands_read rest xs ops in record { unlabelled = unlabelled (t.Operation o) rest xs r; unfloat = refl; items = rw (r, e) refl }

integers_too_large : (xs : List Written) → ltb 0 (length xs) ≡ true → (HasWords xs → ⊥) → HasWords (map zeroed xs) → integers_of xs ≡ Err NumberTooLarge
unfolding integers_of
integers_too_large xs some none otherwise = rw (some, are_numbers xs otherwise.words otherwise.each) (go (list_all fits_some xs) refl)
  where
    go : (b : Bool) → list_all fits_some xs ≡ b → (let res : Result (List AsmItem) LineFault = cond b (Ok (map integer_of xs)) (Err NumberTooLarge) in res) ≡ Err NumberTooLarge
    go true e = let r = words_are xs (are_numbers xs otherwise.words otherwise.each) e in absurd (none (record { words = r.words; each = r.each }))
    go false e = refl

integers_refused : (rest : List Token) (xs : List Written) → AreParted rest xs → (HasWords xs → ⊥) → HasWords (map zeroed xs) → Refused (t.Data d.Integers ∷ rest) NumberTooLarge
unfolding statement_items data_items begins_float
integers_refused rest xs parted none otherwise =
    let r = parted_read rest xs parted in
    record {
      unlabelled = unlabelled (t.Data d.Integers) rest xs r;
      unfloat = refl;
      items = rw r (integers_too_large xs (lt-ltb 0 (length xs) (parted_some rest xs parted)) none otherwise);
    }

statement_refused : (fault : LineFault) (tokens : List Token) → IsStatementOf fault tokens → Refused tokens fault
statement_refused BadLine tokens h = absurd h
statement_refused FloatInstruction tokens h = absurd h
statement_refused NoSuchForm tokens h =
    refused_by tokens (t.Operation h.operation ∷ h.rest) NoSuchForm h.spelled (operation_refused h.operation h.rest h.xs NoSuchForm h.operands ((forms_both h.operation h.xs).1 h.no_form))
statement_refused NumberTooLarge tokens (operation o rest xs e ops out) =
    refused_by tokens (t.Operation o ∷ rest) NumberTooLarge e (operation_refused o rest xs NumberTooLarge ops ((ranges_both o xs).1 out))
statement_refused NumberTooLarge tokens (integers rest xs e parted none otherwise) =
    refused_by tokens (t.Data d.Integers ∷ rest) NumberTooLarge e (integers_refused rest xs parted none otherwise)

-- ---- lines of a class of their own

float_is : (tokens : List Token) → begins_float tokens ≡ true → (more : List Token) × (tokens ≡ t.Float ∷ more)
unfolding begins_float
float_is [] h = absurd cc
float_is (t.Float ∷ more) h = (more, refl)
float_is (_ ∷ more) h = absurd cc

no_second : (x : Token) (rest : List Token) → has_label (x ∷ t.Colon ∷ rest) ≡ false → ⊥
unfolding has_label
no_second x rest h = absurd cc

alone_of : (fault : LineFault) (tokens : List Token) → IsStatementOf fault tokens → IsOfClass fault tokens
alone_of BadLine tokens h = absurd h
alone_of NoSuchForm tokens h = alone h
alone_of FloatInstruction tokens h = absurd h
alone_of NumberTooLarge tokens h = alone h

labelled_of : (fault : LineFault) (name : List ℕ) (rest : List Token) → IsStatementOf fault rest → IsOfClass fault (t.Label name ∷ t.Colon ∷ rest)
labelled_of BadLine name rest h = absurd h
labelled_of NoSuchForm name rest h = labelled name rest refl h
labelled_of FloatInstruction name rest h = absurd h
labelled_of NumberTooLarge name rest h = labelled name rest refl h

class_by : (fault : LineFault) (tokens : List Token) → FloatInstruction ≡ fault → IsFloatLine tokens → IsOfClass fault tokens
class_by fault tokens e is = subst (λ (k : LineFault). IsOfClass k tokens) e is

added : (xs : List AsmItem) (r : Result (List AsmItem) LineFault) (fault : LineFault) → (r >>= λ (ys : List AsmItem). let items : Result (List AsmItem) LineFault = Ok (xs ++ ys) in items) ≡ Err fault → r ≡ Err fault
added xs (Ok ys) fault e = absurd cc
added xs (Err f) fault e = ap Err (err_is e)

alone_fault : (tokens : List Token) (fault : LineFault) → IsOwn fault → has_label tokens ≡ false → parts_items false tokens ≡ Err fault → IsOfClass fault tokens
unfolding parts_items
alone_fault tokens fault own single e = go (begins_float tokens) refl e
  where
    go : (b : Bool) → begins_float tokens ≡ b → (let res : Result (List AsmItem) LineFault = cond b (Err FloatInstruction) (both (Ok []) (statement_items tokens)) in res) ≡ Err fault → IsOfClass fault tokens
    go true f h =
        let is = float_is tokens f in
        class_by fault tokens (err_is h) (first is.0 is.1 (λ rest second. no_second t.Float rest (ap (λ (ts : List Token). has_label ts) (sym (is.1 ∙ ap (λ (ts : List Token). t.Float ∷ ts) second)) ∙ single)))
    go false f h = alone_of fault tokens (statement_fault tokens fault own (added [] (statement_items tokens) fault h))

labelled_fault : (x : Token) (rest : List Token) (fault : LineFault) → IsOwn fault → parts_items true (x ∷ t.Colon ∷ rest) ≡ Err fault → IsOfClass fault (x ∷ t.Colon ∷ rest)
unfolding parts_items label_items
labelled_fault x rest fault own e = go (begins_float rest) refl e
  where
    named : (y : Token) (xs : List AsmItem) → label_items (y ∷ t.Colon ∷ rest) ≡ Ok xs → IsStatementOf fault rest → IsOfClass fault (y ∷ t.Colon ∷ rest)
    named (t.Label name) xs h is = labelled_of fault name rest is
    named _ xs h is = absurd cc

    go : (b : Bool) → begins_float rest ≡ b → (let res : Result (List AsmItem) LineFault = cond b (Err FloatInstruction) (both (label_items (x ∷ t.Colon ∷ rest)) (statement_items rest)) in res) ≡ Err fault → IsOfClass fault (x ∷ t.Colon ∷ rest)
    go true f h = let is = float_is rest f in class_by fault (x ∷ t.Colon ∷ rest) (err_is h) (behind x is.0 (ap (λ (ts : List Token). x ∷ t.Colon ∷ ts) is.1))
    go false f h =
        let a = after_bad (label_items (x ∷ t.Colon ∷ rest)) (λ (xs : List AsmItem). statement_items rest >>= λ (ys : List AsmItem). Ok (xs ++ ys)) fault own (label_bad (x ∷ t.Colon ∷ rest)) h in
        named x a.value a.read (statement_fault rest fault own (added a.value (statement_items rest) fault a.rest))

own_fault : (tokens : List Token) (fault : LineFault) → IsOwn fault → line_items tokens ≡ Err fault → IsOfClass fault tokens
unfolding line_items has_label
own_fault [] fault own e = alone_fault [] fault own refl e
own_fault (x ∷ []) fault own e = alone_fault (x ∷ []) fault own refl e
own_fault (x ∷ y ∷ more) fault own e = go (is_colon y) refl e
  where
    go : (b : Bool) → is_colon y ≡ b → parts_items b (x ∷ y ∷ more) ≡ Err fault → IsOfClass fault (x ∷ y ∷ more)
    go true c h =
        let same : y ≡ t.Colon = colon_is y c in
        subst (λ (z : Token). IsOfClass fault (x ∷ z ∷ more)) (sym same) (labelled_fault x more fault own (ap (λ (z : Token). parts_items true (x ∷ z ∷ more)) (sym same) ∙ h))
    go false c h = alone_fault (x ∷ y ∷ more) fault own c h

alone_refused : (tokens : List Token) (fault : LineFault) → Refused tokens fault → line_items tokens ≡ Err fault
unfolding line_items parts_items
alone_refused tokens fault r = rw (r.unlabelled, r.unfloat, r.items) refl

labelled_refused : (name : List ℕ) (rest : List Token) (fault : LineFault) → Refused rest fault → line_items (t.Label name ∷ t.Colon ∷ rest) ≡ Err fault
unfolding line_items parts_items has_label label_items
labelled_refused name rest fault r = rw (r.unfloat, r.items) refl

float_refused : (tokens : List Token) → IsFloatLine tokens → line_items tokens ≡ Err FloatInstruction
unfolding line_items parts_items has_label begins_float
float_refused tokens (first [] e none) = ap line_items e
float_refused tokens (first (y ∷ more) e none) = ap line_items e ∙ go (is_colon y) refl
  where
    go : (b : Bool) → is_colon y ≡ b → parts_items b (t.Float ∷ y ∷ more) ≡ Err FloatInstruction
    go true c = absurd (none more (ap (λ (z : Token). z ∷ more) (colon_is y c)))
    go false c = refl
float_refused tokens (behind x more e) = ap line_items e

with_refused : (fault : LineFault) (Is : List Token → Type 0) → ((ts : List Token) → Is ts → Refused ts fault) → (tokens : List Token) → IsLineWith Is tokens → line_items tokens ≡ Err fault
with_refused fault Is refused tokens (alone h) = alone_refused tokens fault (refused tokens h)
with_refused fault Is refused tokens (labelled name rest e h) = ap line_items e ∙ labelled_refused name rest fault (refused rest h)

too_large_refused : (tokens : List Token) → IsLineWith IsTooLarge tokens → line_items tokens ≡ Err NumberTooLarge
too_large_refused = with_refused NumberTooLarge IsTooLarge (statement_refused NumberTooLarge)

formless_refused : (tokens : List Token) → IsLineWith IsFormless tokens → line_items tokens ≡ Err NoSuchForm
formless_refused = with_refused NoSuchForm IsFormless (statement_refused NoSuchForm)

-- ---- every line

other_fault : (tokens : List Token) → line_items tokens ≡ Err BadLine → IsOther tokens
other_fault tokens e = record {
  no_items = λ items is. let c = sym e ∙ line_read tokens items is in absurd cc;
  no_float = λ is. let c = sym e ∙ float_refused tokens is in absurd cc;
  no_range = λ is. let c = sym e ∙ too_large_refused tokens is in absurd cc;
  no_form = λ is. let c = sym e ∙ formless_refused tokens is in absurd cc;
}

pub class_is : (tokens : List Token) (fault : LineFault) → line_items tokens ≡ Err fault → IsOfClass fault tokens
class_is tokens BadLine e = other_fault tokens e
class_is tokens NoSuchForm e = own_fault tokens NoSuchForm tt e
class_is tokens FloatInstruction e = own_fault tokens FloatInstruction tt e
class_is tokens NumberTooLarge e = own_fault tokens NumberTooLarge tt e

other_refused : (tokens : List Token) → IsOther tokens → (r : Result (List AsmItem) LineFault) → line_items tokens ≡ r → r ≡ Err BadLine
other_refused tokens h (Ok items) e = absurd (h.no_items items (line_is tokens items e))
other_refused tokens h (Err BadLine) e = refl
other_refused tokens h (Err NoSuchForm) e = absurd (h.no_form (class_is tokens NoSuchForm e))
other_refused tokens h (Err FloatInstruction) e = absurd (h.no_float (class_is tokens FloatInstruction e))
other_refused tokens h (Err NumberTooLarge) e = absurd (h.no_range (class_is tokens NumberTooLarge e))

pub class_refused : (tokens : List Token) (fault : LineFault) → IsOfClass fault tokens → line_items tokens ≡ Err fault
class_refused tokens BadLine h = other_refused tokens h (line_items tokens) refl
class_refused tokens NoSuchForm h = formless_refused tokens h
class_refused tokens FloatInstruction h = float_refused tokens h
class_refused tokens NumberTooLarge h = too_large_refused tokens h
