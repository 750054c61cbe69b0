-- A token that is spelled is what is read.
use Rattle.std.proofs.Common.{◌≡◌, ℕ, ◌<◌, ◌+◌, ◌-◌, ◌==◌, Bool, true, false, cond, ◌&&◌, eqb, List, [], ◌∷◌, ◌++◌, length, drop, refl, sym, ap, subst, ◌∙◌, arith, inl, inr, lt-ltb, append_assoc}
use Rattle.std.specs.Prelude.{Option, Some, None, nat_lt}
use Rattle.std.specs.Char.{is_ascii_digit, is_ascii_hexdigit}
use Rattle.std.specs.List.{list_all, take_while}
use Rattle.std.proofs.lemmas.Bool.{eqb-true}
use Rattle.std.proofs.lemmas.Bool.Decides.{nat_tests}
use Rattle.std.proofs.lemmas.List.Sums.{take_while-cons}
use Rattle.asm_items.specs.Vocabulary.{is_letter, is_word, is_word_byte, word_kind}
use Rattle.quoted_text.specs.declared.quoted.Within.TheVariants.{Plain}
use Rattle.asm_reader.specs.declared.token.Token.{Token}
use Rattle.asm_reader.specs.declared.token.Token.TheVariants as t
use Rattle.asm_reader.specs.Numbers.{limited, hexadecimal_digits, number_token}
use Rattle.quoted_text.specs.Quoted.{quoted_at}
use Rattle.asm_reader.specs.Tokens.{begins, is_blank, kind_token, run_token, mark_token, text_token, token_at, tokens_from, tokens_of}
use Rattle.asm_reader.proofs.TokenLaws.{both_true, runs, token_first}
use Rattle.c_lex.specs.Grammar.{IsDecimal, IsHexadecimal, IsContent}
use Rattle.asm_grammar.specs.Spelled.{IsNumber, IsParted, mark_of, IsSpelled, word, number, negative, quoted, mark, minus}
use Rattle.asm_grammar.proofs.Quotes.{quoted_read}

-- ---- words and numbers

digit_within : (c : ℕ) → is_ascii_digit c ≡ true → is_word_byte c ≡ true
digit_within c d = grind (arith, nat_tests)

hex_within : (c : ℕ) → is_ascii_hexdigit c ≡ true → is_word_byte c ≡ true
hex_within c d = grind (arith, nat_tests)

letter_within : (c : ℕ) → is_letter c ≡ true → is_word_byte c ≡ true
letter_within c h = rw h refl

no_digit : (c : ℕ) → is_letter c ≡ true → is_ascii_digit c ≡ false
no_digit c h = grind (arith, nat_tests)

x_is_no_digit : is_ascii_digit 120 ≡ false
x_is_no_digit = refl

all_within : (p : ℕ → Bool) → ((c : ℕ) → p c ≡ true → is_word_byte c ≡ true) → (text : List ℕ) → list_all p text ≡ true → list_all is_word_byte text ≡ true
all_within p so [] all = refl
all_within p so (c ∷ cs) all = let h = both_true (p c) (list_all p cs) all in rw (so c h.0, all_within p so cs h.1) refl

-- letters, digits and `_` that begin with a digit and are one number
pub record Digits (sign : Bool) (text : List ℕ) (n : ℕ) : Type 0 where
  pub some : 0 < length text
  pub first : begins is_ascii_digit text ≡ true
  pub all : list_all is_word_byte text ≡ true
  pub read : number_token sign text ≡ t.Number sign (limited n)

begins_some : (p : ℕ → Bool) (text : List ℕ) → begins p text ≡ true → 0 < length text
begins_some p [] h = absurd cc
begins_some p (b ∷ bs) h = omega arith

-- decimal digits alone are no hexadecimal ones
no_hexadecimal : (text : List ℕ) → list_all is_ascii_digit text ≡ true → hexadecimal_digits text ≡ None
unfolding hexadecimal_digits
no_hexadecimal [] all = refl
no_hexadecimal (a ∷ []) all = refl
no_hexadecimal (a ∷ x ∷ ds) all = go (eqb x 120) refl
  where
    digit : is_ascii_digit x ≡ true
    digit = (both_true (is_ascii_digit x) (list_all is_ascii_digit ds) ((both_true (is_ascii_digit a) (list_all is_ascii_digit (x ∷ ds)) all).1)).0

    off : (p : Bool) → (let o : Option (List ℕ) = cond (p && (false && (nat_lt 0 (length ds) && list_all is_ascii_hexdigit ds))) (Some ds) None in o) ≡ None
    off true = refl
    off false = refl

    go : (q : Bool) → eqb x 120 ≡ q → (let o : Option (List ℕ) = cond (eqb a 48 && (q && (nat_lt 0 (length ds) && list_all is_ascii_hexdigit ds))) (Some ds) None in o) ≡ None
    go true e = let is = eqb-true x 120 e in let bad : true ≡ false = sym digit ∙ ap is_ascii_digit is in absurd cc
    go false e = off (eqb a 48)

decimal_digits : (sign : Bool) (text : List ℕ) (n : ℕ) → IsDecimal text n → Digits sign text n
unfolding number_token
decimal_digits sign text n d = record {
  some = begins_some is_ascii_digit text d.some;
  first = d.some;
  all = all_within is_ascii_digit digit_within text d.all;
  read = rw (no_hexadecimal text d.all, d.all) (ap (λ (v : ℕ). t.Number sign (limited v)) (sym d.value));
}

hexadecimal_read : (ds : List ℕ) → begins is_ascii_hexdigit ds ≡ true → list_all is_ascii_hexdigit ds ≡ true → hexadecimal_digits (48 ∷ 120 ∷ ds) ≡ Some ds
unfolding hexadecimal_digits
hexadecimal_read ds some all = rw (lt-ltb 0 (length ds) (begins_some is_ascii_hexdigit ds some), all) refl

hexadecimal_number : (sign : Bool) (text : List ℕ) (n : ℕ) → IsHexadecimal text n → Digits sign text n
unfolding number_token
hexadecimal_number sign text n d = subst (λ (l : List ℕ). Digits sign l n) (sym d.spelled) (record {
  some = omega arith;
  first = refl;
  all = all_within is_ascii_hexdigit hex_within d.digits d.all;
  read = rw (hexadecimal_read d.digits d.some d.all) (ap (λ (v : ℕ). t.Number sign (limited v)) (sym d.value));
})

pub number_digits : (sign : Bool) (text : List ℕ) (n : ℕ) → IsNumber text n → Digits sign text n
number_digits sign text n d = elim d [ inl x ↦ decimal_digits sign text n x | inr x ↦ hexadecimal_number sign text n x ]

number_run : (text : List ℕ) (n : ℕ) → Digits false text n → run_token text ≡ t.Number false (limited n)
unfolding run_token
number_run text n d = rw d.first d.read

word_run : (text : List ℕ) → is_word text ≡ true → (0 < length text) × (list_all is_word_byte text ≡ true) × (run_token text ≡ kind_token text (word_kind text))
unfolding run_token
word_run [] h = absurd cc
word_run (b ∷ bs) h =
    let p = both_true (is_letter b) (list_all is_word_byte bs) h in
    (omega arith, rw (letter_within b p.0, p.1) refl, rw (no_digit b p.0) refl)

-- ---- the token at the front

pub dropped : (xs ys : List ℕ) → drop (length xs) (xs ++ ys) ≡ ys
dropped [] ys = refl
dropped (x ∷ xs) ys = dropped xs ys

not_taken : (p : ℕ → Bool) (rest : List ℕ) → begins p rest ≡ false → take_while p rest ≡ []
not_taken p [] h = refl
not_taken p (x ∷ xs) h = take_while-cons p x xs ∙ rw h refl

pub run_taken : (p : ℕ → Bool) (run rest : List ℕ) → list_all p run ≡ true → begins p rest ≡ false → take_while p (run ++ rest) ≡ run
run_taken p [] rest all ended = not_taken p rest ended
run_taken p (x ∷ xs) rest all ended =
    let h = both_true (p x) (list_all p xs) all in
    take_while-cons p x (xs ++ rest) ∙ rw h.0 (ap (λ (ys : List ℕ). x ∷ ys) (run_taken p xs rest h.1 ended))

pub begins_more : (p : ℕ → Bool) (a r : List ℕ) → begins p a ≡ true → begins p (a ++ r) ≡ true
begins_more p [] r h = absurd cc
begins_more p (b ∷ bs) r h = h

negative_at : (digits rest : List ℕ) (n : ℕ) → Digits true digits n → IsParted rest → token_at (45 ∷ (digits ++ rest)) ≡ (t.Number true (limited n), length digits)
unfolding token_at
negative_at digits rest n d ended =
    let run : take_while is_word_byte (digits ++ rest) ≡ digits = run_taken is_word_byte digits rest d.all ended in
    let one : token_at (45 ∷ (digits ++ rest)) ≡ (number_token true (take_while is_word_byte (digits ++ rest)), length (take_while is_word_byte (digits ++ rest))) = rw (begins_more is_ascii_digit digits rest d.first) refl in
    one ∙ ap (λ (l : List ℕ). (number_token true l, length l)) run ∙ ap (λ (x : Token). (x, length digits)) d.read

long : (xs ys : List ℕ) → length (xs ++ ys) ≡ length xs + length ys
long [] ys = omega arith
long (x ∷ xs) ys = let l = long xs ys in omega (arith, l)

quoted_front : (inner content rest : List ℕ) → IsContent 34 inner content → token_at (34 ∷ (inner ++ 34 ∷ rest)) ≡ (t.Text content, length (inner ++ 34 ∷ []))
unfolding token_at
quoted_front inner content rest spelled =
    let read = quoted_read (inner ++ 34 ∷ rest) content rest (record { inner = inner; whole = refl; spelled = spelled }) in
    let one : token_at (34 ∷ (inner ++ 34 ∷ rest)) ≡ text_token (inner ++ 34 ∷ rest) (quoted_at 34 Plain (inner ++ 34 ∷ rest)) = refl in
    let a = long inner (34 ∷ rest) in
    let b = long inner (34 ∷ []) in
    let k : length (inner ++ 34 ∷ rest) - length rest ≡ length (inner ++ 34 ∷ []) = omega (arith, a, b) in
    one ∙ ap (text_token (inner ++ 34 ∷ rest)) read ∙ ap (λ (n : ℕ). (t.Text content, n)) k

record Alone (b : ℕ) (bs : List ℕ) (x : Token) : Type 0 where
  no_blank : is_blank b ≡ false
  no_comment : (b == 59) ≡ false
  at : token_at (b ∷ bs) ≡ (x, 0)

alone_by : (b c : ℕ) (bs : List ℕ) (x : Token) → b ≡ c → Alone c bs x → Alone b bs x
alone_by b c bs x e a = subst (λ (n : ℕ). Alone n bs x) (sym e) a

some_is : {A : Type 0} {x y : A} → (let o : Option A = Some x in o ≡ Some y) → x ≡ y
some_is h = cc

module _ (bs : List ℕ) where
  colon : Alone 58 bs t.Colon
  unfolding token_at mark_token
  colon = record { no_blank = refl; no_comment = refl; at = refl }

  comma : Alone 44 bs t.Comma
  unfolding token_at mark_token
  comma = record { no_blank = refl; no_comment = refl; at = refl }

  opens : Alone 91 bs t.Open
  unfolding token_at mark_token
  opens = record { no_blank = refl; no_comment = refl; at = refl }

  closes : Alone 93 bs t.Close
  unfolding token_at mark_token
  closes = record { no_blank = refl; no_comment = refl; at = refl }

  plus : Alone 43 bs t.Plus
  unfolding token_at mark_token
  plus = record { no_blank = refl; no_comment = refl; at = refl }

mark_at : (b : ℕ) (bs : List ℕ) (x : Token) → mark_of b ≡ Some x → Alone b bs x
mark_at b bs x e = go (eqb b 58) (eqb b 44) (eqb b 91) (eqb b 93) (eqb b 43) refl refl refl refl refl e
  where
    one : (c : ℕ) (y : Token) → b ≡ c → Alone c bs y → y ≡ x → Alone b bs x
    one c y is a same = alone_by b c bs x is (subst (Alone c bs) same a)

    go : (p q r s u : Bool) → eqb b 58 ≡ p → eqb b 44 ≡ q → eqb b 91 ≡ r → eqb b 93 ≡ s → eqb b 43 ≡ u
        → cond p (Some t.Colon) (cond q (Some t.Comma) (cond r (Some t.Open) (cond s (Some t.Close) (cond u (Some t.Plus) None)))) ≡ Some x → Alone b bs x
    go true q r s u ep eq er es eu h = one 58 t.Colon (eqb-true b 58 ep) (colon bs) (some_is h)
    go false true r s u ep eq er es eu h = one 44 t.Comma (eqb-true b 44 eq) (comma bs) (some_is h)
    go false false true s u ep eq er es eu h = one 91 t.Open (eqb-true b 91 er) (opens bs) (some_is h)
    go false false false true u ep eq er es eu h = one 93 t.Close (eqb-true b 93 es) (closes bs) (some_is h)
    go false false false false true ep eq er es eu h = one 43 t.Plus (eqb-true b 43 eu) (plus bs) (some_is h)
    go false false false false false ep eq er es eu h = absurd cc

minus_at : (bs : List ℕ) → begins is_ascii_digit bs ≡ false → token_at (45 ∷ bs) ≡ (t.Minus, 0)
unfolding token_at mark_token
minus_at bs h = rw h refl

-- a token and what stands behind it
pub front_read : (text rest : List ℕ) (x : Token) → IsSpelled text rest x → tokens_of (text ++ rest) ≡ x ∷ tokens_of rest
front_read text rest x (word is ended e) =
    let r = word_run text is in
    runs text rest r.0 r.1 ended ∙ ap (λ (y : Token). y ∷ tokens_of rest) (r.2 ∙ sym e)
front_read text rest x (number n is ended e) =
    let d = number_digits false text n is in
    runs text rest d.some d.all ended ∙ ap (λ (y : Token). y ∷ tokens_of rest) (number_run text n d ∙ sym e)
front_read text rest x (negative digits n spelled is ended e) =
    let d = number_digits true digits n is in
    ap (λ (l : List ℕ). tokens_of (l ++ rest)) spelled
    ∙ token_first 45 (length digits) (digits ++ rest) rest (t.Number true (limited n)) refl refl (negative_at digits rest n d ended) (dropped digits rest)
    ∙ ap (λ (y : Token). y ∷ tokens_of rest) (sym e)
front_read text rest x (quoted inner content spelled is e) =
    let whole : (inner ++ 34 ∷ []) ++ rest ≡ inner ++ 34 ∷ rest = append_assoc inner (34 ∷ []) rest in
    ap (λ (l : List ℕ). tokens_of (l ++ rest)) spelled
    ∙ token_first 34 (length (inner ++ 34 ∷ [])) ((inner ++ 34 ∷ []) ++ rest) rest (t.Text content) refl refl
    (ap (λ (l : List ℕ). token_at (34 ∷ l)) whole ∙ quoted_front inner content rest is) (dropped (inner ++ 34 ∷ []) rest)
    ∙ ap (λ (y : Token). y ∷ tokens_of rest) (sym e)
front_read text rest x (mark b spelled is) =
    let a = mark_at b rest x is in
    ap (λ (l : List ℕ). tokens_of (l ++ rest)) spelled ∙ token_first b 0 rest rest x a.no_blank a.no_comment a.at refl
front_read text rest x (minus spelled ended e) =
    ap (λ (l : List ℕ). tokens_of (l ++ rest)) spelled ∙ token_first 45 0 rest rest t.Minus refl refl (minus_at rest ended) refl ∙ ap (λ (y : Token). y ∷ tokens_of rest) (sym e)

pub nothing_read : tokens_of [] ≡ []
unfolding tokens_of tokens_from
nothing_read = refl
