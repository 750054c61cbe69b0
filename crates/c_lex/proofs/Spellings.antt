-- A text spells the token that the grammar says.
use Rattle.std.proofs.Common.{◌≡◌, ℕ, ◌<◌, ◌+◌, ◌^◌, Bool, true, false, cond, eqb, ltb, not, ◌&&◌, ◌||◌, List, [], ◌∷◌, ◌++◌, length, drop, refl, sym, ap, subst, ◌∙◌, arith, append-nil, lt-ltb, ◌⊎◌, inl, inr}
use Rattle.std.specs.Prelude.{Option, Some, option_map}
use Rattle.std.specs.Char.{is_ascii_digit, is_ascii_hexdigit}
use Rattle.std.specs.List.{list_all, take_while}
use Rattle.std.proofs.lemmas.Bool.{ltb-true, eqb-true, eq-eqb}
use Rattle.std.proofs.lemmas.Bool.Decides.{nat_tests}
use Rattle.std.proofs.lemmas.List.{nil_from_length, length-append}
use Rattle.c_lex.specs.declared.token.Punct.{Punct}
use Rattle.c_lex.specs.declared.token.Kind.{Kind}
use Rattle.c_lex.specs.declared.token.Kind.TheVariants as k
use Rattle.quoted_text.specs.declared.quoted.Within.TheVariants as w
use Rattle.c_lex.specs.Bytes.{begins, is_letter, is_quote}
use Rattle.kit_base.specs.Digits.{value_in}
use Rattle.c_lex.specs.Numbers.{begins_hex, number_len, number_value}
use Rattle.c_lex.specs.Marks.{marks, mark_of}
use Rattle.quoted_text.specs.Quoted.{quoted_at}
use Rattle.c_lex.specs.Spelling.{spelling_of, word_of, number_of, quoted_of, content_kind, char_of, whole_content}
use Rattle.c_lex.specs.Grammar.{IsDecimal, IsHexadecimal, IsQuoted, IsSpelling}
use Rattle.c_lex.proofs.Stands.{some_is, both}
use Rattle.c_lex.proofs.Rows.{all_rows, of_rows}
use Rattle.c_lex.proofs.Words.{run_of, run_taken, is_word_of, whole_word, word_whole}
use Rattle.c_lex.proofs.Numbers.{is_number_of, number_whole, number_kind}
use Rattle.c_lex.proofs.Quotes.{Quote, is_quoted_of, whole_kind}
use Rattle.c_lex.proofs.Signs.{Sign, is_mark_of, spelled_mark}
use Rattle.c_lex.proofs.Contents.{read_inside, content_read}

-- ---- numbers

digit_no_letter : (b : ℕ) → is_ascii_digit b ≡ true → is_letter b ≡ false
digit_no_letter b e = grind (arith, nat_tests)

digits_no_letter : (text : List ℕ) → begins is_ascii_digit text ≡ true → begins is_letter text ≡ false
digits_no_letter [] e = absurd cc
digits_no_letter (b ∷ bs) e = digit_no_letter b e

all_taken : (p : ℕ → Bool) (text : List ℕ) → length (take_while p text) ≡ length text → list_all p text ≡ true
all_taken p text e =
    let r = run_of p text in
    let size = ap length r.whole in
    let rest = drop (length (take_while p text)) text in
    let empty : rest ≡ [] = nil_from_length rest (omega (arith, length-append (take_while p text) rest)) in
    let same : text ≡ take_while p text = r.whole ∙ ap (λ (l : List ℕ). take_while p text ++ l) empty ∙ append-nil (take_while p text) in
    ap (list_all p) same ∙ r.all

taken_all : (p : ℕ → Bool) (text : List ℕ) → list_all p text ≡ true → length (take_while p text) ≡ length text
taken_all p text all = ap length (ap (take_while p) (sym (append-nil text)) ∙ run_taken p text [] all refl)

no_x : (b : ℕ) → is_ascii_digit b ≡ true → eqb b 120 ≡ false
no_x b e = grind (arith, nat_tests)

and_false : (b : Bool) → (b && false) ≡ false
and_false true = refl
and_false false = refl

digits_no_hex : (text : List ℕ) → list_all is_ascii_digit text ≡ true → begins_hex text ≡ false
digits_no_hex [] all = refl
digits_no_hex (z ∷ []) all = refl
digits_no_hex (z ∷ x ∷ bs) all =
    let h = both (is_ascii_digit z) (list_all is_ascii_digit (x ∷ bs)) all in
    let g = both (is_ascii_digit x) (list_all is_ascii_digit bs) h.1 in
    rw (no_x x g.0) (and_false (eqb z 48))

record Hex (text : List ℕ) : Type 0 where
  digits : List ℕ
  spelled : text ≡ 48 ∷ 120 ∷ digits
  some : begins is_ascii_hexdigit digits ≡ true

hex_is : (text : List ℕ) → begins_hex text ≡ true → Hex text
hex_is [] e = absurd cc
hex_is (z ∷ []) e = absurd cc
hex_is (z ∷ x ∷ bs) e =
    let h = both (eqb z 48) _ e in
    let g = both (eqb x 120) _ h.1 in
    record { digits = bs; spelled = ap (λ (n : ℕ). n ∷ x ∷ bs) (eqb-true z 48 h.0) ∙ ap (λ (n : ℕ). 48 ∷ n ∷ bs) (eqb-true x 120 g.0); some = g.1 }

hex_spelled : (text digits : List ℕ) → text ≡ 48 ∷ 120 ∷ digits → begins is_ascii_hexdigit digits ≡ true → number_len text ≡ length text → IsHexadecimal text (number_value text)
unfolding number_len number_value
hex_spelled text digits is some whole =
    let len : number_len (48 ∷ 120 ∷ digits) ≡ 2 + length (take_while is_ascii_hexdigit digits) = rw some refl in
    let value : number_value (48 ∷ 120 ∷ digits) ≡ value_in 16 digits = rw some refl in
    let all : 2 + length (take_while is_ascii_hexdigit digits) ≡ length (48 ∷ 120 ∷ digits) = sym len ∙ ap number_len (sym is) ∙ whole ∙ ap length is in
    record { digits = digits; spelled = is; some = some; all = all_taken is_ascii_hexdigit digits (omega arith); value = ap number_value is ∙ value }

number_spelled : (text : List ℕ) → begins is_ascii_digit text ≡ true → number_len text ≡ length text → (b : Bool) → begins_hex text ≡ b → IsDecimal text (number_value text) ⊎ IsHexadecimal text (number_value text)
unfolding number_len number_value
number_spelled text digit whole true e = let h = hex_is text e in inr (hex_spelled text h.digits h.spelled h.some whole)
number_spelled text digit whole false e =
    let len : number_len text ≡ length (take_while is_ascii_digit text) = rw e refl in
    let value : number_value text ≡ value_in 10 text = rw e refl in
    inl (record { some = digit; all = all_taken is_ascii_digit text (sym len ∙ whole); value = value })

record Counted (text : List ℕ) (n : ℕ) : Type 0 where
  digit : begins is_ascii_digit text ≡ true
  len : number_len text ≡ length text
  value : number_value text ≡ n

decimal_counted : (text : List ℕ) (n : ℕ) → IsDecimal text n → Counted text n
unfolding number_len number_value
decimal_counted text n d =
    let e = digits_no_hex text d.all in
    record { digit = d.some; len = rw e (taken_all is_ascii_digit text d.all); value = rw e (sym d.value) }

hex_counted : (digits : List ℕ) → begins is_ascii_hexdigit digits ≡ true → list_all is_ascii_hexdigit digits ≡ true → Counted (48 ∷ 120 ∷ digits) (value_in 16 digits)
unfolding number_len number_value
hex_counted digits some all =
    record { digit = refl; len = rw some (let e = taken_all is_ascii_hexdigit digits all in omega arith); value = rw some refl }

hexadecimal_counted : (text : List ℕ) (n : ℕ) → IsHexadecimal text n → Counted text n
hexadecimal_counted text n h = subst (λ (x : List ℕ × ℕ). Counted x.0 x.1) (λ i. (sym h.spelled i, sym h.value i)) (hex_counted h.digits h.some h.all)

counted_spelled : (text : List ℕ) (n : ℕ) → n < 2 ^ 32 → Counted text n → spelling_of text ≡ Some (k.Number n)
unfolding number_of
counted_spelled text n below c =
    let low : ltb n (2 ^ 32) ≡ true = lt-ltb n (2 ^ 32) below in
    let own : number_of text ≡ Some (k.Number n) = rw (c.value, c.len, eq-eqb (length text) (length text) refl, low) refl in
    is_number_of text (record { letter = digits_no_letter text c.digit; digit = c.digit }) ∙ own

-- ---- texts and characters

quote_is : (q : ℕ) → is_quote q ≡ true → eqb q 34 ≡ false → q ≡ 39
quote_is q e other = eqb-true q 39 (by (eqb q 34) (eqb q 39) other e)
  where
    by : (a b : Bool) → a ≡ false → (a || b) ≡ true → b ≡ true
    by true b f h = absurd cc
    by false b f h = h

quoted_by : (q : ℕ) (f v : List ℕ) → quoted_at q w.Plain f ≡ Some (v, []) → IsQuoted q (q ∷ f) v
quoted_by q f v e = let i = read_inside q f v [] e in record { inner = i.text; whole = ap (λ (l : List ℕ). q ∷ l) i.whole; spelled = i.spelled }

char_spelled : (text v : List ℕ) (kind : Kind) → IsQuoted 39 text v → char_of v ≡ Some kind → IsSpelling text kind
char_spelled text [] kind d e = absurd cc
char_spelled text (b ∷ []) kind d e = subst (λ (x : Kind). IsSpelling text x) (some_is e) d
char_spelled text (b ∷ c ∷ bs) kind d e = absurd cc

kind_spelled : (q : ℕ) (f v : List ℕ) (kind : Kind) → is_quote q ≡ true → IsQuoted q (q ∷ f) v → (b : Bool) → eqb q 34 ≡ b → cond b (Some (k.Text v)) (char_of v) ≡ Some kind → IsSpelling (q ∷ f) kind
kind_spelled q f v kind quote d true is e = subst (λ (x : Kind). IsSpelling (q ∷ f) x) (some_is e) (subst (λ (c : ℕ). IsQuoted c (q ∷ f) v) (eqb-true q 34 is) d)
kind_spelled q f v kind quote d false is e = char_spelled (q ∷ f) v kind (subst (λ (c : ℕ). IsQuoted c (q ∷ f) v) (quote_is q quote is) d) e

quoted_spelled : (text : List ℕ) (kind : Kind) → begins is_quote text ≡ true → quoted_of text ≡ Some kind → IsSpelling text kind
unfolding quoted_of
quoted_spelled [] kind quote e = absurd cc
quoted_spelled (q ∷ f) kind quote e =
    let h = whole_kind q (quoted_at q w.Plain f) kind e in
    kind_spelled q f h.0 kind quote (quoted_by q f h.0 h.1) (eqb q 34) refl h.2

spelled_quoted : (q : ℕ) (text v : List ℕ) (kind : Kind) → IsQuoted q text v → eqb 92 q ≡ false → Quote (q ∷ []) → content_kind q v ≡ Some kind → spelling_of text ≡ Some kind
spelled_quoted q text v kind d other class is =
    let read : quoted_at q w.Plain (d.inner ++ q ∷ []) ≡ Some (v, []) = content_read d.spelled [] other in
    let own : whole_content q (quoted_at q w.Plain (d.inner ++ q ∷ [])) ≡ Some kind = ap (whole_content q) read ∙ is in
    ap spelling_of d.whole ∙ is_quoted_of q (d.inner ++ q ∷ []) (record { letter = class.letter; digit = class.digit; quote = class.quote }) ∙ own

-- ---- marks

is_sign : ℕ → Bool
is_sign b = not (is_letter b || (is_ascii_digit b || is_quote b))

none_of : (a b c : Bool) → not (a || (b || c)) ≡ true → (a ≡ false) × (b ≡ false) × (c ≡ false)
none_of false false false h = (refl, refl, refl)
none_of false false true h = absurd cc
none_of false true c h = absurd cc
none_of true b c h = absurd cc

sign_of : (text : List ℕ) → begins is_sign text ≡ true → Sign text
unfolding is_sign
sign_of [] e = absurd cc
sign_of (b ∷ bs) e = let h = none_of (is_letter b) (is_ascii_digit b) (is_quote b) e in record { letter = h.0; digit = h.1; quote = h.2 }

mark_sign : (text : List ℕ) (m : Punct) → mark_of text ≡ Some m → Sign text
unfolding marks all_rows is_sign
mark_sign text m e = sign_of text (of_rows (begins is_sign) text m refl e)

-- ---- all tokens

by_class : Bool → Bool → Bool → List ℕ → Option Kind
by_class a b c text = cond a (word_of text) (cond b (number_of text) (cond c (quoted_of text) (option_map k.Punct (mark_of text))))

word_spelled : (text : List ℕ) (kind : Kind) → begins is_letter text ≡ true → word_of text ≡ Some kind → IsSpelling text kind
word_spelled text kind letter e = let h = word_whole text kind e in subst (λ (x : Kind). IsSpelling text x) h.1 (refl, record { letter = letter; all = h.0 })

counts_spelled : (text : List ℕ) (kind : Kind) → begins is_ascii_digit text ≡ true → number_of text ≡ Some kind → IsSpelling text kind
counts_spelled text kind digit e =
    let h = number_kind text kind e in
    let whole = number_whole text (rw e refl) in
    subst (λ (x : Kind). IsSpelling text x) h.1 (ltb-true (number_value text) (2 ^ 32) h.0, number_spelled text digit whole (begins_hex text) refl)

mark_spelled : (text : List ℕ) (kind : Kind) → option_map k.Punct (mark_of text) ≡ Some kind → IsSpelling text kind
mark_spelled text kind e = let h = spelled_mark (mark_of text) kind e in subst (λ (x : Kind). IsSpelling text x) h.2 h.1

pub spelled_so : (text : List ℕ) (kind : Kind) → spelling_of text ≡ Some kind → IsSpelling text kind
unfolding spelling_of by_class
spelled_so text kind e = by (begins is_letter text) (begins is_ascii_digit text) (begins is_quote text) refl refl refl e
  where
    by : (a b c : Bool) → begins is_letter text ≡ a → begins is_ascii_digit text ≡ b → begins is_quote text ≡ c → cond a (word_of text) (cond b (number_of text) (cond c (quoted_of text) (option_map k.Punct (mark_of text)))) ≡ Some kind → IsSpelling text kind
    by true b c letter digit quote h = word_spelled text kind letter h
    by false true c letter digit quote h = counts_spelled text kind digit h
    by false false true letter digit quote h = quoted_spelled text kind quote h
    by false false false letter digit quote h = mark_spelled text kind h

number_so : (text : List ℕ) (n : ℕ) → IsDecimal text n ⊎ IsHexadecimal text n → Counted text n
number_so text n d = elim d [ inl x ↦ decimal_counted text n x | inr x ↦ hexadecimal_counted text n x ]

pub so_spelled : (text : List ℕ) (kind : Kind) → IsSpelling text kind → spelling_of text ≡ Some kind
so_spelled text (k.Word word) d = is_word_of text d.1.letter ∙ whole_word text d.1.all ∙ ap (λ (l : List ℕ). Some (k.Word l)) (sym d.0)
so_spelled text (k.Number n) d = counted_spelled text n d.0 (number_so text n d.1)
so_spelled text (k.Char b) d = spelled_quoted 39 text (b ∷ []) (k.Char b) d refl (record { letter = refl; digit = refl; quote = refl }) refl
so_spelled text (k.Text content) d = spelled_quoted 34 text content (k.Text content) d refl (record { letter = refl; digit = refl; quote = refl }) refl
so_spelled text (k.Punct m) d = is_mark_of text (mark_sign text m d) ∙ ap (option_map k.Punct) d
