-- No token has an LF.
use Rattle.std.proofs.Common.{◌≡◌, ℕ, ◌+◌, Bool, true, false, cond, eqb, not, List, [], ◌∷◌, ◌++◌, count_by, refl, sym, ap, ◌∙◌, arith, ◌⊎◌, inl, inr}
use Rattle.std.specs.Prelude.{Option, Some, None}
use Rattle.std.specs.Char.{is_ascii_digit, is_ascii_hexdigit}
use Rattle.std.specs.List.{list_all}
use Rattle.std.proofs.lemmas.Bool.{ne_eqb, eqb-true}
use Rattle.std.proofs.lemmas.Bool.Decides.{nat_tests}
use Rattle.std.proofs.lemmas.List.Folds.{list_all-append}
use Rattle.std.proofs.lemmas.List.Sums.{sum_by-append}
use Rattle.c_lex.specs.declared.token.Punct.{Punct}
use Rattle.c_lex.specs.declared.token.Kind.{Kind}
use Rattle.c_lex.specs.declared.token.Kind.TheVariants as k
use Rattle.c_lex.specs.Bytes.{is_word_byte}
use Rattle.c_lex.specs.Marks.{marks, mark_of}
use Rattle.quoted_text.specs.Quoted.{escaped}
use Rattle.c_lex.specs.Grammar.{IsDecimal, IsHexadecimal, IsPiece, itself, escape, code, IsContent, nothing, piece, IsQuoted, IsSpelling}
use Rattle.c_lex.proofs.Rows.{all_rows, of_rows}
use Rattle.c_lex.proofs.Stands.{both}

abbrev pub other : ℕ → Bool
other b = not (eqb b 10)

abbrev pub lines_in : List ℕ → ℕ
lines_in text = count_by (λ b. eqb b 10) text

pub lines_append : (a b : List ℕ) → lines_in (a ++ b) ≡ lines_in a + lines_in b
lines_append a b = sum_by-append (λ x. cond (eqb x 10) 1 0) a b

count_by_test : (b : Bool) (n : ℕ) → not b ≡ true → n ≡ 0 → (0 + cond b 1 0) + n ≡ 0
count_by_test true n e z = absurd cc
count_by_test false n e z = omega arith

pub none_counted : (text : List ℕ) → list_all other text ≡ true → lines_in text ≡ 0
none_counted [] all = refl
none_counted (b ∷ bs) all =
    let h = both (other b) (list_all other bs) all in
    lines_append (b ∷ []) bs ∙ count_by_test (eqb b 10) (lines_in bs) h.0 (none_counted bs h.1)

all_other : (p : ℕ → Bool) → ((b : ℕ) → p b ≡ true → other b ≡ true) → (text : List ℕ) → list_all p text ≡ true → list_all other text ≡ true
all_other p so [] all = refl
all_other p so (b ∷ bs) all = let h = both (p b) (list_all p bs) all in rw (so b h.0, all_other p so bs h.1) refl

word_other : (b : ℕ) → is_word_byte b ≡ true → other b ≡ true
word_other b e = grind (arith, nat_tests)

digit_other : (b : ℕ) → is_ascii_digit b ≡ true → other b ≡ true
digit_other b e = grind (arith, nat_tests)

hex_other : (b : ℕ) → is_ascii_hexdigit b ≡ true → other b ≡ true
hex_other b e = grind (arith, nat_tests)

escaped_other : (c : ℕ) (o : Option ℕ) → escaped c ≡ o → (b : ℕ) → o ≡ Some b → (t : Bool) → eqb c 10 ≡ t → not t ≡ true
unfolding escaped
escaped_other c o e b is false t = refl
escaped_other c o e b is true t =
    let ten : c ≡ 10 = eqb-true c 10 t in
    let nothing : o ≡ None = sym e ∙ ap escaped ten in
    let clash = sym is ∙ nothing in
    absurd cc

both_other : (a b : List ℕ) → list_all other a ≡ true → list_all other b ≡ true → list_all other (a ++ b) ≡ true
both_other a b one two = list_all-append other a b ∙ rw (one, two) refl

piece_other : (q : ℕ) (text : List ℕ) (b : ℕ) → IsPiece q text b → list_all other text ≡ true
piece_other q text b (itself no_quote no_lf no_slash e) = ap (list_all other) e ∙ rw (ne_eqb b 10 no_lf) refl
piece_other q text b (escape c is e) = ap (list_all other) e ∙ rw (escaped_other c (Some b) is b refl (eqb c 10) refl) refl
piece_other q text b (code h l high low e value) = ap (list_all other) e ∙ rw (hex_other h high, hex_other l low) refl

content_other : {q : ℕ} {text content : List ℕ} → IsContent q text content → list_all other text ≡ true
content_other (nothing e f) = ap (list_all other) e
content_other {q} (piece first rest b bs e f is more) = ap (list_all other) e ∙ both_other first rest (piece_other q first b is) (content_other more)

quoted_other : (q : ℕ) (text content : List ℕ) → other q ≡ true → IsQuoted q text content → list_all other text ≡ true
quoted_other q text content no_lf d =
    let end : list_all other (q ∷ []) ≡ true = rw no_lf refl in
    ap (list_all other) d.whole ∙ rw (no_lf, both_other d.inner (q ∷ []) (content_other d.spelled) end) refl

mark_other : (text : List ℕ) (m : Punct) → mark_of text ≡ Some m → list_all other text ≡ true
unfolding marks all_rows
mark_other text m e = of_rows (list_all other) text m refl e

hexadecimal_other : (text : List ℕ) (n : ℕ) → IsHexadecimal text n → list_all other text ≡ true
hexadecimal_other text n h = ap (list_all other) h.spelled ∙ all_other is_ascii_hexdigit hex_other h.digits h.all

number_other : (text : List ℕ) (n : ℕ) → IsDecimal text n ⊎ IsHexadecimal text n → list_all other text ≡ true
number_other text n d = elim d [ inl x ↦ all_other is_ascii_digit digit_other text x.all | inr x ↦ hexadecimal_other text n x ]

pub spelled_other : (text : List ℕ) (kind : Kind) → IsSpelling text kind → list_all other text ≡ true
spelled_other text (k.Word word) d = all_other is_word_byte word_other text d.1.all
spelled_other text (k.Number n) d = number_other text n d.1
spelled_other text (k.Char b) d = quoted_other 39 text (b ∷ []) refl d
spelled_other text (k.Text content) d = quoted_other 34 text content refl d
spelled_other text (k.Punct m) d = mark_other text m d
