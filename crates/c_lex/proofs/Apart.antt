-- No gap begins where a token stands.
use Rattle.std.proofs.Common.{◌≡◌, ℕ, Bool, true, false, eqb, ltb, not, ◌&&◌, ◌||◌, List, [], ◌∷◌, ◌++◌, refl, sym, ap, subst, ◌∙◌, arith, ◌⊎◌, inl, inr}
use Rattle.std.specs.Prelude.{Some, option_map}
use Rattle.std.specs.Char.{is_ascii_digit}
use Rattle.std.proofs.lemmas.Bool.{ltb-true, ltb-false}
use Rattle.std.proofs.lemmas.Bool.Decides.{nat_tests}
use Rattle.c_lex.specs.declared.token.Punct.{Punct}
use Rattle.c_lex.specs.declared.token.Punct.TheVariants as m
use Rattle.c_lex.specs.declared.token.Kind.{Kind}
use Rattle.c_lex.specs.declared.token.Kind.TheVariants as k
use Rattle.c_lex.specs.Bytes.{begins, is_letter, is_blank, opens_comment}
use Rattle.c_lex.specs.Gaps.{gap_len}
use Rattle.c_lex.specs.Marks.{marks, mark_of}
use Rattle.c_lex.specs.Spelling.{IsToken, spelling_of, ends_so, is_mark_before}
use Rattle.c_lex.specs.Grammar.{IsDecimal, IsHexadecimal, IsSpelling, IsGap, blank, splice, long_splice, line, block, BeginsGap}
use Rattle.c_lex.proofs.Rows.{all_rows, of_rows}
use Rattle.c_lex.proofs.Stands.{some_is, token_some}
use Rattle.c_lex.proofs.Signs.{spelled_mark}
use Rattle.c_lex.proofs.Spellings.{spelled_so}
use Rattle.c_lex.proofs.Comments.{gap_is}

-- ---- no token begins with a blank or a backslash

abbrev is_opening : ℕ → Bool
is_opening b = not (is_blank b || (eqb b 92))

letter_opening : (b : ℕ) → is_letter b ≡ true → is_opening b ≡ true
letter_opening b e = grind (arith, nat_tests)

digit_opening : (b : ℕ) → is_ascii_digit b ≡ true → is_opening b ≡ true
digit_opening b e = grind (arith, nat_tests)

begins_so : (p q : ℕ → Bool) → ((b : ℕ) → p b ≡ true → q b ≡ true) → (text : List ℕ) → begins p text ≡ true → begins q text ≡ true
begins_so p q so [] e = absurd cc
begins_so p q so (b ∷ bs) e = so b e

number_opening : (text : List ℕ) (n : ℕ) → IsDecimal text n ⊎ IsHexadecimal text n → begins is_opening text ≡ true
number_opening text n d = elim d [ inl x ↦ begins_so is_ascii_digit is_opening digit_opening text x.some | inr x ↦ ap (begins is_opening) x.spelled ]

mark_opening : (text : List ℕ) (mark : Punct) → mark_of text ≡ Some mark → begins is_opening text ≡ true
unfolding marks all_rows
mark_opening text mark e = of_rows (begins is_opening) text mark refl e

opening_of : (text : List ℕ) (kind : Kind) → IsSpelling text kind → begins is_opening text ≡ true
opening_of text (k.Word word) d = begins_so is_letter is_opening letter_opening text d.1.letter
opening_of text (k.Number n) d = number_opening text n d.1
opening_of text (k.Char b) d = ap (begins is_opening) d.whole
opening_of text (k.Text content) d = ap (begins is_opening) d.whole
opening_of text (k.Punct mark) d = mark_opening text mark d

-- ---- no mark opens a comment

no_comment : List ℕ → Bool
no_comment [] = true
no_comment (x ∷ []) = true
no_comment (x ∷ y ∷ ys) = not (eqb x 47 && opens_comment y)

mark_no_comment : (y : ℕ) (ys : List ℕ) (mark : Punct) → mark_of (47 ∷ y ∷ ys) ≡ Some mark → not (opens_comment y) ≡ true
unfolding marks all_rows no_comment
mark_no_comment y ys mark e = of_rows no_comment (47 ∷ y ∷ ys) mark refl e

slash_mark : mark_of (47 ∷ []) ≡ Some m.Slash
unfolding mark_of marks
slash_mark = refl

is_mark_of : (xs : List ℕ) → spelling_of (47 ∷ xs) ≡ option_map k.Punct (mark_of (47 ∷ xs))
unfolding spelling_of
is_mark_of xs = refl

clash : (b : Bool) → not b ≡ true → b ≡ true → ⊥
clash true e f = absurd cc
clash false e f = absurd cc

no_slash : (xs rest : List ℕ) (kind : Kind) → IsToken (47 ∷ xs) rest kind → begins opens_comment (xs ++ rest) ≡ true → ⊥
no_slash [] rest kind t opens =
    let q = spelled_mark (mark_of (47 ∷ [])) kind (sym (is_mark_of []) ∙ t.spelled) in
    let mark : m.Slash ≡ q.0 = some_is (sym slash_mark ∙ q.1) in
    let before : not (begins opens_comment rest) ≡ true = ap (λ (x : Punct). is_mark_before x rest) mark ∙ ap (λ (x : Kind). ends_so x (47 ∷ []) rest) q.2 ∙ t.ends in
    clash (begins opens_comment rest) before opens
no_slash (y ∷ ys) rest kind t opens =
    let q = spelled_mark (mark_of (47 ∷ y ∷ ys)) kind (sym (is_mark_of (y ∷ ys)) ∙ t.spelled) in
    clash (opens_comment y) (mark_no_comment y ys q.0 q.1) opens

head_is : {x y : ℕ} {a b : List ℕ} → x ∷ a ≡ y ∷ b → x ≡ y
head_is e = cc

tail_is : {x y : ℕ} {a b : List ℕ} → x ∷ a ≡ y ∷ b → a ≡ b
tail_is e = cc

at_slash : (x c : ℕ) (xs rest cs : List ℕ) (kind : Kind) → IsToken (x ∷ xs) rest kind → x ∷ (xs ++ rest) ≡ 47 ∷ c ∷ cs → opens_comment c ≡ true → ⊥
at_slash x c xs rest cs kind t e opens =
    no_slash xs rest kind (subst (λ (b : ℕ). IsToken (b ∷ xs) rest kind) (head_is e) t) (ap (begins opens_comment) (tail_is e) ∙ opens)

no_gap : (x : ℕ) (xs rest text after : List ℕ) (kind : Kind) → IsToken (x ∷ xs) rest kind → is_opening x ≡ true → x ∷ (xs ++ rest) ≡ text ++ after → IsGap text after → ⊥
no_gap x xs rest text after kind t begins whole (blank b is e) =
    let here : x ≡ b = head_is (whole ∙ ap (λ (l : List ℕ). l ++ after) e) in
    let bad : is_opening x ≡ false = ap is_opening here ∙ rw is refl in
    let both : true ≡ false = sym begins ∙ bad in
    absurd cc
no_gap x xs rest text after kind t begins whole (splice e) =
    let here : x ≡ 92 = head_is (whole ∙ ap (λ (l : List ℕ). l ++ after) e) in
    let both : true ≡ false = sym begins ∙ ap is_opening here in
    absurd cc
no_gap x xs rest text after kind t begins whole (long_splice e) =
    let here : x ≡ 92 = head_is (whole ∙ ap (λ (l : List ℕ). l ++ after) e) in
    let both : true ≡ false = sym begins ∙ ap is_opening here in
    absurd cc
no_gap x xs rest text after kind t begins whole (line inner e all ends) = at_slash x 47 xs rest (inner ++ after) kind t (whole ∙ ap (λ (l : List ℕ). l ++ after) e) refl
no_gap x xs rest text after kind t begins whole (block inner e first) = at_slash x 42 xs rest ((inner ++ 42 ∷ 47 ∷ []) ++ after) kind t (whole ∙ ap (λ (l : List ℕ). l ++ after) e) refl

none_begins : (text rest : List ℕ) (kind : Kind) (n : ℕ) → IsToken text rest kind → BeginsGap (text ++ rest) n → ⊥
none_begins [] rest kind n t g = let some = token_some [] rest kind t in omega arith
none_begins (x ∷ xs) rest kind n t g = no_gap x xs rest g.text g.rest kind t (opening_of (x ∷ xs) kind (spelled_so (x ∷ xs) kind t.spelled)) g.whole g.is_gap

by_length : (text rest : List ℕ) (kind : Kind) → IsToken text rest kind → (b : Bool) → ltb 0 (gap_len (text ++ rest)) ≡ b → gap_len (text ++ rest) ≡ 0
by_length text rest kind t true e = absurd (none_begins text rest kind (gap_len (text ++ rest)) t (gap_is (text ++ rest) (gap_len (text ++ rest)) (ltb-true 0 (gap_len (text ++ rest)) e) refl))
by_length text rest kind t false e = let low = ltb-false 0 (gap_len (text ++ rest)) e in omega arith

pub apart : (text rest : List ℕ) (kind : Kind) → IsToken text rest kind → gap_len (text ++ rest) ≡ 0
apart text rest kind t = by_length text rest kind t (ltb 0 (gap_len (text ++ rest))) refl
