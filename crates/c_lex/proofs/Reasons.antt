-- Where no token stands, the reason tells what stands there.
use Rattle.std.proofs.Common.{◌≡◌, ℕ, ◌<◌, ◌+◌, ◌^◌, Bool, true, false, cond, eqb, ltb, not, ◌||◌, List, [], ◌∷◌, length, take, drop, is_some, refl, sym, ap, subst, ◌∙◌, arith, ◌⊎◌, inl, inr}
use Rattle.std.specs.Prelude.{Option, Some, None}
use Rattle.std.specs.Char.{is_ascii_digit}
use Rattle.std.specs.List.{take_while}
use Rattle.std.specs.Str.{bytes_eq}
use Rattle.std.proofs.lemmas.Bool.{ltb-false, le-ltb, eqb-true, eqb-false}
use Rattle.std.proofs.lemmas.Slice.Eq.{bytes_eq-Decides}
use Rattle.std.proofs.lemmas.List.{length-take-le}
use Rattle.c_lex.specs.declared.token.Punct.{Punct}
use Rattle.c_lex.specs.declared.token.Punct.TheVariants as m
use Rattle.c_lex.specs.declared.token.Kind.TheVariants as k
use Rattle.c_lex.specs.Bytes.{begins, is_letter, is_word_byte, is_quote, is_point, is_slash, opens_comment}
use Rattle.c_lex.specs.Gaps.{closed_len, close_at, gap_len}
use Rattle.c_lex.specs.Numbers.{number_len, number_value}
use Rattle.c_lex.specs.Marks.{marks, spelled_in, mark_of, mark_of_len, or_else, mark_up_to, mark_at}
use Rattle.c_lex.specs.Spelling.{is_mark_before, is_stray, reason_of}
use Rattle.c_lex.specs.Found.{Found, word_found, number_found, mark_kept, token_at}
use Rattle.c_lex.specs.Places.{IsReason, stray, quote, comment, great, point}
use Rattle.c_lex.proofs.Stands.{some_is}
use Rattle.c_lex.proofs.Signs.{Sign, found_longest}

-- ---- the mark `/`

is_slash_mark : Punct → Bool
is_slash_mark m.Slash = true
is_slash_mark _ = false

all_slashes : List (List ℕ × Punct) → Bool
all_slashes [] = true
all_slashes (e ∷ es) = cond (is_slash_mark e.1) (cond (bytes_eq e.0 (47 ∷ [])) (all_slashes es) false) (all_slashes es)

slash_in : (text : List ℕ) (es : List (List ℕ × Punct)) → all_slashes es ≡ true → spelled_in text es ≡ Some m.Slash → text ≡ 47 ∷ []
unfolding all_slashes is_slash_mark
slash_in text [] all h = absurd cc
slash_in text (e ∷ es) all h = by (is_slash_mark e.1) (bytes_eq e.0 (47 ∷ [])) (bytes_eq text e.0) refl refl refl all h (slash_in text es)
  where
    by : (a b c : Bool) → is_slash_mark e.1 ≡ a → bytes_eq e.0 (47 ∷ []) ≡ b → bytes_eq text e.0 ≡ c → cond a (cond b (all_slashes es) false) (all_slashes es) ≡ true → cond c (Some e.1) (spelled_in text es) ≡ Some m.Slash
        → (all_slashes es ≡ true → spelled_in text es ≡ Some m.Slash → text ≡ 47 ∷ []) → text ≡ 47 ∷ []
    by true true true slash one same all h more = (bytes_eq-Decides text e.0).0 same ∙ (bytes_eq-Decides e.0 (47 ∷ [])).0 one
    by true true false slash one same all h more = more all h
    by true false c slash one same all h more = absurd cc
    by false b true slash one same all h more = let bad : true ≡ false = ap is_slash_mark (sym (some_is h)) ∙ slash in absurd cc
    by false b false slash one same all h more = more all h

slash_spelled : (text : List ℕ) → mark_of text ≡ Some m.Slash → text ≡ 47 ∷ []
unfolding mark_of marks all_slashes is_slash_mark
slash_spelled text e = slash_in text marks refl e

slash_mark : mark_of (47 ∷ []) ≡ Some m.Slash
unfolding mark_of marks
slash_mark = refl

not_true : (b : Bool) → not b ≡ false → b ≡ true
not_true true e = refl
not_true false e = absurd cc

slash_only : (mark : Punct) (rest : List ℕ) → is_mark_before mark rest ≡ false → (mark ≡ m.Slash) × (begins opens_comment rest ≡ true)
slash_only m.Slash rest e = (refl, not_true _ e)
slash_only _ rest e = absurd cc

-- a mark's first byte finds a mark
last_found : (x y : Option (ℕ × Punct)) (z : ℕ × Punct) → (w : ℕ × Punct) × (or_else x (or_else y (Some z)) ≡ Some w)
last_found (Some x) y z = (x, refl)
last_found None (Some y) z = (y, refl)
last_found None None z = (z, refl)

some_value : (o : Option Punct) → is_some o ≡ true → (x : Punct) × (o ≡ Some x)
some_value None e = absurd cc
some_value (Some x) e = (x, refl)

wide : (b : ℕ) (bs : List ℕ) → ltb (length (b ∷ bs)) 1 ≡ false
wide b bs = le-ltb (length (b ∷ bs)) 1 (omega arith)

one_found : (b : ℕ) (bs : List ℕ) (m : Punct) → mark_of (b ∷ []) ≡ Some m → or_else (mark_of_len 1 (b ∷ bs)) None ≡ Some (1, m)
one_found b bs m e = rw (wide b bs, e) refl

first_found : (b : ℕ) (bs : List ℕ) → is_some (mark_of (b ∷ [])) ≡ true → (w : ℕ × Punct) × (mark_at (b ∷ bs) ≡ Some w)
unfolding mark_at mark_up_to
first_found b bs e =
    let h = some_value (mark_of (b ∷ [])) e in
    let one : or_else (mark_of_len 1 (b ∷ bs)) None ≡ Some (1, h.0) = one_found b bs h.0 h.1 in
    let found = last_found (mark_of_len 3 (b ∷ bs)) (mark_of_len 2 (b ∷ bs)) (1, h.0) in
    (found.0, ap (λ (o : Option (ℕ × Punct)). or_else (mark_of_len 3 (b ∷ bs)) (or_else (mark_of_len 2 (b ∷ bs)) o)) one ∙ found.1)

pub record OpenComment (bytes : List ℕ) : Type 0 where
  pub rest : List ℕ
  pub whole : bytes ≡ 47 ∷ 42 ∷ rest
  pub open_ : close_at rest ≡ None

not_closed : (o : Option ℕ) → closed_len o ≡ 0 → o ≡ None
not_closed None e = refl
not_closed (Some n) e = absurd (omega arith)

comment_by : (c : ℕ) (cs : List ℕ) (x y : Bool) → eqb c 47 ≡ x → eqb c 42 ≡ y → (x || y) ≡ true → gap_len (47 ∷ c ∷ cs) ≡ 0 → OpenComment (47 ∷ c ∷ cs)
unfolding gap_len
comment_by c cs true y slash star e none =
    let line : gap_len (47 ∷ c ∷ cs) ≡ 2 + length (take_while (λ b. not (eqb b 10)) cs) = rw slash refl in
    absurd (omega arith)
comment_by c cs false true slash star e none =
    let block : gap_len (47 ∷ c ∷ cs) ≡ closed_len (close_at cs) = rw (slash, star) refl in
    record { rest = cs; whole = ap (λ (n : ℕ). 47 ∷ n ∷ cs) (eqb-true c 42 star); open_ = not_closed (close_at cs) (sym block ∙ none) }
comment_by c cs false false slash star e none = absurd cc

comment_is : (rest : List ℕ) → begins opens_comment rest ≡ true → gap_len (47 ∷ rest) ≡ 0 → OpenComment (47 ∷ rest)
comment_is [] e none = absurd cc
comment_is (c ∷ cs) e none = comment_by c cs (eqb c 47) (eqb c 42) refl refl e none

first_slash : (b : ℕ) (bs : List ℕ) (n : ℕ) → mark_at (b ∷ bs) ≡ Some (n, m.Slash) → (b ≡ 47) × (n ≡ 1)
unfolding mark_at
first_slash b bs n e =
    let l = found_longest 3 (b ∷ bs) n m.Slash e in
    let text = slash_spelled (take n (b ∷ bs)) l.spelled in
    let size : n ≡ 1 = sym (length-take-le n (b ∷ bs) l.within) ∙ ap length text in
    let one : take 1 (b ∷ bs) ≡ 47 ∷ [] = ap (λ (i : ℕ). take i (b ∷ bs)) (sym size) ∙ text in
    (head_is one, size)
  where
    head_is : {x y : ℕ} {a b : List ℕ} → x ∷ a ≡ y ∷ b → x ≡ y
    head_is e = cc

not_kept : (bytes : List ℕ) (x : ℕ × Punct) → mark_kept bytes (Some x) ≡ None → is_mark_before x.1 (drop x.0 bytes) ≡ false
not_kept bytes x e = by (is_mark_before x.1 (drop x.0 bytes)) e
  where
    by : (b : Bool) → cond {A = Found} b (Some (x.0, k.Punct x.1)) None ≡ None → b ≡ false
    by true h = absurd cc
    by false h = refl

is_kept : (bytes : List ℕ) → Sign bytes → token_at bytes ≡ mark_kept bytes (mark_at bytes)
unfolding token_at
is_kept bytes d = rw (d.letter, d.digit, d.quote) refl

at_slash : (b : ℕ) (bs : List ℕ) (n : ℕ) → mark_at (b ∷ bs) ≡ Some (n, m.Slash) → begins opens_comment (drop n (b ∷ bs)) ≡ true → gap_len (b ∷ bs) ≡ 0 → OpenComment (b ∷ bs)
at_slash b bs n found opens none =
    let f = first_slash b bs n found in
    let behind : begins opens_comment bs ≡ true = ap (λ (i : ℕ). begins opens_comment (drop i (b ∷ bs))) (sym f.1) ∙ opens in
    subst (λ (c : ℕ). OpenComment (c ∷ bs)) (sym f.0) (comment_is bs behind (ap (λ (c : ℕ). gap_len (c ∷ bs)) (sym f.0) ∙ none))

open_comment : (b : ℕ) (bs : List ℕ) → Sign (b ∷ bs) → is_some (mark_of (b ∷ [])) ≡ true → gap_len (b ∷ bs) ≡ 0 → token_at (b ∷ bs) ≡ None → OpenComment (b ∷ bs)
open_comment b bs d first none is =
    let f = first_found b bs first in
    let kept : mark_kept (b ∷ bs) (Some f.0) ≡ None = ap (mark_kept (b ∷ bs)) (sym f.1) ∙ sym (is_kept (b ∷ bs) d) ∙ is in
    let s = slash_only f.0.1 (drop f.0.0 (b ∷ bs)) (not_kept (b ∷ bs) f.0 kept) in
    at_slash b bs f.0.0 (f.1 ∙ ap (λ (x : Punct). Some (f.0.0, x)) s.0) s.1 none

-- ---- numbers

no_word : (bytes : List ℕ) → begins is_letter bytes ≡ true → token_at bytes ≡ None → ⊥
unfolding token_at word_found
no_word bytes letter is =
    let found : token_at bytes ≡ Some (length (take_while is_word_byte bytes), k.Word (take_while is_word_byte bytes)) = rw letter refl in
    let clash = sym found ∙ is in
    absurd cc

is_number : (bytes : List ℕ) → begins is_letter bytes ≡ false → begins is_ascii_digit bytes ≡ true → token_at bytes ≡ number_found bytes
unfolding token_at
is_number bytes letter digit = rw (letter, digit) refl

pointed : (bytes : List ℕ) → number_found bytes ≡ None → ltb (number_value (take (number_len bytes) bytes)) (2 ^ 32) ≡ true → begins is_point (drop (number_len bytes) bytes) ≡ true
unfolding number_found
pointed bytes is low = by (begins is_point (drop (number_len bytes) bytes)) (sym whole ∙ is)
  where
    n : ℕ
    n = number_len bytes

    v : ℕ
    v = number_value (take n bytes)

    whole : number_found bytes ≡ cond {A = Found} (not (begins is_point (drop n bytes))) (Some (n, k.Number v)) None
    whole = rw low refl

    by : (b : Bool) → cond {A = Found} (not b) (Some (n, k.Number v)) None ≡ None → b ≡ true
    by true h = refl
    by false h = absurd cc

-- ---- all reasons

not_stray : (a b c d : Bool) → not ((a || b) || (c || d)) ≡ false → a ≡ false → c ≡ false → (b ≡ true) ⊎ ((b ≡ false) × (d ≡ true))
not_stray true b c d e f g = absurd cc
not_stray false true c d e f g = inl refl
not_stray false false true d e f g = absurd cc
not_stray false false false true e f g = inr (refl, refl)
not_stray false false false false e f g = absurd cc

number_reason : (bytes : List ℕ) → begins is_letter bytes ≡ false → begins is_ascii_digit bytes ≡ true → token_at bytes ≡ None → (d : Bool) → not (ltb (number_value (take (number_len bytes) bytes)) (2 ^ 32)) ≡ d → IsReason bytes (cond d 13 14)
number_reason bytes letter digit is true e = great refl digit (ltb-false (number_value (take (number_len bytes) bytes)) (2 ^ 32) (false_of _ e))
  where
    false_of : (b : Bool) → not b ≡ true → b ≡ false
    false_of true h = absurd cc
    false_of false h = refl
number_reason bytes letter digit is false e = point refl digit (pointed bytes (sym (is_number bytes letter digit) ∙ is) (not_true _ e))

no_slash : (b : ℕ) (bs rest : List ℕ) → is_slash b ≡ false → b ∷ bs ≡ 47 ∷ rest → ⊥
no_slash b bs rest other e = eqb-false b 47 other (head_is e)
  where
    head_is : {x y : ℕ} {a b : List ℕ} → x ∷ a ≡ y ∷ b → x ≡ y
    head_is e = cc

no_letter : (bytes : List ℕ) → token_at bytes ≡ None → (b : Bool) → begins is_letter bytes ≡ b → begins is_letter bytes ≡ false
no_letter bytes is true e = absurd (no_word bytes e is)
no_letter bytes is false e = e

other_reason : (b : ℕ) (bs : List ℕ) → gap_len (b ∷ bs) ≡ 0 → token_at (b ∷ bs) ≡ None → is_stray b ≡ false → is_quote b ≡ false → is_slash b ≡ false
    → (d : Bool) → not (ltb (number_value (take (number_len (b ∷ bs)) (b ∷ bs))) (2 ^ 32)) ≡ d → IsReason (b ∷ bs) (cond d 13 14)
other_reason b bs none is no_stray no_quote other d e =
    let letter : is_letter b ≡ false = no_letter (b ∷ bs) is (is_letter b) refl in
    elim (not_stray (is_letter b) (is_ascii_digit b) (is_quote b) (is_some (mark_of (b ∷ []))) no_stray letter no_quote) [
      | inl digit ↦ number_reason (b ∷ bs) letter digit is d e
      | inr h ↦ let c = open_comment b bs (record { letter = letter; digit = h.0; quote = no_quote }) h.1 none is in absurd (no_slash b bs (42 ∷ c.rest) other c.whole)
    ]

slash_reason : (b : ℕ) (bs : List ℕ) → gap_len (b ∷ bs) ≡ 0 → token_at (b ∷ bs) ≡ None → b ≡ 47 → IsReason (b ∷ bs) 12
slash_reason b bs none is e =
    let sign : Sign (47 ∷ bs) = record { letter = refl; digit = refl; quote = refl } in
    let c = open_comment 47 bs sign (ap is_some slash_mark) (ap (λ (x : ℕ). gap_len (x ∷ bs)) (sym e) ∙ none) (ap (λ (x : ℕ). token_at (x ∷ bs)) (sym e) ∙ is) in
    comment refl c.rest (ap (λ (x : ℕ). x ∷ bs) e ∙ c.whole) c.open_

by_reason : (b : ℕ) (bs : List ℕ) → gap_len (b ∷ bs) ≡ 0 → token_at (b ∷ bs) ≡ None → (x y z d : Bool) → is_stray b ≡ x → is_quote b ≡ y → is_slash b ≡ z → not (ltb (number_value (take (number_len (b ∷ bs)) (b ∷ bs))) (2 ^ 32)) ≡ d
    → IsReason (b ∷ bs) (cond x 10 (cond y 11 (cond z 12 (cond d 13 14))))
by_reason b bs none is true y z d one two three four = stray refl one
by_reason b bs none is false true z d one two three four = quote refl two
by_reason b bs none is false false true d one two three four = slash_reason b bs none is (eqb-true b 47 three)
by_reason b bs none is false false false d one two three four = other_reason b bs none is one two three d four

pub reason_fits : (bytes : List ℕ) → 0 < length bytes → gap_len bytes ≡ 0 → token_at bytes ≡ None → IsReason bytes (reason_of bytes)
unfolding reason_of
reason_fits [] some none is = absurd (omega arith)
reason_fits (b ∷ bs) some none is =
    by_reason b bs none is (is_stray b) (is_quote b) (is_slash b) (not (ltb (number_value (take (number_len (b ∷ bs)) (b ∷ bs))) (2 ^ 32))) refl refl refl refl
