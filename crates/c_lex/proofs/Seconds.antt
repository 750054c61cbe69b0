-- Where the second byte is that of no mark, no mark of several bytes stands there.
use Rattle.std.proofs.Common.{◌≡◌, ℕ, Bool, true, false, cond, ltb, List, [], ◌∷◌, length, take, refl, sym, ap, ◌∙◌}
use Rattle.std.specs.Prelude.{Option, Some, None, option_map}
use Rattle.c_lex.specs.declared.token.Punct.{Punct}
use Rattle.c_lex.specs.Marks.{marks, mark_of, mark_of_len, or_else, mark_up_to, mark_at}
use Rattle.c_lex.specs.inner.Seconds.{goes_on, is_second}
use Rattle.c_lex.proofs.Rows.{all_rows, of_rows}

-- a mark of one byte, or a mark's second byte
is_good : List ℕ → Bool
is_good [] = true
is_good (a ∷ []) = true
is_good (a ∷ b ∷ bs) = is_second b

good_mark : (text : List ℕ) (m : Punct) → mark_of text ≡ Some m → is_good text ≡ true
unfolding marks all_rows is_good
good_mark text m e = of_rows is_good text m refl e

no_mark : (text : List ℕ) → is_good text ≡ false → mark_of text ≡ None
no_mark text e = by (mark_of text) refl
  where
    by : (o : Option Punct) → mark_of text ≡ o → mark_of text ≡ None
    by None is = is
    by (Some m) is = let clash = sym (good_mark text m is) ∙ e in absurd cc

abbrev Found : Type 0
Found = Option (ℕ × Punct)

abbrev of_size : ℕ → Option Punct → Found
of_size n o = option_map (λ m. (n, m)) o

none_either : (n : ℕ) (t : Bool) (o : Option Punct) → o ≡ None → cond {A = Found} t None (of_size n o) ≡ None
none_either n true o e = refl
none_either n false o e = ap (of_size n) e

no_three : (bytes : List ℕ) → goes_on bytes ≡ false → mark_of_len 3 bytes ≡ None
unfolding is_good
no_three [] e = refl
no_three (a ∷ []) e = refl
no_three (a ∷ b ∷ bs) e = none_either 3 (ltb (length (a ∷ b ∷ bs)) 3) (mark_of (take 3 (a ∷ b ∷ bs))) (no_mark (take 3 (a ∷ b ∷ bs)) e)

no_two : (bytes : List ℕ) → goes_on bytes ≡ false → mark_of_len 2 bytes ≡ None
unfolding is_good
no_two [] e = refl
no_two (a ∷ []) e = refl
no_two (a ∷ b ∷ bs) e = none_either 2 (ltb (length (a ∷ b ∷ bs)) 2) (mark_of (take 2 (a ∷ b ∷ bs))) (no_mark (take 2 (a ∷ b ∷ bs)) e)

or_none : (o : Found) → or_else o None ≡ o
or_none None = refl
or_none (Some x) = refl

pub short_mark : (bytes : List ℕ) → goes_on bytes ≡ false → mark_at bytes ≡ mark_of_len 1 bytes
unfolding mark_at mark_up_to
short_mark bytes e =
    ap (λ (o : Found). or_else o (or_else (mark_of_len 2 bytes) (or_else (mark_of_len 1 bytes) None))) (no_three bytes e)
    ∙ ap (λ (o : Found). or_else o (or_else (mark_of_len 1 bytes) None)) (no_two bytes e) ∙ or_none (mark_of_len 1 bytes)
