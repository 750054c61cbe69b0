-- The lines that are read are those that their ends part.
use Rattle.std.proofs.Common.{◌≡◌, ℕ, zero, suc, ◌<◌, ◌≤◌, ◌+◌, Bool, true, false, cond, not, eqb, ◌&&◌, List, [], ◌∷◌, ◌++◌, length, refl, sym, ap, subst, ◌∙◌, arith, append_assoc, append-nil}
use Rattle.std.specs.Prelude.{◌↔◌}
use Rattle.std.specs.List.{list_all}
use Rattle.std.proofs.lemmas.Bool.{eqb-true, eqb-false, ne_eqb}
use Rattle.std.proofs.lemmas.List.{nil_from_length}
use Rattle.std.proofs.lemmas.List.Folds.{list_all-append}
use Rattle.line_text.specs.Lines.{without_return, lines_from, lines_of}
use Rattle.text_laws.specs.Parted.{is_no_lf, is_free, ends_with_return, IsEnded, by_return, alone, AreLines, ended, last, line}

-- ---- a return at the end of a line

ended_cons : (b : ℕ) (text own : List ℕ) (c : ℕ) (bs : List ℕ) → text ≡ c ∷ bs → IsEnded text own → IsEnded (b ∷ text) (b ∷ own)
ended_cons b text own c bs some (by_return e) = by_return (ap (λ (l : List ℕ). b ∷ l) e)
ended_cons b text own c bs some (alone e no_return) = alone (ap (λ (l : List ℕ). b ∷ l) e) (ap (λ (l : List ℕ). ends_with_return (b ∷ l)) some ∙ ap ends_with_return (sym some) ∙ no_return)

one_is : (b : ℕ) (x : Bool) → eqb b 13 ≡ x → IsEnded (b ∷ []) (cond x [] (b ∷ []))
one_is b true e = by_return (ap (λ (n : ℕ). n ∷ []) (eqb-true b 13 e))
one_is b false e = alone refl e

pub return_is : (text : List ℕ) → IsEnded text (without_return text)
unfolding without_return
return_is [] = alone refl refl
return_is (b ∷ []) = one_is b (eqb b 13) refl
return_is (b ∷ c ∷ bs) = ended_cons b (c ∷ bs) (without_return (c ∷ bs)) c bs refl (return_is (c ∷ bs))

without_last : (own : List ℕ) → without_return (own ++ 13 ∷ []) ≡ own
unfolding without_return
without_last [] = refl
without_last (b ∷ []) = refl
without_last (b ∷ c ∷ bs) = ap (λ (l : List ℕ). b ∷ l) (without_last (c ∷ bs))

without_none : (text : List ℕ) → ends_with_return text ≡ false → without_return text ≡ text
unfolding without_return
without_none [] h = refl
without_none (b ∷ []) h = rw h refl
without_none (b ∷ c ∷ bs) h = ap (λ (l : List ℕ). b ∷ l) (without_none (c ∷ bs) h)

return_read : (text own : List ℕ) → IsEnded text own → without_return text ≡ own
return_read text own (by_return e) = ap without_return e ∙ without_last own
return_read text own (alone e no_return) = without_none text no_return ∙ e

-- ---- lines

both : (a b : Bool) → (a && b) ≡ true → (a ≡ true) × (b ≡ true)
both true b h = (refl, h)
both false b h = absurd cc

free_more : (before : List ℕ) (b : ℕ) → is_free before ≡ true → eqb b 10 ≡ false → is_free (before ++ b ∷ []) ≡ true
free_more before b free e = list_all-append is_no_lf before (b ∷ []) ∙ rw (free, e) refl

some_more : (before bs : List ℕ) (b : ℕ) → (c : ℕ) × (more : List ℕ) × (before ++ b ∷ bs ≡ c ∷ more)
some_more [] bs b = (b, bs, refl)
some_more (c ∷ cs) bs b = (c, cs ++ b ∷ bs, refl)

no_text : (before : List ℕ) → is_free before ≡ true → (x : Bool) → eqb (length before) 0 ≡ x → AreLines before (cond x [] (before ∷ []))
no_text before free true e = ended (nil_from_length before (eqb-true (length before) 0 e)) refl
no_text [] free false e = absurd (eqb-false 0 0 e refl)
no_text (b ∷ bs) free false e = last b bs refl free refl

-- at an LF, and at another byte
at_byte : (before : List ℕ) (b : ℕ) (bs : List ℕ) (x : Bool) → eqb b 10 ≡ x → is_free before ≡ true → AreLines bs (lines_from [] bs)
    → ((eqb b 10 ≡ false) → AreLines ((before ++ b ∷ []) ++ bs) (lines_from (before ++ b ∷ []) bs)) → AreLines (before ++ b ∷ bs) (cond x (without_return before ∷ lines_from [] bs) (lines_from (before ++ b ∷ []) bs))
at_byte before b bs true e free behind more = line before (without_return before) bs (lines_from [] bs) (ap (λ (n : ℕ). before ++ n ∷ bs) (eqb-true b 10 e)) free (return_is before) refl behind
at_byte before b bs false e free behind more = subst (λ (l : List ℕ). AreLines l (lines_from (before ++ b ∷ []) bs)) (append_assoc before (b ∷ []) bs) (more e)

from_is : (before bytes : List ℕ) → is_free before ≡ true → AreLines (before ++ bytes) (lines_from before bytes)
unfolding lines_from
from_is before [] free = subst (λ (l : List ℕ). AreLines l (lines_from before [])) (sym (append-nil before)) (no_text before free (eqb (length before) 0) refl)
from_is before (b ∷ bs) free = at_byte before b bs (eqb b 10) refl free (from_is [] bs refl) (λ e. from_is (before ++ b ∷ []) bs (free_more before b free e))

-- a front without LF is gone through
at_free : (before : List ℕ) (b : ℕ) (bs rest : List ℕ) (x : Bool) → eqb b 10 ≡ x → is_free (b ∷ bs) ≡ true
    → lines_from (before ++ b ∷ []) (bs ++ rest) ≡ lines_from ((before ++ b ∷ []) ++ bs) rest
    → cond x (without_return before ∷ lines_from [] (bs ++ rest)) (lines_from (before ++ b ∷ []) (bs ++ rest)) ≡ lines_from (before ++ b ∷ bs) rest
at_free before b bs rest true e free more = let h = both (not (eqb b 10)) (is_free bs) free in let bad : false ≡ true = ap not (sym e) ∙ h.0 in absurd cc
at_free before b bs rest false e free more = more ∙ ap (λ (l : List ℕ). lines_from l rest) (append_assoc before (b ∷ []) bs)

passed : (before text rest : List ℕ) → is_free text ≡ true → lines_from before (text ++ rest) ≡ lines_from (before ++ text) rest
unfolding lines_from
passed before [] rest free = ap (λ (l : List ℕ). lines_from l rest) (sym (append-nil before))
passed before (b ∷ bs) rest free =
    at_free before b bs rest (eqb b 10) refl free (passed (before ++ b ∷ []) bs rest ((both (not (eqb b 10)) (is_free bs) free).1))

last_line : (first : ℕ) (more : List ℕ) → is_free (first ∷ more) ≡ true → lines_from [] (first ∷ more) ≡ (first ∷ more) ∷ []
unfolding lines_from
last_line first more free =
    ap (lines_from []) (sym (append-nil (first ∷ more))) ∙ passed [] (first ∷ more) [] free
    ∙ (let some : eqb (suc (length more)) 0 ≡ false = ne_eqb (suc (length more)) 0 (λ e. omega (arith, e)) in rw some refl)

one_line : (text rest : List ℕ) → is_free text ≡ true → lines_from [] (text ++ 10 ∷ rest) ≡ without_return text ∷ lines_from [] rest
unfolding lines_from
one_line text rest free = passed [] text (10 ∷ rest) free

no_line : lines_from [] [] ≡ []
unfolding lines_from
no_line = refl

are_read : {bytes : List ℕ} {lines : List (List ℕ)} → AreLines bytes lines → lines_from [] bytes ≡ lines
are_read (ended e f) = ap (lines_from []) e ∙ no_line ∙ sym f
are_read (last first more e free f) = ap (lines_from []) e ∙ last_line first more (ap is_free (sym e) ∙ free) ∙ ap (λ (l : List ℕ). l ∷ []) (sym e) ∙ sym f
are_read (line text own rest others e free is f more) =
    ap (lines_from []) e ∙ one_line text rest free ∙ ap (λ (l : List ℕ). l ∷ lines_from [] rest) (return_read text own is) ∙ ap (λ (ls : List (List ℕ)). own ∷ ls) (are_read more) ∙ sym f

to_lines : (bytes : List ℕ) (lines : List (List ℕ)) → lines_of bytes ≡ lines → AreLines bytes lines
unfolding lines_of
to_lines bytes lines e = subst (AreLines bytes) e (from_is [] bytes refl)

of_lines : (bytes : List ℕ) (lines : List (List ℕ)) → AreLines bytes lines → lines_of bytes ≡ lines
unfolding lines_of
of_lines bytes lines h = are_read h

pub lines_both : (bytes : List ℕ) (lines : List (List ℕ)) → (lines_of bytes ≡ lines) ↔ AreLines bytes lines
lines_both bytes lines = (to_lines bytes lines, of_lines bytes lines)
