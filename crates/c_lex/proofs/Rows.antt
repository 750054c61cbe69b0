-- What holds of each row of the table of marks holds of each mark.
use Rattle.std.proofs.Common.{◌≡◌, Bool, true, false, cond, ℕ, List, [], ◌∷◌, refl, ap, ◌∙◌}
use Rattle.std.specs.Prelude.{Some}
use Rattle.std.specs.Str.{bytes_eq}
use Rattle.std.proofs.lemmas.Slice.Eq.{bytes_eq-Decides}
use Rattle.c_lex.specs.declared.token.Punct.{Punct}
use Rattle.c_lex.specs.Marks.{marks, spelled_in, mark_of}

unfoldable pub all_rows : (List ℕ → Bool) → List (List ℕ × Punct) → Bool
all_rows p [] = true
all_rows p (e ∷ es) = cond (p e.0) (all_rows p es) false

row_in : (p : List ℕ → Bool) (text : List ℕ) (m : Punct) (es : List (List ℕ × Punct)) → all_rows p es ≡ true → spelled_in text es ≡ Some m → p text ≡ true
unfolding all_rows
row_in p text m [] all h = absurd cc
row_in p text m (e ∷ es) all h = by (p e.0) (bytes_eq text e.0) refl refl all h (row_in p text m es)
  where
    by : (b c : Bool) → p e.0 ≡ b → bytes_eq text e.0 ≡ c → cond b (all_rows p es) false ≡ true → cond c (Some e.1) (spelled_in text es) ≡ Some m → (all_rows p es ≡ true → spelled_in text es ≡ Some m → p text ≡ true) → p text ≡ true
    by false c here same all h more = absurd cc
    by true true here same all h more = ap p ((bytes_eq-Decides text e.0).0 same) ∙ here
    by true false here same all h more = more all h

pub of_rows : (p : List ℕ → Bool) (text : List ℕ) (m : Punct) → all_rows p marks ≡ true → mark_of text ≡ Some m → p text ≡ true
unfolding mark_of
of_rows p text m all e = row_in p text m marks all e
