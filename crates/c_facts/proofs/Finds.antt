-- What a name means in a list of names that grows at its end.
use Rattle.std.proofs.Common.{◌≡◌, ◌⊎◌, Bool, true, false, cond, List, [], ◌∷◌, ◌++◌, Option, Some, None, refl, inl, inr}
use Rattle.std.specs.Str.{bytes_eq}
use Rattle.std.proofs.lemmas.Slice.Eq.{bytes_eq-Decides}
use Rattle.c_exprs.specs.Env.{Text, find}

kept_found : {A : Type 0} (b : Bool) (x : A) (o p : Option A) (d : A) → (o ≡ Some d → p ≡ Some d) → cond b (Some x) o ≡ Some d → cond b (Some x) p ≡ Some d
kept_found true x o p d later h = h
kept_found false x o p d later h = later h

-- a name keeps its meaning
pub still_found : {A : Type 0} (n : Text) (xs ys : List (Text × A)) (d : A) → find n xs ≡ Some d → find n (xs ++ ys) ≡ Some d
still_found n [] ys d h = absurd cc
still_found n (e ∷ es) ys d h = kept_found (bytes_eq n e.0) e.1 (find n es) (find n (es ++ ys)) d (still_found n es ys d) h

-- a new name has the meaning that was put last
pub new_found : {A : Type 0} (n : Text) (xs : List (Text × A)) (d : A) → find n xs ≡ None → find n (xs ++ (n, d) ∷ []) ≡ Some d
new_found {A = A} n [] d h = last (bytes_eq n n) ((bytes_eq-Decides n n).1 refl)
  where
    last : (b : Bool) → b ≡ true → cond b (Some d) None ≡ Some d
    last true e = refl
    last false e = absurd cc
new_found {A = A} n (e ∷ es) d h = here (bytes_eq n e.0) e.1 (find n es) (find n (es ++ (n, d) ∷ [])) (new_found n es d) h
  where
    here : (b : Bool) (x : A) (o p : Option A) → (o ≡ None → p ≡ Some d) → cond b (Some x) o ≡ None → cond b (Some x) p ≡ Some d
    here true x o p later h = absurd cc
    here false x o p later h = later h

-- a meaning was there before, or it is that of the name that was put last
pub found_or_new : {A : Type 0} (n m : Text) (xs : List (Text × A)) (d e : A) → find n (xs ++ (m, d) ∷ []) ≡ Some e → (find n xs ≡ Some e) ⊎ ((n ≡ m) × (d ≡ e))
found_or_new {A = A} n m [] d e h = last (bytes_eq n m) (bytes_eq-Decides n m).0 h
  where
    last : (b : Bool) → (b ≡ true → n ≡ m) → cond b (Some d) None ≡ Some e → (None ≡ Some e) ⊎ ((n ≡ m) × (d ≡ e))
    last true same h = inr (same refl, cc)
    last false same h = absurd cc
found_or_new {A = A} n m (x ∷ xs) d e h = here (bytes_eq n x.0) x.1 (find n xs) (find n (xs ++ (m, d) ∷ [])) (found_or_new n m xs d e) h
  where
    here : (b : Bool) (y : A) (o p : Option A) → (p ≡ Some e → (o ≡ Some e) ⊎ ((n ≡ m) × (d ≡ e))) → cond b (Some y) p ≡ Some e → (cond b (Some y) o ≡ Some e) ⊎ ((n ≡ m) × (d ≡ e))
    here true y o p later h = inl h
    here false y o p later h = later h
