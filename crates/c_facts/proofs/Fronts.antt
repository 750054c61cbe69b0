-- Lists that begin others, and an element that is replaced.
use Rattle.std.proofs.Common.{◌≡◌, ◌⊎◌, ℕ, zero, suc, ◌<◌, List, [], ◌∷◌, ◌++◌, length, Some, refl, sym, ap, ◌∙◌, append_assoc, append-nil, inl, inr, arith}
use Rattle.std.specs.Prelude.{slice_get, slice_set}
use Rattle.c_facts.proofs.Within.{Begins}

pub begins_itself : {A : Type 0} (xs : List A) → Begins xs xs
begins_itself xs = ([], sym (append-nil xs))

pub begins_more : {A : Type 0} (xs ys : List A) → Begins xs (xs ++ ys)
begins_more xs ys = (ys, refl)

pub begins_through : {A : Type 0} (xs ys zs : List A) → Begins xs ys → Begins ys zs → Begins xs zs
begins_through xs ys zs h k = (h.0 ++ k.0, k.1 ∙ ap (λ us. us ++ k.0) h.1 ∙ append_assoc xs h.0 k.0)

-- what stands at the end of a beginning stands there in the whole
pub after_front : {A : Type 0} (ts : List A) (t : A) (more : List A) → slice_get (ts ++ t ∷ more) (length ts) ≡ Some t
after_front [] t more = refl
after_front (x ∷ ts) t more = after_front ts t more

pub last_of_beginning : {A : Type 0} (ts us all : List A) (t : A) → Begins us all → us ≡ ts ++ t ∷ [] → slice_get all (length ts) ≡ Some t
last_of_beginning ts us all t (m, e) f = rw (e, f, append_assoc) (after_front ts t m)

-- what a list that begins the whole one ends with stands there
pub begins_end : {A : Type 0} (xs all : List A) (x : A) → Begins (xs ++ x ∷ []) all → slice_get all (length xs) ≡ Some x
begins_end xs all x h = last_of_beginning xs (xs ++ x ∷ []) all x h refl

front_at : {A : Type 0} (xs ys : List A) (k : ℕ) (x : A) → slice_get xs k ≡ Some x → slice_get (xs ++ ys) k ≡ Some x
front_at [] ys k x e = absurd cc
front_at (y ∷ xs) ys zero x e = e
front_at (y ∷ xs) ys (suc k) x e = front_at xs ys k x e

-- what stands in a list stands in each that it begins
pub begins_at : {A : Type 0} (xs all : List A) (k : ℕ) (x : A) → Begins xs all → slice_get xs k ≡ Some x → slice_get all k ≡ Some x
begins_at xs all k x h e = rw h.1 (front_at xs h.0 k x e)

pub last_at : {A : Type 0} (xs : List A) (x : A) → slice_get (xs ++ x ∷ []) (length xs) ≡ Some x
last_at [] x = refl
last_at (y ∷ xs) x = last_at xs x

-- an element of a list with one more behind it
pub last_or_before : {A : Type 0} (xs : List A) (y : A) (k : ℕ) (x : A) → slice_get (xs ++ y ∷ []) k ≡ Some x → (slice_get xs k ≡ Some x) ⊎ ((k ≡ length xs) × (y ≡ x))
last_or_before [] y zero x e = inr (refl, cc)
last_or_before [] y (suc k) x e = absurd cc
last_or_before (z ∷ xs) y zero x e = inl e
last_or_before (z ∷ xs) y (suc k) x e = elim (last_or_before xs y k x e) [ inl h ↦ inl h | inr h ↦ inr (ap suc h.0, h.1) ]

pub within_at : {A : Type 0} (xs : List A) (k : ℕ) → k < length xs → (x : A) × (slice_get xs k ≡ Some x)
within_at [] k h = absurd (omega (arith, h))
within_at (x ∷ xs) zero h = (x, refl)
within_at (x ∷ xs) (suc k) h = within_at xs k (omega (arith, h))

-- an element of a list of which one is replaced
pub replaced_at : {A : Type 0} (xs : List A) (n : ℕ) (y : A) (k : ℕ) (x : A) → slice_get (slice_set xs n y) k ≡ Some x → ((k ≡ n) × (y ≡ x)) ⊎ (slice_get xs k ≡ Some x)
replaced_at [] n y k x e = inr e
replaced_at (z ∷ xs) zero y zero x e = inl (refl, cc)
replaced_at (z ∷ xs) zero y (suc k) x e = inr e
replaced_at (z ∷ xs) (suc n) y zero x e = inr e
replaced_at (z ∷ xs) (suc n) y (suc k) x e = elim (replaced_at xs n y k x e) [ inl h ↦ inl (ap suc h.0, h.1) | inr h ↦ inr h ]

-- the others stay
pub others_stay : {A : Type 0} (xs : List A) (n : ℕ) (y : A) (k : ℕ) → (k ≡ n → ⊥) → slice_get (slice_set xs n y) k ≡ slice_get xs k
others_stay [] n y k h = refl
others_stay (z ∷ xs) zero y zero h = absurd (h refl)
others_stay (z ∷ xs) zero y (suc k) h = refl
others_stay (z ∷ xs) (suc n) y zero h = refl
others_stay (z ∷ xs) (suc n) y (suc k) h = others_stay xs n y k (λ e. h (ap suc e))

pub replaced_there : {A : Type 0} (xs : List A) (n : ℕ) (y : A) → n < length xs → slice_get (slice_set xs n y) n ≡ Some y
replaced_there [] n y h = absurd (omega (arith, h))
replaced_there (z ∷ xs) zero y h = refl
replaced_there (z ∷ xs) (suc n) y h = replaced_there xs n y (omega (arith, h))
