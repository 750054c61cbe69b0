-- Few notes are kept.
use Rattle.std.proofs.Common.{◌≡◌, ℕ, zero, suc, min, List, [], ◌∷◌, length, take, refl, ap, arith}

take_any : {A : Type 0} (n m : ℕ) (xs : List A) → m ≡ min (length xs) n → take m xs ≡ take n xs
take_any zero zero [] e = refl
take_any zero (suc m) [] e = refl
take_any (suc n) zero [] e = refl
take_any (suc n) (suc m) [] e = refl
take_any zero zero (x ∷ xs) e = refl
take_any zero (suc m) (x ∷ xs) e = absurd (omega (arith, e))
take_any (suc n) zero (x ∷ xs) e = absurd (omega (arith, e))
take_any (suc n) (suc m) (x ∷ xs) e = ap (λ ys. x ∷ ys) (take_any n m xs (omega (arith, e)))

pub take_least : {A : Type 0} (n : ℕ) (xs : List A) → take (min (length xs) n) xs ≡ take n xs
take_least n xs = take_any n (min (length xs) n) xs refl
