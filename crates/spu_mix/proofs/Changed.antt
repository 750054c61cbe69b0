-- One element of a list, changed.
use Rattle.std.proofs.Common.{◌≡◌, ℕ, zero, suc, ◌<◌, ◌≤◌, arith, refl, ap, List, [], ◌∷◌, length, get_or}
use Rattle.std.proofs.Math.ListN.{set}
use Rattle.spu_mix.specs.Channels.{changed_at}

pub changed_at_set : {X : Type 0} (xs : List X) (i : ℕ) (f : X → X) (d : X) → i < length xs → changed_at i f xs ≡ set xs i (f (get_or xs i d))
unfolding changed_at
changed_at_set [] i f d h = refl
changed_at_set (x ∷ xs) zero f d h = refl
changed_at_set (x ∷ xs) (suc i) f d h = ap (λ ys. x ∷ ys) (changed_at_set xs i f d (omega arith))

pub changed_at_past : {X : Type 0} (xs : List X) (i : ℕ) (f : X → X) → length xs ≤ i → changed_at i f xs ≡ xs
unfolding changed_at
changed_at_past [] i f h = refl
changed_at_past (x ∷ xs) zero f h = absurd (omega arith)
changed_at_past (x ∷ xs) (suc i) f h = ap (λ ys. x ∷ ys) (changed_at_past xs i f (omega arith))
