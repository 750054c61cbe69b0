-- Steps of the walk down the elements of arrays.
use Rattle.std.proofs.Common.{◌≡◌, ◌^◌, ℕ, ◌*◌, ◌%◌, List, ap, sym, ◌∙◌}
use Rattle.std.proofs.lemmas.Nat.{mul-mod_second}
use Rattle.std.proofs.Math.Nat.{mul_assoc}
use Rattle.c_types.specs.Types.{Ty, ArrayY, LayoutT}
use Rattle.c_types.specs.Sizes.{words_of}

-- One array further down: its length is one more factor.
pub wrapped : (ls : List LayoutT) (t of : Ty) (len times goal : ℕ) → t ≡ ArrayY of len → (words_of ls t * times) % 2 ^ 32 ≡ goal
    → (words_of ls of * (len * times % 2 ^ 32)) % 2 ^ 32 ≡ goal
wrapped ls t of len times goal is before =
    mul-mod_second (words_of ls of) (len * times) (2 ^ 32) ∙ ap (λ (x : ℕ). x % 2 ^ 32) (sym (mul_assoc (words_of ls of) len times))
    ∙ ap (λ (s : Ty). (words_of ls s * times) % 2 ^ 32) (sym is) ∙ before
