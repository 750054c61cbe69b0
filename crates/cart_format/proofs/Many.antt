-- Items one after another, as a loop reads them.
use Rattle.std.proofs.Common.{◌≡◌, ℕ, suc, ◌+◌, ◌-◌, ◌<◌, ◌≤◌, List, [], ◌∷◌, ◌++◌, refl, sym, ap, ◌∙◌, append_assoc, append-nil, arith}
use Rattle.std.specs.Prelude.{Result, Ok, Err}
use Rattle.kit_base.specs.declared.failure.Failure.{Failure}
use Rattle.kit_base.specs.declared.failure.Failure.TheVariants as failures
use Rattle.kit_base.specs.Gives.{Fails}
use Rattle.cart_format.specs.declared.error.CartFault.{CartFault}
use Rattle.cart_format.specs.Reading.{◌>>=◌, many}

abbrev pub Got : Type 0 → Type 0
Got X = Result (List X × List ℕ) CartFault

-- what was read before, and what is still read
abbrev pub with_front : {X : Type 0} → List X → Got X → Got X
with_front front read = read >>= λ x. Ok (front ++ x.0, x.1)

module _ {X : Type 0} (item : ℕ → List ℕ → Result (X × List ℕ) CartFault) (step index count i : ℕ) (front : List X) (bytes : List ℕ) (total : Got X) where
  regroup : (x : X) (read : Got X) → with_front front (read >>= λ others. Ok (x ∷ others.0, others.1)) ≡ with_front (front ++ x ∷ []) read
  regroup x (Ok y) = ap (λ (xs : List X). Ok (xs, y.1)) (sym (append_assoc front (x ∷ []) y.0))
  regroup x (Err e) = refl

  pub goes_on : (x : X) (after : List ℕ) → i < count → item index bytes ≡ Ok (x, after)
      → with_front front (many item step index (count - i) bytes) ≡ total → with_front (front ++ x ∷ []) (many item step (index + step) (count - (i + 1)) after) ≡ total
  unfolding many
  goes_on x after lt h so_far =
      let k : count - i ≡ suc (count - (i + 1)) = omega arith in
      let one : with_front front (many item step index (count - i) bytes) ≡ with_front (front ++ x ∷ []) (many item step (index + step) (count - (i + 1)) after) = rw (k, h) (regroup x (many item step (index + step) (count - (i + 1)) after)) in
      sym one ∙ so_far

  failed : (e : CartFault) → i < count → item index bytes ≡ Err e → with_front front (many item step index (count - i) bytes) ≡ total → total ≡ Err e
  unfolding many
  failed e lt h so_far =
      let k : count - i ≡ suc (count - (i + 1)) = omega arith in
      let one : with_front front (many item step index (count - i) bytes) ≡ Err e = rw (k, h) refl in
      sym so_far ∙ one

  pub fails : (e : Failure CartFault) → i < count → Fails e (item index bytes) → with_front front (many item step index (count - i) bytes) ≡ total → Fails e total
  fails failures.Memory lt h so_far = tt
  fails (failures.Cause e) lt h so_far = failed e lt h so_far

  pub is_done : count ≤ i → with_front front (many item step index (count - i) bytes) ≡ total → total ≡ Ok (front, bytes)
  unfolding many
  is_done le so_far =
      let k : count - i ≡ 0 = omega arith in
      let one : with_front front (many item step index (count - i) bytes) ≡ Ok (front, bytes) = rw k (ap (λ (xs : List X). Ok (xs, bytes)) (append-nil front)) in
      sym so_far ∙ one
