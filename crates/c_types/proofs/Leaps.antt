-- How types are made of types further down.
use Rattle.std.proofs.Common.{◌≡◌, ◌≢◌, ℕ, zero, suc, ◌+◌, inl, inr, arith, refl, ap, sym, ◌∙◌}
use Rattle.c_types.specs.declared.ctype.Derivation.{Derivation}
use Rattle.c_types.specs.declared.ctype.Derivation.TheVariants as d
use Rattle.c_types.specs.Types.{Ty, VoidY}
use Rattle.c_types.specs.Derivations.{derive, repeated}
use Rattle.c_types.specs.Runs.{outermost, IsRun}

outermost_of : (derivation : Derivation) (to : Ty) → outermost (derive derivation to) ≡ derivation
outermost_of d.Pointer to = refl
outermost_of (d.Array len) to = refl

-- made by the derivation that is its outermost one
made_by : (derivation : Derivation) (of to : Ty) (times : ℕ) → derive derivation of ≡ repeated times derivation to → IsRun (derive derivation of) times to
unfolding IsRun
made_by derivation of to times made = inl (made ∙ ap (λ (d : Derivation). repeated times d to) (sym (outermost_of derivation of)))

-- once more than before
pub once_more : (derivation other : Derivation) (of to : Ty) (times more : ℕ) → of ≡ repeated times other to → other ≡ derivation → more ≡ times + 1 → IsRun (derive derivation of) more to
once_more derivation other of to times more made same e =
    made_by derivation of to more (ap (derive derivation) (made ∙ ap (λ (d : Derivation). repeated times d to) same) ∙ ap (λ (n : ℕ). repeated n derivation to) (next times ∙ sym e))
  where
    next : (n : ℕ) → suc n ≡ n + 1
    next n = omega arith

-- for the second time
pub for_two : (derivation other : Derivation) (of to : Ty) → of ≡ derive other to → other ≡ derivation → IsRun (derive derivation of) 2 to
for_two derivation other of to made same = made_by derivation of to 2 (ap (derive derivation) (made ∙ ap (λ (d : Derivation). derive d to) same))

-- nothing is told
pub untold : (ty : Ty) → IsRun ty 0 VoidY
unfolding IsRun
untold ty = inr (refl, refl)

-- what is told, with the derivation that was read
pub told : (ty of to : Ty) (times : ℕ) (derivation : Derivation) → IsRun ty times to → times ≢ 0 → ty ≡ derive derivation of → ty ≡ repeated times derivation to
unfolding IsRun
told ty of to times derivation (inl made) some is = made ∙ ap (λ (d : Derivation). repeated times d to) (ap outermost is ∙ outermost_of derivation of)
told ty of to times derivation (inr none) some is = absurd (some none.0)
