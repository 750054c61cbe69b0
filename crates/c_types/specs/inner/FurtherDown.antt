-- Types further down have fewer derivations.
use Rattle.std.proofs.Common.{ℕ, zero, suc, ◌+◌, ◌≡◌, ◌≤◌, max, inl, inr, arith}
use Rattle.c_types.specs.declared.ctype.CType.{CType}
use Rattle.c_types.specs.declared.ctype.CType.TheVariants as c
use Rattle.c_types.specs.declared.ctype.Derivation.{Derivation}
use Rattle.c_types.specs.declared.ctype.Derivation.TheVariants as d
use Rattle.c_types.specs.declared.ctype.Underlying.TheDeep.{deep-CType}
use Rattle.c_types.specs.Types.{Ty}
use Rattle.c_types.specs.Derivations.{derive, repeated}
use Rattle.c_types.specs.Ctype.{ctype}
use Rattle.c_types.specs.Runs.{outermost, IsRun}
use Rattle.c_types.specs.inner.Heights.{height}

deep : (t : CType) → deep-CType t ≤ height (ctype t)
deep c.Void = omega arith
deep c.Int = omega arith
deep c.Bool = omega arith
deep (c.Enum n) = omega arith
deep (c.Struct n) = omega arith
deep (c.Union n) = omega arith
deep (c.Pointer t) = omega arith
deep (c.Array t n) = omega arith

derived_lower : (derivation : Derivation) (to : Ty) → height to ≤ height (derive derivation to)
derived_lower d.Pointer to = omega arith
derived_lower (d.Array len) to = omega arith

pub lower : (times : ℕ) (derivation : Derivation) (to : Ty) → height to ≤ height (repeated times derivation to)
lower zero derivation to = omega arith
lower (suc times) derivation to = omega (arith, lower times derivation to, derived_lower derivation (repeated times derivation to))

pub run_lower : (ty : Ty) (times : ℕ) (to : Ty) → IsRun ty times to → height to ≤ height ty
unfolding IsRun
run_lower ty times to (inl made) = rw made (lower times (outermost ty) to)
run_lower ty times to (inr none) = rw none.1 (omega arith)

pub falls : (ty to : CType) (times : ℕ) → IsRun (ctype ty) times (ctype to) → max (deep-CType ty) (max (deep-CType to) 0) ≤ height (ctype ty)
falls ty to times made = omega (arith, deep ty, deep to, run_lower (ctype ty) times (ctype to) made)
