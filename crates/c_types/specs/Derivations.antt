-- Types that are made of others.
use Rattle.std.specs.Prelude.{ℕ, zero, suc}
use Rattle.c_types.specs.declared.ctype.Derivation.{Derivation}
use Rattle.c_types.specs.declared.ctype.Derivation.TheVariants as d
use Rattle.c_types.specs.Types.{Ty, PointerY, ArrayY}

abbrev pub derive : Derivation → Ty → Ty
derive d.Pointer t = PointerY t
derive (d.Array len) t = ArrayY t len

-- by so many times the same derivation
abbrev pub repeated : (times : ℕ) → Derivation → Ty → Ty
repeated zero derivation t = t
repeated (suc times) derivation t = derive derivation (repeated times derivation t)
