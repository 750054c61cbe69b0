-- What a type below others tells of how it is made.
use Rattle.std.specs.Prelude.{ℕ, ◌≡◌, ◌⊎◌}
use Rattle.c_types.specs.declared.ctype.Derivation.{Derivation}
use Rattle.c_types.specs.declared.ctype.Derivation.TheVariants as d
use Rattle.c_types.specs.Types.{Ty, VoidY, ArrayY}
use Rattle.c_types.specs.Derivations.{repeated}

-- the derivation by which a type is made of the one right below it, where it is made of one
abbrev pub outermost : Ty → Derivation
outermost (ArrayY of len) = d.Array len
outermost _ = d.Pointer

-- the outermost derivation of a type is repeated so often, down to this type; or that is not told
unfoldable pub IsRun : Ty → (times : ℕ) → Ty → Type 0
IsRun ty times to = (ty ≡ repeated times (outermost ty) to) ⊎ (times ≡ 0) × (to ≡ VoidY)
