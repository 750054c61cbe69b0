-- Lists of types in memory that may be missing.
use Rattle.std.specs.Prelude.{Option, Some, None, List, [], map}
use Rattle.std.specs.Borrow.{Bor}
use Rattle.c_types.specs.declared.ctype.CType.{CType}
use Rattle.c_types.specs.Types.{Ty}
use Rattle.c_types.specs.View.{ctype}

-- types, or none
abbrev pub or_none : Option (Bor (List CType)) → List Ty
or_none None = []
or_none (Some tys) = map ctype tys.now
