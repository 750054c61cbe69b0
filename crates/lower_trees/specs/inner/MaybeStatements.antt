-- Statements and expressions in memory that may be missing.
use Rattle.std.specs.Prelude.{Option, Some, None, option_map}
use Rattle.std.specs.Borrow.{Bor}
use Rattle.std.specs.Global.{Box}
use Rattle.c_types.specs.declared.typed.TStmt.{TStmt}
use Rattle.c_types.specs.declared.typed.TExpr.{TExpr}
use Rattle.c_types.specs.Typed.{TExprT, MaybeZ, NoneZ, SomeZ}
use Rattle.c_types.specs.View.{texpr, tstmt}

-- a statement, or none
abbrev pub other_of : Option (Box TStmt) → MaybeZ
other_of None = NoneZ
other_of (Some a) = SomeZ (tstmt a.value)

-- an expression, or none
abbrev pub maybe_texpr : Option (Bor TExpr) → Option TExprT
maybe_texpr x = option_map (λ x. texpr x.now) x
