-- What the values that statements are typed with stand for.
use Rattle.std.specs.Prelude.{List, [], ◌∷◌, map, Option, Some, None, Result, Ok}
use Rattle.std.specs.Global.{Box}
use Rattle.c_tree.specs.Tree.{MaybeS, NoneS, SomeS}
use Rattle.c_tree.specs.View.{stmt}
use Rattle.c_tree.specs.declared.statement.Stmt.{Stmt}
use Rattle.c_types.specs.Typed.{MaybeZ, NoneZ, SomeZ}
use Rattle.c_types.specs.declared.ctype.CType.{CType}
use Rattle.c_types.specs.declared.typed.TStmt.{TStmt}
use Rattle.c_types.specs.View.{ctype, layout, tstmt}
use Rattle.c_exprs.specs.declared.error.Fault.{Fault}
use Rattle.c_exprs.specs.View.{scope, names, bodies}
use Rattle.c_exprs.specs.declared.names.Globals.{Globals}
use Rattle.c_stmts.specs.State.{Fn, St, Labels}
use Rattle.c_stmts.specs.declared.labels.Labels.{Labels as LabelsOf}
use Rattle.c_stmts.specs.declared.state.State.{State}

abbrev pub st : State → St
st s = record { scopes = map scope s.scopes.items; sizes = s.sizes; used = s.used; texts = s.texts }

abbrev pub fn_of : Globals → CType → Fn
fn_of g t = record { layouts = map layout g.layouts.items; whole = g.whole.items; names = names g; bodies = bodies g; gives = ctype t }

-- a tree, and the state after it
abbrev pub reached : {Y : Type 0} → Y → St → Result (Y × St) Fault
reached y sq = Ok (y, sq)

-- what may be missing, as a list
abbrev pub lone : {A : Type 0} → Option A → List A
lone None = []
lone (Some x) = x ∷ []

abbrev pub labels : LabelsOf → Labels
labels seen = record { cases = seen.cases.keys; has_default = seen.has_default }

-- ---- statements that may be missing

abbrev pub maybe_s : Option (Box Stmt) → MaybeS
maybe_s None = NoneS
maybe_s (Some s) = SomeS (stmt s.value)

abbrev pub maybe_z : Option TStmt → MaybeZ
maybe_z None = NoneZ
maybe_z (Some s) = SomeZ (tstmt s)

abbrev pub maybe_box : Option (Box TStmt) → MaybeZ
maybe_box None = NoneZ
maybe_box (Some s) = SomeZ (tstmt s.value)
