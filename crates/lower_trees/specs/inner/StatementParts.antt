-- The trees of statements whose parts stand in memory side by side, and what lowering a statement adds.
use Rattle.std.specs.Prelude.{ℕ, ◌≤◌, ◌+◌, List, ◌++◌, length, map, Vec}
use Rattle.std.specs.declared.alloc.Global.{Global}
use Rattle.mid_code.specs.declared.node.Node.{Node}
use Rattle.c_types.specs.Typed.{TExprT, TStmtT, EmptyZ, VarsZ, DoZ, IfZ, ForZ, SwitchZ, ReturnZ, BreakZ, ContinueZ}
use Rattle.c_types.specs.View.{ctype, texpr, tstmt, tarm, tarms}
use Rattle.c_types.specs.Nodes.{statement_nodes}
use Rattle.lower_trees.specs.declared.statements.Branches.{Branches}
use Rattle.lower_trees.specs.declared.statements.ForParts.{ForParts}
use Rattle.lower_trees.specs.declared.statements.SwitchParts.{SwitchParts}
use Rattle.lower_trees.specs.declared.jump.JumpTo.{JumpTo}
use Rattle.lower_trees.specs.declared.jump.Exits.{Exits}
use Rattle.lower_trees.specs.declared.output.Output.{Output}
use Rattle.lower_trees.specs.declared.reading.Reading.{Reading}
use Rattle.lower_trees.specs.Counts.{stmt_temps, stmt_sizes}
use Rattle.lower_trees.specs.Pieces.{Piece, Listing, listing}
use Rattle.lower_trees.specs.Statements.{depth, low_stmt}
use Rattle.lower_trees.specs.View.{shape_of, jump_of}
use Rattle.lower_trees.specs.inner.Adding.{Adds, AddsInside}
use Rattle.lower_trees.specs.inner.MaybeStatements.{other_of, maybe_texpr}

-- a statement that holds no other; of all others nothing
abbrev pub simple_of : TStmtT → TStmtT
simple_of (VarsZ vars) = VarsZ vars
simple_of (DoZ x) = DoZ x
simple_of (ReturnZ x) = ReturnZ x
simple_of BreakZ = BreakZ
simple_of ContinueZ = ContinueZ
simple_of _ = EmptyZ

abbrev pub choice_of : TExprT → Branches → TStmtT
choice_of x b = IfZ x (tstmt b.0.now) (other_of b.1.now)

abbrev pub for_of : ForParts → TStmtT
for_of p = ForZ p.made.now (other_of p.head.0.now) (maybe_texpr p.head.1) (maybe_texpr p.head.2) (tstmt p.body.now)

abbrev pub switch_of : SwitchParts → TStmtT
switch_of p = SwitchZ (texpr p.value.now) p.made.now (tarms (map tarm p.arms.now))

-- the code of a statement
abbrev pub stmt_code : Reading → Exits → TStmtT → (n m : ℕ) → Piece
stmt_code s e z n m = low_stmt (shape_of s) (ctype e.gives.now) z n m e.breaks (jump_of e.continues)

abbrev pub AddsStatement : Reading → Exits → TStmtT → (old new : Output) → Type 0
AddsStatement s e z old new = Adds old new (stmt_code s e z) (stmt_temps z) (stmt_sizes (shape_of s) z)

-- the same behind nodes that are kept apart
abbrev pub AddsNested : Reading → Exits → TStmtT → (begun : Listing) → (apart : Vec (Node ℕ) Global) → (old new : Output) → Type 0
AddsNested s e z begun apart old new = AddsInside old new apart (λ n m. begun ++ listing (stmt_code s e z n m)) (stmt_temps z) (stmt_sizes (shape_of s) z)

-- There is room for temporaries and locals, the nodes are few, and fewer parts are left by `continue` than temporaries are in use.
pub record CanLower (j : JumpTo) (temps : ℕ) (sizes : List ℕ) (nodes : ℕ) (old : Output) : Type 0 where
  pub next : old.next + temps ≤ 1000000
  pub local : length old.locals.items + length sizes ≤ 1000000
  pub few : nodes ≤ 1000000
  pub jump : depth (jump_of j) ≤ old.next

abbrev pub CanLowerOne : Reading → JumpTo → TStmtT → (old : Output) → Type 0
CanLowerOne s j z old = CanLower j (stmt_temps z) (stmt_sizes (shape_of s) z) (statement_nodes z) old
