-- What statements stand for that may lack a part.
use Rattle.std.proofs.Common.{◌≡◌, Some, None, Option, List, ℕ, rules, option_map}
use Rattle.std.specs.Global.{Box}
use Rattle.c_tree.specs.declared.span.Span.{Span}
use Rattle.c_tree.specs.declared.expression.Expr.{Expr}
use Rattle.c_tree.specs.declared.statement.Stmt.{Stmt}
use Rattle.c_tree.specs.declared.statement.Stmt as tree
use Rattle.c_tree.specs.Tree.{IfS, ForS}
use Rattle.c_tree.specs.View.{expr, stmt}
use Rattle.c_types.specs.declared.typed.TExpr.{TExpr}
use Rattle.c_types.specs.declared.typed.TStmt.{TStmt, If, For, the_lemmas}
use Rattle.c_types.specs.Typed.{IfZ, ForZ}
use Rattle.c_types.specs.View.{texpr, tstmt}
use Rattle.c_stmts.specs.View.{maybe_s, maybe_box}

pub view-If : (e : TExpr) (a : Box TStmt) (b : Option (Box TStmt)) → tstmt (If e a b) ≡ IfZ (texpr e) (tstmt a.value) (maybe_box b)
view-If e a None = search (rules, the_lemmas)
view-If e a (Some b) = search (rules, the_lemmas)

pub view-For : (made : List ℕ) (f : Option (Box TStmt)) (x y : Option TExpr) (a : Box TStmt) → tstmt (For made f x y a) ≡ ForZ made (maybe_box f) (option_map texpr x) (option_map texpr y) (tstmt a.value)
view-For made None x y a = search (rules, the_lemmas)
view-For made (Some f) x y a = search (rules, the_lemmas)

pub ruleset built = (view-If, view-For)

-- ---- the trees that are read

pub view-if : (e : Expr) (a : Box Stmt) (b : Option (Box Stmt)) (s : Span) → stmt (tree.If e a b s) ≡ IfS (expr e) (stmt a.value) (maybe_s b) s
view-if e a None s = search (rules, tree.the_lemmas)
view-if e a (Some b) s = search (rules, tree.the_lemmas)

pub view-for : (f : Option (Box Stmt)) (x y : Option Expr) (a : Box Stmt) (s : Span) → stmt (tree.For f x y a s) ≡ ForS (maybe_s f) (option_map expr x) (option_map expr y) (stmt a.value) s
view-for None x y a s = search (rules, tree.the_lemmas)
view-for (Some f) x y a s = search (rules, tree.the_lemmas)

pub ruleset read = (view-if, view-for)
