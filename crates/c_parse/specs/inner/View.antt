-- What a function holds, as readings see it.
use Rattle.std.specs.Global.{Box}
use Rattle.c_tree.specs.declared.statement.Stmt.{Stmt}
use Rattle.c_tree.specs.Tree.{StmtT}
use Rattle.c_tree.specs.View.{stmt}
use Rattle.c_parse.specs.declared.scope.Scope.{Scope}
use Rattle.c_parse.specs.Scope.{Context}

abbrev pub context : Scope → Context
context s = record { total = s.total; types = s.types }

-- the statement in a box
abbrev pub boxed_stmt : Box Stmt → StmtT
boxed_stmt b = stmt b.value
