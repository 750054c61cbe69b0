use Rattle.std.proofs.Common.{◌≡◌, ◌+◌, ◌≤◌, ◌^◌, drop, length, map}
use Rattle.c_tree.specs.Count.{vars_nodes}
use Rattle.c_tree.specs.View.{var}
use Rattle.c_types.specs.View.{tvar}
use Rattle.c_stmts.specs.View.{st, fn_of}
use Rattle.c_stmts.specs.StatementTyping.{all_declared}
use Rattle.c_stmts.proofs.VarFronts.{before}
use Rattle.c_stmts.proofs.variables.all_declared.Given as goal

abbrev pub invariant-loop-v : goal.invariant-loop-v
invariant-loop-v l =
    (before (map tvar l.found.items) (all_declared (fn_of l.globals l.gives) (st l.state) (map var (drop l.v-index l.vs))) ≡ all_declared (fn_of l.globals l.gives) (st l.initial.state) (map var l.vs))
    × (length (st l.state).sizes + vars_nodes (map var (drop l.v-index l.vs)) ≤ 2 ^ 32)
