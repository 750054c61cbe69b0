use Rattle.std.proofs.Common.{◌≡◌, ◌+◌, ◌*◌, ◌≤◌, ◌^◌, drop, length, map}
use Rattle.c_tree.specs.Count.{expr_nodes, stmt_nodes, maybe_nodes, stmts_nodes, arm_nodes, arms_nodes}
use Rattle.c_tree.specs.View.{expr, stmt, stmts, arm, arms}
use Rattle.c_types.specs.View.{tarm, tstmt}
use Rattle.c_stmts.specs.State.{no_labels}
use Rattle.c_stmts.specs.View.{st, fn_of, labels, maybe_s}
use Rattle.c_stmts.specs.StatementTyping as typing
use Rattle.c_stmts.proofs.StmtFronts.{before, before_arms}
use Rattle.c_stmts.proofs.statements.+statements.Given as goal

abbrev pub invariant-stmts_of-loop-s : goal.invariant-stmts_of-loop-s
invariant-stmts_of-loop-s l = record {
  typed : before (map tstmt l.found.items) (typing.statements (fn_of l.globals l.gives) (st l.state) l.jumps.breaks l.jumps.continues (stmts (map stmt (drop l.s-index l.all)))) ≡ typing.statements (fn_of l.globals l.gives) (st l.initial.state) l.jumps.breaks l.jumps.continues (stmts (map stmt l.all));
  room : length (st l.state).sizes + stmts_nodes (stmts (map stmt (drop l.s-index l.all))) ≤ 2 ^ 32;
}

abbrev pub invariant-arms_of-loop-a : goal.invariant-arms_of-loop-a
invariant-arms_of-loop-a l = record {
  typed : before_arms (map tarm l.found.items) (typing.arms (fn_of l.globals l.gives) (st l.state) l.jumps.breaks l.jumps.continues (labels l.seen) (arms (map arm (drop l.a-index l.all)))) ≡ typing.arms (fn_of l.globals l.gives) (st l.initial.state) l.jumps.breaks l.jumps.continues no_labels (arms (map arm l.all));
  room : length (st l.state).sizes + arms_nodes (arms (map arm (drop l.a-index l.all))) ≤ 2 ^ 32;
}

abbrev pub decreases-stmt_of : goal.decreases-stmt_of
decreases-stmt_of l = 4 * stmt_nodes (stmt l.s.now)

abbrev pub decreases-while_of : goal.decreases-while_of
decreases-while_of l = 4 * (expr_nodes (expr l.e.now) + stmt_nodes (stmt l.a.now)) + 2

abbrev pub decreases-do_while_of : goal.decreases-do_while_of
decreases-do_while_of l = 4 * (stmt_nodes (stmt l.a.now) + expr_nodes (expr l.e.now)) + 2

abbrev pub decreases-maybe_of : goal.decreases-maybe_of
decreases-maybe_of l = 4 * maybe_nodes (maybe_s l.s.now) + 1

abbrev pub decreases-stmts_of : goal.decreases-stmts_of
decreases-stmts_of l = 4 * stmts_nodes (stmts (map stmt l.all.now)) + 1

abbrev pub decreases-arm_of : goal.decreases-arm_of
decreases-arm_of l = 4 * arm_nodes (arm l.a.now) + 1

abbrev pub decreases-arms_of : goal.decreases-arms_of
decreases-arms_of l = 4 * arms_nodes (arms (map arm l.all.now)) + 2
