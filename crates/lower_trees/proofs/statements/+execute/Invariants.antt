use Rattle.std.proofs.Common.{◌≡◌, ◌+◌, ◌*◌, ◌≤◌, ◌++◌, map, drop, length}
use Rattle.c_types.specs.View.{ctype, tstmt, tstmts, tarm, tarms}
use Rattle.c_types.specs.Nodes.{statement_nodes, maybe_statement_nodes, statements_nodes, arms_nodes}
use Rattle.mid_code.specs.Functions.{node}
use Rattle.lower_trees.specs.Counts.{stmts_temps, stmts_sizes, arms_temps, arms_sizes}
use Rattle.lower_trees.specs.Pieces.{listing}
use Rattle.lower_trees.specs.Statements.{low_stmts, low_arms}
use Rattle.lower_trees.specs.inner.Enclosed.{arms_open}
use Rattle.lower_trees.specs.inner.MaybeStatements.{other_of}
use Rattle.lower_trees.specs.View.{shape_of, jump_of}
use Rattle.lower_trees.proofs.statements.+execute.Given as goal

abbrev pub invariant-statements-loop-a : goal.invariant-statements-loop-a
invariant-statements-loop-a l = record {
  nodes : map node l.out.nodes.items ++ listing (low_stmts (shape_of l.s) (ctype l.exits.gives.now) (tstmts (map tstmt (drop l.a-index l.body))) l.out.next (length l.out.locals.items) l.exits.breaks (jump_of l.exits.continues)) ≡ map node l.initial.out.nodes.items ++ listing (low_stmts (shape_of l.s) (ctype l.exits.gives.now) (tstmts (map tstmt l.body)) l.initial.out.next (length l.initial.out.locals.items) l.exits.breaks (jump_of l.exits.continues));
  locals : l.out.locals.items ++ stmts_sizes (shape_of l.s) (tstmts (map tstmt (drop l.a-index l.body))) ≡ l.initial.out.locals.items ++ stmts_sizes (shape_of l.s) (tstmts (map tstmt l.body));
  temps : l.out.next + stmts_temps (tstmts (map tstmt (drop l.a-index l.body))) ≡ l.initial.out.next + stmts_temps (tstmts (map tstmt l.body));
  local : length l.out.locals.items + length (stmts_sizes (shape_of l.s) (tstmts (map tstmt (drop l.a-index l.body)))) ≡ length l.initial.out.locals.items + length (stmts_sizes (shape_of l.s) (tstmts (map tstmt l.body)));
  few : statements_nodes (tstmts (map tstmt (drop l.a-index l.body))) ≤ 1000000;
  on : l.initial.out.next ≤ l.out.next;
}

abbrev pub invariant-labelled-loop-arm : goal.invariant-labelled-loop-arm
invariant-labelled-loop-arm l = record {
  nodes : map node l.nodes.items ++ arms_open l.met (map node l.inside.items) (shape_of l.s) (ctype l.exits.gives.now) l.t (tarms (map tarm (drop l.arm-index l.arms))) l.out.next (length l.out.locals.items) l.exits.breaks (jump_of l.exits.continues) ≡ listing (low_arms (shape_of l.s) (ctype l.exits.gives.now) l.t (tarms (map tarm l.arms)) l.initial.out.next (length l.initial.out.locals.items) l.exits.breaks (jump_of l.exits.continues));
  kept : l.out.nodes ≡ l.initial.out.nodes;
  locals : l.out.locals.items ++ arms_sizes (shape_of l.s) (tarms (map tarm (drop l.arm-index l.arms))) ≡ l.initial.out.locals.items ++ arms_sizes (shape_of l.s) (tarms (map tarm l.arms));
  temps : l.out.next + arms_temps (tarms (map tarm (drop l.arm-index l.arms))) ≡ l.initial.out.next + arms_temps (tarms (map tarm l.arms));
  local : length l.out.locals.items + length (arms_sizes (shape_of l.s) (tarms (map tarm (drop l.arm-index l.arms)))) ≡ length l.initial.out.locals.items + length (arms_sizes (shape_of l.s) (tarms (map tarm l.arms)));
  few : arms_nodes (tarms (map tarm (drop l.arm-index l.arms))) ≤ 1000000;
  on : l.initial.out.next ≤ l.out.next;
}

abbrev pub decreases-statement : goal.decreases-statement
decreases-statement l = 4 * statement_nodes (tstmt l.a.now)

abbrev pub decreases-nested : goal.decreases-nested
decreases-nested l = 4 * statement_nodes (tstmt l.a.now) + 1

abbrev pub decreases-nested_other : goal.decreases-nested_other
decreases-nested_other l = 4 * maybe_statement_nodes (other_of l.a.now) + 2

abbrev pub decreases-other : goal.decreases-other
decreases-other l = 4 * maybe_statement_nodes (other_of l.a.now) + 1

abbrev pub decreases-block : goal.decreases-block
decreases-block l = 4 * statements_nodes (tstmts (map tstmt l.body.now)) + 2

abbrev pub decreases-choice : goal.decreases-choice
decreases-choice l = 4 * (statement_nodes (tstmt l.branches.0.now) + maybe_statement_nodes (other_of l.branches.1.now)) + 3

abbrev pub decreases-while_loop : goal.decreases-while_loop
decreases-while_loop l = 4 * statement_nodes (tstmt l.body.now) + 2

abbrev pub decreases-do_while_loop : goal.decreases-do_while_loop
decreases-do_while_loop l = 4 * statement_nodes (tstmt l.body.now) + 2

abbrev pub decreases-for_loop : goal.decreases-for_loop
decreases-for_loop l = 4 * (maybe_statement_nodes (other_of l.of.head.0.now) + statement_nodes (tstmt l.of.body.now)) + 2

abbrev pub decreases-switch : goal.decreases-switch
decreases-switch l = 4 * arms_nodes (tarms (map tarm l.of.arms.now)) + 3

abbrev pub decreases-statements : goal.decreases-statements
decreases-statements l = 4 * statements_nodes (tstmts (map tstmt l.body.now)) + 1

abbrev pub decreases-labelled : goal.decreases-labelled
decreases-labelled l = 4 * arms_nodes (tarms (map tarm l.arms.now)) + 2
