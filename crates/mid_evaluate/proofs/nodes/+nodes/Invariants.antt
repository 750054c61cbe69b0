use Rattle.std.proofs.Common.{◌≡◌, ◌+◌, ◌*◌, ◌≤◌, map, drop}
use Rattle.mid_code.specs.Functions.{node, nodes, listed, joined}
use Rattle.mid_evaluate.specs.inner.Once.{looped, ran}
use Rattle.mid_evaluate.specs.View.{code_of, state_of}
use Rattle.mid_evaluate.proofs.Sizes.{count, count_one, most}
use Rattle.mid_evaluate.proofs.nodes.+nodes.Given as goal

abbrev pub invariant-run_nodes-loop-x : goal.invariant-run_nodes-loop-x
invariant-run_nodes-loop-x l = ran (code_of l.s) l.s.frames.now l.n (joined (listed (map node (drop l.x-index l.xs)))) (state_of l.m) ≡ ran (code_of l.s) l.s.frames.now l.n (nodes l.xs) (state_of l.initial.m)

abbrev pub invariant-run_loop-turns : goal.invariant-run_loop-turns
invariant-run_loop-turns l = record {
  fewer : l.left ≤ l.n;
  same : looped (code_of l.s) l.s.frames.now l.left (nodes l.body) (state_of l.m) ≡ looped (code_of l.s) l.s.frames.now l.n (nodes l.body) (state_of l.initial.m);
}

abbrev pub decreases-run_loop-turns : goal.decreases-run_loop-turns
decreases-run_loop-turns l = l.left

abbrev pub decreases-call : goal.decreases-call
decreases-call l = l.n * most (code_of l.s.now)

abbrev pub decreases-run_operation : goal.decreases-run_operation
decreases-run_operation l = l.n * most (code_of l.s.now) + 1

abbrev pub decreases-run_loop : goal.decreases-run_loop
decreases-run_loop l = l.n * most (code_of l.s.now) + (4 * count (nodes l.body.now) + 2)

abbrev pub decreases-run_block : goal.decreases-run_block
decreases-run_block l = l.n * most (code_of l.s.now) + (4 * count (nodes l.body.now) + 2)

abbrev pub decreases-run_choice : goal.decreases-run_choice
decreases-run_choice l = l.n * most (code_of l.s.now) + (4 * (count (nodes l.a.now) + count (nodes l.b.now)) + 2)

abbrev pub decreases-run_node : goal.decreases-run_node
decreases-run_node l = l.n * most (code_of l.s.now) + 4 * count_one (node l.x.now)

abbrev pub decreases-run_nodes : goal.decreases-run_nodes
decreases-run_nodes l = l.n * most (code_of l.s.now) + (4 * count (nodes l.xs.now) + 1)
