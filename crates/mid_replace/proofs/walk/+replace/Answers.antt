use Rattle.mid_replace.specs.inner.Tables.{plan_in}
use Rattle.mid_replace.proofs.Walking.{slice_goes_on, slice_stops}
use Rattle.mid_replace.proofs.walk.+replace.Goals as goal

pub replace_nodes-returns-then-not-branch : goal.replace_nodes-returns-then-not-branch
replace_nodes-returns-then-not-branch t c =
    slice_stops (plan_in c.args.table.now) _ _ _ _ c.args.ns.now c.loop-n.n-index c.n-item.result c.in_ok-replace_node.field-0 _ c.loop-n-test.true c.n-item.is
    c.in_ok-replace_node.ensures c.if-not-branch.true c.loop-n.invariant

pub replace_nodes-loop-n-preserved : goal.replace_nodes-loop-n-preserved
replace_nodes-loop-n-preserved t c =
    slice_goes_on (plan_in c.args.table.now) _ _ _ _ c.args.ns.now c.loop-n.n-index c.n-item.result c.in_ok-replace_node.field-0 _ c.loop-n-test.true c.n-item.is
    c.in_ok-replace_node.ensures c.if-not-branch.false c.loop-n.invariant
