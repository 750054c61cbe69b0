use Rattle.std.proofs.Common.{arith}
use Rattle.cart_format.proofs.Many.{goes_on, fails, is_done}
use Rattle.cart_format.proofs.sections.many.Goals as goal

pub returns-in-Err : goal.returns-in-Err
returns-in-Err g c = fails g.X.Part.at c.args.step c.each.at c.args.count c.each.counter c.each.items.items c.each.rest.now _ c.in-Err.e c.each-test.true c.in-Err.ensures c.each.invariant.reads

pub each-preserved : goal.each-preserved
each-preserved g c = record {
  index = let step = c.requires.step in let at = c.each.invariant.index in omega arith;
  reads = rw c.in_ok-push-in-Ok.ensures.items (goes_on g.X.Part.at c.args.step c.each.at c.args.count c.each.counter c.each.items.items c.each.rest.now _ c.in-Ok.item c.in-Ok.after.now c.each-test.true c.in-Ok.ensures c.each.invariant.reads);
}

pub returns : goal.returns
returns g c = rw c.from_vec.ensures (is_done g.X.Part.at c.args.step c.each.at c.args.count c.each.counter c.each.items.items c.each.rest.now _ c.each-test.false c.each.invariant.reads)
