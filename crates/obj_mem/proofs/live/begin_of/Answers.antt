use Rattle.std.proofs.Common.{arith, rules}
use Rattle.obj_mem.proofs.InMemory.{lower_before, higher_behind}
use Rattle.obj_mem.proofs.live.begin_of.Goals as goal

pub loop-low-preserved-then-number_of-number : goal.loop-low-preserved-then-number_of-number
loop-low-preserved-then-number_of-number c = record {
  order = search rules;
  bound = search rules;
  below = lower_before c.args.live.now c.args.number _ c.requires.rises (omega arith) (search rules);
  from = search rules;
}

pub loop-low-preserved : goal.loop-low-preserved
loop-low-preserved c = record {
  order = omega arith;
  bound = search rules;
  below = search rules;
  from = higher_behind c.args.live.now c.args.number _ c.requires.rises (search rules);
}
