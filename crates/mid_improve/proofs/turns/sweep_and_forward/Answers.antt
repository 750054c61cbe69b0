use Rattle.mid_code.specs.Whole.{mid}
use Rattle.mid_improve.proofs.Improving.{sweep_and_forward}
use Rattle.mid_improve.proofs.turns.sweep_and_forward.Goals as goal

pub returns : goal.returns
returns c = sweep_and_forward (mid c.args.m) (mid c.in_ok-swept.swept) (mid c.in_ok-forward.forward) c.in_ok-swept.ensures.swept c.in_ok-forward.ensures.forwarded
