use Rattle.mid_code.specs.Whole.{mid}
use Rattle.mid_improve.proofs.Improving.{round_after}
use Rattle.mid_improve.proofs.turns.first_round.Goals as goal

pub returns : goal.returns
returns c = round_after (mid c.args.m) (mid c.in_ok-forward.forward) (mid c.in_ok-swept.swept) c.in_ok-forward.ensures c.in_ok-swept.ensures
