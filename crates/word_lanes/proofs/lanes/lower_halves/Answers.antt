use Rattle.word_lanes.proofs.LaneSteps.{masked_at}
use Rattle.word_lanes.proofs.lanes.lower_halves.Goals as goal

pub returns : goal.returns
returns c = record { each = λ k h. masked_at 16 8 c.args.a k c.fits-a.0 h }
