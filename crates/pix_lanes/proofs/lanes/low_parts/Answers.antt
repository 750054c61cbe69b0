use Rattle.word_lanes.proofs.LaneSteps.{masked_at}
use Rattle.pix_lanes.proofs.lanes.low_parts.Goals as goal

pub returns : goal.returns
returns c = record { each = λ k h. masked_at 24 8 c.args.w k c.fits-w.0 h }
