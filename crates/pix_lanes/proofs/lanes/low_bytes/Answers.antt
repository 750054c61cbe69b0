use Rattle.word_lanes.proofs.LaneSteps.{masked_at}
use Rattle.pix_lanes.proofs.lanes.low_bytes.Goals as goal

pub returns : goal.returns
returns c = record { each = λ k h. masked_at 8 16 c.args.a k c.fits-a.0 h }
