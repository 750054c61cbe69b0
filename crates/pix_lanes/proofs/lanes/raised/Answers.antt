use Rattle.std.proofs.Common.{◌*◌, ◌%◌, ◌^◌}
use Rattle.word_lanes.proofs.LaneSteps.{splat_at}
use Rattle.pix_lanes.proofs.lanes.raised.Goals as goal

pub returns : goal.returns
returns c = record { each = λ k h. splat_at (λ a b. a * 2 ^ b % 65536) 16 c.args.a 8 k c.fits-a.0 h }
