use Rattle.std.proofs.Common.{◌/◌, ◌^◌}
use Rattle.word_lanes.proofs.LaneSteps.{splat_at}
use Rattle.word_lanes.proofs.lanes.upper_halves.Goals as goal

pub returns : goal.returns
returns c = record { each = λ k h. splat_at (λ a b. a / 2 ^ b) 8 c.args.a 16 k c.fits-a.0 h }
