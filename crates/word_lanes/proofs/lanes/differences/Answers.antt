use Rattle.std.proofs.Common.{arith, w32, Fits}
use Rattle.std.proofs.lemmas.Simd.{Each1-get_or}
use Rattle.word_lanes.proofs.LaneSteps.{less_at}
use Rattle.word_lanes.proofs.lanes.differences.Goals as goal

pub returns : goal.returns
returns c = record { each = λ k h. less_at 8 c.args.a c.args.b k c.fits-a.0 c.fits-b.0 h (c.requires.ordered k h) (Each1-get_or (Fits w32) c.args.a k 0 (omega arith) c.fits-a.1).fits }
