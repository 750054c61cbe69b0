use Rattle.std.proofs.Common.{w32}
use Rattle.std.specs.Prelude.{nat_lt}
use Rattle.std.proofs.lemmas.Simd.{tops_compared}
use Rattle.word_lanes.proofs.LaneSteps.{lesser_at}
use Rattle.word_lanes.proofs.lanes.lesser.Goals as goal

pub returns : goal.returns
returns c = record { each = λ k h. lesser_at 8 c.args.a c.args.b _ k (tops_compared w32 nat_lt c.args.a c.args.b) c.fits-a.0 c.fits-b.0 h }
