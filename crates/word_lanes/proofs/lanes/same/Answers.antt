use Rattle.std.proofs.lemmas.Simd.{get_or-replicate}
use Rattle.word_lanes.proofs.lanes.same.Goals as goal

pub returns : goal.returns
returns c = record { each = λ k h. get_or-replicate 8 k c.args.n 0 h }
