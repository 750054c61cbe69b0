use Rattle.std.proofs.lemmas.Simd.{get_or-chunk}
use Rattle.word_lanes.proofs.slices.load.Goals as goal

pub returns : goal.returns
returns c = record { each = λ j h. get_or-chunk c.args.at 8 c.args.words.now j 0 h }
