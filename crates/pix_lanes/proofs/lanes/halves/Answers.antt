use Rattle.std.proofs.Common.{arith, w32, Fits}
use Rattle.std.proofs.lemmas.Simd.{Each1-get_or}
use Rattle.pix_lanes.proofs.LaneSteps.{lower_half, upper_half}
use Rattle.pix_lanes.proofs.lanes.halves.Goals as goal

pub returns-clause-lower : goal.returns-clause-lower
returns-clause-lower c j h = lower_half c.args.w c.bytes_of_words.result c.halves_of_bytes.result j (c.bytes_of_words.ensures.each j) (c.halves_of_bytes.ensures.each) h

pub returns-clause-upper : goal.returns-clause-upper
returns-clause-upper c j h = upper_half c.args.w c.bytes_of_words.result c.halves_of_bytes.result j
    (Each1-get_or (Fits w32) c.args.w j 0 (omega arith) c.fits-w.1).fits (c.bytes_of_words.ensures.each j) (c.halves_of_bytes.ensures.each) h
