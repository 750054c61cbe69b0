use Rattle.std.proofs.Common.{◌+◌, ◌*◌, arith, w16, Fits}
use Rattle.std.proofs.lemmas.Simd.{Each1-get_or}
use Rattle.pix_lanes.proofs.LaneSteps.{whole_word}
use Rattle.pix_lanes.proofs.lanes.words.Goals as goal

pub returns : goal.returns
returns c = record {
  each = λ j h. whole_word c.args.h c.bytes_of_halves.result c.words_of_bytes.result j
      (Each1-get_or (Fits w16) c.args.h (2 * j) 0 (omega arith) c.fits-h.1).fits
      (Each1-get_or (Fits w16) c.args.h (2 * j + 1) 0 (omega arith) c.fits-h.1).fits
      c.bytes_of_halves.ensures.each (c.words_of_bytes.ensures.each j h) h;
}
