use Rattle.pix_lanes.proofs.LaneBytes.{word_byte}
use Rattle.pix_lanes.proofs.lanes.bytes_of_words.Goals as goal

pub returns : goal.returns
returns c = record { each = λ j i h k. word_byte c.args.w j i c.fits-w.1 h k }
