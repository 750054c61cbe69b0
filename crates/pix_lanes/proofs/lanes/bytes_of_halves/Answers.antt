use Rattle.pix_lanes.proofs.LaneBytes.{half_byte}
use Rattle.pix_lanes.proofs.lanes.bytes_of_halves.Goals as goal

pub returns : goal.returns
returns c = record { each = λ j i h k. half_byte c.args.h j i c.fits-h.1 h k }
