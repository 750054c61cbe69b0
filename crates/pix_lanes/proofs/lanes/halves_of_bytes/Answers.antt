use Rattle.pix_lanes.proofs.LaneBytes.{half_at}
use Rattle.pix_lanes.proofs.lanes.halves_of_bytes.Goals as goal

pub returns : goal.returns
returns c = record { each = λ k h. half_at c.args.b k c.fits-b.0 c.fits-b.1 h }
