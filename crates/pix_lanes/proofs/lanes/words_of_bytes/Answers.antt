use Rattle.pix_lanes.proofs.LaneBytes.{word_at}
use Rattle.pix_lanes.proofs.lanes.words_of_bytes.Goals as goal

pub returns : goal.returns
returns c = record { each = λ j h. word_at c.args.b j c.fits-b.0 c.fits-b.1 h }
