use Rattle.pix_lanes.specs.Pixels.{drawn}
use Rattle.pix_lanes.proofs.pixel.pixel.Goals as goal

pub returns : goal.returns
unfolding drawn
returns c = record {
  drawn = rw (
    c.joined.ensures.word,
    c.over-red.ensures.part,
    c.over-green.ensures.part,
    c.over-blue.ensures.part,
    c.multiplied-red.ensures.product,
    c.multiplied-green.ensures.product,
    c.multiplied-blue.ensures.product,
    c.multiplied-alpha.ensures.product,
  );
}
