use Rattle.std.proofs.Common.{◌+◌, ◌*◌, ◌<◌, refl, arith}
use Rattle.pix_lanes.specs.Pixels.{drawn}
use Rattle.pix_lanes.proofs.eight.eight_pixels.Goals as goal

pub returns : goal.returns
unfolding drawn
returns c = record {
  drawn = λ j h.
      let low : 2 * j < 16 = omega arith in
      let high : 2 * j + 1 < 16 = omega arith in
      rw (
        c.joined.ensures.words j h,
        c.over-first.ensures.part (2 * j) low,
        c.over-first.ensures.part (2 * j + 1) high,
        c.over-second.ensures.part (2 * j) low,
        c.alphas-alpha.ensures.first j h,
        c.alphas-alpha.ensures.second j h,
        c.multiplied-colours.ensures.product (2 * j) low,
        c.multiplied-colours.ensures.product (2 * j + 1) high,
        c.multiplied-rest.ensures.product (2 * j) low,
        c.multiplied-rest.ensures.product (2 * j + 1) high,
        c.red_and_blue.ensures.parts.firsts j h,
        c.red_and_blue.ensures.parts.seconds j h,
        c.red_and_blue-2.ensures.parts.firsts j h,
        c.red_and_blue-2.ensures.parts.seconds j h,
        c.red_and_blue-3.ensures.parts.firsts j h,
        c.red_and_blue-3.ensures.parts.seconds j h,
        c.green_and_alpha.ensures.parts.firsts j h,
        c.green_and_alpha.ensures.parts.seconds j h,
        c.green_and_alpha-2.ensures.parts.firsts j h,
        c.green_and_alpha-2.ensures.parts.seconds j h,
        c.green_and_alpha-3.ensures.parts.firsts j h,
        c.same-multiply.ensures.each j h,
      ) refl;
}
