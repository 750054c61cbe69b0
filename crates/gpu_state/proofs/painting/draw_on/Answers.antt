use Rattle.std.proofs.Common.{◌<◌, ◌+◌, ◌-◌, inr, arith, get_or}
use Rattle.gpu_state.specs.Places.{place}
use Rattle.gpu_state.proofs.Pixels.{drawn_point}
use Rattle.gpu_state.proofs.painting.draw_on.Goals as goal

pub returns-clause-inside : goal.returns-clause-inside
returns-clause-inside c x y hx kx hy ky =
    let within : place x y < 230400 = omega arith in
    drawn_point c.args.mode c.args.multiply c.args.texture.now
    (c.args.columns.first + (x - c.args.columns.from)) (c.args.rows.first + (y - c.args.rows.from))
    (get_or c.args.screen.now (place x y) 0) (get_or c.paint.new.screen (place x y) 0)
    (c.requires.opaque (place x y) within).0 (c.requires.opaque (place x y) within).1
    (λ a b.
    let xw = c.cut-columns.ensures.all x kx (rw c.width.ensures.width a) in
    let yw = c.cut-rows.ensures.all y ky (rw c.height.ensures.height b) in
    let h = c.paint.ensures.inside x y (rw c.cut-columns.ensures.from hx) xw (rw c.cut-rows.ensures.from hy) yw in
    grind (arith, h, c.cut-columns.ensures.first, c.cut-rows.ensures.first))
    (λ a. c.paint.ensures.beside x y (omega arith) (inr (grind arith)))
    (λ b. c.paint.ensures.above x y (omega arith) (inr (grind arith)))
