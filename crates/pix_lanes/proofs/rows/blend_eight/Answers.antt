use Rattle.std.proofs.Common.{◌≡◌, ◌+◌, ◌-◌, ◌<◌, arith, refl}
use Rattle.pix_lanes.proofs.rows.blend_eight.Goals as goal

pub returns-clause-inside : goal.returns-clause-inside
returns-clause-inside c k low high =
    let j : k - c.args.at < 8 = omega arith in
    let at : c.args.at + (k - c.args.at) ≡ k = omega arith in
    let e = c.store.ensures.each (k - c.args.at) j in
    let d = c.eight_pixels-drawn.ensures.drawn (k - c.args.at) j in
    let t = c.load-texture.ensures.each (k - c.args.at) j in
    let s = c.load-screen.ensures.each (k - c.args.at) j in
    rw (← at) (rw (e, d, t, s) refl)
