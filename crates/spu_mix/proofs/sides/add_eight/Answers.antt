use Rattle.std.proofs.Common.{◌≡◌, ◌+◌, ◌-◌, ◌<◌, arith}
use Rattle.spu_mix.proofs.LaneSteps.{side_added}
use Rattle.spu_mix.proofs.sides.add_eight.Goals as goal

pub returns-clause-left : goal.returns-clause-left
returns-clause-left c k low high =
    let j : k - c.args.at < 8 = omega arith in
    let at : c.args.at + (k - c.args.at) ≡ k = omega arith in
    let e = c.store.ensures.each (k - c.args.at) j in
    let d = c.sums-sums.ensures.each (k - c.args.at) j in
    let t = c.load.ensures.each (k - c.args.at) j in
    let s = c.left_sides.ensures.each (k - c.args.at) j in
    let w = c.load-words.ensures.each (k - c.args.at) j in
    rw (← at) (rw (e, d, t, s, w) (side_added _ _ (c.requires.small (c.args.at + (k - c.args.at)) (omega arith)).0))

pub returns-clause-right : goal.returns-clause-right
returns-clause-right c k low high =
    let j : k - c.args.at < 8 = omega arith in
    let at : c.args.at + (k - c.args.at) ≡ k = omega arith in
    let e = c.store-2.ensures.each (k - c.args.at) j in
    let d = c.sums-sums-2.ensures.each (k - c.args.at) j in
    let t = c.load-2.ensures.each (k - c.args.at) j in
    let s = c.right_sides.ensures.each (k - c.args.at) j in
    let w = c.load-words.ensures.each (k - c.args.at) j in
    rw (← at) (rw (e, d, t, s, w) (side_added _ _ (c.requires.small (c.args.at + (k - c.args.at)) (omega arith)).1))
