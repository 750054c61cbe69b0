use Rattle.std.proofs.Common.{◌≡◌, ◌+◌, ◌-◌, ◌<◌, arith, refl}
use Rattle.spu_mix.proofs.sides.mix_eight.Goals as goal

pub returns-clause-inside : goal.returns-clause-inside
returns-clause-inside c k low high =
    let j : k - c.args.at < 8 = omega arith in
    let at : c.args.at + (k - c.args.at) ≡ k = omega arith in
    let e = c.store.ensures.each (k - c.args.at) j in
    let w = c.mixed_words-words.ensures.each (k - c.args.at) j in
    let l = c.load.ensures.each (k - c.args.at) j in
    let r = c.load-2.ensures.each (k - c.args.at) j in
    rw (← at) (rw (e, w, l, r) refl)
