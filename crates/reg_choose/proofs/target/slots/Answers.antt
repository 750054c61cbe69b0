use Rattle.std.proofs.Common.{rules, arith, ◌≡◌, ◌≢◌, ◌-◌, suc, Some, refl, get_or}
use Rattle.std.proofs.lemmas.Bool.{false≢true}
use Rattle.reg_choose.proofs.Tried.{slot_all, slot_other, slot_nine}
use Rattle.reg_choose.proofs.target.slots.Goals as goal

pub returns-then-not-is_it : goal.returns-then-not-is_it
returns-then-not-is_it c =
    let h = get_or c.args.hs.now c.loop-r.r 0 in
    let n = c.if-hs-r-ne0.true in
    let e : h ≡ suc (h - 1) = omega (arith, n) in
    let d : c.args.t.now ≢ Some (h - 1) = search rules in
    ((λ z. absurd (false≢true z)), (λ f. absurd (slot_other c.args.at.now c.requires.chosen c.args.s.now c.args.hs.now c.requires.stands c.args.t.now c.loop-r.r (h - 1) c.loop-r-test.true e d f)))

pub returns : goal.returns
returns c =
    let i = c.loop-r.invariant in
    let a = c.loop-r-test.false in
    let b = i.0 in
    ((λ z. slot_all c.args.at.now c.requires.chosen c.args.s.now c.args.hs.now c.requires.stands c.args.t.now (slot_nine c.args.at.now c.args.s.now c.args.t.now c.loop-r.r (omega (arith, a, b)) i.1)), (λ f. refl))
