use Rattle.std.proofs.Common.{arith, ◌≡◌, ◌+◌, ◌-◌, ◌||◌, false, true, suc, eqb, get_or, set, subst, sym, ap}
use Rattle.mid_live.specs.Sets.{on}
use Rattle.reg_choose.specs.inner.Holding.{number_at, Laid}
use Rattle.reg_choose.proofs.Holders.{laid_same, laid_new, lay_clash, not_new}
use Rattle.reg_choose.proofs.hold.lay.Goals as goal

pub returns-then-not-is_new-clause-laid : goal.returns-then-not-is_new-clause-laid
returns-then-not-is_new-clause-laid c = laid_same c.args.at.now c.args.s.now c.args.hs.now c.put.new.self c.args.x c.requires.stands (not_new c.is_new.result (on c.args.s.now c.args.x) c.is_new.ensures c.if-not-is_new.true) c.put.ensures.len c.put.ensures.is

pub returns-then-hs-k-ne0-clause-laid : goal.returns-then-hs-k-ne0-clause-laid
returns-then-hs-k-ne0-clause-laid c =
    let new = c.is_new.ensures.0 c.if-not-is_new.false in
    let h = get_or c.args.hs.now (number_at c.args.at.now c.args.x) 0 in
    let i : get_or c.args.hs.now c.place_number-k.result 0 ≡ h = ap (λ z. get_or c.args.hs.now z 0) c.place_number-k.ensures in
    let n = c.if-hs-k-ne0.true in
    let e : h ≡ suc (h - 1) = omega (arith, i, n) in
    lay_clash c.args.at.now c.args.s.now c.args.hs.now c.requires.stands c.requires.plan.chosen c.args.x (h - 1) new.0 new.1 e

pub returns-clause-laid : goal.returns-clause-laid
returns-clause-laid c =
    let new = c.is_new.ensures.0 c.if-not-is_new.false in
    let at = c.args.at.now in
    let hs = c.args.hs.now in
    let i : get_or hs c.place_number-k.result 0 ≡ get_or hs (number_at at c.args.x) 0 = ap (λ z. get_or hs z 0) c.place_number-k.ensures in
    let n = c.if-hs-k-ne0.false in
    let m : suc c.args.x ≡ c.args.x + 1 = omega arith in
    subst (λ v. Laid at (λ y. eqb c.args.x y || false) c.args.s.now c.put-2.new.self (set hs c.place_number-k.result v) true) m (subst (λ k. Laid at (λ y. eqb c.args.x y || false) c.args.s.now c.put-2.new.self (set hs k (suc c.args.x)) true) (sym c.place_number-k.ensures) (laid_new at c.args.s.now hs c.put-2.new.self c.args.x c.requires.stands new.0 (omega (arith, i, n)) c.put-2.ensures.len c.put-2.ensures.is))
