use Rattle.std.proofs.Common.{subst, sym, set}
use Rattle.reg_choose.specs.inner.Holding.{Stands}
use Rattle.reg_choose.proofs.Holders.{lift_stands, lifted, lifted_same, not_there}
use Rattle.mid_live.specs.Sets.{on}
use Rattle.reg_choose.proofs.hold.lift.Goals as goal

pub returns-then-is_there-clause-stands : goal.returns-then-is_there-clause-stands
returns-then-is_there-clause-stands c =
    let at = c.args.at.now in
    let s = c.args.s.now in
    let there = c.is_there.ensures.0 c.if-is_there.true in
    subst (λ k. Stands at c.strike.new.self (set c.args.hs.now k 0)) (sym c.place_number.ensures) (lift_stands at s c.args.hs.now c.requires.stands c.args.x c.strike.new.self there.0 there.1 c.strike.ensures.len (lifted at s c.args.hs.now c.strike.new.self c.args.x c.requires.stands c.strike.ensures.len c.strike.ensures.is))

pub returns-else-is_there-clause-stands : goal.returns-else-is_there-clause-stands
returns-else-is_there-clause-stands c =
    let at = c.args.at.now in
    let s = c.args.s.now in
    let new = c.strike-else-is_there.new.self in
    let e = c.strike-else-is_there.ensures in
    lifted_same at s c.args.hs.now new c.args.x c.requires.stands (not_there c.is_there.result (on s c.args.x) c.is_there.ensures c.if-is_there.false) e.len (lifted at s c.args.hs.now new c.args.x c.requires.stands e.len e.is)
