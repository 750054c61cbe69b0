use Rattle.std.proofs.Common.{◌||◌, false, eqb, subst}
use Rattle.mid_live.specs.Sets.{on}
use Rattle.reg_choose.specs.inner.Holding.{Laid}
use Rattle.reg_choose.proofs.Holders.{laid_less, laid_more}
use Rattle.reg_choose.proofs.checks.lay_both.Goals as goal

pub returns-then-not-laid-clause-laid : goal.returns-then-not-laid-clause-laid
returns-then-not-laid-clause-laid c = laid_less c.args.at.now (on c.args.t.now) (λ y. eqb c.args.p y || false) c.args.s.now c.lay_set.new.s c.lay_set.new.s c.lay_set.new.hs c.lay_set.new.hs (subst (Laid c.args.at.now (on c.args.t.now) c.args.s.now c.lay_set.new.s c.lay_set.new.hs) c.if-not-laid.true c.in_ok-laid.ensures.laid)

pub returns-clause-laid : goal.returns-clause-laid
returns-clause-laid c =
    let l = subst (Laid c.args.at.now (on c.args.t.now) c.args.s.now c.lay_set.new.s c.lay_set.new.hs) c.if-not-laid.false c.in_ok-laid.ensures.laid in
    laid_more c.args.at.now (on c.args.t.now) (λ y. eqb c.args.p y || false) c.args.s.now c.lay_set.new.s c.lay-fits.new.s c.lay-fits.new.hs c.lay-fits.result l.0 c.lay-fits.ensures.laid
