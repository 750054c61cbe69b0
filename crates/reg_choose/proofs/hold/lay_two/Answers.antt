use Rattle.std.proofs.Common.{◌||◌, false, eqb, subst}
use Rattle.reg_choose.specs.inner.Holding.{Laid}
use Rattle.reg_choose.proofs.Holders.{laid_less}
use Rattle.reg_choose.proofs.hold.lay_two.Goals as goal

pub returns-then-not-lay-clause-laid : goal.returns-then-not-lay-clause-laid
returns-then-not-lay-clause-laid c = laid_less c.args.at.now (λ y. eqb c.args.b y || false) (λ y. eqb c.args.a y) c.args.s.now c.lay.new.s c.lay.new.s c.lay.new.hs c.lay.new.hs (subst (Laid c.args.at.now (λ y. eqb c.args.b y || false) c.args.s.now c.lay.new.s c.lay.new.hs) c.if-not-lay.true c.lay.ensures.laid)
