use Rattle.std.proofs.Common.{rules, ◌||◌, false, eqb}
use Rattle.mid_code.specs.Live.{is_among}
use Rattle.mid_code.specs.Operands.{listed_uses}
use Rattle.reg_choose.proofs.Holders.{laid_as}
use Rattle.reg_choose.proofs.target.lay_each.Goals as goal

pub returns-in-One-clause-laid : goal.returns-in-One-clause-laid
returns-in-One-clause-laid c = laid_as c.args.at.now (λ y. eqb c.in-One.a y || false) (is_among (listed_uses c.args.uses.now)) c.args.s.now c.lay.new.s c.lay.new.hs c.lay.result (λ y. search rules) c.lay.ensures.laid

pub returns-in-Two-clause-laid : goal.returns-in-Two-clause-laid
returns-in-Two-clause-laid c = laid_as c.args.at.now (λ y. eqb c.in-Two.a y || (eqb c.in-Two.b y || false)) (is_among (listed_uses c.args.uses.now)) c.args.s.now c.lay_two.new.s c.lay_two.new.hs c.lay_two.result (λ y. search rules) c.lay_two.ensures.laid

pub returns-in-All-clause-laid : goal.returns-in-All-clause-laid
returns-in-All-clause-laid c = laid_as c.args.at.now (is_among c.in-All.args.now) (is_among (listed_uses c.args.uses.now)) c.args.s.now c.lay_all.new.s c.lay_all.new.hs c.lay_all.result (λ y. search rules) c.lay_all.ensures.laid
