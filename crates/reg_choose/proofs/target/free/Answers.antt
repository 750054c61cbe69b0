use Rattle.reg_choose.proofs.Tried.{free_zero, free_else}
use Rattle.reg_choose.proofs.target.free.Goals as goal

pub returns-then-held-eq0 : goal.returns-then-held-eq0
returns-then-held-eq0 c = free_zero c.args.at.now c.requires.plan.chosen c.args.s.now c.args.hs.now c.requires.stands c.args.t c.place_number.result c.place_number.ensures c.if-held-eq0.true

pub returns-else-held-eq0 : goal.returns-else-held-eq0
returns-else-held-eq0 c = free_else c.args.at.now c.requires.plan.chosen c.args.s.now c.args.hs.now c.requires.stands c.args.t c.place_number.result c.place_number.ensures c.if-held-eq0.false
