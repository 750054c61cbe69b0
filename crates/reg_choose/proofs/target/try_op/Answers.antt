use Rattle.mid_live.specs.Labels.{labels_of}
use Rattle.reg_choose.proofs.Tried.{op_tried}
use Rattle.reg_choose.proofs.target.try_op.Goals as goal

pub returns-clause-tried : goal.returns-clause-tried
returns-clause-tried c = op_tried c.args.at.now (λ y. labels_of y c.args.m.now) c.args.o.now c.args.s.now c.lift_target.new.s c.lay_uses.new.s c.lay_uses.new.hs c.lay_uses.result (c.target_free.ensures.0 c.if-not-target_free.false) c.lift_target.ensures.is c.lay_uses.ensures.laid
