use Rattle.std.proofs.Common.{arith}
use Rattle.mid_code.specs.Functions.{AgainN}
use Rattle.mid_live.specs.Labels.{labels_of}
use Rattle.reg_choose.specs.inner.Checked.{Labels}
use Rattle.reg_choose.proofs.Tried.{made_tried}
use Rattle.reg_choose.proofs.checks.try_again.Goals as goal

pub returns-clause-tried : goal.returns-clause-tried
returns-clause-tried c =
    let ls : Labels = λ y. labels_of y c.args.m.now in
    let w = c.requires.stands.wide in
    made_tried c.args.c.now.at.now ls (AgainN c.args.k) c.args.s.now c.settle.new.s c.settle.new.hs c.at_begin.new.s c.in_ok-fits.fits (λ y h. c.at_begin.ensures.is y (omega (arith, h, w))) tt c.in_ok-fits.ensures.made
