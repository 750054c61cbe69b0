use Rattle.mid_code.specs.Live.{is_among}
use Rattle.reg_choose.proofs.Holders.{laid_apart}
use Rattle.reg_choose.proofs.safe.apart.Goals as goal

pub returns : goal.returns
returns c =
    let s = c.in_ok-s.s in
    laid_apart c.args.at.now (is_among c.args.xs.now) s c.lay_all-fits.new.s c.lay_all-fits.new.hs c.lay_all-fits.result c.in_ok-s.ensures.is c.lay_all-fits.ensures.laid
