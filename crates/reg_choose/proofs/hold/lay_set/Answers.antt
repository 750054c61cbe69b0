use Rattle.std.proofs.Common.{rules, ◌≡◌, ap, ◌∙◌}
use Rattle.mid_code.specs.Live.{is_among}
use Rattle.mid_live.specs.Sets.{on}
use Rattle.reg_choose.proofs.Holders.{laid_fresh}
use Rattle.reg_choose.proofs.hold.lay_set.Goals as goal

pub returns-clause-laid : goal.returns-clause-laid
returns-clause-laid c =
    let e : c.as_slice.result.now ≡ c.in_ok-fresh.fresh.items = search rules in
    laid_fresh c.args.at.now (is_among c.as_slice.result.now) (on c.args.t.now) c.args.s.now c.lay_all-fits.new.s c.lay_all-fits.new.hs c.lay_all-fits.result (λ y. ap (λ z. is_among z y) e ∙ c.in_ok-fresh.ensures y) c.lay_all-fits.ensures.laid
