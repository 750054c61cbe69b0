use Rattle.std.proofs.Common.{rules, ◌≡◌, ◌&&◌, not, ap, subst, ◌∙◌}
use Rattle.mid_code.specs.Live.{is_among}
use Rattle.mid_live.specs.Sets.{on}
use Rattle.reg_choose.specs.inner.Holding.{Laid}
use Rattle.reg_choose.proofs.Holders.{both_left, made_of}
use Rattle.reg_choose.proofs.hold.settle.Goals as goal

pub returns-clause-made : goal.returns-clause-made
returns-clause-made c =
    let at = c.args.at.now in
    let w = c.args.was.now in
    let t = c.args.s.now in
    let same : c.restore.new.self ≡ w = search rules in
    let e : c.as_slice.result.now ≡ c.in_ok-gone.gone.items = search rules in
    let k : c.in_ok-target.target ≡ t = search rules in
    let laid = subst (λ z. Laid at (on z) c.lift_all.new.s c.lay_set.new.s c.lay_set.new.hs c.in_ok-fits.fits) k c.in_ok-fits.ensures.laid in
    made_of at w t c.lift_all.new.s c.lay_set.new.s c.lay_set.new.hs c.in_ok-fits.fits (λ y h. c.lift_all.ensures.is y h ∙ ap (λ z. on z y && not (is_among c.as_slice.result.now y)) same ∙ both_left (on w y) (on t y) (is_among c.as_slice.result.now y) (ap (λ z. is_among z y) e ∙ c.in_ok-gone.ensures y)) laid
