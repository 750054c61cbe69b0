use Rattle.std.proofs.Common.{rules, ◌||◌, false, eqb, get_or, subst, sym, ◌∙◌}
use Rattle.mid_code.specs.Live.{is_among}
use Rattle.mid_live.specs.Sets.{on}
use Rattle.reg_choose.specs.inner.Holding.{Laid}
use Rattle.reg_choose.proofs.Holders.{clash_more, among_more}
use Rattle.reg_choose.proofs.hold.lay_all.Goals as goal

pub returns-then-not-lay-clause-laid : goal.returns-then-not-lay-clause-laid
returns-then-not-lay-clause-laid c =
    let at = c.args.at.now in
    let xs = c.args.xs.now in
    let k = c.loop-x.x-index in
    let x = get_or xs k 0 in
    let i = c.loop-x.invariant in
    let l = subst (Laid at (λ y. eqb x y || false) c.loop-x.s c.lay.new.s c.lay.new.hs) c.if-not-lay.true c.lay.ensures.laid in
    clash_more at (λ y. eqb x y || false) (is_among xs) (on c.loop-x.s) (on c.args.s.now) (λ y h o. sym (i.1 y h) ∙ among_more xs k x 0 y (on c.loop-x.s y) (search rules) (search rules) o) l
