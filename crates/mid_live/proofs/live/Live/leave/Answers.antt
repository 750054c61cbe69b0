use Rattle.std.proofs.Common.{rules, ◌≡◌, ◌<◌, ◌&&◌, not, ap, sym, subst, ◌∙◌}
use Rattle.mid_live.specs.Sets.{on, room}
use Rattle.mid_live.specs.inner.Words.{some, held_in}
use Rattle.mid_live.proofs.Written.{kept_on}
use Rattle.mid_live.proofs.live.Live.leave.Goals as goal

pub returns-clause-is : goal.returns-clause-is
returns-clause-is c = λ y h.
    let first = c.other.inside.first in
    let others = c.other.inside.others.items in
    let e : c.as_slice-others.result.now ≡ others = search rules in
    let v : c.self.inside.words.items ≡ c.args.self.now = c.self.view_is in
    c.leave_all.ensures.is y (subst (λ z. y < room z) (sym v) h) ∙ ap (λ z. on z y && not (some (held_in first c.as_slice-others.result.now) y)) v ∙ ap (λ z. on c.args.self.now y && not z) (ap (λ es. some (held_in first es) y) e ∙ sym (kept_on c.other.inside.len (held_in first others) y c.other.invariant.1) ∙ ap (λ z. on z y) c.other.view_is)
