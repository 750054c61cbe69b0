use Rattle.std.proofs.Common.{rules, ◌≡◌, ◌<◌, ◌&&◌, ℕ, length, get_or, not, ap, sym, subst, ◌∙◌}
use Rattle.mid_live.specs.declared.words.Held.{Held}
use Rattle.mid_live.specs.Sets.{on}
use Rattle.mid_live.specs.inner.Words.{some, held_in}
use Rattle.mid_live.proofs.Written.{kept_first, kept_others, kept_on}
use Rattle.mid_live.proofs.live.Kept.less.Goals as goal

pub gone_from-requires-clause-first : goal.gone_from-requires-clause-first
gone_from-requires-clause-first c = kept_first c.self.inside.len c.self.inside.first c.self.inside.others.items c.self.invariant.0 c.self.invariant.1

pub gone_from-requires-clause-few : goal.gone_from-requires-clause-few
gone_from-requires-clause-few c =
    let e : c.as_slice-others.result.now ≡ c.self.inside.others.items = search rules in
    subst (λ es. (k : ℕ) (d : Held) → k < length es → (get_or es k d).at < 0x4000000) (sym e) (kept_others c.self.inside.len c.self.inside.first c.self.inside.others.items c.self.invariant.0 c.self.invariant.1)

pub returns : goal.returns
returns c = λ y.
    let first = c.self.inside.first in
    let others = c.self.inside.others.items in
    let e : c.as_slice-others.result.now ≡ others = search rules in
    let o : c.as_slice.result.now ≡ c.other.inside.words.items = search rules in
    c.in_ok-found.ensures y ∙ ap (λ z. z && not (on c.as_slice.result.now y)) (ap (λ es. some (held_in first es) y) e ∙ sym (kept_on c.self.inside.len (held_in first others) y c.self.invariant.1) ∙ ap (λ z. on z y) c.self.view_is) ∙ ap (λ z. on c.args.self.now y && not (on z y)) (o ∙ c.other.view_is)
