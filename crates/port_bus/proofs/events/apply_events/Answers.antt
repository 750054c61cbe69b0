use Rattle.std.proofs.Common.{◌≡◌, inl, inr, ℕ, ◌<◌, ◌+◌, arith, sym, ◌∙◌, Some, None, length, slice_get, subst, set}
use Rattle.std.proofs.lemmas.Bool.{cases_lt}
use Rattle.std.proofs.lemmas.Option.{slice_get_within}
use Rattle.port_bus.specs.inner.Kept.{AreDowns}
use Rattle.port_bus.proofs.Applying.{downs_more, stopped, ended}
use Rattle.port_bus.proofs.events.apply_events.Goals as goal

pub each-smaller : goal.each-smaller
each-smaller c =
    let here : slice_get c.args.pads.now.events c.each.at ≡ Some c.in-Some.event = sym c.event_at.ensures.event ∙ c.in-Some.is in
    let w : c.each.at < length c.args.pads.now.events = slice_get_within c.args.pads.now.events c.each.at c.in-Some.event here in omega arith

pub each-preserved : goal.each-preserved
each-preserved c =
    let here : slice_get c.args.pads.now.events c.each.at ≡ Some c.in-Some.event = sym c.event_at.ensures.event ∙ c.in-Some.is in
    let v = c.each.invariant in
    record {
      within = (let w : c.each.at < length c.args.pads.now.events = slice_get_within c.args.pads.now.events c.each.at c.in-Some.event here in omega arith);
      further = omega arith;
      before = λ i e h g. elim (cases_lt i c.each.at) [
        | inl less ↦ v.before i e less g
        | inr more ↦ grind (arith, here, g)
      ];
      downs = (let P : ℕ → Type 0 = λ k. AreDowns c.args.pads.now.events (c.each.at + 1) (set c.each.downs k c.in-Some.event.down) in
          subst P (sym c.place.ensures.place) (downs_more c.args.pads.now.events c.each.at c.in-Some.event c.each.downs here c.in-Some.ensures.control v.downs));
    }

pub returns-then-event-frame-clause-parts : goal.returns-then-event-frame-clause-parts
returns-then-event-frame-clause-parts c =
    let here : slice_get c.args.pads.now.events c.each.at ≡ Some c.in-Some.event = sym c.event_at.ensures.event ∙ c.in-Some.is in
    let v = c.each.invariant in
    stopped c.args.pads.now c.args.frame c.args.next c.each.at c.in-Some.event c.event_at.ensures.kept c.requires.parts v.further v.within v.before here c.if-event-frame.true

pub returns-in_default-clause-parts : goal.returns-in_default-clause-parts
returns-in_default-clause-parts c =
    let v = c.each.invariant in
    let none : slice_get c.args.pads.now.events c.each.at ≡ None = grind (arith, sym c.event_at.ensures.event) in
    ended c.args.pads.now c.args.frame c.each.at v.within v.before none
