use Rattle.std.proofs.Common.{rules, ◌≡◌, ◌++◌, ◌∷◌, [], map}
use Rattle.mid_code.specs.declared.placed.Where.TheVariants.{Slot}
use Rattle.mid_code.specs.Choices.{with_slot, slots_named}
use Rattle.reg_frames.specs.inner.Placing.{renumbered, index_in}
use Rattle.reg_frames.proofs.Steps.{count_turn, named_turn, place_turn, places_are}
use Rattle.reg_frames.proofs.renumber.renumber.Goals as goal

pub loop-place-preserved : goal.loop-place-preserved
loop-place-preserved c =
    let all = slots_named c.args.at.now in
    let rs = c.loop-place.rest.now in
    let ws = c.in-Some.after.now in
    let w = c.in-Some.place.now in
    let ns = c.loop-place.named.keys in
    let ms = c.new_place.new.named.keys in
    let split : rs ≡ w ∷ ws = search rules in
    let named : ms ≡ with_slot ns w = search rules in
    let place : c.in_ok-new_place.field-0 ≡ renumbered ms w = search rules in
    let pushed : c.push.new.self.items ≡ c.loop-place.places.items ++ c.in_ok-new_place.field-0 ∷ [] = search rules in
    let i = c.loop-place.invariant in (
      count_turn c.args.at.now rs ws w ns ms split named i.0,
      named_turn all rs ws w ns ms split named i.1,
      place_turn all rs ws w ns ms c.loop-place.places.items c.push.new.self.items (map (renumbered all) c.args.at.now) c.in_ok-new_place.field-0 split named place pushed i.1 i.2,
    )

pub returns-clause-places : goal.returns-clause-places
returns-clause-places c =
    let placed : c.loop-place.places.items ≡ map (renumbered (slots_named c.args.at.now)) c.args.at.now = search rules in
    let named : c.slot_number.new.named.keys ≡ with_slot (slots_named c.args.at.now) (Slot 0) = search rules in
    let number : c.in_ok-slot_number.field-0 ≡ index_in c.slot_number.new.named.keys 0 = search rules in
    places_are c.args.at.now c.loop-place.places.items c.slot_number.new.named.keys c.in_ok-slot_number.field-0 placed named number
