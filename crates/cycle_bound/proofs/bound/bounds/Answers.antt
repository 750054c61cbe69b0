use Rattle.std.proofs.Common.{rules, ◌≡◌, ◌<◌, [], ◌∷◌, ◌++◌, length, map, refl}
use Rattle.asm_laws.specs.Labelled.{label_of_function}
use Rattle.cycle_bound.specs.Told.{IsBoundOf}
use Rattle.cycle_bound.specs.inner.Places.{told, place_in, gathered, node_of}
use Rattle.cycle_bound.specs.inner.Settled.{known}
use Rattle.cycle_bound.proofs.Telling.{bound_of, each_on}
use Rattle.cycle_bound.proofs.bound.bounds.Goals as goal

pub loop-name-preserved : goal.loop-name-preserved
loop-name-preserved c =
    let labels : c.in_ok-labels.labels ≡ gathered 0 [] c.args.items.now = search rules in
    let nodes : c.in_ok-nodes.nodes.items ≡ map (node_of (place_in c.in_ok-labels.labels (length c.args.items.now))) c.args.items.now = search rules in
    let is : c.as_slice.result.now ≡ c.in_ok-nodes.nodes.items = search rules in
    let label : c.in_ok-label.label ≡ label_of_function c.name-item.result = search rules in
    let b : c.told_at.result ≡ told (known c.in_ok-values.values.items (place_in c.in_ok-labels.labels (length c.args.items.now) c.in_ok-label.label)) = search rules in
    let grown : c.push.new.self.items ≡ c.loop-name.bounds.items ++ c.told_at.result ∷ [] = search rules in
    let lt : c.loop-name.name-index < length c.args.names.now = search rules in
    let so : IsBoundOf c.args.items.now c.name-item.result c.told_at.result = bound_of _ _ _ _ _ _ _ _ _ labels nodes is c.in_ok-values.ensures.settled c.in_ok-values.ensures.closed refl label b in
    each_on _ _ _ _ _ _ _ _ c.loop-name.invariant lt c.name-item.is grown so
