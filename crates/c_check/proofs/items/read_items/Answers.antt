use Rattle.std.proofs.Common.{arith, ◌≡◌, ◌+◌, ◌≤◌, ◌∷◌, map, drop, refl, ◌∙◌, add-one}
use Rattle.std.proofs.Math.Seq.{drop-cons}
use Rattle.std.proofs.Math.ListN.{get_or}
use Rattle.c_tree.specs.Count.{unit_nodes}
use Rattle.c_tree.specs.View.{item}
use Rattle.c_tree.specs.declared.item.Item.{Item}
use Rattle.c_check.specs.inner.Steps.{spent}
use Rattle.c_check.specs.View.{un}
use Rattle.c_check.proofs.Spent.{items_step}
use Rattle.c_check.proofs.items.read_items.Goals as goal

pub loop-one-preserved : goal.loop-one-preserved
loop-one-preserved c =
    let i = c.loop-one.one-index in
    let all = c.args.all.now in
    let e : Item = c.one-item.result in
    let here : get_or all i e ≡ e = grind arith in
    let split : drop i all ≡ e ∷ drop (i + 1) all = rw (add-one, drop-cons all i e (omega arith), here) refl in
    let before = rw split at c.loop-one.invariant.0 in
    let left = rw split at c.loop-one.invariant.1 in
    let on = items_step (un c.loop-one.reading) (un c.read_item.new.reading) (item e) (map item (drop (i + 1) all)) _ c.in_ok-read_item.ensures left in
    (on.0 ∙ before, on.1)
