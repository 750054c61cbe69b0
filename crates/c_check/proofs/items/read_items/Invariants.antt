use Rattle.std.proofs.Common.{◌≡◌, ◌+◌, ◌≤◌, drop, map}
use Rattle.c_tree.specs.Count.{unit_nodes}
use Rattle.c_tree.specs.View.{item}
use Rattle.c_check.specs.inner.ItemTyping.{items}
use Rattle.c_check.specs.inner.Steps.{spent}
use Rattle.c_check.specs.View.{un}
use Rattle.c_check.proofs.items.read_items.Given as goal

abbrev pub invariant-loop-one : goal.invariant-loop-one
invariant-loop-one l =
    (items (un l.reading) (map item (drop l.one-index l.all)) ≡ items (un l.initial.reading) (map item l.all))
    × (spent (un l.reading) + unit_nodes (map item (drop l.one-index l.all)) ≤ 200000)
