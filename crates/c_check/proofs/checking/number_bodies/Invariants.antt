use Rattle.std.proofs.Common.{◌≡◌, ◌≤◌, [], drop, map}
use Rattle.c_tree.specs.View.{item}
use Rattle.c_exprs.specs.View.{bodies, names}
use Rattle.c_check.specs.Reading.{bodies_of, bodies_with, body_name}
use Rattle.c_check.proofs.checking.number_bodies.Given as goal

abbrev pub invariant-loop-one : goal.invariant-loop-one
invariant-loop-one l =
    (bodies_with (bodies l.globals) l.number (map body_name (map item (drop l.one-index l.items))) ≡ bodies_of (map item l.items))
    × ((names l.globals ≡ []) × ((l.globals.layouts.items ≡ []) × ((l.globals.whole.items ≡ []) × (l.number ≤ l.one-index))))
