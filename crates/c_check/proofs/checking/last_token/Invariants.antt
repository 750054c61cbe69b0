use Rattle.std.proofs.Common.{◌≡◌, drop, map}
use Rattle.c_tree.specs.View.{item}
use Rattle.c_check.specs.Whole.{last_from}
use Rattle.c_check.proofs.checking.last_token.Given as goal

abbrev pub invariant-loop-one : goal.invariant-loop-one
invariant-loop-one l = last_from l.token (map item (drop l.one-index l.items)) ≡ last_from 0 (map item l.items)
