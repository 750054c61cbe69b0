use Rattle.std.proofs.Common.{◌≡◌, [], map, drop}
use Rattle.mid_code.specs.Functions.{node, listed}
use Rattle.mid_replace.specs.inner.Replaced.{prepended, replaced}
use Rattle.mid_replace.specs.inner.Tables.{plan_in}
use Rattle.mid_replace.proofs.walk.+replace.Given as goal

abbrev pub invariant-replace_nodes-loop-n : goal.invariant-replace_nodes-loop-n
invariant-replace_nodes-loop-n l = prepended (map node l.found.items) (replaced (plan_in l.table) l.notes.items (listed (map node (drop l.n-index l.ns)))) ≡ replaced (plan_in l.table) [] (listed (map node l.ns))
