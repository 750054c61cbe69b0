use Rattle.std.proofs.Common.{◌≡◌, ◌++◌, None, map, drop}
use Rattle.mid_code.specs.Functions.{node, listed}
use Rattle.mid_scalars.specs.inner.Rewriting.{list_by, plan_by}
use Rattle.mid_scalars.proofs.rewrite.+promote.Given as goal

abbrev pub invariant-promote_nodes-loop-n : goal.invariant-promote_nodes-loop-n
invariant-promote_nodes-loop-n l = map node l.found.items ++ list_by (plan_by l.table) None (listed (map node (drop l.n-index l.ns))) ≡ list_by (plan_by l.table) None (listed (map node l.ns))
