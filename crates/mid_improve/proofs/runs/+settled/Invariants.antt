use Rattle.std.proofs.Common.{◌≡◌, map, drop}
use Rattle.mid_code.specs.Functions.{node, listed}
use Rattle.mid_improve.specs.inner.Facts.{none_known}
use Rattle.mid_improve.specs.inner.Listed.{list_settled}
use Rattle.mid_improve.specs.inner.Tables.{facts}
use Rattle.mid_improve.proofs.runs.+settled.Given as goal

abbrev pub invariant-are_nodes_settled-loop-n : goal.invariant-are_nodes_settled-loop-n
invariant-are_nodes_settled-loop-n l = list_settled (facts l.table) (listed (map node (drop l.n-index l.ns))) ≡ list_settled none_known (listed (map node l.ns))
