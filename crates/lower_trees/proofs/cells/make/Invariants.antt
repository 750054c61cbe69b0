use Rattle.std.proofs.Common.{◌≡◌, ◌++◌, map, drop}
use Rattle.mid_code.specs.Functions.{node}
use Rattle.lower_trees.specs.Pieces.{listing}
use Rattle.lower_trees.specs.Parts.{made}
use Rattle.lower_trees.proofs.cells.make.Given as goal

abbrev pub invariant-locals : goal.invariant-locals
invariant-locals l = map node l.nodes.items ++ listing (made (drop l.k-index l.locals)) ≡ map node l.initial.nodes.items ++ listing (made l.locals)
