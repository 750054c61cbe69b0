use Rattle.std.proofs.Common.{◌≡◌, ◌+◌, ◌++◌, length}
use Rattle.mid_replace.specs.inner.Chosen.{held_words}
use Rattle.mid_replace.specs.inner.Tables.{firsts_from}
use Rattle.mid_replace.proofs.building.firsts_of.Given as goal

abbrev pub invariant-loop-is_held : goal.invariant-loop-is_held
invariant-loop-is_held l = record {
  firsts : l.found.items ++ firsts_from l.temporary l.flags l.rest ≡ firsts_from l.first l.held l.sizes;
  words : l.temporary + held_words l.flags l.rest ≡ l.first + held_words l.held l.sizes;
  left : l.temporary + l.left ≡ l.first + 16;
}

abbrev pub decreases-loop-is_held : goal.decreases-loop-is_held
decreases-loop-is_held l = length l.flags
