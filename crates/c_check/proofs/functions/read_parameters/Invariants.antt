use Rattle.std.proofs.Common.{◌≡◌, ◌+◌, ◌≤◌, ◌^◌, drop, length, map}
use Rattle.c_tree.specs.Count.{vars_nodes}
use Rattle.c_tree.specs.View.{var}
use Rattle.c_types.specs.View.{ctype}
use Rattle.c_check.specs.inner.Steps.{before}
use Rattle.c_check.specs.inner.ItemTyping.{parameters}
use Rattle.c_check.specs.View.{un}
use Rattle.c_check.proofs.functions.read_parameters.Given as goal

abbrev pub invariant-loop-v : goal.invariant-loop-v
invariant-loop-v l =
    (before (map ctype l.found.items) (parameters (un l.reading) (map var (drop l.v-index l.all))) ≡ parameters (un l.initial.reading) (map var l.all))
    × (length (un l.reading).sizes + vars_nodes (map var (drop l.v-index l.all)) ≤ 2 ^ 32)
