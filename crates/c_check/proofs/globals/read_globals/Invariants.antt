use Rattle.std.proofs.Common.{◌≡◌, ◌+◌, length, drop, map}
use Rattle.c_tree.specs.View.{var}
use Rattle.c_types.specs.View.{tvar}
use Rattle.c_check.specs.inner.Steps.{before}
use Rattle.c_check.specs.inner.ItemTyping.{globals}
use Rattle.c_check.specs.View.{un}
use Rattle.c_check.proofs.globals.read_globals.Given as goal

abbrev pub invariant-loop-v : goal.invariant-loop-v
invariant-loop-v l =
    (before (map tvar l.filled.items) (globals (un l.reading) (map var (drop l.v-index l.all))) ≡ globals (un l.initial.reading) (map var l.all))
    × (length (un l.reading).globals ≡ length (un l.initial.reading).globals + l.v-index)
