use Rattle.std.proofs.Common.{◌≡◌, drop, map}
use Rattle.c_tree.specs.View.{var}
use Rattle.c_types.specs.View.{layout}
use Rattle.c_types.specs.Sizes.{no_layout}
use Rattle.c_check.specs.inner.Steps.{counted_members}
use Rattle.c_check.specs.View.{un}
use Rattle.c_check.proofs.members.read_members.Given as goal

abbrev pub invariant-loop-v : goal.invariant-loop-v
invariant-loop-v l = counted_members (un l.reading) (layout l.seen) (map var (drop l.v-index l.all)) ≡ counted_members (un l.initial.reading) (no_layout l.is_union) (map var l.all)
