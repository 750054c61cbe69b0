use Rattle.std.proofs.Common.{◌≡◌, drop}
use Rattle.mid_fold.specs.inner.Reusing.{result_in}
use Rattle.mid_fold.proofs.made.result_in.Given as goal

abbrev pub invariant-loop-known : goal.invariant-loop-known
invariant-loop-known l = result_in (drop l.known-index l.results) l.o l.x l.y ≡ result_in l.results l.o l.x l.y
