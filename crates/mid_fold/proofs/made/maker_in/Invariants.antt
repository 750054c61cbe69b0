use Rattle.std.proofs.Common.{◌≡◌, drop}
use Rattle.mid_fold.specs.inner.Reusing.{maker_in}
use Rattle.mid_fold.proofs.made.maker_in.Given as goal

abbrev pub invariant-loop-known : goal.invariant-loop-known
invariant-loop-known l = maker_in (drop l.known-index l.results) l.x ≡ maker_in l.results l.x
