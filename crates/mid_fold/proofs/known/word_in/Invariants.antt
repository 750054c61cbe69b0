use Rattle.std.proofs.Common.{◌≡◌, drop}
use Rattle.mid_fold.specs.inner.Folding.{word_in}
use Rattle.mid_fold.proofs.known.word_in.Given as goal

abbrev pub invariant-loop-known : goal.invariant-loop-known
invariant-loop-known l = word_in (drop l.known-index l.words) l.q ≡ word_in l.words l.q
