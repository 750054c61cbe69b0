use Rattle.std.proofs.Common.{◌≡◌, ◌+◌, drop}
use Rattle.std.specs.Prelude.{sum}
use Rattle.mid_evaluate.proofs.opening.global_words.Given as goal

abbrev pub invariant-globals : goal.invariant-globals
invariant-globals l = l.total + sum (drop l.words-index l.globals) ≡ sum l.globals
