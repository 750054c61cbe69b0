use Rattle.std.proofs.Common.{◌≡◌, ◌+◌, length, map}
use Rattle.c_types.specs.View.{ctype}
use Rattle.c_evaluate.specs.inner.Swift.{are_words}
use Rattle.c_evaluate.proofs.quick.are_words.Given as goal

abbrev pub decreases-params : goal.decreases-params
decreases-params l = length l.types

abbrev pub invariant-params : goal.invariant-params
invariant-params l = (l.k + length l.types ≡ length l.params) × (are_words l.k (map ctype l.types) l.numbers l.words l.cells ≡ are_words 0 (map ctype l.params) l.made l.sizes l.args)
