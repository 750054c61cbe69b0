use Rattle.std.proofs.Common.{◌≡◌, ◌++◌, eqb, map, drop}
use Rattle.mid_scalars.proofs.plain.of_one_word.Given as goal

abbrev pub invariant-loop-size : goal.invariant-loop-size
invariant-loop-size l = l.found.items ++ map (λ n. eqb n 1) (drop l.size-index l.sizes) ≡ map (λ n. eqb n 1) l.sizes
