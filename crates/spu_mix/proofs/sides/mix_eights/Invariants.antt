use Rattle.std.proofs.Common.{◌≡◌, ℕ, ◌*◌, ◌<◌, get_or}
use Rattle.spu_mix.specs.Sides.{mixed_word}
use Rattle.spu_mix.proofs.sides.mix_eights.Given as goal

abbrev pub invariant-loop-i : goal.invariant-loop-i
invariant-loop-i l = (k : ℕ) → k < 8 * l.i → get_or l.samples k 0 ≡ mixed_word (get_or l.left k 0) (get_or l.right k 0)
