use Rattle.std.proofs.Common.{◌≡◌, ◌+◌, ◌≤◌, min, drop}
use Rattle.std.specs.Prelude.{sum_by}
use Rattle.c_evaluate.proofs.opening.global_words.Given as goal

abbrev pub invariant-globals : goal.invariant-globals
invariant-globals l = (l.total ≤ 0xFFFFFFFF) × (min (l.total + sum_by (λ g. g.1) (drop l.g-index l.globals)) 0xFFFFFFFF ≡ min (sum_by (λ g. g.1) l.globals) 0xFFFFFFFF)
