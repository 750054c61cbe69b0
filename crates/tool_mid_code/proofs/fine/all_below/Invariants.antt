use Rattle.std.proofs.Common.{◌<◌, drop}
use Rattle.mid_code.specs.Invariants.{AllOf}
use Rattle.tool_mid_code.proofs.fine.all_below.Given as goal

abbrev pub invariant-loop-x : goal.invariant-loop-x
invariant-loop-x l = AllOf (λ t. t < l.temps) (drop l.x-index l.xs) → AllOf (λ t. t < l.temps) l.xs
