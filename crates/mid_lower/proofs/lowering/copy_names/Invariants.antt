use Rattle.std.proofs.Common.{◌≡◌, ◌++◌, drop}
use Rattle.mid_lower.proofs.lowering.copy_names.Given as goal

abbrev pub invariant-loop-name : goal.invariant-loop-name
invariant-loop-name l = l.found.items ++ drop l.name-index l.names ≡ l.names
