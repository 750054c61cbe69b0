use Rattle.std.proofs.Common.{◌≡◌, ◌++◌, map, drop}
use Rattle.mid_evaluate.specs.View.{held}
use Rattle.mid_evaluate.proofs.calls.passed.Given as goal

abbrev pub invariant-each : goal.invariant-each
invariant-each l = l.values.items ++ map (held l.cells) (drop l.a-index l.args) ≡ map (held l.cells) l.args
