use Rattle.std.proofs.Common.{◌≡◌, ◌++◌, map, drop}
use Rattle.mid_code.specs.Functions.{function}
use Rattle.asm_emit.specs.inner.Spared.{held_all}
use Rattle.asm_emit.proofs.spare.held_by_each.Given as goal

abbrev pub invariant-loop-f : goal.invariant-loop-f
invariant-loop-f l = l.each.items ++ held_all (map function (drop l.f-index l.functions)) ≡ held_all (map function l.functions)
