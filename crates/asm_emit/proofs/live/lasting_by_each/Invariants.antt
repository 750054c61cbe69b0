use Rattle.std.proofs.Common.{◌≡◌, ◌++◌, map, drop}
use Rattle.mid_code.specs.Functions.{function}
use Rattle.asm_emit.specs.inner.Lasting.{lasting_all}
use Rattle.asm_emit.proofs.live.lasting_by_each.Given as goal

abbrev pub invariant-loop-f : goal.invariant-loop-f
invariant-loop-f l = map (λ v. v.items) l.each.items ++ lasting_all (map function (drop l.f-index l.functions)) ≡ lasting_all (map function l.functions)
