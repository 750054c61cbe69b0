use Rattle.std.proofs.Common.{◌≡◌, ◌++◌, map, drop, take}
use Rattle.mid_code.specs.Functions.{function}
use Rattle.mid_fold.specs.inner.Reusing.{reused_function}
use Rattle.mid_fold.proofs.functions.reuse_functions.Given as goal

abbrev pub invariant-loop-f : goal.invariant-loop-f
invariant-loop-f l = map function (take l.f-index l.f-items) ++ map reused_function (map function (drop l.f-index l.f-items)) ≡ map reused_function (map function l.initial.f-items)
