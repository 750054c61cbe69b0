use Rattle.std.proofs.Common.{◌≡◌, ◌++◌, map, drop, take}
use Rattle.mid_code.specs.Functions.{function}
use Rattle.mid_improve.specs.inner.Sinking.{sunk_function}
use Rattle.mid_improve.proofs.sinking.sink_functions.Given as goal

abbrev pub invariant-loop-f : goal.invariant-loop-f
invariant-loop-f l = map function (take l.f-index l.f-items) ++ map (sunk_function l.w) (map function (drop l.f-index l.f-items)) ≡ map (sunk_function l.w) (map function l.initial.f-items)
