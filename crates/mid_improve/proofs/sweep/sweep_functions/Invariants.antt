use Rattle.std.proofs.Common.{◌≡◌, ◌≤◌, ◌++◌, map, drop, take}
use Rattle.mid_code.specs.Functions.{function}
use Rattle.mid_live.specs.Sets.{room}
use Rattle.mid_improve.specs.inner.Sweep.{swept_function}
use Rattle.mid_improve.proofs.sweep.sweep_functions.Given as goal

abbrev pub invariant-loop-f : goal.invariant-loop-f
invariant-loop-f l = record {
  room : l.have ≤ room l.s;
  swept : map function (take l.f-index l.f-items) ++ map swept_function (map function (drop l.f-index l.f-items)) ≡ map swept_function (map function l.initial.f-items);
}
