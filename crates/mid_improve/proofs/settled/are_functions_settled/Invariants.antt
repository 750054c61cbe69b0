use Rattle.std.proofs.Common.{◌↔◌, ◌≤◌, map, drop}
use Rattle.mid_code.specs.Functions.{function}
use Rattle.mid_code.specs.Invariants.{AllOf}
use Rattle.mid_live.specs.Sets.{room}
use Rattle.mid_improve.specs.Settled.{IsSettledFunction}
use Rattle.mid_improve.specs.inner.Named.{IsNamed}
use Rattle.mid_improve.proofs.settled.are_functions_settled.Given as goal

abbrev pub invariant-loop-f : goal.invariant-loop-f
invariant-loop-f l = record {
  named : AllOf IsNamed (map function (drop l.f-index l.fs));
  room : l.have ≤ room l.s;
  settled : AllOf IsSettledFunction (map function (drop l.f-index l.fs)) ↔ AllOf IsSettledFunction (map function l.fs);
}
