use Rattle.std.proofs.Common.{drop, map}
use Rattle.mid_code.specs.Functions.{function}
use Rattle.mid_code.specs.Invariants.{AllOf, IsFunction, IsTemporary}
use Rattle.mid_code.specs.View.{code}
use Rattle.tool_mid_code.proofs.made.functions_fine.Given as goal

abbrev pub invariant-loop-f : goal.invariant-loop-f
invariant-loop-f l = AllOf (IsFunction IsTemporary (code l.of)) (map function (drop l.f-index l.fs)) → AllOf (IsFunction IsTemporary (code l.of)) (map function l.fs)
