use Rattle.std.proofs.Common.{◌≡◌, map, drop}
use Rattle.mid_code.specs.Functions.{function}
use Rattle.mid_replace.specs.inner.Chosen.{AllReplacedBy}
use Rattle.mid_replace.specs.inner.Tables.{HaveCounts}
use Rattle.mid_replace.proofs.functions.replace_functions.Given as goal

abbrev pub invariant-loop-f : goal.invariant-loop-f
invariant-loop-f l = record {
  counts : HaveCounts (map function (drop l.f-index l.f-items));
  same : map function (drop l.f-index l.f-items) ≡ map function (drop l.f-index l.initial.f-items);
  replaced : AllReplacedBy (map function l.initial.f-items) (map function l.f-items);
}
