use Rattle.std.proofs.Common.{◌≡◌, ◌++◌, map, drop, take}
use Rattle.mid_code.specs.Functions.{function}
use Rattle.mid_scalars.specs.inner.Alone.{promoted_alone, ArePromotable}
use Rattle.mid_scalars.proofs.functions.promote_functions.Given as goal

abbrev pub invariant-loop-f : goal.invariant-loop-f
invariant-loop-f l = record {
  promotable : ArePromotable (map function (drop l.f-index l.f-items));
  promoted : map function (take l.f-index l.f-items) ++ map promoted_alone (map function (drop l.f-index l.f-items)) ≡ map promoted_alone (map function l.initial.f-items);
}
