use Rattle.std.proofs.Common.{◌≡◌, length, map, drop}
use Rattle.reg_choose.specs.inner.Handing.{span, kept, flag, freed_at, got, give}
use Rattle.reg_choose.proofs.registers.hand_out.Given as goal

abbrev pub invariant-loop-s : goal.invariant-loop-s
invariant-loop-s l = record {
  nine : length l.tenants ≡ 9;
  long : length l.given ≡ length l.initial.given;
  gives : give (got l.given) (freed_at l.tenants) (kept (flag l.out) (map span (drop l.s-index l.spans))) ≡ give (got l.initial.given) (λ r. 0) (kept (flag l.out) (map span l.spans));
}
