use Rattle.std.proofs.Common.{◌≡◌, ℕ, length, map, drop, true}
use Rattle.reg_choose.specs.inner.Scan.{scan, AllG, Has}
use Rattle.reg_choose.specs.inner.Handing.{span, flag, freed_at}
use Rattle.reg_choose.proofs.registers.put_out_longest.Given as goal

abbrev pub invariant-loop-s : goal.invariant-loop-s
invariant-loop-s l = record {
  nine : length l.tenants ≡ 9;
  long : length l.out ≡ length l.initial.out;
  kept : (x : ℕ) → flag l.initial.out x ≡ true → flag l.out x ≡ true;
  spared : AllG Has (scan (λ r. 0) (map span l.spans)) → AllG Has (scan (freed_at l.tenants) (map span (drop l.s-index l.spans))) × (l.out ≡ l.initial.out);
}
