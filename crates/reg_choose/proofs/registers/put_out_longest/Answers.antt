use Rattle.std.proofs.Common.{rules, arith, ◌≡◌, ◌<◌, ◌+◌, suc, length, map, drop, get_or, Some, ap, sym, ◌∙◌, subst}
use Rattle.reg_choose.specs.inner.Scan.{taking, scan, AllG, Has}
use Rattle.reg_choose.specs.inner.Handing.{span, freed_at}
use Rattle.reg_choose.proofs.Tenants.{met_turn, nothing}
use Rattle.reg_choose.proofs.registers.put_out_longest.Goals as goal

pub loop-s-preserved : goal.loop-s-preserved
loop-s-preserved c =
    let i = c.loop-s.invariant in
    let e = c.meet.ensures in
    let ss = c.args.spans.now in
    let k = c.loop-s.s-index in
    let f = freed_at c.loop-s.tenants in
    let s = get_or ss k nothing in
    let l : k < length ss = search rules in
    record {
      nine = e.len;
      long = e.out_len ∙ i.long;
      kept = λ x h. e.out x (i.kept x h);
      spared = λ h. (
          let a = i.spared h in
          let b = met_turn ss k nothing f l a.0 in
          let m = e.spared b.0.0 b.0.1 in
          let n : k + 1 ≡ suc k = omega arith in
          let t : taking f (span s) (Some b.0.0) ≡ freed_at c.meet.new.tenants = sym m.1 in
          (subst (λ z. AllG Has (scan (freed_at c.meet.new.tenants) (map span (drop z ss)))) (sym n) (subst (λ z. AllG Has (scan z (map span (drop (suc k) ss)))) (ap (taking f (span s)) b.0.1 ∙ t) b.1), m.0 ∙ a.1));
    }
