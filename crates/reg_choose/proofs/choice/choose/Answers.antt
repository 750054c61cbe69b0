use Rattle.std.proofs.Common.{rules, arith, ◌≡◌, ℕ, ◌<◌, ◌^◌, Bool, List, Option, length, map, true, ap, sym, ◌∙◌, subst}
use Rattle.std.specs.List.{All}
use Rattle.std.specs.List.Sorted.{IsPermutation}
use Rattle.mid_code.specs.Functions.{function}
use Rattle.mid_code.specs.Safe.{IsSafe, SparesSlots}
use Rattle.reg_choose.specs.declared.trail.Trail.{Trail}
use Rattle.reg_choose.specs.declared.interval.Interval.{Interval}
use Rattle.reg_choose.specs.inner.Scan.{scan, AllG, Has}
use Rattle.reg_choose.specs.inner.Trails.{trail_at}
use Rattle.reg_choose.specs.inner.Handing.{span, flag, kept, got, give, first_got, numbered, spans_from}
use Rattle.reg_choose.proofs.Chooser.{Made, made_safe, made_spares}
use Rattle.reg_choose.proofs.Tenants.{got_begun}
use Rattle.reg_choose.proofs.choice.choose.Goals as goal

pub registers-requires : goal.registers-requires
registers-requires c =
    let ts : List Trail = c.in_ok-trails.trails.items in
    let ys : List Interval = c.in_ok-spans.spans.items in
    let long : length c.as_slice-5.result.now ≡ length ts = search rules in
    let is : c.as_slice-4.result.now ≡ ys = search rules in
    let from : c.as_slice.result.now ≡ ts = search rules in
    let below : All (λ (s : Interval). s.temp < length ts) ys = subst (λ z. All (λ (s : Interval). s.temp < length z) ys) from c.in_ok-spans.ensures.below in
    record { below = subst (λ z. All (λ (s : Interval). s.temp < length c.as_slice-5.result.now) z) (sym is) (subst (λ n. All (λ (s : Interval). s.temp < n) ys) (sym long) below) }

pub places-requires : goal.places-requires
places-requires c =
    let few : length c.in_ok-trails.trails.items < 2 ^ 32 = search rules in
    let a : length c.as_slice-6.result.now ≡ length c.in_ok-trails.trails.items = search rules in
    record { few = omega (arith, few, a) }

pub returns-clause-safe : goal.returns-clause-safe
returns-clause-safe c =
    let f = function c.args.f.now in
    let ts : List Trail = c.in_ok-trails.trails.items in
    let out : List Bool = c.in_ok-out.out.items in
    let ys : List Interval = c.in_ok-spans.spans.items in
    let os : List (Option ℕ) = c.in_ok-given.given.items in
    let s0 : c.as_slice.result.now ≡ ts = search rules in
    let s2 : c.as_slice-2.result.now ≡ ts = search rules in
    let s3 : c.as_slice-3.result.now ≡ ys = search rules in
    let s4 : c.as_slice-4.result.now ≡ ys = search rules in
    let s5 : c.as_slice-5.result.now ≡ out = search rules in
    let s6 : c.as_slice-6.result.now ≡ os = search rules in
    let count : length ts ≡ f.temps = c.in_ok-trails.ensures.len in
    let out_count : length out ≡ f.temps = c.in_ok-out.ensures.len ∙ ap length s2 ∙ count in
    let m : Made f ts (flag out) (map span ys) (map first_got out) os = record {
      count = count;
      tells = c.in_ok-trails.ensures.is;
      names = c.requires.names;
      params = c.requires.params;
      crossing = subst (λ z. (x : ℕ) → (trail_at z x).crosses ≡ true → flag out x ≡ true) s2 c.in_ok-out.ensures.crossing;
      spared = subst (λ z. AllG Has (scan (λ r. 0) (map span z)) → (x : ℕ) → flag out x ≡ (trail_at ts x).crosses) s3 (subst (λ z. AllG Has (scan (λ r. 0) (map span c.as_slice-3.result.now)) → (x : ℕ) → flag out x ≡ (trail_at z x).crosses) s2 c.in_ok-out.ensures.spared);
      permutation = subst (λ z. IsPermutation (spans_from 0 z) (map span ys)) s0 c.in_ok-spans.ensures.permutation;
      rises = c.in_ok-spans.ensures.rises;
      long = c.in_ok-given.ensures.len ∙ ap length s5 ∙ out_count;
      begun = λ x l. got_begun out x (let q = out_count in omega (arith, l, q));
      handed = c.in_ok-given.ensures.is ∙ ap (λ z. give (got (map first_got z)) (λ r. 0) (kept (flag z) (map span c.as_slice-4.result.now))) s5 ∙ ap (λ z. give (got (map first_got out)) (λ r. 0) (kept (flag out) (map span z))) s4;
    } in
    let e : numbered 0 os ≡ c.from_vec.result = search rules in
    subst (IsSafe f) e (made_safe f ts (flag out) (map span ys) (map first_got out) os m)

pub returns-clause-spares : goal.returns-clause-spares
returns-clause-spares c =
    let f = function c.args.f.now in
    let ts : List Trail = c.in_ok-trails.trails.items in
    let out : List Bool = c.in_ok-out.out.items in
    let ys : List Interval = c.in_ok-spans.spans.items in
    let os : List (Option ℕ) = c.in_ok-given.given.items in
    let s0 : c.as_slice.result.now ≡ ts = search rules in
    let s2 : c.as_slice-2.result.now ≡ ts = search rules in
    let s3 : c.as_slice-3.result.now ≡ ys = search rules in
    let s4 : c.as_slice-4.result.now ≡ ys = search rules in
    let s5 : c.as_slice-5.result.now ≡ out = search rules in
    let s6 : c.as_slice-6.result.now ≡ os = search rules in
    let count : length ts ≡ f.temps = c.in_ok-trails.ensures.len in
    let out_count : length out ≡ f.temps = c.in_ok-out.ensures.len ∙ ap length s2 ∙ count in
    let m : Made f ts (flag out) (map span ys) (map first_got out) os = record {
      count = count;
      tells = c.in_ok-trails.ensures.is;
      names = c.requires.names;
      params = c.requires.params;
      crossing = subst (λ z. (x : ℕ) → (trail_at z x).crosses ≡ true → flag out x ≡ true) s2 c.in_ok-out.ensures.crossing;
      spared = subst (λ z. AllG Has (scan (λ r. 0) (map span z)) → (x : ℕ) → flag out x ≡ (trail_at ts x).crosses) s3 (subst (λ z. AllG Has (scan (λ r. 0) (map span c.as_slice-3.result.now)) → (x : ℕ) → flag out x ≡ (trail_at z x).crosses) s2 c.in_ok-out.ensures.spared);
      permutation = subst (λ z. IsPermutation (spans_from 0 z) (map span ys)) s0 c.in_ok-spans.ensures.permutation;
      rises = c.in_ok-spans.ensures.rises;
      long = c.in_ok-given.ensures.len ∙ ap length s5 ∙ out_count;
      begun = λ x l. got_begun out x (let q = out_count in omega (arith, l, q));
      handed = c.in_ok-given.ensures.is ∙ ap (λ z. give (got (map first_got z)) (λ r. 0) (kept (flag z) (map span c.as_slice-4.result.now))) s5 ∙ ap (λ z. give (got (map first_got out)) (λ r. 0) (kept (flag out) (map span z))) s4;
    } in
    let e : numbered 0 os ≡ c.from_vec.result = search rules in
    subst (SparesSlots f) e (made_spares f ts (flag out) (map span ys) (map first_got out) os m)
