use Rattle.std.proofs.Common.{rules, ◌≡◌, ◌<◌, map, length, subst}
use Rattle.std.specs.List.{All}
use Rattle.std.specs.List.Sorted.{IsPermutation}
use Rattle.std.proofs.lemmas.List.Sorted.{All-permutation, IsPermutation-map, IsNonDecreasingBy-from_sort_by_key}
use Rattle.reg_choose.specs.declared.interval.Interval.{Interval}
use Rattle.reg_choose.specs.inner.Handing.{span, spans_from}
use Rattle.reg_choose.proofs.Tenants.{rises_spans}
use Rattle.reg_choose.proofs.ordered.in_order.Goals as goal

pub returns-clause-permutation : goal.returns-clause-permutation
returns-clause-permutation c =
    let e : map span c.in_ok-found.found.items ≡ spans_from 0 c.args.trails.now = search rules in
    subst (λ z. IsPermutation z (map span c.sort_by_key.new.self.items)) e (IsPermutation-map span c.in_ok-found.found.items c.sort_by_key.new.self.items c.sort_by_key.ensures.permutation)

pub returns-clause-rises : goal.returns-clause-rises
returns-clause-rises c = rises_spans c.sort_by_key.new.self.items (IsNonDecreasingBy-from_sort_by_key (λ s. s.first) _ c.in_ok-sort_by_key.ensures.sorted (λ a r q k. search rules))

pub returns-clause-below : goal.returns-clause-below
returns-clause-below c =
    let a : All (λ (s : Interval). s.temp < length c.args.trails.now) c.in_ok-found.found.items = search rules in
    All-permutation (λ (s : Interval). s.temp < length c.args.trails.now) c.in_ok-found.found.items c.sort_by_key.new.self.items c.sort_by_key.ensures.permutation a
