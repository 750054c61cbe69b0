use Rattle.std.proofs.Common.{rules, ◌≡◌, ◌↔◌, true, map, subst}
use Rattle.mid_code.specs.Functions.{function}
use Rattle.mid_code.specs.Invariants.{AllOf}
use Rattle.mid_code.specs.View.{code}
use Rattle.mid_code.specs.Whole.{mid}
use Rattle.mid_improve.specs.Settled.{IsSettledFunction}
use Rattle.mid_improve.proofs.Whole.{start_not, functions_then}
use Rattle.mid_improve.proofs.settled.is_settled.Goals as goal

pub returns-then-not-start : goal.returns-then-not-start
returns-then-not-start c =
    let e : code c.code-of.result.now ≡ mid c.args.m.now = search rules in
    record { exact = start_not (mid c.args.m.now) c.in_ok-start.start (subst (λ x. (c.in_ok-start.start ≡ true) ↔ IsSettledFunction x.start) e c.in_ok-start.ensures.settled) c.if-not-start.true }

pub returns : goal.returns
returns c =
    let e : code c.code-of.result.now ≡ mid c.args.m.now = search rules in
    let b = c.in_ok-functions.functions in
    let same : c.as_slice.result.now ≡ c.code-of.result.now.functions = search rules in
    let fs = subst (λ fs. (b ≡ true) ↔ AllOf IsSettledFunction (map function fs)) same c.in_ok-functions.ensures in
    record { exact = functions_then (mid c.args.m.now) c.in_ok-start.start b (subst (λ x. (c.in_ok-start.start ≡ true) ↔ IsSettledFunction x.start) e c.in_ok-start.ensures.settled) c.if-not-start.false (subst (λ x. (b ≡ true) ↔ AllOf IsSettledFunction x.functions) e fs) }
