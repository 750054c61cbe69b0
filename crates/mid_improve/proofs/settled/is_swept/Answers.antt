use Rattle.std.proofs.Common.{rules, ◌≡◌, ◌↔◌, [], true, map, subst}
use Rattle.mid_code.specs.Functions.{function}
use Rattle.mid_code.specs.Invariants.{AllOf}
use Rattle.mid_code.specs.Paths.{Each}
use Rattle.mid_code.specs.View.{code}
use Rattle.mid_code.specs.Whole.{mid}
use Rattle.mid_improve.specs.Settled.{IsWanted, IsSettledFunction}
use Rattle.mid_improve.proofs.Whole.{start_not, functions_then, targets_only}
use Rattle.mid_improve.proofs.settled.is_swept.Goals as goal

pub returns-then-not-start : goal.returns-then-not-start
returns-then-not-start c =
    let x = mid c.args.m.now in
    let e : code c.code-of.result.now ≡ x = search rules in
    let b = c.in_ok-start.start in
    let one = targets_only x.start b c.requires.start (subst (λ y. (b ≡ true) ↔ Each IsWanted [] y.start.body) e c.in_ok-start.ensures.live) in
    record { exact = start_not x b one c.if-not-start.true }

pub returns : goal.returns
returns c =
    let x = mid c.args.m.now in
    let e : code c.code-of.result.now ≡ x = search rules in
    let a = c.in_ok-start.start in
    let b = c.in_ok-functions.functions in
    let one = targets_only x.start a c.requires.start (subst (λ y. (a ≡ true) ↔ Each IsWanted [] y.start.body) e c.in_ok-start.ensures.live) in
    let same : c.as_slice.result.now ≡ c.code-of.result.now.functions = search rules in
    let fs = subst (λ fs. (b ≡ true) ↔ AllOf IsSettledFunction (map function fs)) same c.in_ok-functions.ensures in
    record { exact = functions_then x a b one c.if-not-start.false (subst (λ y. (b ≡ true) ↔ AllOf IsSettledFunction y.functions) e fs) }
