use Rattle.std.proofs.Common.{rules, arith, ◌≡◌, ◌+◌, ◌≤◌, suc, length, [], ◌∷◌, ◌++◌, map, drop, ap, sym, ◌∙◌, subst}
use Rattle.mid_code.specs.Functions.{function}
use Rattle.reg_choose.specs.Each.{places_in, IsNamed}
use Rattle.reg_choose.proofs.Program.{Goes, goes_on, goes_begin, goes_end, places_more, functions_drop, named_in}
use Rattle.reg_choose.proofs.each.choose_each.Goals as goal

pub loop-f-init : goal.loop-f-init
loop-f-init c =
    let fs = map function c.args.fs.now in
    let f = function c.args.start.now in
    let all = f ∷ fs in
    let first = c.in_ok-choose_named.field-0 in
    let is : c.push.new.self.items ≡ first ∷ [] = search rules in
    subst (λ z. Goes fs all (places_in z)) (sym is) (goes_on fs all f [] first.at (goes_begin all) c.in_ok-choose_named.ensures.safe c.in_ok-choose_named.ensures.spares)

pub choose_named-requires-in-loop-f : goal.choose_named-requires-in-loop-f
choose_named-requires-in-loop-f c = record { named = subst (λ z. IsNamed (function z)) (sym c.f-item.is) (named_in c.args.fs.now c.loop-f.f-index c.f-item.result c.loop-f-test.true c.requires.named) }

pub loop-f-preserved : goal.loop-f-preserved
loop-f-preserved c =
    let fs = c.args.fs.now in
    let i = c.loop-f.f-index in
    let x = c.f-item.result in
    let all = function c.args.start.now ∷ map function fs in
    let done = c.loop-f.found.items in
    let new = c.in_ok-choose_named-2.field-0 in
    let is : c.push-in-loop-f.new.self.items ≡ done ++ new ∷ [] = search rules in
    let n : suc i ≡ i + 1 = omega arith in
    let d : map function (drop i fs) ≡ function x ∷ map function (drop (suc i) fs) = functions_drop fs i x c.loop-f-test.true ∙ ap (λ z. function z ∷ map function (drop (suc i) fs)) (sym c.f-item.is) in
    let g = subst (λ z. Goes z all (places_in done)) d c.loop-f.invariant in
    let h = goes_on (map function (drop (suc i) fs)) all (function x) (places_in done) new.at g c.in_ok-choose_named-2.ensures.safe c.in_ok-choose_named-2.ensures.spares in
    subst (λ z. Goes (map function (drop z fs)) all (places_in c.push-in-loop-f.new.self.items)) n (subst (λ z. Goes (map function (drop (suc i) fs)) all z) (sym (places_more done new) ∙ ap places_in (sym is)) h)

pub returns-clause-safe : goal.returns-clause-safe
returns-clause-safe c =
    let fs = c.args.fs.now in
    let l : length fs ≤ c.loop-f.f-index = search rules in
    (goes_end fs c.loop-f.f-index (function c.args.start.now ∷ map function fs) (places_in c.loop-f.found.items) l c.loop-f.invariant).0

pub returns-clause-spares : goal.returns-clause-spares
returns-clause-spares c =
    let fs = c.args.fs.now in
    let l : length fs ≤ c.loop-f.f-index = search rules in
    (goes_end fs c.loop-f.f-index (function c.args.start.now ∷ map function fs) (places_in c.loop-f.found.items) l c.loop-f.invariant).1
