use Rattle.std.proofs.Common.{rules, arith, ◌≡◌, ◌-◌, length, map, sym, ap, subst, ◌∙◌}
use Rattle.mid_code.specs.Functions.{node, listed}
use Rattle.mid_live.specs.Sets.{on}
use Rattle.mid_live.specs.Heads.{IsKnown}
use Rattle.mid_live.specs.declared.heads.Known.{Known}
use Rattle.mid_live.proofs.Named.{found_head}
use Rattle.mid_live.proofs.learn.head_in.Goals as goal

pub returns-clause-is : goal.returns-clause-is
returns-clause-is c =
    let w = length c.args.s.now in
    let b = listed (map node c.args.b.now) in
    let z = c.args.spare in
    let names : c.in_ok-names.names ≡ c.names_in.new.s = search rules in
    let needs : c.in_ok-needs.needs ≡ c.needs_in.new.s = search rules in
    let passing : c.in_ok-passing.passing ≡ c.passing_in.new.s = search rules in
    let gone : c.in_ok-gone.gone ≡ c.less.new.s = search rules in
    let l1 = c.in_ok-names.ensures.len in
    let l2 = c.in_ok-needs.ensures.len in
    let l3 = c.in_ok-passing.ensures.len in
    let inside = c.requires.count in
    let h : Known = record { inside = length c.args.heads.now - c.args.first; names = c.in_ok-names.names; gone = c.in_ok-gone.gone; needs = c.in_ok-needs.needs } in
    let boxed : c.in_ok-known.known.value ≡ h = search rules in
    let taken : c.has-taken.result ≡ on c.names_in.new.s z = search rules in
    let passes : c.has-passes.result ≡ on c.passing_in.new.s z = search rules in
    let q = c.if-not-is_known.ensures in
    subst (λ k. IsKnown w k b) (sym boxed) (found_head w z h b c.in_ok-passing.passing (omega (arith, inside)) (λ y m. ap (λ s. on s y) names ∙ c.in_ok-names.ensures.is y m) (c.requires.few c.if-not-asked.false) (ap (λ s. on s z) names ∙ sym taken ∙ q.0) (ap (λ s. on s z) passing ∙ sym passes ∙ q.1) c.requires.spare (λ y m. ap (λ s. on s y) needs ∙ c.in_ok-needs.ensures.is y (omega (arith, m, l1))) (λ y m. ap (λ s. on s y) passing ∙ c.in_ok-passing.ensures.is y (omega (arith, m, l1, l2))) (λ y m. ap (λ s. on s y) gone ∙ c.in_ok-gone.ensures.is y (omega (arith, m, l1, l2, l3))))
