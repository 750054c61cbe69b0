use Rattle.std.proofs.Common.{rules, ◌≡◌, List, ℕ, [], ◌∷◌, ◌++◌, map, ap, ◌∙◌}
use Rattle.mid_code.specs.declared.placed.Where.TheVariants.{Slot}
use Rattle.reg_choose.specs.inner.Holding.{number_of}
use Rattle.reg_choose.proofs.Planned.{is_plan}
use Rattle.reg_choose.proofs.plan.plan.Goals as goal

pub returns-clause-plan : goal.returns-clause-plan
returns-clause-plan c =
    let ms : List ℕ = c.in_ok-sorted.sorted.items in
    let f = number_of ms in
    let last : c.push.new.self.items ≡ c.in_ok-numbers.numbers.items ++ c.number.result ∷ [] = search rules in
    let first : c.as_slice.result.now ≡ ms = search rules in
    let second : c.as_slice-2.result.now ≡ ms = search rules in
    let all : c.in_ok-numbers.numbers.items ≡ map f c.args.at.now = c.in_ok-numbers.ensures ∙ ap (λ z. map (number_of z) c.args.at.now) first in
    let other : c.number.result ≡ f (Slot 0) = c.number.ensures ∙ ap (λ z. number_of z (Slot 0)) second in
    is_plan c.args.at.now ms c.push.new.self.items c.in_ok-sorted.ensures.is c.requires.chosen (last ∙ ap (λ z. z ++ c.number.result ∷ []) all ∙ ap (λ z. map f c.args.at.now ++ z ∷ []) other)
