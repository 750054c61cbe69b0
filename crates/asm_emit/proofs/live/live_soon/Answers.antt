use Rattle.std.proofs.Common.{◌≡◌, List, [], ◌∷◌, length, refl, sym, ap, ◌∙◌, arith}
use Rattle.mid_code.specs.Functions.{nodes}
use Rattle.asm_laws.specs.Live.{live_soon}
use Rattle.asm_emit.proofs.Exposing.{soon_over}
use Rattle.asm_emit.proofs.live.live_soon.Goals as goal

none_left : {A : Type 0} (xs : List A) → length xs ≡ 0 → xs ≡ []
none_left [] e = refl
none_left (x ∷ xs) e = absurd (omega (arith, e))

pub returns-in_default : goal.returns-in_default
returns-in_default c =
    let h = c.args.lasting.now in
    let r = c.args.r in
    c.lasts-end.ensures ∙ sym (soon_over c.nodes.left h r c.nodes-test.true) ∙ sym (ap (λ ns. live_soon c.nodes.left h (nodes ns) r) (none_left c.nodes.rest.now c.in_default.ensures.cases)) ∙ c.nodes.invariant
