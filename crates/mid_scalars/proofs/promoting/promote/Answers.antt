use Rattle.std.proofs.Common.{rules, ◌≡◌, ◌∙◌, sym, subst, map}
use Rattle.mid_code.specs.Functions.{function}
use Rattle.mid_code.specs.View.{code}
use Rattle.mid_code.specs.Whole.{mid}
use Rattle.mid_code.specs.Invariants.{IsMid}
use Rattle.mid_scalars.specs.inner.Alone.{promoted_alone}
use Rattle.mid_scalars.specs.PromotedFrom.{IsPromotedFrom}
use Rattle.mid_scalars.proofs.MidAgain.{promote_mid}
use Rattle.mid_scalars.proofs.Promised.{program_is, is_promoted_from}
use Rattle.mid_scalars.proofs.promoting.promote.Goals as goal

pub new-requires : goal.new-requires
new-requires c =
    let x = mid c.args.m in
    let sound : IsMid x = search rules in
    let of : code c.into_code-of.result ≡ x = search rules in
    let made : map function c.from_vec.result ≡ map promoted_alone (map function c.into_code-of.result.functions) = search rules in
    record { is_mid = subst IsMid (sym (program_is x (code c.into_code-of.result) (map function c.from_vec.result) of made)) (promote_mid x sound) }

pub returns : goal.returns
returns c =
    let x = mid c.args.m in
    let sound : IsMid x = search rules in
    let of : code c.into_code-of.result ≡ x = search rules in
    let made : map function c.from_vec.result ≡ map promoted_alone (map function c.into_code-of.result.functions) = search rules in
    let new : mid c.new.result ≡ record (code c.into_code-of.result) { functions = map function c.from_vec.result } = search rules in
    record { promoted = subst (IsPromotedFrom x) (sym (new ∙ program_is x (code c.into_code-of.result) (map function c.from_vec.result) of made)) (is_promoted_from x sound) }
