use Rattle.std.proofs.Common.{rules, ◌≡◌, map, sym, subst}
use Rattle.mid_code.specs.Functions.{function}
use Rattle.mid_code.specs.View.{code}
use Rattle.mid_code.specs.Whole.{mid}
use Rattle.mid_code.specs.Invariants.{IsMid}
use Rattle.mid_fold.specs.inner.Reusing.{reused_function}
use Rattle.mid_fold.specs.FoldedFrom.{IsFoldedFrom}
use Rattle.mid_fold.proofs.Folds.{with_functions}
use Rattle.mid_fold.proofs.Reuses.{is_reused}
use Rattle.mid_fold.proofs.functions.reuse_results.Goals as goal

pub new-requires : goal.new-requires
new-requires c =
    let x = mid c.args.m in
    let o = code c.into_code-of.result in
    let sound : IsMid x = search rules in
    let of : o ≡ x = search rules in
    let start : function c.reuse_function.new.f ≡ reused_function (function c.into_code-of.result.start) = search rules in
    let functions : map function c.from_vec.result ≡ map reused_function (map function c.into_code-of.result.functions) = search rules in
    record { is_mid = (is_reused x o (function c.reuse_function.new.f) (map function c.from_vec.result) sound of start functions).is_mid }

pub returns : goal.returns
returns c =
    let x = mid c.args.m in
    let o = code c.into_code-of.result in
    let sound : IsMid x = search rules in
    let of : o ≡ x = search rules in
    let start : function c.reuse_function.new.f ≡ reused_function (function c.into_code-of.result.start) = search rules in
    let functions : map function c.from_vec.result ≡ map reused_function (map function c.into_code-of.result.functions) = search rules in
    let new : mid c.new.result ≡ with_functions o (function c.reuse_function.new.f) (map function c.from_vec.result) = search rules in
    record { reused = subst (IsFoldedFrom x) (sym new) (is_reused x o (function c.reuse_function.new.f) (map function c.from_vec.result) sound of start functions) }
