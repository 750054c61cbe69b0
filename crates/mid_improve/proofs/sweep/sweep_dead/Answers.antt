use Rattle.std.proofs.Common.{rules, ◌≡◌, map, sym, subst}
use Rattle.mid_code.specs.Functions.{function}
use Rattle.mid_code.specs.View.{code}
use Rattle.mid_code.specs.Whole.{mid}
use Rattle.mid_code.specs.Invariants.{IsMid}
use Rattle.mid_improve.specs.inner.Sweep.{swept_function}
use Rattle.mid_improve.specs.inner.SweptFrom.{IsSweptFrom}
use Rattle.mid_improve.proofs.SweepMid.{with_functions, is_swept}
use Rattle.mid_improve.proofs.sweep.sweep_dead.Goals as goal

pub new-requires : goal.new-requires
new-requires c =
    let x = mid c.args.m in
    let o = code c.into_code-of.result in
    let sound : IsMid x = search rules in
    let of : o ≡ x = search rules in
    let start : function c.sweep_function.new.f ≡ swept_function (function c.into_code-of.result.start) = search rules in
    let functions : map function c.from_vec.result ≡ map swept_function (map function c.into_code-of.result.functions) = search rules in
    record { is_mid = (is_swept x o (function c.sweep_function.new.f) (map function c.from_vec.result) sound of start functions).is_mid }

pub returns : goal.returns
returns c =
    let x = mid c.args.m in
    let o = code c.into_code-of.result in
    let sound : IsMid x = search rules in
    let of : o ≡ x = search rules in
    let start : function c.sweep_function.new.f ≡ swept_function (function c.into_code-of.result.start) = search rules in
    let functions : map function c.from_vec.result ≡ map swept_function (map function c.into_code-of.result.functions) = search rules in
    let new : mid c.new.result ≡ with_functions o (function c.sweep_function.new.f) (map function c.from_vec.result) = search rules in
    record { swept = subst (IsSweptFrom x) (sym new) (is_swept x o (function c.sweep_function.new.f) (map function c.from_vec.result) sound of start functions) }
