use Rattle.std.proofs.Common.{rules, ◌≡◌, map, sym, subst}
use Rattle.mid_code.specs.Functions.{function}
use Rattle.mid_code.specs.View.{code}
use Rattle.mid_code.specs.Whole.{mid}
use Rattle.mid_code.specs.Invariants.{IsMid}
use Rattle.mid_improve.specs.ImprovedFrom.{IsNoWorseFrom}
use Rattle.mid_improve.specs.inner.Sinking.{sunk_function}
use Rattle.mid_improve.proofs.Sinks.{with_functions, sunk_of}
use Rattle.mid_improve.proofs.sinking.sink_by.Goals as goal

pub new-requires : goal.new-requires
new-requires c =
    let x = mid c.args.m in
    let o = code c.into_code-of.result in
    let sound : IsMid x = search rules in
    let of : o ≡ x = search rules in
    let start : function c.sink_function.new.f ≡ sunk_function c.args.w (function c.into_code-of.result.start) = search rules in
    let functions : map function c.from_vec.result ≡ map (sunk_function c.args.w) (map function c.into_code-of.result.functions) = search rules in
    record { is_mid = (sunk_of c.args.w x o (function c.sink_function.new.f) (map function c.from_vec.result) sound of start functions).is_mid }

pub returns : goal.returns
returns c =
    let x = mid c.args.m in
    let o = code c.into_code-of.result in
    let sound : IsMid x = search rules in
    let of : o ≡ x = search rules in
    let start : function c.sink_function.new.f ≡ sunk_function c.args.w (function c.into_code-of.result.start) = search rules in
    let functions : map function c.from_vec.result ≡ map (sunk_function c.args.w) (map function c.into_code-of.result.functions) = search rules in
    let new : mid c.new.result ≡ with_functions o (function c.sink_function.new.f) (map function c.from_vec.result) = search rules in
    record { sunk = subst (IsNoWorseFrom x) (sym new) (sunk_of c.args.w x o (function c.sink_function.new.f) (map function c.from_vec.result) sound of start functions) }
