use Rattle.std.proofs.Common.{rules, ◌≡◌, map, sym, ◌∙◌, subst}
use Rattle.mid_code.specs.Functions.{function}
use Rattle.mid_code.specs.View.{spots}
use Rattle.mid_code.specs.Whole.{mid, placed}
use Rattle.mid_code.specs.Invariants.{IsMid, IsPlaced}
use Rattle.reg_frames.specs.inner.Placing.{placing, placed_function, placed_functions, frame_sizes, all_spots}
use Rattle.reg_frames.specs.Placeable.{places_of, first_of, later, IsPlaceable, ArePlaceable}
use Rattle.reg_frames.specs.PlacedFrom.{IsPlacedFrom}
use Rattle.reg_frames.proofs.Promised.{start_placeable, functions_placeable, is_placed, is_placed_from, made, placed_of}
use Rattle.reg_frames.proofs.whole.place.Goals as goal

pub place_function-requires : goal.place_function-requires
place_function-requires c =
    let x = mid c.args.m.now in
    let wss = places_of c.args.choices.now in
    let sound : IsMid x = search rules in
    let from : function c.code-from.result.now.start ≡ x.start = search rules in
    let at : c.first.result.0.now ≡ first_of wss = search rules in
    record { placeable = subst (λ f. IsPlaceable f c.first.result.0.now) (sym from) (subst (IsPlaceable x.start) (sym at) (start_placeable x wss sound c.requires.safe)) }

pub place_functions-requires : goal.place_functions-requires
place_functions-requires c =
    let x = mid c.args.m.now in
    let wss = places_of c.args.choices.now in
    let sound : IsMid x = search rules in
    let from : map function c.as_slice.result.now ≡ x.functions = search rules in
    let after : places_of c.first.result.1.now ≡ later wss = search rules in
    record { placeable = subst (λ fs. ArePlaceable fs (places_of c.first.result.1.now)) (sym from) (subst (ArePlaceable x.functions) (sym after) (functions_placeable x wss sound c.requires.safe)) }

pub new-requires : goal.new-requires
new-requires c =
    let x = mid c.args.m.now in
    let wss = places_of c.args.choices.now in
    let sound : IsMid x = search rules in
    let at : c.first.result.0.now ≡ first_of wss = search rules in
    let after : places_of c.first.result.1.now ≡ later wss = search rules in
    let first_is : function c.code-from.result.now.start ≡ x.start = search rules in
    let functions_are : map function c.as_slice.result.now ≡ x.functions = search rules in
    let made_start : function c.in_ok-start.start.function ≡ placed_function (placing c.first.result.0.now) (function c.code-from.result.now.start) = search rules in
    let start : function c.in_ok-start.start.function ≡ placed_function (placing (first_of wss)) x.start = made_start ∙ (λ i. placed_function (placing (at i)) (first_is i)) in
    let made_functions : map function c.from_vec.result ≡ placed_functions (places_of c.first.result.1.now) (map function c.as_slice.result.now) = search rules in
    let functions : map function c.from_vec.result ≡ placed_functions (later wss) x.functions = made_functions ∙ (λ i. placed_functions (after i) (functions_are i)) in
    let globals : c.from_vec-2.result ≡ x.globals = search rules in
    let literals : c.from_vec-3.result ≡ x.literals = search rules in
    let main : c.code-from.result.now.main ≡ x.main = search rules in
    let made_sizes : c.from_vec-4.result ≡ frame_sizes (places_of c.first.result.1.now) (map function c.as_slice.result.now) = search rules in
    let sizes : c.from_vec-4.result ≡ frame_sizes (later wss) x.functions = made_sizes ∙ (λ i. frame_sizes (after i) (functions_are i)) in
    let made_spots : map spots c.from_vec-5.result ≡ all_spots (places_of c.first.result.1.now) (map function c.as_slice.result.now) = search rules in
    let stand : map spots c.from_vec-5.result ≡ all_spots (later wss) x.functions = made_spots ∙ (λ i. all_spots (after i) (functions_are i)) in
    let whole = placed_of x (first_of wss) (later wss) (function c.in_ok-start.start.function) (map function c.from_vec.result) c.from_vec-2.result c.from_vec-3.result c.code-from.result.now.main c.from_vec-4.result (map spots c.from_vec-5.result) start functions globals literals main sizes stand in
    record { is_placed = subst IsPlaced (sym whole) (is_placed x wss sound c.requires.safe) }

pub returns : goal.returns
returns c =
    let x = mid c.args.m.now in
    let wss = places_of c.args.choices.now in
    let sound : IsMid x = search rules in
    let at : c.first.result.0.now ≡ first_of wss = search rules in
    let after : places_of c.first.result.1.now ≡ later wss = search rules in
    let first_is : function c.code-from.result.now.start ≡ x.start = search rules in
    let functions_are : map function c.as_slice.result.now ≡ x.functions = search rules in
    let made_start : function c.in_ok-start.start.function ≡ placed_function (placing c.first.result.0.now) (function c.code-from.result.now.start) = search rules in
    let start : function c.in_ok-start.start.function ≡ placed_function (placing (first_of wss)) x.start = made_start ∙ (λ i. placed_function (placing (at i)) (first_is i)) in
    let made_functions : map function c.from_vec.result ≡ placed_functions (places_of c.first.result.1.now) (map function c.as_slice.result.now) = search rules in
    let functions : map function c.from_vec.result ≡ placed_functions (later wss) x.functions = made_functions ∙ (λ i. placed_functions (after i) (functions_are i)) in
    let globals : c.from_vec-2.result ≡ x.globals = search rules in
    let literals : c.from_vec-3.result ≡ x.literals = search rules in
    let main : c.code-from.result.now.main ≡ x.main = search rules in
    let made_sizes : c.from_vec-4.result ≡ frame_sizes (places_of c.first.result.1.now) (map function c.as_slice.result.now) = search rules in
    let sizes : c.from_vec-4.result ≡ frame_sizes (later wss) x.functions = made_sizes ∙ (λ i. frame_sizes (after i) (functions_are i)) in
    let made_spots : map spots c.from_vec-5.result ≡ all_spots (places_of c.first.result.1.now) (map function c.as_slice.result.now) = search rules in
    let stand : map spots c.from_vec-5.result ≡ all_spots (later wss) x.functions = made_spots ∙ (λ i. all_spots (after i) (functions_are i)) in
    let whole = placed_of x (first_of wss) (later wss) (function c.in_ok-start.start.function) (map function c.from_vec.result) c.from_vec-2.result c.from_vec-3.result c.code-from.result.now.main c.from_vec-4.result (map spots c.from_vec-5.result) start functions globals literals main sizes stand in
    let new : placed c.new.result ≡ made (function c.in_ok-start.start.function) (map function c.from_vec.result) c.from_vec-2.result c.from_vec-3.result c.code-from.result.now.main c.from_vec-4.result (map spots c.from_vec-5.result) = search rules in
    record { placed = subst (IsPlacedFrom x wss) (sym (new ∙ whole)) (is_placed_from x wss sound c.requires.safe) }
