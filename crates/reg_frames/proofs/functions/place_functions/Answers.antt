use Rattle.std.proofs.Common.{rules, ◌≡◌, ◌++◌, ◌∷◌, [], map}
use Rattle.mid_code.specs.Functions.{function}
use Rattle.mid_code.specs.View.{spots}
use Rattle.reg_frames.specs.inner.Placing.{placing, placed_function, placed_functions, frame_size, frame_sizes, spots_of, all_spots}
use Rattle.reg_frames.specs.Placeable.{places_of, first_of, later}
use Rattle.reg_frames.proofs.Placedly.{placeable_turn, functions_turn, sizes_turn, spots_turn}
use Rattle.reg_frames.proofs.functions.place_functions.Goals as goal

pub loop-f-preserved : goal.loop-f-preserved
loop-f-preserved c =
    let left = c.loop-f.left.now in
    let more = c.in-Some.more.now in
    let f = c.in-Some.f.now in
    let wss = places_of c.loop-f.chosen.now in
    let after = places_of c.first.result.1.now in
    let split : left ≡ f ∷ more = search rules in
    let rest : after ≡ later wss = search rules in
    let p = c.in_ok-placed.placed in
    let made : function p.function ≡ placed_function (placing (first_of wss)) (function f) = search rules in
    let size : p.size ≡ frame_size (first_of wss) (function f) = search rules in
    let stand : spots p.spots ≡ spots_of (first_of wss) (function f) = search rules in
    let functions_pushed : c.push.new.self.items ≡ c.loop-f.found.functions.items ++ p.function ∷ [] = search rules in
    let sizes_pushed : c.push-in-Some.new.self.items ≡ c.loop-f.found.sizes.items ++ p.size ∷ [] = search rules in
    let spots_pushed : c.push-in-Some-2.new.self.items ≡ c.loop-f.found.spots.items ++ p.spots ∷ [] = search rules in
    let i = c.loop-f.invariant in
    let fs = map function c.args.functions.now in
    let all = places_of c.args.choices.now in
    record {
      placeable = placeable_turn left more f wss after split rest i.placeable;
      functions = functions_turn left more f wss after split rest c.loop-f.found.functions.items c.push.new.self.items p.function (placed_functions all fs) functions_pushed made i.functions;
      sizes = sizes_turn left more f wss after split rest c.loop-f.found.sizes.items c.push-in-Some.new.self.items p.size (frame_sizes all fs) sizes_pushed size i.sizes;
      spots = spots_turn left more f wss after split rest c.loop-f.found.spots.items c.push-in-Some-2.new.self.items p.spots (all_spots all fs) spots_pushed stand i.spots;
    }
