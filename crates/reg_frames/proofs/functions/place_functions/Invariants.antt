use Rattle.std.proofs.Common.{◌≡◌, ◌++◌, map, length}
use Rattle.mid_code.specs.Functions.{function}
use Rattle.mid_code.specs.View.{spots}
use Rattle.reg_frames.specs.inner.Placing.{placed_functions, frame_sizes, all_spots}
use Rattle.reg_frames.specs.Placeable.{places_of, ArePlaceable}
use Rattle.reg_frames.proofs.functions.place_functions.Given as goal

abbrev pub invariant-loop-f : goal.invariant-loop-f
invariant-loop-f l = record {
  placeable : ArePlaceable (map function l.left) (places_of l.chosen);
  functions : map function l.found.functions.items ++ placed_functions (places_of l.chosen) (map function l.left) ≡ placed_functions (places_of l.choices) (map function l.functions);
  sizes : l.found.sizes.items ++ frame_sizes (places_of l.chosen) (map function l.left) ≡ frame_sizes (places_of l.choices) (map function l.functions);
  spots : map spots l.found.spots.items ++ all_spots (places_of l.chosen) (map function l.left) ≡ all_spots (places_of l.choices) (map function l.functions);
}

abbrev pub decreases-loop-f : goal.decreases-loop-f
decreases-loop-f l = length l.left
