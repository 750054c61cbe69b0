use Rattle.std.proofs.Common.{◌≡◌, ◌+◌, ◌++◌, map, drop, length}
use Rattle.c_types.specs.View.{texpr, texprs}
use Rattle.mid_code.specs.Functions.{node}
use Rattle.lower_trees.specs.Shape.{params_of}
use Rattle.lower_trees.specs.Counts.{temps_all, sizes_all}
use Rattle.lower_trees.specs.Pieces.{listing}
use Rattle.lower_trees.specs.Expressions.{spots, low_args}
use Rattle.lower_trees.specs.inner.MaybeTypes.{or_none}
use Rattle.lower_trees.specs.View.{shape_of}
use Rattle.lower_trees.proofs.expressions.+lower.Given as goal

abbrev pub invariant-args-loop-x : goal.invariant-args-loop-x
invariant-args-loop-x l = record {
  nodes : map node l.out.nodes.items ++ listing (low_args (shape_of l.s) (or_none l.types) (texprs (map texpr (drop l.x-index l.xs))) l.out.next (length l.out.locals.items)) ≡ map node l.initial.out.nodes.items ++ listing (low_args (shape_of l.s) (params_of (shape_of l.s) l.f) (texprs (map texpr l.xs)) l.initial.out.next (length l.initial.out.locals.items));
  spots : l.places.items ++ spots (texprs (map texpr (drop l.x-index l.xs))) l.out.next ≡ l.initial.places.items ++ spots (texprs (map texpr l.xs)) l.initial.out.next;
  locals : l.out.locals.items ++ sizes_all (shape_of l.s) (texprs (map texpr (drop l.x-index l.xs))) ≡ l.initial.out.locals.items ++ sizes_all (shape_of l.s) (texprs (map texpr l.xs));
  temps : l.out.next + temps_all (texprs (map texpr (drop l.x-index l.xs))) ≡ l.initial.out.next + temps_all (texprs (map texpr l.xs));
  local : length l.out.locals.items + length (sizes_all (shape_of l.s) (texprs (map texpr (drop l.x-index l.xs)))) ≡ length l.initial.out.locals.items + length (sizes_all (shape_of l.s) (texprs (map texpr l.xs)));
}
