use Rattle.std.proofs.Common.{◌≡◌, ◌+◌, ◌++◌, map, drop, length}
use Rattle.c_types.specs.View.{tinit, tinits, or_void}
use Rattle.mid_code.specs.Functions.{node}
use Rattle.lower_trees.specs.Counts.{inits_temps, inits_sizes}
use Rattle.lower_trees.specs.Pieces.{listing}
use Rattle.lower_trees.specs.Initialisers.{low_inits}
use Rattle.lower_trees.specs.View.{shape_of}
use Rattle.lower_trees.proofs.initialisers.+initialise.Given as goal

abbrev pub invariant-initialise_all-loop-k : goal.invariant-initialise_all-loop-k
invariant-initialise_all-loop-k l = record {
  nodes : map node l.out.nodes.items ++ listing (low_inits (shape_of l.s) (tinits (map tinit (drop l.k l.items))) (or_void l.part.ty) l.k l.part.pointer l.begins l.out.next (length l.out.locals.items)) ≡ map node l.initial.out.nodes.items ++ listing (low_inits (shape_of l.s) (tinits (map tinit l.items)) (or_void l.part.ty) 0 l.part.pointer l.part.offset l.initial.out.next (length l.initial.out.locals.items));
  locals : l.out.locals.items ++ inits_sizes (shape_of l.s) (tinits (map tinit (drop l.k l.items))) ≡ l.initial.out.locals.items ++ inits_sizes (shape_of l.s) (tinits (map tinit l.items));
  temps : l.out.next + inits_temps (tinits (map tinit (drop l.k l.items))) ≡ l.initial.out.next + inits_temps (tinits (map tinit l.items));
  local : length l.out.locals.items + length (inits_sizes (shape_of l.s) (tinits (map tinit (drop l.k l.items)))) ≡ length l.initial.out.locals.items + length (inits_sizes (shape_of l.s) (tinits (map tinit l.items)));
}
