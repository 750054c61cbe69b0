use Rattle.std.proofs.Common.{◌≡◌, ◌+◌, ◌++◌, map, drop, length}
use Rattle.c_types.specs.View.{tvar}
use Rattle.mid_code.specs.Functions.{node}
use Rattle.lower_trees.specs.Counts.{vars_temps, vars_sizes}
use Rattle.lower_trees.specs.Pieces.{listing}
use Rattle.lower_trees.specs.Initialisers.{low_vars}
use Rattle.lower_trees.specs.View.{shape_of}
use Rattle.lower_trees.proofs.initialisers.variables.Given as goal

abbrev pub invariant-variables : goal.invariant-variables
invariant-variables l = record {
  nodes : map node l.out.nodes.items ++ listing (low_vars (shape_of l.s) (map tvar (drop l.v-index l.vs)) l.out.next (length l.out.locals.items)) ≡ map node l.initial.out.nodes.items ++ listing (low_vars (shape_of l.s) (map tvar l.vs) l.initial.out.next (length l.initial.out.locals.items));
  locals : l.out.locals.items ++ vars_sizes (shape_of l.s) (map tvar (drop l.v-index l.vs)) ≡ l.initial.out.locals.items ++ vars_sizes (shape_of l.s) (map tvar l.vs);
  temps : l.out.next + vars_temps (map tvar (drop l.v-index l.vs)) ≡ l.initial.out.next + vars_temps (map tvar l.vs);
  local : length l.out.locals.items + length (vars_sizes (shape_of l.s) (map tvar (drop l.v-index l.vs))) ≡ length l.initial.out.locals.items + length (vars_sizes (shape_of l.s) (map tvar l.vs));
}
