use Rattle.std.proofs.Common.{◌≡◌, ◌+◌, ◌++◌, map, drop}
use Rattle.c_types.specs.View.{ctype}
use Rattle.mid_code.specs.Functions.{node}
use Rattle.lower_trees.specs.Pieces.{listing}
use Rattle.lower_trees.specs.Lowered.{all_received}
use Rattle.lower_trees.specs.View.{shape_of}
use Rattle.lower_trees.proofs.functions.receive_all.Given as goal

abbrev pub invariant-params : goal.invariant-params
invariant-params l = record {
  nodes : map node l.nodes.items ++ listing (all_received (shape_of l.s) (map ctype (drop l.ty-index l.tys)) l.k l.a) ≡ map node l.initial.nodes.items ++ listing (all_received (shape_of l.s) (map ctype l.tys) 0 16);
  k : l.k ≡ l.ty-index;
  a : l.a ≡ 16 + l.ty-index;
}
