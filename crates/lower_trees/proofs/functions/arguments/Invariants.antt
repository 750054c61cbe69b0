use Rattle.std.proofs.Common.{◌≡◌, ◌+◌, ◌++◌, map, drop}
use Rattle.c_types.specs.View.{ctype}
use Rattle.lower_trees.specs.Expressions.{led}
use Rattle.lower_trees.specs.Lowered.{args_from}
use Rattle.lower_trees.proofs.functions.arguments.Given as goal

abbrev pub invariant-params : goal.invariant-params
invariant-params l = record {
  spots : l.spots.items ++ args_from l.a (map ctype (drop l._ty-index l.tys)) ≡ led (ctype l.gives) 8 ++ args_from 16 (map ctype l.tys);
  a : l.a ≡ 16 + l._ty-index;
}
