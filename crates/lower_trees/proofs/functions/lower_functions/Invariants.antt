use Rattle.std.proofs.Common.{◌≡◌, ◌++◌, map, drop}
use Rattle.c_types.specs.View.{function}
use Rattle.mid_code.specs.Functions.{function as function_of}
use Rattle.lower_trees.specs.ListedFunctions.{low_function, AreFew}
use Rattle.lower_trees.specs.View.{shape_of}
use Rattle.lower_trees.proofs.functions.lower_functions.Given as goal

abbrev pub invariant-functions : goal.invariant-functions
invariant-functions l = record {
  few : AreFew (shape_of l.s) (map function (drop l.f-index l.fs));
  found : map function_of l.found.items ++ map (low_function (shape_of l.s)) (map function (drop l.f-index l.fs)) ≡ map (low_function (shape_of l.s)) (map function l.fs);
}
