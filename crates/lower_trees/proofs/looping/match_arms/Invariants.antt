use Rattle.std.proofs.Common.{◌≡◌, ◌≤◌, ◌++◌, map, drop}
use Rattle.c_types.specs.View.{tarm, tarms}
use Rattle.mid_code.specs.Functions.{node}
use Rattle.lower_trees.specs.Pieces.{listing}
use Rattle.lower_trees.specs.Statements.{low_match}
use Rattle.lower_trees.proofs.looping.match_arms.Given as goal

abbrev pub invariant-arms : goal.invariant-arms
invariant-arms l = record {
  nodes : map node l.nodes.items ++ listing (low_match l.t l.i l.before (tarms (map tarm (drop l.arm-index l.arms)))) ≡ map node l.initial.nodes.items ++ listing (low_match l.t 0 l.before (tarms (map tarm l.arms)));
  few : l.i ≤ l.arm-index;
}
