use Rattle.std.proofs.Common.{◌≡◌, ◌+◌, ◌≤◌, map, drop}
use Rattle.c_types.specs.View.{tarm, tarms}
use Rattle.lower_trees.specs.Statements.{labels_before_default}
use Rattle.lower_trees.proofs.looping.labels_before_default.Given as goal

abbrev pub invariant-arms : goal.invariant-arms
invariant-arms l = record {
  before : l.count + labels_before_default (tarms (map tarm (drop l.arm-index l.arms))) ≡ labels_before_default (tarms (map tarm l.arms));
  few : l.count ≤ l.arm-index;
}
