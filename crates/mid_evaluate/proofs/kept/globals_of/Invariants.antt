use Rattle.std.proofs.Common.{◌≡◌}
use Rattle.obj_mem.specs.Runs.{global_cells}
use Rattle.obj_mem.specs.View.{objects}
use Rattle.mid_evaluate.proofs.kept.globals_of.Given as goal

abbrev pub invariant-objects : goal.invariant-objects
invariant-objects l = l.all.items ≡ global_cells l.k (objects l.os)
