use Rattle.std.proofs.Common.{◌≡◌, ◌++◌, map, drop}
use Rattle.obj_mem.specs.Objects.{global_object}
use Rattle.obj_mem.specs.View.{objects}
use Rattle.mid_evaluate.proofs.opening.make_globals.Given as goal

abbrev pub invariant-globals : goal.invariant-globals
invariant-globals l = objects l.os ++ map global_object (drop l.words-index l.globals) ≡ objects l.fn.os ++ map global_object l.globals
