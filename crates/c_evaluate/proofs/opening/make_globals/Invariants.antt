use Rattle.std.proofs.Common.{◌≡◌, ◌++◌, map, drop}
use Rattle.obj_mem.specs.Objects.{global_object}
use Rattle.obj_mem.specs.View.{objects}
use Rattle.c_evaluate.proofs.opening.make_globals.Given as goal

abbrev pub invariant-globals : goal.invariant-globals
invariant-globals l = objects l.os ++ map (λ g. global_object g.1) (drop l.g-index l.globals) ≡ objects l.fn.os ++ map (λ g. global_object g.1) l.globals
