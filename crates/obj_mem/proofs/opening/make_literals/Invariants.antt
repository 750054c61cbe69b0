use Rattle.std.proofs.Common.{◌≡◌, ◌++◌, map, drop}
use Rattle.obj_mem.specs.Objects.{literal_object}
use Rattle.obj_mem.specs.View.{objects}
use Rattle.obj_mem.proofs.opening.make_literals.Given as goal

abbrev pub invariant-literals : goal.invariant-literals
invariant-literals l = objects l.os ++ map literal_object (drop l.text-index l.literals) ≡ objects l.fn.os ++ map literal_object l.literals
