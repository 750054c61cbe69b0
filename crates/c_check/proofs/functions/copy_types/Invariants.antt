use Rattle.std.proofs.Common.{◌≡◌, ◌++◌, drop, map}
use Rattle.c_types.specs.View.{ctype}
use Rattle.c_check.proofs.functions.copy_types.Given as goal

abbrev pub invariant-loop-ty : goal.invariant-loop-ty
invariant-loop-ty l = map ctype l.found.items ++ map ctype (drop l.ty-index l.types) ≡ map ctype l.types
