use Rattle.std.proofs.Common.{◌≡◌, ◌++◌, drop, map}
use Rattle.c_types.specs.View.{function}
use Rattle.c_compile.proofs.naming.names_of.Given as goal

abbrev pub invariant-loop-f : goal.invariant-loop-f
invariant-loop-f l = l.names.items ++ map (λ f. f.name) (map function (drop l.f-index l.functions)) ≡ map (λ f. f.name) (map function l.functions)
