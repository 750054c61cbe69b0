use Rattle.std.proofs.Common.{◌≡◌}
use Rattle.gen_source.specs.Source.{function_lines}
use Rattle.gen_source.proofs.text.functions.Given as goal

abbrev pub invariant-lines : goal.invariant-lines
invariant-lines l = l.out.items ≡ function_lines l.k
