use Rattle.std.proofs.Common.{◌≡◌, ◌++◌, drop, map}
use Rattle.std.specs.String.{string_bytes}
use Rattle.mid_code.specs.Functions.{function}
use Rattle.mid_text.specs.Text.{functions_text}
use Rattle.mid_text.proofs.program.put_functions.Given as goal

abbrev pub invariant-functions : goal.invariant-functions
invariant-functions l = string_bytes l.out ++ functions_text l.k (map function (drop l.k l.fs)) ≡ string_bytes l.initial.out ++ functions_text 0 (map function l.fs)
