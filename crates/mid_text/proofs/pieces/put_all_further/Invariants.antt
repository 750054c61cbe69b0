use Rattle.std.proofs.Common.{◌≡◌, ◌++◌, drop}
use Rattle.std.specs.String.{string_bytes}
use Rattle.mid_text.specs.Text.{further}
use Rattle.mid_text.proofs.pieces.put_all_further.Given as goal

abbrev pub invariant-numbers : goal.invariant-numbers
invariant-numbers l = string_bytes l.out ++ further (drop l.n-index l.ns) ≡ string_bytes l.initial.out ++ further l.ns
