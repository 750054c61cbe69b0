use Rattle.std.proofs.Common.{◌≡◌, ◌++◌, drop}
use Rattle.std.specs.String.{string_bytes}
use Rattle.mid_text.specs.Text.{further}
use Rattle.mid_text.proofs.pieces.put_further_bytes.Given as goal

abbrev pub invariant-bytes : goal.invariant-bytes
invariant-bytes l = string_bytes l.out ++ further (drop l.byte-index l.bytes) ≡ string_bytes l.initial.out ++ further l.bytes
