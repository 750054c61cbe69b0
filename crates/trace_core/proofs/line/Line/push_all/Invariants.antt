use Rattle.std.proofs.Common.{◌≡◌, ◌++◌, take}
use Rattle.trace_core.proofs.line.Line.push_all.Given as goal

abbrev pub invariant-bytes : goal.invariant-bytes
invariant-bytes l = l.self ≡ l.fn.self ++ take l.byte-index l.text
