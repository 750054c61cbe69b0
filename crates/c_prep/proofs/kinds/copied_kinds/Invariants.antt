use Rattle.std.proofs.Common.{◌≡◌, take}
use Rattle.c_prep.specs.Kinds.{kinds_of}
use Rattle.c_prep.proofs.kinds.copied_kinds.Given as goal

abbrev pub invariant-each : goal.invariant-each
invariant-each l = l.kinds.items ≡ kinds_of (take l.token-index l.tokens)
