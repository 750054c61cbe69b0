use Rattle.std.proofs.Common.{◌≡◌, ◌++◌, drop}
use Rattle.c_image.specs.Mapping.{globals_from}
use Rattle.c_image.proofs.mapping.globals_from.Given as goal

abbrev pub invariant-each : goal.invariant-each
invariant-each l = l.rows.items ++ globals_from l.address (drop l.global-index l.globals) ≡ globals_from 0 l.globals
