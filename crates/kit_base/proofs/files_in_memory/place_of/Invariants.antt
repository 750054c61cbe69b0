use Rattle.std.proofs.Common.{◌≡◌, take}
use Rattle.std.specs.Prelude.{None}
use Rattle.kit_base.specs.Held.{lookup}
use Rattle.kit_base.proofs.files_in_memory.place_of.Given as goal

abbrev pub invariant-loop-at : goal.invariant-loop-at
invariant-loop-at l = lookup l.name (take l.at l.files) ≡ None
