use Rattle.std.proofs.Common.{◌≡◌, length}
use Rattle.std.specs.Option.{option_map}
use Rattle.run_core.specs.Ending.{or_before, last_row}
use Rattle.run_core.proofs.ending.last_row.Given as goal

abbrev pub invariant-rows : goal.invariant-rows
invariant-rows l = or_before (last_row l.address l.rest) (option_map (λ row. row.now) l.found) ≡ last_row l.address l.rows

abbrev pub decreases-rows : goal.decreases-rows
decreases-rows l = length l.rest
