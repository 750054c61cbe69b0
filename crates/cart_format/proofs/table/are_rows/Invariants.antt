use Rattle.std.proofs.Common.{◌≡◌, length}
use Rattle.cart_format.specs.Table.{are_rows}
use Rattle.cart_format.proofs.table.are_rows.Given as goal

abbrev pub invariant-each : goal.invariant-each
invariant-each l = are_rows l.files l.least l.end l.rest ≡ are_rows l.files l.fn.least l.end l.rows

abbrev pub decreases-each : goal.decreases-each
decreases-each l = length l.rest
