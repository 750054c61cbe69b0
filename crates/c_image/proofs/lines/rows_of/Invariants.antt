use Rattle.std.proofs.Common.{◌≡◌, ◌++◌, length, map}
use Rattle.assembler.specs.Labels.{address_in}
use Rattle.c_types.specs.View.{function}
use Rattle.c_front.specs.Places.{place_at}
use Rattle.c_image.specs.Lines.{rows_of}
use Rattle.c_image.proofs.lines.rows_of.Given as goal

abbrev pub invariant-each : goal.invariant-each
invariant-each l =
    l.rows.items ++ rows_of (address_in l.labels) l.files (map function l.left) (map (place_at l.places) l.starts_left)
    ≡ rows_of (address_in l.labels) l.files (map function l.functions) (map (place_at l.places) l.starts)

abbrev pub decreases-each : goal.decreases-each
decreases-each l = length l.left
