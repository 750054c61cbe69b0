use Rattle.std.proofs.Common.{◌≡◌, ◌++◌, length, map}
use Rattle.assembler.specs.Labels.{address_in}
use Rattle.c_types.specs.View.{function}
use Rattle.c_image.specs.Mapping.{frames_at}
use Rattle.c_image.proofs.mapping.frames_at.Given as goal

abbrev pub invariant-each : goal.invariant-each
invariant-each l = l.rows.items ++ frames_at (address_in l.labels) (map function l.left) l.sizes_left ≡ frames_at (address_in l.labels) (map function l.functions) l.sizes

abbrev pub decreases-each : goal.decreases-each
decreases-each l = length l.left
