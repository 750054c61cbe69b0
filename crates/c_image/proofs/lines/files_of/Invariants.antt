use Rattle.std.proofs.Common.{◌≡◌, [], drop, map}
use Rattle.c_front.specs.Places.{place_at}
use Rattle.c_image.specs.Lines.{files_behind}
use Rattle.c_image.proofs.lines.files_of.Given as goal

abbrev pub invariant-each : goal.invariant-each
invariant-each l = files_behind l.files.items (map (place_at l.places) (drop l.start-index l.starts)) ≡ files_behind [] (map (place_at l.places) l.starts)
