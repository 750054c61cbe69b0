use Rattle.std.proofs.Common.{◌≡◌, ◌++◌, take}
use Rattle.std.specs.List.{flat_map}
use Rattle.project_text.specs.MapText.{row_text}
use Rattle.project_text.proofs.map.put_rows.Given as goal

abbrev pub invariant-each : goal.invariant-each
invariant-each l = l.out.items ≡ l.fn.out.items ++ flat_map (row_text l.word) (take l.row-index l.rows)
