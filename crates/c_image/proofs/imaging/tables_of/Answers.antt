use Rattle.std.proofs.Common.{rules, ◌≡◌, [], map}
use Rattle.c_check.specs.View.{program}
use Rattle.c_front.specs.Places.{place_at}
use Rattle.c_image.specs.Lines.{files_behind}
use Rattle.c_image.proofs.Told.{map_told, rows_told, few_told}
use Rattle.c_image.proofs.imaging.tables_of.Goals as goal

pub rows_of-requires-clause-few : goal.rows_of-requires-clause-few
rows_of-requires-clause-few c =
    let files : c.deref.result.now ≡ files_behind [] (map (place_at c.args.places.now) c.args.starts.now) = search rules in
    few_told c.args.places.now c.args.starts.now c.deref.result.now files c.requires.few

pub returns-clause-map : goal.returns-clause-map
returns-clause-map c =
    map_told _ c.args.labels.now c.in_ok-table.ensures.labels (program c.args.checked.now) c.args.sizes.now c.args.count c.in_ok-map.map c.in_ok-map.ensures

pub returns-clause-rows : goal.returns-clause-rows
returns-clause-rows c =
    let files : c.deref.result.now ≡ files_behind [] (map (place_at c.args.places.now) c.args.starts.now) = search rules in
    rows_told _ c.args.labels.now c.in_ok-table.ensures.labels c.deref.result.now _ _ _ _ c.in_ok-rows.rows.items files c.functions.ensures.functions c.in_ok-rows.ensures
