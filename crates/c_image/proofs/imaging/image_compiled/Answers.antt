use Rattle.std.proofs.Common.{rules, ◌≡◌, ◌≤◌, [], length, map}
use Rattle.std.specs.Prelude.{Ok}
use Rattle.asm_items.specs.Written.{written}
use Rattle.asm_reader.specs.Reading.{read}
use Rattle.assembler.specs.Labels.{address_in}
use Rattle.assembler.specs.Placed.{Placed}
use Rattle.c_check.specs.View.{program}
use Rattle.c_compile.specs.Compiling.{compiled}
use Rattle.c_front.specs.Places.{place_at}
use Rattle.c_image.specs.Lines.{files_behind, rows_of}
use Rattle.c_image.specs.Mapping.{map_of}
use Rattle.c_image.proofs.Imaged.{is_image, is_mid}
use Rattle.c_image.proofs.imaging.image_compiled.Goals as goal

pub returns : goal.returns
returns c =
    let words = c.into_vec-words.result.items in
    let labels = c.in_ok-words.field-0.labels in
    let made = compiled c.args.made in
    let stand : Placed made.items words labels = search rules in
    let reads : read (written made.items) ≡ Ok made.items = search rules in
    let few : length words ≤ 33554432 = search rules in
    let map_is : c.in_ok-map.field-0.map ≡ map_of (program c.args.checked.now) made.placed.frames (length words) (address_in labels) = search rules in
    let files : c.in_ok-map.field-0.files.items ≡ files_behind [] (map (place_at c.args.places.now) c.args.starts.now) = search rules in
    let rows : c.in_ok-map.field-0.rows.items ≡ rows_of (address_in labels) (files_behind [] (map (place_at c.args.places.now) c.args.starts.now)) (program c.args.checked.now).functions (map (place_at c.args.places.now) c.args.starts.now) = search rules in
    record {
      image = is_image (program c.args.checked.now) c.args.places.now c.args.starts.now made words labels c.requires.compiled c.requires.starts c.programs_are_sound.ensures.sound stand
          c.in_ok-map.field-0.map map_is _ reads (λ i. record { files = files i; rows = rows i }) few;
      mid = is_mid (program c.args.checked.now) c.args.places.now c.args.starts.now made words labels c.requires.compiled c.requires.starts c.programs_are_sound.ensures.sound stand
          c.in_ok-map.field-0.map map_is _;
    }
