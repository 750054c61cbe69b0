-- What the map and the line table tell by labels in a table.
use Rattle.std.proofs.Common.{◌≡◌, ℕ, ◌<◌, ◌^◌, List, [], length, map, ap, ◌∙◌, arith}
use Rattle.std.proofs.lemmas.List.{length-map}
use Rattle.assembler.specs.Labels.{address_in}
use Rattle.c_front.specs.Places.{Place, place_at}
use Rattle.c_front.specs.declared.places.Places.{Places}
use Rattle.c_types.specs.Programs.{TFunctionT, ProgramT}
use Rattle.cart_format.specs.declared.row.LineRow.{LineRow}
use Rattle.project_text.specs.declared.map.Map.{Map}
use Rattle.c_image.specs.inner.Labels.{added}
use Rattle.c_image.specs.Lines.{files_behind, rows_of}
use Rattle.c_image.specs.Mapping.{map_of}
use Rattle.c_image.proofs.Added.{same_addresses}
use Rattle.c_image.proofs.Files.{few_files}

module _ (table labels : List (List ℕ × ℕ)) (is : table ≡ added [] labels) where
  same : address_in table ≡ address_in labels
  same = ap address_in is ∙ same_addresses labels

  pub map_told : (p : ProgramT) (sizes : List ℕ) (count : ℕ) (m : Map) → m ≡ map_of p sizes count (address_in table) → m ≡ map_of p sizes count (address_in labels)
  map_told p sizes count m h = h ∙ ap (λ (at : List ℕ → ℕ). map_of p sizes count at) same

  pub rows_told : (files others : List (List ℕ)) (fs gs : List TFunctionT) (os : List Place) (rows : List LineRow) → files ≡ others → fs ≡ gs → rows ≡ rows_of (address_in table) files fs os
      → rows ≡ rows_of (address_in labels) others gs os
  rows_told files others fs gs os rows f g h = h ∙ (λ i. rows_of (same i) (f i) (g i) os)

pub few_told : (places : Places) (starts : List ℕ) (files : List (List ℕ)) → files ≡ files_behind [] (map (place_at places) starts) → length starts < 2 ^ 32 → length files < 2 ^ 32
few_told places starts files is few =
    let behind = few_files (map (place_at places) starts) [] in
    let same = length-map starts (place_at places) in
    let here = ap length is in
    omega (arith, behind, same, here, few)
