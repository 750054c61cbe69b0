-- What the image of a program is.
use Rattle.std.specs.Prelude.{ℕ, ◌≡◌, ◌≤◌, true, List, map, length, slice_get, Some, None, Ok}
use Rattle.std.specs.List.{AllByRecursion, list_all}
use Rattle.std.specs.Str.{is_utf8}
use Rattle.asm_items.specs.declared.item.AsmItem.{AsmItem}
use Rattle.asm_items.specs.Written.{written}
use Rattle.asm_reader.specs.Readable.{AreReadable}
use Rattle.asm_reader.specs.Reading.{read}
use Rattle.assembler.specs.Faults.{fault_of}
use Rattle.assembler.specs.Placed.{Placed}
use Rattle.assembler.specs.Labels.{address_in}
use Rattle.c_front.specs.Places.{place_at}
use Rattle.c_front.specs.declared.places.Places.{Places}
use Rattle.c_types.specs.Programs.{TFunctionT, ProgramT}
use Rattle.cart_format.specs.Table.{is_table}
use Rattle.cart_format.specs.declared.row.LineTable.{LineTable}
use Rattle.project_text.specs.declared.map.Map.{Map}
use Rattle.asm_laws.specs.Labelled.{label_of_function}
use Rattle.asm_laws.specs.Numbers.{behind}
use Rattle.cycle_bound.specs.Forward.{HasNumber}
use Rattle.pass_laws.specs.Meeting.{DoesAsMeant}
use Rattle.c_image.specs.LoopFree.{IsLoopFree}
use Rattle.c_image.specs.Ordered.{LabelsInOrder}
use Rattle.c_image.specs.Mapping.{map_of}
use Rattle.c_image.specs.Lines.{table_of}
use Rattle.c_image.specs.declared.imaging.Image.{Image}

-- The words of a program, its map, the items whose written form is its assembly text, and its line table.
pub record ImageT : Type 0 where
  pub words : List ℕ
  pub map : Map
  pub items : List AsmItem
  pub table : LineTable

abbrev pub image : Image → ImageT
image i = record {
  words = i.words.items;
  map = i.map;
  items = i.items.items;
  table = record { files = i.files.items; rows = i.rows.items };
}

-- what the map tells of frames and globals
abbrev pub frame_sizes : Map → List ℕ
frame_sizes m = map (λ row. row.2) m.frames

abbrev pub global_addresses : Map → List ℕ
global_addresses m = map (λ row. row.1) m.globals

-- Each function begins at one of these tokens, of which each has a line and stands in a file whose name is a text.
pub record AreStarts (p : ProgramT) (places : Places) (starts : List ℕ) : Type 0 where
  pub each : length starts ≡ length p.functions
  pub few : length starts ≤ 33333
  pub source : is_utf8 places.source ≡ true
  pub texts : list_all is_utf8 places.names ≡ true
  pub lines : AllByRecursion (λ t. 1 ≤ t.line) places.tokens

-- The image of a program whose functions begin at these tokens.
pub record IsImageOf (p : ProgramT) (places : Places) (starts : List ℕ) (i : ImageT) : Type 0 where
  -- the written form of the items reads as them, and the words are those that they are placed as
  pub reads : read (written i.items) ≡ Ok i.items
  -- labels are distinct and all there; registers, ports and numbers are in their ranges
  pub faultless : fault_of i.items ≡ None
  pub readable : AreReadable i.items
  pub labels : List (List ℕ × ℕ)
  pub words : Placed i.items i.words labels
  -- the functions stand in their order, each with an instruction behind its label
  pub ordered : LabelsInOrder (map (λ f. f.name) p.functions) i.items
  -- calls of a function that takes no turns, and calls only such functions, take at most a number of instructions
  pub numbered : (depth n : ℕ) (f : TFunctionT) → slice_get p.functions n ≡ Some f → IsLoopFree p depth f
      → HasNumber i.items (behind i.items (label_of_function f.name))
  -- the map and the line table tell of them
  pub map_is : i.map ≡ map_of p (frame_sizes i.map) (length i.words) (address_in labels)
  pub table_is : i.table ≡ table_of (address_in labels) p.functions (map (place_at places) starts)
  -- with the frames and globals of the map, the words do what the program means
  pub does : DoesAsMeant p (frame_sizes i.map) (global_addresses i.map) i.words
  -- a cartridge may have these words and this table
  pub some : 1 ≤ length i.words
  pub few : length i.words ≤ 33554432
  pub is_table : is_table (length i.words) i.table ≡ true
