-- What a status 0 says of `bounds`.
use Rattle.std.specs.Prelude.{ℕ, ◌≡◌, List, map, slice_get, Option, Some, Ok, IsSomeAnd}
use Rattle.std.specs.FinMap.{get}
use Rattle.std.specs.List.{AllZip}
use Rattle.kit_base.specs.Held.{Held}
use Rattle.kit_base.specs.Effects.{all_done}
use Rattle.kit_base.specs.Outside.{due}
use Rattle.asm_items.specs.Written.{written}
use Rattle.asm_reader.specs.Reading.{read}
use Rattle.cart_format.specs.Cartridge.{Cartridge}
use Rattle.cart_format.specs.Reading.{cart_of}
use Rattle.project_text.specs.MapText.{map_text}
use Rattle.project_text.specs.declared.map.Map.{Map}
use Rattle.c_types.specs.Programs.{TFunctionT}
use Rattle.c_meaning.specs.Runs.{c_runs}
use Rattle.c_image.specs.Imaging.{frame_sizes, global_addresses}
use Rattle.c_image.specs.LoopFree.{IsLoopFree}
use Rattle.cycle_bound.specs.declared.bound.Bound.{Bound}
use Rattle.cycle_bound.specs.declared.bound.Bound.TheVariants.{Unbounded}
use Rattle.cycle_bound.specs.Lines.{bound_lines}
use Rattle.cycle_bound.specs.Staying.{StayWithin}
use Rattle.cycle_bound.specs.Told.{IsBoundOf}
use Rattle.build_core.specs.declared.building.Built.{Built}
use Rattle.build_core.specs.Build.{IsBuilt}
use Rattle.kit_words.specs.Command.{Bounds, command_of}
use Rattle.kit_core.specs.Due.{bounds_effects, function_names}
use Rattle.kit_core.specs.Outcome.{putting}

-- the addresses of a map's functions, in its order
abbrev pub function_addresses : Map → List ℕ
function_addresses m = map (λ row. row.1) m.frames

-- The project was held. Its cartridge, its map and its program's assembly text stand, with every other file as before. The text reads as items, and a
-- line was put for each function of the map, in its order, with the bound that it has among them. A function of the source that takes no turns, and
-- calls only such functions, is not without a number. In each run of the cartridge that those bytes are, calls of the functions of the map stay within their
-- bounds, as far as the run does what the project's source means.
pub record IsBoundedInto (project cart map_name text_name : List ℕ) (held : Held) (after : Option Held) (before put : Option (List ℕ)) : Type 0 where
  pub text : List ℕ
  pub built : Built
  pub project_is : due held project ≡ Ok text
  pub is_built : IsBuilt held text built
  pub outputs : after ≡ all_done (bounds_effects cart map_name text_name built) (Some held)
  pub cart_stands : IsSomeAnd after (λ files. get files cart ≡ Some built.cart)
  pub map_stands : IsSomeAnd after (λ files. get files map_name ≡ Some (map_text built.map))
  pub text_stands : IsSomeAnd after (λ files. get files text_name ≡ Some (written built.items))
  pub reads : read (written built.items) ≡ Ok built.items
  pub bounds : List Bound
  pub exact : AllZip (IsBoundOf built.items) (function_names built.map) bounds
  pub numbered : (depth n : ℕ) (f : TFunctionT) → slice_get is_built.of.program.functions n ≡ Some f → IsLoopFree is_built.of.program depth f
      → slice_get bounds n ≡ Some Unbounded → ⊥
  pub told : put ≡ putting (bound_lines (function_names built.map) bounds) before
  pub cartridge : Cartridge
  pub cartridge_is : cart_of built.cart ≡ Ok cartridge
  pub stay : StayWithin (global_addresses built.map) (c_runs is_built.of.program (frame_sizes built.map)) cartridge.program
      (function_addresses built.map) bounds

-- where the words are `bounds`, it was carried out
abbrev pub BoundsStand : List (List ℕ) → Held → Option Held → (before put : Option (List ℕ)) → Type 0
BoundsStand words held after before put =
    (project cart map_name text_name : List ℕ) → command_of words ≡ Some (Bounds project cart map_name text_name)
    → IsBoundedInto project cart map_name text_name held after before put
