-- What the parts of a build and of a play answer and leave, each by itself. Only private functions cite this.
use Rattle.std.specs.Prelude.{ℕ, ◌≡◌, List, Ok}
use Rattle.cart_format.specs.Reading.{cart_of}
use Rattle.project_text.specs.MapText.{map_text}
use Rattle.build_core.specs.declared.building.Built.{Built}
use Rattle.kit_core.specs.declared.building.Outputs.{Outputs}
use Rattle.kit_tools.specs.declared.running.Loaded.{Loaded}
use Rattle.kit_tools.specs.declared.running.LoadedSettings.{LoadedSettings}
use Rattle.kit_tools.specs.Running.{game_with}
use Rattle.kit_tools.specs.Gaming.{game_of, settings_of}

-- the names of a build's outputs and the bytes of its map, made before
pub record AreOutputs (cart map_name : List ℕ) (b : Built) (o : Outputs) : Type 0 where
  pub cart_name : o.cart_name ≡ cart
  pub map_is : o.map_name ≡ map_name
  pub map_bytes : o.map_bytes.items ≡ map_text b.map

-- what is run is the cartridge that was built, with these settings
pub record IsGameOf (b : Built) (s : LoadedSettings) (g : Loaded) : Type 0 where
  pub cart_is : cart_of b.cart ≡ Ok g.cart
  pub game_is : game_of g ≡ game_with g.cart (settings_of s)
