-- What a console is opened with: a cartridge's program, textures and sounds, the script of the gamepads, and the words of
-- the memory card where one is connected.
use Rattle.std.specs.Prelude.{ℕ, List, length, Option, is_some}
use Rattle.asset_pack.specs.Texts.{Image}
use Rattle.cart_format.specs.Cartridge.{Cartridge}
use Rattle.run_files.specs.Script.{Script}
use Rattle.port_bus.specs.State.{Facts}

pub record Setup : Type 0 where
  pub program : List ℕ
  pub textures : List Image
  pub sounds : List (List ℕ)
  pub pads : Script
  pub card : Option (List ℕ)

abbrev pub setup_of : Cartridge → Script → Option (List ℕ) → Setup
setup_of cart pads card = record {
  program = cart.program;
  textures = cart.textures;
  sounds = cart.sounds;
  pads = pads;
  card = card;
}

abbrev pub facts_of : Setup → Facts
facts_of u = record {
  program = length u.program;
  textures = length u.textures;
  sounds = length u.sounds;
  card = is_some u.card;
}
