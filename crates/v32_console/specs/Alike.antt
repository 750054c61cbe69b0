-- Cartridges of which consoles run alike.
use Rattle.std.specs.Prelude.{◌≡◌, ℕ, List, Option}
use Rattle.cart_format.specs.declared.row.LineTable.{LineTable}
use Rattle.cart_format.specs.Cartridge.{Cartridge}
use Rattle.run_files.specs.Script.{Script}
use Rattle.v32_console.specs.Setup.{Setup, setup_of}
use Rattle.v32_console.specs.Moments.{Moment, console_at, opening_moment}
use Rattle.v32_console.specs.Frames.{frames_of, screen_of, samples_of}

pub record HasSameSections (a b : Cartridge) : Type 0 where
  pub program : a.program ≡ b.program
  pub textures : a.textures ≡ b.textures
  pub sounds : a.sounds ≡ b.sounds

-- the same moments after each number of instructions and frame edges; the same frames, at most so many, with the same screens and samples
pub record RunsAlike (u v : Setup) : Type 0 where
  pub moments : (k : ℕ) → console_at u k ≡ console_at v k
  pub frames : (count : ℕ) → frames_of count u (opening_moment u) ≡ frames_of count v (opening_moment v)
  pub screens : (m : Moment) → screen_of u m ≡ screen_of v m
  pub samples : (m : Moment) → samples_of u m ≡ samples_of v m

-- With the same program, textures and sounds consoles run alike, for all pads and cards.
abbrev pub SameSectionsRunAlike : Type 0
SameSectionsRunAlike =
    (a b : Cartridge) → HasSameSections a b → (pads : Script) (card : Option (List ℕ)) → RunsAlike (setup_of a pads card) (setup_of b pads card)

-- So the line table is nothing to a run, nor the revision, which is whether there is one.
abbrev pub TablesAreNothing : Type 0
TablesAreNothing =
    (cart : Cartridge) (table : Option LineTable) (pads : Script) (card : Option (List ℕ))
    → RunsAlike (setup_of cart pads card) (setup_of (record cart { table = table }) pads card)
