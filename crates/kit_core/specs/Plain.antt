-- A run with no gamepad connected and no memory card, and its clear colour at the end.
use Rattle.std.specs.Prelude.{ℕ, List, [], None, codes}
use Rattle.cart_format.specs.Cartridge.{Cartridge}
use Rattle.run_files.specs.Script.{Script}
use Rattle.gpu_state.specs.Settings.{clear_color}
use Rattle.v32_console.specs.Setup.{Setup, setup_of}
use Rattle.run_core.specs.Outputs.{last_moment}

-- the pads file of the date 0, the time 0 and no pad, without events
abbrev pub plain_pads_text : List ℕ
plain_pads_text = codes "pads 0 0 0\n"

-- the script that it tells
abbrev pub plain_pads : Script
plain_pads = record { date = 0; time = 0; connected = 0; events = [] }

-- a console with that cartridge, that script and no memory card
abbrev pub plain_setup : Cartridge → Setup
plain_setup cart = setup_of cart plain_pads None

-- the clear colour after a run of at most so many frames, as it was written last
abbrev pub color_after : Setup → ℕ → ℕ
color_after u count = clear_color (last_moment u count).past
