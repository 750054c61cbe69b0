-- What the ports answer (the system specification, sections on the timer, the random number generator, the gamepads, the
-- cartridge and the memory card). The frame's number is that of the frames that began, less one.
use Rattle.std.specs.Prelude.{ℕ, ◌+◌, ◌-◌, ◌/◌, ◌%◌, ◌==◌, ◌&&◌, nat_le, Bool, List, if◌then◌else◌}
use Rattle.run_files.specs.Script.{Script, is_connected}
use Rattle.port_history.specs.Past.{Happening, last_accepted, frames_begun}
use Rattle.port_bus.specs.Controls.{control_word}
use Rattle.port_bus.specs.Random.{seed, reads, random_after}
use Rattle.port_bus.specs.State.{Facts}

-- a gamepad's number
abbrev pub is_pad : ℕ → Bool
is_pad word = nat_le word 3

-- the selected gamepad, 0 at first
abbrev pub selected_pad : List Happening → ℕ
selected_pad past = last_accepted 0x400 is_pad 0 past

abbrev pub one_where : Bool → ℕ
one_where b = if b then 1 else 0

-- the date, the time of day in seconds, the frame's number, the instructions done in this frame
unfoldable pub timer_answer : Script → ℕ → ℕ → ℕ → ℕ
timer_answer script frame cycles port =
    if port == 0x000 then script.date
    else (if port == 0x001 then (script.time + frame / 60) % 86400
    else (if port == 0x002 then frame
    else cycles))

-- the selected gamepad, whether it is connected, and its eleven controls, from 0x402 on in the order of their numbers
unfoldable pub pad_answer : Script → ℕ → ℕ → ℕ → ℕ
pad_answer script frames selected port =
    if port == 0x400 then selected
    else (if port == 0x401 then one_where (is_connected script.connected selected)
    else control_word script.events frames selected (port - 0x402))

-- the cartridge is connected; its program's words, its textures, its sounds; whether the memory card is connected
unfoldable pub cartridge_answer : Facts → ℕ → ℕ
cartridge_answer facts port =
    if port == 0x500 then 1
    else (if port == 0x501 then facts.program
    else (if port == 0x502 then facts.textures
    else (if port == 0x503 then facts.sounds
    else one_where facts.card)))

-- after so many frames began, by the selected gamepad and the next random value
unfoldable pub answer_of : Script → Facts → ℕ → ℕ → ℕ → ℕ → ℕ → ℕ
answer_of script facts frames selected random cycles port =
    if nat_le port 0x003 then timer_answer script (frames - 1) cycles port
    else (if port == 0x100 then random
    else (if nat_le 0x400 port && nat_le port 0x40C then pad_answer script frames selected port
    else cartridge_answer facts port))

-- the answer of a port that is asked after this past, so many instructions after the frame's beginning
abbrev pub small_answer : Script → Facts → List Happening → ℕ → ℕ → ℕ
small_answer script facts past cycles port =
    answer_of script facts (frames_begun past) (selected_pad past) (random_after (seed past) (reads past + 1)) cycles port
