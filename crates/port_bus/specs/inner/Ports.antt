-- The ports of the timer, the random numbers, the gamepads, the cartridge and the memory card: the listed ports that are
-- neither of graphics nor of sound.
use Rattle.std.specs.Prelude.{◌≡◌, ℕ, Bool, true, not, ◌&&◌}
use Rattle.v32_isa.specs.Ports.{is_readable, is_writable}
use Rattle.port_history.specs.Past.{is_graphics_port, is_sound_port}

abbrev pub is_small_port : ℕ → Bool
is_small_port port = not (is_graphics_port port) && not (is_sound_port port)

-- one that answers, and one that takes a word
pub record Answers (port : ℕ) : Type 0 where
  pub listed : is_readable port ≡ true
  pub small : is_small_port port ≡ true

pub record TakesWords (port : ℕ) : Type 0 where
  pub listed : is_writable port ≡ true
  pub small : is_small_port port ≡ true
