-- The rule of a frame as the system specification writes it: a control's value starts at -3,600; as a frame begins, a
-- control that is down goes from a positive value to the lesser of that and one more and 3,600, else to 1, and one that
-- is up from a negative value to the greater of that less one and -3,600, else to -1.
use Rattle.std.specs.Prelude.{◌≡◌, ℕ, ◌+◌, ◌-◌, min, ◌&&◌, nat_lt, nat_le, Bool, true, false, List, if◌then◌else◌}
use Rattle.run_files.specs.declared.pads.PadEvent.{PadEvent}
use Rattle.port_bus.specs.Controls.{is_down_in, control_word}

-- the word of a negative value
abbrev pub minus : ℕ → ℕ
minus n = 4294967296 - n

abbrev pub is_positive : ℕ → Bool
is_positive word = nat_lt 0 word && nat_lt word 0x8000_0000

abbrev pub is_negative : ℕ → Bool
is_negative word = nat_le 0x8000_0000 word

-- the value after a frame's beginning, by whether the control is down then
unfoldable pub value_after : Bool → ℕ → ℕ
value_after true value = if is_positive value then min (value + 1) 3600 else 1
value_after false value = if is_negative value then minus (min (4294967296 - value + 1) 3600) else minus 1

-- a control's words follow the rule
pub record FollowsRule (events : List PadEvent) (pad control : ℕ) : Type 0 where
  pub start : control_word events 0 pad control ≡ minus 3600
  pub frame : (n : ℕ) → control_word events (n + 1) pad control ≡ value_after (is_down_in events n pad control) (control_word events n pad control)
