-- The script of the gamepads: the date and the time of day in seconds, which pads are connected, and the events in
-- the order of their frames.
use Rattle.std.specs.Prelude.{◌≡◌, ℕ, ◌≤◌, ◌/◌, ◌%◌, ◌^◌, ◌&&◌, ◌==◌, nat_lt, Bool, true, List, [], ◌∷◌, All}
use Rattle.run_files.specs.declared.pads.PadEvent.{PadEvent}

pub record Script : Type 0 where
  pub date : ℕ
  pub time : ℕ
  pub connected : ℕ
  pub events : List PadEvent

-- pad p is connected where bit p is set; there are four pads
unfoldable pub is_connected : ℕ → ℕ → Bool
is_connected connected pad = nat_lt pad 4 && (connected / 2 ^ pad) % 2 == 1

-- an event of one of 3,600 frames, of a connected pad, and of one of its eleven controls
pub record IsEvent (connected : ℕ) (e : PadEvent) : Type 0 where
  pub frame : e.frame ≤ 3599
  pub pad : is_connected connected e.pad ≡ true
  pub control : e.control ≤ 10

-- the frames begin with this one or a later one, and do not fall
abbrev pub NeverFall : ℕ → List PadEvent → Type 0
NeverFall frame [] = Unit {0}
NeverFall frame (e ∷ es) = (frame ≤ e.frame) × NeverFall e.frame es

pub record IsScript (s : Script) : Type 0 where
  pub time : s.time ≤ 86399
  pub connected : s.connected ≤ 15
  pub events : All (IsEvent s.connected) s.events
  pub order : NeverFall 0 s.events
