-- The console from one instruction or frame edge to the next (the system specification, sections on the processor's frames and
-- on the start of the console).
use Rattle.std.specs.Prelude.{ℕ, zero, suc, ◌+◌, ◌==◌, List, [], ◌∷◌, if◌then◌else◌, Bool, true, false, Option, Some, None}
use Rattle.v32_isa.specs.declared.stepped.Stepped.{Stepped}
use Rattle.v32_isa.specs.declared.stepped.Stepped.TheVariants as stepped
use Rattle.v32_isa.specs.State.{State, with_register, going_to}
use Rattle.v32_isa.specs.Machine.{Effect, effect_of}
use Rattle.v32_isa.specs.Machine.Effect.{Ends, Asks, Tells}
use Rattle.v32_isa.specs.Runs.{opening}
use Rattle.port_history.specs.Past.{Happening, Began, Asked, Told, Mixed}
use Rattle.v32_console.specs.declared.frame_end.FrameEnd.{FrameEnd}
use Rattle.v32_console.specs.declared.frame_end.FrameEnd.TheVariants.{Full, Waited, Halted, Fault, Undecodable}
use Rattle.v32_console.specs.Setup.{Setup}
use Rattle.v32_console.specs.Devices.{answer_at}

-- before the first frame; in a frame, after so many of its instructions; or a frame was left, and its sound mixed
pub data Phase : Type 0 where
  Opened : Phase
  Running : ℕ → Phase
  Left : FrameEnd → Phase

pub record Moment : Type 0 where
  pub state : State
  pub past : List Happening
  pub phase : Phase

abbrev pub moment : State → List Happening → Phase → Moment
moment s past phase = record { state = s; past = past; phase = phase }

-- a frame is left: its sound is mixed
abbrev pub left_by : FrameEnd → State → List Happening → Moment
left_by end s past = moment s (Mixed ∷ past) (Left end)

-- an instruction was done, the frame's so manieth: the 250,000th fills it
unfoldable pub went_on : ℕ → State → List Happening → Moment
went_on done s past = if done == 250000 then left_by Full s past else moment s past (Running done)

-- How an instruction leaves its frame: by a wait, and where the run ends. The address of a fault is the program counter, which stays there.
abbrev pub leaves : Stepped → State → Option FrameEnd
leaves stepped.Waited s = Some Waited
leaves stepped.Halted s = Some Halted
leaves (stepped.Fault number) s = Some (Fault number s.counter)
leaves (stepped.Undecodable address) s = Some (Undecodable address)
leaves _ s = None

abbrev pub left_or_on : Option FrameEnd → ℕ → State → List Happening → Moment
left_or_on (Some end) done s past = left_by end s past
left_or_on None done s past = went_on done s past

-- after the frame's instruction of that number
unfoldable pub after_step : Stepped → ℕ → State → List Happening → Moment
after_step how done s past = left_or_on (leaves how s) done s past

-- what an instruction does, after so many of the frame's
unfoldable pub after_effect : Setup → ℕ → Effect → List Happening → Moment
after_effect u done (Ends how s) past = after_step how (done + 1) s past
after_effect u done (Asks register port next s) past =
    went_on (done + 1) (going_to next (with_register register (answer_at u past done port) s)) (Asked port ∷ past)
after_effect u done (Tells port word next s) past = went_on (done + 1) (going_to next s) (Told port word ∷ past)

-- a frame begins
abbrev pub begun : State → List Happening → Moment
begun s past = moment s (Began ∷ past) (Running 0)

-- a further frame follows
abbrev pub goes_on : FrameEnd → Bool
goes_on Full = true
goes_on Waited = true
goes_on Halted = false
goes_on (Fault number address) = false
goes_on (Undecodable address) = false

-- one instruction or one frame edge; where the run has ended, nothing
unfoldable pub next_from : Setup → Phase → State → List Happening → Moment
next_from u Opened s past = begun s past
next_from u (Running done) s past = after_effect u done (effect_of s) past
next_from u (Left end) s past = if goes_on end then begun s past else moment s past (Left end)

abbrev pub next : Setup → Moment → Moment
next u m = next_from u m.phase m.state m.past

-- after so many instructions and frame edges
unfoldable pub after : Setup → ℕ → Moment → Moment
after u zero m = m
after u (suc k) m = next u (after u k m)

abbrev pub opening_moment : Setup → Moment
opening_moment u = moment (opening u.program u.card) [] Opened

-- the console after k instructions and frame edges
abbrev pub console_at : Setup → ℕ → Moment
console_at u k = after u k (opening_moment u)
