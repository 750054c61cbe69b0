-- The console as the machine on a list of port answers: what its instructions asked and told.
use Rattle.std.specs.Prelude.{ℕ, zero, suc, ◌+◌, List, [], ◌∷◌, ◌++◌}
use Rattle.kit_base.specs.declared.event.Event.{Event}
use Rattle.kit_base.specs.declared.event.Event.TheVariants as event
use Rattle.v32_isa.specs.declared.stepped.Stepped.{Stepped}
use Rattle.v32_isa.specs.declared.stepped.Stepped.TheVariants as stepped
use Rattle.v32_isa.specs.Machine.{Effect, effect_of}
use Rattle.v32_isa.specs.Machine.Effect.{Ends, Asks, Tells}
use Rattle.v32_isa.specs.Runs as runs
use Rattle.v32_console.specs.declared.frame_end.FrameEnd.TheVariants.{Full, Waited, Halted, Fault, Undecodable}
use Rattle.v32_console.specs.Setup.{Setup}
use Rattle.v32_console.specs.Devices.{answer_at}
use Rattle.v32_console.specs.Moments.{Moment, Phase, Opened, Running, Left, next}

-- instructions, their port operations in order, and the answers that they got
pub record Operations : Type 0 where
  pub instructions : ℕ
  pub events : List Event
  pub answers : List ℕ

abbrev pub none : Operations
none = record { instructions = 0; events = []; answers = [] }

abbrev pub joined : Operations → Operations → Operations
joined a b = record { instructions = a.instructions + b.instructions; events = a.events ++ b.events; answers = a.answers ++ b.answers }

abbrev pub one : List Event → List ℕ → Operations
one events answers = record { instructions = 1; events = events; answers = answers }

abbrev pub waits : Stepped → List Event
waits stepped.Waited = event.Wait ∷ []
waits _ = []

-- those of an instruction, after so many of the frame's
abbrev pub operation : Setup → Moment → ℕ → Effect → Operations
operation u m done (Ends how s) = one (waits how) []
operation u m done (Asks register port next s) = one (event.In port (answer_at u m.past done port) ∷ []) (answer_at u m.past done port ∷ [])
operation u m done (Tells port word next s) = one (event.Out port word ∷ []) []

-- those of one instruction or frame edge
abbrev pub operations_from : Setup → Moment → Phase → Operations
operations_from u m Opened = none
operations_from u m (Running done) = operation u m done (effect_of m.state)
operations_from u m (Left end) = none

-- those of the next k instructions and frame edges
unfoldable pub operations_of : Setup → ℕ → Moment → Operations
operations_of u zero m = none
operations_of u (suc k) m = joined (operations_from u m m.phase) (operations_of u k (next u m))

-- how the machine has ended, or that it is still going
abbrev pub end_of : Phase → runs.End
end_of Opened = runs.Going
end_of (Running done) = runs.Going
end_of (Left Full) = runs.Going
end_of (Left Waited) = runs.Going
end_of (Left Halted) = runs.Halted
end_of (Left (Fault number address)) = runs.Fault number
end_of (Left (Undecodable address)) = runs.Undecodable address
