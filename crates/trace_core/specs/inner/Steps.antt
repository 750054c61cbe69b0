-- What one step adds to the text of a run, and what is left of it then.
use Rattle.std.specs.Prelude.{ℕ, List, [], Option, Some, None, Result, Ok, Err}
use Rattle.kit_base.specs.declared.event.Event.{Event}
use Rattle.kit_base.specs.declared.event.Event.TheVariants as event
use Rattle.kit_base.specs.declared.outside.SinkErr.{SinkErr}
use Rattle.v32_isa.specs.declared.stepped.Stepped.{Stepped}
use Rattle.v32_isa.specs.declared.stepped.Stepped.TheVariants as stepped
use Rattle.v32_isa.specs.State.{State}
use Rattle.v32_isa.specs.Runs.{Run, run, ended}
use Rattle.v32_isa.specs.Runs.End.{Halted, Starved, Fault, Undecodable}
use Rattle.trace_core.specs.Texts.{event_line, end_line, run_text}
use Rattle.trace_core.specs.Putting.{HasPut, HasPutFront}

-- the port operation of a step that left that event with the bus
abbrev pub event_of : Stepped → Option Event → Option Event
event_of stepped.Went made = made
event_of stepped.Waited made = Some event.Wait
event_of how made = None

abbrev pub step_text : Option Event → List ℕ
step_text None = []
step_text (Some e) = event_line e

-- the last line, where the run ends with the step
abbrev pub last_line : Stepped → ℕ → Option (List ℕ)
last_line stepped.Went address = None
last_line stepped.Waited address = None
last_line stepped.Halted address = Some (end_line Halted address)
last_line stepped.Starved address = Some (end_line Starved address)
last_line (stepped.Fault number) address = Some (end_line (Fault number) address)
last_line (stepped.Undecodable at) address = Some (end_line (Undecodable at) address)

-- the rest of a run after a step: the steps left, the state and the answers then
abbrev pub rest_of : Stepped → ℕ → State → List ℕ → Run
rest_of stepped.Went n s left = run n s left
rest_of stepped.Waited n s left = run n s left
rest_of stepped.Halted n s left = ended Halted s
rest_of stepped.Starved n s left = ended Starved s
rest_of (stepped.Fault number) n s left = ended (Fault number) s
rest_of (stepped.Undecodable address) n s left = ended (Undecodable address) s

-- of the text of a run the step's line was put, or the sink refused after a front of it
abbrev pub StepPuts : (whole : List ℕ) → Result Stepped SinkErr → ℕ → State → List ℕ → (before now : Option (List ℕ)) → Type 0
StepPuts whole (Ok how) n s left before now = HasPut whole (run_text (rest_of how n s left)) before now
StepPuts whole (Err e) n s left before now = HasPutFront whole before now
