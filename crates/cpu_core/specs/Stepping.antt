-- What a step's end says.
use Rattle.std.specs.Prelude.{ℕ, List, Option, Some, None, ◌≡◌, ◌≢◌, ◌↔◌}
use Rattle.kit_base.specs.declared.event.Event.{Event}
use Rattle.kit_base.specs.declared.event.Event.TheVariants as event
use Rattle.v32_isa.specs.declared.stepped.Stepped.{Stepped}
use Rattle.v32_isa.specs.declared.stepped.Stepped.TheVariants as stepped
use Rattle.v32_isa.specs.State.{State}
use Rattle.v32_isa.specs.Machine.{Effect}
use Rattle.v32_isa.specs.Machine.Effect.{Ends, Asks, Tells}
use Rattle.v32_isa.specs.Runs.{Run, ended, after, run}
use Rattle.v32_isa.specs.Runs.End.{Halted, Starved, Fault, Undecodable}

-- the machine does not go on after a step
abbrev pub Stops : Stepped → Type 0
Stops stepped.Went = ⊥
Stops stepped.Waited = ⊥
Stops stepped.Halted = Unit {0}
Stops stepped.Starved = Unit {0}
Stops (stepped.Fault number) = Unit {0}
Stops (stepped.Undecodable address) = Unit {0}

-- a step starves exactly where it asked a port and the bus gave no answer; the first argument says what the bus does
abbrev pub StarvesRightly : {B : Type 0} → (B → ℕ → Option ℕ → B → Type 0) → Effect → B → Stepped → B → Type 0
StarvesRightly input (Ends how' s) b how c = how ≢ stepped.Starved
StarvesRightly input (Asks register port next s) b how c =
    (answer : Option ℕ) × (input b port answer c × ((how ≡ stepped.Starved) ↔ (answer ≡ None)))
StarvesRightly input (Tells port word next s) b how c = how ≢ stepped.Starved

-- how a run of one step more goes on: the step's end, the state and the answers after it, the event that it made
abbrev pub run_from : Stepped → ℕ → State → List ℕ → Option Event → Run
run_from stepped.Went n s left None = run n s left
run_from stepped.Went n s left (Some e) = after e (run n s left)
run_from stepped.Waited n s left made = after event.Wait (run n s left)
run_from stepped.Halted n s left made = ended Halted s
run_from stepped.Starved n s left made = ended Starved s
run_from (stepped.Fault number) n s left made = ended (Fault number) s
run_from (stepped.Undecodable address) n s left made = ended (Undecodable address) s
