-- Runs of the machine on a list of port answers, from its opening state (the system specification, section on
-- the start of the console).
use Rattle.std.specs.Prelude.{ℕ, zero, suc, ◌-◌, ◌≡◌, List, [], ◌∷◌, ◌++◌, Option, Some, None, is_some, if◌then◌else◌, nat_lt, length, slice_index}
use Rattle.kit_base.specs.declared.event.Event.{Event}
use Rattle.kit_base.specs.declared.event.Event.TheVariants as event
use Rattle.v32_isa.specs.declared.stepped.Stepped.{Stepped}
use Rattle.v32_isa.specs.declared.stepped.Stepped.TheVariants as stepped
use Rattle.v32_isa.specs.State.{State, with_register, going_to}
use Rattle.v32_isa.specs.Machine.{Effect, effect_of}
use Rattle.v32_isa.specs.Machine.Effect.{Ends, Asks, Tells}

-- how a run has ended, or that it is still going
pub data End : Type 0 where
  Going : End
  Halted : End
  Fault : ℕ → End
  Starved : End
  Undecodable : ℕ → End

-- the port operations of a run in order, its end, and the state then
pub record Run : Type 0 where
  pub events : List Event
  pub end : End
  pub state : State

abbrev pub ended : End → State → Run
ended end s = record { events = []; end = end; state = s }

-- a run with an event before it
abbrev pub after : Event → Run → Run
after e r = record r { events = e ∷ r.events }

-- how a run goes on after a step that asked no port: the step's end, the state, the rest of the run
abbrev pub run_stepped : Stepped → State → Run → Run
run_stepped stepped.Went s rest = rest
run_stepped stepped.Waited s rest = after event.Wait rest
run_stepped stepped.Halted s rest = ended Halted s
run_stepped stepped.Starved s rest = ended Starved s
run_stepped (stepped.Fault number) s rest = ended (Fault number) s
run_stepped (stepped.Undecodable address) s rest = ended (Undecodable address) s

-- how a run goes on: a port that is asked gives the first answer left, and with none left the run has ended
abbrev pub run_effect : Effect → List ℕ → (State → List ℕ → Run) → Run
run_effect (Ends how s) answers go = run_stepped how s (go s answers)
run_effect (Asks a p next s) [] go = ended Starved s
run_effect (Asks a p next s) (word ∷ answers) go = after (event.In p word) (go (going_to next (with_register a word s)) answers)
run_effect (Tells p word next s) answers go = after (event.Out p word) (go (going_to next s) answers)

-- at most so many steps from a state, with these answers left
unfoldable pub run : ℕ → State → List ℕ → Run
run zero s answers = ended Going s
run (suc steps) s answers = run_effect (effect_of s) answers (run steps)

-- the word of a card that may not be connected
abbrev pub card_word : Option (List ℕ) → ℕ → ℕ
card_word None place = 0
card_word (Some words) place = slice_index words place

-- RAM opens as zeros, with the program from 0x20000000 and the card from 0x30000000
unfoldable pub opening_memory : List ℕ → Option (List ℕ) → ℕ → ℕ
opening_memory words card address =
    if nat_lt address 0x20000000 then 0
    else (if nat_lt address 0x30000000 then slice_index words (address - 0x20000000)
    else card_word card (address - 0x30000000))

-- the stack pointer opens at the end of RAM, the other registers as 0
abbrev pub opening_registers : List ℕ
opening_registers = 0 ∷ 0 ∷ 0 ∷ 0 ∷ 0 ∷ 0 ∷ 0 ∷ 0 ∷ 0 ∷ 0 ∷ 0 ∷ 0 ∷ 0 ∷ 0 ∷ 0 ∷ 0x400000 ∷ []

-- the state with this program and card, before the first instruction
abbrev pub opening : List ℕ → Option (List ℕ) → State
opening words card = record {
  counter = 0x20000000;
  registers = opening_registers;
  memory = opening_memory words card;
  program_length = length words;
  has_card = is_some card;
}

-- at most so many steps of a program on these answers, with this card
abbrev pub machine_runs : (words answers : List ℕ) (card : Option (List ℕ)) → ℕ → Run
machine_runs words answers card steps = run steps (opening words card) answers

-- where the shorter run is going the longer one has its events and more, else it is the same
abbrev pub ExtendsFrom : End → Run → Run → Type 0
ExtendsFrom Going shorter longer = (more : List Event) × (longer.events ≡ shorter.events ++ more)
ExtendsFrom Halted shorter longer = longer ≡ shorter
ExtendsFrom (Fault number) shorter longer = longer ≡ shorter
ExtendsFrom Starved shorter longer = longer ≡ shorter
ExtendsFrom (Undecodable address) shorter longer = longer ≡ shorter

abbrev pub Extends : Run → Run → Type 0
Extends shorter longer = ExtendsFrom shorter.end shorter longer
