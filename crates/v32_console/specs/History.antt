-- The port operations of a console's history, and those of a run of the machine.
use Rattle.std.specs.Prelude.{◌≡◌, ℕ, ◌+◌, List, [], ◌∷◌, ◌++◌}
use Rattle.kit_base.specs.declared.event.Event.{Event}
use Rattle.kit_base.specs.declared.event.Event.TheVariants as event
use Rattle.v32_isa.specs.Runs.{Run, machine_runs}
use Rattle.port_history.specs.Past.{Happening, Began, Asked, Told, Mixed}
use Rattle.v32_console.specs.Setup.{Setup}
use Rattle.v32_console.specs.Machine.{Operations, joined, operations_from, operations_of, end_of}
use Rattle.v32_console.specs.Moments.{console_at, opening_moment}

-- a history's reads and writes of ports, the first one first
abbrev pub ports_used : List Happening → List Happening
ports_used [] = []
ports_used (Began ∷ past) = ports_used past
ports_used (Asked port ∷ past) = ports_used past ++ Asked port ∷ []
ports_used (Told port word ∷ past) = ports_used past ++ Told port word ∷ []
ports_used (Mixed ∷ past) = ports_used past

-- a run's reads and writes of ports, without what was answered
abbrev pub ports_used_by : List Event → List Happening
ports_used_by [] = []
ports_used_by (event.Wait ∷ events) = ports_used_by events
ports_used_by (event.In port word ∷ events) = Asked port ∷ ports_used_by events
ports_used_by (event.Out port word ∷ events) = Told port word ∷ ports_used_by events

-- reads and writes with the answers of the reads
abbrev pub answered : List Happening → (answers : List ℕ) → List Event
answered [] answers = []
answered (Began ∷ used) answers = answered used answers
answered (Asked port ∷ used) [] = []
answered (Asked port ∷ used) (word ∷ answers) = event.In port word ∷ answered used answers
answered (Told port word ∷ used) answers = event.Out port word ∷ answered used answers
answered (Mixed ∷ used) answers = answered used answers

abbrev pub without_waits : List Event → List Event
without_waits [] = []
without_waits (event.Wait ∷ events) = without_waits events
without_waits (event.In port word ∷ events) = event.In port word ∷ without_waits events
without_waits (event.Out port word ∷ events) = event.Out port word ∷ without_waits events

-- those of the first k instructions and frame edges of the console
abbrev pub operations_at : Setup → ℕ → Operations
operations_at u k = operations_of u k (opening_moment u)

-- the machine's run on the answers that the devices gave up to there
abbrev pub run_at : Setup → ℕ → Run
run_at u k = machine_runs u.program (operations_at u k).answers u.card (operations_at u k).instructions

-- The history after k instructions and frame edges has the reads and writes of the machine's run.
abbrev pub HistoryIsTheRuns : Type 0
HistoryIsTheRuns = (u : Setup) (k : ℕ) → ports_used (console_at u k).past ≡ ports_used_by (run_at u k).events

-- With the devices' answers, the history's reads and writes are the run's.
abbrev pub RunIsTheHistorys : Type 0
RunIsTheHistorys = (u : Setup) (k : ℕ) → without_waits (run_at u k).events ≡ answered (ports_used (console_at u k).past) (operations_at u k).answers

-- One instruction or frame edge more adds its operation, whose answer is the devices' for the history before it.
abbrev pub OperationsGoOn : Type 0
OperationsGoOn = (u : Setup) (k : ℕ) → operations_at u (k + 1) ≡ joined (operations_at u k) (operations_from u (console_at u k) (console_at u k).phase)

-- After every number of instructions, with the answers that the devices gave, the machine is where the console is after some instructions and frame edges.
abbrev pub RunsAreMoments : Type 0
RunsAreMoments =
    (u : Setup) (instructions : ℕ) → (k : ℕ) × (machine_runs u.program (operations_at u k).answers u.card instructions
    ≡ record { events = (operations_at u k).events; end = end_of (console_at u k).phase; state = (console_at u k).state })
