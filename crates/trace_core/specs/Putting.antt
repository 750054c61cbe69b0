-- What was put, while a text is put piece by piece.
use Rattle.std.specs.Prelude.{ℕ, ◌≡◌, List, ◌++◌, take, Option, option_map, Result, Ok, Err}
use Rattle.kit_base.specs.declared.outside.SinkErr.{SinkErr}
use Rattle.v32_isa.specs.Runs.{run}
use Rattle.cpu_core.specs.Machine.{state_of}
use Rattle.trace_core.specs.declared.run.Trace.{Trace}
use Rattle.trace_core.specs.Texts.{run_text}

-- what was put, with that piece behind it, where it is told
abbrev pub putting : List ℕ → Option (List ℕ) → Option (List ℕ)
putting piece before = option_map (λ bytes. bytes ++ piece) before

-- of the whole text all but the rest was put
pub record HasPut (whole rest : List ℕ) (before now : Option (List ℕ)) : Type 0 where
  pub front : List ℕ
  pub is : whole ≡ front ++ rest
  pub put : now ≡ putting front before

-- a front of the text was put
abbrev pub HasPutFront : List ℕ → Option (List ℕ) → Option (List ℕ) → Type 0
HasPutFront whole before now = (count : ℕ) × (now ≡ putting (take count whole) before)

-- the whole text was put, or the sink refused after a front of it
abbrev pub PutsText : {T : Type 0} → List ℕ → Result T SinkErr → Option (List ℕ) → Option (List ℕ) → Type 0
PutsText whole (Ok x) before now = now ≡ putting whole before
PutsText whole (Err e) before now = HasPutFront whole before now

-- the text of a run of so many steps
abbrev pub trace_text : Trace → List ℕ
trace_text t = run_text (run t.steps (state_of t.cpu) t.answers.items)
