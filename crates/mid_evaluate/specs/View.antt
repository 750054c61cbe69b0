-- What data in memory stand for: settings, states, and what a call keeps of its caller.
use Rattle.std.specs.Prelude.{ℕ, List, get_or, Option, sum}
use Rattle.obj_mem.specs.declared.cell.Cell.{Cell}
use Rattle.obj_mem.specs.declared.cell.Cell.TheVariants.{Unwritten}
use Rattle.obj_mem.specs.View.{objects}
use Rattle.obj_mem.specs.Runs as runs
use Rattle.obj_mem.specs.Stores as stores
use Rattle.obj_mem.specs.Stores.{Sizes}
use Rattle.obj_mem.specs.Worlds as worlds
use Rattle.mid_code.specs.Code.{CodeT}
use Rattle.mid_code.specs.View.{code}
use Rattle.mid_code.specs.Meaning.{Lang}
use Rattle.mid_code.specs.States as states
use Rattle.mid_code.specs.States.{temporaries, sizes_of, over_worlds}
use Rattle.mid_evaluate.specs.declared.answer.Ending.{Ending}
use Rattle.mid_evaluate.specs.declared.answer.Ending.TheVariants as e
use Rattle.mid_evaluate.specs.declared.answer.MidRun.{MidRun}
use Rattle.mid_evaluate.specs.declared.setting.Setting.{Setting}
use Rattle.mid_evaluate.specs.declared.state.Store.{Store}
use Rattle.mid_evaluate.specs.declared.state.World.{World}
use Rattle.mid_evaluate.specs.declared.state.State.{State}
use Rattle.mid_evaluate.specs.declared.calls.Caller.{Caller}
use Rattle.mid_evaluate.specs.declared.calls.Parts.{Parts}

-- ---- answers

abbrev pub ending : Ending → runs.Ending
ending e.Halted = runs.Halted
ending (e.Fault number) = runs.Fault number
ending e.Starved = runs.Starved
ending e.Stray = runs.Stray
ending e.Deep = runs.Deep
ending e.OutOfBound = runs.OutOfBound

abbrev pub run : MidRun → runs.Run
run r = record { events = r.events; end = ending r.end; globals = r.globals; card = r.card; work = r.work }

-- ---- the setting

abbrev pub code_of : Setting → CodeT ℕ
code_of s = code s.of.now

abbrev pub sizes : Setting → Sizes
sizes s = sizes_of (code_of s) s.frames.now

abbrev pub lang : Setting → Lang ℕ
lang s = over_worlds temporaries (code_of s) s.frames.now

-- ---- states

abbrev pub store_of : Store → stores.Store
store_of s = record { objects = objects s.objects; answers = s.answers.now; function = s.function; locals = s.locals.items; used = s.used }

abbrev pub world_of : World → worlds.World
world_of w = record { store = store_of w.store; events = w.events.items; work = w.work }

-- the cells of temporaries: those behind the last one that was written are unwritten
unfoldable pub held : List Cell → ℕ → Cell
held cells q = get_or cells q Unwritten

abbrev pub state_of : State → states.State ℕ
state_of s = record { world = world_of s.world; cells = held s.cells.items; given = s.given }

-- ---- callers

-- what is kept of the state at a call
pub record CallerT : Type 0 where
  pub objects : ℕ
  pub function : Option ℕ
  pub locals : List (Option ℕ)
  pub used : ℕ
  pub cells : ℕ → Cell
  pub given : Cell

abbrev pub caller : Caller → CallerT
caller c = record { objects = c.objects; function = c.function; locals = c.locals.items; used = c.used; cells = held c.cells.items; given = c.given }

-- a call's target, function and arguments
pub record CallT : Type 0 where
  pub target : Option ℕ
  pub function : ℕ
  pub args : List ℕ

abbrev pub parts_of : Parts → CallT
parts_of c = record { target = c.target; function = c.function; args = c.args.now }
