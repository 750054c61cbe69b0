-- Runs of programs.
use Rattle.std.specs.Prelude.{ℕ, ◌+◌, ◌≡◌, List, [], ◌++◌, length, map, Option}
use Rattle.kit_base.specs.declared.event.Event.{Event}
use Rattle.c_types.specs.View.{tstmts}
use Rattle.c_types.specs.Programs.{ProgramT}
use Rattle.obj_mem.specs.declared.cell.Cell.TheVariants.{Unwritten}
use Rattle.obj_mem.specs.Worlds.{World, spend}
use Rattle.obj_mem.specs.Runs.{Ending, Run, Meaning, opening_world, run_ended}
use Rattle.obj_mem.specs.Runs as run
use Rattle.c_meaning.specs.declared.end.End.{End}
use Rattle.c_meaning.specs.declared.end.End.TheVariants.{Halted, Fault, Starved, Stray, Deep, OutOfBound}
use Rattle.c_meaning.specs.Outcomes.{Val, Value, Place, NoValue, Stops, Done, Goes, Breaks, Continues, Returns, Ended, nowhere}
use Rattle.c_meaning.specs.Setting.{setting}
use Rattle.c_meaning.specs.Expressions.{call}
use Rattle.c_meaning.specs.Statements.{does_all, below}

-- how a run has ended, and the world then
pub record Final : Type 0 where
  pub end : End
  pub world : World

abbrev pub final : End → World → Final
final end w = record { end = end; world = w }

-- when main has returned, the program has halted
abbrev pub main_done : Val → Final
main_done (Value c w) = final Halted w
main_done (Place p w) = final Halted w
main_done (NoValue w) = final Halted w
main_done (Stops end w) = final end w

-- the call of main counts as one piece of work
abbrev pub main_called : ProgramT → (frames : List ℕ) → (bound : ℕ) → World → Final
main_called p frames n w = main_done (call (setting p frames) n (below (setting p frames) n) p.main [] nowhere (spend 1 w))

-- Nothing but the end of the run leaves the initialisers of globals.
abbrev pub inits_done : Done → (World → Final) → Final
inits_done (Goes w) go = go w
inits_done (Breaks w) go = final (Stray nowhere) w
inits_done (Continues w) go = final (Stray nowhere) w
inits_done (Returns c w) go = final (Stray nowhere) w
inits_done (Ended end w) go = final end w

abbrev pub opening : ProgramT → (answers : List ℕ) → (card : Option (List ℕ)) → World
opening p answers card = opening_world (map (λ g. g.1) p.globals) p.literals answers card

-- The initialisers of the globals, and then a call of main, all with the bound.
abbrev pub final_of : ProgramT → (frames : List ℕ) → (bound : ℕ) → (answers : List ℕ) → (card : Option (List ℕ)) → Final
final_of p frames n answers card =
    inits_done (does_all (setting p frames) n (below (setting p frames) n) Unwritten (tstmts p.inits) (opening p answers card)) (main_called p frames n)

-- ---- what is seen of a run

-- the end without its place in the source
abbrev pub ending : End → Ending
ending Halted = run.Halted
ending (Fault number) = run.Fault number
ending Starved = run.Starved
ending (Stray span) = run.Stray
ending (Deep span) = run.Deep
ending OutOfBound = run.OutOfBound

abbrev pub run_of : ProgramT → Final → Run
run_of p x = run_ended (length p.globals) (length p.globals + length p.literals) (ending x.end) x.world

-- what a program means, where the frames of its functions have these sizes
abbrev pub c_runs : ProgramT → (frames : List ℕ) → Meaning
c_runs p frames n answers card = run_of p (final_of p frames n answers card)

-- ---- a law of the bound

-- Where the shorter run is out of bound, the longer one has its port operations and more; else it is the same.
abbrev pub ExtendsFrom : End → Final → Final → Type 0
ExtendsFrom OutOfBound shorter longer = (more : List Event) × (longer.world.events ≡ shorter.world.events ++ more)
ExtendsFrom Halted shorter longer = longer ≡ shorter
ExtendsFrom (Fault number) shorter longer = longer ≡ shorter
ExtendsFrom Starved shorter longer = longer ≡ shorter
ExtendsFrom (Stray span) shorter longer = longer ≡ shorter
ExtendsFrom (Deep span) shorter longer = longer ≡ shorter

abbrev pub Extends : Final → Final → Type 0
Extends shorter longer = ExtendsFrom shorter.end shorter longer

-- a larger bound extends the run
abbrev pub LargerBoundsExtend : Type 0
LargerBoundsExtend =
    (p : ProgramT) (frames : List ℕ) (answers : List ℕ) (card : Option (List ℕ)) (n : ℕ)
    → Extends (final_of p frames n answers card) (final_of p frames (n + 1) answers card)
