-- What a console has done is what the words have done, and so a part of what is meant.
use Rattle.std.proofs.Common.{ℕ, ◌≡◌, ◌≤◌, ◌⊎◌, inl, inr, List, subst}
use Rattle.v32_isa.specs.Runs.{machine_runs}
use Rattle.v32_isa.specs.Runs as machine
use Rattle.obj_mem.specs.Runs.{Ending, Halted, Fault, Starved, Stray, Deep, OutOfBound, Run, Meaning, IsCard}
use Rattle.mid_code.specs.Agrees.{AgreesWithin}
use Rattle.v32_console.specs.declared.frame_end.FrameEnd.TheVariants as frame
use Rattle.v32_console.specs.Setup.{Setup}
use Rattle.v32_console.specs.Moments.{Phase, Opened, Running, Left, console_at}
use Rattle.v32_console.specs.Machine.{end_of}
use Rattle.v32_console.specs.History.{operations_at}
use Rattle.v32_console.proofs.Operations.{machine_same}
use Rattle.run_laws.specs.Steps.{Begins, HasBegun, HasMade, HasDone}
use Rattle.run_laws.proofs.Backward.{meant}
use Rattle.play_laws.specs.Played.{RefinesBy, Refines, played}

-- no instruction of a console is without an answer
pub never_starved : (phase : Phase) → end_of phase ≡ machine.Starved → ⊥
never_starved Opened e = absurd cc
never_starved (Running done) e = absurd cc
never_starved (Left frame.Full) e = absurd cc
never_starved (Left frame.Waited) e = absurd cc
never_starved (Left frame.Halted) e = absurd cc
never_starved (Left (frame.Fault number address)) e = absurd cc
never_starved (Left (frame.Undecodable address)) e = absurd cc

module _ (run : Run) (bound steps : ℕ) (runs : ℕ → machine.Run) (so_far : machine.Run) (same : runs steps ≡ so_far)
    (answered : so_far.end ≡ machine.Starved → ⊥) (le : steps ≤ bound) where
  begun : HasBegun run (runs steps) → HasBegun run so_far
  begun h = subst (HasBegun run) same h

  or_made : (end : machine.End) → HasBegun run (runs steps) ⊎ HasMade end run (runs steps) → HasBegun run so_far ⊎ HasMade end run so_far
  or_made end h = subst (λ r. HasBegun run r ⊎ HasMade end run r) same h

  or_behind : HasBegun run (runs steps) ⊎ Begins run.events (runs steps).events → HasBegun run so_far ⊎ Begins run.events so_far.events
  or_behind h = subst (λ r. HasBegun run r ⊎ Begins run.events r.events) same h

  not_starved : HasBegun run (runs steps) ⊎ HasMade machine.Starved run (runs steps) → HasBegun run so_far
  not_starved h = elim (or_made machine.Starved h) [ inl way ↦ way | inr here ↦ absurd (answered here.ended) ]

  by_end : (end : Ending) → HasDone end bound run runs steps → RefinesBy end run so_far
  by_end Halted h = or_made machine.Halted h.so_far
  by_end (Fault number) h = or_made (machine.Fault number) h.so_far
  by_end Starved h = not_starved h.so_far
  by_end OutOfBound h = begun (h le)
  by_end Stray h = or_behind h.so_far
  by_end Deep h = or_behind h.so_far

pub plays : (times : ℕ) (addresses : List ℕ) (meaning : Meaning) (u : Setup) → AgreesWithin times addresses meaning u.program → IsCard u.card
    → (k bound : ℕ) → (operations_at u k).instructions ≤ bound → Refines (meaning bound (operations_at u k).answers u.card) (played u k)
plays times addresses meaning u agrees is k bound le =
    let run : Run = meaning bound (operations_at u k).answers u.card in
    by_end run bound (operations_at u k).instructions (machine_runs u.program (operations_at u k).answers u.card) (played u k) (machine_same u k)
    (never_starved (console_at u k).phase) le run.end
    (meant times addresses meaning u.program agrees bound (operations_at u k).answers u.card is (operations_at u k).instructions)
