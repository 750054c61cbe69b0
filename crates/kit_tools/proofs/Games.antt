-- From the parts of a run to the whole.
use Rattle.std.proofs.Common.{◌≡◌, inl, refl, sym, ap, subst}
use Rattle.std.specs.Prelude.{Option, Some, None, Result, Ok, Err, IfSome}
use Rattle.kit_base.specs.Held.{Held}
use Rattle.kit_base.specs.declared.failure.Failure.TheVariants as failures
use Rattle.run_core.specs.Outputs.{Names, run_outputs}
use Rattle.kit_tools.specs.Refusal.{Refusal}
use Rattle.kit_tools.specs.declared.shown.Shown.{Shown}
use Rattle.kit_words.specs.Command.{RunWords}
use Rattle.kit_tools.specs.Inputs.{◌>>=◌}
use Rattle.kit_tools.specs.Work.{Work, as_due}
use Rattle.kit_tools.specs.Running.{run_due, run_work, Game, game_due, names_in, IsReadToRun}
use Rattle.kit_tools.specs.Carrying.{IsCarried, Leaves}
use Rattle.kit_tools.proofs.Stages.{cut}

module _ (words : RunWords) (game : Game) where
  abbrev pub WasRead : Option Held → Type 0
  WasRead held = IfSome held (λ m. game_due words m ≡ Ok game)

  abbrev work : Work
  work = run_work (names_in words) game

  is_due : (m : Held) → WasRead (Some m) → run_due words m ≡ Ok work
  is_due m read = ap (λ d. d >>= λ (g : Game). Ok (run_work (names_in words) g)) read

  left_by : (r : Result Shown Refusal) (m : Held) (h2 : Option Held) → WasRead (Some m) → IsCarried work r (Some m) h2
      → Leaves r (run_due words m) (IsReadToRun words m) m h2
  left_by (Ok v) m h2 read done = (work, is_due m read, done.outputs, done.text, done.status)
  left_by (Err e) m h2 read is_cut = cut e work (λ d. run_due words m ≡ as_due d) (IsReadToRun words m) m h2 (is_due m read) is_cut

  pub run_left : (r : Result Shown Refusal) (h0 h1 h2 : Option Held) → WasRead h0 → h1 ≡ h0 → IsCarried work r h1 h2
      → IfSome h0 (λ m. Leaves r (run_due words m) (IsReadToRun words m) m h2)
  run_left r None h1 h2 read same written = tt
  run_left r (Some m) h1 h2 read same written = left_by r m h2 read (subst (λ h. IsCarried work r h h2) same written)

-- memory may run out before the first file is begun
not_begun : (names : Names) (game : Game) (held : Option Held) → IsCarried (run_work names game) (Err failures.Memory) held held
unfolding run_outputs
not_begun names game held = (names.frames, inl (refl, inl refl))

pub not_begun_if : (names : Names) (game : Game) (r : Result Shown Refusal) (held : Option Held) → r ≡ Err failures.Memory → IsCarried (run_work names game) r held held
not_begun_if names game r held e = subst (λ x. IsCarried (run_work names game) x held held) (sym e) (not_begun names game held)
