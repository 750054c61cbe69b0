-- A run of the machine on more answers.
use Rattle.std.proofs.Common.{ℕ, zero, suc, ◌≡◌, ◌≢◌, List, [], ◌∷◌, ◌++◌, refl, sym, ap, append-nil}
use Rattle.kit_base.specs.declared.event.Event.{Event}
use Rattle.kit_base.specs.declared.event.Event.TheVariants as event
use Rattle.v32_isa.specs.declared.stepped.Stepped.{Stepped}
use Rattle.v32_isa.specs.declared.stepped.Stepped.TheVariants as stepped
use Rattle.v32_isa.specs.State.{State, with_register, going_to}
use Rattle.v32_isa.specs.Machine.{Effect, effect_of}
use Rattle.v32_isa.specs.Machine.Effect.{Ends, Asks, Tells}
use Rattle.v32_isa.specs.Runs.{Run, Starved, after, run, run_stepped, run_effect}
use Rattle.run_laws.specs.Steps.{Begins}

begins_self : (events : List Event) → Begins events events
begins_self events = ([], sym (append-nil events))

begins_after : (e : Event) (front whole : List Event) → Begins front whole → Begins (e ∷ front) (e ∷ whole)
begins_after e front whole h = (h.0, ap (λ (events : List Event). e ∷ events) h.1)

module _ (more : List ℕ) where
  -- a run that lacked no answer is the same

  same_stepped : (how : Stepped) (s : State) (shorter longer : Run) → (shorter.end ≢ Starved → longer ≡ shorter)
      → (run_stepped how s shorter).end ≢ Starved → run_stepped how s longer ≡ run_stepped how s shorter
  same_stepped stepped.Went s shorter longer same h = same h
  same_stepped stepped.Waited s shorter longer same h = ap (after event.Wait) (same h)
  same_stepped stepped.Halted s shorter longer same h = refl
  same_stepped stepped.Starved s shorter longer same h = refl
  same_stepped (stepped.Fault number) s shorter longer same h = refl
  same_stepped (stepped.Undecodable address) s shorter longer same h = refl

  same_effect : (e : Effect) (answers : List ℕ) (go : State → List ℕ → Run)
      → ((s : State) (left : List ℕ) → (go s left).end ≢ Starved → go s (left ++ more) ≡ go s left)
      → (run_effect e answers go).end ≢ Starved → run_effect e (answers ++ more) go ≡ run_effect e answers go
  same_effect (Ends how s) answers go same h = same_stepped how s (go s answers) (go s (answers ++ more)) (same s answers) h
  same_effect (Asks a p next s) [] go same h = absurd (h refl)
  same_effect (Asks a p next s) (word ∷ answers) go same h = ap (after (event.In p word)) (same (going_to next (with_register a word s)) answers h)
  same_effect (Tells p word next s) answers go same h = ap (after (event.Out p word)) (same (going_to next s) answers h)

  pub same_run : (steps : ℕ) (s : State) (answers : List ℕ) → (run steps s answers).end ≢ Starved → run steps s (answers ++ more) ≡ run steps s answers
  unfolding run
  same_run zero s answers h = refl
  same_run (suc steps) s answers h = same_effect (effect_of s) answers (run steps) (same_run steps) h

  -- any run is begun

  begun_stepped : (how : Stepped) (s : State) (shorter longer : Run) → Begins shorter.events longer.events
      → Begins (run_stepped how s shorter).events (run_stepped how s longer).events
  begun_stepped stepped.Went s shorter longer h = h
  begun_stepped stepped.Waited s shorter longer h = begins_after event.Wait shorter.events longer.events h
  begun_stepped stepped.Halted s shorter longer h = begins_self []
  begun_stepped stepped.Starved s shorter longer h = begins_self []
  begun_stepped (stepped.Fault number) s shorter longer h = begins_self []
  begun_stepped (stepped.Undecodable address) s shorter longer h = begins_self []

  begun_effect : (e : Effect) (answers : List ℕ) (go : State → List ℕ → Run)
      → ((s : State) (left : List ℕ) → Begins (go s left).events (go s (left ++ more)).events)
      → Begins (run_effect e answers go).events (run_effect e (answers ++ more) go).events
  begun_effect (Ends how s) answers go begun = begun_stepped how s (go s answers) (go s (answers ++ more)) (begun s answers)
  begun_effect (Asks a p next s) [] go begun = ((run_effect (Asks a p next s) more go).events, refl)
  begun_effect (Asks a p next s) (word ∷ answers) go begun = begins_after (event.In p word) _ _ (begun (going_to next (with_register a word s)) answers)
  begun_effect (Tells p word next s) answers go begun = begins_after (event.Out p word) _ _ (begun (going_to next s) answers)

  pub begun_run : (steps : ℕ) (s : State) (answers : List ℕ) → Begins (run steps s answers).events (run steps s (answers ++ more)).events
  unfolding run
  begun_run zero s answers = ([], refl)
  begun_run (suc steps) s answers = begun_effect (effect_of s) answers (run steps) (begun_run steps)
