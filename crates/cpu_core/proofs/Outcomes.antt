-- What follows of a step from what it did.
use Rattle.std.proofs.Common.{ℕ, suc, ◌≡◌, ◌≢◌, ◌↔◌, Option, Some, None, List, [], ◌∷◌, refl, sym, ◌∙◌, ap}
use Rattle.v32_isa.specs.declared.stepped.Stepped.{Stepped}
use Rattle.v32_isa.specs.declared.stepped.Stepped.TheVariants.{Went, Waited, Halted, Starved, Fault, Undecodable}
use Rattle.v32_isa.specs.State.{State}
use Rattle.v32_isa.specs.Machine.{Effect, Acts, Answered, Steps, effect_of}
use Rattle.v32_isa.specs.Machine.Effect.{Ends, Asks, Tells}
use Rattle.v32_isa.specs.Runs.{run, run_effect, run_stepped}
use Rattle.v32_isa.proofs.Endings.{ActsFrom, EndsFrom, from_step}
use Rattle.v32_isa.proofs.Steps.{run-suc}
use Rattle.cpu_core.specs.Answers.{Answers, AnswersFrom, Answering, Telling}
use Rattle.cpu_core.specs.Stepping.{Stops, StarvesRightly, run_from}

-- what a bus does
abbrev Inputs : Type 0 → Type 1
Inputs B = B → ℕ → Option ℕ → B → Type 0

abbrev Outputs : Type 0 → Type 1
Outputs B = B → ℕ → ℕ → B → Type 0

never_starved : (how : Stepped) (s t : State) → EndsFrom how s t → how ≢ Starved
never_starved Went s t h = λ e. cc
never_starved Waited s t h = λ e. cc
never_starved Halted s t h = λ e. cc
never_starved Starved s t h = absurd h
never_starved (Fault number) s t h = λ e. cc
never_starved (Undecodable address) s t h = λ e. cc

went_on : (how : Stepped) → how ≡ Went → how ≢ Starved
went_on how e f = cc

answered : (answer : Option ℕ) (a next : ℕ) (m : State) (how : Stepped) (t : State) → Answered answer a next m how t → (how ≡ Starved) ↔ (answer ≡ None)
answered None a next m how t h = ((λ e. refl), (λ e. h.0))
answered (Some word) a next m how t h = ((λ e. absurd (went_on how h.0 e)), (λ e. absurd cc))

starves : {B : Type 0} (input : Inputs B) (output : Outputs B) (s : State) (e : Effect) (b : B) (how : Stepped) (t : State) (c : B) →
    ActsFrom s e → Acts input output e b how t c → StarvesRightly input e b how c
starves input output s (Ends ending m) b how t c from h = λ e. never_starved ending s m from (sym h.0 ∙ e)
starves input output s (Asks a p next m) b how t c from (answer, (gives, h)) = (answer, (gives, answered answer a next m how t h))
starves input output s (Tells p word next m) b how t c from h = went_on how h.1

pub starves_rightly : {B : Type 0} (input : Inputs B) (output : Outputs B) (s : State) (b : B) (how : Stepped) (t : State) (c : B) →
    Steps input output s b how t c → StarvesRightly input (effect_of s) b how c
starves_rightly input output s b how t c h = starves input output s (effect_of s) b how t c (from_step s) h

ended_there : (how : Stepped) (s t : State) → EndsFrom how s t → Stops how → t ≡ s
ended_there Went s t h stops = absurd stops
ended_there Waited s t h stops = absurd stops
ended_there Halted s t h stops = h
ended_there Starved s t h stops = absurd h
ended_there (Fault number) s t h stops = h
ended_there (Undecodable address) s t h stops = h

stays : {B : Type 0} (input : Inputs B) (output : Outputs B) (s : State) (e : Effect) (b : B) (how : Stepped) (t : State) (c : B) →
    ActsFrom s e → Acts input output e b how t c → Stops how → t ≡ s
stays input output s (Ends ending m) b how t c from h stops = h.1 ∙ ended_there ending s m from (rw h.0 at stops)
stays input output s (Asks a p next m) b how t c from (None, (gives, h)) stops = h.1 ∙ from
stays input output s (Asks a p next m) b how t c from (Some word, (gives, h)) stops = absurd (rw h.0 at stops)
stays input output s (Tells p word next m) b how t c from h stops = absurd (rw h.1 at stops)

-- a step after which the machine does not go on changes nothing
pub stays_where_stopped : {B : Type 0} (input : Inputs B) (output : Outputs B) (s : State) (b : B) (how : Stepped) (t : State) (c : B) →
    Steps input output s b how t c → Stops how → t ≡ s
stays_where_stopped input output s b how t c h stops = stays input output s (effect_of s) b how t c (from_step s) h stops

halts : {B : Type 0} (input : Inputs B) (output : Outputs B) (s : State) (e : Effect) (b : B) (how : Stepped) (t : State) (c : B) →
    effect_of s ≡ e → ActsFrom s e → Acts input output e b how t c → how ≡ Halted → effect_of t ≡ Ends Halted t
halts input output s (Ends ending m) b how t c e from h halted =
    let is_halted : ending ≡ Halted = sym h.0 ∙ halted in
    let there : t ≡ s = h.1 ∙ ended_there ending s m from (rw is_halted tt) in
    ap effect_of there ∙ e ∙ ap (λ x. Ends x m) is_halted ∙ ap (Ends Halted) (sym h.1)
halts input output s (Asks a p next m) b how t c e from (None, (gives, h)) halted = absurd cc
halts input output s (Asks a p next m) b how t c e from (Some word, (gives, h)) halted = absurd cc
halts input output s (Tells p word next m) b how t c e from h halted = absurd cc

-- a step that halts leaves the machine where it halts again
pub stays_on_halt : {B : Type 0} (input : Inputs B) (output : Outputs B) (s : State) (b : B) (how : Stepped) (t : State) (c : B) →
    Steps input output s b how t c → how ≡ Halted → effect_of t ≡ Ends Halted t
stays_on_halt input output s b how t c h halted = halts input output s (effect_of s) b how t c refl (from_step s) h halted

ends_run : (how : Stepped) (n : ℕ) (t : State) (left : List ℕ) → run_stepped how t (run n t left) ≡ run_from how n t left None
ends_run Went n t left = refl
ends_run Waited n t left = refl
ends_run Halted n t left = refl
ends_run Starved n t left = refl
ends_run (Fault number) n t left = refl
ends_run (Undecodable address) n t left = refl

asks_run : (left : List ℕ) (n a p next : ℕ) (m t : State) (b c : Answers) (how : Stepped) (answer : Option ℕ) → b.made ≡ None →
    AnswersFrom left b p answer c → Answered answer a next m how t →
    run_effect (Asks a p next m) left (run n) ≡ run_from how n t c.left c.made
asks_run [] n a p next m t b c how None none f h = rw (h.0, h.1) refl
asks_run [] n a p next m t b c how (Some word) none f h = absurd cc
asks_run (x ∷ xs) n a p next m t b c how None none f h = absurd cc
asks_run (x ∷ xs) n a p next m t b c how (Some word) none f h = let same : word ≡ x = cc in rw (h.0, h.1, f.1, same) refl

effect_run : (e : Effect) (n : ℕ) (t : State) (b c : Answers) (how : Stepped) → b.made ≡ None → Acts Answering Telling e b how t c →
    run_effect e b.left (run n) ≡ run_from how n t c.left c.made
effect_run (Ends ending m) n t b c how none h = rw (h.0, h.1, h.2, none) (ends_run ending n m b.left)
effect_run (Asks a p next m) n t b c how none (answer, (gives, h)) = asks_run b.left n a p next m t b c how answer none gives h
effect_run (Tells p word next m) n t b c how none h = rw (h.1, h.2, h.0) refl

-- a run of one step more is the event of a step, and the run from there
pub run_of_step : (n : ℕ) (s t : State) (b c : Answers) (how : Stepped) → b.made ≡ None → Steps Answering Telling s b how t c →
    run (suc n) s b.left ≡ run_from how n t c.left c.made
run_of_step n s t b c how none h = run-suc n s b.left ∙ effect_run (effect_of s) n t b c how none h
