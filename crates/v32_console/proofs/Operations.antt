-- The console's operations are those of the machine on the answers that its devices gave.
use Rattle.std.proofs.Common.{ℕ, zero, suc, ◌+◌, ◌≡◌, Bool, true, false, List, [], ◌∷◌, ◌++◌, refl, sym, ap, ◌∙◌, arith}
use Rattle.std.specs.Prelude.{◌==◌}
use Rattle.kit_base.specs.declared.event.Event.{Event}
use Rattle.kit_base.specs.declared.event.Event.TheVariants as event
use Rattle.v32_isa.specs.declared.stepped.Stepped.TheVariants as stepped
use Rattle.v32_isa.specs.State.{State}
use Rattle.v32_isa.specs.Machine.{Effect, effect_of}
use Rattle.v32_isa.specs.Machine.Effect.{Ends, Asks, Tells}
use Rattle.v32_isa.specs.Runs.{Run, run, machine_runs}
use Rattle.v32_isa.specs.Runs as runs
use Rattle.v32_isa.proofs.Endings.{ActsFrom, from_step}
use Rattle.port_history.specs.Past.{Happening, Asked, Told, Mixed}
use Rattle.v32_console.specs.Devices.{answer_at}
use Rattle.v32_console.specs.declared.frame_end.FrameEnd.{FrameEnd}
use Rattle.v32_console.specs.declared.frame_end.FrameEnd.TheVariants.{Full, Waited, Halted, Fault, Undecodable}
use Rattle.v32_console.specs.Setup.{Setup}
use Rattle.v32_console.specs.Moments.{Moment, Phase, Opened, Running, Left, moment, begun, next, next_from, after, went_on, left_by, after_step, after_effect, goes_on, opening_moment, console_at}
use Rattle.v32_console.specs.Machine.{Operations, none, joined, operation, operations_from, operations_of, end_of}

-- one more from the front is one more at the end
pub after_next : (u : Setup) (k : ℕ) (m : Moment) → after u (suc k) m ≡ after u k (next u m)
unfolding after
after_next u zero m = refl
after_next u (suc k) m = ap (next u) (after_next u k m)

-- where the run has ended, nothing follows
module _ (u : Setup) (end : FrameEnd) (s : State) (past : List Happening) (ended : goes_on end ≡ false) where
  stays_next : next u (moment s past (Left end)) ≡ moment s past (Left end)
  unfolding next_from
  stays_next = rw ended refl

  stays_after : (k : ℕ) → after u k (moment s past (Left end)) ≡ moment s past (Left end)
  unfolding after
  stays_after zero = refl
  stays_after (suc k) = ap (next u) (stays_after k) ∙ stays_next

  stays_none : (k : ℕ) → operations_of u k (moment s past (Left end)) ≡ none
  unfolding operations_of
  stays_none zero = refl
  stays_none (suc k) = ap (λ m. joined none (operations_of u k m)) stays_next ∙ ap (joined none) (stays_none k)

abbrev ended_at : List Event → Moment → Run
ended_at events m = record { events = events; end = end_of m.phase; state = m.state }

-- what is to be shown of the next k instructions and edges
abbrev Same : Setup → ℕ → Moment → Type 0
Same u k m = run (operations_of u k m).instructions m.state (operations_of u k m).answers ≡ ended_at (operations_of u k m).events (after u k m)

abbrev Goes : Setup → ℕ → Type 0
Goes u k = (m : Moment) → end_of m.phase ≡ runs.Going → Same u k m

by_test : {P : Type 0} (b : Bool) → (b ≡ true → P) → (b ≡ false → P) → P
by_test true f g = f refl
by_test false f g = g refl

went_state : (done : ℕ) (s : State) (past : List Happening) → (went_on done s past).state ≡ s
unfolding went_on
went_state done s past = by_test (done == 250000) (λ t. rw t refl) (λ t. rw t refl)

went_goes : (done : ℕ) (s : State) (past : List Happening) → end_of (went_on done s past).phase ≡ runs.Going
unfolding went_on
went_goes done s past = by_test (done == 250000) (λ t. rw t refl) (λ t. rw t refl)

-- after an instruction that goes on
went : (u : Setup) (k done : ℕ) (s : State) (past : List Happening) → Goes u k
    → run (operations_of u k (went_on done s past)).instructions s (operations_of u k (went_on done s past)).answers
    ≡ ended_at (operations_of u k (went_on done s past)).events (after u k (went_on done s past))
went u k done s past ih =
    ap (λ t. run (operations_of u k (went_on done s past)).instructions t (operations_of u k (went_on done s past)).answers) (sym (went_state done s past))
    ∙ ih (went_on done s past) (went_goes done s past)

-- after one that ends the run
halted : (u : Setup) (k : ℕ) (end : FrameEnd) (s : State) (past : List Happening) → goes_on end ≡ false
    → ended_at [] (moment s past (Left end)) ≡ ended_at (operations_of u k (moment s past (Left end))).events (after u k (moment s past (Left end)))
halted u k end s past ended = rw (stays_none u end s past ended k, stays_after u end s past ended k) refl

abbrev events_by : Setup → ℕ → State → List Happening → Effect → Operations
events_by u done s past e = operation u (moment s past (Running done)) done e

effect_same : (u : Setup) (k done : ℕ) (s : State) (past : List Happening) (e : Effect) → ActsFrom s e → Goes u k
    → runs.run_effect e ((events_by u done s past e).answers ++ (operations_of u k (after_effect u done e past)).answers) (run (operations_of u k (after_effect u done e past)).instructions)
    ≡ ended_at ((events_by u done s past e).events ++ (operations_of u k (after_effect u done e past)).events) (after u k (after_effect u done e past))
unfolding after_effect after_step
effect_same u k done s past (Ends stepped.Went t) acts ih = went u k (done + 1) t past ih
effect_same u k done s past (Ends stepped.Waited t) acts ih = ap (runs.after event.Wait) (ih (left_by Waited t past) refl)
effect_same u k done s past (Ends stepped.Halted t) acts ih = halted u k Halted t (Mixed ∷ past) refl
effect_same u k done s past (Ends stepped.Starved t) acts ih = absurd acts
effect_same u k done s past (Ends (stepped.Fault number) t) acts ih = halted u k (Fault number t.counter) t (Mixed ∷ past) refl
effect_same u k done s past (Ends (stepped.Undecodable address) t) acts ih = halted u k (Undecodable address) t (Mixed ∷ past) refl
effect_same u k done s past (Asks register port next s') acts ih = ap (runs.after (event.In port (answer_at u past done port))) (went u k (done + 1) _ (Asked port ∷ past) ih)
effect_same u k done s past (Tells port word next s') acts ih = ap (runs.after (event.Out port word)) (went u k (done + 1) _ (Told port word ∷ past) ih)

at_end : (u : Setup) (k : ℕ) (m : Moment) (events : List Event) → ended_at events (after u k (next u m)) ≡ ended_at events (after u (suc k) m)
at_end u k m events = ap (ended_at events) (sym (after_next u k m))

no_more : (n : ℕ) (s : State) (answers : List ℕ) → run (0 + n) s answers ≡ run n s answers
no_more n s answers = ap (λ k. run k s answers) (omega arith)

run_suc : (n : ℕ) (s : State) (answers : List ℕ) → run (suc n) s answers ≡ runs.run_effect (effect_of s) answers (run n)
unfolding run
run_suc n s answers = refl

one_and : (i n : ℕ) → i ≡ 1 → i + n ≡ suc n
one_and i n h = omega (arith, h)

one_more : (i n : ℕ) (s : State) (answers : List ℕ) → i ≡ 1 → run (i + n) s answers ≡ runs.run_effect (effect_of s) answers (run n)
one_more i n s answers h = ap (λ k. run k s answers) (one_and i n h) ∙ run_suc n s answers

pub is_one : (u : Setup) (done : ℕ) (s : State) (past : List Happening) (e : Effect) → (events_by u done s past e).instructions ≡ 1
is_one u done s past (Ends how t) = refl
is_one u done s past (Asks register port next t) = refl
is_one u done s past (Tells port word next t) = refl

-- a frame begins
edge : (u : Setup) (k : ℕ) (phase : Phase) (s : State) (past : List Happening) → operations_from u (moment s past phase) phase ≡ none → next_from u phase s past ≡ begun s past → Goes u k
    → Same u (suc k) (moment s past phase)
unfolding operations_of
edge u k phase s past nothing begins ih =
    let there : after u k (begun s past) ≡ after u (suc k) (moment s past phase) = ap (after u k) (sym begins) ∙ sym (after_next u k (moment s past phase)) in
    rw (nothing, begins) (no_more _ s _ ∙ ih (begun s past) refl ∙ ap (ended_at _) there)

running : (u : Setup) (k done : ℕ) (s : State) (past : List Happening) → Goes u k → Same u (suc k) (moment s past (Running done))
unfolding operations_of next_from
running u k done s past ih =
    one_more (events_by u done s past (effect_of s)).instructions (operations_of u k (after_effect u done (effect_of s) past)).instructions s
    ((events_by u done s past (effect_of s)).answers ++ (operations_of u k (after_effect u done (effect_of s) past)).answers) (is_one u done s past (effect_of s))
    ∙ effect_same u k done s past (effect_of s) (from_step s) ih ∙ at_end u k (moment s past (Running done)) _

same_from : (u : Setup) (k : ℕ) (phase : Phase) (s : State) (past : List Happening) → end_of phase ≡ runs.Going → Goes u k → Same u (suc k) (moment s past phase)
unfolding next_from
same_from u k Opened s past h ih = edge u k Opened s past refl refl ih
same_from u k (Running done) s past h ih = running u k done s past ih
same_from u k (Left Full) s past h ih = edge u k (Left Full) s past refl refl ih
same_from u k (Left Waited) s past h ih = edge u k (Left Waited) s past refl refl ih
same_from u k (Left Halted) s past h ih = absurd cc
same_from u k (Left (Fault number address)) s past h ih = absurd cc
same_from u k (Left (Undecodable address)) s past h ih = absurd cc

same : (u : Setup) (k : ℕ) → Goes u k
unfolding operations_of after run
same u zero m h = ap (λ e. record { events = []; end = e; state = m.state }) (sym h)
same u (suc k) m h = same_from u k m.phase m.state m.past h (same u k)

pub machine_same : (u : Setup) (k : ℕ) → machine_runs u.program (operations_of u k (opening_moment u)).answers u.card (operations_of u k (opening_moment u)).instructions
    ≡ record { events = (operations_of u k (opening_moment u)).events; end = end_of (console_at u k).phase; state = (console_at u k).state }
machine_same u k = same u k (opening_moment u) refl
