-- The history of a console and the operations of its run.
use Rattle.std.proofs.Common.{ℕ, zero, suc, ◌+◌, ◌≤◌, ◌≡◌, ◌⊎◌, inl, inr, Bool, true, false, List, [], ◌∷◌, ◌++◌, refl, sym, ap, ◌∙◌, arith, append_assoc, append-nil}
use Rattle.std.specs.Prelude.{◌==◌}
use Rattle.kit_base.specs.declared.event.Event.{Event}
use Rattle.kit_base.specs.declared.event.Event.TheVariants as event
use Rattle.v32_isa.specs.declared.stepped.Stepped.{Stepped}
use Rattle.v32_isa.specs.declared.stepped.Stepped.TheVariants as stepped
use Rattle.v32_isa.specs.State.{State}
use Rattle.v32_isa.specs.Machine.{Effect, effect_of}
use Rattle.v32_isa.specs.Machine.Effect.{Ends, Asks, Tells}
use Rattle.v32_isa.specs.Runs.{Run, opening, machine_runs}
use Rattle.v32_isa.specs.Runs as runs
use Rattle.v32_isa.proofs.LongerRuns.{run_stays}
use Rattle.port_history.specs.Past.{Happening, Asked, Told}
use Rattle.v32_console.specs.declared.frame_end.FrameEnd.TheVariants.{Full, Waited, Halted, Fault, Undecodable}
use Rattle.v32_console.specs.Setup.{Setup}
use Rattle.v32_console.specs.Moments.{Moment, Phase, Opened, Running, Left, begun, next, next_from, after, went_on, after_step, after_effect, goes_on, opening_moment, console_at}
use Rattle.v32_console.specs.Machine.{Operations, none, joined, waits, operation, operations_from, operations_of, end_of}
use Rattle.v32_console.specs.History.{ports_used, ports_used_by, answered, without_waits, operations_at, run_at, HistoryIsTheRuns, RunIsTheHistorys, OperationsGoOn, RunsAreMoments}
use Rattle.v32_console.proofs.Operations.{after_next, machine_same}

-- ---- operations, one more at the end

operations : ℕ → List Event → List ℕ → Operations
operations n events answers = record { instructions = n; events = events; answers = answers }

none_joined : (a : Operations) → joined a none ≡ joined none a
unfolding operations
none_joined a =
    let n : a.instructions + 0 ≡ 0 + a.instructions = omega arith in
    ap (λ (k : ℕ). operations k (a.events ++ []) (a.answers ++ [])) n
    ∙ ap (λ (es : List Event). operations (0 + a.instructions) es (a.answers ++ [])) (append-nil a.events)
    ∙ ap (λ (ws : List ℕ). operations (0 + a.instructions) a.events ws) (append-nil a.answers)

joined_assoc : (a b c : Operations) → joined a (joined b c) ≡ joined (joined a b) c
unfolding operations
joined_assoc a b c =
    let n : a.instructions + (b.instructions + c.instructions) ≡ a.instructions + b.instructions + c.instructions = omega arith in
    ap (λ (k : ℕ). operations k (a.events ++ (b.events ++ c.events)) (a.answers ++ (b.answers ++ c.answers))) n
    ∙ ap (λ (es : List Event). operations (a.instructions + b.instructions + c.instructions) es (a.answers ++ (b.answers ++ c.answers))) (sym (append_assoc a.events b.events c.events))
    ∙ ap (λ (ws : List ℕ). operations (a.instructions + b.instructions + c.instructions) ((a.events ++ b.events) ++ c.events) ws) (sym (append_assoc a.answers b.answers c.answers))

abbrev of_moment : Setup → Moment → Operations
of_moment u m = operations_from u m m.phase

one_more : (u : Setup) (k : ℕ) (m : Moment) → operations_of u (suc k) m ≡ joined (operations_of u k m) (of_moment u (after u k m))
unfolding operations_of after
one_more u zero m = none_joined (of_moment u m)
one_more u (suc k) m =
    ap (joined (of_moment u m)) (one_more u k (next u m))
    ∙ joined_assoc (of_moment u m) (operations_of u k (next u m)) (of_moment u (after u k (next u m)))
    ∙ ap (λ (x : Moment). joined (joined (of_moment u m) (operations_of u k (next u m))) (of_moment u x)) (sym (after_next u k m))

pub operations_go_on : OperationsGoOn
operations_go_on u k = let e : k + 1 ≡ suc k = omega arith in rw e (one_more u k (opening_moment u))

-- ---- the history

used-append : (a b : List Event) → ports_used_by (a ++ b) ≡ ports_used_by a ++ ports_used_by b
used-append [] b = refl
used-append (event.Wait ∷ a) b = used-append a b
used-append (event.In port word ∷ a) b = ap (λ (xs : List Happening). Asked port ∷ xs) (used-append a b)
used-append (event.Out port word ∷ a) b = ap (λ (xs : List Happening). Told port word ∷ xs) (used-append a b)

by_test : {P : Type 0} (b : Bool) → (b ≡ true → P) → (b ≡ false → P) → P
by_test true f g = f refl
by_test false f g = g refl

went_used : (done : ℕ) (s : State) (past : List Happening) → ports_used (went_on done s past).past ≡ ports_used past
unfolding went_on
went_used done s past = by_test (done == 250000) (λ t. rw t refl) (λ t. rw t refl)

same_used : (past : List Happening) → ports_used past ≡ ports_used past ++ []
same_used past = sym (append-nil (ports_used past))

step_used : (how : Stepped) (done : ℕ) (s : State) (past : List Happening) → ports_used (after_step how done s past).past ≡ ports_used past ++ ports_used_by (waits how)
unfolding after_step
step_used stepped.Went done s past = went_used done s past ∙ same_used past
step_used stepped.Waited done s past = same_used past
step_used stepped.Halted done s past = same_used past
step_used stepped.Starved done s past = went_used done s past ∙ same_used past
step_used (stepped.Fault number) done s past = same_used past
step_used (stepped.Undecodable address) done s past = same_used past

effect_used : (u : Setup) (m : Moment) (done : ℕ) (e : Effect) → ports_used (after_effect u done e m.past).past ≡ ports_used m.past ++ ports_used_by (operation u m done e).events
unfolding after_effect
effect_used u m done (Ends how s) = step_used how (done + 1) s m.past
effect_used u m done (Asks register port next s) = went_used (done + 1) _ (Asked port ∷ m.past)
effect_used u m done (Tells port word next s) = went_used (done + 1) _ (Told port word ∷ m.past)

next_used_from : (u : Setup) (m : Moment) (phase : Phase) → ports_used (next_from u phase m.state m.past).past ≡ ports_used m.past ++ ports_used_by (operations_from u m phase).events
unfolding next_from
next_used_from u m Opened = same_used m.past
next_used_from u m (Running done) = effect_used u m done (effect_of m.state)
next_used_from u m (Left end) = by_test (goes_on end) (λ t. rw t (same_used m.past)) (λ t. rw t (same_used m.past))

used_so_far : (u : Setup) (k : ℕ) → ports_used (console_at u k).past ≡ ports_used_by (operations_at u k).events
unfolding operations_of after
used_so_far u zero = refl
used_so_far u (suc k) =
    let m : Moment = console_at u k in
    next_used_from u m m.phase
    ∙ ap (λ (xs : List Happening). xs ++ ports_used_by (of_moment u m).events) (used_so_far u k)
    ∙ sym (used-append (operations_at u k).events (of_moment u m).events)
    ∙ ap (λ (o : Operations). ports_used_by o.events) (sym (one_more u k (opening_moment u)))

-- the operations are the run's
run_events : (u : Setup) (k : ℕ) → (run_at u k).events ≡ (operations_at u k).events
run_events u k = ap (λ (r : Run). r.events) (machine_same u k)

pub history : HistoryIsTheRuns
history u k = used_so_far u k ∙ ap ports_used_by (sym (run_events u k))

-- ---- the answers are those of the reads

abbrev words_read : List Event → List ℕ
words_read [] = []
words_read (event.Wait ∷ events) = words_read events
words_read (event.In port word ∷ events) = word ∷ words_read events
words_read (event.Out port word ∷ events) = words_read events

read-append : (a b : List Event) → words_read (a ++ b) ≡ words_read a ++ words_read b
read-append [] b = refl
read-append (event.Wait ∷ a) b = read-append a b
read-append (event.In port word ∷ a) b = ap (λ (ws : List ℕ). word ∷ ws) (read-append a b)
read-append (event.Out port word ∷ a) b = read-append a b

waits_read : (how : Stepped) → words_read (waits how) ≡ []
waits_read stepped.Went = refl
waits_read stepped.Waited = refl
waits_read stepped.Halted = refl
waits_read stepped.Starved = refl
waits_read (stepped.Fault number) = refl
waits_read (stepped.Undecodable address) = refl

effect_read : (u : Setup) (m : Moment) (done : ℕ) (e : Effect) → (operation u m done e).answers ≡ words_read (operation u m done e).events
effect_read u m done (Ends how s) = sym (waits_read how)
effect_read u m done (Asks register port next s) = refl
effect_read u m done (Tells port word next s) = refl

moment_read : (u : Setup) (m : Moment) (phase : Phase) → (operations_from u m phase).answers ≡ words_read (operations_from u m phase).events
moment_read u m Opened = refl
moment_read u m (Running done) = effect_read u m done (effect_of m.state)
moment_read u m (Left end) = refl

answers_read : (u : Setup) (k : ℕ) (m : Moment) → (operations_of u k m).answers ≡ words_read (operations_of u k m).events
unfolding operations_of
answers_read u zero m = refl
answers_read u (suc k) m =
    ap (λ (ws : List ℕ). ws ++ (operations_of u k (next u m)).answers) (moment_read u m m.phase)
    ∙ ap (λ (ws : List ℕ). words_read (of_moment u m).events ++ ws) (answers_read u k (next u m))
    ∙ sym (read-append (of_moment u m).events (operations_of u k (next u m)).events)

answered_again : (events : List Event) → without_waits events ≡ answered (ports_used_by events) (words_read events)
answered_again [] = refl
answered_again (event.Wait ∷ events) = answered_again events
answered_again (event.In port word ∷ events) = ap (λ (es : List Event). event.In port word ∷ es) (answered_again events)
answered_again (event.Out port word ∷ events) = ap (λ (es : List Event). event.Out port word ∷ es) (answered_again events)

pub run_of_history : RunIsTheHistorys
run_of_history u k =
    let o : Operations = operations_at u k in
    ap without_waits (run_events u k)
    ∙ answered_again o.events
    ∙ ap (λ (xs : List Happening). answered xs (words_read o.events)) (sym (used_so_far u k))
    ∙ ap (λ (ws : List ℕ). answered (ports_used (console_at u k).past) ws) (sym (answers_read u k (opening_moment u)))

-- ---- every number of instructions is reached, or the run has ended before

abbrev Reaches : Setup → ℕ → Type 0
Reaches u n = (k : ℕ) × (((operations_at u k).instructions ≡ n) ⊎ (((operations_at u k).instructions ≤ n) × (end_of (console_at u k).phase ≡ runs.Going → ⊥)))

more_instructions : (u : Setup) (k : ℕ) → (operations_at u (suc k)).instructions ≡ (operations_at u k).instructions + (of_moment u (console_at u k)).instructions
more_instructions u k = ap (λ (o : Operations). o.instructions) (one_more u k (opening_moment u))

is_one : (u : Setup) (m : Moment) (done : ℕ) (e : Effect) → (operation u m done e).instructions ≡ 1
is_one u m done (Ends how s) = refl
is_one u m done (Asks register port next s) = refl
is_one u m done (Tells port word next s) = refl

running_adds : (u : Setup) (k done n : ℕ) → (console_at u k).phase ≡ Running done → (operations_at u k).instructions ≡ n → (operations_at u (suc k)).instructions ≡ n + 1
running_adds u k done n is at =
    let m : Moment = console_at u k in
    let one : (operations_from u m m.phase).instructions ≡ 1 = ap (λ (phase : Phase). (operations_from u m phase).instructions) is ∙ is_one u m done (effect_of m.state) in
    let more = more_instructions u k in omega arith

begins_next : (u : Setup) (k : ℕ) (phase : Phase) (n : ℕ) → (console_at u k).phase ≡ phase → next_from u phase (console_at u k).state (console_at u k).past ≡ begun (console_at u k).state (console_at u k).past
    → (operations_from u (console_at u k) phase).instructions ≡ 0 → (operations_at u k).instructions ≡ n → Reaches u (n + 1)
unfolding after
begins_next u k phase n is begins nothing at =
    let m : Moment = console_at u k in
    let no : (operations_from u m m.phase).instructions ≡ 0 = ap (λ (x : Phase). (operations_from u m x).instructions) is ∙ nothing in
    let more = more_instructions u k in
    let there : (operations_at u (suc k)).instructions ≡ n = omega arith in
    let runs_on : (console_at u (suc k)).phase ≡ Running 0 = ap (λ (x : Moment). x.phase) (ap (λ (x : Phase). next_from u x m.state m.past) is ∙ begins) in
    (suc (suc k), inl (running_adds u (suc k) 0 n runs_on there))

stopped : (u : Setup) (k n : ℕ) (phase : Phase) → (console_at u k).phase ≡ phase → (end_of phase ≡ runs.Going → ⊥) → (operations_at u k).instructions ≡ n → Reaches u (n + 1)
stopped u k n phase is other at = (k, inr (omega arith, λ e. other (ap end_of (sym is) ∙ e)))

goes_further : (u : Setup) (k n : ℕ) (phase : Phase) → (console_at u k).phase ≡ phase → (operations_at u k).instructions ≡ n → Reaches u (n + 1)
unfolding next_from
goes_further u k n Opened is at = begins_next u k Opened n is refl refl at
goes_further u k n (Running done) is at = (suc k, inl (running_adds u k done n is at))
goes_further u k n (Left Full) is at = begins_next u k (Left Full) n is refl refl at
goes_further u k n (Left Waited) is at = begins_next u k (Left Waited) n is refl refl at
goes_further u k n (Left Halted) is at = stopped u k n (Left Halted) is (λ e. cc) at
goes_further u k n (Left (Fault number address)) is at = stopped u k n (Left (Fault number address)) is (λ e. cc) at
goes_further u k n (Left (Undecodable address)) is at = stopped u k n (Left (Undecodable address)) is (λ e. cc) at

reach_more : (u : Setup) (n : ℕ) → Reaches u n → Reaches u (n + 1)
reach_more u n (k, how) = elim how [
  | inl at ↦ goes_further u k n (console_at u k).phase refl at
  | inr (before, ended) ↦ (k, inr (omega arith, ended))
]

reaches : (u : Setup) (n : ℕ) → Reaches u n
unfolding operations_of
reaches u zero = (0, inl refl)
reaches u (suc n) = let e : suc n ≡ n + 1 = omega arith in rw e (reach_more u n (reaches u n))

pub moments : RunsAreMoments
moments u n =
    let (k, how) = reaches u n in
    let o : Operations = operations_at u k in
    let same = machine_same u k in (
      k,
      elim how [
        | inl at ↦ ap (λ (i : ℕ). machine_runs u.program o.answers u.card i) (sym at) ∙ same
        | inr (before, ended) ↦
            run_stays o.instructions n (opening u.program u.card) o.answers before (λ e. ended (sym (ap (λ (r : Run). r.end) same) ∙ e)) ∙ same
      ],
    )
