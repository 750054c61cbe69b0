-- A frame of the console is the definition's next frame, and that is so many instructions and edges on.
use Rattle.std.proofs.Common.{ℕ, zero, suc, ◌+◌, ◌<◌, ◌≤◌, ◌≡◌, ◌⊎◌, inl, inr, true, false, List, [], ◌∷◌, refl, sym, ap, subst, ◌∙◌, arith}
use Rattle.std.specs.Prelude.{◌==◌}
use Rattle.v32_isa.specs.declared.stepped.Stepped.{Stepped}
use Rattle.v32_isa.specs.declared.stepped.Stepped.TheVariants as stepped
use Rattle.v32_isa.specs.State.{State}
use Rattle.v32_isa.specs.Machine.{Effect, effect_of}
use Rattle.v32_isa.specs.Machine.Effect.{Ends, Asks, Tells}
use Rattle.cpu_core.specs.Machine.{state_of}
use Rattle.port_history.specs.Past.{Happening, Began, Asked, Told, Mixed}
use Rattle.v32_console.specs.declared.frame_end.FrameEnd.{FrameEnd}
use Rattle.v32_console.specs.Setup.{Setup}
use Rattle.v32_console.specs.Moments.{Moment, Phase, Opened, Running, Left, moment, begun, next, next_from, after, went_on, left_by, after_step, after_effect, goes_on, console_at, opening_moment}
use Rattle.v32_console.specs.Frames.{until_left, left_within, frame_of, frames_from, frames_of}
use Rattle.v32_console.specs.declared.board.Board.{Board}
use Rattle.v32_console.specs.Machine.{Operations, none, one, joined, waits, operation, operations_from, operations_of}
use Rattle.v32_console.specs.Runs.{unless_left, where_on, last_after, operations_within, frame_operations, run_operations, IsRun, RunsAreOfInstructions}
use Rattle.v32_console.specs.Taking.{Taped, taken, with_operations}
use Rattle.v32_console.specs.Stands.{BoardStands, IsNoted, Parts, ConsoleStands, StandsAt, IsAtRest, HasLeft, IsFrame}
use Rattle.v32_console.proofs.Operations.{after_next}
use Rattle.v32_console.proofs.Steps.{by_test, not_full, is_full, next_running, rest_of, rest_operations, left_suc, left_more, operations_suc, operations_more}
use Rattle.v32_console.proofs.Taken.{IsFew, few_none, few_joined, joined_none, joined_end, joined_assoc, noted}

begins_from : (u : Setup) (phase : Phase) (s : State) (past : List Happening) → IsAtRest phase → next_from u phase s past ≡ begun s past
unfolding next_from
begins_from u Opened s past h = refl
begins_from u (Running done) s past h = absurd h
begins_from u (Left end) s past h = rw h refl

begins : (u : Setup) (m : Moment) → IsAtRest m.phase → next u m ≡ begun m.state m.past
begins u m h = begins_from u m.phase m.state m.past h

-- the next frame begins, and then has its instructions
starts : (n k : ℕ) (u : Setup) (m : Moment) → k ≡ suc n → IsAtRest m.phase → left_within k u m ≡ left_within n u (moment m.state (Began ∷ m.past) (Running 0))
starts n k u m e h = left_more k n u m e ∙ ap (λ (x : Moment). rest_of n u x) (begins u m h)

frame_starts : (u : Setup) (m : Moment) → IsAtRest m.phase → frame_of u m ≡ left_within 250000 u (moment m.state (Began ∷ m.past) (Running 0))
unfolding frame_of
frame_starts u m h = starts 250000 250001 u m (omega arith) h

-- and the frame's operations are those of its instructions
none_from : (u : Setup) (m : Moment) (phase : Phase) → IsAtRest phase → operations_from u m phase ≡ none
none_from u m Opened h = refl
none_from u m (Running done) h = absurd h
none_from u m (Left end) h = refl

operations_start : (n k : ℕ) (u : Setup) (m : Moment) → k ≡ suc n → IsAtRest m.phase → operations_within k u m ≡ operations_within n u (moment m.state (Began ∷ m.past) (Running 0))
operations_start n k u m e h =
    operations_more k n u m e
    ∙ (λ i. joined (none_from u m m.phase h i) (rest_operations n u (begins u m h i)))
    ∙ joined_none (operations_within n u (moment m.state (Began ∷ m.past) (Running 0)))

frame_operations_start : (u : Setup) (m : Moment) → IsAtRest m.phase → frame_operations u m ≡ operations_within 250000 u (moment m.state (Began ∷ m.past) (Running 0))
unfolding frame_operations
frame_operations_start u m h = operations_start 250000 250001 u m (omega arith) h

-- so the frame is noted
pub frame_noted : (u : Setup) (m : Moment) (s : State) (before began : Taped) (b c : Board) → s ≡ m.state → IsAtRest m.phase
    → IsNoted (operations_within 250000 u (moment s (Began ∷ m.past) (Running 0))) began b → began ≡ before → c.cycles ≡ b.cycles → c.tape ≡ b.tape → IsNoted (frame_operations u m) before c
frame_noted u m s before began b c same rest h e f g =
    let is : operations_within 250000 u (moment s (Began ∷ m.past) (Running 0)) ≡ frame_operations u m =
    ap (λ t. operations_within 250000 u (moment t (Began ∷ m.past) (Running 0))) same ∙ sym (frame_operations_start u m rest) in
    record { tape = g ∙ h.tape ∙ (λ i. taken (is i) (e i)); count = f ∙ h.count ∙ ap (λ (o : Operations). o.instructions) is }

-- ---- a frame has few operations

few_waits : (how : Stepped) → IsFew (one (waits how) [])
few_waits stepped.Went = record { events = omega arith; answers = omega arith }
few_waits stepped.Waited = record { events = omega arith; answers = omega arith }
few_waits stepped.Halted = record { events = omega arith; answers = omega arith }
few_waits stepped.Starved = record { events = omega arith; answers = omega arith }
few_waits (stepped.Fault number) = record { events = omega arith; answers = omega arith }
few_waits (stepped.Undecodable address) = record { events = omega arith; answers = omega arith }

few_operation : (u : Setup) (m : Moment) (done : ℕ) (e : Effect) → IsFew (operation u m done e)
few_operation u m done (Ends how s) = few_waits how
few_operation u m done (Asks register port next s) = record { events = omega arith; answers = omega arith }
few_operation u m done (Tells port word next s) = record { events = omega arith; answers = omega arith }

few_from : (u : Setup) (m : Moment) (phase : Phase) → IsFew (operations_from u m phase)
few_from u m Opened = few_none
few_from u m (Running done) = few_operation u m done (effect_of m.state)
few_from u m (Left end) = few_none

few_unless : (phase : Phase) (o : Operations) → IsFew o → IsFew (unless_left phase o)
few_unless Opened o h = h
few_unless (Running done) o h = h
few_unless (Left end) o h = few_none

few_within : (n : ℕ) (u : Setup) (m : Moment) → IsFew (operations_within n u m)
unfolding operations_within
few_within zero u m = few_none
few_within (suc n) u m = few_joined _ _ (few_from u m m.phase) (few_unless (next u m).phase _ (few_within n u (next u m)))

pub few_frame : (u : Setup) (m : Moment) → IsFew (frame_operations u m)
unfolding frame_operations
few_frame u m = few_within 250001 u m

-- the tape is nothing to what a console stands for
pub with_tape : (u : Setup) (m : Moment) (c : Parts) (tape : Taped) → ConsoleStands u m c → ConsoleStands u m (record { machine = c.machine; board = record c.board { tape = tape } })
with_tape u m c tape h = record { state_is = h.state_is; board = record { graphics = h.board.graphics; sound = h.board.sound; small = h.board.small } }

-- the notes after a frame
pub frame_notes : (u : Setup) (m : Moment) (answers : List ℕ) (spare events instructions : ℕ) (board : Board) (tape : Taped)
    → IsNoted (frame_operations u m) tape board → tape ≡ record { answers = answers; spare = spare; events = 0 } → board.cycles ≤ 250000 → 250000 ≤ spare
    → record { answers = board.tape.answers; events = events + board.tape.events; instructions = instructions + board.cycles; spare = board.tape.spare }
    ≡ with_operations (frame_operations u m) (record { answers = answers; events = events; instructions = instructions; spare = spare })
frame_notes u m answers spare events instructions board tape h e within room =
    noted (frame_operations u m) answers spare events instructions board.tape board.cycles (few_frame u m) h.count within room (h.tape ∙ ap (taken (frame_operations u m)) e)

pub frame_done : (u : Setup) (m : Moment) (s : State) (end : FrameEnd) (parts : Parts) (past : List Happening) → s ≡ m.state → IsAtRest m.phase
    → left_within 250000 u (moment s (Began ∷ m.past) (Running 0)) ≡ left_by end (state_of parts.machine) past → BoardStands u (Mixed ∷ past) parts.board
    → ConsoleStands u (frame_of u m) parts × ((frame_of u m).phase ≡ Left end)
frame_done u m s end parts past same rest ran board =
    let is : frame_of u m ≡ left_by end (state_of parts.machine) past =
    frame_starts u m rest ∙ ap (λ t. left_within 250000 u (moment t (Began ∷ m.past) (Running 0))) (sym same) ∙ ran in
    let stands : ConsoleStands u (left_by end (state_of parts.machine) past) parts = record { state_is = refl; board = board } in
    (subst (λ (x : Moment). ConsoleStands u x parts) (sym is) stands, ap (λ (x : Moment). x.phase) is)

-- ---- in instructions and edges

pub record Reached (u : Setup) (m : Moment) (n : ℕ) : Type 0 where
  pub count : ℕ
  pub some : 1 ≤ count
  pub is : after u count m ≡ left_within n u m
  pub operations : operations_of u count m ≡ operations_within n u m
  pub before : (i : ℕ) → 1 ≤ i → i < count → HasLeft (after u i m).phase → ⊥

decide : (p : Phase) → HasLeft p ⊎ (HasLeft p → ⊥)
decide Opened = inr (λ h. h)
decide (Running done) = inr (λ h. h)
decide (Left end) = inl tt

left_has : (p : Phase) (end : FrameEnd) → p ≡ Left end → HasLeft p
left_has p end e = subst HasLeft (sym e) tt

left_here : (p : Phase) (x : Moment) (go : Moment → Moment) → HasLeft p → until_left p x go ≡ x
left_here Opened x go h = absurd h
left_here (Running done) x go h = absurd h
left_here (Left end) x go h = refl

left_later : (p : Phase) (x : Moment) (go : Moment → Moment) → (HasLeft p → ⊥) → until_left p x go ≡ go x
left_later Opened x go h = refl
left_later (Running done) x go h = refl
left_later (Left end) x go h = absurd (h tt)

after_one : (u : Setup) (m : Moment) → after u 1 m ≡ next u m
unfolding after
after_one u m = refl

nothing_here : (p : Phase) (o : Operations) → HasLeft p → unless_left p o ≡ none
nothing_here Opened o h = absurd h
nothing_here (Running done) o h = absurd h
nothing_here (Left end) o h = refl

all_later : (p : Phase) (o : Operations) → (HasLeft p → ⊥) → unless_left p o ≡ o
all_later Opened o h = refl
all_later (Running done) o h = refl
all_later (Left end) o h = absurd (h tt)

operations_next : (u : Setup) (k : ℕ) (m : Moment) → operations_of u (suc k) m ≡ joined (operations_from u m m.phase) (operations_of u k (next u m))
unfolding operations_of
operations_next u k m = refl

operations_none : (u : Setup) (m : Moment) → operations_of u 0 m ≡ none
unfolding operations_of
operations_none u m = refl

operations_one : (u : Setup) (m : Moment) → operations_of u 1 m ≡ joined (operations_from u m m.phase) none
operations_one u m = operations_next u zero m ∙ ap (joined (operations_from u m m.phase)) (operations_none u (next u m))

reached_here : (n : ℕ) (u : Setup) (m : Moment) → HasLeft (next u m).phase → Reached u m (suc n)
reached_here n u m h = record {
  count = 1;
  some = omega arith;
  is = after_one u m ∙ sym (left_suc n u m ∙ left_here (next u m).phase (next u m) (left_within n u) h);
  operations = operations_one u m ∙ sym (operations_suc n u m ∙ ap (joined (operations_from u m m.phase)) (nothing_here (next u m).phase (operations_within n u (next u m)) h));
  before = λ i a b c. absurd (omega (arith, a, b));
}

before_on : (u : Setup) (m : Moment) (count i : ℕ) → (HasLeft (next u m).phase → ⊥) → ((i : ℕ) → 1 ≤ i → i < count → HasLeft (after u i (next u m)).phase → ⊥) → 1 ≤ i → i < suc count
    → HasLeft (after u i m).phase → ⊥
before_on u m count zero not earlier a b h = omega (arith, a)
before_on u m count (suc zero) not earlier a b h = not (subst (λ (x : Moment). HasLeft x.phase) (after_one u m) h)
before_on u m count (suc (suc i)) not earlier a b h = earlier (suc i) (omega arith) (omega (arith, b)) (subst (λ (x : Moment). HasLeft x.phase) (after_next u (suc i) m) h)

reached_on : (n : ℕ) (u : Setup) (m : Moment) → (HasLeft (next u m).phase → ⊥) → Reached u (next u m) n → Reached u m (suc n)
reached_on n u m not r = record {
  count = suc r.count;
  some = omega arith;
  is = after_next u r.count m ∙ r.is ∙ sym (left_suc n u m ∙ left_later (next u m).phase (next u m) (left_within n u) not);
  operations = operations_next u r.count m ∙ ap (joined (operations_from u m m.phase)) (r.operations ∙ sym (all_later (next u m).phase (operations_within n u (next u m)) not)) ∙ sym (operations_suc n u m);
  before = λ i a b. before_on u m r.count i not r.before a b;
}

left_zero : (u : Setup) (m : Moment) → left_within zero u m ≡ m
unfolding left_within
left_zero u m = refl

on_phase : (n : ℕ) (u : Setup) (m : Moment) (end : FrameEnd) → (HasLeft (next u m).phase → ⊥) → (left_within (suc n) u m).phase ≡ Left end → (left_within n u (next u m)).phase ≡ Left end
on_phase n u m end not h = ap (λ (x : Moment). x.phase) (sym (left_suc n u m ∙ left_later (next u m).phase (next u m) (left_within n u) not)) ∙ h

reach : (n : ℕ) (u : Setup) (m : Moment) (end : FrameEnd) → (left_within (suc n) u m).phase ≡ Left end → Reached u m (suc n)
reach zero u m end h = elim (decide (next u m).phase) [
  | inl is ↦ reached_here zero u m is
  | inr not ↦ absurd (not (left_has _ end (ap (λ (x : Moment). x.phase) (sym (left_zero u (next u m))) ∙ on_phase zero u m end not h)))
]
reach (suc n) u m end h = elim (decide (next u m).phase) [
  | inl is ↦ reached_here (suc n) u m is
  | inr not ↦ reached_on (suc n) u m not (reach n u (next u m) end (on_phase (suc n) u m end not h))
]

sum_zero : (k : ℕ) → k + 0 ≡ k
sum_zero k = omega arith

sum_suc : (k j : ℕ) → k + suc j ≡ suc (k + j)
sum_suc k j = omega arith

after_suc : (u : Setup) (k : ℕ) (m : Moment) → after u (suc k) m ≡ next u (after u k m)
unfolding after
after_suc u k m = refl

pub after_none : (u : Setup) (m : Moment) → after u 0 m ≡ m
unfolding after
after_none u m = refl

after_sum : (u : Setup) (k j : ℕ) (m : Moment) → after u j (after u k m) ≡ after u (k + j) m
after_sum u k zero m = after_none u (after u k m) ∙ ap (λ i. after u i m) (sym (sum_zero k))
after_sum u k (suc j) m = after_suc u j (after u k m) ∙ ap (next u) (after_sum u k j m) ∙ sym (after_suc u (k + j) m) ∙ ap (λ i. after u i m) (sym (sum_suc k j))

frame_within : (u : Setup) (m : Moment) → frame_of u m ≡ left_within 250001 u m
unfolding frame_of
frame_within u m = refl

reach_at : (k n : ℕ) (u : Setup) (m : Moment) (end : FrameEnd) → k ≡ suc n → (left_within k u m).phase ≡ Left end → Reached u m k
reach_at k n u m end e h = subst (Reached u m) (sym e) (reach n u m end (subst (λ i. (left_within i u m).phase ≡ Left end) e h))

pub frame_reached : (u : Setup) (k : ℕ) (end : FrameEnd) (parts : Parts) → ConsoleStands u (frame_of u (console_at u k)) parts × ((frame_of u (console_at u k)).phase ≡ Left end)
    → (j : ℕ) × (IsFrame u k j end × StandsAt u (k + j) parts)
frame_reached u k end parts h =
    let m = console_at u k in
    let same = frame_within u m in
    let r = reach_at 250001 250000 u m end (omega arith) (ap (λ (x : Moment). x.phase) (sym same) ∙ h.1) in
    let there : console_at u (k + r.count) ≡ frame_of u m = sym (after_sum u k r.count (opening_moment u)) ∙ r.is ∙ sym same in (
      r.count,
      (
        record {
          some = r.some;
          left = ap (λ (x : Moment). x.phase) there ∙ h.1;
          before = λ i a b c. r.before i a b (subst (λ (x : Moment). HasLeft x.phase) (sym (after_sum u k i (opening_moment u))) c);
          is = there;
        },
        subst (λ (x : Moment). ConsoleStands u x parts) (sym there) h.0,
      ),
    )

-- ---- a frame is always left, and so its operations are those of its instructions

-- an instruction leaves its frame, or it is not the 250,000th
record GoesOn (done : ℕ) (m : Moment) : Type 0 where
  pub state : State
  pub past : List Happening
  pub few : (done == 250000) ≡ false
  pub is : m ≡ moment state past (Running done)

went_or_left : (done : ℕ) (s : State) (past : List Happening) → HasLeft (went_on done s past).phase ⊎ GoesOn done (went_on done s past)
went_or_left done s past = by_test (done == 250000)
    (λ t. inl (subst (λ (m : Moment). HasLeft m.phase) (sym (is_full done s past t)) tt))
    (λ t. inr (record { state = s; past = past; few = t; is = not_full done s past t }))

step_or_left : (how : Stepped) (done : ℕ) (s : State) (past : List Happening) → HasLeft (after_step how done s past).phase ⊎ GoesOn done (after_step how done s past)
unfolding after_step
step_or_left stepped.Went done s past = went_or_left done s past
step_or_left stepped.Waited done s past = inl tt
step_or_left stepped.Halted done s past = inl tt
step_or_left stepped.Starved done s past = went_or_left done s past
step_or_left (stepped.Fault number) done s past = inl tt
step_or_left (stepped.Undecodable address) done s past = inl tt

effect_or_left : (u : Setup) (done : ℕ) (e : Effect) (past : List Happening) → HasLeft (after_effect u done e past).phase ⊎ GoesOn (done + 1) (after_effect u done e past)
unfolding after_effect
effect_or_left u done (Ends how s) past = step_or_left how (done + 1) s past
effect_or_left u done (Asks register port next s) past = went_or_left (done + 1) _ (Asked port ∷ past)
effect_or_left u done (Tells port word next s) past = went_or_left (done + 1) _ (Told port word ∷ past)

equal_full : (n : ℕ) → n ≡ 250000 → (n == 250000) ≡ false → ⊥
equal_full n e h = grind arith

-- the instruction is done, and then the rest of the frame
module _ (n : ℕ) (u : Setup) (done : ℕ) (s : State) (past : List Happening) where
  abbrev done_one : Moment
  done_one = after_effect u done (effect_of s) past

  left_behind : HasLeft done_one.phase ⊎ GoesOn (done + 1) done_one → (GoesOn (done + 1) done_one → HasLeft (rest_of n u done_one).phase) → HasLeft (rest_of n u done_one).phase
  left_behind (inl h) go = subst (λ (y : Moment). HasLeft y.phase) (sym (left_here done_one.phase done_one (left_within n u) h)) h
  left_behind (inr g) go = go g

  left_then : (GoesOn (done + 1) done_one → HasLeft (rest_of n u done_one).phase) → HasLeft (left_within (suc n) u (moment s past (Running done))).phase
  left_then go =
      subst (λ (x : Moment). HasLeft x.phase) (sym (left_suc n u (moment s past (Running done)) ∙ ap (λ (x : Moment). rest_of n u x) (next_running u done s past)))
      (left_behind (effect_or_left u done (effect_of s) past) go)

always_left : (n : ℕ) (u : Setup) (done : ℕ) (s : State) (past : List Happening) → done + suc n ≡ 250000 → HasLeft (left_within (suc n) u (moment s past (Running done))).phase
always_left zero u done s past e = left_then zero u done s past (λ g. absurd (equal_full (done + 1) (omega (arith, e)) g.few))
always_left (suc n) u done s past e =
    left_then (suc n) u done s past
    (λ g. subst (λ (y : Moment). HasLeft (rest_of (suc n) u y).phase) (sym g.is) (always_left n u (done + 1) g.state g.past (omega (arith, e))))

always_left_at : (k n : ℕ) (u : Setup) (done : ℕ) (s : State) (past : List Happening) → k ≡ suc n → done + k ≡ 250000 → HasLeft (left_within k u (moment s past (Running done))).phase
always_left_at k n u done s past e h = subst (λ j. HasLeft (left_within j u (moment s past (Running done))).phase) (sym e) (always_left n u done s past (omega (arith, e, h)))

has_end : (p : Phase) → HasLeft p → (end : FrameEnd) × (p ≡ Left end)
has_end Opened h = absurd h
has_end (Running done) h = absurd h
has_end (Left end) h = (end, refl)

-- the next frame, of a moment at rest
record FrameReached (u : Setup) (m : Moment) : Type 0 where
  pub count : ℕ
  pub is : after u count m ≡ frame_of u m
  pub operations : operations_of u count m ≡ frame_operations u m
  pub end : FrameEnd
  pub left : (frame_of u m).phase ≡ Left end

frame_reaches : (u : Setup) (m : Moment) → IsAtRest m.phase → FrameReached u m
unfolding frame_of frame_operations
frame_reaches u m rest =
    let left : HasLeft (left_within 250001 u m).phase = subst (λ (x : Moment). HasLeft x.phase) (sym (starts 250000 250001 u m (omega arith) rest))
    (always_left_at 250000 249999 u 0 m.state (Began ∷ m.past) (omega arith) (omega arith)) in
    let end = has_end _ left in
    let r = reach_at 250001 250000 u m end.0 (omega arith) end.1 in
    record { count = r.count; is = r.is; operations = r.operations; end = end.0; left = end.1 }

operations_sum : (u : Setup) (j k : ℕ) (m : Moment) → operations_of u (j + k) m ≡ joined (operations_of u j m) (operations_of u k (after u j m))
operations_sum u zero k m =
    let e : 0 + k ≡ k = omega arith in
    ap (λ n. operations_of u n m) e ∙ sym (joined_none (operations_of u k m)) ∙ (λ i. joined (sym (operations_none u m) i) (operations_of u k (sym (after_none u m) i)))
operations_sum u (suc j) k m =
    let e : suc j + k ≡ suc (j + k) = omega arith in
    ap (λ n. operations_of u n m) e ∙ operations_next u (j + k) m
    ∙ ap (joined (operations_from u m m.phase)) (operations_sum u j k (next u m))
    ∙ joined_assoc (operations_from u m m.phase) (operations_of u j (next u m)) (operations_of u k (after u j (next u m)))
    ∙ (λ i. joined (sym (operations_next u j m) i) (operations_of u k (sym (after_next u j m) i)))

frames_next : (count : ℕ) (u : Setup) (m : Moment) → frames_of (suc count) u m ≡ frame_of u m ∷ frames_from (frame_of u m).phase (frames_of count u (frame_of u m))
unfolding frames_of
frames_next count u m = refl

run_next : (count : ℕ) (u : Setup) (m : Moment) → run_operations (suc count) u m ≡ joined (frame_operations u m) (where_on (frame_of u m).phase (run_operations count u (frame_of u m)))
unfolding run_operations
run_next count u m = refl

module _ (u : Setup) (count : ℕ) (m : Moment) (f : FrameReached u m) where
  -- a further frame may follow
  run_on : goes_on f.end ≡ true → IsRun u count (frame_of u m) → IsRun u (suc count) m
  run_on on r =
      let frames : frames_from (frame_of u m).phase (frames_of count u (frame_of u m)) ≡ frames_of count u (frame_of u m) = rw (f.left, on) refl in
      let later : where_on (frame_of u m).phase (run_operations count u (frame_of u m)) ≡ run_operations count u (frame_of u m) = rw (f.left, on) refl in
      record {
        k = f.count + r.k;
        there = sym (after_sum u f.count r.k m) ∙ ap (after u r.k) f.is ∙ r.there ∙ ap (last_after (frame_of u m)) (sym frames) ∙ ap (last_after m) (sym (frames_next count u m));
        operations_are =
            operations_sum u f.count r.k m ∙ (λ i. joined (f.operations i) (operations_of u r.k (f.is i)))
            ∙ ap (joined (frame_operations u m)) (r.operations_are ∙ sym later) ∙ sym (run_next count u m);
      }

  -- none does
  run_over : goes_on f.end ≡ false → IsRun u (suc count) m
  run_over over =
      let frames : frames_from (frame_of u m).phase (frames_of count u (frame_of u m)) ≡ [] = rw (f.left, over) refl in
      let later : where_on (frame_of u m).phase (run_operations count u (frame_of u m)) ≡ none = rw (f.left, over) refl in
      record {
        k = f.count;
        there = f.is ∙ ap (last_after (frame_of u m)) (sym frames) ∙ ap (last_after m) (sym (frames_next count u m));
        operations_are = f.operations ∙ sym (joined_end (frame_operations u m)) ∙ ap (joined (frame_operations u m)) (sym later) ∙ sym (run_next count u m);
      }

  at_rest : goes_on f.end ≡ true → IsAtRest (frame_of u m).phase
  at_rest on = subst IsAtRest (sym f.left) on

run_none : (u : Setup) (m : Moment) → IsRun u 0 m
unfolding frames_of run_operations
run_none u m = record { k = 0; there = after_none u m; operations_are = operations_none u m }

pub run_reached : (count : ℕ) (u : Setup) (m : Moment) → IsAtRest m.phase → IsRun u count m
run_reached zero u m rest = run_none u m
run_reached (suc count) u m rest =
    let f = frame_reaches u m rest in
    by_test (goes_on f.end) (λ on. run_on u count m f on (run_reached count u (frame_of u m) (at_rest u count m f on))) (λ over. run_over u count m f over)

pub runs_are_of_instructions : RunsAreOfInstructions
runs_are_of_instructions u count = run_reached count u (opening_moment u) tt
