-- A step over devices that stand for a past is the definition's instruction, and a frame is the definition's frame.
use Rattle.std.proofs.Common.{ℕ, suc, ◌+◌, ◌-◌, ◌<◌, ◌≤◌, ◌≡◌, Bool, true, false, List, [], ◌∷◌, Option, Some, refl, sym, ap, subst, ◌∙◌, arith}
use Rattle.std.specs.Prelude.{◌==◌, None}
use Rattle.kit_base.specs.declared.event.Event.TheVariants as event
use Rattle.kit_base.specs.Word.{add}
use Rattle.v32_isa.specs.declared.stepped.Stepped.{Stepped}
use Rattle.v32_isa.specs.declared.stepped.Stepped.TheVariants as stepped
use Rattle.v32_isa.specs.State.{State}
use Rattle.v32_isa.specs.Machine.{Effect, effect_of, Acts, Answered, Steps}
use Rattle.v32_isa.specs.Machine.Effect.{Ends, Asks, Tells}
use Rattle.port_history.specs.Past.{Happening, Asked, Told}
use Rattle.v32_console.specs.declared.board.Board.{Board}
use Rattle.v32_console.specs.declared.frame_end.FrameEnd.{FrameEnd}
use Rattle.v32_console.specs.declared.frame_end.FrameEnd.TheVariants.{Full, Waited, Halted, Fault, Undecodable}
use Rattle.v32_console.specs.Setup.{Setup}
use Rattle.v32_console.specs.Moments.{Moment, Running, moment, next, next_from, went_on, left_by, after_step, after_effect}
use Rattle.v32_console.specs.Frames.{until_left, left_within}
use Rattle.v32_console.specs.Stands.{BoardStands, IsNoted}
use Rattle.v32_console.specs.inner.Bus.{Answering, Telling, KeepsCounts}
use Rattle.v32_console.specs.Machine.{Operations, none, one, joined, waits, operation, operations_from}
use Rattle.v32_console.specs.Taking.{Taped, taken, asked_by}
use Rattle.v32_console.specs.Runs.{unless_left, operations_within}
use Rattle.v32_console.proofs.Reaching.{AsksReadable, asks_readable}
use Rattle.v32_console.proofs.Operations.{is_one}
use Rattle.v32_console.proofs.Taken.{taken_none, taken_nothing, taken_out, taken_joined, joined_none, joined_end, joined_assoc}

-- the instruction's moment, as the step's end and the past after it give it
pub record Stepping (u : Setup) (e : Effect) (past : List Happening) (b : Board) (how : Stepped) (t : State) (c : Board) : Type 0 where
  pub later : List Happening
  pub moment_is : after_effect u b.cycles e past ≡ after_step how (b.cycles + 1) t later
  pub stands : BoardStands u later c
  pub taken_is : (s : State) → taken (one (waits how) []) c.tape ≡ taken (operation u (moment s past (Running b.cycles)) b.cycles e) b.tape

-- the tape is nothing to the devices
pub other_tape : (u : Setup) (past : List Happening) (b : Board) (tape : Taped) → BoardStands u past (record b { tape = tape }) → BoardStands u past b
other_tape u past b tape h = record { graphics = h.graphics; sound = h.sound; small = h.small }

-- a step keeps the counts, whatever the devices stand for
acts_kept : (b c : Board) (e : Effect) (how : Stepped) (t : State) → Acts Answering Telling e b how t c → KeepsCounts b c
acts_kept b c (Ends how' t') how t (e, f, g) = record { cycles = ap (λ (x : Board). x.cycles) g; frames = ap (λ (x : Board). x.devices.frames) g }
acts_kept b c (Asks a p next s) how t (answer, (given, after)) = let counts = given.0.counts in record { cycles = counts.cycles; frames = counts.frames }
acts_kept b c (Tells p word next s) how t (given, e, f) = let counts = given.0.counts in record { cycles = counts.cycles; frames = counts.frames }

add_few : (n : ℕ) → add n 1 ≤ n + 1
add_few n = grind arith

asked_few : (o : Option ℕ) (t : Taped) → (asked_by o t).events ≤ t.events + 1
asked_few None t = omega arith
asked_few (Some word) t = add_few t.events

-- a step is one operation at most
acts_few : (b c : Board) (e : Effect) (how : Stepped) (t : State) → Acts Answering Telling e b how t c → c.tape.events ≤ b.tape.events + 1
acts_few b c (Ends how' t') how t (e, f, g) = let same = ap (λ (x : Board). x.tape.events) g in omega (arith, same)
acts_few b c (Asks a p next s) how t (answer, (given, after)) =
    let same = ap (λ (x : Taped). x.events) given.1 in let few = asked_few answer b.tape in omega (arith, same, few)
acts_few b c (Tells p word next s) how t (given, e, f) =
    let same = ap (λ (x : Taped). x.events) given.1 in let few = add_few b.tape.events in omega (arith, same, few)

pub step_few : (b c : Board) (s t : State) (how : Stepped) → Steps Answering Telling s b how t c → c.tape.events ≤ b.tape.events + 1
step_few b c s t how step = acts_few b c (effect_of s) how t step

pub step_kept : (b c : Board) (s t : State) (how : Stepped) → Steps Answering Telling s b how t c → KeepsCounts b c
step_kept b c s t how step = acts_kept b c (effect_of s) how t step

answered_with : (a next word : ℕ) (s : State) (answer : Option ℕ) (how : Stepped) (t : State) → answer ≡ Some word → Answered answer a next s how t → Answered (Some word) a next s how t
answered_with a next word s answer how t e h = subst (λ o. Answered o a next s how t) e h

-- where a step went on, the tape has what its port gave it
went_taken : (how : Stepped) (o : Operations) (before after : Taped) → how ≡ stepped.Went → after ≡ taken o before → taken (one (waits how) []) after ≡ taken o before
went_taken how o before after went is = ap (λ h. taken (one (waits h) []) after) went ∙ taken_nothing after ∙ is

asked_taken : (o : Option ℕ) (port word : ℕ) (t : Taped) → o ≡ Some word → asked_by o t ≡ taken (one (event.In port word ∷ []) (word ∷ [])) t
unfolding taken
asked_taken o port word t e = ap (λ x. asked_by x t) e

acts_step : (u : Setup) (past : List Happening) (b c : Board) (e : Effect) (how : Stepped) (t : State) → AsksReadable e → 0 < b.devices.frames → BoardStands u past b
    → Acts Answering Telling e b how t c → Stepping u e past b how t c
unfolding after_effect after_step
acts_step u past b c (Ends how' t') how t asks begins h (e, f, g) =
    record { later = past; moment_is = rw (e, f) refl; stands = subst (BoardStands u past) (sym g) h; taken_is = λ s i. taken (one (waits (e i)) []) (g i).tape }
acts_step u past b c (Asks a p next s) how t readable begins h (answer, (given, after)) =
    let is = given.0.stands readable begins u past h in
    let went = answered_with a next _ s answer how t is.0 after in
    record {
      later = Asked p ∷ past;
      moment_is = rw (went.0, went.1) refl;
      stands = other_tape u (Asked p ∷ past) c b.tape is.1;
      taken_is = λ s. went_taken how _ b.tape c.tape went.0 (given.1 ∙ asked_taken answer p _ b.tape is.0);
    }
acts_step u past b c (Tells p word next s) how t writable begins h (given, e, f) = record {
  later = Told p word ∷ past;
  moment_is = rw (e, f) refl;
  stands = other_tape u (Told p word ∷ past) c b.tape (given.0.stands writable u past h);
  taken_is = λ s. went_taken how _ b.tape c.tape e (given.1 ∙ taken_out p word b.tape);
}

pub step_stands : (u : Setup) (past : List Happening) (b c : Board) (s t : State) (how : Stepped) → 0 < b.devices.frames → BoardStands u past b
    → Steps Answering Telling s b how t c → Stepping u (effect_of s) past b how t c
step_stands u past b c s t how begins h step = acts_step u past b c (effect_of s) how t (asks_readable s) begins h step

-- ---- frames

-- what is left of a frame, after the frame's so manieth instruction
abbrev pub rest_of : ℕ → Setup → Moment → Moment
rest_of n u m = until_left m.phase m (left_within n u)

abbrev pub rest_operations : ℕ → Setup → Moment → Operations
rest_operations n u m = unless_left m.phase (operations_within n u m)

-- so far in such a frame: the operations of the rest come behind those that the tape took
pub record Taking (u : Setup) (n : ℕ) (start : Moment) (before : Taped) (done : ℕ) (s : State) (past : List Happening) (tape : Taped) : Type 0 where
  pub operations : Operations
  pub count : operations.instructions ≡ done
  pub all : operations_within n u start ≡ joined operations (rest_operations (n - done) u (went_on done s past))
  pub tape_is : tape ≡ taken operations before

-- so far in a frame that began at that moment: the rest of it is the whole, and the devices stand for the past
pub record Came (u : Setup) (n : ℕ) (start : Moment) (before : Taped) (done : ℕ) (s : State) (b : Board) : Type 0 where
  pub past : List Happening
  pub whole : left_within n u start ≡ rest_of (n - done) u (went_on done s past)
  pub stands : BoardStands u past b
  pub taking : Taking u n start before done s past b.tape

pub by_test : {P : Type 0} (b : Bool) → (b ≡ true → P) → (b ≡ false → P) → P
by_test true f g = f refl
by_test false f g = g refl

pub not_full : (done : ℕ) (s : State) (past : List Happening) → (done == 250000) ≡ false → went_on done s past ≡ moment s past (Running done)
unfolding went_on
not_full done s past h = rw h refl

pub is_full : (done : ℕ) (s : State) (past : List Happening) → (done == 250000) ≡ true → went_on done s past ≡ left_by Full s past
unfolding went_on
is_full done s past h = rw h refl

less_not : (done : ℕ) → done < 250000 → (done == 250000) ≡ false
less_not done h = grind arith

equal_is : (done : ℕ) → done ≡ 250000 → (done == 250000) ≡ true
equal_is done h = grind arith

less_none : (n : ℕ) → n ≡ n - 0
less_none n = omega arith

first_rest : (u : Setup) (n : ℕ) (s : State) (past : List Happening) → operations_within n u (moment s past (Running 0)) ≡ rest_operations (n - 0) u (went_on 0 s past)
first_rest u n s past =
    ap (λ k. operations_within k u (moment s past (Running 0))) (less_none n) ∙ ap (λ (m : Moment). rest_operations (n - 0) u m) (sym (not_full 0 s past (less_not 0 (omega arith))))

taking_first : (u : Setup) (n : ℕ) (s : State) (past : List Happening) (t : Taped) → Taking u n (moment s past (Running 0)) t 0 s past t
taking_first u n s past t = record { operations = none; count = refl; all = first_rest u n s past ∙ sym (joined_none _); tape_is = taken_none t }

pub came_first : (u : Setup) (n : ℕ) (s : State) (past : List Happening) (b : Board) → BoardStands u past b → Came u n (moment s past (Running 0)) b.tape 0 s b
came_first u n s past b h = record { taking = taking_first u n s past b.tape; past = past; whole = ap (λ k. left_within k u (moment s past (Running 0))) (less_none n) ∙ ap (λ (m : Moment). rest_of (n - 0) u m) (sym (not_full 0 s past (less_not 0 (omega arith)))); stands = h }

pub left_suc : (n : ℕ) (u : Setup) (m : Moment) → left_within (suc n) u m ≡ rest_of n u (next u m)
unfolding left_within
left_suc n u m = refl

pub left_more : (k n : ℕ) (u : Setup) (m : Moment) → k ≡ suc n → left_within k u m ≡ rest_of n u (next u m)
left_more k n u m e = ap (λ j. left_within j u m) e ∙ left_suc n u m

pub next_running : (u : Setup) (done : ℕ) (s : State) (past : List Happening) → next u (moment s past (Running done)) ≡ after_effect u done (effect_of s) past
unfolding next_from
next_running u done s past = refl

-- the rest before an instruction is the rest after it
rest_step : (u : Setup) (n done : ℕ) (s t : State) (past later : List Happening) (how : Stepped) → done < n → done < 250000
    → after_effect u done (effect_of s) past ≡ after_step how (done + 1) t later
    → rest_of (n - done) u (went_on done s past) ≡ rest_of (n - (done + 1)) u (after_step how (done + 1) t later)
rest_step u n done s t past later how less few e =
    ap (λ (m : Moment). rest_of (n - done) u m) (not_full done s past (less_not done few))
    ∙ left_more (n - done) (n - (done + 1)) u (moment s past (Running done)) (omega arith)
    ∙ ap (λ (m : Moment). rest_of (n - (done + 1)) u m) (next_running u done s past ∙ e)

pub operations_suc : (n : ℕ) (u : Setup) (m : Moment) → operations_within (suc n) u m ≡ joined (operations_from u m m.phase) (rest_operations n u (next u m))
unfolding operations_within
operations_suc n u m = refl

pub operations_more : (k n : ℕ) (u : Setup) (m : Moment) → k ≡ suc n → operations_within k u m ≡ joined (operations_from u m m.phase) (rest_operations n u (next u m))
operations_more k n u m e = ap (λ j. operations_within j u m) e ∙ operations_suc n u m

abbrev of_step : Setup → ℕ → State → List Happening → Operations
of_step u done s past = operation u (moment s past (Running done)) done (effect_of s)

operations_step : (u : Setup) (n done : ℕ) (s t : State) (past later : List Happening) (how : Stepped) → done < n → done < 250000
    → after_effect u done (effect_of s) past ≡ after_step how (done + 1) t later
    → rest_operations (n - done) u (went_on done s past) ≡ joined (of_step u done s past) (rest_operations (n - (done + 1)) u (after_step how (done + 1) t later))
operations_step u n done s t past later how less few e =
    ap (λ (m : Moment). rest_operations (n - done) u m) (not_full done s past (less_not done few))
    ∙ operations_more (n - done) (n - (done + 1)) u (moment s past (Running done)) (omega arith)
    ∙ ap (λ (m : Moment). joined (of_step u done s past) (rest_operations (n - (done + 1)) u m)) (next_running u done s past ∙ e)

-- one instruction more
module _ (u : Setup) (n : ℕ) (start : Moment) (before : Taped) (done : ℕ) (s t : State) (past later : List Happening) (b c : Taped) (how : Stepped) (less : done < n) (few : done < 250000)
    (there : after_effect u done (effect_of s) past ≡ after_step how (done + 1) t later) (h : Taking u n start before done s past b)
    (is : taken (one (waits how) []) c ≡ taken (of_step u done s past) b) where
  abbrev further : Operations
  further = joined h.operations (of_step u done s past)

  further_all : operations_within n u start ≡ joined further (rest_operations (n - (done + 1)) u (after_step how (done + 1) t later))
  further_all =
      h.all ∙ ap (joined h.operations) (operations_step u n done s t past later how less few there)
      ∙ joined_assoc h.operations (of_step u done s past) (rest_operations (n - (done + 1)) u (after_step how (done + 1) t later))

  further_count : further.instructions ≡ done + 1
  further_count = let one_is = is_one u done s past (effect_of s) in let so_far = h.count in omega (arith, one_is, so_far)

  further_tape : taken (one (waits how) []) c ≡ taken further before
  further_tape = is ∙ ap (taken (of_step u done s past)) h.tape_is ∙ sym (taken_joined h.operations (of_step u done s past) before)

-- an instruction that goes on
pub came_next : (u : Setup) (n : ℕ) (start : Moment) (before : Taped) (done : ℕ) (s t : State) (b c : Board) → done < n → done < 250000 → b.cycles ≡ done → 0 < b.devices.frames
    → Came u n start before done s b → Steps Answering Telling s b stepped.Went t c → (cycles : ℕ) → Came u n start before (done + 1) t (record c { cycles = cycles })
unfolding after_step
came_next u n start before done s t b c less few at begins came step cycles =
    let stepping = step_stands u came.past b c s t stepped.Went begins came.stands step in
    let there = subst (λ d. after_effect u d (effect_of s) came.past ≡ went_on (d + 1) t stepping.later) at stepping.moment_is in
    let is = subst (λ d. taken (one [] []) c.tape ≡ taken (of_step u d s came.past) b.tape) at (stepping.taken_is s) in
    record {
      past = stepping.later;
      whole = came.whole ∙ rest_step u n done s t came.past stepping.later stepped.Went less few there;
      stands = record { graphics = stepping.stands.graphics; sound = stepping.stands.sound; small = stepping.stands.small };
      taking = record {
        operations = joined came.taking.operations (of_step u done s came.past);
        count = further_count u n start before done s t came.past stepping.later b.tape c.tape stepped.Went less few there came.taking is;
        all = further_all u n start before done s t came.past stepping.later b.tape c.tape stepped.Went less few there came.taking is;
        tape_is = sym (taken_nothing c.tape) ∙ further_tape u n start before done s t came.past stepping.later b.tape c.tape stepped.Went less few there came.taking is;
      };
    }

-- one that leaves the frame
module _ (u : Setup) (n : ℕ) (start : Moment) (before : Taped) (done : ℕ) (s t : State) (b c : Board) (how : Stepped) (end : FrameEnd) (less : done < n) (few : done < 250000) (at : b.cycles ≡ done)
    (begins : 0 < b.devices.frames) (came : Came u n start before done s b) (step : Steps Answering Telling s b how t c)
    (ends : (past : List Happening) → after_step how (done + 1) t past ≡ left_by end t past) where
  ending : Stepping u (effect_of s) came.past b how t c
  ending = step_stands u came.past b c s t how begins came.stands step

  ending_at : after_effect u done (effect_of s) came.past ≡ after_step how (done + 1) t ending.later
  ending_at = subst (λ d. after_effect u d (effect_of s) came.past ≡ after_step how (d + 1) t ending.later) at ending.moment_is

  ending_taken : taken (one (waits how) []) c.tape ≡ taken (of_step u done s came.past) b.tape
  ending_taken = subst (λ d. taken (one (waits how) []) c.tape ≡ taken (of_step u d s came.past) b.tape) at (ending.taken_is s)

  pub came_end : (cycles : ℕ) (tape : Taped) → (after : List Happening) × ((left_within n u start ≡ left_by end t after) × BoardStands u after (record c { cycles = cycles; tape = tape }))
  came_end cycles tape = (
    ending.later,
    (
      (came.whole ∙ rest_step u n done s t came.past ending.later how less few ending_at ∙ ap (λ (m : Moment). rest_of (n - (done + 1)) u m) (ends ending.later)),
      record { graphics = ending.stands.graphics; sound = ending.stands.sound; small = ending.stands.small },
    ),
  )

  end_all : operations_within n u start ≡ joined came.taking.operations (of_step u done s came.past)
  end_all =
      further_all u n start before done s t came.past ending.later b.tape c.tape how less few ending_at came.taking ending_taken
      ∙ ap (λ (m : Moment). joined (joined came.taking.operations (of_step u done s came.past)) (rest_operations (n - (done + 1)) u m)) (ends ending.later)
      ∙ joined_end (joined came.taking.operations (of_step u done s came.past))

  pub noted_end : (tape : Taped) → tape ≡ taken (one (waits how) []) c.tape → IsNoted (operations_within n u start) before (record c { cycles = done + 1; tape = tape })
  noted_end tape is = record {
    tape = is ∙ further_tape u n start before done s t came.past ending.later b.tape c.tape how less few ending_at came.taking ending_taken ∙ ap (λ (o : Operations). taken o before) (sym end_all);
    count = sym (ap (λ (o : Operations). o.instructions) end_all ∙ further_count u n start before done s t came.past ending.later b.tape c.tape how less few ending_at came.taking ending_taken);
  }

-- all instructions were done
module _ (u : Setup) (n : ℕ) (start : Moment) (before : Taped) (done : ℕ) (s : State) (b : Board) (e : done ≡ 250000) (came : Came u n start before done s b) where
  pub came_full : (after : List Happening) × ((left_within n u start ≡ left_by Full s after) × BoardStands u after b)
  came_full = (came.past, ((came.whole ∙ ap (λ (m : Moment). rest_of (n - done) u m) (is_full done s came.past (equal_is done e))), came.stands))

  full_all : operations_within n u start ≡ came.taking.operations
  full_all =
      came.taking.all ∙ ap (λ (m : Moment). joined came.taking.operations (rest_operations (n - done) u m)) (is_full done s came.past (equal_is done e)) ∙ joined_end came.taking.operations

  pub noted_full : b.cycles ≡ done → IsNoted (operations_within n u start) before b
  noted_full at = record {
    tape = came.taking.tape_is ∙ ap (λ (o : Operations). taken o before) (sym full_all);
    count = at ∙ sym (ap (λ (o : Operations). o.instructions) full_all ∙ came.taking.count);
  }

pub ends_waited : (done : ℕ) (t : State) (past : List Happening) → after_step stepped.Waited done t past ≡ left_by Waited t past
unfolding after_step
ends_waited done t past = refl

pub ends_halted : (done : ℕ) (t : State) (past : List Happening) → after_step stepped.Halted done t past ≡ left_by Halted t past
unfolding after_step
ends_halted done t past = refl

pub ends_fault : (number done : ℕ) (t : State) (past : List Happening) → after_step (stepped.Fault number) done t past ≡ left_by (Fault number t.counter) t past
unfolding after_step
ends_fault number done t past = refl

pub ends_undecodable : (address done : ℕ) (t : State) (past : List Happening) → after_step (stepped.Undecodable address) done t past ≡ left_by (Undecodable address) t past
unfolding after_step
ends_undecodable address done t past = refl
