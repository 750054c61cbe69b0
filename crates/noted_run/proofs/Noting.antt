-- The frames of a run so far, and the notes of them.
use Rattle.std.proofs.Common.{ℕ, zero, suc, ◌+◌, ◌-◌, ◌<◌, ◌≡◌, Bool, true, false, List, [], ◌∷◌, ◌++◌, length, refl, sym, ap, subst, ◌∙◌, arith}
use Rattle.std.specs.Prelude.{if◌then◌else◌}
use Rattle.std.proofs.lemmas.List.{length-append}
use Rattle.v32_console.specs.declared.frame_end.FrameEnd.{FrameEnd}
use Rattle.v32_console.specs.declared.frame_end.FrameEnd.TheVariants.{Full}
use Rattle.v32_console.specs.Setup.{Setup}
use Rattle.v32_console.specs.Machine.{Operations, none, joined}
use Rattle.v32_console.specs.Moments.{Moment, Phase, Left, goes_on, opening_moment}
use Rattle.v32_console.specs.Frames.{frame_of, frames_of, frames_from}
use Rattle.v32_console.specs.Runs.{frame_operations, run_operations, where_on, last_after}
use Rattle.v32_console.specs.Stands.{Parts, ConsoleStands, IsAtRest}
use Rattle.v32_console.specs.Taking.{Noted, with_operations}
use Rattle.v32_console.proofs.Taken.{joined_none, joined_end, joined_assoc}
use Rattle.run_core.specs.Outputs.{end_of, last_moment, run_end}
use Rattle.run_core.proofs.Going.{last_is}
use Rattle.noted_run.specs.Notes.{AreNotes}

-- the operations before, and then those of a frame
pub notes_more : (o p : Operations) (before with_room after : Noted) → AreNotes o before → with_room.answers ≡ before.answers → with_room.events ≡ before.events
    → with_room.instructions ≡ before.instructions → after ≡ with_operations p with_room → AreNotes (joined o p) after
notes_more o p before with_room after are answers events instructions is =
    let long = length-append o.events p.events in
    let e = are.events_are in
    let i = are.instructions_are in
    record {
      answers_are = ap (λ (n : Noted). n.answers) is ∙ ap (λ (xs : List ℕ). xs ++ p.answers) (answers ∙ are.answers_are);
      events_are = ap (λ (n : Noted). n.events) is ∙ (omega (arith, long, e, events));
      instructions_are = ap (λ (n : Noted). n.instructions) is ∙ (omega (arith, i, instructions));
    }

-- Of a run of so many frames a number is left from this moment on. The operations before it are noted, and the console stands there.
pub record Follows (u : Setup) (count left : ℕ) (end : FrameEnd) (c : Parts) (n : Noted) : Type 0 where
  pub here : Moment
  pub before : Operations
  pub rest : IsAtRest here.phase
  pub stands : ConsoleStands u here c
  pub end_is : end_of here.phase ≡ end
  pub whole : run_operations count u (opening_moment u) ≡ joined before (run_operations left u here)
  pub notes_are : AreNotes before n
  pub last : last_moment u count ≡ last_after here (frames_of left u here)

-- the run is done
pub record IsDone (u : Setup) (count : ℕ) (end : FrameEnd) (n : Noted) : Type 0 where
  pub noted : AreNotes (run_operations count u (opening_moment u)) n
  pub end_is : end ≡ run_end u count

pub follows_first : (u : Setup) (count : ℕ) (c : Parts) (n : Noted) → ConsoleStands u (opening_moment u) c → AreNotes none n → Follows u count count Full c n
follows_first u count c n h are = record {
  here = opening_moment u;
  before = none;
  rest = tt;
  stands = h;
  end_is = refl;
  whole = sym (joined_none (run_operations count u (opening_moment u)));
  notes_are = are;
  last = sym (last_is u count);
}

one_more : (left : ℕ) → 0 < left → left ≡ suc (left - 1)
one_more left h = omega (arith, h)

frames_suc : (n : ℕ) (u : Setup) (m : Moment) → frames_of (suc n) u m ≡ frame_of u m ∷ frames_from (frame_of u m).phase (frames_of n u (frame_of u m))
unfolding frames_of
frames_suc n u m = refl

frames_none : (u : Setup) (m : Moment) → frames_of zero u m ≡ []
unfolding frames_of
frames_none u m = refl

frames_some : (left : ℕ) (u : Setup) (m : Moment) → 0 < left → frames_of left u m ≡ frame_of u m ∷ frames_from (frame_of u m).phase (frames_of (left - 1) u (frame_of u m))
frames_some left u m h = ap (λ n. frames_of n u m) (one_more left h) ∙ frames_suc (left - 1) u m

operations_suc : (n : ℕ) (u : Setup) (m : Moment) → run_operations (suc n) u m ≡ joined (frame_operations u m) (where_on (frame_of u m).phase (run_operations n u (frame_of u m)))
unfolding run_operations
operations_suc n u m = refl

operations_none : (u : Setup) (m : Moment) → run_operations zero u m ≡ none
unfolding run_operations
operations_none u m = refl

by_end : (b c : Bool) (later : List Moment) → b ≡ c → (if b then later else []) ≡ (if c then later else [])
by_end b c later e = ap (λ x. if x then later else []) e

by_end_of : (b c : Bool) (later : Operations) → b ≡ c → (if b then later else none) ≡ (if c then later else none)
by_end_of b c later e = ap (λ x. if x then later else none) e

-- a further frame, after which one may follow or none does
module _ (u : Setup) (count left : ℕ) (end : FrameEnd) (c : Parts) (n : Noted) (some : 0 < left) (f : Follows u count left end c n)
    (end' : FrameEnd) (c' : Parts) (room n' : Noted) (left_is : (frame_of u f.here).phase ≡ Left end') (stands : ConsoleStands u (frame_of u f.here) c')
    (answers : room.answers ≡ n.answers) (events : room.events ≡ n.events) (instructions : room.instructions ≡ n.instructions)
    (noted : n' ≡ with_operations (frame_operations u f.here) room) where
  abbrev before_now : Operations
  before_now = joined f.before (frame_operations u f.here)

  notes_now : AreNotes before_now n'
  notes_now = notes_more f.before (frame_operations u f.here) n room n' f.notes_are answers events instructions noted

  abbrev later_frames : List Moment
  later_frames = frames_of (left - 1) u (frame_of u f.here)

  abbrev later_operations : Operations
  later_operations = run_operations (left - 1) u (frame_of u f.here)

  -- these follow
  module _ (goes : Bool) (is : goes_on end' ≡ goes) where
    last_now : last_moment u count ≡ last_after (frame_of u f.here) (if goes then later_frames else [])
    last_now =
        f.last ∙ ap (last_after f.here) (frames_some left u f.here some)
        ∙ ap (λ p. last_after (frame_of u f.here) (frames_from p later_frames)) left_is
        ∙ ap (last_after (frame_of u f.here)) (by_end (goes_on end') goes later_frames is)

    whole_now : run_operations count u (opening_moment u) ≡ joined before_now (if goes then later_operations else none)
    whole_now =
        f.whole ∙ ap (λ k. joined f.before (run_operations k u f.here)) (one_more left some) ∙ ap (joined f.before) (operations_suc (left - 1) u f.here)
        ∙ ap (λ p. joined f.before (joined (frame_operations u f.here) (where_on p later_operations))) left_is
        ∙ ap (λ o. joined f.before (joined (frame_operations u f.here) o)) (by_end_of (goes_on end') goes later_operations is)
        ∙ joined_assoc f.before (frame_operations u f.here) (if goes then later_operations else none)

  pub follows_on : goes_on end' ≡ true → Follows u count (left - 1) end' c' n'
  follows_on goes = record {
    here = frame_of u f.here;
    before = before_now;
    rest = subst IsAtRest (sym left_is) goes;
    stands = stands;
    end_is = ap end_of left_is;
    whole = whole_now true goes;
    notes_are = notes_now;
    last = last_now true goes;
  }

  pub follows_ends : goes_on end' ≡ false → IsDone u count end' n'
  follows_ends stops = record {
    noted = subst (λ (o : Operations). AreNotes o n') (sym (whole_now false stops ∙ joined_end before_now)) notes_now;
    end_is = sym (ap (λ (m : Moment). end_of m.phase) (last_now false stops) ∙ ap end_of left_is);
  }

-- none is left
pub follows_done : (u : Setup) (count left : ℕ) (end : FrameEnd) (c : Parts) (n : Noted) → left ≡ 0 → Follows u count left end c n → IsDone u count end n
follows_done u count left end c n none_left f =
    let last : last_moment u count ≡ f.here = f.last ∙ ap (λ k. last_after f.here (frames_of k u f.here)) none_left ∙ ap (last_after f.here) (frames_none u f.here) in
    let whole : run_operations count u (opening_moment u) ≡ f.before =
    f.whole ∙ ap (λ k. joined f.before (run_operations k u f.here)) none_left ∙ ap (joined f.before) (operations_none u f.here) ∙ joined_end f.before in
    record {
      noted = subst (λ (o : Operations). AreNotes o n) (sym whole) f.notes_are;
      end_is = sym (ap (λ (m : Moment). end_of m.phase) last ∙ f.end_is);
    }
