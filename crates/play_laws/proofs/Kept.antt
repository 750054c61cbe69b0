-- A console that keeps to what is meant follows it.
use Rattle.std.proofs.Common.{ℕ, ◌≡◌, ◌≤◌, ◌<◌, ◌+◌, ◌⊎◌, inl, inr, Bool, true, false, List, [], ◌∷◌, ◌++◌, length, Option, refl, sym, ap, subst, ◌∙◌, arith, append-nil}
use Rattle.std.specs.Prelude.{◌↔◌}
use Rattle.std.proofs.lemmas.Bool.{cases_lt, false≢true}
use Rattle.std.proofs.lemmas.List.{length-append}
use Rattle.kit_base.specs.declared.event.Event.{Event}
use Rattle.v32_isa.specs.Runs as machine
use Rattle.obj_mem.specs.Runs.{Ending, Run}
use Rattle.obj_mem.specs.Runs as run
use Rattle.c_types.specs.Programs.{ProgramT}
use Rattle.c_meaning.specs.declared.end.End.{End}
use Rattle.c_meaning.specs.declared.end.End.TheVariants.{Halted, Fault, Starved, Stray, Deep, OutOfBound}
use Rattle.c_meaning.specs.Runs.{Final, final_of, ending, run_of}
use Rattle.c_watch.specs.declared.verdict.Watched.TheVariants.{Met}
use Rattle.c_watch.specs.Watching.{Fails, FailsBefore, Kept, watched_by}
use Rattle.c_watch.proofs.Telling.{verdicts_tell}
use Rattle.run_laws.specs.Steps.{Begins, HasBegun, HasMade}
use Rattle.play_laws.specs.Played.{RefinesBy, Refines}
use Rattle.play_laws.specs.Keeping.{FollowsBy, IsWholeBy}
use Rattle.play_laws.proofs.Extending.{IsOver, over_or_out, stays, makes_more}

fails_over : (e : End) → Fails e → IsOver e
fails_over Halted f = absurd f
fails_over (Fault number) f = absurd f
fails_over Starved f = absurd f
fails_over (Stray span) f = tt
fails_over (Deep span) f = tt
fails_over OutOfBound f = absurd f

none_behind : (rest : List Event) → length rest ≡ 0 → rest ≡ []
none_behind [] h = refl
none_behind (e ∷ rest) h = absurd (omega (arith, h))

-- so many operations, of which others are the beginning
counted : (front whole rest : List Event) → whole ≡ front ++ rest → length whole ≡ length front + length rest
counted front whole rest e = ap length e ∙ length-append front rest

-- A run of words so far, whether it has ended, and that it does as is meant with every bound from the number of its instructions on.
module _ (p : ProgramT) (frames answers : List ℕ) (card : Option (List ℕ)) (instructions : ℕ) (so_far : machine.Run) (ended : Bool)
    (goes : so_far.end ≡ machine.Going → ended ≡ false) (going : ended ≡ false → so_far.end ≡ machine.Going)
    (plays : (bound : ℕ) → instructions ≤ bound → Refines (run_of p (final_of p frames bound answers card)) so_far) where
  abbrev final : ℕ → Final
  final n = final_of p frames n answers card

  abbrev meant : ℕ → Run
  meant n = run_of p (final n)

  abbrev made : ℕ
  made = length so_far.events

  abbrev IsKept : Type 0
  IsKept = Kept p frames answers card made ended

  -- ---- one bound decides

  -- where the bound is used up, the words are going
  begun_by : (e : End) → e ≡ OutOfBound → (bound : ℕ) → RefinesBy (ending e) (meant bound) so_far → HasBegun (meant bound) so_far
  begun_by e out bound h = subst (λ (x : End). RefinesBy (ending x) (meant bound) so_far) out h

  not_over : (n : ℕ) → instructions + 1 ≤ n → (final (instructions + 1)).end ≡ OutOfBound → FailsBefore made ended (final n) → ⊥
  not_over n le out f =
      let begun : HasBegun (meant (instructions + 1)) so_far = begun_by (final (instructions + 1)).end out (instructions + 1) (plays (instructions + 1) (omega arith)) in
      let few : length (final (instructions + 1)).world.events ≡ made + length begun.begins.0 =
      counted so_far.events (final (instructions + 1)).world.events begun.begins.0 begun.begins.1 in
      let more : length (final (instructions + 1)).world.events ≤ length (final n).world.events = makes_more p frames answers card (instructions + 1) n le in
      elim f.before [
        | inl over ↦ false≢true (sym (goes begun.going) ∙ over)
        | inr before ↦ omega (arith, few, more, before)
      ]

  decided : (FailsBefore made ended (final (instructions + 1)) → ⊥) → IsKept
  decided none n f = elim (cases_lt (instructions + 1) n) [
    | inl above ↦ elim (over_or_out (final (instructions + 1)).end) [
      | inl over ↦ none (subst (FailsBefore made ended) (stays p frames answers card (instructions + 1) n (omega (arith, above)) over) f)
      | inr out ↦ not_over n (omega (arith, above)) out f
    ]
    | inr below ↦ none (subst (FailsBefore made ended) (sym (stays p frames answers card n (instructions + 1) below (fails_over (final n).end f.fails))) f)
  ]

  pub decides : IsKept ↔ (watched_by made ended (final (instructions + 1)) ≡ Met)
  decides =
      let told = verdicts_tell made ended (final (instructions + 1)) in
      (λ kept. told.else_met (kept (instructions + 1)), λ met. decided (told.met met))

  -- ---- the words follow what is meant

  module _ (kept : IsKept) (bound : ℕ) where
    -- A run that strays, or has no room, has as many operations as the words have made, which are still going.
    no_fewer : (e : End) → (final bound).end ≡ e → Fails e → made ≤ length (final bound).world.events
    no_fewer e is f = elim (cases_lt (length (final bound).world.events) made) [
      | inl before ↦ absurd (kept bound (record { fails = subst Fails (sym is) f; before = inr before }))
      | inr enough ↦ enough
    ]

    still_going : (e : End) → (final bound).end ≡ e → Fails e → (b : Bool) → ended ≡ b → so_far.end ≡ machine.Going
    still_going e is f true over = absurd (kept bound (record { fails = subst Fails (sym is) f; before = inl over }))
    still_going e is f false goes_yet = going goes_yet

    not_behind : (e : End) → (final bound).end ≡ e → Fails e → Begins (meant bound).events so_far.events → HasBegun (meant bound) so_far
    not_behind e is f b =
        let all : made ≡ length (final bound).world.events + length b.0 = counted (final bound).world.events so_far.events b.0 b.1 in
        let enough = no_fewer e is f in
        let nothing : b.0 ≡ [] = none_behind b.0 (omega (arith, all, enough)) in
        let same : so_far.events ≡ (meant bound).events = b.1 ∙ ap (λ (r : List Event). (meant bound).events ++ r) nothing ∙ append-nil (meant bound).events in
        record { going = still_going e is f ended refl; begins = ([], sym (append-nil so_far.events ∙ same)) }

    or_begun : (e : End) → (final bound).end ≡ e → Fails e → HasBegun (meant bound) so_far ⊎ Begins (meant bound).events so_far.events → HasBegun (meant bound) so_far
    or_begun e is f h = elim h [ inl begun ↦ begun | inr behind ↦ not_behind e is f behind ]

    follows_by : (e : End) → (final bound).end ≡ e → RefinesBy (ending e) (meant bound) so_far → FollowsBy (ending e) (meant bound) so_far
    follows_by Halted is h = h
    follows_by (Fault number) is h = h
    follows_by Starved is h = h
    follows_by (Stray span) is h = or_begun (Stray span) is tt h
    follows_by (Deep span) is h = or_begun (Deep span) is tt h
    follows_by OutOfBound is h = h

    pub follows : instructions ≤ bound → FollowsBy (ending (final bound).end) (meant bound) so_far
    follows le = follows_by (final bound).end refl (plays bound le)

  -- ---- and where they have ended they are the whole

  pub whole_by : (e : Ending) (r : Run) → ended ≡ true → FollowsBy e r so_far → IsWholeBy e r so_far
  whole_by run.Halted r over h = elim h [ inl begun ↦ absurd (false≢true (sym (goes begun.going) ∙ over)) | inr here ↦ here ]
  whole_by (run.Fault number) r over h = elim h [ inl begun ↦ absurd (false≢true (sym (goes begun.going) ∙ over)) | inr here ↦ here ]
  whole_by run.Starved r over h = false≢true (sym (goes h.going) ∙ over)
  whole_by run.Stray r over h = false≢true (sym (goes h.going) ∙ over)
  whole_by run.Deep r over h = false≢true (sym (goes h.going) ∙ over)
  whole_by run.OutOfBound r over h = false≢true (sym (goes h.going) ∙ over)

  pub whole : IsKept → ended ≡ true → IsWholeBy (ending (final (instructions + 1)).end) (meant (instructions + 1)) so_far
  whole kept over = whole_by (ending (final (instructions + 1)).end) (meant (instructions + 1)) over (follows kept (instructions + 1) (omega arith))
