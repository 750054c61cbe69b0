-- What verdicts tell.
use Rattle.std.proofs.Common.{ℕ, ◌≡◌, ◌<◌, ◌⊎◌, inl, inr, Bool, true, false, length, refl, sym, ◌∙◌}
use Rattle.std.specs.Prelude.{◌||◌, nat_lt, if◌then◌else◌}
use Rattle.std.proofs.lemmas.Bool.{ltb-true, lt-ltb, false≢true}
use Rattle.c_meaning.specs.declared.end.End.{End}
use Rattle.c_meaning.specs.declared.end.End.TheVariants as end
use Rattle.c_meaning.specs.Runs.{Final}
use Rattle.c_watch.specs.declared.verdict.Watched.TheVariants.{Met, Stray, Deep}
use Rattle.c_watch.specs.Watching.{Fails, FailsBefore, verdict_of, watched_by, VerdictsTell}

failing_is_told : (e : End) → Fails e → verdict_of e ≡ Met → ⊥
failing_is_told end.Halted f m = f
failing_is_told (end.Fault number) f m = f
failing_is_told end.Starved f m = f
failing_is_told (end.Stray span) f m = absurd cc
failing_is_told (end.Deep span) f m = absurd cc
failing_is_told end.OutOfBound f m = f

met_or_fails : (e : End) → (verdict_of e ≡ Met) ⊎ Fails e
met_or_fails end.Halted = inl refl
met_or_fails (end.Fault number) = inl refl
met_or_fails end.Starved = inl refl
met_or_fails (end.Stray span) = inr tt
met_or_fails (end.Deep span) = inr tt
met_or_fails end.OutOfBound = inl refl

-- the test for 'before' decides it
module _ (events : ℕ) (ended : Bool) (x : Final) where
  abbrev is_before : Bool
  is_before = ended || nat_lt (length x.world.events) events

  before_tested : (e : Bool) → (e ≡ true) ⊎ (length x.world.events < events) → (e || nat_lt (length x.world.events) events) ≡ true
  before_tested true h = refl
  before_tested false (inl e) = absurd (false≢true e)
  before_tested false (inr h) = lt-ltb (length x.world.events) events h

  tested_before : (e : Bool) → (e || nat_lt (length x.world.events) events) ≡ true → (e ≡ true) ⊎ (length x.world.events < events)
  tested_before true h = inl refl
  tested_before false h = inr (ltb-true (length x.world.events) events h)

  fails_so : FailsBefore events ended x → watched_by events ended x ≡ verdict_of x.end
  unfolding watched_by
  fails_so f = rw (before_tested ended f.before) refl

  else_met : (FailsBefore events ended x → ⊥) → watched_by events ended x ≡ Met
  unfolding watched_by
  else_met kept = by_test is_before refl
    where
      by_test : (b : Bool) → is_before ≡ b → (if b then verdict_of x.end else Met) ≡ Met
      by_test false e = refl
      by_test true e = elim (met_or_fails x.end) [
        | inl met ↦ met
        | inr fails ↦ absurd (kept (record { fails = fails; before = tested_before ended e }))
      ]

pub verdicts_tell : VerdictsTell
verdicts_tell events ended x = record {
  met = λ m f. failing_is_told x.end f.fails (sym (fails_so events ended x f) ∙ m);
  else_met = else_met events ended x;
  fails = fails_so events ended x;
}
