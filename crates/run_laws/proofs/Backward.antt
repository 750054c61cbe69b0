-- From the words back to what is meant.
use Rattle.std.proofs.Common.{ℕ, ◌≡◌, ◌≢◌, ◌≤◌, ◌⊎◌, inl, inr, List, [], Option, refl, sym, subst, ◌∙◌, arith, append-nil}
use Rattle.std.proofs.lemmas.Bool.{cases_lt}
use Rattle.kit_base.specs.declared.event.Event.{Event}
use Rattle.v32_isa.specs.Runs.{End, Going, Undecodable, ExtendsFrom, Extends, opening, machine_runs}
use Rattle.v32_isa.specs.Runs as machine
use Rattle.v32_isa.proofs.LongerRuns.{runs_extend, run_stays}
use Rattle.obj_mem.specs.Runs.{Ending, Halted, Fault, Starved, Stray, Deep, OutOfBound, Run}
use Rattle.mid_code.specs.Agrees.{EndsAs}
use Rattle.run_laws.specs.Steps.{Begins, HasBegun, HasMade, EndsSo, GoesThatFar, HasDone, StepsAreMeant, NoWordIsUndecodable}

-- a shorter run is still going and begins the longer one, or the longer one is the same
split_from : (end : End) (short long : machine.Run) → short.end ≡ end → ExtendsFrom end short long →
    ((short.end ≡ Going) × Begins short.events long.events) ⊎ (long ≡ short)
split_from Going short long e h = inl (e, h)
split_from machine.Halted short long e h = inr h
split_from (machine.Fault number) short long e h = inr h
split_from machine.Starved short long e h = inr h
split_from (Undecodable address) short long e h = inr h

module _ (words answers : List ℕ) (card : Option (List ℕ)) (meant : Run) where
  abbrev runs : ℕ → machine.Run
  runs = machine_runs words answers card

  split : (m n : ℕ) → m ≤ n → (((runs m).end ≡ Going) × Begins (runs m).events (runs n).events) ⊎ (runs n ≡ runs m)
  split m n le = split_from (runs m).end (runs m) (runs n) refl (runs_extend m n (opening words card) answers le)

  has_begun : (m n : ℕ) → Begins (runs m).events (runs n).events → (runs m).end ≡ Going → (runs n).events ≡ meant.events → HasBegun meant (runs m)
  has_begun m n h g e = record { going = g; begins = (h.0, sym e ∙ h.1) }

  -- before the words have ended so, or behind
  before_end : (end : End) (last : ℕ) → HasMade end meant (runs last) → (steps : ℕ) → steps ≤ last → HasBegun meant (runs steps) ⊎ HasMade end meant (runs steps)
  before_end end last a steps le = elim (split steps last le) [
    | inl g ↦ inl (has_begun steps last g.1 g.0 a.same)
    | inr same ↦ inr (subst (HasMade end meant) same a)
  ]

  behind_end : (end : End) (last : ℕ) → end ≢ Going → HasMade end meant (runs last) → (steps : ℕ) → last ≤ steps → HasMade end meant (runs steps)
  behind_end end last other a steps le =
      let stays : runs steps ≡ runs last = run_stays last steps (opening words card) answers le (λ g. other (sym a.ended ∙ g)) in
      subst (HasMade end meant) (sym stays) a

  ends_so : (end : End) (last : ℕ) → end ≢ Going → HasMade end meant (runs last) → (steps : ℕ) → EndsSo end meant runs steps
  ends_so end last other a steps = record {
    at_last = (last, a);
    so_far = elim (cases_lt last steps) [
      | inl behind ↦ inr (behind_end end last other a steps (omega arith))
      | inr before ↦ before_end end last a steps before
    ];
  }

  -- while the words are going
  still_going : (last : ℕ) → HasMade Going meant (runs last) → (steps : ℕ) → steps ≤ last → HasBegun meant (runs steps)
  still_going last a steps le = elim (before_end Going last a steps le) [
    | inl way ↦ way
    | inr here ↦ record { going = here.ended; begins = ([], sym (append-nil _ ∙ here.same)) }
  ]

  after_going : (last : ℕ) → HasMade Going meant (runs last) → (steps : ℕ) → last ≤ steps → Begins meant.events (runs steps).events
  after_going last a steps le =
      let h : Begins (runs last).events (runs steps).events = subst (λ (end : End). ExtendsFrom end (runs last) (runs steps)) a.ended (runs_extend last steps (opening words card) answers le) in
      subst (λ (events : List Event). Begins events (runs steps).events) a.same h

  goes_that_far : (last : ℕ) → HasMade Going meant (runs last) → (steps : ℕ) → GoesThatFar meant runs steps
  goes_that_far last a steps = record {
    at_last = (last, a);
    so_far = elim (cases_lt last steps) [
      | inl behind ↦ inr (after_going last a steps (omega arith))
      | inr before ↦ inl (still_going last a steps before)
    ];
  }

  -- each way to end
  done : (addresses : List ℕ) (end : Ending) (bound last steps : ℕ) → (runs last).events ≡ meant.events → EndsAs addresses bound last end meant (runs last) →
      HasDone end bound meant runs steps
  done addresses Halted bound last steps e h = ends_so machine.Halted last (λ q. cc) (record { ended = h.0; same = e }) steps
  done addresses (Fault number) bound last steps e h = ends_so (machine.Fault number) last (λ q. cc) (record { ended = h.0; same = e }) steps
  done addresses Starved bound last steps e h = ends_so machine.Starved last (λ q. cc) (record { ended = h.0; same = e }) steps
  done addresses OutOfBound bound last steps e h = λ le. still_going last (record { ended = h.0; same = e }) steps (omega arith)
  done addresses Stray bound last steps e h = goes_that_far last (record { ended = h; same = e }) steps
  done addresses Deep bound last steps e h = goes_that_far last (record { ended = h; same = e }) steps

pub meant : StepsAreMeant
meant times addresses meaning words agrees bound answers card is_card steps =
    let found = agrees bound answers card is_card in
    done words answers card (meaning bound answers card) addresses (meaning bound answers card).end bound found.0 steps found.1.events found.1.ends

-- neither on the way nor at such an end does a word fail to decode
way_decodes : (meant : Run) (so_far : machine.Run) (address : ℕ) → HasBegun meant so_far → so_far.end ≡ Undecodable address → ⊥
way_decodes meant so_far address way e = let g : so_far.end ≡ Going = way.going in cc

so_decodes : (end : End) (meant : Run) (runs : ℕ → machine.Run) (steps address : ℕ) → end ≢ Undecodable address → EndsSo end meant runs steps →
    (runs steps).end ≡ Undecodable address → ⊥
so_decodes end meant runs steps address other h e = elim h.so_far [
  | inl way ↦ way_decodes meant (runs steps) address way e
  | inr here ↦ other (sym here.ended ∙ e)
]

done_decodes : (end : Ending) (bound : ℕ) (meant : Run) (runs : ℕ → machine.Run) (steps address : ℕ) → HasDone end bound meant runs steps →
    end ≢ Stray → end ≢ Deep → steps ≤ bound → (runs steps).end ≡ Undecodable address → ⊥
done_decodes Halted bound meant runs steps address h s d le e = so_decodes machine.Halted meant runs steps address (λ q. cc) h e
done_decodes (Fault number) bound meant runs steps address h s d le e = so_decodes (machine.Fault number) meant runs steps address (λ q. cc) h e
done_decodes Starved bound meant runs steps address h s d le e = so_decodes machine.Starved meant runs steps address (λ q. cc) h e
done_decodes OutOfBound bound meant runs steps address h s d le e = way_decodes meant (runs steps) address (h le) e
done_decodes Stray bound meant runs steps address h s d le e = absurd (s refl)
done_decodes Deep bound meant runs steps address h s d le e = absurd (d refl)

pub decodable : NoWordIsUndecodable
decodable times addresses meaning words agrees bound answers card is_card stray deep steps address le e =
    done_decodes (meaning bound answers card).end bound (meaning bound answers card) (machine_runs words answers card) steps address
    (meant times addresses meaning words agrees bound answers card is_card steps) stray deep le e
