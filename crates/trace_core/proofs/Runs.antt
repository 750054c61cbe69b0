-- The text of a run, step by step.
use Rattle.std.proofs.Common.{ℕ, suc, ◌-◌, ◌<◌, ◌≡◌, arith, List, [], ◌∷◌, ◌++◌, refl, sym, ap, subst, ◌∙◌, append_assoc}
use Rattle.std.specs.Prelude.{Option, Some, None, Ok, flat_map, codes}
use Rattle.std.proofs.lemmas.List.Concat.{flat_map-cons}
use Rattle.kit_base.specs.declared.event.Event.{Event}
use Rattle.kit_base.specs.declared.event.Event.TheVariants as event
use Rattle.v32_isa.specs.declared.stepped.Stepped.{Stepped}
use Rattle.v32_isa.specs.declared.stepped.Stepped.TheVariants as stepped
use Rattle.v32_isa.specs.State.{State}
use Rattle.v32_isa.specs.Machine.{Steps}
use Rattle.v32_isa.specs.Runs.{Run, run, after}
use Rattle.cpu_core.specs.Answers.{Answers, Answering, Telling}
use Rattle.cpu_core.specs.Stepping.{run_from}
use Rattle.cpu_core.proofs.Outcomes.{run_of_step}
use Rattle.trace_core.specs.Texts.{event_line, end_line, run_text}
use Rattle.trace_core.specs.Putting.{putting, HasPut, HasPutFront}
use Rattle.trace_core.specs.inner.Steps.{event_of, step_text, last_line, rest_of, StepPuts}
use Rattle.trace_core.proofs.Puts.{nothing_put, put_more, put_onto, front_more, front_of_piece}

text_after : (e : Event) (r : Run) → run_text (after e r) ≡ event_line e ++ run_text r
unfolding run_text
text_after e r = ap (λ x. x ++ end_line r.end r.state.counter) (flat_map-cons event_line e r.events) ∙ append_assoc (event_line e) (flat_map event_line r.events) (end_line r.end r.state.counter)

text_of_step : (how : Stepped) (n : ℕ) (t : State) (left : List ℕ) (made : Option Event)
    → run_text (run_from how n t left made) ≡ step_text (event_of how made) ++ run_text (rest_of how n t left)
text_of_step stepped.Went n t left None = refl
text_of_step stepped.Went n t left (Some e) = text_after e (run n t left)
text_of_step stepped.Waited n t left made = text_after event.Wait (run n t left)
text_of_step stepped.Halted n t left made = refl
text_of_step stepped.Starved n t left made = refl
text_of_step (stepped.Fault number) n t left made = refl
text_of_step (stepped.Undecodable address) n t left made = refl

-- the text of a run of one step more
pub text_by_step : (n : ℕ) (s t : State) (b c : Answers) (how : Stepped) → b.made ≡ None → Steps Answering Telling s b how t c
    → run_text (run (suc n) s b.left) ≡ step_text (event_of how c.made) ++ run_text (rest_of how n t c.left)
text_by_step n s t b c how none h = ap run_text (run_of_step n s t b c how none h) ∙ text_of_step how n t c.left c.made

-- the step's line was put
pub step_put : (n : ℕ) (s t : State) (b c : Answers) (how : Stepped) (before now : Option (List ℕ)) → b.made ≡ None → Steps Answering Telling s b how t c
    → now ≡ putting (step_text (event_of how c.made)) before → StepPuts (run_text (run (suc n) s b.left)) (Ok how) n t c.left before now
step_put n s t b c how before now none h p =
    let whole = text_by_step n s t b c how none h in
    put_more _ (step_text (event_of how c.made)) (run_text (rest_of how n t c.left)) before before now
    (subst (λ x. HasPut (run_text (run (suc n) s b.left)) x before before) whole (nothing_put (run_text (run (suc n) s b.left)) before)) p

-- the sink refused it
pub step_unput : (n : ℕ) (s t : State) (b c : Answers) (how : Stepped) (before now : Option (List ℕ)) → b.made ≡ None → Steps Answering Telling s b how t c
    → HasPutFront (step_text (event_of how c.made)) before now → HasPutFront (run_text (run (suc n) s b.left)) before now
step_unput n s t b c how before now none h p =
    subst (λ x. HasPutFront x before now) (sym (text_by_step n s t b c how none h)) (front_of_piece (step_text (event_of how c.made)) (run_text (rest_of how n t c.left)) before now p)

-- ---- from the steps to the run

module _ (whole : List ℕ) (left : ℕ) (s : State) (a : List ℕ) (first before now : Option (List ℕ))
    (some : 0 < left) (h : HasPut whole (run_text (run left s a)) first before) where
  one_more : suc (left - 1) ≡ left
  one_more = omega arith

  pub run_refused : ((n : ℕ) → HasPutFront (run_text (run (suc n) s a)) before now) → HasPutFront whole first now
  run_refused k =
      front_more whole (run_text (run left s a)) first before now h (subst (λ n. HasPutFront (run_text (run n s a)) before now) one_more (k (left - 1)))

  pub run_stepped : (how : Stepped) (t : State) (b : List ℕ) → ((n : ℕ) → HasPut (run_text (run (suc n) s a)) (run_text (rest_of how n t b)) before now)
      → HasPut whole (run_text (rest_of how (left - 1) t b)) first now
  run_stepped how t b k =
      put_onto whole (run_text (run left s a)) _ first before now h (subst (λ n. HasPut (run_text (run n s a)) (run_text (rest_of how (left - 1) t b)) before now) one_more (k (left - 1)))

-- the run ends with the step
pub rest_ends : (how : Stepped) (n : ℕ) (t : State) (b line : List ℕ) → last_line how t.counter ≡ Some line → run_text (rest_of how n t b) ≡ line
unfolding run_text
rest_ends stepped.Went n t b line e = absurd cc
rest_ends stepped.Waited n t b line e = absurd cc
rest_ends stepped.Halted n t b line e = cc e
rest_ends stepped.Starved n t b line e = cc e
rest_ends (stepped.Fault number) n t b line e = cc e
rest_ends (stepped.Undecodable at) n t b line e = cc e

-- it goes on
pub rest_goes : (how : Stepped) (n address : ℕ) (t : State) (b : List ℕ) → last_line how address ≡ None → run_text (rest_of how n t b) ≡ run_text (run n t b)
rest_goes stepped.Went n address t b e = refl
rest_goes stepped.Waited n address t b e = refl
rest_goes stepped.Halted n address t b e = absurd cc
rest_goes stepped.Starved n address t b e = absurd cc
rest_goes (stepped.Fault number) n address t b e = absurd cc
rest_goes (stepped.Undecodable at) n address t b e = absurd cc

-- all steps are done
pub none_left : (left : ℕ) (s : State) (a : List ℕ) → left ≡ 0 → run_text (run left s a) ≡ codes "going" ++ 10 ∷ []
unfolding run run_text
none_left left s a e = rw e refl
