-- The verdict on what is left of a run.
use Rattle.std.proofs.Common.{ℕ, suc, ◌≡◌, ◌-◌, ◌<◌, ◌⊎◌, inl, inr, Bool, true, false, List, length, refl, sym, ap, ◌∙◌, arith}
use Rattle.std.specs.Prelude.{◌||◌, nat_lt, if◌then◌else◌}
use Rattle.std.proofs.lemmas.Bool.{lt-ltb, ltb-true, ltb_from_iff, false≢true}
use Rattle.kit_base.specs.declared.event.Event.{Event}
use Rattle.c_meaning.specs.declared.end.End.{End}
use Rattle.c_meaning.specs.Runs.{Final}
use Rattle.c_evaluate.specs.declared.answer.Advanced.TheVariants.{Made, Ended}
use Rattle.c_evaluate.specs.Evaluation.{Left, left_of, Gives}
use Rattle.c_watch.specs.declared.verdict.Watched.{Watched}
use Rattle.c_watch.specs.declared.verdict.Watched.TheVariants.{Met}
use Rattle.c_watch.specs.Watching.{verdict_of, watched_by}

-- with so many port operations of the recorded run left
unfoldable pub watched_left : (left : ℕ) → (ended : Bool) → Left → Watched
watched_left left ended r = if ended || nat_lt (length r.events) left then verdict_of r.end else Met

pub whole : (events : ℕ) (ended : Bool) (x : Final) → watched_left events ended (left_of x) ≡ watched_by events ended x
unfolding watched_left watched_by
whole events ended x = refl

fewer : (n left : ℕ) → nat_lt n (left - 1) ≡ nat_lt (suc n) left
fewer n left =
    ltb_from_iff (λ e. let h : n < left - 1 = ltb-true n (left - 1) e in (omega (arith, h)), λ h. lt-ltb n (left - 1) (omega (arith, h)))

-- a port operation is made: of both one is left fewer
pub made_one : (e : Event) (left : ℕ) (ended : Bool) (before after : Left) → Gives (Made e) before after → watched_left (left - 1) ended after ≡ watched_left left ended before
unfolding watched_left
made_one e left ended before after g =
    let counts : nat_lt (length after.events) (left - 1) ≡ nat_lt (length before.events) left =
    fewer (length after.events) left ∙ ap (λ (es : List Event). nat_lt (length es) left) (sym g.0) in
    let ends : after.end ≡ before.end = sym g.1 in
    λ i. if ended || counts i then verdict_of (ends i) else Met

-- the run is at its end before the recorded one
pub at_end : (end : End) (left : ℕ) (ended : Bool) (before after : Left) → (ended ≡ true) ⊎ (0 < left) → Gives (Ended end) before after → watched_left left ended before ≡ verdict_of end
unfolding watched_left
at_end end left true before after h g = ap verdict_of g.1
at_end end left false before after (inl e) g = absurd (false≢true e)
at_end end left false before after (inr h) g =
    let some : nat_lt (length before.events) left ≡ true = ap (λ (es : List Event). nat_lt (length es) left) g.0 ∙ lt-ltb 0 left h in
    ap (λ b. if b then verdict_of before.end else Met) some ∙ ap verdict_of g.1

-- none is left, and the recorded run did not end
pub met : (left : ℕ) (ended : Bool) (r : Left) → left ≡ 0 → ended ≡ false → watched_left left ended r ≡ Met
unfolding watched_left
met left true r none e = absurd (false≢true (sym e))
met left false r none e = by_test (nat_lt (length r.events) left) refl
  where
    by_test : (b : Bool) → nat_lt (length r.events) left ≡ b → (if b then verdict_of r.end else Met) ≡ Met
    by_test false e = refl
    by_test true e = let before : length r.events < left = ltb-true (length r.events) left e in absurd (omega (arith, before, none))
