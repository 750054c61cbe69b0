-- What the loop over steps keeps.
use Rattle.std.proofs.Common.{◌≡◌, ℕ, ◌+◌, ◌*◌, ◌≤◌, ◌<◌, arith, List, [], ◌∷◌, refl, ap, ◌∙◌}
use Rattle.kit_base.specs.declared.event.Event.{Event}
use Rattle.obj_mem.specs.Stores.{Store}
use Rattle.obj_mem.specs.Worlds.{bare}
use Rattle.c_meaning.specs.declared.end.End.{End}
use Rattle.c_meaning.specs.Setting.{Setting}
use Rattle.c_meaning.proofs.Past.{final_past}
use Rattle.c_evaluate.specs.declared.frame.Outcome.{Outcome}
use Rattle.c_evaluate.specs.declared.answer.Advanced.TheVariants.{Made, Ended}
use Rattle.c_evaluate.specs.declared.frame.Outcome.TheVariants.{Value, Place, Nothing}
use Rattle.c_evaluate.specs.Evaluation.{Gives}
use Rattle.c_evaluate.specs.inner.Machine.{OutcomeF, MadeF, FrameT, Config, Going, Over, V, val_at, whole, run_left, work_left}
use Rattle.c_evaluate.specs.inner.Turning.{GoesOn, stepped}
use Rattle.c_evaluate.specs.inner.Steps.{step}
use Rattle.c_evaluate.proofs.Before.{resume_past}
use Rattle.c_evaluate.proofs.Moving.{busy, load, size}
use Rattle.c_evaluate.specs.inner.Swift.{step_on, stepped_on}
use Rattle.c_evaluate.proofs.Stepping.{step_later}
use Rattle.c_evaluate.proofs.Reaching.{Reaches, here, further, step_reaches}

-- a port operation is given
module _ (s : Setting) (e : Event) (k : List FrameT) (u : Store) where
  made : (v : Outcome) → whole s (MadeF e v) k u ≡ final_past 0 (e ∷ []) (whole s (OutcomeF v) k u)
  unfolding whole
  made (Value c) = resume_past 0 (e ∷ []) s k (V (val_at (Value c) (bare u)))
  made (Place c) = resume_past 0 (e ∷ []) s k (V (val_at (Place c) (bare u)))
  made Nothing = resume_past 0 (e ∷ []) s k (V (val_at Nothing (bare u)))

  pub event_made : (v : Outcome) → Gives (Made e) (run_left s (Going (MadeF e v) k u)) (run_left s (Going (OutcomeF v) k u))
  event_made v = (ap (λ x. x.world.events) (made v), ap (λ x. x.end) (made v))

-- at the end nothing is left
pub run_ended : (s : Setting) (end : End) → Gives (Ended end) (run_left s (Over end)) (run_left s (Over end))
run_ended s end = (refl, refl, refl)

step_run : (s : Setting) (c : Config) → GoesOn c → run_left s c ≡ run_left s (stepped s c)
step_run s (Going f k u) g = (step_later s f k u g).left
step_run s (Over end) g = absurd g

step_falls : (s : Setting) (c : Config) → GoesOn c → 9 * work_left s (stepped s c) + size (stepped s c) < 9 * work_left s c + size c
step_falls s (Going f k u) g = let l = step_later s f k u g in falls_by (work_left s (Going f k u)) (work_left s (step s f k u)) (size (step s f k u)) (load k + busy f) l.ticks l.work l.falls
  where
    falls_by : (w w' z z' t : ℕ) → w ≡ t + w' → z < 9 * t + z' → 9 * w' + z < 9 * w + z'
    falls_by w w' z z' t e h = omega (arith, e, h)
step_falls s (Over end) g = absurd g

reached_run : (s : Setting) (c d : Config) → Reaches s c d → run_left s c ≡ run_left s d
reached_run s _ _ (here c) = refl
reached_run s _ _ (further f k u d g r) = (step_later s f k u g).left ∙ reached_run s (step s f k u) d r

reached_falls : (s : Setting) (c d : Config) → Reaches s c d → 9 * work_left s d + size d ≤ 9 * work_left s c + size c
reached_falls s _ _ (here c) = omega arith
reached_falls s _ _ (further f k u d g r) =
    let one : 9 * work_left s (step s f k u) + size (step s f k u) < 9 * work_left s (Going f k u) + size (Going f k u) = step_falls s (Going f k u) g in
    let all : 9 * work_left s d + size d ≤ 9 * work_left s (step s f k u) + size (step s f k u) = reached_falls s (step s f k u) d r in
    omega (arith, one, all)

-- so do several steps at once
steps_run : (s : Setting) (c : Config) → GoesOn c → run_left s c ≡ run_left s (stepped_on s c)
steps_run s (Going f k u) g = step_run s (Going f k u) g ∙ reached_run s (step s f k u) (step_on s f k u) (step_reaches s f k u)
steps_run s (Over end) g = absurd g

steps_fall : (s : Setting) (c : Config) → GoesOn c → 9 * work_left s (stepped_on s c) + size (stepped_on s c) < 9 * work_left s c + size c
steps_fall s (Going f k u) g =
    let one : 9 * work_left s (step s f k u) + size (step s f k u) < 9 * work_left s (Going f k u) + size (Going f k u) = step_falls s (Going f k u) g in
    let all : 9 * work_left s (step_on s f k u) + size (step_on s f k u) ≤ 9 * work_left s (step s f k u) + size (step s f k u) = reached_falls s (step s f k u) (step_on s f k u) (step_reaches s f k u) in
    omega (arith, one, all)
steps_fall s (Over end) g = absurd g

-- a turn of the loop over steps, between whose parts the setting stays
pub turn_keeps : (o q r : Setting) (c c1 c2 : Config) → q ≡ o → r ≡ q → GoesOn c1 → c1 ≡ c → c2 ≡ stepped_on r c1 → run_left o c2 ≡ run_left o c
turn_keeps o q r c c1 c2 eq er g e f = let k = steps_run r c1 g in cc

pub turn_falls : (q r t : Setting) (c c1 c2 : Config) → r ≡ q → t ≡ r → GoesOn c1 → c1 ≡ c → c2 ≡ stepped_on r c1 → 9 * work_left t c2 + size c2 < 9 * work_left q c + size c
turn_falls q r t c c1 c2 er et g e f =
    let a : work_left t c2 ≡ work_left r (stepped_on r c1) = cc in
    let b : work_left q c ≡ work_left r c1 = cc in
    let x : size c2 ≡ size (stepped_on r c1) = ap size f in
    let y : size c1 ≡ size c = ap size e in
    let h : 9 * work_left r (stepped_on r c1) + size (stepped_on r c1) < 9 * work_left r c1 + size c1 = steps_fall r c1 g in
    omega arith
