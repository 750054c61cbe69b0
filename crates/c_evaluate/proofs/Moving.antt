-- On from a part of a step: where it is over, and where it goes on.
use Rattle.std.proofs.Common.{◌≡◌, ℕ, ◌+◌, ◌*◌, ◌≤◌, ◌<◌, arith, Bool, true, false, List, [], ◌∷◌, Result, Ok, Err, ap, ◌∙◌}
use Rattle.c_tree.specs.declared.span.Span.{Span}
use Rattle.c_types.specs.Typed.{TExprT}
use Rattle.obj_mem.specs.declared.cell.Cell.{Cell}
use Rattle.obj_mem.specs.declared.refusal.Refusal.TheVariants.{Strays, Faults}
use Rattle.obj_mem.specs.Stores.{Store}
use Rattle.obj_mem.specs.Worlds.{World, with_past, bare}
use Rattle.obj_mem.specs.Queries.{Answer}
use Rattle.c_meaning.specs.declared.end.End.{End}
use Rattle.c_meaning.specs.declared.end.End.TheVariants.{Fault, Stray}
use Rattle.c_meaning.specs.Outcomes.{Val, Stops, Went, CutOff, Done, Ended, asked, then_value, then_place, then_went, either_way}
use Rattle.c_meaning.specs.Kinds.{type_of, span_of}
use Rattle.c_types.specs.Kinds.{decayed}
use Rattle.c_meaning.specs.Setting.{Setting}
use Rattle.c_meaning.specs.Operators.{is_true}
use Rattle.c_meaning.specs.Cells.{fetched, released}
use Rattle.c_meaning.specs.Expressions.{with_value, tested, dropped_value, dropped}
use Rattle.c_meaning.specs.Runs.{Final, final}
use Rattle.c_meaning.proofs.Past.{final_past}
use Rattle.c_evaluate.specs.declared.frame.Outcome.{Outcome}
use Rattle.c_evaluate.specs.declared.frame.Outcome.TheVariants.{Value, Place, Nothing}
use Rattle.c_evaluate.specs.Evaluation.{left_of}
use Rattle.c_evaluate.specs.inner.Storing.{Kept, With, at_span, then_ok, fetched_in, taken, tested_in, dropped_in, placed_in}
use Rattle.c_evaluate.specs.inner.Machine.{FocusT, EvalF, FillF, DoF, OutcomeF, MadeF, ExitF, FullF, FrameT, FirstW, SecondW, ArgumentW, BackW, ValueW, StepW, BodyW, BeginW, RestW, ArmsW, EndW, SwitchW, OneW, ItemsW, VarsW, FilledW, MainW, Config, Going, Over, V, D, W, resume, val_at, result_of, whole, run_left, work_left}
use Rattle.c_evaluate.specs.inner.Steps.{on, either_of}
use Rattle.c_evaluate.proofs.Before.{resume_past, result_past}
use Rattle.c_evaluate.proofs.Ending.{val_ends, done_ends, went_ends}
use Rattle.c_evaluate.proofs.Linked.{spent, Keeps, Holds, fetched_held}

-- ---- how near the end a configuration is

abbrev pub busy : FocusT → ℕ
busy (EvalF n x) = 0
busy (FillF n i ty p) = 0
busy (DoF n r a) = 0
busy (OutcomeF v) = 1
busy (MadeF e v) = 1
busy (ExitF h) = 1
busy FullF = 1

-- the weight of a frame: more than the frames that are put in its place
abbrev pub weight : FrameT → ℕ
weight (FirstW n x) = 1
weight (SecondW n x c) = 1
weight (ArgumentW n f span vs xs) = 2
weight (BackW f vs r span c) = 1
weight (ValueW n r a) = 3
weight (StepW n r a) = 3
weight (BodyW n r a) = 3
weight (BeginW n r a) = 3
weight (RestW n r rest) = 1
weight (ArmsW n r rest) = 1
weight (EndW made) = 1
weight SwitchW = 1
weight (OneW n ty x p) = 1
weight (ItemsW n rest ty k p) = 1
weight (VarsW n vars) = 1
weight FilledW = 1
weight (MainW n main) = 1

abbrev pub load : List FrameT → ℕ
load [] = 0
load (f ∷ k) = weight f + load k

abbrev pub size : Config → ℕ
size (Going f k u) = load k + busy f
size (Over end) = 0

-- The run is kept, with the work of the step, and the step comes nearer to its end. `room` is the size before.
pub record Later (s : Setting) (run : Final) (room : ℕ) (c : Config) : Type 0 where
  pub ticks : ℕ
  pub left : left_of run ≡ run_left s c
  pub work : run.world.work ≡ ticks + work_left s c
  pub falls : size c < 9 * ticks + room

spent_past : (d : ℕ) (u : Store) → spent d u ≡ with_past d [] (bare u)
spent_past d u = ap (spent' u) (omega arith)
  where
    spent' : Store → ℕ → World
    spent' u d = record { store = u; events = []; work = d }

-- on to a focus
pub to : (s : Setting) (run : Final) (room d : ℕ) (f : FocusT) (k : List FrameT) (u : Store) → run ≡ resume s k (result_of s f (spent d u)) → load k + busy f < 9 * d + room → Later s run room (Going f k u)
unfolding whole
to s run room d f k u e h =
    let same : run ≡ final_past d [] (resume s k (result_of s f (bare u))) = e ∙ ap (λ w. resume s k (result_of s f w)) (spent_past d u) ∙ ap (resume s k) (result_past d [] s f (bare u)) ∙ resume_past d [] s k (result_of s f (bare u)) in
    record { ticks = d; left = ap left_of same; work = ap (λ x. x.world.work) same; falls = h }

-- the run is over
pub over : (s : Setting) (run : Final) (room d : ℕ) (end : End) (u : Store) → run ≡ final end (spent d u) → 0 < 9 * d + room → Later s run room (Over end)
over s run room d end u e h = record { ticks = d; left = ap left_of e; work = ap (λ x. x.world.work) e ∙ zero_more d; falls = h }
  where
    zero_more : (d : ℕ) → d ≡ d + 0
    zero_more d = omega arith

-- how the rest of the run goes on from outcomes of a kind
pub record Way (R : Type 0) : Type 0 where
  pub stop : End → World → R
  pub rest : R → Final
  pub ends : (e : End) (w : World) → rest (stop e w) ≡ final e w

abbrev pub val_way : Setting → List FrameT → Way Val
val_way s k = record { stop = Stops; rest = λ r. resume s k (V r); ends = λ e w. val_ends s e w k }

abbrev pub done_way : Setting → List FrameT → Way Done
done_way s k = record { stop = Ended; rest = λ r. resume s k (D r); ends = λ e w. done_ends s e w k }

abbrev pub went_way : Setting → List FrameT → Way Went
went_way s k = record { stop = CutOff; rest = λ r. resume s k (W r); ends = λ e w. went_ends s e w k }

module _ (s : Setting) {R : Type 0} (way : Way R) (run : Final) (room : ℕ) where
  pub over_later : (d : ℕ) (end : End) (u : Store) → run ≡ way.rest (way.stop end (spent d u)) → 0 < 9 * d + room → Later s run room (Over end)
  over_later d end u e h = over s run room d end u (e ∙ way.ends end (spent d u)) h

  pub asked_later : {A : Type 0} (d : ℕ) (u : Store) (span : Span) (x : Answer A) (go : A → R) (next : A → Config) → run ≡ way.rest (asked way.stop span (spent d u) x go) → 0 < 9 * d + room → ((a : A) → run ≡ way.rest (go a) → Later s run room (next a)) → Later s run room (on (at_span span x) next)
  asked_later d u span (Ok a) go next e h f = f a e
  asked_later d u span (Err Strays) go next e h f = over_later d (Stray span) u e h
  asked_later d u span (Err (Faults k)) go next e h f = over_later d (Fault k) u e h

  pub more_room : (low d : ℕ) → low ≤ d → 0 < 9 * low + room → 0 < 9 * d + room
  more_room low d le h = omega (arith, le, h)

  -- behind a loop over cells or a store
  pub kept_later : (low : ℕ) (r : Went) (q : Kept) (go : World → R) (next : Store → Config) → Keeps low r q → run ≡ way.rest (then_went way.stop r go) → 0 < 9 * low + room → ((d : ℕ) (t : Store) → low ≤ d → run ≡ way.rest (go (spent d t)) → Later s run room (next t)) → Later s run room (on q next)
  kept_later low r (Ok t) go next x e h f = f x.0 t x.1 (e ∙ ap (λ z. way.rest (then_went way.stop z go)) x.2)
  kept_later low r (Err end) go next x e h f = over_later x.0 end x.1 (e ∙ ap (λ z. way.rest (then_went way.stop z go)) x.3) (more_room low x.0 x.2 h)

  -- behind a value that is read
  pub held_later : (low : ℕ) (span : Span) (r : Val) (q : With Cell) (go : Cell → World → R) (next : (Cell × Store) → Config) → Holds low r q → run ≡ way.rest (then_value way.stop span r go) → 0 < 9 * low + room → ((d : ℕ) (c : Cell) (t : Store) → low ≤ d → run ≡ way.rest (go c (spent d t)) → Later s run room (next (c, t))) → Later s run room (on q next)
  held_later low span r (Ok t) go next x e h f = f x.0 t.0 t.1 x.1 (e ∙ ap (λ z. way.rest (then_value way.stop span z go)) x.2)
  held_later low span r (Err end) go next x e h f = over_later x.0 end x.1 (e ∙ ap (λ z. way.rest (then_value way.stop span z go)) x.3) (more_room low x.0 x.2 h)

  -- what came, as a value
  pub taken_later : (n d : ℕ) (x : TExprT) (v : Outcome) (u : Store) (go : Cell → World → R) (next : (Cell × Store) → Config) → run ≡ way.rest (with_value way.stop s n x (val_at v (spent d u)) go) → 0 < 9 * d + room → ((e : ℕ) (c : Cell) (t : Store) → d ≤ e → run ≡ way.rest (go c (spent e t)) → Later s run room (next (c, t))) → Later s run room (on (taken s n x v u) next)
  taken_later n d x (Value c) u go next e h f = f d c u (omega arith) e
  taken_later n d x (Place p) u go next e h f = held_later d (span_of x) (fetched s n (type_of x) (span_of x) p (spent d u)) (fetched_in s n (type_of x) (span_of x) p u) go next (fetched_held s n d (type_of x) (span_of x) p d u (omega arith)) e h f
  taken_later n d x Nothing u go next e h f = over_later d (Stray (span_of x)) u e h

  pub on_then : {A B : Type 0} (q : Result A End) (f : A → Result B End) (next : B → Config) → Later s run room (on q (λ a. on (f a) next)) → Later s run room (on (then_ok q f) next)
  on_then (Ok a) f next l = l
  on_then (Err end) f next l = l

  either_later : (b : Bool) (w : World) (go other : World → R) (x y : Config) → run ≡ way.rest (either_way b w go other) → (run ≡ way.rest (go w) → Later s run room x) → (run ≡ way.rest (other w) → Later s run room y) → Later s run room (either_of b x y)
  either_later true w go other x y e f g = f e
  either_later false w go other x y e f g = g e

  -- a Boolean, looked at by cases
  pub told_later : (b : Bool) (t : Store) (w : World) (go other : World → R) (next : (Bool × Store) → Config) → run ≡ way.rest (either_way b w go other) → (run ≡ way.rest (go w) → Later s run room (next (true, t))) → (run ≡ way.rest (other w) → Later s run room (next (false, t))) → Later s run room (next (b, t))
  told_later true t w go other next e f g = f e
  told_later false t w go other next e f g = g e

  -- what came, as a condition
  pub tested_later : (n d : ℕ) (x : TExprT) (v : Outcome) (u : Store) (go other : World → R) (next : (Bool × Store) → Config) → run ≡ way.rest (tested way.stop s n x (val_at v (spent d u)) go other) → 0 < 9 * d + room → ((e : ℕ) (t : Store) → d ≤ e → run ≡ way.rest (go (spent e t)) → Later s run room (next (true, t))) → ((e : ℕ) (t : Store) → d ≤ e → run ≡ way.rest (other (spent e t)) → Later s run room (next (false, t))) → Later s run room (on (tested_in s n x v u) next)
  tested_later n d x v u go other next e h f g =
      on_then (taken s n x v u) _ next
      (taken_later n d x v u _ _ e h (λ z c t le q.
      on_then (at_span (span_of x) (is_true t.objects (decayed (type_of x)) c)) _ next
      (asked_later z t (span_of x) (is_true t.objects (decayed (type_of x)) c) _ _ q (more_room d z le h) (λ b q1.
      told_later b t (spent z t) go other next q1 (f z t le) (g z t le)))))

  -- what was read, dropped
  dropped_held : (low : ℕ) (x : TExprT) (r : Val) (q : With Cell) (go : World → R) (next : Store → Config) → Holds low r q → run ≡ way.rest (dropped_value way.stop x r go) → 0 < 9 * low + room → ((e : ℕ) (t : Store) → low ≤ e → run ≡ way.rest (go (spent e t)) → Later s run room (next t)) → Later s run room (on q (λ t. next (released (type_of x) t.0 t.1)))
  dropped_held low x r (Ok t) go next y e h f = f y.0 (released (type_of x) t.0 t.1) y.1 (e ∙ ap (λ z. way.rest (dropped_value way.stop x z go)) y.2)
  dropped_held low x r (Err end) go next y e h f = over_later y.0 end y.1 (e ∙ ap (λ z. way.rest (dropped_value way.stop x z go)) y.3) (more_room low y.0 y.2 h)

  -- what came, dropped
  pub dropped_later : (n d : ℕ) (x : TExprT) (v : Outcome) (u : Store) (go : World → R) (next : Store → Config) → run ≡ way.rest (dropped way.stop s n x (val_at v (spent d u)) go) → 0 < 9 * d + room → ((e : ℕ) (t : Store) → d ≤ e → run ≡ way.rest (go (spent e t)) → Later s run room (next t)) → Later s run room (on (dropped_in s n x v u) next)
  dropped_later n d x (Value c) u go next e h f = f d (released (type_of x) c u) (omega arith) e
  dropped_later n d x (Place p) u go next e h f = on_then (fetched_in s n (type_of x) (span_of x) p u) _ next (dropped_held d x (fetched s n (type_of x) (span_of x) p (spent d u)) (fetched_in s n (type_of x) (span_of x) p u) go next (fetched_held s n d (type_of x) (span_of x) p d u (omega arith)) e h f)
  dropped_later n d x Nothing u go next e h f = f d u (omega arith) e

-- what came, as a place
pub placed_later : (s : Setting) (k : List FrameT) (run : Final) (room d : ℕ) (span : Span) (v : Outcome) (u : Store) (go : Cell → World → Val) (next : Cell → Config) → run ≡ resume s k (V (then_place span (val_at v (spent d u)) go)) → 0 < 9 * d + room → ((p : Cell) → run ≡ resume s k (V (go p (spent d u))) → Later s run room (next p)) → Later s run room (on (placed_in span v) next)
placed_later s k run room d span (Value c) u go next e h f = over_later s (val_way s k) run room d (Stray span) u e h
placed_later s k run room d span (Place p) u go next e h f = f p e
placed_later s k run room d span Nothing u go next e h f = over_later s (val_way s k) run room d (Stray span) u e h
