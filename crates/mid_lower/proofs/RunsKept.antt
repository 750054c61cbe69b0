-- Programs: their code follows them, so it keeps their runs in at most 64 times the work.
use Rattle.std.specs.Prelude.{◌≢◌}
use Rattle.std.proofs.Common.{◌≡◌, ℕ, zero, suc, ◌+◌, ◌*◌, ◌≤◌, Bool, true, false, List, [], ◌∷◌, ◌++◌, map, length, slice_get, Option, Some, None, refl, sym, ap, ◌∙◌, subst, arith, if◌then◌else◌}
use Rattle.std.proofs.lemmas.Bool.{false≢true}
use Rattle.c_types.specs.Types.{Ty, VoidY, IntY, BoolY, EnumY, StructY, UnionY, PointerY, ArrayY}
use Rattle.c_types.specs.View.{tstmts}
use Rattle.c_types.specs.Programs.{TFunctionT, ProgramT}
use Rattle.obj_mem.specs.Objects.{ObjectT, object_at, global_object, literal_object, card_object, opening_objects}
use Rattle.obj_mem.specs.declared.cell.Cell.{Cell}
use Rattle.obj_mem.specs.declared.cell.Cell.TheVariants.{Unwritten, Num}
use Rattle.obj_mem.specs.Stores.{next_object, with_temporary}
use Rattle.obj_mem.specs.Worlds.{World, on_store, spend}
use Rattle.obj_mem.specs.Runs as run
use Rattle.c_meaning.specs.declared.end.End.{End}
use Rattle.c_meaning.specs.declared.end.End.TheVariants.{Halted, Fault, Starved, Stray, Deep, OutOfBound}
use Rattle.c_types.specs.Kinds.{is_structure, is_void}
use Rattle.c_meaning.specs.Outcomes.{Val, Value, Place, NoValue, Stops, Done, Goes, Breaks, Continues, Returns, Ended, nowhere}
use Rattle.c_meaning.specs.Setting.{Setting, setting, words}
use Rattle.c_meaning.specs.Expressions as src
use Rattle.c_meaning.specs.Statements.{does_all}
use Rattle.c_meaning.specs.Runs as c
use Rattle.c_meaning.specs.Runs.{ending}
use Rattle.mid_code.specs.Code.{Stop, CodeT}
use Rattle.mid_code.specs.Meaning.{Res, Next, Leaves, Repeats, Returns, Over, then_next, called}
use Rattle.mid_code.specs.States.{temporaries}
use Rattle.mid_code.specs.Runs as mid
use Rattle.mid_code.specs.Keeps.{WorksAtMost, KeepsRuns, KeepsRun, SameRun, global_cell}
use Rattle.mid_code.specs.inner.Passing.{Prefix}
use Rattle.lower_trees.specs.Shape.{shape}
use Rattle.lower_trees.specs.Pieces.{coded}
use Rattle.lower_trees.specs.Parts.{first_param}
use Rattle.lower_trees.specs.Statements.{ToEnd, low_stmts}
use Rattle.lower_trees.specs.Lowered.{lowered}
use Rattle.mid_lower.proofs.Grows.{Mid, all_of, more, called_grows}
use Rattle.mid_lower.proofs.Under.{Kin, Under, AllEmpty, under_self, under_at}
use Rattle.mid_lower.proofs.Fits.{Site}
use Rattle.mid_lower.proofs.Giving.{giving}
use Rattle.mid_lower.proofs.Room.{Room}
use Rattle.mid_lower.proofs.Following.{base_of, Fit, Side, mk, goal, Goal, SimV, M, L, events_of}
use Rattle.mid_lower.proofs.Taken.{TakenAll, none_taken}
use Rattle.mid_lower.proofs.Arguments.{passed}
use Rattle.mid_lower.proofs.Calling.{target_of}
use Rattle.mid_lower.proofs.CallForms.{value_asks}
use Rattle.mid_lower.proofs.CellLoops.{next_same}
use Rattle.mid_lower.proofs.OperatorForms.{begin_value}
use Rattle.mid_lower.proofs.Outcomes.{SimD, plain}
use Rattle.mid_lower.proofs.Locals.{HomeOf}
use Rattle.mid_lower.proofs.EveryStatement.{all_sim}
use Rattle.mid_lower.proofs.EveryBound.{site, earlier}
use Rattle.mid_lower.proofs.PlainPrograms.{map_length, IsPlain, fits, lowers}
use Rattle.mid_lower.proofs.LoopForms.{Earlier}

-- ---- main takes and gives nothing

void_scalar : (ty : Ty) → is_void ty ≡ true → is_structure ty ≡ false
void_scalar VoidY e = refl
void_scalar IntY e = refl
void_scalar BoolY e = refl
void_scalar (EnumY number) e = refl
void_scalar (StructY number) e = absurd (false≢true e)
void_scalar (UnionY number) e = absurd (false≢true e)
void_scalar (PointerY to) e = refl
void_scalar (ArrayY of len) e = refl

none_passed : (tys : List Ty) → passed tys [] ≡ []
none_passed [] = refl
none_passed (ty ∷ tys) = refl

-- ---- runs

-- the same end and port operations, what lives is the same, and the work is at most 64 times
record Alike (end : End) (w : World) (m : mid.Final) : Type 0 where
  pub ends : m.end ≡ ending end
  pub events : m.world.events ≡ w.events
  pub under : Under w.store.objects m.world.store.objects
  pub work : m.world.work ≤ 64 * w.work

-- where the source strays, its events begin the code's
abbrev Agree : End → World → mid.Final → Type 0
Agree (Stray span) w m = Prefix w.events m.world.events
Agree Halted w m = Alike Halted w m
Agree (Fault k) w m = Alike (Fault k) w m
Agree Starved w m = Alike Starved w m
Agree (Deep span) w m = Alike (Deep span) w m
Agree OutOfBound w m = Alike OutOfBound w m

main_events : (r : Res Mid) → (mid.main_done r).world.events ≡ events_of r
main_events (Next s) = refl
main_events (Leaves k s) = refl
main_events (Repeats k s) = refl
main_events (Returns s) = refl
main_events (Over f s) = refl

lives_empty : (x : ObjectT) → x.lives ≡ true → x.lives ≡ false → x.cells ≡ []
lives_empty x e l = absurd (false≢true (sym l ∙ e))

all_empty : (xs ys : List ObjectT) → AllEmpty xs → AllEmpty ys → AllEmpty (xs ++ ys)
all_empty [] ys a b = b
all_empty (x ∷ xs) ys a b = (a.0, all_empty xs ys a.1 b)

globals_empty : (sizes : List ℕ) → AllEmpty (map global_object sizes)
globals_empty [] = tt
globals_empty (z ∷ zs) = (lives_empty (global_object z) refl, globals_empty zs)

literals_empty : (texts : List (List ℕ)) → AllEmpty (map literal_object texts)
literals_empty [] = tt
literals_empty (z ∷ zs) = (lives_empty (literal_object z) refl, literals_empty zs)

card_empty : (card : Option (List ℕ)) → AllEmpty (card_object card ∷ [])
card_empty None = (lives_empty (card_object None) refl, tt)
card_empty (Some ws) = (lives_empty (card_object (Some ws)) refl, tt)

opening_empty : (sizes : List ℕ) (texts : List (List ℕ)) (card : Option (List ℕ)) → AllEmpty (opening_objects sizes texts card)
opening_empty sizes texts card = all_empty (map global_object sizes) (map literal_object texts ++ card_object card ∷ []) (globals_empty sizes) (all_empty (map literal_object texts) (card_object card ∷ []) (literals_empty texts) (card_empty card))

module _ (p : ProgramT) (frames : List ℕ) (sc : IsPlain p) where
  abbrev x : CodeT ℕ
  x = lowered p

  abbrev s : Setting
  s = setting p frames

  module _ (n : ℕ) (answers : List ℕ) (card : Option (List ℕ)) where
    abbrev S : Site
    S = site s x frames (fits p frames sc) n

    before : Earlier S
    before = earlier s x frames (lowers p frames sc) n

    abbrev w0 : World
    w0 = c.opening p answers card

    abbrev x0 : Side
    x0 = record { objs = w0.store.objects; work = 0; temps = λ q. Unwritten; given = Unwritten; extra = []; floor = 0 }

    -- ---- the call of main

    module _ (w : World) (y : Side) (fit : Fit w y) where
      abbrev γ : Goal
      γ = goal false 0 1 w y

      abbrev main_result : Res Mid
      main_result = called (L S) n S.prev' None p.main [] (mk w y)

      main_sim : SimV γ (M S Stop) false (src.call s n S.prev p.main [] nowhere (spend 1 w)) main_result
      main_sim =
          let g : TFunctionT = sc.main.0 in
          let e : slice_get p.functions p.main ≡ Some g = sc.main.1 in
          let void : is_void g.gives ≡ true = sc.main.2 in
          let scalar : is_structure g.gives ≡ false = void_scalar g.gives void in
          let T : Val → Res Mid → Type 0 = SimV γ (M S Stop) false in
          let start : World = spend 1 w in
          let hi : ℕ = length w.store.locals + y.floor in
          let none : TakenAll γ 36 hi (passed g.params []) start y = subst (λ ts. TakenAll γ 36 hi ts start y) (sym (none_passed g.params)) (none_taken γ 36 hi start y (omega arith) (begin_value S 0 1 w y fit)) in
          subst (T (src.call s n S.prev p.main [] nowhere start)) (ap (λ k. then_next (with_work true k) (M S Stop)) no_more ∙ next_same main_result)
          (subst (λ o. T (src.call_of s n S.prev p.main o [] nowhere start) (then_next (with_work true (y.work + 0)) (M S Stop))) (sym e)
          (subst (λ b. T (src.enter s n S.prev p.main g [] (if b then next_object w.store else Unwritten) nowhere (on_store (λ u. if b then with_temporary (words s g.gives) u else u) start)) (then_next (with_work true (y.work + 0)) (M S Stop))) (sym scalar)
          (subst (λ b. T (src.enter s n S.prev p.main g [] Unwritten nowhere start) (then_next (with_work b (y.work + 0)) (M S Stop))) void
          (value_asks S 0 1 w y Stop p.main g scalar nowhere [] [] hi 36 start y 0 (omega arith) none before.called tt e n))))
        where
          with_work : (void : Bool) → ℕ → Res Mid
          with_work b k = called (L S) n S.prev' (target_of b 0) p.main [] (mk w (record y { work = k }))

          no_more : y.work + 0 ≡ y.work
          no_more = omega arith

      finished : y.work ≤ 64 * w.work → (v : Val) (q : Res Mid) → SimV γ (M S Stop) false v q → Agree (c.main_done v).end (c.main_done v).world (mid.main_done q)
      finished le (Value d u) q a = subst (λ r. Agree Halted u (mid.main_done r)) (sym a.2) (record { ends = refl; events = refl; under = a.3.stays.fit.under; work = omega (arith, a.3.cost, le) })
      finished le (Place d u) q a = absurd (false≢true a.0)
      finished le (NoValue u) q a = subst (λ r. Agree Halted u (mid.main_done r)) (sym a.2) (record { ends = refl; events = refl; under = a.3.stays.fit.under; work = omega (arith, a.3.cost, le) })
      finished le (Stops (Stray span) u) q a = subst (Prefix u.events) (sym (main_events q)) a
      finished le (Stops Halted u) q a = subst (λ r. Agree Halted u (mid.main_done r)) (sym a.1) (record { ends = refl; events = refl; under = a.2.under; work = omega (arith, a.2.cost, le) })
      finished le (Stops (Fault k) u) q a = subst (λ r. Agree (Fault k) u (mid.main_done r)) (sym a.1) (record { ends = refl; events = refl; under = a.2.under; work = omega (arith, a.2.cost, le) })
      finished le (Stops Starved u) q a = subst (λ r. Agree Starved u (mid.main_done r)) (sym a.1) (record { ends = refl; events = refl; under = a.2.under; work = omega (arith, a.2.cost, le) })
      finished le (Stops (Deep span) u) q a = subst (λ r. Agree (Deep span) u (mid.main_done r)) (sym a.1) (record { ends = refl; events = refl; under = a.2.under; work = omega (arith, a.2.cost, le) })
      finished le (Stops OutOfBound u) q a = subst (λ r. Agree OutOfBound u (mid.main_done r)) (sym a.1) (record { ends = refl; events = refl; under = a.2.under; work = omega (arith, a.2.cost, le) })

    -- ---- the start, and then main

    abbrev go_on : Mid → mid.Final
    go_on = mid.main_called temporaries x frames n

    go_more : (t : Mid) → Prefix t.world.events (go_on t).world.events
    go_more t = subst (Prefix t.world.events) (sym (main_events (called (L S) n S.prev' None p.main [] t))) (called_grows x frames n S.prev' S.grows None p.main [] t)

    start_more : (q : Res Mid) → Prefix (events_of q) (mid.start_done q go_on).world.events
    start_more (Next t) = go_more t
    start_more (Leaves k t) = all_of t.world.events
    start_more (Repeats k t) = all_of t.world.events
    start_more (Returns t) = go_more t
    start_more (Over f t) = all_of t.world.events

    abbrev source_done : Done → c.Final
    source_done d = c.inits_done d (c.main_called p frames n)

    started : (d : Done) (q : Res Mid) → SimD (giving VoidY Unwritten) (plain first_param w0 x0) 0 (ToEnd 0) (M S Stop) d q → Agree (source_done d).end (source_done d).world (mid.start_done q go_on)
    started (Goes w) q a =
        subst (λ r. Agree (source_done (Goes w)).end (source_done (Goes w)).world (mid.start_done r go_on)) (sym a.1)
        (finished w a.0 a.2.stays.fit (omega (arith, a.2.cost)) (src.call s n S.prev p.main [] nowhere (spend 1 w)) (main_result w a.0 a.2.stays.fit) (main_sim w a.0 a.2.stays.fit))
    started (Breaks w) q a = subst (λ r. Prefix w.events (mid.start_done r go_on).world.events) (sym a.1) (all_of w.events)
    started (Continues w) q a = subst (λ r. Prefix w.events (mid.start_done r go_on).world.events) (sym a.1) (all_of w.events)
    started (Returns None w) q a = subst (λ r. Prefix w.events (mid.start_done r go_on).world.events) (sym a.1) (go_more (mk w a.0))
    started (Returns (Some v) w) q a = absurd a.3
    started (Ended (Stray span) w) q a = more _ _ _ a (start_more q)
    started (Ended Halted w) q a = subst (λ r. Agree Halted w (mid.start_done r go_on)) (sym a.1) (record { ends = refl; events = refl; under = a.2.under; work = omega (arith, a.2.cost) })
    started (Ended (Fault k) w) q a = subst (λ r. Agree (Fault k) w (mid.start_done r go_on)) (sym a.1) (record { ends = refl; events = refl; under = a.2.under; work = omega (arith, a.2.cost) })
    started (Ended Starved w) q a = subst (λ r. Agree Starved w (mid.start_done r go_on)) (sym a.1) (record { ends = refl; events = refl; under = a.2.under; work = omega (arith, a.2.cost) })
    started (Ended (Deep span) w) q a = subst (λ r. Agree (Deep span) w (mid.start_done r go_on)) (sym a.1) (record { ends = refl; events = refl; under = a.2.under; work = omega (arith, a.2.cost) })
    started (Ended OutOfBound w) q a = subst (λ r. Agree OutOfBound w (mid.start_done r go_on)) (sym a.1) (record { ends = refl; events = refl; under = a.2.under; work = omega (arith, a.2.cost) })

    home : HomeOf S.s S.code S.frames VoidY None 0
    home = record { words = λ k lt. absurd (omega (arith, lt)); result = refl }

    -- the code of a program runs as the program does, for every bound, answers and card
    follows : Agree (c.final_of p frames n answers card).end (c.final_of p frames n answers card).world (mid.final_of temporaries x frames n answers card)
    follows =
        started (does_all s n S.prev Unwritten (tstmts p.inits) w0) (M S (coded (low_stmts (shape p) VoidY (tstmts p.inits) first_param 0 0 (ToEnd 0)) Stop) (mk w0 x0))
        (all_sim S before Unwritten VoidY 0 (tstmts p.inits) sc.inits first_param 0 0 (ToEnd 0) Stop w0 x0 (omega arith) (record { under = under_self w0.store.objects (opening_empty (map (λ g. g.1) p.globals) p.literals card); unused = λ i le. tt }) (λ e. absurd (false≢true e)) home refl (subst (Room S (base_of w0 x0) 0) (sym sc.quiet) (record { free = omega arith; fits = omega arith; words = λ j lt. absurd (omega (arith, lt)) })))

-- ---- the public statement on work

works_of : (end : End) (w : World) (m : mid.Final) → Agree end w m → ending end ≢ run.Stray → m.world.work ≤ 64 * w.work
works_of Halted w m a ne = a.work
works_of (Fault k) w m a ne = a.work
works_of Starved w m a ne = a.work
works_of (Stray span) w m a ne = absurd (ne refl)
works_of (Deep span) w m a ne = a.work
works_of OutOfBound w m a ne = a.work

pub works : (p : ProgramT) (frames : List ℕ) → IsPlain p → WorksAtMost 64 (c.c_runs p frames) (mid.mid_runs (lowered p) frames)
works p frames sc n answers card is_card ne =
    works_of (c.final_of p frames n answers card).end (c.final_of p frames n answers card).world (mid.final_of temporaries (lowered p) frames n answers card) (follows p frames sc n answers card) ne

-- ---- the cells that are kept

abbrev nothing : Option Cell
nothing = None

none_is_none : (d : Cell) → nothing ≡ Some d → ⊥
none_is_none d e = false≢true (sym (ap is_nothing e))
  where
    is_nothing : Option Cell → Bool
    is_nothing None = true
    is_nothing (Some z) = false

cell_kept : (x y : ObjectT) → Kin x y → (i v : ℕ) → slice_get x.cells i ≡ Some (Num v) → slice_get y.cells i ≡ Some (Num v)
cell_kept x y k i v e = go x.lives refl
  where
    go : (b : Bool) → x.lives ≡ b → slice_get y.cells i ≡ Some (Num v)
    go true l = ap (λ z. slice_get z.cells i) (k.0 l) ∙ e
    go false l = absurd (none_is_none (Num v) (sym (ap (λ cs. slice_get cs i) (k.1 l)) ∙ e))

globals_kept : (count number i v : ℕ) (xs ys : List ObjectT) → Under xs ys → global_cell (run.global_cells count xs) number i ≡ Some (Num v) → global_cell (run.global_cells count ys) number i ≡ Some (Num v)
globals_kept zero number i v [] [] u e = e
globals_kept zero number i v (x ∷ xs) (y ∷ ys) u e = e
globals_kept (suc n) number i v [] [] u e = e
globals_kept (suc n) zero i v (x ∷ xs) (y ∷ ys) u e = cell_kept x y u.0 i v e
globals_kept (suc n) (suc k) i v (x ∷ xs) (y ∷ ys) u e = globals_kept n k i v xs ys u.1 e
globals_kept count number i v [] (y ∷ ys) u e = absurd u
globals_kept count number i v (x ∷ xs) [] u e = absurd u

same_of : (p : ProgramT) (end : End) (w : World) (m : mid.Final) → Alike end w m → SameRun (c.run_of p (c.final end w)) (mid.run_of (lowered p) m)
same_of p end w m a = record {
  end = a.ends;
  events = a.events;
  cells = record {
    of_globals = λ number i v e. subst (λ n. global_cell (run.global_cells n m.world.store.objects) number i ≡ Some (Num v)) (sym (map_length (λ g. g.1) p.globals)) (globals_kept (length p.globals) number i v w.store.objects m.world.store.objects a.under e);
    of_card = λ i v e. subst (λ n. slice_get (object_at m.world.store.objects (n + length p.literals)).cells i ≡ Some (Num v)) (sym (map_length (λ g. g.1) p.globals))
        (cell_kept (object_at w.store.objects (length p.globals + length p.literals)) (object_at m.world.store.objects (length p.globals + length p.literals)) (under_at w.store.objects m.world.store.objects (length p.globals + length p.literals) a.under) i v e);
  };
}

keeps_of : (p : ProgramT) (end : End) (w : World) (m : mid.Final) → Agree end w m → KeepsRun (ending end) (c.run_of p (c.final end w)) (mid.run_of (lowered p) m)
keeps_of p Halted w m a = same_of p Halted w m a
keeps_of p (Fault k) w m a = same_of p (Fault k) w m a
keeps_of p Starved w m a = same_of p Starved w m a
keeps_of p (Stray span) w m a = a
keeps_of p (Deep span) w m a = (a.ends, a.events)
keeps_of p OutOfBound w m a = same_of p OutOfBound w m a

-- ---- the public statement on runs

pub keeps : (p : ProgramT) (frames : List ℕ) → IsPlain p → KeepsRuns (c.c_runs p frames) (mid.mid_runs (lowered p) frames)
keeps p frames sc n answers card is_card = keeps_of p (c.final_of p frames n answers card).end (c.final_of p frames n answers card).world (mid.final_of temporaries (lowered p) frames n answers card) (follows p frames sc n answers card)
