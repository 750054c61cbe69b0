-- Promotion of the plain locals of a program keeps its runs, does no more work and weighs no more.
use Rattle.std.proofs.Common.{◌≡◌, ℕ, zero, suc, ◌+◌, ◌<◌, ◌≤◌, Bool, true, false, ◌||◌, not, cond, eqb, List, [], ◌∷◌, length, get_or, Option, Some, None, refl, sym, ap, ◌∙◌, subst, arith}
use Rattle.std.proofs.lemmas.Bool.{eqb-true, eq-eqb}
use Rattle.std.proofs.lemmas.Option.{get_or_from_slice_get}
use Rattle.mid_code.specs.Code.{OpT, ConstO, NullO, MoveO, OneO, TwoO, GlobalO, LocalO, LiteralO, CardO, StepO, ApartO, PtrTestO, LoadO, StoreO, FreshO, EndO, InO, OutO, WaitO, HaltO, NodesT, Stop, Do, Call, Choose, Block, Loop, Leave, Again, Return, FunctionT, CodeT}
use Rattle.mid_code.specs.Live.{is_among}
use Rattle.mid_code.specs.Invariants.{AreNodes, AllOf, Names, IsFunction, IsTemporary, IsMid}
use Rattle.mid_code.specs.States.{function_at, no_function, sizes_of}
use Rattle.mid_code.specs.Keeps.{KeepsRuns, WorksAtMost}
use Rattle.mid_code.specs.Runs.{mid_runs}
use Rattle.mid_scalars.specs.inner.Plan.{Kind, Own, Address, Variable, Plan, promoted_op, promoted_nodes, GoodNodes}
use Rattle.mid_scalars.specs.inner.Named.{Fits, count_of}
use Rattle.mid_scalars.specs.inner.Promoted.{IsPromotion}
use Rattle.mid_scalars.specs.inner.Table.{all_nodes, uses_as_address, is_clean, takes_well, flags, falses_before, kept, kind_in, is_promoted, variable_of, kind_of, moved_to, plan_of, promoted_function, promoted_functions, promoted}
use Rattle.mid_scalars.proofs.Whole.{promotion_keeps, promotion_works}
use Rattle.mid_scalars.proofs.Tables.{and_left, not_or, not_true, Every, Finds, finds}
use Rattle.obj_mem.specs.Stores.{words_here}
use Rattle.mid_code.specs.inner.Passing.{doing}
use Rattle.mid_code.specs.Runs.{function_weight, weight}
use Rattle.mid_scalars.specs.inner.Plan.{by_kind}
use Rattle.mid_scalars.proofs.Whole.{lighter}
use Rattle.mid_scalars.proofs.Planned.{flag_in, flag_plain, one_size, well_taken, clean_every, kept_in, kept_at, moved_one, kind_address, no_variable, kind_clean, kind_found, variable_kind, good_nodes}
use Rattle.std.specs.Prelude.{sum_by}
use Rattle.std.proofs.lemmas.List.Sums.{sum_by-cons}

true_false : true ≡ false → ⊥
true_false e = cc

-- ---- where nothing is promoted nothing changes

module _ (X : Plan) (h : Option ℕ) (none : (k : ℕ) → X.promoted h k ≡ false) (no_address : (t k : ℕ) → X.kind h t ≡ Address k → ⊥) (stays : (k : ℕ) → X.moved h k ≡ k) where
  by_none : {A : Type 0} (k : ℕ) (a b c : A) → b ≡ c → cond (X.promoted h k) a b ≡ c
  by_none k a b c e = ap (λ p. cond p a b) (none k) ∙ e

  by_own : {A : Type 0} (t : ℕ) (a : A) (go : ℕ → A) → by_kind (X.kind h t) a go ≡ a
  by_own {A} t a go = at (X.kind h t) refl
    where
      at : (u : Kind) → X.kind h t ≡ u → by_kind (X.kind h t) a go ≡ a
      at Own e = ap (λ u. by_kind u a go) e
      at (Address k) e = absurd (no_address t k e)
      at (Variable k) e = ap (λ u. by_kind u a go) e

  same_op : (o : OpT ℕ) → promoted_op X h o ≡ o ∷ []
  same_op (LocalO t k) = by_none k [] (LocalO t (X.moved h k) ∷ []) (LocalO t k ∷ []) (ap (λ n. LocalO t n ∷ []) (stays k))
  same_op (LoadO t p) = by_own p (LoadO t p ∷ []) (λ k. MoveO t (X.variable h k) ∷ [])
  same_op (StoreO p a) = by_own p (StoreO p a ∷ []) (λ k. MoveO (X.variable h k) a ∷ [])
  same_op (FreshO k) = by_none k [] (FreshO (X.moved h k) ∷ []) (FreshO k ∷ []) (ap (λ n. FreshO n ∷ []) (stays k))
  same_op (EndO k) = by_none k [] (EndO (X.moved h k) ∷ []) (EndO k ∷ []) (ap (λ n. EndO n ∷ []) (stays k))
  same_op (ConstO q word) = refl
  same_op (NullO q) = refl
  same_op (MoveO q a) = refl
  same_op (OneO o q a) = refl
  same_op (TwoO o q a b) = refl
  same_op (GlobalO q number) = refl
  same_op (LiteralO q number) = refl
  same_op (CardO q) = refl
  same_op (StepO q p n) = refl
  same_op (ApartO q p r) = refl
  same_op (PtrTestO o q p r) = refl
  same_op (InO q port) = refl
  same_op (OutO port a) = refl
  same_op WaitO = refl
  same_op HaltO = refl

  pub same_nodes : (c : NodesT ℕ) → promoted_nodes X h c ≡ c
  same_nodes Stop = refl
  same_nodes (Do o c) = ap (λ os. doing os (promoted_nodes X h c)) (same_op o) ∙ ap (Do o) (same_nodes c)
  same_nodes (Call t f args c) = ap (Call t f args) (same_nodes c)
  same_nodes (Choose p a b c) = ap (λ w. Choose p w (promoted_nodes X h b) (promoted_nodes X h c)) (same_nodes a) ∙ ap (λ w. Choose p a w (promoted_nodes X h c)) (same_nodes b) ∙ ap (Choose p a b) (same_nodes c)
  same_nodes (Block b c) = ap (λ w. Block w (promoted_nodes X h c)) (same_nodes b) ∙ ap (Block b) (same_nodes c)
  same_nodes (Loop b c) = ap (λ w. Loop w (promoted_nodes X h c)) (same_nodes b) ∙ ap (Loop b) (same_nodes c)
  same_nodes (Leave k c) = ap (Leave k) (same_nodes c)
  same_nodes (Again k c) = ap (Again k) (same_nodes c)
  same_nodes (Return p c) = ap (Return p) (same_nodes c)

-- ---- what takes an address of a plain local is in the table

module _ (f : FunctionT ℕ) where
  abbrev pub Takes : NodesT ℕ → Type 0
  Takes (Do (LocalO t k) c) = get_or (flags f) k false ≡ true → kind_in f t ≡ Address k
  Takes _ = Unit {0}

  abbrev pub Well : NodesT ℕ → Type 0
  Well c = (k : ℕ) → get_or (flags f) k false ≡ true → Every (λ d. takes_well f k d ≡ true) c

  pub taken : (c : NodesT ℕ) → Well c → Every (Finds f.body) c → Names (IsTemporary f) c → Every Takes c
  taken Stop w g n = tt
  taken (Do (LocalO q i) c) w g n = ((λ e. kind_found f q i n.0.1.0 e (not_or (eqb i i) (is_clean f i q) (w i e).0 (eq-eqb i i refl)) g.0), taken c (λ k e. (w k e).1) g.1 n.1)
  taken (Do (ConstO q word) c) w g m = (tt, taken c (λ k e. (w k e).1) g.1 m.1)
  taken (Do (NullO q) c) w g m = (tt, taken c (λ k e. (w k e).1) g.1 m.1)
  taken (Do (MoveO q a) c) w g m = (tt, taken c (λ k e. (w k e).1) g.1 m.1)
  taken (Do (OneO o q a) c) w g m = (tt, taken c (λ k e. (w k e).1) g.1 m.1)
  taken (Do (TwoO o q a b) c) w g m = (tt, taken c (λ k e. (w k e).1) g.1 m.1)
  taken (Do (GlobalO q number) c) w g m = (tt, taken c (λ k e. (w k e).1) g.1 m.1)
  taken (Do (LiteralO q number) c) w g m = (tt, taken c (λ k e. (w k e).1) g.1 m.1)
  taken (Do (CardO q) c) w g m = (tt, taken c (λ k e. (w k e).1) g.1 m.1)
  taken (Do (StepO q p n) c) w g m = (tt, taken c (λ k e. (w k e).1) g.1 m.1)
  taken (Do (ApartO q p r) c) w g m = (tt, taken c (λ k e. (w k e).1) g.1 m.1)
  taken (Do (PtrTestO o q p r) c) w g m = (tt, taken c (λ k e. (w k e).1) g.1 m.1)
  taken (Do (LoadO q p) c) w g m = (tt, taken c (λ k e. (w k e).1) g.1 m.1)
  taken (Do (StoreO p a) c) w g m = (tt, taken c (λ k e. (w k e).1) g.1 m.1)
  taken (Do (FreshO number) c) w g m = (tt, taken c (λ k e. (w k e).1) g.1 m.1)
  taken (Do (EndO number) c) w g m = (tt, taken c (λ k e. (w k e).1) g.1 m.1)
  taken (Do (InO q port) c) w g m = (tt, taken c (λ k e. (w k e).1) g.1 m.1)
  taken (Do (OutO port a) c) w g m = (tt, taken c (λ k e. (w k e).1) g.1 m.1)
  taken (Do WaitO c) w g m = (tt, taken c (λ k e. (w k e).1) g.1 m.1)
  taken (Do HaltO c) w g m = (tt, taken c (λ k e. (w k e).1) g.1 m.1)
  taken (Call q h args c) w g n = (tt, taken c (λ k e. (w k e).1) g.1 n.1)
  taken (Choose p a b c) w g n = (tt, taken a (λ k e. (w k e).1) g.1 n.1, taken b (λ k e. (w k e).2) g.2 n.2, taken c (λ k e. (w k e).3) g.3 n.3)
  taken (Block b c) w g n = (tt, taken b (λ k e. (w k e).1) g.1 n.0, taken c (λ k e. (w k e).2) g.2 n.1)
  taken (Loop b c) w g n = (tt, taken b (λ k e. (w k e).1) g.1 n.0, taken c (λ k e. (w k e).2) g.2 n.1)
  taken (Leave k c) w g n = (tt, taken c (λ k e. (w k e).1) g.1 n)
  taken (Again k c) w g n = (tt, taken c (λ k e. (w k e).1) g.1 n)
  taken (Return p c) w g n = (tt, taken c (λ k e. (w k e).1) g.1 n.1)

-- in the start nothing is
abbrev NoneTaken : NodesT ℕ → Type 0
NoneTaken (Do (LocalO t k) c) = false ≡ true → Own ≡ Address k
NoneTaken _ = Unit {0}

none_taken : (c : NodesT ℕ) → Every NoneTaken c
none_taken Stop = tt
none_taken (Do (LocalO q i) c) = ((λ e. absurd (true_false (sym e))), none_taken c)
none_taken (Do (ConstO q word) c) = (tt, none_taken c)
none_taken (Do (NullO q) c) = (tt, none_taken c)
none_taken (Do (MoveO q a) c) = (tt, none_taken c)
none_taken (Do (OneO o q a) c) = (tt, none_taken c)
none_taken (Do (TwoO o q a b) c) = (tt, none_taken c)
none_taken (Do (GlobalO q number) c) = (tt, none_taken c)
none_taken (Do (LiteralO q number) c) = (tt, none_taken c)
none_taken (Do (CardO q) c) = (tt, none_taken c)
none_taken (Do (StepO q p n) c) = (tt, none_taken c)
none_taken (Do (ApartO q p r) c) = (tt, none_taken c)
none_taken (Do (PtrTestO o q p r) c) = (tt, none_taken c)
none_taken (Do (LoadO q p) c) = (tt, none_taken c)
none_taken (Do (StoreO p a) c) = (tt, none_taken c)
none_taken (Do (FreshO number) c) = (tt, none_taken c)
none_taken (Do (EndO number) c) = (tt, none_taken c)
none_taken (Do (InO q port) c) = (tt, none_taken c)
none_taken (Do (OutO port a) c) = (tt, none_taken c)
none_taken (Do WaitO c) = (tt, none_taken c)
none_taken (Do HaltO c) = (tt, none_taken c)
none_taken (Call q h args c) = (tt, none_taken c)
none_taken (Choose p a b c) = (tt, none_taken a, none_taken b, none_taken c)
none_taken (Block b c) = (tt, none_taken b, none_taken c)
none_taken (Loop b c) = (tt, none_taken b, none_taken c)
none_taken (Leave k c) = (tt, none_taken c)
none_taken (Again k c) = (tt, none_taken c)
none_taken (Return p c) = (tt, none_taken c)

-- ---- functions

pub promoted_from : (X : Plan) (n : ℕ) (fs : List (FunctionT ℕ)) (g : ℕ) → get_or (promoted_functions X n fs) g no_function ≡ promoted_function X (Some (n + g)) (get_or fs g no_function)
promoted_from X n [] g = refl
promoted_from X n (f ∷ fs) zero = ap (λ m. promoted_function X (Some m) f) (omega arith)
promoted_from X n (f ∷ fs) (suc g) = promoted_from X (suc n) fs g ∙ ap (λ m. promoted_function X (Some m) (get_or fs g no_function)) (omega arith)

none_ok : (x : CodeT ℕ) → IsFunction IsTemporary x no_function
none_ok x = record { nodes = tt; names = tt; params_named = tt; params_differ = tt; count = omega arith; sizes = tt; words = omega arith }

pub function_ok : (x : CodeT ℕ) (fs : List (FunctionT ℕ)) → AllOf (IsFunction IsTemporary x) fs → (g : ℕ) → IsFunction IsTemporary x (get_or fs g no_function)
function_ok x [] h g = none_ok x
function_ok x (f ∷ fs) h zero = h.0
function_ok x (f ∷ fs) h (suc g) = function_ok x fs h.1 g

pub among_all : (Q : ℕ → Type 0) (ts : List ℕ) (t : ℕ) → AllOf Q ts → is_among ts t ≡ true → Q t
among_all Q [] t h e = absurd (true_false (sym e))
among_all Q (u ∷ ts) t h e = go (among_all Q ts t h.1) (eqb u t) refl e
  where
    go : (is_among ts t ≡ true → Q t) → (b : Bool) → eqb u t ≡ b → (b || is_among ts t) ≡ true → Q t
    go r true f g = subst Q (eqb-true u t f) h.0
    go r false f g = r g

params_own : (x : CodeT ℕ) (f : FunctionT ℕ) → IsFunction IsTemporary x f → (q : ℕ) → is_among f.params q ≡ true → kind_in f q ≡ Own
params_own x f ok q e = go (kind_in f q) refl
  where
    go : (u : Kind) → kind_in f q ≡ u → kind_in f q ≡ Own
    go Own h = h
    go (Address k) h = absurd (true_false (sym e ∙ not_true (is_among f.params q) (and_left (not (is_among f.params q)) (all_nodes (uses_as_address k q) f.body) (kind_clean f q k h))))
    go (Variable k) h = absurd (no_variable f q k (among_all (IsTemporary f) f.params q ok.params_named e) h)

own_address : (k : ℕ) → Own ≡ Address k → ⊥
own_address k e = cc

own_variable : (k : ℕ) → Own ≡ Variable k → ⊥
own_variable k e = cc

module _ (x : CodeT ℕ) (is_mid : IsMid x) (frames : List ℕ) where
  abbrev X : Plan
  X = plan_of x

  abbrev y : CodeT ℕ
  y = promoted x

  pub promoted_at : (g : ℕ) → function_at y g ≡ promoted_function X (Some g) (function_at x g)
  promoted_at g = promoted_from X 0 x.functions g ∙ ap (λ m. promoted_function X (Some m) (function_at x g)) (omega arith)

  pub ok : (g : ℕ) → IsFunction IsTemporary x (function_at x g)
  ok g = function_ok x x.functions is_mid.functions g

  pub locals_at : (g : ℕ) → (function_at y g).locals ≡ kept (flags (function_at x g)) (function_at x g).locals
  locals_at g = ap (λ f. f.locals) (promoted_at g)

  pub in_range : (h : Option ℕ) (k : ℕ) → is_promoted x h k ≡ true → k < count_of (sizes_of x frames) h
  in_range None k e = absurd (true_false (sym e))
  in_range (Some g) k e = flag_in (function_at x g) 0 (function_at x g).locals k e

  one_word : (h : Option ℕ) (k : ℕ) → is_promoted x h k ≡ true → words_here (sizes_of x frames) h k ≡ 1
  one_word None k e = absurd (true_false (sym e))
  one_word (Some g) k e = get_or_from_slice_get (function_at x g).locals k 1 0 (one_size (function_at x g) k (flag_plain (function_at x g) k e))

  words : (h : Option ℕ) (k : ℕ) → k < count_of (sizes_of x frames) h → is_promoted x h k ≡ false → words_here (sizes_of y frames) h (moved_to x h k) ≡ words_here (sizes_of x frames) h k
  words None k lt e = refl
  words (Some g) k lt e = ap (λ l. get_or l (falses_before (flags (function_at x g)) k) 0) (locals_at g) ∙ kept_at (flags (function_at x g)) (function_at x g).locals k lt e

  pub moved_in : (h : Option ℕ) (k : ℕ) → k < count_of (sizes_of x frames) h → is_promoted x h k ≡ false → moved_to x h k < count_of (sizes_of y frames) h
  moved_in None k lt e = absurd (omega (arith, lt))
  moved_in (Some g) k lt e = subst (λ l. falses_before (flags (function_at x g)) k < length l) (sym (locals_at g)) (kept_in (flags (function_at x g)) (function_at x g).locals k lt e)

  moved_apart : (h : Option ℕ) (k l : ℕ) → k < count_of (sizes_of x frames) h → l < count_of (sizes_of x frames) h → is_promoted x h k ≡ false → is_promoted x h l ≡ false → moved_to x h k ≡ moved_to x h l → k ≡ l
  moved_apart None k l a b e f m = m
  moved_apart (Some g) k l a b e f m = moved_one (flags (function_at x g)) k l e f m

  address_is : (h : Option ℕ) (q k : ℕ) → kind_of x h q ≡ Address k → is_promoted x h k ≡ true
  address_is None q k e = absurd (own_address k e)
  address_is (Some g) q k e = (kind_address (function_at x g) q k e).0

  variable_is : (h : Option ℕ) (k : ℕ) → is_promoted x h k ≡ true → kind_of x h (variable_of x h k) ≡ Variable k
  variable_is None k e = absurd (true_false (sym e))
  variable_is (Some g) k e = variable_kind (function_at x g) k e

  pub fits : Fits X x y frames
  fits = record {
    globals = refl;
    literals = refl;
    main = refl;
    params = λ g. ap (λ f. f.params) (promoted_at g);
    params_own = λ g q e. params_own x (function_at x g) (ok g) q e;
    in_range = in_range;
    one_word = one_word;
    words = words;
    moved_in = moved_in;
    moved_apart = moved_apart;
    address_is = address_is;
    variable_is = variable_is;
  }

  body_good : (g : ℕ) → GoodNodes X (length x.globals) (length x.literals) (Some g) (length (function_at x g).locals) 0 (function_at x g).body
  body_good g =
      let f = function_at x g in
      good_nodes X x (Some g) f.temps (length f.locals) (λ t k lt e. no_variable f t k lt e) (λ t k e. (kind_address f t k e).0) [] f.body
      (λ t k e. clean_every f k t (kind_clean f t k e))
      (taken f f.body (λ k e. well_taken f k (flag_plain f k e)) (finds f.body f.body (λ t e. e)) (ok g).names)
      (ok g).names (ok g).nodes

  start_good : GoodNodes X (length x.globals) (length x.literals) None 0 0 x.start.body
  start_good =
      let s = is_mid.start.function in
      good_nodes X x None x.start.temps 0 (λ t k lt e. own_variable k e) (λ t k e. absurd (own_address k e)) [] x.start.body
      (λ t k e. absurd (own_address k e)) (none_taken x.start.body) s.names
      (subst (λ l. AreNodes x (length l) [] x.start.body) is_mid.start.locals s.nodes)

  pub is_promotion : IsPromotion X x y frames
  is_promotion = record {
    fits = fits;
    bodies = λ g. ap (λ f. f.body) (promoted_at g);
    start = sym (same_nodes X None (λ k. refl) (λ t k e. own_address k e) (λ k. refl) x.start.body);
    good = body_good;
    start_good = start_good;
  }

-- Promotion keeps the runs of mid code, whatever the sizes of its frames.
pub promote_keeps : (x : CodeT ℕ) → IsMid x → (frames : List ℕ) → KeepsRuns (mid_runs x frames) (mid_runs (promoted x) frames)
promote_keeps x m frames = promotion_keeps (plan_of x) x (promoted x) frames (is_promotion x m frames)

-- It does no more work.
pub promote_works : (x : CodeT ℕ) → IsMid x → (frames : List ℕ) → WorksAtMost 1 (mid_runs x frames) (mid_runs (promoted x) frames)
promote_works x m frames = promotion_works (plan_of x) x (promoted x) frames (is_promotion x m frames)

functions_lighter : (X : Plan) (n : ℕ) (fs : List (FunctionT ℕ)) → sum_by function_weight (promoted_functions X n fs) ≤ sum_by function_weight fs
functions_lighter X n [] = omega arith
functions_lighter X n (f ∷ fs) = let a = lighter X (Some n) f.body in let b = functions_lighter X (suc n) fs in let c = sum_by-cons function_weight f fs in let d = sum_by-cons function_weight (promoted_function X (Some n) f) (promoted_functions X (suc n) fs) in omega (arith, a, b, c, d)

-- It weighs no more.
pub promote_lighter : (x : CodeT ℕ) → weight (promoted x) ≤ weight x
promote_lighter x = let a = functions_lighter (plan_of x) 0 x.functions in omega (arith, a)
