-- What the sweep leaves is mid code, with the same skeleton; it weighs less, or each target was wanted.
use Rattle.std.proofs.Common.{◌≡◌, ℕ, zero, suc, ◌<◌, ◌≤◌, ◌⊎◌, inl, inr, Bool, true, false, cond, ◌||◌, ◌&&◌, List, [], ◌∷◌, map, length, sum_by, option_map, slice_get, None, refl, sym, ap, ◌∙◌, subst, arith}
use Rattle.std.proofs.lemmas.Bool.{and_from, false≢true}
use Rattle.std.proofs.lemmas.List.Sums.{sum_by-cons}
use Rattle.mid_code.specs.Code.{OpT, ConstO, NullO, MoveO, OneO, TwoO, GlobalO, LocalO, LiteralO, CardO, StepO, ApartO, PtrTestO, LoadO, StoreO, FreshO, EndO, InO, OutO, WaitO, HaltO, NodesT, Stop, Do, Call, Choose, Block, Loop, Leave, Again, Return, FunctionT, CodeT, target}
use Rattle.mid_code.specs.Invariants.{IsOp, AreNodes, AllOf, Names, CallsNone, IsFunction, IsTemporary, IsMid}
use Rattle.mid_code.specs.Live.{live_before, is_used, is_target}
use Rattle.mid_code.specs.Runs.{nodes_weight, function_weight, weight}
use Rattle.mid_code.specs.States.{op_weight}
use Rattle.mid_code.specs.Skeleton.{skeleton, some_before, some_place}
use Rattle.mid_code.specs.Skeleton as bones
use Rattle.mid_improve.specs.Settled.{only_puts}
use Rattle.mid_improve.specs.inner.Wanted.{Labels, Set, live_set, in_block, in_loop, maybe_wanted, all_wanted}
use Rattle.mid_improve.specs.inner.Sweep.{left, swept, no_labels, none_live, swept_function, swept_code}
use Rattle.mid_improve.specs.inner.SweptFrom.{IsSweptFunction, EachSwept, HasWanted, IsSweptAlready, IsSweptFrom}
use Rattle.mid_improve.proofs.SweepLasts.{swept_divisions}
use Rattle.mid_live.proofs.Turned.{turn_same}
use Rattle.mid_improve.proofs.SweepLive.{unwanted}
use Rattle.mid_improve.proofs.Wanting.{each_live}
use Rattle.mid_improve.proofs.SweepProgram.{swept_keeps, swept_works}

-- ---- what only puts something weighs something, and is no part of a skeleton

bones_of : (o : OpT ℕ) → only_puts o ≡ true → bones.stays o ≡ None
bones_of (ConstO t w) e = refl
bones_of (NullO t) e = refl
bones_of (MoveO t a) e = refl
bones_of (OneO o t a) e = refl
bones_of (TwoO o t a b) e = refl
bones_of (GlobalO t n) e = refl
bones_of (LocalO t n) e = refl
bones_of (LiteralO t n) e = refl
bones_of (CardO t) e = refl
bones_of (StepO t p n) e = refl
bones_of (ApartO t p q) e = refl
bones_of (PtrTestO o t p q) e = refl
bones_of (LoadO t p) e = absurd (false≢true e)
bones_of (StoreO p a) e = absurd (false≢true e)
bones_of (FreshO n) e = absurd (false≢true e)
bones_of (EndO n) e = absurd (false≢true e)
bones_of (InO t port) e = absurd (false≢true e)
bones_of (OutO port a) e = absurd (false≢true e)
bones_of WaitO e = absurd (false≢true e)
bones_of HaltO e = absurd (false≢true e)

weighs_some : (o : OpT ℕ) → only_puts o ≡ true → op_weight o ≡ 8
weighs_some (ConstO t w) e = refl
weighs_some (NullO t) e = refl
weighs_some (MoveO t a) e = refl
weighs_some (OneO o t a) e = refl
weighs_some (TwoO o t a b) e = refl
weighs_some (GlobalO t n) e = refl
weighs_some (LocalO t n) e = refl
weighs_some (LiteralO t n) e = refl
weighs_some (CardO t) e = refl
weighs_some (StepO t p n) e = refl
weighs_some (ApartO t p q) e = refl
weighs_some (PtrTestO o t p q) e = refl
weighs_some (LoadO t p) e = refl
weighs_some (StoreO p a) e = refl
weighs_some (FreshO n) e = absurd (false≢true e)
weighs_some (EndO n) e = absurd (false≢true e)
weighs_some (InO t port) e = refl
weighs_some (OutO port a) e = refl
weighs_some WaitO e = refl
weighs_some HaltO e = refl

-- ---- skeletons, calls, names and nodes

module _ (n : ℕ) where
  pub skeleton_same : (ls : Labels) (c : NodesT ℕ) (s : Set) → skeleton (swept n ls c s) ≡ skeleton c
  skeleton_same ls Stop s = refl
  skeleton_same ls (Do o c) s = go (maybe_wanted n (only_puts o) (target o) (left n ls c s)) refl (skeleton_same ls c s)
    where
      go : (b : Bool) → maybe_wanted n (only_puts o) (target o) (left n ls c s) ≡ b → skeleton (swept n ls c s) ≡ skeleton c → skeleton (cond b (Do o (swept n ls c s)) (swept n ls c s)) ≡ some_before (bones.stays o) (skeleton c)
      go true w h = ap (some_before (bones.stays o)) h
      go false w h = h ∙ sym (ap (λ p. some_before p (skeleton c)) (bones_of o (unwanted n (only_puts o) (target o) (left n ls c s) w).0))
  skeleton_same ls (Call t f args c) s = ap (Call (some_place t) f (map (λ a. tt) args)) (skeleton_same ls c s)
  skeleton_same ls (Choose p a b c) s = let k = left n ls c s in λ i. Choose tt (skeleton_same ls a k i) (skeleton_same ls b k i) (skeleton_same ls c s i)
  skeleton_same ls (Block b c) s = let k = left n ls c s in λ i. Block (skeleton_same (in_block k ls) b k i) (skeleton_same ls c s i)
  skeleton_same ls (Loop b c) s = let k = left n ls c s in λ i. Loop (skeleton_same (in_loop (live_set (in_block k ls) b k) k ls) b k i) (skeleton_same ls c s i)
  skeleton_same ls (Leave j c) s = ap (Leave j) (skeleton_same ls c s)
  skeleton_same ls (Again j c) s = ap (Again j) (skeleton_same ls c s)
  skeleton_same ls (Return p c) s = ap (Return (some_place p)) (skeleton_same ls c s)

  calls_none : (ls : Labels) (c : NodesT ℕ) (s : Set) → CallsNone c → CallsNone (swept n ls c s)
  calls_none ls Stop s h = tt
  calls_none ls (Do o c) s h = go (maybe_wanted n (only_puts o) (target o) (left n ls c s)) (calls_none ls c s h)
    where
      go : (b : Bool) → CallsNone (swept n ls c s) → CallsNone (cond b (Do o (swept n ls c s)) (swept n ls c s))
      go true r = r
      go false r = r
  calls_none ls (Call t f args c) s h = absurd h
  calls_none ls (Choose p a b c) s h = let k = left n ls c s in (calls_none ls a k h.0, calls_none ls b k h.1, calls_none ls c s h.2)
  calls_none ls (Block b c) s h = let k = left n ls c s in (calls_none (in_block k ls) b k h.0, calls_none ls c s h.1)
  calls_none ls (Loop b c) s h = let k = left n ls c s in (calls_none (in_loop (live_set (in_block k ls) b k) k ls) b k h.0, calls_none ls c s h.1)
  calls_none ls (Leave j c) s h = calls_none ls c s h
  calls_none ls (Again j c) s h = calls_none ls c s h
  calls_none ls (Return p c) s h = calls_none ls c s h

  names_ok : (Q : ℕ → Type 0) (ls : Labels) (c : NodesT ℕ) (s : Set) → Names Q c → Names Q (swept n ls c s)
  names_ok Q ls Stop s h = tt
  names_ok Q ls (Do o c) s h = go (maybe_wanted n (only_puts o) (target o) (left n ls c s)) (names_ok Q ls c s h.1)
    where
      go : (b : Bool) → Names Q (swept n ls c s) → Names Q (cond b (Do o (swept n ls c s)) (swept n ls c s))
      go true r = (h.0, r)
      go false r = r
  names_ok Q ls (Call t f args c) s h = (h.0, names_ok Q ls c s h.1)
  names_ok Q ls (Choose p a b c) s h = let k = left n ls c s in (h.0, names_ok Q ls a k h.1, names_ok Q ls b k h.2, names_ok Q ls c s h.3)
  names_ok Q ls (Block b c) s h = let k = left n ls c s in (names_ok Q (in_block k ls) b k h.0, names_ok Q ls c s h.1)
  names_ok Q ls (Loop b c) s h = let k = left n ls c s in (names_ok Q (in_loop (live_set (in_block k ls) b k) k ls) b k h.0, names_ok Q ls c s h.1)
  names_ok Q ls (Leave j c) s h = names_ok Q ls c s h
  names_ok Q ls (Again j c) s h = names_ok Q ls c s h
  names_ok Q ls (Return p c) s h = (h.0, names_ok Q ls c s h.1)

counts_same : (fs : List (FunctionT ℕ)) (h : ℕ) → option_map (λ f. length f.params) (slice_get (map swept_function fs) h) ≡ option_map (λ f. length f.params) (slice_get fs h)
counts_same [] h = refl
counts_same (f ∷ fs) zero = refl
counts_same (f ∷ fs) (suc h) = counts_same fs h

module _ (x : CodeT ℕ) where
  abbrev y : CodeT ℕ
  y = swept_code x

  op_ok : (m : ℕ) (o : OpT ℕ) → IsOp x m o → IsOp y m o
  op_ok m (ConstO t w) h = h
  op_ok m (NullO t) h = h
  op_ok m (MoveO t a) h = h
  op_ok m (OneO o t a) h = h
  op_ok m (TwoO o t a b) h = h
  op_ok m (GlobalO t n) h = h
  op_ok m (LocalO t n) h = h
  op_ok m (LiteralO t n) h = h
  op_ok m (CardO t) h = h
  op_ok m (StepO t p n) h = h
  op_ok m (ApartO t p q) h = h
  op_ok m (PtrTestO o t p q) h = h
  op_ok m (LoadO t p) h = h
  op_ok m (StoreO p a) h = h
  op_ok m (FreshO n) h = h
  op_ok m (EndO n) h = h
  op_ok m (InO t port) h = h
  op_ok m (OutO port a) h = h
  op_ok m WaitO h = h
  op_ok m HaltO h = h

  nodes_ok : (n m : ℕ) (bs : List Bool) (ls : Labels) (c : NodesT ℕ) (s : Set) → AreNodes x m bs c → AreNodes y m bs (swept n ls c s)
  nodes_ok n m bs ls Stop s h = tt
  nodes_ok n m bs ls (Do o c) s h = go (maybe_wanted n (only_puts o) (target o) (left n ls c s)) (nodes_ok n m bs ls c s h.1)
    where
      go : (b : Bool) → AreNodes y m bs (swept n ls c s) → AreNodes y m bs (cond b (Do o (swept n ls c s)) (swept n ls c s))
      go true r = (op_ok m o h.0, r)
      go false r = r
  nodes_ok n m bs ls (Call t f args c) s h = (counts_same x.functions f ∙ h.0, nodes_ok n m bs ls c s h.1)
  nodes_ok n m bs ls (Choose p a b c) s h = let k = left n ls c s in (nodes_ok n m bs ls a k h.0, nodes_ok n m bs ls b k h.1, nodes_ok n m bs ls c s h.2)
  nodes_ok n m bs ls (Block b c) s h = let k = left n ls c s in (nodes_ok n m (false ∷ bs) (in_block k ls) b k h.0, nodes_ok n m bs ls c s h.1)
  nodes_ok n m bs ls (Loop b c) s h = let k = left n ls c s in (nodes_ok n m (true ∷ bs) (in_loop (live_set (in_block k ls) b k) k ls) b k h.0, nodes_ok n m bs ls c s h.1)
  nodes_ok n m bs ls (Leave j c) s h = (h.0, nodes_ok n m bs ls c s h.1)
  nodes_ok n m bs ls (Again j c) s h = (h.0, nodes_ok n m bs ls c s h.1)
  nodes_ok n m bs ls (Return p c) s h = nodes_ok n m bs ls c s h

  function_ok : (f : FunctionT ℕ) → IsFunction IsTemporary x f → IsFunction IsTemporary y (swept_function f)
  function_ok f ok = record {
    nodes = nodes_ok f.temps (length f.locals) [] no_labels f.body none_live ok.nodes;
    names = names_ok f.temps (λ t. t < f.temps) no_labels f.body none_live ok.names;
    params_named = ok.params_named;
    params_differ = ok.params_differ;
    count = ok.count;
    sizes = ok.sizes;
    words = ok.words;
  }

  functions_ok : (fs : List (FunctionT ℕ)) → AllOf (IsFunction IsTemporary x) fs → AllOf (IsFunction IsTemporary y) (map swept_function fs)
  functions_ok [] ok = tt
  functions_ok (f ∷ fs) ok = (function_ok f ok.0, functions_ok fs ok.1)

  swept_mid : IsMid x → IsMid y
  swept_mid mid = record {
    start = record { function = function_ok x.start mid.start.function; params = mid.start.params; locals = mid.start.locals; gives = mid.start.gives; calls = calls_none x.start.temps no_labels x.start.body none_live mid.start.calls };
    functions = functions_ok x.functions mid.functions;
    globals = mid.globals;
    main = counts_same x.functions x.main ∙ mid.main;
  }

-- ---- lighter, or each target was wanted

-- nothing is taken out
record IsWhole (n : ℕ) (ls : Labels) (c : NodesT ℕ) (s : Set) : Type 0 where
  same : swept n ls c s ≡ c
  sets : left n ls c s ≡ live_set ls c s
  wanted : all_wanted n ls c s ≡ true

abbrev Lighter : ℕ → Labels → NodesT ℕ → Set → Type 0
Lighter n ls c s = (nodes_weight (swept n ls c s) < nodes_weight c) ⊎ IsWhole n ls c s

no_more : (n : ℕ) (ls : Labels) (c : NodesT ℕ) (s : Set) → Lighter n ls c s → nodes_weight (swept n ls c s) ≤ nodes_weight c
no_more n ls c s (inl l) = omega (arith, l)
no_more n ls c s (inr w) = let e = ap nodes_weight w.same in omega (arith, e)

module _ (n : ℕ) where
  lighter_op : (ls : Labels) (o : OpT ℕ) (c : NodesT ℕ) (s : Set) (b : Bool) → maybe_wanted n (only_puts o) (target o) (left n ls c s) ≡ b → Lighter n ls c s
      → (nodes_weight (cond b (Do o (swept n ls c s)) (swept n ls c s)) < nodes_weight (Do o c))
      ⊎ ((b ≡ true) × IsWhole n ls c s)
  lighter_op ls o c s true e (inl l) = inl (omega (arith, l))
  lighter_op ls o c s true e (inr w) = inr (refl, w)
  lighter_op ls o c s false e h =
      let l = no_more n ls c s h in
      let k = weighs_some o (unwanted n (only_puts o) (target o) (left n ls c s) e).0 in
      inl (omega (arith, l, k))

  whole_op : (ls : Labels) (o : OpT ℕ) (c : NodesT ℕ) (s : Set) → maybe_wanted n (only_puts o) (target o) (left n ls c s) ≡ true → IsWhole n ls c s → IsWhole n ls (Do o c) s
  whole_op ls o c s e w = record {
    same = ap (λ b. cond b (Do o (swept n ls c s)) (swept n ls c s)) e ∙ ap (Do o) w.same;
    sets = (λ i y. cond (e i) (live_before (is_used (Do o c) y) (is_target (Do o c) y) (left n ls c s y)) (left n ls c s y)) ∙ (λ i y. live_before (is_used (Do o c) y) (is_target (Do o c) y) (w.sets i y));
    wanted = and_from (maybe_wanted n (only_puts o) (target o) (live_set ls c s)) (all_wanted n ls c s) (ap (maybe_wanted n (only_puts o) (target o)) (sym w.sets) ∙ e) w.wanted;
  }

  whole_loop : (ls : Labels) (b c : NodesT ℕ) (s : Set) → IsWhole n (in_loop (live_set (in_block (left n ls c s) ls) b (left n ls c s)) (left n ls c s) ls) b (left n ls c s) → IsWhole n ls c s → IsWhole n ls (Loop b c) s
  whole_loop ls b c s v w =
      let k = left n ls c s in
      let head : live_set (in_block k ls) b k ≡ live_set ls (Loop b c) s = λ i. live_set (in_block (w.sets i) ls) b (w.sets i) in
      record {
        same = λ i. Loop (v.same i) (w.same i);
        sets = v.sets ∙ (λ i y. turn_same y (ls y) b (k y) i) ∙ head;
        wanted = and_from (all_wanted n (in_loop (live_set ls (Loop b c) s) (live_set ls c s) ls) b (live_set ls c s)) (all_wanted n ls c s) ((λ i. all_wanted n (in_loop (sym head i) (sym w.sets i) ls) b (sym w.sets i)) ∙ v.wanted) w.wanted;
      }

  whole_block : (ls : Labels) (b c : NodesT ℕ) (s : Set) → IsWhole n (in_block (left n ls c s) ls) b (left n ls c s) → IsWhole n ls c s → IsWhole n ls (Block b c) s
  whole_block ls b c s v w = record {
    same = λ i. Block (v.same i) (w.same i);
    sets = v.sets ∙ (λ i. live_set (in_block (w.sets i) ls) b (w.sets i));
    wanted = and_from (all_wanted n (in_block (live_set ls c s) ls) b (live_set ls c s)) (all_wanted n ls c s) ((λ i. all_wanted n (in_block (sym w.sets i) ls) b (sym w.sets i)) ∙ v.wanted) w.wanted;
  }

  whole_choose : (ls : Labels) (p : ℕ) (a b c : NodesT ℕ) (s : Set) → IsWhole n ls a (left n ls c s) → IsWhole n ls b (left n ls c s) → IsWhole n ls c s → IsWhole n ls (Choose p a b c) s
  whole_choose ls p a b c s u v w = record {
    same = λ i. Choose p (u.same i) (v.same i) (w.same i);
    sets = (λ i y. live_before (is_used (Choose p a b c) y) false (u.sets i y || v.sets i y)) ∙ (λ i y. live_before (is_used (Choose p a b c) y) false (live_set ls a (w.sets i) y || live_set ls b (w.sets i) y));
    wanted = and_from (all_wanted n ls a (live_set ls c s)) (all_wanted n ls b (live_set ls c s) && all_wanted n ls c s) ((λ i. all_wanted n ls a (sym w.sets i)) ∙ u.wanted)
        (and_from (all_wanted n ls b (live_set ls c s)) (all_wanted n ls c s) ((λ i. all_wanted n ls b (sym w.sets i)) ∙ v.wanted) w.wanted);
  }

  lighter : (ls : Labels) (c : NodesT ℕ) (s : Set) → Lighter n ls c s
  lighter ls Stop s = inr (record { same = refl; sets = refl; wanted = refl })
  lighter ls (Do o c) s = go (lighter_op ls o c s (maybe_wanted n (only_puts o) (target o) (left n ls c s)) refl (lighter ls c s))
    where
      go : (nodes_weight (swept n ls (Do o c) s) < nodes_weight (Do o c)) ⊎ ((maybe_wanted n (only_puts o) (target o) (left n ls c s) ≡ true) × IsWhole n ls c s) → Lighter n ls (Do o c) s
      go (inl l) = inl l
      go (inr w) = inr (whole_op ls o c s w.0 w.1)
  lighter ls (Call t f args c) s = go (lighter ls c s)
    where
      go : Lighter n ls c s → Lighter n ls (Call t f args c) s
      go (inl l) = inl (omega (arith, l))
      go (inr w) = inr (record { same = ap (Call t f args) w.same; sets = (λ i y. live_before (is_used (Call t f args c) y) (is_target (Call t f args c) y) (w.sets i y)); wanted = w.wanted })
  lighter ls (Choose p a b c) s = go (lighter ls a (left n ls c s)) (lighter ls b (left n ls c s)) (lighter ls c s)
    where
      go : Lighter n ls a (left n ls c s) → Lighter n ls b (left n ls c s) → Lighter n ls c s → Lighter n ls (Choose p a b c) s
      go (inl u) v w = let q = no_more n ls b (left n ls c s) v in let r = no_more n ls c s w in inl (omega (arith, u, q, r))
      go (inr u) (inl v) w = let q = no_more n ls a (left n ls c s) (inr u) in let r = no_more n ls c s w in inl (omega (arith, v, q, r))
      go (inr u) (inr v) (inl w) = let q = no_more n ls a (left n ls c s) (inr u) in let r = no_more n ls b (left n ls c s) (inr v) in inl (omega (arith, w, q, r))
      go (inr u) (inr v) (inr w) = inr (whole_choose ls p a b c s u v w)
  lighter ls (Block b c) s = go (lighter (in_block (left n ls c s) ls) b (left n ls c s)) (lighter ls c s)
    where
      go : Lighter n (in_block (left n ls c s) ls) b (left n ls c s) → Lighter n ls c s → Lighter n ls (Block b c) s
      go (inl v) w = let r = no_more n ls c s w in inl (omega (arith, v, r))
      go (inr v) (inl w) = let q = no_more n (in_block (left n ls c s) ls) b (left n ls c s) (inr v) in inl (omega (arith, w, q))
      go (inr v) (inr w) = inr (whole_block ls b c s v w)
  lighter ls (Loop b c) s = go (lighter (in_loop (live_set (in_block (left n ls c s) ls) b (left n ls c s)) (left n ls c s) ls) b (left n ls c s)) (lighter ls c s)
    where
      go : Lighter n (in_loop (live_set (in_block (left n ls c s) ls) b (left n ls c s)) (left n ls c s) ls) b (left n ls c s) → Lighter n ls c s → Lighter n ls (Loop b c) s
      go (inl v) w = let r = no_more n ls c s w in inl (omega (arith, v, r))
      go (inr v) (inl w) = let q = no_more n (in_loop (live_set (in_block (left n ls c s) ls) b (left n ls c s)) (left n ls c s) ls) b (left n ls c s) (inr v) in inl (omega (arith, w, q))
      go (inr v) (inr w) = inr (whole_loop ls b c s v w)
  lighter ls (Leave j c) s = go (lighter ls c s)
    where
      go : Lighter n ls c s → Lighter n ls (Leave j c) s
      go (inl l) = inl (omega (arith, l))
      go (inr w) = inr (record { same = ap (Leave j) w.same; sets = refl; wanted = w.wanted })
  lighter ls (Again j c) s = go (lighter ls c s)
    where
      go : Lighter n ls c s → Lighter n ls (Again j c) s
      go (inl l) = inl (omega (arith, l))
      go (inr w) = inr (record { same = ap (Again j) w.same; sets = refl; wanted = w.wanted })
  lighter ls (Return p c) s = go (lighter ls c s)
    where
      go : Lighter n ls c s → Lighter n ls (Return p c) s
      go (inl l) = inl (omega (arith, l))
      go (inr w) = inr (record { same = ap (Return p) w.same; sets = refl; wanted = w.wanted })

-- ---- functions and programs

record WasWhole (f : FunctionT ℕ) : Type 0 where
  same : swept_function f ≡ f
  wanted : HasWanted f

function_lighter : (x : CodeT ℕ) (f : FunctionT ℕ) → IsFunction IsTemporary x f → (nodes_weight (swept_function f).body < nodes_weight f.body) ⊎ WasWhole f
function_lighter x f ok = go (lighter f.temps no_labels f.body none_live)
  where
    go : Lighter f.temps no_labels f.body none_live → (nodes_weight (swept_function f).body < nodes_weight f.body) ⊎ WasWhole f
    go (inl l) = inl l
    go (inr w) = inr (record { same = λ i. record f { body = w.same i }; wanted = each_live f.temps [] f.body ok.names w.wanted })

record WereWhole (fs : List (FunctionT ℕ)) : Type 0 where
  same : map swept_function fs ≡ fs
  wanted : AllOf HasWanted fs

functions_lighter : (x : CodeT ℕ) (fs : List (FunctionT ℕ)) → AllOf (IsFunction IsTemporary x) fs → (sum_by function_weight (map swept_function fs) < sum_by function_weight fs) ⊎ WereWhole fs
functions_lighter x [] ok = inr (record { same = refl; wanted = tt })
functions_lighter x (f ∷ fs) ok = go (function_lighter x f ok.0) (functions_lighter x fs ok.1)
  where
    go : (nodes_weight (swept_function f).body < nodes_weight f.body) ⊎ WasWhole f → (sum_by function_weight (map swept_function fs) < sum_by function_weight fs) ⊎ WereWhole fs
        → (sum_by function_weight (map swept_function (f ∷ fs)) < sum_by function_weight (f ∷ fs)) ⊎ WereWhole (f ∷ fs)
    go (inr v) (inr w) = inr (record { same = (λ i. v.same i ∷ w.same i); wanted = (v.wanted, w.wanted) })
    go (inl l) (inl m) = let after = sum_by-cons function_weight (swept_function f) (map swept_function fs) in let before = sum_by-cons function_weight f fs in inl (omega (arith, l, m, after, before))
    go (inl l) (inr w) = let after = sum_by-cons function_weight (swept_function f) (map swept_function fs) in let before = sum_by-cons function_weight f fs in let e = ap (sum_by function_weight) w.same in inl (omega (arith, l, e, after, before))
    go (inr v) (inl m) = let after = sum_by-cons function_weight (swept_function f) (map swept_function fs) in let before = sum_by-cons function_weight f fs in let e = ap (λ g. nodes_weight g.body) v.same in inl (omega (arith, m, e, after, before))

code_lighter : (x : CodeT ℕ) → IsMid x → (weight (swept_code x) < weight x) ⊎ IsSweptAlready x (swept_code x)
code_lighter x mid = go (function_lighter x x.start mid.start.function) (functions_lighter x x.functions mid.functions)
  where
    go : (nodes_weight (swept_function x.start).body < nodes_weight x.start.body) ⊎ WasWhole x.start → (sum_by function_weight (map swept_function x.functions) < sum_by function_weight x.functions) ⊎ WereWhole x.functions
        → (weight (swept_code x) < weight x) ⊎ IsSweptAlready x (swept_code x)
    go (inr v) (inr w) = inr (record { same = (λ i. record x { start = v.same i; functions = w.same i }); start = v.wanted; functions = w.wanted })
    go (inl l) (inl m) = inl (omega (arith, l, m))
    go (inl l) (inr w) = let e = ap (sum_by function_weight) w.same in inl (omega (arith, l, e))
    go (inr v) (inl m) = let e = ap (λ g. nodes_weight g.body) v.same in inl (omega (arith, m, e))

function_swept : (f : FunctionT ℕ) → IsSweptFunction f (swept_function f)
function_swept f = record { temporaries = refl; params = refl; locals = refl; gives = refl; stays = skeleton_same f.temps no_labels f.body none_live; divisions = swept_divisions f.temps f.body }

each_swept : (fs : List (FunctionT ℕ)) → EachSwept fs (map swept_function fs)
each_swept [] = tt
each_swept (f ∷ fs) = (function_swept f, each_swept fs)

pub swept_from : (x : CodeT ℕ) → IsMid x → IsSweptFrom x (swept_code x)
swept_from x mid = record {
  is_mid = swept_mid x mid;
  keeps = λ frames. swept_keeps x mid frames;
  works = λ frames. swept_works x mid frames;
  weighs = code_lighter x mid;
  start = function_swept x.start;
  functions = each_swept x.functions;
  globals = refl;
  literals = refl;
  main = refl;
}

-- a program with other functions
abbrev pub with_functions : (x : CodeT ℕ) (start : FunctionT ℕ) (functions : List (FunctionT ℕ)) → CodeT ℕ
with_functions x start functions = record x { start = start; functions = functions }

-- of a program which is known to be the first
pub is_swept : (x o : CodeT ℕ) (start : FunctionT ℕ) (functions : List (FunctionT ℕ)) → IsMid x → o ≡ x → start ≡ swept_function o.start → functions ≡ map swept_function o.functions
    → IsSweptFrom x (with_functions o start functions)
is_swept x o start functions mid of s fs =
    let same : swept_code x ≡ with_functions o start functions = sym ((λ i. with_functions o (s i) (fs i)) ∙ ap swept_code of) in
    subst (IsSweptFrom x) same (swept_from x mid)
