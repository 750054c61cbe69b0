-- Promoted code is mid code, and has no loop and no call more.
use Rattle.std.proofs.Common.{◌≡◌, ℕ, zero, suc, ◌+◌, ◌<◌, ◌≤◌, inl, inr, Bool, true, false, cond, List, [], ◌∷◌, length, get_or, slice_get, option_map, Option, Some, None, refl, sym, ◌∙◌, subst, arith}
use Rattle.mid_code.specs.Code.{OpT, ConstO, NullO, MoveO, OneO, TwoO, GlobalO, LocalO, LiteralO, CardO, StepO, ApartO, PtrTestO, LoadO, StoreO, FreshO, EndO, InO, OutO, WaitO, HaltO, NodesT, Stop, Do, Call, Choose, Block, Loop, Leave, Again, Return, FunctionT, CodeT, maybe, node_uses, node_target}
use Rattle.mid_code.specs.Invariants.{IsOp, AreNodes, AllOf, NodeNames, Names, IsFunction, IsTemporary, IsMid}
use Rattle.mid_code.specs.States.{function_at, no_function}
use Rattle.mid_scalars.specs.inner.Plan.{Kind, Own, Address, Variable, Plan, promoted_op, promoted_nodes}
use Rattle.mid_scalars.specs.inner.Table.{flags, trues, trues_before, falses_before, kept, kind_in, is_promoted, variable_of, kind_of, moved_to, plan_of, promoted_function, promoted_functions, promoted}
use Rattle.mid_code.specs.inner.Passing.{doing}
use Rattle.mid_scalars.specs.inner.Plan.{by_kind}
use Rattle.mid_scalars.proofs.Planned.{kept_in, kind_address}
use Rattle.mid_scalars.proofs.Promotes.{same_nodes, function_ok}
use Rattle.std.specs.Prelude.{sum}
use Rattle.std.specs.List.{fold}
use Rattle.mid_code.specs.Calls.{loops, CallsTo, NoneAdd}
use Rattle.mid_code.specs.Invariants.{IsCall}
use Rattle.mid_scalars.proofs.Plainly.{promote_counts}

true_false : true ≡ false → ⊥
true_false e = cc

-- ---- loops and calls

module _ (X : Plan) (h : Option ℕ) where
  loops_op : (o : OpT ℕ) (c : NodesT ℕ) → loops (doing (promoted_op X h o) c) ≡ loops c
  loops_op (LocalO t k) c = go (X.promoted h k)
    where
      go : (b : Bool) → loops (doing (cond b [] (LocalO t (X.moved h k) ∷ [])) c) ≡ loops c
      go true = refl
      go false = refl
  loops_op (LoadO t p) c = go (X.kind h p)
    where
      go : (b : Kind) → loops (doing (by_kind b (LoadO t p ∷ []) (λ k. MoveO t (X.variable h k) ∷ [])) c) ≡ loops c
      go Own = refl
      go (Address k) = refl
      go (Variable k) = refl
  loops_op (StoreO p a) c = go (X.kind h p)
    where
      go : (b : Kind) → loops (doing (by_kind b (StoreO p a ∷ []) (λ k. MoveO (X.variable h k) a ∷ [])) c) ≡ loops c
      go Own = refl
      go (Address k) = refl
      go (Variable k) = refl
  loops_op (FreshO k) c = go (X.promoted h k)
    where
      go : (b : Bool) → loops (doing (cond b [] (FreshO (X.moved h k) ∷ [])) c) ≡ loops c
      go true = refl
      go false = refl
  loops_op (EndO k) c = go (X.promoted h k)
    where
      go : (b : Bool) → loops (doing (cond b [] (EndO (X.moved h k) ∷ [])) c) ≡ loops c
      go true = refl
      go false = refl
  loops_op (ConstO q word) c = refl
  loops_op (NullO q) c = refl
  loops_op (MoveO q a) c = refl
  loops_op (OneO o q a) c = refl
  loops_op (TwoO o q a b) c = refl
  loops_op (GlobalO q number) c = refl
  loops_op (LiteralO q number) c = refl
  loops_op (CardO q) c = refl
  loops_op (StepO q p n) c = refl
  loops_op (ApartO q p r) c = refl
  loops_op (PtrTestO o q p r) c = refl
  loops_op (InO q port) c = refl
  loops_op (OutO port a) c = refl
  loops_op WaitO c = refl
  loops_op HaltO c = refl

  loops_same : (c : NodesT ℕ) → loops (promoted_nodes X h c) ≡ loops c
  loops_same Stop = refl
  loops_same (Do o c) = loops_op o (promoted_nodes X h c) ∙ loops_same c
  loops_same (Call t f args c) = loops_same c
  loops_same (Choose p a b c) = let e = loops_same a in let f = loops_same b in let g = loops_same c in omega (arith, e, f, g)
  loops_same (Block b c) = let e = loops_same b in let f = loops_same c in omega (arith, e, f)
  loops_same (Loop b c) = let e = loops_same b in let f = loops_same c in omega (arith, e, f)
  loops_same (Leave k c) = loops_same c
  loops_same (Again k c) = loops_same c
  loops_same (Return p c) = loops_same c

  calls_op : (g : ℕ) (o : OpT ℕ) (c : NodesT ℕ) → CallsTo g (doing (promoted_op X h o) c) → CallsTo g c
  calls_op g (LocalO t k) c = go (X.promoted h k)
    where
      go : (b : Bool) → CallsTo g (doing (cond b [] (LocalO t (X.moved h k) ∷ [])) c) → CallsTo g c
      go true r = r
      go false r = r
  calls_op g (LoadO t p) c = go (X.kind h p)
    where
      go : (b : Kind) → CallsTo g (doing (by_kind b (LoadO t p ∷ []) (λ k. MoveO t (X.variable h k) ∷ [])) c) → CallsTo g c
      go Own r = r
      go (Address k) r = r
      go (Variable k) r = r
  calls_op g (StoreO p a) c = go (X.kind h p)
    where
      go : (b : Kind) → CallsTo g (doing (by_kind b (StoreO p a ∷ []) (λ k. MoveO (X.variable h k) a ∷ [])) c) → CallsTo g c
      go Own r = r
      go (Address k) r = r
      go (Variable k) r = r
  calls_op g (FreshO k) c = go (X.promoted h k)
    where
      go : (b : Bool) → CallsTo g (doing (cond b [] (FreshO (X.moved h k) ∷ [])) c) → CallsTo g c
      go true r = r
      go false r = r
  calls_op g (EndO k) c = go (X.promoted h k)
    where
      go : (b : Bool) → CallsTo g (doing (cond b [] (EndO (X.moved h k) ∷ [])) c) → CallsTo g c
      go true r = r
      go false r = r
  calls_op g (ConstO q word) c = λ z. z
  calls_op g (NullO q) c = λ z. z
  calls_op g (MoveO q a) c = λ z. z
  calls_op g (OneO o q a) c = λ z. z
  calls_op g (TwoO o q a b) c = λ z. z
  calls_op g (GlobalO q number) c = λ z. z
  calls_op g (LiteralO q number) c = λ z. z
  calls_op g (CardO q) c = λ z. z
  calls_op g (StepO q p n) c = λ z. z
  calls_op g (ApartO q p r) c = λ z. z
  calls_op g (PtrTestO o q p r) c = λ z. z
  calls_op g (InO q port) c = λ z. z
  calls_op g (OutO port a) c = λ z. z
  calls_op g WaitO c = λ z. z
  calls_op g HaltO c = λ z. z

  calls_before : (g : ℕ) (c : NodesT ℕ) → CallsTo g (promoted_nodes X h c) → CallsTo g c
  calls_before g Stop r = r
  calls_before g (Do o c) r = calls_before g c (calls_op g o (promoted_nodes X h c) r)
  calls_before g (Call t f args c) r = elim r [ inl e ↦ inl e | inr q ↦ inr (calls_before g c q) ]
  calls_before g (Choose p a b c) r = elim r [ inl q ↦ inl (calls_before g a q) | inr u ↦ elim u [ inl q ↦ inr (inl (calls_before g b q)) | inr q ↦ inr (inr (calls_before g c q)) ] ]
  calls_before g (Block b c) r = elim r [ inl q ↦ inl (calls_before g b q) | inr q ↦ inr (calls_before g c q) ]
  calls_before g (Loop b c) r = elim r [ inl q ↦ inl (calls_before g b q) | inr q ↦ inr (calls_before g c q) ]
  calls_before g (Leave k c) r = calls_before g c r
  calls_before g (Again k c) r = calls_before g c r
  calls_before g (Return p c) r = calls_before g c r

none_from : (X : Plan) (n : ℕ) (fs : List (FunctionT ℕ)) → NoneAdd fs (promoted_functions X n fs)
none_from X n [] = tt
none_from X n (f ∷ fs) = (record { loop_count = let e = loops_same X (Some n) f.body in omega (arith, e); calls = λ g. calls_before X (Some n) g f.body }, none_from X (suc n) fs)

-- no loop and no call more
pub promote_adds_none : (x : CodeT ℕ) → NoneAdd x.functions (promoted x).functions
promote_adds_none x = none_from (plan_of x) 0 x.functions

-- ---- it is mid code

-- functions keep their parameters
counts_same : (X : Plan) (n : ℕ) (fs : List (FunctionT ℕ)) (g : ℕ) → option_map (λ f. length f.params) (slice_get (promoted_functions X n fs) g) ≡ option_map (λ f. length f.params) (slice_get fs g)
counts_same X n [] g = refl
counts_same X n (f ∷ fs) zero = refl
counts_same X n (f ∷ fs) (suc g) = counts_same X (suc n) fs g

module _ (x : CodeT ℕ) (h : Option ℕ) (T T' m m' : ℕ) (more : T ≤ T') (moved_ok : (k : ℕ) → k < m → is_promoted x h k ≡ false → moved_to x h k < m') (variable_ok : (p k : ℕ) → kind_of x h p ≡ Address k → variable_of x h k < T') where
  abbrev X : Plan
  X = plan_of x

  abbrev y : CodeT ℕ
  y = promoted x

  calls_ok : (g : ℕ) (args : List ℕ) → IsCall x g args → IsCall y g args
  calls_ok g args c = counts_same X 0 x.functions g ∙ c

  op_ok : (o : OpT ℕ) (ls : List Bool) (c : NodesT ℕ) → IsOp x m o → AreNodes y m' ls c → AreNodes y m' ls (doing (promoted_op X h o) c)
  op_ok (LocalO t k) ls c i n = go (is_promoted x h k) refl
    where
      go : (b : Bool) → is_promoted x h k ≡ b → AreNodes y m' ls (doing (cond b [] (LocalO t (moved_to x h k) ∷ [])) c)
      go true e = n
      go false e = (moved_ok k i e, n)
  op_ok (LoadO t p) ls c i n = go (kind_of x h p)
    where
      go : (b : Kind) → AreNodes y m' ls (doing (by_kind b (LoadO t p ∷ []) (λ k. MoveO t (variable_of x h k) ∷ [])) c)
      go Own = (tt, n)
      go (Address k) = (tt, n)
      go (Variable k) = (tt, n)
  op_ok (StoreO p a) ls c i n = go (kind_of x h p)
    where
      go : (b : Kind) → AreNodes y m' ls (doing (by_kind b (StoreO p a ∷ []) (λ k. MoveO (variable_of x h k) a ∷ [])) c)
      go Own = (tt, n)
      go (Address k) = (tt, n)
      go (Variable k) = (tt, n)
  op_ok (FreshO k) ls c i n = go (is_promoted x h k) refl
    where
      go : (b : Bool) → is_promoted x h k ≡ b → AreNodes y m' ls (doing (cond b [] (FreshO (moved_to x h k) ∷ [])) c)
      go true e = n
      go false e = (moved_ok k i e, n)
  op_ok (EndO k) ls c i n = go (is_promoted x h k) refl
    where
      go : (b : Bool) → is_promoted x h k ≡ b → AreNodes y m' ls (doing (cond b [] (EndO (moved_to x h k) ∷ [])) c)
      go true e = n
      go false e = (moved_ok k i e, n)
  op_ok (ConstO q word) ls c i m0 = (i, m0)
  op_ok (NullO q) ls c i m0 = (i, m0)
  op_ok (MoveO q a) ls c i m0 = (i, m0)
  op_ok (OneO o q a) ls c i m0 = (i, m0)
  op_ok (TwoO o q a b) ls c i m0 = (i, m0)
  op_ok (GlobalO q number) ls c i m0 = (i, m0)
  op_ok (LiteralO q number) ls c i m0 = (i, m0)
  op_ok (CardO q) ls c i m0 = (i, m0)
  op_ok (StepO q p n) ls c i m0 = (i, m0)
  op_ok (ApartO q p r) ls c i m0 = (i, m0)
  op_ok (PtrTestO o q p r) ls c i m0 = (i, m0)
  op_ok (InO q port) ls c i m0 = (i, m0)
  op_ok (OutO port a) ls c i m0 = (i, m0)
  op_ok WaitO ls c i m0 = (i, m0)
  op_ok HaltO ls c i m0 = (i, m0)

  nodes_ok : (ls : List Bool) (c : NodesT ℕ) → AreNodes x m ls c → AreNodes y m' ls (promoted_nodes X h c)
  nodes_ok ls Stop n = tt
  nodes_ok ls (Do o c) n = op_ok o ls (promoted_nodes X h c) n.0 (nodes_ok ls c n.1)
  nodes_ok ls (Call t g args c) n = (calls_ok g args n.0, nodes_ok ls c n.1)
  nodes_ok ls (Choose p a b c) n = (nodes_ok ls a n.0, nodes_ok ls b n.1, nodes_ok ls c n.2)
  nodes_ok ls (Block b c) n = (nodes_ok (false ∷ ls) b n.0, nodes_ok ls c n.1)
  nodes_ok ls (Loop b c) n = (nodes_ok (true ∷ ls) b n.0, nodes_ok ls c n.1)
  nodes_ok ls (Leave k c) n = (n.0, nodes_ok ls c n.1)
  nodes_ok ls (Again k c) n = (n.0, nodes_ok ls c n.1)
  nodes_ok ls (Return p c) n = nodes_ok ls c n

  all_more : (ts : List ℕ) → AllOf (λ t. t < T) ts → AllOf (λ t. t < T') ts
  all_more [] n = tt
  all_more (t ∷ ts) n = (let a = n.0 in omega (arith, a, more), all_more ts n.1)

  node_more : (d : NodesT ℕ) → NodeNames (λ t. t < T) d → NodeNames (λ t. t < T') d
  node_more d n = (all_more (node_uses d) n.0, all_more (maybe (node_target d)) n.1)

  abbrev Named' : NodesT ℕ → Type 0
  Named' c = Names (λ t. t < T') c

  op_named : (o : OpT ℕ) (c d : NodesT ℕ) → NodeNames (λ t. t < T) (Do o d) → Named' c → Named' (doing (promoted_op X h o) c)
  op_named (LocalO t k) c d i n = go (is_promoted x h k)
    where
      go : (b : Bool) → Named' (doing (cond b [] (LocalO t (moved_to x h k) ∷ [])) c)
      go true = n
      go false = (node_more (Do (LocalO t k) d) i, n)
  op_named (LoadO t p) c d i n = go (kind_of x h p) refl
    where
      go : (b : Kind) → kind_of x h p ≡ b → Named' (doing (by_kind b (LoadO t p ∷ []) (λ k. MoveO t (variable_of x h k) ∷ [])) c)
      go Own e = (node_more (Do (LoadO t p) d) i, n)
      go (Address k) e = (((variable_ok p k e, tt), all_more (t ∷ []) i.1), n)
      go (Variable k) e = (node_more (Do (LoadO t p) d) i, n)
  op_named (StoreO p a) c d i n = go (kind_of x h p) refl
    where
      go : (b : Kind) → kind_of x h p ≡ b → Named' (doing (by_kind b (StoreO p a ∷ []) (λ k. MoveO (variable_of x h k) a ∷ [])) c)
      go Own e = (node_more (Do (StoreO p a) d) i, n)
      go (Address k) e = ((all_more (a ∷ []) i.0.1, (variable_ok p k e, tt)), n)
      go (Variable k) e = (node_more (Do (StoreO p a) d) i, n)
  op_named (FreshO k) c d i n = go (is_promoted x h k)
    where
      go : (b : Bool) → Named' (doing (cond b [] (FreshO (moved_to x h k) ∷ [])) c)
      go true = n
      go false = ((tt, tt), n)
  op_named (EndO k) c d i n = go (is_promoted x h k)
    where
      go : (b : Bool) → Named' (doing (cond b [] (EndO (moved_to x h k) ∷ [])) c)
      go true = n
      go false = ((tt, tt), n)
  op_named (ConstO q word) c d i m0 = (node_more (Do (ConstO q word) d) i, m0)
  op_named (NullO q) c d i m0 = (node_more (Do (NullO q) d) i, m0)
  op_named (MoveO q a) c d i m0 = (node_more (Do (MoveO q a) d) i, m0)
  op_named (OneO o q a) c d i m0 = (node_more (Do (OneO o q a) d) i, m0)
  op_named (TwoO o q a b) c d i m0 = (node_more (Do (TwoO o q a b) d) i, m0)
  op_named (GlobalO q number) c d i m0 = (node_more (Do (GlobalO q number) d) i, m0)
  op_named (LiteralO q number) c d i m0 = (node_more (Do (LiteralO q number) d) i, m0)
  op_named (CardO q) c d i m0 = (node_more (Do (CardO q) d) i, m0)
  op_named (StepO q p n) c d i m0 = (node_more (Do (StepO q p n) d) i, m0)
  op_named (ApartO q p r) c d i m0 = (node_more (Do (ApartO q p r) d) i, m0)
  op_named (PtrTestO o q p r) c d i m0 = (node_more (Do (PtrTestO o q p r) d) i, m0)
  op_named (InO q port) c d i m0 = (node_more (Do (InO q port) d) i, m0)
  op_named (OutO port a) c d i m0 = (node_more (Do (OutO port a) d) i, m0)
  op_named WaitO c d i m0 = (node_more (Do WaitO d) i, m0)
  op_named HaltO c d i m0 = (node_more (Do HaltO d) i, m0)

  names_ok : (c : NodesT ℕ) → Names (λ t. t < T) c → Named' (promoted_nodes X h c)
  names_ok Stop n = tt
  names_ok (Do o c) n = op_named o (promoted_nodes X h c) c n.0 (names_ok c n.1)
  names_ok (Call t g args c) n = (node_more (Call t g args c) n.0, names_ok c n.1)
  names_ok (Choose p a b c) n = (node_more (Choose p a b c) n.0, names_ok a n.1, names_ok b n.2, names_ok c n.3)
  names_ok (Block b c) n = (names_ok b n.0, names_ok c n.1)
  names_ok (Loop b c) n = (names_ok b n.0, names_ok c n.1)
  names_ok (Leave k c) n = names_ok c n
  names_ok (Again k c) n = names_ok c n
  names_ok (Return p c) n = (node_more (Return p c) n.0, names_ok c n.1)

fold_from : (n : ℕ) (sizes : List ℕ) → fold ◌+◌ n sizes ≡ n + fold ◌+◌ 0 sizes
fold_from n [] = omega arith
fold_from n (s ∷ sizes) = let a = fold_from (n + s) sizes in let b = fold_from (0 + s) sizes in omega (arith, a, b)

pub sum_first : (s : ℕ) (sizes : List ℕ) → sum (s ∷ sizes) ≡ s + sum sizes
sum_first s sizes = fold_from (0 + s) sizes ∙ omega arith

pub sum_kept : (bs : List Bool) (sizes : List ℕ) → sum (kept bs sizes) ≤ sum sizes
sum_kept bs [] = omega arith
sum_kept [] (s ∷ sizes) = let a = sum_kept [] sizes in let b = sum_first s sizes in let c = sum_first s (kept [] sizes) in omega (arith, a, b, c)
sum_kept (true ∷ bs) (s ∷ sizes) = let a = sum_kept bs sizes in let b = sum_first s sizes in omega (arith, a, b)
sum_kept (false ∷ bs) (s ∷ sizes) = let a = sum_kept bs sizes in let b = sum_first s sizes in let c = sum_first s (kept bs sizes) in omega (arith, a, b, c)

kept_all : (Q : ℕ → Type 0) (bs : List Bool) (sizes : List ℕ) → AllOf Q sizes → AllOf Q (kept bs sizes)
kept_all Q bs [] h = tt
kept_all Q [] (s ∷ sizes) h = (h.0, kept_all Q [] sizes h.1)
kept_all Q (true ∷ bs) (s ∷ sizes) h = kept_all Q bs sizes h.1
kept_all Q (false ∷ bs) (s ∷ sizes) h = (h.0, kept_all Q bs sizes h.1)

before_all : (bs : List Bool) (k : ℕ) → get_or bs k false ≡ true → trues_before bs k < trues bs
before_all [] k e = absurd (true_false (sym e))
before_all (true ∷ bs) zero e = omega arith
before_all (true ∷ bs) (suc k) e = let h = before_all bs k e in omega (arith, h)
before_all (false ∷ bs) zero e = absurd (true_false (sym e))
before_all (false ∷ bs) (suc k) e = before_all bs k e

params_more : (T T' : ℕ) → T ≤ T' → (ts : List ℕ) → AllOf (λ t. t < T) ts → AllOf (λ t. t < T') ts
params_more T T' le [] n = tt
params_more T T' le (t ∷ ts) n = (let a = n.0 in omega (arith, a, le), params_more T T' le ts n.1)

function_mid : (x : CodeT ℕ) (g : ℕ) → IsFunction IsTemporary x (function_at x g) → IsFunction IsTemporary (promoted x) (promoted_function (plan_of x) (Some g) (function_at x g))
function_mid x g ok =
    let f = function_at x g in
    let more : f.temps ≤ f.temps + trues (flags f) = omega arith in
    let moved : (k : ℕ) → k < length f.locals → get_or (flags f) k false ≡ false → falses_before (flags f) k < length (kept (flags f) f.locals) = λ k lt e. kept_in (flags f) f.locals k lt e in
    let var : (p k : ℕ) → kind_in f p ≡ Address k → f.temps + trues_before (flags f) k < f.temps + trues (flags f) = λ p k e. (let h = before_all (flags f) k (kind_address f p k e).0 in omega (arith, h)) in
    record {
      nodes = nodes_ok x (Some g) f.temps (f.temps + trues (flags f)) (length f.locals) (length (kept (flags f) f.locals)) more moved var [] f.body ok.nodes;
      names = names_ok x (Some g) f.temps (f.temps + trues (flags f)) (length f.locals) (length (kept (flags f) f.locals)) more moved var f.body ok.names;
      params_named = params_more f.temps (f.temps + trues (flags f)) more f.params ok.params_named;
      params_differ = ok.params_differ;
      count = let a = promote_counts (plan_of x) (Some g) f in let b = ok.count in omega (arith, a, b);
      sizes = kept_all (λ n. 1 ≤ n) (flags f) f.locals ok.sizes;
      words = let a = sum_kept (flags f) f.locals in let b = ok.words in omega (arith, a, b);
    }

functions_mid : (x : CodeT ℕ) (n : ℕ) (fs : List (FunctionT ℕ)) → ((g : ℕ) → g < length fs → IsFunction IsTemporary (promoted x) (promoted_function (plan_of x) (Some (n + g)) (get_or fs g no_function))) → AllOf (IsFunction IsTemporary (promoted x)) (promoted_functions (plan_of x) n fs)
functions_mid x n [] h = tt
functions_mid x n (f ∷ fs) h = (subst (λ m. IsFunction IsTemporary (promoted x) (promoted_function (plan_of x) (Some m) f)) (omega arith) (h 0 (omega arith)), functions_mid x (suc n) fs (λ g lt. subst (λ m. IsFunction IsTemporary (promoted x) (promoted_function (plan_of x) (Some m) (get_or fs g no_function))) (omega arith) (h (suc g) (omega (arith, lt)))))

own_address : (k : ℕ) → Own ≡ Address k → ⊥
own_address k e = cc

-- Promoted code is mid code.
pub promote_mid : (x : CodeT ℕ) → IsMid x → IsMid (promoted x)
promote_mid x m =
    let s = m.start.function in
    let X = plan_of x in
    let same : promoted_nodes X None x.start.body ≡ x.start.body = same_nodes X None (λ k. refl) (λ t k e. own_address k e) (λ k. refl) x.start.body in
    record {
      start = record {
        function = record {
          nodes = subst (λ c. AreNodes (promoted x) (length x.start.locals) [] c) same (nodes_ok x None x.start.temps x.start.temps (length x.start.locals) (length x.start.locals) (omega arith) (λ k lt e. lt) (λ p k e. absurd (own_address k e)) [] x.start.body s.nodes);
          names = s.names;
          params_named = s.params_named;
          params_differ = s.params_differ;
          count = s.count;
          sizes = s.sizes;
          words = s.words;
        };
        params = m.start.params;
        locals = m.start.locals;
        gives = m.start.gives;
        calls = m.start.calls;
      };
      functions = functions_mid x 0 x.functions (λ g lt. subst (λ n. IsFunction IsTemporary (promoted x) (promoted_function X (Some n) (function_at x g))) (omega arith) (function_mid x g (function_ok x x.functions m.functions g)));
      globals = m.globals;
      main = counts_same X 0 x.functions x.main ∙ m.main;
    }
