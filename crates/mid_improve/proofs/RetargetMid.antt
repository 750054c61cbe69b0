-- Code whose targets are moved at once is mid code, weighs the same, and has the same skeleton.
use Rattle.std.proofs.Common.{◌≡◌, ℕ, zero, suc, ◌+◌, ◌<◌, Bool, true, false, cond, eqb, List, [], ◌∷◌, map, length, sum_by, option_map, slice_get, Option, Some, None, refl, sym, ap, ◌∙◌, subst, arith}
use Rattle.std.proofs.lemmas.List.Sums.{sum_by-cons}
use Rattle.mid_code.specs.Code.{OpT, ConstO, NullO, MoveO, OneO, TwoO, GlobalO, LocalO, LiteralO, CardO, StepO, ApartO, PtrTestO, LoadO, StoreO, FreshO, EndO, InO, OutO, WaitO, HaltO, NodesT, Stop, Do, Call, Choose, Block, Loop, Leave, Again, Return, FunctionT, CodeT, maybe, uses, target}
use Rattle.mid_code.specs.Calls.{AddsNone, NoneAdd}
use Rattle.mid_code.specs.Invariants.{IsOp, AreNodes, AllOf, Names, CallsNone, IsFunction, IsTemporary, IsMid}
use Rattle.mid_code.specs.Runs.{nodes_weight, function_weight, weight}
use Rattle.mid_code.specs.Skeleton.{some_before, some_place, skeleton}
use Rattle.mid_code.specs.Skeleton as bones
use Rattle.mid_code.specs.States.{op_weight}
use Rattle.mid_code.proofs.Skeletons.{same_shape}
use Rattle.mid_improve.proofs.RetargetLasts.{place_same, retargeted_divisions}
use Rattle.mid_improve.specs.ImprovedFrom.{IsImprovedFunction, EachImproved, IsNoWorseFrom}
use Rattle.mid_improve.specs.inner.Retarget.{landing, lands, op_into, op_to, Turn, turn_of, op_retargeted, op_turn, retargeted, retargeted_function, retargeted_code}
use Rattle.mid_improve.proofs.RetargetProgram.{retargeted_keeps, retargeted_works}

-- ---- one operation

-- What stands for an operation is it with another target, or it, or one move for another.
module _ (Q : OpT ℕ → OpT ℕ → Type 0) (into : (x : ℕ) (o : OpT ℕ) → Q o (op_into x o)) (same : (o : OpT ℕ) → Q o o) (moves : (x a t u : ℕ) → Q (MoveO x a) (MoveO t u)) where
  to : (u : Option ℕ) (o : OpT ℕ) → Q o (op_to u o)
  to None o = same o
  to (Some x) o = into x o

  op_either : (h : Turn) (o : OpT ℕ) (c : NodesT ℕ) → Q o (op_retargeted h o c)
  op_either None o c = to (lands (target o) c) o
  op_either (Some v) (MoveO x a) c = moves x a v.0 v.1
  op_either (Some v) (ConstO t n) c = to (lands (target (ConstO t n)) c) (ConstO t n)
  op_either (Some v) (NullO t) c = to (lands (target (NullO t)) c) (NullO t)
  op_either (Some v) (OneO o t a) c = to (lands (target (OneO o t a)) c) (OneO o t a)
  op_either (Some v) (TwoO o t a b) c = to (lands (target (TwoO o t a b)) c) (TwoO o t a b)
  op_either (Some v) (GlobalO t n) c = to (lands (target (GlobalO t n)) c) (GlobalO t n)
  op_either (Some v) (LocalO t n) c = to (lands (target (LocalO t n)) c) (LocalO t n)
  op_either (Some v) (LiteralO t n) c = to (lands (target (LiteralO t n)) c) (LiteralO t n)
  op_either (Some v) (CardO t) c = to (lands (target (CardO t)) c) (CardO t)
  op_either (Some v) (StepO t a b) c = to (lands (target (StepO t a b)) c) (StepO t a b)
  op_either (Some v) (ApartO t a b) c = to (lands (target (ApartO t a b)) c) (ApartO t a b)
  op_either (Some v) (PtrTestO o t a b) c = to (lands (target (PtrTestO o t a b)) c) (PtrTestO o t a b)
  op_either (Some v) (LoadO t p) c = to (lands (target (LoadO t p)) c) (LoadO t p)
  op_either (Some v) (StoreO p a) c = to (lands (target (StoreO p a)) c) (StoreO p a)
  op_either (Some v) (FreshO n) c = to (lands (target (FreshO n)) c) (FreshO n)
  op_either (Some v) (EndO n) c = to (lands (target (EndO n)) c) (EndO n)
  op_either (Some v) (InO t port) c = to (lands (target (InO t port)) c) (InO t port)
  op_either (Some v) (OutO port a) c = to (lands (target (OutO port a)) c) (OutO port a)
  op_either (Some v) WaitO c = to (lands (target WaitO) c) WaitO
  op_either (Some v) HaltO c = to (lands (target HaltO) c) HaltO

weight_into : (x : ℕ) (o : OpT ℕ) → op_weight (op_into x o) ≡ op_weight o
weight_into x (ConstO t n) = refl
weight_into x (NullO t) = refl
weight_into x (MoveO t a) = refl
weight_into x (OneO o t a) = refl
weight_into x (TwoO o t a b) = refl
weight_into x (GlobalO t n) = refl
weight_into x (LocalO t n) = refl
weight_into x (LiteralO t n) = refl
weight_into x (CardO t) = refl
weight_into x (StepO t a b) = refl
weight_into x (ApartO t a b) = refl
weight_into x (PtrTestO o t a b) = refl
weight_into x (LoadO t p) = refl
weight_into x (StoreO p a) = refl
weight_into x (FreshO n) = refl
weight_into x (EndO n) = refl
weight_into x (InO t port) = refl
weight_into x (OutO port a) = refl
weight_into x WaitO = refl
weight_into x HaltO = refl

weight_op : (h : Turn) (o : OpT ℕ) (c : NodesT ℕ) → op_weight (op_retargeted h o c) ≡ op_weight o
weight_op h o c = op_either (λ o p. op_weight p ≡ op_weight o) weight_into (λ o. refl) (λ x a t u. refl) h o c

bones_into : (x : ℕ) (o : OpT ℕ) → bones.stays (op_into x o) ≡ bones.stays o
bones_into x (ConstO t n) = refl
bones_into x (NullO t) = refl
bones_into x (MoveO t a) = refl
bones_into x (OneO o t a) = refl
bones_into x (TwoO o t a b) = refl
bones_into x (GlobalO t n) = refl
bones_into x (LocalO t n) = refl
bones_into x (LiteralO t n) = refl
bones_into x (CardO t) = refl
bones_into x (StepO t a b) = refl
bones_into x (ApartO t a b) = refl
bones_into x (PtrTestO o t a b) = refl
bones_into x (LoadO t p) = refl
bones_into x (StoreO p a) = refl
bones_into x (FreshO n) = refl
bones_into x (EndO n) = refl
bones_into x (InO t port) = refl
bones_into x (OutO port a) = refl
bones_into x WaitO = refl
bones_into x HaltO = refl

bones_op : (h : Turn) (o : OpT ℕ) (c : NodesT ℕ) → bones.stays (op_retargeted h o c) ≡ bones.stays o
bones_op h o c = op_either (λ o p. bones.stays p ≡ bones.stays o) bones_into (λ o. refl) (λ x a t u. refl) h o c

-- ---- weight and skeleton

weighs_same : (h : Turn) (c : NodesT ℕ) → nodes_weight (retargeted h c) ≡ nodes_weight c
weighs_same h Stop = refl
weighs_same h (Do o c) = λ i. weight_op h o c i + weighs_same (op_turn h o c) c i
weighs_same h (Call t f args c) = let e = weighs_same (turn_of t (lands t c)) c in omega (arith, e)
weighs_same h (Choose p a b c) = let d = weighs_same None a in let e = weighs_same None b in let f = weighs_same None c in omega (arith, d, e, f)
weighs_same h (Block b c) = let d = weighs_same None b in let e = weighs_same None c in omega (arith, d, e)
weighs_same h (Loop b c) = let d = weighs_same None b in let e = weighs_same None c in omega (arith, d, e)
weighs_same h (Leave k c) = let e = weighs_same None c in omega (arith, e)
weighs_same h (Again k c) = let e = weighs_same None c in omega (arith, e)
weighs_same h (Return p c) = let e = weighs_same None c in omega (arith, e)

skeleton_same : (h : Turn) (c : NodesT ℕ) → skeleton (retargeted h c) ≡ skeleton c
skeleton_same h Stop = refl
skeleton_same h (Do o c) = λ i. some_before (bones_op h o c i) (skeleton_same (op_turn h o c) c i)
skeleton_same h (Call t f args c) = λ i. Call (place_same t c i) f (map (λ a. tt) args) (skeleton_same (turn_of t (lands t c)) c i)
skeleton_same h (Choose p a b c) = λ i. Choose tt (skeleton_same None a i) (skeleton_same None b i) (skeleton_same None c i)
skeleton_same h (Block b c) = λ i. Block (skeleton_same None b i) (skeleton_same None c i)
skeleton_same h (Loop b c) = λ i. Loop (skeleton_same None b i) (skeleton_same None c i)
skeleton_same h (Leave k c) = ap (Leave k) (skeleton_same None c)
skeleton_same h (Again k c) = ap (Again k) (skeleton_same None c)
skeleton_same h (Return p c) = ap (Return (some_place p)) (skeleton_same None c)

functions_weigh : (fs : List (FunctionT ℕ)) → sum_by function_weight (map retargeted_function fs) ≡ sum_by function_weight fs
functions_weigh [] = refl
functions_weigh (f ∷ fs) =
    let one = weighs_same None f.body in
    let more = functions_weigh fs in
    let after = sum_by-cons function_weight (retargeted_function f) (map retargeted_function fs) in
    let before = sum_by-cons function_weight f fs in
    omega (arith, one, more, after, before)

code_weighs : (x : CodeT ℕ) → weight (retargeted_code x) ≡ weight x
code_weighs x = λ i. weighs_same None x.start.body i + functions_weigh x.functions i

-- ---- names

module _ (N : ℕ → Type 0) where
  abbrev Named : OpT ℕ → Type 0
  Named o = AllOf N (uses o) × AllOf N (maybe (target o))

  abbrev NamedTurn : Turn → Type 0
  NamedTurn None = Unit {0}
  NamedTurn (Some p) = N p.0 × N p.1

  named_cond : (b : Bool) (x t : ℕ) → N x → N t → N (cond b x t)
  named_cond true x t n m = n
  named_cond false x t n m = m

  op_landing : (t : ℕ) (o : OpT ℕ) (c : NodesT ℕ) → N t → Named o → N (landing t (Do o c))
  op_landing t (MoveO x a) c n m = named_cond (eqb a t) x t m.1.0 n
  op_landing t (ConstO q n) c j m = j
  op_landing t (NullO q) c j m = j
  op_landing t (OneO o q a) c j m = j
  op_landing t (TwoO o q a b) c j m = j
  op_landing t (GlobalO q n) c j m = j
  op_landing t (LocalO q n) c j m = j
  op_landing t (LiteralO q n) c j m = j
  op_landing t (CardO q) c j m = j
  op_landing t (StepO q a b) c j m = j
  op_landing t (ApartO q a b) c j m = j
  op_landing t (PtrTestO o q a b) c j m = j
  op_landing t (LoadO q p) c j m = j
  op_landing t (StoreO p a) c j m = j
  op_landing t (FreshO n) c j m = j
  op_landing t (EndO n) c j m = j
  op_landing t (InO q port) c j m = j
  op_landing t (OutO port a) c j m = j
  op_landing t WaitO c j m = j
  op_landing t HaltO c j m = j

  landing_named : (t : ℕ) (c : NodesT ℕ) → N t → Names N c → N (landing t c)
  landing_named t Stop n m = n
  landing_named t (Do o c) n m = op_landing t o c n m.0
  landing_named t (Call q f args c) n m = n
  landing_named t (Choose p a b c) n m = n
  landing_named t (Block b c) n m = n
  landing_named t (Loop b c) n m = n
  landing_named t (Leave k c) n m = n
  landing_named t (Again k c) n m = n
  landing_named t (Return p c) n m = n

  lands_named : (t : Option ℕ) (c : NodesT ℕ) → AllOf N (maybe t) → Names N c → AllOf N (maybe (lands t c))
  lands_named None c n m = tt
  lands_named (Some t) c n m = (landing_named t c n.0 m, tt)

  cond_turn : (b : Bool) (t x : ℕ) → N t → N x → NamedTurn (cond b None (Some (t, x)))
  cond_turn true t x n m = tt
  cond_turn false t x n m = (n, m)

  turn_named : (t u : Option ℕ) → AllOf N (maybe t) → AllOf N (maybe u) → NamedTurn (turn_of t u)
  turn_named None u n m = tt
  turn_named (Some t) None n m = tt
  turn_named (Some t) (Some x) n m = cond_turn (eqb x t) t x n.0 m.0

  into_named : (x : ℕ) (o : OpT ℕ) → N x → Named o → Named (op_into x o)
  into_named x (ConstO t n) j m = (m.0, (j, tt))
  into_named x (NullO t) j m = (m.0, (j, tt))
  into_named x (MoveO t a) j m = (m.0, (j, tt))
  into_named x (OneO o t a) j m = (m.0, (j, tt))
  into_named x (TwoO o t a b) j m = (m.0, (j, tt))
  into_named x (GlobalO t n) j m = (m.0, (j, tt))
  into_named x (LocalO t n) j m = (m.0, (j, tt))
  into_named x (LiteralO t n) j m = (m.0, (j, tt))
  into_named x (CardO t) j m = (m.0, (j, tt))
  into_named x (StepO t a b) j m = (m.0, (j, tt))
  into_named x (ApartO t a b) j m = (m.0, (j, tt))
  into_named x (PtrTestO o t a b) j m = (m.0, (j, tt))
  into_named x (LoadO t p) j m = (m.0, (j, tt))
  into_named x (StoreO p a) j m = m
  into_named x (FreshO n) j m = m
  into_named x (EndO n) j m = m
  into_named x (InO t port) j m = (m.0, (j, tt))
  into_named x (OutO port a) j m = m
  into_named x WaitO j m = m
  into_named x HaltO j m = m

  to_named : (u : Option ℕ) (o : OpT ℕ) → AllOf N (maybe u) → Named o → Named (op_to u o)
  to_named None o n m = m
  to_named (Some x) o n m = into_named x o n.0 m

  itself_named : (o : OpT ℕ) (c : NodesT ℕ) → Named o → Names N c → Named (op_to (lands (target o) c) o) × NamedTurn (turn_of (target o) (lands (target o) c))
  itself_named o c m r = let l = lands_named (target o) c m.1 r in (to_named (lands (target o) c) o l m, turn_named (target o) (lands (target o) c) m.1 l)

  op_named : (h : Turn) (o : OpT ℕ) (c : NodesT ℕ) → NamedTurn h → Named o → Names N c → Named (op_retargeted h o c) × NamedTurn (op_turn h o c)
  op_named None o c n m r = itself_named o c m r
  op_named (Some v) (MoveO x a) c j m r = (((j.1, tt), (j.0, tt)), tt)
  op_named (Some v) (ConstO t n) c j m r = itself_named (ConstO t n) c m r
  op_named (Some v) (NullO t) c j m r = itself_named (NullO t) c m r
  op_named (Some v) (OneO o t a) c j m r = itself_named (OneO o t a) c m r
  op_named (Some v) (TwoO o t a b) c j m r = itself_named (TwoO o t a b) c m r
  op_named (Some v) (GlobalO t n) c j m r = itself_named (GlobalO t n) c m r
  op_named (Some v) (LocalO t n) c j m r = itself_named (LocalO t n) c m r
  op_named (Some v) (LiteralO t n) c j m r = itself_named (LiteralO t n) c m r
  op_named (Some v) (CardO t) c j m r = itself_named (CardO t) c m r
  op_named (Some v) (StepO t a b) c j m r = itself_named (StepO t a b) c m r
  op_named (Some v) (ApartO t a b) c j m r = itself_named (ApartO t a b) c m r
  op_named (Some v) (PtrTestO o t a b) c j m r = itself_named (PtrTestO o t a b) c m r
  op_named (Some v) (LoadO t p) c j m r = itself_named (LoadO t p) c m r
  op_named (Some v) (StoreO p a) c j m r = itself_named (StoreO p a) c m r
  op_named (Some v) (FreshO n) c j m r = itself_named (FreshO n) c m r
  op_named (Some v) (EndO n) c j m r = itself_named (EndO n) c m r
  op_named (Some v) (InO t port) c j m r = itself_named (InO t port) c m r
  op_named (Some v) (OutO port a) c j m r = itself_named (OutO port a) c m r
  op_named (Some v) WaitO c j m r = itself_named WaitO c m r
  op_named (Some v) HaltO c j m r = itself_named HaltO c m r

  names_ok : (h : Turn) (c : NodesT ℕ) → NamedTurn h → Names N c → Names N (retargeted h c)
  names_ok h Stop k n = tt
  names_ok h (Do o c) k n = let a = op_named h o c k n.0 n.1 in (a.0, names_ok (op_turn h o c) c a.1 n.1)
  names_ok h (Call t f args c) k n = let l = lands_named t c n.0.1 n.1 in ((n.0.0, l), names_ok (turn_of t (lands t c)) c (turn_named t (lands t c) n.0.1 l) n.1)
  names_ok h (Choose p a b c) k n = (n.0, names_ok None a tt n.1, names_ok None b tt n.2, names_ok None c tt n.3)
  names_ok h (Block b c) k n = (names_ok None b tt n.0, names_ok None c tt n.1)
  names_ok h (Loop b c) k n = (names_ok None b tt n.0, names_ok None c tt n.1)
  names_ok h (Leave j c) k n = names_ok None c tt n
  names_ok h (Again j c) k n = names_ok None c tt n
  names_ok h (Return p c) k n = (n.0, names_ok None c tt n.1)

-- ---- calls

calls_none : (h : Turn) (c : NodesT ℕ) → CallsNone c → CallsNone (retargeted h c)
calls_none h Stop n = tt
calls_none h (Do o c) n = calls_none (op_turn h o c) c n
calls_none h (Call t f args c) n = absurd n
calls_none h (Choose p a b c) n = (calls_none None a n.0, calls_none None b n.1, calls_none None c n.2)
calls_none h (Block b c) n = (calls_none None b n.0, calls_none None c n.1)
calls_none h (Loop b c) n = (calls_none None b n.0, calls_none None c n.1)
calls_none h (Leave k c) n = calls_none None c n
calls_none h (Again k c) n = calls_none None c n
calls_none h (Return p c) n = calls_none None c n

counts_same : (fs : List (FunctionT ℕ)) (h : ℕ) → option_map (λ f. length f.params) (slice_get (map retargeted_function fs) h) ≡ option_map (λ f. length f.params) (slice_get fs h)
counts_same [] h = refl
counts_same (f ∷ fs) zero = refl
counts_same (f ∷ fs) (suc h) = counts_same fs h

-- ---- mid code

module _ (x : CodeT ℕ) where
  abbrev y : CodeT ℕ
  y = retargeted_code x

  into_ok : (m u : ℕ) (o : OpT ℕ) → IsOp x m o → IsOp y m (op_into u o)
  into_ok m u (ConstO t n) h = h
  into_ok m u (NullO t) h = h
  into_ok m u (MoveO t a) h = h
  into_ok m u (OneO o t a) h = h
  into_ok m u (TwoO o t a b) h = h
  into_ok m u (GlobalO t n) h = h
  into_ok m u (LocalO t n) h = h
  into_ok m u (LiteralO t n) h = h
  into_ok m u (CardO t) h = h
  into_ok m u (StepO t a b) h = h
  into_ok m u (ApartO t a b) h = h
  into_ok m u (PtrTestO o t a b) h = h
  into_ok m u (LoadO t p) h = h
  into_ok m u (StoreO p a) h = h
  into_ok m u (FreshO n) h = h
  into_ok m u (EndO n) h = h
  into_ok m u (InO t port) h = h
  into_ok m u (OutO port a) h = h
  into_ok m u WaitO h = h
  into_ok m u HaltO h = h

  same_ok : (m : ℕ) (o : OpT ℕ) → IsOp x m o → IsOp y m o
  same_ok m (ConstO t n) h = h
  same_ok m (NullO t) h = h
  same_ok m (MoveO t a) h = h
  same_ok m (OneO o t a) h = h
  same_ok m (TwoO o t a b) h = h
  same_ok m (GlobalO t n) h = h
  same_ok m (LocalO t n) h = h
  same_ok m (LiteralO t n) h = h
  same_ok m (CardO t) h = h
  same_ok m (StepO t a b) h = h
  same_ok m (ApartO t a b) h = h
  same_ok m (PtrTestO o t a b) h = h
  same_ok m (LoadO t p) h = h
  same_ok m (StoreO p a) h = h
  same_ok m (FreshO n) h = h
  same_ok m (EndO n) h = h
  same_ok m (InO t port) h = h
  same_ok m (OutO port a) h = h
  same_ok m WaitO h = h
  same_ok m HaltO h = h

  op_ok : (m : ℕ) (h : Turn) (o : OpT ℕ) (c : NodesT ℕ) → IsOp x m o → IsOp y m (op_retargeted h o c)
  op_ok m h o c = op_either (λ o p. IsOp x m o → IsOp y m p) (into_ok m) (same_ok m) (λ a b t u k. tt) h o c

  nodes_ok : (m : ℕ) (bs : List Bool) (h : Turn) (c : NodesT ℕ) → AreNodes x m bs c → AreNodes y m bs (retargeted h c)
  nodes_ok m bs h Stop n = tt
  nodes_ok m bs h (Do o c) n = (op_ok m h o c n.0, nodes_ok m bs (op_turn h o c) c n.1)
  nodes_ok m bs h (Call t f args c) n = (counts_same x.functions f ∙ n.0, nodes_ok m bs (turn_of t (lands t c)) c n.1)
  nodes_ok m bs h (Choose p a b c) n = (nodes_ok m bs None a n.0, nodes_ok m bs None b n.1, nodes_ok m bs None c n.2)
  nodes_ok m bs h (Block b c) n = (nodes_ok m (false ∷ bs) None b n.0, nodes_ok m bs None c n.1)
  nodes_ok m bs h (Loop b c) n = (nodes_ok m (true ∷ bs) None b n.0, nodes_ok m bs None c n.1)
  nodes_ok m bs h (Leave k c) n = (n.0, nodes_ok m bs None c n.1)
  nodes_ok m bs h (Again k c) n = (n.0, nodes_ok m bs None c n.1)
  nodes_ok m bs h (Return p c) n = nodes_ok m bs None c n

  function_ok : (f : FunctionT ℕ) → IsFunction IsTemporary x f → IsFunction IsTemporary y (retargeted_function f)
  function_ok f ok = record {
    nodes = nodes_ok (length f.locals) [] None f.body ok.nodes;
    names = names_ok (λ t. t < f.temps) None f.body tt ok.names;
    params_named = ok.params_named;
    params_differ = ok.params_differ;
    count = ok.count;
    sizes = ok.sizes;
    words = ok.words;
  }

  functions_ok : (fs : List (FunctionT ℕ)) → AllOf (IsFunction IsTemporary x) fs → AllOf (IsFunction IsTemporary y) (map retargeted_function fs)
  functions_ok [] ok = tt
  functions_ok (f ∷ fs) ok = (function_ok f ok.0, functions_ok fs ok.1)

  retargeted_mid : IsMid x → IsMid y
  retargeted_mid mid = record {
    start = record { function = function_ok x.start mid.start.function; params = mid.start.params; locals = mid.start.locals; gives = mid.start.gives; calls = calls_none None x.start.body mid.start.calls };
    functions = functions_ok x.functions mid.functions;
    globals = mid.globals;
    main = counts_same x.functions x.main ∙ mid.main;
  }

-- ---- no worse

function_retargeted : (f : FunctionT ℕ) → IsImprovedFunction f (retargeted_function f)
function_retargeted f =
    let s = skeleton_same None f.body in
    record { temporaries = refl; params = refl; locals = refl; gives = refl; stays = s; divisions = retargeted_divisions f.body; together = (same_shape f.body (retargeted None f.body) s).at_once }

each_retargeted : (fs : List (FunctionT ℕ)) → EachImproved fs (map retargeted_function fs)
each_retargeted [] = tt
each_retargeted (f ∷ fs) = (function_retargeted f, each_retargeted fs)

adds_none : (c : NodesT ℕ) → AddsNone c (retargeted None c)
adds_none c = (same_shape c (retargeted None c) (skeleton_same None c)).adds_none

none_add : (fs : List (FunctionT ℕ)) → NoneAdd fs (map retargeted_function fs)
none_add [] = tt
none_add (f ∷ fs) = (adds_none f.body, none_add fs)

retargeted_from : (x : CodeT ℕ) → IsMid x → IsNoWorseFrom x (retargeted_code x)
retargeted_from x mid = record {
  is_mid = retargeted_mid x mid;
  keeps = λ frames. retargeted_keeps x mid frames;
  works = λ frames. retargeted_works x mid frames;
  weighs = let e = code_weighs x in omega (arith, e);
  start = function_retargeted x.start;
  functions = each_retargeted x.functions;
  adds_none = none_add x.functions;
  start_adds_none = adds_none x.start.body;
  globals = refl;
  literals = refl;
  main = refl;
}

-- a program with other functions
abbrev pub with_functions : (x : CodeT ℕ) (start : FunctionT ℕ) (functions : List (FunctionT ℕ)) → CodeT ℕ
with_functions x start functions = record x { start = start; functions = functions }

-- of a program which is known to be the first
pub retargeted_of : (x o : CodeT ℕ) (start : FunctionT ℕ) (functions : List (FunctionT ℕ)) → IsMid x → o ≡ x → start ≡ retargeted_function o.start → functions ≡ map retargeted_function o.functions
    → IsNoWorseFrom x (with_functions o start functions)
retargeted_of x o start functions mid of s fs =
    let same : retargeted_code x ≡ with_functions o start functions = sym ((λ i. with_functions o (s i) (fs i)) ∙ ap retargeted_code of) in
    subst (IsNoWorseFrom x) same (retargeted_from x mid)
