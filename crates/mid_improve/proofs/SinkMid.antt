-- Code that a walk has gone through is mid code, weighs the same, and has the same loops, calls and locals that live at once.
use Rattle.std.proofs.Common.{◌≡◌, ℕ, zero, suc, ◌+◌, ◌≤◌, ◌<◌, Bool, true, false, cond, List, [], ◌∷◌, map, length, sum, sum_by, option_map, slice_get, Some, None, refl, sym, ap, ◌∙◌, subst, arith}
use Rattle.std.proofs.lemmas.List.Sums.{sum_by-cons}
use Rattle.mid_code.specs.Code.{OpT, ConstO, NullO, MoveO, OneO, TwoO, GlobalO, LocalO, LiteralO, CardO, StepO, ApartO, PtrTestO, LoadO, StoreO, FreshO, EndO, InO, OutO, WaitO, HaltO, NodesT, Stop, Do, Call, Choose, Block, Loop, Leave, Again, Return, FunctionT, CodeT, maybe, uses, target}
use Rattle.mid_code.specs.Invariants.{IsOp, parameter_count, AreNodes, AllOf, Names, CallsNone, IsFunction, IsStart, IsTemporary, IsMid}
use Rattle.mid_code.specs.inner.Passing.{doing}
use Rattle.mid_code.specs.States.{op_weight}
use Rattle.mid_code.specs.Runs.{nodes_weight, function_weight, weight}
use Rattle.mid_code.specs.Calls.{NoneAdd}
use Rattle.mid_code.specs.Skeleton.{stays, some_before, some_place, skeleton, SameShape}
use Rattle.mid_code.proofs.Skeletons.{same_shape}
use Rattle.mid_improve.specs.declared.sinking.Walk.{Walk}
use Rattle.mid_improve.specs.inner.Sinking.{is_free, Held, held_ops, goes_on, ops_alone, held_alone, ops_at, held_behind, sunk, sunk_function, AreSunk, IsSunkCode}
use Rattle.mid_improve.proofs.SinkPass.{Waits, waits}

-- ---- operations

-- what holds of what is held and of an operation holds of what is done there and of what is held behind
module _ (W : Walk) (Q : OpT ℕ → Type 0) where
  at_free : (o : OpT ℕ) (b : Bool) → Q o → AllOf Q (cond b [] (o ∷ [])) × AllOf Q (held_ops (cond b (Some o) None))
  at_free o true q = (tt, (q, tt))
  at_free o false q = ((q, tt), tt)

  at_held : (p o : OpT ℕ) (b : Bool) → Q p → Q o → AllOf Q (cond b (o ∷ []) (p ∷ ops_alone W (Some p) o)) × AllOf Q (held_ops (cond b (Some p) (held_alone W (Some p) o)))
  at_held p o true k q = ((q, tt), (k, tt))
  at_held p o false k q = let a = at_free o (is_free W (Some p) o) q in ((k, a.0), a.1)

  at_op : (h : Held) (o : OpT ℕ) → AllOf Q (held_ops h) → Q o → AllOf Q (ops_at W h o) × AllOf Q (held_ops (held_behind W h o))
  at_op None o k q = at_free o (is_free W None o) q
  at_op (Some p) o k q = at_held p o (goes_on W (Some p) o) k.0 q

-- ---- names

module _ (W : Walk) (N : ℕ → Type 0) where
  abbrev Named : OpT ℕ → Type 0
  Named o = AllOf N (uses o) × AllOf N (maybe (target o))

  doing_named : (ps : List (OpT ℕ)) (c : NodesT ℕ) → AllOf Named ps → Names N c → Names N (doing ps c)
  doing_named [] c a n = n
  doing_named (p ∷ ps) c a n = (a.0, doing_named ps c a.1 n)

  names_ok : (h : Held) (c : NodesT ℕ) → AllOf Named (held_ops h) → Names N c → Names N (sunk W h c)
  names_ok h Stop k n = doing_named (held_ops h) Stop k tt
  names_ok h (Do o c) k n = let a = at_op W Named h o k n.0 in doing_named (ops_at W h o) (sunk W (held_behind W h o) c) a.0 (names_ok (held_behind W h o) c a.1 n.1)
  names_ok h (Call t f args c) k n = doing_named (held_ops h) (Call t f args (sunk W None c)) k (n.0, names_ok None c tt n.1)
  names_ok h (Choose p a b c) k n = doing_named (held_ops h) (Choose p (sunk W None a) (sunk W None b) (sunk W None c)) k (n.0, names_ok None a tt n.1, names_ok None b tt n.2, names_ok None c tt n.3)
  names_ok h (Block b c) k n = doing_named (held_ops h) (Block (sunk W None b) (sunk W None c)) k (names_ok None b tt n.0, names_ok None c tt n.1)
  names_ok h (Loop b c) k n = doing_named (held_ops h) (Loop (sunk W None b) (sunk W None c)) k (names_ok None b tt n.0, names_ok None c tt n.1)
  names_ok h (Leave j c) k n = doing_named (held_ops h) (Leave j (sunk W None c)) k (names_ok None c tt n)
  names_ok h (Again j c) k n = doing_named (held_ops h) (Again j (sunk W None c)) k (names_ok None c tt n)
  names_ok h (Return p c) k n = doing_named (held_ops h) (Return p (sunk W None c)) k (n.0, names_ok None c tt n.1)

-- ---- calls

doing_none : (ps : List (OpT ℕ)) (c : NodesT ℕ) → CallsNone c → CallsNone (doing ps c)
doing_none [] c n = n
doing_none (p ∷ ps) c n = doing_none ps c n

calls_none : (W : Walk) (h : Held) (c : NodesT ℕ) → CallsNone c → CallsNone (sunk W h c)
calls_none W h Stop n = doing_none (held_ops h) Stop tt
calls_none W h (Do o c) n = doing_none (ops_at W h o) (sunk W (held_behind W h o) c) (calls_none W (held_behind W h o) c n)
calls_none W h (Call t f args c) n = absurd n
calls_none W h (Choose p a b c) n = doing_none (held_ops h) (Choose p (sunk W None a) (sunk W None b) (sunk W None c)) (calls_none W None a n.0, calls_none W None b n.1, calls_none W None c n.2)
calls_none W h (Block b c) n = doing_none (held_ops h) (Block (sunk W None b) (sunk W None c)) (calls_none W None b n.0, calls_none W None c n.1)
calls_none W h (Loop b c) n = doing_none (held_ops h) (Loop (sunk W None b) (sunk W None c)) (calls_none W None b n.0, calls_none W None c n.1)
calls_none W h (Leave k c) n = doing_none (held_ops h) (Leave k (sunk W None c)) (calls_none W None c n)
calls_none W h (Again k c) n = doing_none (held_ops h) (Again k (sunk W None c)) (calls_none W None c n)
calls_none W h (Return p c) n = doing_none (held_ops h) (Return p (sunk W None c)) (calls_none W None c n)

-- ---- shape

-- What is held back has no skeleton.
abbrev Left : OpT ℕ → Type 0
Left p = stays p ≡ None

abbrev IsLeft : Held → Type 0
IsLeft None = Unit {0}
IsLeft (Some p) = Left p

held_skeleton : (h : Held) (c : NodesT ℕ) → IsLeft h → skeleton (doing (held_ops h) c) ≡ skeleton c
held_skeleton None c l = refl
held_skeleton (Some p) c l = ap (λ o. some_before o (skeleton c)) l

waits_left : (o : OpT ℕ) → Waits o → Left o
waits_left (ConstO t word) e = refl
waits_left (GlobalO t number) e = refl
waits_left (StepO t p n) e = refl
waits_left _ e = absurd e

module _ (W : Walk) (o : OpT ℕ) (c : NodesT ℕ) where
  free_skeleton : (h : Held) (b : Bool) → is_free W h o ≡ b → (skeleton (doing (cond b [] (o ∷ [])) c) ≡ some_before (stays o) (skeleton c)) × IsLeft (cond b (Some o) None)
  free_skeleton h true e = let l = waits_left o (waits W h o e) in (ap (λ p. some_before p (skeleton c)) (sym l), l)
  free_skeleton h false e = (refl, tt)

  alone_skeleton : (h : Held) → (skeleton (doing (ops_alone W h o) c) ≡ some_before (stays o) (skeleton c)) × IsLeft (held_alone W h o)
  alone_skeleton h = free_skeleton h (is_free W h o) refl

  apart_skeleton : (p : OpT ℕ) (b : Bool) → Left p → (skeleton (doing (cond b (o ∷ []) (p ∷ ops_alone W (Some p) o)) c) ≡ some_before (stays o) (skeleton c)) × IsLeft (cond b (Some p) (held_alone W (Some p) o))
  apart_skeleton p true l = (refl, l)
  apart_skeleton p false l = let s = alone_skeleton (Some p) in (ap (λ q. some_before q (skeleton (doing (ops_alone W (Some p) o) c))) l ∙ s.0, s.1)

  op_skeleton : (h : Held) → IsLeft h → (skeleton (doing (ops_at W h o) c) ≡ some_before (stays o) (skeleton c)) × IsLeft (held_behind W h o)
  op_skeleton None l = alone_skeleton None
  op_skeleton (Some p) l = apart_skeleton p (goes_on W (Some p) o) l

same_skeleton : (W : Walk) (h : Held) (c : NodesT ℕ) → IsLeft h → skeleton (sunk W h c) ≡ skeleton c
same_skeleton W h Stop l = held_skeleton h Stop l
same_skeleton W h (Do o c) l = let s = op_skeleton W o (sunk W (held_behind W h o) c) h l in s.0 ∙ ap (some_before (stays o)) (same_skeleton W (held_behind W h o) c s.1)
same_skeleton W h (Call t f args c) l = held_skeleton h (Call t f args (sunk W None c)) l ∙ ap (Call (some_place t) f (map (λ a. tt) args)) (same_skeleton W None c tt)
same_skeleton W h (Choose p a b c) l = held_skeleton h (Choose p (sunk W None a) (sunk W None b) (sunk W None c)) l ∙ (λ i. Choose tt (same_skeleton W None a tt i) (same_skeleton W None b tt i) (same_skeleton W None c tt i))
same_skeleton W h (Block b c) l = held_skeleton h (Block (sunk W None b) (sunk W None c)) l ∙ (λ i. Block (same_skeleton W None b tt i) (same_skeleton W None c tt i))
same_skeleton W h (Loop b c) l = held_skeleton h (Loop (sunk W None b) (sunk W None c)) l ∙ (λ i. Loop (same_skeleton W None b tt i) (same_skeleton W None c tt i))
same_skeleton W h (Leave k c) l = held_skeleton h (Leave k (sunk W None c)) l ∙ ap (Leave k) (same_skeleton W None c tt)
same_skeleton W h (Again k c) l = held_skeleton h (Again k (sunk W None c)) l ∙ ap (Again k) (same_skeleton W None c tt)
same_skeleton W h (Return p c) l = held_skeleton h (Return p (sunk W None c)) l ∙ ap (Return (some_place p)) (same_skeleton W None c tt)

-- ---- weight

abbrev ops_weight : List (OpT ℕ) → ℕ
ops_weight [] = 0
ops_weight (p ∷ ps) = op_weight p + ops_weight ps

doing_weight : (ps : List (OpT ℕ)) (c : NodesT ℕ) → nodes_weight (doing ps c) ≡ ops_weight ps + nodes_weight c
doing_weight [] c = omega arith
doing_weight (p ∷ ps) c = let h = doing_weight ps c in omega (arith, h)

module _ (W : Walk) (o : OpT ℕ) where
  weight_free : (b : Bool) → ops_weight (cond b [] (o ∷ [])) + ops_weight (held_ops (cond b (Some o) None)) ≡ op_weight o
  weight_free true = omega arith
  weight_free false = omega arith

  weight_held : (p : OpT ℕ) (b : Bool) → ops_weight (cond b (o ∷ []) (p ∷ ops_alone W (Some p) o)) + ops_weight (held_ops (cond b (Some p) (held_alone W (Some p) o))) ≡ op_weight p + op_weight o
  weight_held p true = omega arith
  weight_held p false = let e = weight_free (is_free W (Some p) o) in omega (arith, e)

  weight_at : (h : Held) → ops_weight (ops_at W h o) + ops_weight (held_ops (held_behind W h o)) ≡ ops_weight (held_ops h) + op_weight o
  weight_at None = let e = weight_free (is_free W None o) in omega (arith, e)
  weight_at (Some p) = let e = weight_held p (goes_on W (Some p) o) in omega (arith, e)

same_weight : (W : Walk) (h : Held) (c : NodesT ℕ) → nodes_weight (sunk W h c) ≡ ops_weight (held_ops h) + nodes_weight c
same_weight W h Stop = doing_weight (held_ops h) Stop
same_weight W h (Do o c) = let i = doing_weight (ops_at W h o) (sunk W (held_behind W h o) c) in let a = weight_at W o h in let e = same_weight W (held_behind W h o) c in omega (arith, i, a, e)
same_weight W h (Call t f args c) = let i = doing_weight (held_ops h) (Call t f args (sunk W None c)) in let e = same_weight W None c in omega (arith, i, e)
same_weight W h (Choose p a b c) = let i = doing_weight (held_ops h) (Choose p (sunk W None a) (sunk W None b) (sunk W None c)) in let d = same_weight W None a in let e = same_weight W None b in let f = same_weight W None c in omega (arith, i, d, e, f)
same_weight W h (Block b c) = let i = doing_weight (held_ops h) (Block (sunk W None b) (sunk W None c)) in let e = same_weight W None b in let f = same_weight W None c in omega (arith, i, e, f)
same_weight W h (Loop b c) = let i = doing_weight (held_ops h) (Loop (sunk W None b) (sunk W None c)) in let e = same_weight W None b in let f = same_weight W None c in omega (arith, i, e, f)
same_weight W h (Leave k c) = let i = doing_weight (held_ops h) (Leave k (sunk W None c)) in let e = same_weight W None c in omega (arith, i, e)
same_weight W h (Again k c) = let i = doing_weight (held_ops h) (Again k (sunk W None c)) in let e = same_weight W None c in omega (arith, i, e)
same_weight W h (Return p c) = let i = doing_weight (held_ops h) (Return p (sunk W None c)) in let e = same_weight W None c in omega (arith, i, e)

function_same : (W : Walk) (f g : FunctionT ℕ) → g ≡ sunk_function W f → function_weight g ≡ function_weight f
function_same W f g is = let e = ap function_weight is in let l = same_weight W None f.body in omega (arith, e, l)

functions_same : (W : Walk) (fs gs : List (FunctionT ℕ)) → AreSunk W fs gs → sum_by function_weight gs ≡ sum_by function_weight fs
functions_same W [] [] a = refl
functions_same W [] (g ∷ gs) a = absurd a
functions_same W (f ∷ fs) [] a = absurd a
functions_same W (f ∷ fs) (g ∷ gs) a = let h = function_same W f g a.0 in let r = functions_same W fs gs a.1 in let c = sum_by-cons function_weight f fs in let d = sum_by-cons function_weight g gs in omega (arith, h, r, c, d)

pub sunk_weighs : (W : Walk) (x y : CodeT ℕ) → IsSunkCode W x y → weight y ≤ weight x
sunk_weighs W x y s = let a = function_same W x.start y.start s.start in let b = functions_same W x.functions y.functions s.functions in omega (arith, a, b)

-- ---- programs

pub sunk_stays : (W : Walk) (f g : FunctionT ℕ) → g ≡ sunk_function W f → skeleton g.body ≡ skeleton f.body
sunk_stays W f g is = ap (λ k. skeleton k.body) is ∙ same_skeleton W None f.body tt

pub sunk_shape : (W : Walk) (f g : FunctionT ℕ) → g ≡ sunk_function W f → SameShape f.body g.body
sunk_shape W f g is = same_shape f.body g.body (sunk_stays W f g is)

pub none_add : (W : Walk) (fs gs : List (FunctionT ℕ)) → AreSunk W fs gs → NoneAdd fs gs
none_add W [] [] a = tt
none_add W [] (g ∷ gs) a = absurd a
none_add W (f ∷ fs) [] a = absurd a
none_add W (f ∷ fs) (g ∷ gs) a = ((sunk_shape W f g a.0).adds_none, none_add W fs gs a.1)

module _ (W : Walk) (x y : CodeT ℕ) (globals : y.globals ≡ x.globals) (literals : y.literals ≡ x.literals) (counts : (f : ℕ) → parameter_count y f ≡ parameter_count x f) where
  op_ok : (m : ℕ) (o : OpT ℕ) → IsOp x m o → IsOp y m o
  op_ok m (ConstO q n) h = h
  op_ok m (NullO q) h = h
  op_ok m (MoveO q a) h = h
  op_ok m (OneO o q a) h = h
  op_ok m (TwoO o q a b) h = h
  op_ok m (GlobalO q n) h = subst (λ gs. n < length gs) (sym globals) h
  op_ok m (LocalO q n) h = h
  op_ok m (LiteralO q n) h = subst (λ ls. n < length ls) (sym literals) h
  op_ok m (CardO q) h = h
  op_ok m (StepO q a b) h = h
  op_ok m (ApartO q a b) h = h
  op_ok m (PtrTestO o q a b) h = h
  op_ok m (LoadO q p) h = h
  op_ok m (StoreO p a) h = h
  op_ok m (FreshO n) h = h
  op_ok m (EndO n) h = h
  op_ok m (InO q port) h = h
  op_ok m (OutO port a) h = h
  op_ok m WaitO h = h
  op_ok m HaltO h = h

  doing_ok : (m : ℕ) (bs : List Bool) (ps : List (OpT ℕ)) (c : NodesT ℕ) → AllOf (IsOp y m) ps → AreNodes y m bs c → AreNodes y m bs (doing ps c)
  doing_ok m bs [] c a n = n
  doing_ok m bs (p ∷ ps) c a n = (a.0, doing_ok m bs ps c a.1 n)

  nodes_ok : (m : ℕ) (bs : List Bool) (h : Held) (c : NodesT ℕ) → AllOf (IsOp y m) (held_ops h) → AreNodes x m bs c → AreNodes y m bs (sunk W h c)
  nodes_ok m bs h Stop k n = doing_ok m bs (held_ops h) Stop k tt
  nodes_ok m bs h (Do o c) k n = let a = at_op W (IsOp y m) h o k (op_ok m o n.0) in doing_ok m bs (ops_at W h o) (sunk W (held_behind W h o) c) a.0 (nodes_ok m bs (held_behind W h o) c a.1 n.1)
  nodes_ok m bs h (Call t f args c) k n = doing_ok m bs (held_ops h) (Call t f args (sunk W None c)) k (counts f ∙ n.0, nodes_ok m bs None c tt n.1)
  nodes_ok m bs h (Choose p a b c) k n = doing_ok m bs (held_ops h) (Choose p (sunk W None a) (sunk W None b) (sunk W None c)) k (nodes_ok m bs None a tt n.0, nodes_ok m bs None b tt n.1, nodes_ok m bs None c tt n.2)
  nodes_ok m bs h (Block b c) k n = doing_ok m bs (held_ops h) (Block (sunk W None b) (sunk W None c)) k (nodes_ok m (false ∷ bs) None b tt n.0, nodes_ok m bs None c tt n.1)
  nodes_ok m bs h (Loop b c) k n = doing_ok m bs (held_ops h) (Loop (sunk W None b) (sunk W None c)) k (nodes_ok m (true ∷ bs) None b tt n.0, nodes_ok m bs None c tt n.1)
  nodes_ok m bs h (Leave j c) k n = doing_ok m bs (held_ops h) (Leave j (sunk W None c)) k (n.0, nodes_ok m bs None c tt n.1)
  nodes_ok m bs h (Again j c) k n = doing_ok m bs (held_ops h) (Again j (sunk W None c)) k (n.0, nodes_ok m bs None c tt n.1)
  nodes_ok m bs h (Return p c) k n = doing_ok m bs (held_ops h) (Return p (sunk W None c)) k (nodes_ok m bs None c tt n)

  function_ok : (f : FunctionT ℕ) → IsFunction IsTemporary x f → IsFunction IsTemporary y (sunk_function W f)
  function_ok f ok = record {
    nodes = nodes_ok (length f.locals) [] None f.body tt ok.nodes;
    names = names_ok W (λ t. t < f.temps) None f.body tt ok.names;
    params_named = ok.params_named;
    params_differ = ok.params_differ;
    count = ok.count;
    sizes = ok.sizes;
    words = ok.words;
  }

  start_ok : (f : FunctionT ℕ) → IsStart IsTemporary x f → IsStart IsTemporary y (sunk_function W f)
  start_ok f ok = record { function = function_ok f ok.function; params = ok.params; locals = ok.locals; gives = ok.gives; calls = calls_none W None f.body ok.calls }

  functions_ok : (fs gs : List (FunctionT ℕ)) → AreSunk W fs gs → AllOf (IsFunction IsTemporary x) fs → AllOf (IsFunction IsTemporary y) gs
  functions_ok [] [] a ok = tt
  functions_ok [] (g ∷ gs) a ok = absurd a
  functions_ok (f ∷ fs) [] a ok = absurd a
  functions_ok (f ∷ fs) (g ∷ gs) a ok = (subst (IsFunction IsTemporary y) (sym a.0) (function_ok f ok.0), functions_ok fs gs a.1 ok.1)

counts_same : (W : Walk) (fs gs : List (FunctionT ℕ)) → AreSunk W fs gs → (h : ℕ) → option_map (λ f. length f.params) (slice_get gs h) ≡ option_map (λ f. length f.params) (slice_get fs h)
counts_same W [] [] a h = refl
counts_same W [] (g ∷ gs) a h = absurd a
counts_same W (f ∷ fs) [] a h = absurd a
counts_same W (f ∷ fs) (g ∷ gs) a zero = ap (λ k. Some (length k.params)) a.0
counts_same W (f ∷ fs) (g ∷ gs) a (suc h) = counts_same W fs gs a.1 h

pub sunk_mid : (W : Walk) (x y : CodeT ℕ) → IsMid x → IsSunkCode W x y → IsMid y
sunk_mid W x y mid s =
    let counts : (h : ℕ) → parameter_count y h ≡ parameter_count x h = counts_same W x.functions y.functions s.functions in
    record {
      start = subst (IsStart IsTemporary y) (sym s.start) (start_ok W x y s.globals s.literals counts x.start mid.start);
      functions = functions_ok W x y s.globals s.literals counts x.functions y.functions s.functions mid.functions;
      globals = subst (λ gs. sum gs ≤ 3145728) (sym s.globals) mid.globals;
      main = ap (parameter_count y) s.main ∙ counts x.main ∙ mid.main;
    }
