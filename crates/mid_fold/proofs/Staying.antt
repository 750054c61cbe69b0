-- Folded code is mid code, weighs the same, and has the same loops, calls and locals that live at once.
use Rattle.std.proofs.Common.{◌≡◌, ℕ, zero, suc, ◌+◌, ◌<◌, ◌^◌, Bool, true, false, nat_lt, List, [], ◌∷◌, map, length, sum_by, option_map, slice_get, None, refl, ap, ◌∙◌, arith}
use Rattle.std.proofs.lemmas.List.Sums.{sum_by-cons}
use Rattle.mid_code.specs.Code.{OpT, ConstO, NullO, MoveO, OneO, TwoO, GlobalO, LocalO, LiteralO, CardO, StepO, ApartO, PtrTestO, LoadO, StoreO, FreshO, EndO, InO, OutO, WaitO, HaltO, NodesT, Stop, Do, Call, Choose, Block, Loop, Leave, Again, Return, FunctionT, CodeT, maybe, uses, target}
use Rattle.mid_code.specs.Calls.{AddsNone, NoneAdd}
use Rattle.mid_code.specs.Invariants.{IsOp, AreNodes, AllOf, Names, CallsNone, IsFunction, IsTemporary, IsMid}
use Rattle.mid_code.specs.Runs.{nodes_weight, function_weight, weight}
use Rattle.mid_code.specs.Skeleton as shape
use Rattle.mid_code.specs.Skeleton.{some_before, some_place, skeleton, SameShape}
use Rattle.mid_code.proofs.Skeletons.{same_shape}
use Rattle.mid_fold.specs.Lasting.{one_known, two_known}
use Rattle.mid_fold.specs.inner.Folding.{Words, word_in, known_behind, folded_op, folded, folded_function, folded_code}
use Rattle.mid_fold.specs.FoldedFrom.{IsFoldedFunction, EachFolded}
use Rattle.mid_fold.proofs.Acting.{stays, weight_same}
use Rattle.mid_fold.proofs.Lasts.{same_divisions}

below_limit : (w : ℕ) → nat_lt w (2 ^ 32) ≡ true → w < 2 ^ 32
below_limit w e = grind (arith, e)

-- ---- weight and shape

pub weighs_same : (es : Words) (c : NodesT ℕ) → nodes_weight (folded es c) ≡ nodes_weight c
weighs_same es Stop = refl
weighs_same es (Do o c) = λ i. weight_same es o i + weighs_same (known_behind es (folded_op es o)) c i
weighs_same es (Call t f args c) = let h = weighs_same [] c in omega (arith, h)
weighs_same es (Choose p a b c) = let d = weighs_same es a in let e = weighs_same es b in let h = weighs_same [] c in omega (arith, d, e, h)
weighs_same es (Block b c) = let e = weighs_same es b in let h = weighs_same [] c in omega (arith, e, h)
weighs_same es (Loop b c) = let e = weighs_same [] b in let h = weighs_same [] c in omega (arith, e, h)
weighs_same es (Leave k c) = let h = weighs_same [] c in omega (arith, h)
weighs_same es (Again k c) = let h = weighs_same [] c in omega (arith, h)
weighs_same es (Return p c) = let h = weighs_same [] c in omega (arith, h)

-- loads, stores, locals that are made or ended, and what ports do stay
kept_op : (es : Words) (o : OpT ℕ) → shape.stays (folded_op es o) ≡ shape.stays o
kept_op es (MoveO t a) = stays (λ p. shape.stays p ≡ None) t (MoveO t a) (word_in es a) refl (λ w f. refl)
kept_op es (OneO o t a) = stays (λ p. shape.stays p ≡ None) t (OneO o t a) (one_known o (word_in es a)) refl (λ w f. refl)
kept_op es (TwoO o t a b) = stays (λ p. shape.stays p ≡ None) t (TwoO o t a b) (two_known o (word_in es a) (word_in es b)) refl (λ w f. refl)
kept_op es o = refl

same_skeleton : (es : Words) (c : NodesT ℕ) → skeleton (folded es c) ≡ skeleton c
same_skeleton es Stop = refl
same_skeleton es (Do o c) = λ i. some_before (kept_op es o i) (same_skeleton (known_behind es (folded_op es o)) c i)
same_skeleton es (Call t f args c) = λ i. Call (some_place t) f (map (λ a. tt) args) (same_skeleton [] c i)
same_skeleton es (Choose p a b c) = λ i. Choose tt (same_skeleton es a i) (same_skeleton es b i) (same_skeleton [] c i)
same_skeleton es (Block b c) = λ i. Block (same_skeleton es b i) (same_skeleton [] c i)
same_skeleton es (Loop b c) = λ i. Loop (same_skeleton [] b i) (same_skeleton [] c i)
same_skeleton es (Leave k c) = ap (Leave k) (same_skeleton [] c)
same_skeleton es (Again k c) = ap (Again k) (same_skeleton [] c)
same_skeleton es (Return p c) = ap (Return (some_place p)) (same_skeleton [] c)

folded_shape : (c : NodesT ℕ) → SameShape c (folded [] c)
folded_shape c = same_shape c (folded [] c) (same_skeleton [] c)

pub adds_none : (c : NodesT ℕ) → AddsNone c (folded [] c)
adds_none c = (folded_shape c).adds_none

pub none_add : (fs : List (FunctionT ℕ)) → NoneAdd fs (map folded_function fs)
none_add [] = tt
none_add (f ∷ fs) = (adds_none f.body, none_add fs)

functions_weigh : (fs : List (FunctionT ℕ)) → sum_by function_weight (map folded_function fs) ≡ sum_by function_weight fs
functions_weigh [] = refl
functions_weigh (f ∷ fs) =
    let one = weighs_same [] f.body in
    let more = functions_weigh fs in
    let after = sum_by-cons function_weight (folded_function f) (map folded_function fs) in
    let before = sum_by-cons function_weight f fs in
    omega (arith, one, more, after, before)

pub code_weighs : (x : CodeT ℕ) → weight (folded_code x) ≡ weight x
code_weighs x = λ i. weighs_same [] x.start.body i + functions_weigh x.functions i

pub function_stays : (f : FunctionT ℕ) → IsFoldedFunction f (folded_function f)
function_stays f = record { temporaries = refl; params = refl; locals = refl; gives = refl; stays = same_skeleton [] f.body; divisions = same_divisions f.body }

pub each_folded : (fs : List (FunctionT ℕ)) → EachFolded fs (map folded_function fs)
each_folded [] = tt
each_folded (f ∷ fs) = (function_stays f, each_folded fs)

-- ---- names

module _ (Q : ℕ → Type 0) where
  abbrev Named : OpT ℕ → Type 0
  Named o = AllOf Q (uses o) × AllOf Q (maybe (target o))

  op_named : (es : Words) (o : OpT ℕ) → Named o → Named (folded_op es o)
  op_named es (ConstO t n) h = h
  op_named es (NullO t) h = h
  op_named es (MoveO t a) h = stays Named t (MoveO t a) (word_in es a) h (λ w f. (tt, h.1))
  op_named es (OneO o t a) h = stays Named t (OneO o t a) (one_known o (word_in es a)) h (λ w f. (tt, h.1))
  op_named es (TwoO o t a b) h = stays Named t (TwoO o t a b) (two_known o (word_in es a) (word_in es b)) h (λ w f. (tt, h.1))
  op_named es (GlobalO t n) h = h
  op_named es (LocalO t n) h = h
  op_named es (LiteralO t n) h = h
  op_named es (CardO t) h = h
  op_named es (StepO t p n) h = h
  op_named es (ApartO t p q) h = h
  op_named es (PtrTestO o t p q) h = h
  op_named es (LoadO t p) h = h
  op_named es (StoreO p a) h = h
  op_named es (FreshO n) h = h
  op_named es (EndO n) h = h
  op_named es (InO t port) h = h
  op_named es (OutO port a) h = h
  op_named es WaitO h = h
  op_named es HaltO h = h

  names_ok : (es : Words) (c : NodesT ℕ) → Names Q c → Names Q (folded es c)
  names_ok es Stop n = tt
  names_ok es (Do o c) n = (op_named es o n.0, names_ok (known_behind es (folded_op es o)) c n.1)
  names_ok es (Call t f args c) n = (n.0, names_ok [] c n.1)
  names_ok es (Choose p a b c) n = (n.0, names_ok es a n.1, names_ok es b n.2, names_ok [] c n.3)
  names_ok es (Block b c) n = (names_ok es b n.0, names_ok [] c n.1)
  names_ok es (Loop b c) n = (names_ok [] b n.0, names_ok [] c n.1)
  names_ok es (Leave k c) n = names_ok [] c n
  names_ok es (Again k c) n = names_ok [] c n
  names_ok es (Return p c) n = (n.0, names_ok [] c n.1)

-- ---- nodes

calls_none : (es : Words) (c : NodesT ℕ) → CallsNone c → CallsNone (folded es c)
calls_none es Stop n = tt
calls_none es (Do o c) n = calls_none (known_behind es (folded_op es o)) c n
calls_none es (Call t f args c) n = absurd n
calls_none es (Choose p a b c) n = (calls_none es a n.0, calls_none es b n.1, calls_none [] c n.2)
calls_none es (Block b c) n = (calls_none es b n.0, calls_none [] c n.1)
calls_none es (Loop b c) n = (calls_none [] b n.0, calls_none [] c n.1)
calls_none es (Leave k c) n = calls_none [] c n
calls_none es (Again k c) n = calls_none [] c n
calls_none es (Return p c) n = calls_none [] c n

counts_same : (fs : List (FunctionT ℕ)) (h : ℕ) → option_map (λ f. length f.params) (slice_get (map folded_function fs) h) ≡ option_map (λ f. length f.params) (slice_get fs h)
counts_same [] h = refl
counts_same (f ∷ fs) zero = refl
counts_same (f ∷ fs) (suc h) = counts_same fs h

module _ (x : CodeT ℕ) where
  abbrev y : CodeT ℕ
  y = folded_code x

  op_ok : (m : ℕ) (es : Words) (o : OpT ℕ) → IsOp x m o → IsOp y m (folded_op es o)
  op_ok m es (ConstO t n) h = h
  op_ok m es (NullO t) h = h
  op_ok m es (MoveO t a) h = stays (IsOp y m) t (MoveO t a) (word_in es a) tt below_limit
  op_ok m es (OneO o t a) h = stays (IsOp y m) t (OneO o t a) (one_known o (word_in es a)) h below_limit
  op_ok m es (TwoO o t a b) h = stays (IsOp y m) t (TwoO o t a b) (two_known o (word_in es a) (word_in es b)) tt below_limit
  op_ok m es (GlobalO t n) h = h
  op_ok m es (LocalO t n) h = h
  op_ok m es (LiteralO t n) h = h
  op_ok m es (CardO t) h = h
  op_ok m es (StepO t p n) h = h
  op_ok m es (ApartO t p q) h = h
  op_ok m es (PtrTestO o t p q) h = h
  op_ok m es (LoadO t p) h = h
  op_ok m es (StoreO p a) h = h
  op_ok m es (FreshO n) h = h
  op_ok m es (EndO n) h = h
  op_ok m es (InO t port) h = h
  op_ok m es (OutO port a) h = h
  op_ok m es WaitO h = h
  op_ok m es HaltO h = h

  nodes_ok : (m : ℕ) (bs : List Bool) (es : Words) (c : NodesT ℕ) → AreNodes x m bs c → AreNodes y m bs (folded es c)
  nodes_ok m bs es Stop n = tt
  nodes_ok m bs es (Do o c) n = (op_ok m es o n.0, nodes_ok m bs (known_behind es (folded_op es o)) c n.1)
  nodes_ok m bs es (Call t f args c) n = (counts_same x.functions f ∙ n.0, nodes_ok m bs [] c n.1)
  nodes_ok m bs es (Choose p a b c) n = (nodes_ok m bs es a n.0, nodes_ok m bs es b n.1, nodes_ok m bs [] c n.2)
  nodes_ok m bs es (Block b c) n = (nodes_ok m (false ∷ bs) es b n.0, nodes_ok m bs [] c n.1)
  nodes_ok m bs es (Loop b c) n = (nodes_ok m (true ∷ bs) [] b n.0, nodes_ok m bs [] c n.1)
  nodes_ok m bs es (Leave k c) n = (n.0, nodes_ok m bs [] c n.1)
  nodes_ok m bs es (Again k c) n = (n.0, nodes_ok m bs [] c n.1)
  nodes_ok m bs es (Return p c) n = nodes_ok m bs [] c n

  function_ok : (f : FunctionT ℕ) → IsFunction IsTemporary x f → IsFunction IsTemporary y (folded_function f)
  function_ok f ok = record {
    nodes = nodes_ok (length f.locals) [] [] f.body ok.nodes;
    names = names_ok (λ t. t < f.temps) [] f.body ok.names;
    params_named = ok.params_named;
    params_differ = ok.params_differ;
    count = ok.count;
    sizes = ok.sizes;
    words = ok.words;
  }

  functions_ok : (fs : List (FunctionT ℕ)) → AllOf (IsFunction IsTemporary x) fs → AllOf (IsFunction IsTemporary y) (map folded_function fs)
  functions_ok [] ok = tt
  functions_ok (f ∷ fs) ok = (function_ok f ok.0, functions_ok fs ok.1)

  -- Folded code is mid code.
  pub folded_mid : IsMid x → IsMid y
  folded_mid mid = record {
    start = record { function = function_ok x.start mid.start.function; params = mid.start.params; locals = mid.start.locals; gives = mid.start.gives; calls = calls_none [] x.start.body mid.start.calls };
    functions = functions_ok x.functions mid.functions;
    globals = mid.globals;
    main = counts_same x.functions x.main ∙ mid.main;
  }
