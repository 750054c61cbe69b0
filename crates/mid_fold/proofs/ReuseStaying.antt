-- Code whose results are used again is mid code, weighs the same, and has the same loops, calls and locals that live at once.
use Rattle.std.proofs.Common.{◌≡◌, ℕ, zero, suc, ◌+◌, ◌<◌, Bool, true, false, cond, eqb, ◌&&◌, ◌||◌, List, [], ◌∷◌, min, take, map, length, sum_by, option_map, slice_get, Some, None, refl, ap, subst, ◌∙◌, arith}
use Rattle.std.proofs.lemmas.List.Sums.{sum_by-cons}
use Rattle.mid_code.specs.Code.{OpT, ConstO, NullO, MoveO, OneO, TwoO, GlobalO, LocalO, LiteralO, CardO, StepO, ApartO, PtrTestO, LoadO, StoreO, FreshO, EndO, InO, OutO, WaitO, HaltO, NodesT, Stop, Do, Call, Choose, Block, Loop, Leave, Again, Return, FunctionT, CodeT, maybe, uses, target}
use Rattle.mid_code.specs.Calls.{AddsNone, NoneAdd}
use Rattle.mid_code.specs.Invariants.{IsOp, AreNodes, AllOf, Names, CallsNone, IsFunction, IsTemporary, IsMid}
use Rattle.mid_code.specs.Runs.{nodes_weight, function_weight, weight}
use Rattle.mid_code.specs.Skeleton as shape
use Rattle.mid_code.specs.Skeleton.{some_before, some_place, skeleton, SameShape}
use Rattle.mid_code.proofs.Skeletons.{same_shape}
use Rattle.mid_fold.specs.declared.operand.Operand.{Operand}
use Rattle.mid_fold.specs.declared.made.Made.{Made}
use Rattle.mid_fold.specs.declared.made.Maker.{Maker}
use Rattle.mid_fold.specs.declared.made.Maker.TheVariants.{Operator, Step}
use Rattle.mid_fold.specs.inner.Reusing.{Seen, Results, nothing_seen, operand_in, is_made_by, is_worth, is_kept, is_cell, result_in, result_of, maker_in, is_zero, is_address, step_found, address_of_local, results_behind, with_result, made, seen_behind, reused_op, reused, reused_function, reused_code}
use Rattle.mid_fold.specs.FoldedFrom.{IsFoldedFunction, EachFolded}
use Rattle.mid_fold.proofs.ReuseActing.{each_reused, same_weight}
use Rattle.mid_fold.proofs.ReuseLasts.{same_divisions}

-- ---- weight and shape

pub weighs_same : (k : Seen) (c : NodesT ℕ) → nodes_weight (reused k c) ≡ nodes_weight c
weighs_same k Stop = refl
weighs_same k (Do o c) = λ i. same_weight k o i + weighs_same (seen_behind k (reused_op k o)) c i
weighs_same k (Call t f args c) = let h = weighs_same nothing_seen c in omega (arith, h)
weighs_same k (Choose p a b c) = let d = weighs_same k a in let e = weighs_same k b in let h = weighs_same nothing_seen c in omega (arith, d, e, h)
weighs_same k (Block b c) = let e = weighs_same k b in let h = weighs_same nothing_seen c in omega (arith, e, h)
weighs_same k (Loop b c) = let e = weighs_same nothing_seen b in let h = weighs_same nothing_seen c in omega (arith, e, h)
weighs_same k (Leave j c) = let h = weighs_same nothing_seen c in omega (arith, h)
weighs_same k (Again j c) = let h = weighs_same nothing_seen c in omega (arith, h)
weighs_same k (Return p c) = let h = weighs_same nothing_seen c in omega (arith, h)

-- loads, stores, locals that are made or ended, and what ports do stay
kept_op : (k : Seen) (o : OpT ℕ) → shape.stays (reused_op k o) ≡ shape.stays o
kept_op k o = each_reused (λ o p. shape.stays p ≡ shape.stays o) k (λ o. refl) (λ o t a b q e. refl) (λ t p n q e. refl) o

same_skeleton : (k : Seen) (c : NodesT ℕ) → skeleton (reused k c) ≡ skeleton c
same_skeleton k Stop = refl
same_skeleton k (Do o c) = λ i. some_before (kept_op k o i) (same_skeleton (seen_behind k (reused_op k o)) c i)
same_skeleton k (Call t f args c) = λ i. Call (some_place t) f (map (λ a. tt) args) (same_skeleton nothing_seen c i)
same_skeleton k (Choose p a b c) = λ i. Choose tt (same_skeleton k a i) (same_skeleton k b i) (same_skeleton nothing_seen c i)
same_skeleton k (Block b c) = λ i. Block (same_skeleton k b i) (same_skeleton nothing_seen c i)
same_skeleton k (Loop b c) = λ i. Loop (same_skeleton nothing_seen b i) (same_skeleton nothing_seen c i)
same_skeleton k (Leave j c) = ap (Leave j) (same_skeleton nothing_seen c)
same_skeleton k (Again j c) = ap (Again j) (same_skeleton nothing_seen c)
same_skeleton k (Return p c) = ap (Return (some_place p)) (same_skeleton nothing_seen c)

reused_shape : (c : NodesT ℕ) → SameShape c (reused nothing_seen c)
reused_shape c = same_shape c (reused nothing_seen c) (same_skeleton nothing_seen c)

pub adds_none : (c : NodesT ℕ) → AddsNone c (reused nothing_seen c)
adds_none c = (reused_shape c).adds_none

pub none_add : (fs : List (FunctionT ℕ)) → NoneAdd fs (map reused_function fs)
none_add [] = tt
none_add (f ∷ fs) = (adds_none f.body, none_add fs)

functions_weigh : (fs : List (FunctionT ℕ)) → sum_by function_weight (map reused_function fs) ≡ sum_by function_weight fs
functions_weigh [] = refl
functions_weigh (f ∷ fs) =
    let one = weighs_same nothing_seen f.body in
    let more = functions_weigh fs in
    let after = sum_by-cons function_weight (reused_function f) (map reused_function fs) in
    let before = sum_by-cons function_weight f fs in
    omega (arith, one, more, after, before)

pub code_weighs : (x : CodeT ℕ) → weight (reused_code x) ≡ weight x
code_weighs x = λ i. weighs_same nothing_seen x.start.body i + functions_weigh x.functions i

pub function_stays : (f : FunctionT ℕ) → IsFoldedFunction f (reused_function f)
function_stays f = record { temporaries = refl; params = refl; locals = refl; gives = refl; stays = same_skeleton nothing_seen f.body; divisions = same_divisions f.body }

pub each_folded : (fs : List (FunctionT ℕ)) → EachFolded fs (map reused_function fs)
each_folded [] = tt
each_folded (f ∷ fs) = (function_stays f, each_folded fs)

-- ---- names

module _ (Q : ℕ → Type 0) where
  -- the temporaries that have results have such names
  abbrev AreNamed : Results → Type 0
  AreNamed ms = AllOf (λ (m : Made). Q m.target) ms

  abbrev Named : OpT ℕ → Type 0
  Named o = AllOf Q (uses o) × AllOf Q (maybe (target o))

  found_named : (ms : Results) (o : Maker) (x y : Operand) (q : ℕ) → AreNamed ms → result_in ms o x y ≡ Some q → Q q
  found_named [] o x y q h e = absurd cc
  found_named (m ∷ ms) o x y q h e = go (λ f. found_named ms o x y q h.1 f) (is_made_by m o x y) e
    where
      go : (result_in ms o x y ≡ Some q → Q q) → (b : Bool) → cond b (Some m.target) (result_in ms o x y) ≡ Some q → Q q
      go r true f = let same : m.target ≡ q = cc in subst Q same h.0
      go r false f = r f

  result_named : (ms : Results) (m : Made) (q : ℕ) → AreNamed ms → result_of ms m ≡ Some q → Q q
  result_named ms m q h e = go (is_worth ms m.by m.first m.second) e
    where
      go : (b : Bool) → cond b (result_in ms m.by m.first m.second) None ≡ Some q → Q q
      go true f = found_named ms m.by m.first m.second q h f
      go false f = absurd cc

  step_named : (k : Seen) (t p n q : ℕ) → AreNamed k.1 → Q p → step_found k t p n ≡ Some q → Q q
  step_named k t p n q h m e = go (is_zero (operand_in k.0 n) && is_address (maker_in k.1 (operand_in k.0 p))) e
    where
      go : (b : Bool) → cond b (Some p) (result_of k.1 (made k.0 Step t p n)) ≡ Some q → Q q
      go true f = let same : p ≡ q = cc in subst Q same m
      go false f = result_named k.1 (made k.0 Step t p n) q h f

  op_named : (k : Seen) (o : OpT ℕ) → AreNamed k.1 → Named o → Named (reused_op k o)
  op_named k o h = each_reused (λ o p. Named o → Named p) k (λ o n. n) (λ o t a b q e n. ((result_named k.1 (made k.0 (Operator o) t a b) q h e, tt), n.1))
      (λ t p n q e m. ((step_named k t p n q h m.0.0 e, tt), m.1)) o

  named_behind : (ms : Results) (t : ℕ) → AreNamed ms → AreNamed (results_behind ms t)
  named_behind [] t h = tt
  named_behind (m ∷ ms) t h = go (named_behind ms t h.1) (eqb m.target t || (is_cell m.first t || is_cell m.second t))
    where
      go : AreNamed (results_behind ms t) → (b : Bool) → AreNamed (cond b (results_behind ms t) (m ∷ results_behind ms t))
      go r true = r
      go r false = (h.0, r)

  first_named : (n : ℕ) (ms : Results) → AreNamed ms → AreNamed (take n ms)
  first_named zero ms h = tt
  first_named (suc n) [] h = tt
  first_named (suc n) (m ∷ ms) h = (h.0, first_named n ms h.1)

  named_with : (ms : Results) (m : Made) → AreNamed ms → Q m.target → AreNamed (with_result ms m)
  named_with ms m h q = go (is_kept ms m)
    where
      go : (b : Bool) → AreNamed (cond b (m ∷ take (min (length ms) 15) ms) ms)
      go true = (q, first_named (min (length ms) 15) ms h)
      go false = h

  seen_named : (k : Seen) (o : OpT ℕ) → AreNamed k.1 → Named o → AreNamed (seen_behind k o).1
  seen_named k (ConstO t n) h e = named_behind k.1 t h
  seen_named k (NullO t) h e = named_behind k.1 t h
  seen_named k (MoveO t a) h e = named_behind k.1 t h
  seen_named k (OneO o t a) h e = named_behind k.1 t h
  seen_named k (TwoO o t a b) h e = named_with (results_behind k.1 t) (made k.0 (Operator o) t a b) (named_behind k.1 t h) e.1.0
  seen_named k (GlobalO t n) h e = named_behind k.1 t h
  seen_named k (LocalO t n) h e = named_with (results_behind k.1 t) (address_of_local t) (named_behind k.1 t h) e.1.0
  seen_named k (LiteralO t n) h e = named_behind k.1 t h
  seen_named k (CardO t) h e = named_behind k.1 t h
  seen_named k (StepO t p n) h e = named_with (results_behind k.1 t) (made k.0 Step t p n) (named_behind k.1 t h) e.1.0
  seen_named k (ApartO t p q) h e = named_behind k.1 t h
  seen_named k (PtrTestO o t p q) h e = named_behind k.1 t h
  seen_named k (LoadO t p) h e = named_behind k.1 t h
  seen_named k (StoreO p a) h e = h
  seen_named k (FreshO n) h e = h
  seen_named k (EndO n) h e = h
  seen_named k (InO t port) h e = named_behind k.1 t h
  seen_named k (OutO port a) h e = h
  seen_named k WaitO h e = h
  seen_named k HaltO h e = h

  names_ok : (k : Seen) (c : NodesT ℕ) → AreNamed k.1 → Names Q c → Names Q (reused k c)
  names_ok k Stop h n = tt
  names_ok k (Do o c) h n = let named = op_named k o h n.0 in (named, names_ok (seen_behind k (reused_op k o)) c (seen_named k (reused_op k o) h named) n.1)
  names_ok k (Call t f args c) h n = (n.0, names_ok nothing_seen c tt n.1)
  names_ok k (Choose p a b c) h n = (n.0, names_ok k a h n.1, names_ok k b h n.2, names_ok nothing_seen c tt n.3)
  names_ok k (Block b c) h n = (names_ok k b h n.0, names_ok nothing_seen c tt n.1)
  names_ok k (Loop b c) h n = (names_ok nothing_seen b tt n.0, names_ok nothing_seen c tt n.1)
  names_ok k (Leave j c) h n = names_ok nothing_seen c tt n
  names_ok k (Again j c) h n = names_ok nothing_seen c tt n
  names_ok k (Return p c) h n = (n.0, names_ok nothing_seen c tt n.1)

-- ---- nodes

calls_none : (k : Seen) (c : NodesT ℕ) → CallsNone c → CallsNone (reused k c)
calls_none k Stop n = tt
calls_none k (Do o c) n = calls_none (seen_behind k (reused_op k o)) c n
calls_none k (Call t f args c) n = absurd n
calls_none k (Choose p a b c) n = (calls_none k a n.0, calls_none k b n.1, calls_none nothing_seen c n.2)
calls_none k (Block b c) n = (calls_none k b n.0, calls_none nothing_seen c n.1)
calls_none k (Loop b c) n = (calls_none nothing_seen b n.0, calls_none nothing_seen c n.1)
calls_none k (Leave j c) n = calls_none nothing_seen c n
calls_none k (Again j c) n = calls_none nothing_seen c n
calls_none k (Return p c) n = calls_none nothing_seen c n

counts_same : (fs : List (FunctionT ℕ)) (h : ℕ) → option_map (λ f. length f.params) (slice_get (map reused_function fs) h) ≡ option_map (λ f. length f.params) (slice_get fs h)
counts_same [] h = refl
counts_same (f ∷ fs) zero = refl
counts_same (f ∷ fs) (suc h) = counts_same fs h

module _ (x : CodeT ℕ) where
  abbrev y : CodeT ℕ
  y = reused_code x

  op_ok : (m : ℕ) (k : Seen) (o : OpT ℕ) → IsOp x m o → IsOp y m (reused_op k o)
  op_ok m k o h = each_reused (λ o p. IsOp x m o → IsOp y m p) k (λ o h. same_ok o h) (λ o t a b q e h. tt) (λ t p n q e h. tt) o h
    where
      same_ok : (o : OpT ℕ) → IsOp x m o → IsOp y m o
      same_ok (ConstO t n) h = h
      same_ok (NullO t) h = h
      same_ok (MoveO t a) h = h
      same_ok (OneO o t a) h = h
      same_ok (TwoO o t a b) h = h
      same_ok (GlobalO t n) h = h
      same_ok (LocalO t n) h = h
      same_ok (LiteralO t n) h = h
      same_ok (CardO t) h = h
      same_ok (StepO t p n) h = h
      same_ok (ApartO t p q) h = h
      same_ok (PtrTestO o t p q) h = h
      same_ok (LoadO t p) h = h
      same_ok (StoreO p a) h = h
      same_ok (FreshO n) h = h
      same_ok (EndO n) h = h
      same_ok (InO t port) h = h
      same_ok (OutO port a) h = h
      same_ok WaitO h = h
      same_ok HaltO h = h

  nodes_ok : (m : ℕ) (bs : List Bool) (k : Seen) (c : NodesT ℕ) → AreNodes x m bs c → AreNodes y m bs (reused k c)
  nodes_ok m bs k Stop n = tt
  nodes_ok m bs k (Do o c) n = (op_ok m k o n.0, nodes_ok m bs (seen_behind k (reused_op k o)) c n.1)
  nodes_ok m bs k (Call t f args c) n = (counts_same x.functions f ∙ n.0, nodes_ok m bs nothing_seen c n.1)
  nodes_ok m bs k (Choose p a b c) n = (nodes_ok m bs k a n.0, nodes_ok m bs k b n.1, nodes_ok m bs nothing_seen c n.2)
  nodes_ok m bs k (Block b c) n = (nodes_ok m (false ∷ bs) k b n.0, nodes_ok m bs nothing_seen c n.1)
  nodes_ok m bs k (Loop b c) n = (nodes_ok m (true ∷ bs) nothing_seen b n.0, nodes_ok m bs nothing_seen c n.1)
  nodes_ok m bs k (Leave j c) n = (n.0, nodes_ok m bs nothing_seen c n.1)
  nodes_ok m bs k (Again j c) n = (n.0, nodes_ok m bs nothing_seen c n.1)
  nodes_ok m bs k (Return p c) n = nodes_ok m bs nothing_seen c n

  function_ok : (f : FunctionT ℕ) → IsFunction IsTemporary x f → IsFunction IsTemporary y (reused_function f)
  function_ok f ok = record {
    nodes = nodes_ok (length f.locals) [] nothing_seen f.body ok.nodes;
    names = names_ok (λ t. t < f.temps) nothing_seen f.body tt ok.names;
    params_named = ok.params_named;
    params_differ = ok.params_differ;
    count = ok.count;
    sizes = ok.sizes;
    words = ok.words;
  }

  functions_ok : (fs : List (FunctionT ℕ)) → AllOf (IsFunction IsTemporary x) fs → AllOf (IsFunction IsTemporary y) (map reused_function fs)
  functions_ok [] ok = tt
  functions_ok (f ∷ fs) ok = (function_ok f ok.0, functions_ok fs ok.1)

  -- Such code is mid code.
  pub reused_mid : IsMid x → IsMid y
  reused_mid mid = record {
    start = record { function = function_ok x.start mid.start.function; params = mid.start.params; locals = mid.start.locals; gives = mid.start.gives; calls = calls_none nothing_seen x.start.body mid.start.calls };
    functions = functions_ok x.functions mid.functions;
    globals = mid.globals;
    main = counts_same x.functions x.main ∙ mid.main;
  }
