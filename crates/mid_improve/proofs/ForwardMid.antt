-- The code that comes of forward propagation is mid code, weighs the same, and has the same loops and calls.
use Rattle.std.proofs.Common.{◌≡◌, ℕ, zero, suc, ◌+◌, ◌<◌, ◌^◌, inl, inr, Bool, true, false, cond, eqb, nat_lt, ltb-true, List, [], ◌∷◌, map, length, sum_by, option_map, slice_get, Option, Some, None, refl, sym, ap, ◌∙◌, arith}
use Rattle.std.proofs.lemmas.List.Sums.{sum_by-cons}
use Rattle.mid_code.specs.Code.{OpT, ConstO, NullO, MoveO, OneO, TwoO, GlobalO, LocalO, LiteralO, CardO, StepO, ApartO, PtrTestO, LoadO, StoreO, FreshO, EndO, InO, OutO, WaitO, HaltO, NodesT, Stop, Do, Call, Choose, Block, Loop, Leave, Again, Return, FunctionT, CodeT, maybe, uses, target}
use Rattle.mid_code.specs.Calls.{loops, CallsTo, AddsNone, NoneAdd}
use Rattle.mid_code.specs.Invariants.{IsOp, AreNodes, AllOf, Names, CallsNone, IsFunction, IsTemporary, IsMid}
use Rattle.mid_code.specs.Runs.{nodes_weight, function_weight, weight}
use Rattle.mid_code.specs.Skeleton.{stays as bones, some_before, some_place, skeleton}
use Rattle.mid_improve.specs.inner.Facts.{Fact, IsWord, IsCopy, Known, none_known, fact_word, fact_source, unless_copy, behind, behind_maybe, with_fact, known_behind}
use Rattle.mid_fold.specs.Lasting.{one_known, two_known}
use Rattle.mid_improve.specs.inner.Forward.{or_itself, serves, word_or, forwarded_op, forwarded, forwarded_function, forwarded_code}
use Rattle.mid_improve.proofs.Holding.{as_many}
use Rattle.mid_improve.proofs.Acting.{stays, weight_same}

-- ---- weight, loops and calls

pub weighs_same : (k : Known) (c : NodesT ℕ) → nodes_weight (forwarded k c) ≡ nodes_weight c
weighs_same k Stop = refl
weighs_same k (Do o c) = λ i. weight_same k o i + weighs_same (known_behind k (forwarded_op k o)) c i
weighs_same k (Call t f args c) = let h = weighs_same (behind_maybe k t) c in let l = as_many k args in omega (arith, h, l)
weighs_same k (Choose p a b c) = let d = weighs_same none_known a in let e = weighs_same none_known b in let h = weighs_same none_known c in omega (arith, d, e, h)
weighs_same k (Block b c) = let e = weighs_same none_known b in let h = weighs_same none_known c in omega (arith, e, h)
weighs_same k (Loop b c) = let e = weighs_same none_known b in let h = weighs_same none_known c in omega (arith, e, h)
weighs_same k (Leave j c) = let h = weighs_same none_known c in omega (arith, h)
weighs_same k (Again j c) = let h = weighs_same none_known c in omega (arith, h)
weighs_same k (Return p c) = let h = weighs_same none_known c in omega (arith, h)

loops_same : (k : Known) (c : NodesT ℕ) → loops (forwarded k c) ≡ loops c
loops_same k Stop = refl
loops_same k (Do o c) = loops_same (known_behind k (forwarded_op k o)) c
loops_same k (Call t f args c) = loops_same (behind_maybe k t) c
loops_same k (Choose p a b c) = λ i. loops_same none_known a i + (loops_same none_known b i + loops_same none_known c i)
loops_same k (Block b c) = λ i. loops_same none_known b i + loops_same none_known c i
loops_same k (Loop b c) = λ i. suc (loops_same none_known b i + loops_same none_known c i)
loops_same k (Leave j c) = loops_same none_known c
loops_same k (Again j c) = loops_same none_known c
loops_same k (Return p c) = loops_same none_known c

calls_same : (g : ℕ) (k : Known) (c : NodesT ℕ) → CallsTo g (forwarded k c) → CallsTo g c
calls_same g k Stop h = h
calls_same g k (Do o c) h = calls_same g (known_behind k (forwarded_op k o)) c h
calls_same g k (Call t f args c) (inl e) = inl e
calls_same g k (Call t f args c) (inr h) = inr (calls_same g (behind_maybe k t) c h)
calls_same g k (Choose p a b c) (inl h) = inl (calls_same g none_known a h)
calls_same g k (Choose p a b c) (inr (inl h)) = inr (inl (calls_same g none_known b h))
calls_same g k (Choose p a b c) (inr (inr h)) = inr (inr (calls_same g none_known c h))
calls_same g k (Block b c) (inl h) = inl (calls_same g none_known b h)
calls_same g k (Block b c) (inr h) = inr (calls_same g none_known c h)
calls_same g k (Loop b c) (inl h) = inl (calls_same g none_known b h)
calls_same g k (Loop b c) (inr h) = inr (calls_same g none_known c h)
calls_same g k (Leave j c) h = calls_same g none_known c h
calls_same g k (Again j c) h = calls_same g none_known c h
calls_same g k (Return p c) h = calls_same g none_known c h

pub adds_none : (c : NodesT ℕ) → AddsNone c (forwarded none_known c)
adds_none c = record { loop_count = (let e = loops_same none_known c in omega (arith, e)); calls = λ g h. calls_same g none_known c h }

pub none_add : (fs : List (FunctionT ℕ)) → NoneAdd fs (map forwarded_function fs)
none_add [] = tt
none_add (f ∷ fs) = (adds_none f.body, none_add fs)

functions_weigh : (fs : List (FunctionT ℕ)) → sum_by function_weight (map forwarded_function fs) ≡ sum_by function_weight fs
functions_weigh [] = refl
functions_weigh (f ∷ fs) =
    let one = weighs_same none_known f.body in
    let more = functions_weigh fs in
    let after = sum_by-cons function_weight (forwarded_function f) (map forwarded_function fs) in
    let before = sum_by-cons function_weight f fs in
    omega (arith, one, more, after, before)

pub code_weighs : (x : CodeT ℕ) → weight (forwarded_code x) ≡ weight x
code_weighs x = λ i. weighs_same none_known x.start.body i + functions_weigh x.functions i

-- ---- skeletons

no_bones : (t : ℕ) (o : OpT ℕ) (r : Option ℕ) → bones o ≡ None → bones (word_or t o r) ≡ None
no_bones t o r e = stays (λ p. bones p ≡ None) t o r e (λ w h. refl)

bones_same : (k : Known) (o : OpT ℕ) → bones (forwarded_op k o) ≡ bones o
bones_same k (ConstO t w) = refl
bones_same k (NullO t) = refl
bones_same k (MoveO t a) = no_bones t (MoveO t (serves k a)) (fact_word (k a)) refl
bones_same k (OneO o t a) = no_bones t (OneO o t (serves k a)) (one_known o (fact_word (k a))) refl
bones_same k (TwoO o t a b) = no_bones t (TwoO o t (serves k a) (serves k b)) (two_known o (fact_word (k a)) (fact_word (k b))) refl
bones_same k (GlobalO t n) = refl
bones_same k (LocalO t n) = refl
bones_same k (LiteralO t n) = refl
bones_same k (CardO t) = refl
bones_same k (StepO t p n) = refl
bones_same k (ApartO t p q) = refl
bones_same k (PtrTestO o t p q) = refl
bones_same k (LoadO t p) = refl
bones_same k (StoreO p a) = refl
bones_same k (FreshO n) = refl
bones_same k (EndO n) = refl
bones_same k (InO t port) = refl
bones_same k (OutO port a) = refl
bones_same k WaitO = refl
bones_same k HaltO = refl

pub places_same : (k : Known) (qs : List ℕ) → map (λ q. tt) (map (serves k) qs) ≡ map {B = Unit {0}} (λ q. tt) qs
places_same k [] = refl
places_same k (q ∷ qs) = ap (λ us. tt ∷ us) (places_same k qs)

pub place_same : (k : Known) (p : Option ℕ) → some_place (option_map (serves k) p) ≡ some_place p
place_same k None = refl
place_same k (Some q) = refl

pub skeleton_same : (k : Known) (c : NodesT ℕ) → skeleton (forwarded k c) ≡ skeleton c
skeleton_same k Stop = refl
skeleton_same k (Do o c) = λ i. some_before (bones_same k o i) (skeleton_same (known_behind k (forwarded_op k o)) c i)
skeleton_same k (Call t f args c) = λ i. Call (some_place t) f (places_same k args i) (skeleton_same (behind_maybe k t) c i)
skeleton_same k (Choose p a b c) = λ i. Choose tt (skeleton_same none_known a i) (skeleton_same none_known b i) (skeleton_same none_known c i)
skeleton_same k (Block b c) = λ i. Block (skeleton_same none_known b i) (skeleton_same none_known c i)
skeleton_same k (Loop b c) = λ i. Loop (skeleton_same none_known b i) (skeleton_same none_known c i)
skeleton_same k (Leave j c) = ap (Leave j) (skeleton_same none_known c)
skeleton_same k (Again j c) = ap (Again j) (skeleton_same none_known c)
skeleton_same k (Return p c) = λ i. Return (place_same k p i) (skeleton_same none_known c i)

-- ---- names

module _ (Q : ℕ → Type 0) where
  -- what copies are copies of is named
  abbrev IsNamedFact : Option Fact → Type 0
  IsNamedFact None = Unit {0}
  IsNamedFact (Some (IsWord word)) = Unit {0}
  IsNamedFact (Some (IsCopy a)) = Q a

  abbrev Named : Known → Type 0
  Named k = (q : ℕ) → IsNamedFact (k q)

  none_named : Named none_known
  none_named q = tt

  named_behind : (k : Known) (t : ℕ) → Named k → Named (behind k t)
  named_behind k t n q = go (eqb t q) (k q) (n q)
    where
      copy : (a : ℕ) (x : Bool) → Q a → IsNamedFact (cond x None (Some (IsCopy a)))
      copy a true h = tt
      copy a false h = h

      go : (x : Bool) (f : Option Fact) → IsNamedFact f → IsNamedFact (cond x None (unless_copy t f))
      go true f h = tt
      go false None h = tt
      go false (Some (IsWord word)) h = tt
      go false (Some (IsCopy a)) h = copy a (eqb t a) h

  named_maybe : (k : Known) (t : Option ℕ) → Named k → Named (behind_maybe k t)
  named_maybe k None n = n
  named_maybe k (Some t) n = named_behind k t n

  named_with : (k : Known) (t : ℕ) (f : Fact) → IsNamedFact (Some f) → Named k → Named (with_fact t f k)
  named_with k t f m n q = go (eqb t q)
    where
      go : (x : Bool) → IsNamedFact (cond x (Some f) (k q))
      go true = m
      go false = n q

  serves_named : (k : Known) (q : ℕ) → Named k → Q q → Q (serves k q)
  serves_named k q n h = go (k q) (n q)
    where
      go : (f : Option Fact) → IsNamedFact f → Q (or_itself q (fact_source f))
      go None m = h
      go (Some (IsWord word)) m = h
      go (Some (IsCopy a)) m = m

  all_named : (k : Known) (qs : List ℕ) → Named k → AllOf Q qs → AllOf Q (map (serves k) qs)
  all_named k [] n h = tt
  all_named k (q ∷ qs) n h = (serves_named k q n h.0, all_named k qs n h.1)

  maybe_named : (k : Known) (p : Option ℕ) → Named k → AllOf Q (maybe p) → AllOf Q (maybe (option_map (serves k) p))
  maybe_named k None n h = tt
  maybe_named k (Some q) n h = (serves_named k q n h.0, tt)

  abbrev NamedOp : OpT ℕ → Type 0
  NamedOp o = AllOf Q (uses o) × AllOf Q (maybe (target o))

  op_named : (k : Known) (o : OpT ℕ) → Named k → NamedOp o → NamedOp (forwarded_op k o)
  op_named k (ConstO t w) n h = h
  op_named k (NullO t) n h = h
  op_named k (MoveO t a) n h = stays NamedOp t (MoveO t (serves k a)) (fact_word (k a)) ((serves_named k a n h.0.0, tt), h.1) (λ w f. (tt, h.1))
  op_named k (OneO o t a) n h = stays NamedOp t (OneO o t (serves k a)) (one_known o (fact_word (k a))) ((serves_named k a n h.0.0, tt), h.1) (λ w f. (tt, h.1))
  op_named k (TwoO o t a b) n h = stays NamedOp t (TwoO o t (serves k a) (serves k b)) (two_known o (fact_word (k a)) (fact_word (k b))) (all_named k (a ∷ b ∷ []) n h.0, h.1) (λ w f. (tt, h.1))
  op_named k (GlobalO t j) n h = h
  op_named k (LocalO t j) n h = h
  op_named k (LiteralO t j) n h = h
  op_named k (CardO t) n h = h
  op_named k (StepO t p q) n h = (all_named k (p ∷ q ∷ []) n h.0, h.1)
  op_named k (ApartO t p q) n h = (all_named k (p ∷ q ∷ []) n h.0, h.1)
  op_named k (PtrTestO o t p q) n h = (all_named k (p ∷ q ∷ []) n h.0, h.1)
  op_named k (LoadO t p) n h = (all_named k (p ∷ []) n h.0, h.1)
  op_named k (StoreO p a) n h = (all_named k (p ∷ a ∷ []) n h.0, h.1)
  op_named k (FreshO j) n h = h
  op_named k (EndO j) n h = h
  op_named k (InO t port) n h = h
  op_named k (OutO port a) n h = (all_named k (a ∷ []) n h.0, h.1)
  op_named k WaitO n h = h
  op_named k HaltO n h = h

  -- what is known behind an operation that names
  known_named : (k : Known) (o : OpT ℕ) → Named k → NamedOp o → Named (known_behind k o)
  known_named k (ConstO t w) n h = named_with (behind k t) t (IsWord w) tt (named_behind k t n)
  known_named k (NullO t) n h = named_behind k t n
  known_named k (MoveO t a) n h = go (eqb a t)
    where
      go : (x : Bool) → Named (cond x (behind k t) (with_fact t (IsCopy a) (behind k t)))
      go true = named_behind k t n
      go false = named_with (behind k t) t (IsCopy a) h.0.0 (named_behind k t n)
  known_named k (OneO o t a) n h = named_behind k t n
  known_named k (TwoO o t a b) n h = named_behind k t n
  known_named k (GlobalO t j) n h = named_behind k t n
  known_named k (LocalO t j) n h = named_behind k t n
  known_named k (LiteralO t j) n h = named_behind k t n
  known_named k (CardO t) n h = named_behind k t n
  known_named k (StepO t p q) n h = named_behind k t n
  known_named k (ApartO t p q) n h = named_behind k t n
  known_named k (PtrTestO o t p q) n h = named_behind k t n
  known_named k (LoadO t p) n h = named_behind k t n
  known_named k (StoreO p a) n h = n
  known_named k (FreshO j) n h = n
  known_named k (EndO j) n h = n
  known_named k (InO t port) n h = named_behind k t n
  known_named k (OutO port a) n h = n
  known_named k WaitO n h = n
  known_named k HaltO n h = n

  names_ok : (k : Known) (c : NodesT ℕ) → Named k → Names Q c → Names Q (forwarded k c)
  names_ok k Stop m n = tt
  names_ok k (Do o c) m n = let h = op_named k o m n.0 in (h, names_ok (known_behind k (forwarded_op k o)) c (known_named k (forwarded_op k o) m h) n.1)
  names_ok k (Call t f args c) m n = ((all_named k args m n.0.0, n.0.1), names_ok (behind_maybe k t) c (named_maybe k t m) n.1)
  names_ok k (Choose p a b c) m n = ((all_named k (p ∷ []) m n.0.0, n.0.1), names_ok none_known a none_named n.1, names_ok none_known b none_named n.2, names_ok none_known c none_named n.3)
  names_ok k (Block b c) m n = (names_ok none_known b none_named n.0, names_ok none_known c none_named n.1)
  names_ok k (Loop b c) m n = (names_ok none_known b none_named n.0, names_ok none_known c none_named n.1)
  names_ok k (Leave j c) m n = names_ok none_known c none_named n
  names_ok k (Again j c) m n = names_ok none_known c none_named n
  names_ok k (Return p c) m n = ((maybe_named k p m n.0.0, n.0.1), names_ok none_known c none_named n.1)

-- ---- nodes

calls_none : (k : Known) (c : NodesT ℕ) → CallsNone c → CallsNone (forwarded k c)
calls_none k Stop n = tt
calls_none k (Do o c) n = calls_none (known_behind k (forwarded_op k o)) c n
calls_none k (Call t f args c) n = absurd n
calls_none k (Choose p a b c) n = (calls_none none_known a n.0, calls_none none_known b n.1, calls_none none_known c n.2)
calls_none k (Block b c) n = (calls_none none_known b n.0, calls_none none_known c n.1)
calls_none k (Loop b c) n = (calls_none none_known b n.0, calls_none none_known c n.1)
calls_none k (Leave j c) n = calls_none none_known c n
calls_none k (Again j c) n = calls_none none_known c n
calls_none k (Return p c) n = calls_none none_known c n

counts_same : (fs : List (FunctionT ℕ)) (h : ℕ) → option_map (λ f. length f.params) (slice_get (map forwarded_function fs) h) ≡ option_map (λ f. length f.params) (slice_get fs h)
counts_same [] h = refl
counts_same (f ∷ fs) zero = refl
counts_same (f ∷ fs) (suc h) = counts_same fs h

module _ (x : CodeT ℕ) where
  abbrev y : CodeT ℕ
  y = forwarded_code x

  below_limit : (w : ℕ) → nat_lt w (2 ^ 32) ≡ true → w < 2 ^ 32
  below_limit w e = ltb-true w (2 ^ 32) e

  op_ok : (m : ℕ) (k : Known) (o : OpT ℕ) → IsOp x m o → IsOp y m (forwarded_op k o)
  op_ok m k (ConstO t w) h = h
  op_ok m k (NullO t) h = h
  op_ok m k (MoveO t a) h = stays (IsOp y m) t (MoveO t (serves k a)) (fact_word (k a)) tt below_limit
  op_ok m k (OneO o t a) h = stays (IsOp y m) t (OneO o t (serves k a)) (one_known o (fact_word (k a))) h below_limit
  op_ok m k (TwoO o t a b) h = stays (IsOp y m) t (TwoO o t (serves k a) (serves k b)) (two_known o (fact_word (k a)) (fact_word (k b))) tt below_limit
  op_ok m k (GlobalO t n) h = h
  op_ok m k (LocalO t n) h = h
  op_ok m k (LiteralO t n) h = h
  op_ok m k (CardO t) h = h
  op_ok m k (StepO t p n) h = h
  op_ok m k (ApartO t p q) h = h
  op_ok m k (PtrTestO o t p q) h = h
  op_ok m k (LoadO t p) h = h
  op_ok m k (StoreO p a) h = h
  op_ok m k (FreshO n) h = h
  op_ok m k (EndO n) h = h
  op_ok m k (InO t port) h = h
  op_ok m k (OutO port a) h = h
  op_ok m k WaitO h = h
  op_ok m k HaltO h = h

  nodes_ok : (m : ℕ) (bs : List Bool) (k : Known) (c : NodesT ℕ) → AreNodes x m bs c → AreNodes y m bs (forwarded k c)
  nodes_ok m bs k Stop n = tt
  nodes_ok m bs k (Do o c) n = (op_ok m k o n.0, nodes_ok m bs (known_behind k (forwarded_op k o)) c n.1)
  nodes_ok m bs k (Call t f args c) n = (counts_same x.functions f ∙ n.0 ∙ ap Some (sym (as_many k args)), nodes_ok m bs (behind_maybe k t) c n.1)
  nodes_ok m bs k (Choose p a b c) n = (nodes_ok m bs none_known a n.0, nodes_ok m bs none_known b n.1, nodes_ok m bs none_known c n.2)
  nodes_ok m bs k (Block b c) n = (nodes_ok m (false ∷ bs) none_known b n.0, nodes_ok m bs none_known c n.1)
  nodes_ok m bs k (Loop b c) n = (nodes_ok m (true ∷ bs) none_known b n.0, nodes_ok m bs none_known c n.1)
  nodes_ok m bs k (Leave j c) n = (n.0, nodes_ok m bs none_known c n.1)
  nodes_ok m bs k (Again j c) n = (n.0, nodes_ok m bs none_known c n.1)
  nodes_ok m bs k (Return p c) n = nodes_ok m bs none_known c n

  function_ok : (f : FunctionT ℕ) → IsFunction IsTemporary x f → IsFunction IsTemporary y (forwarded_function f)
  function_ok f ok = record {
    nodes = nodes_ok (length f.locals) [] none_known f.body ok.nodes;
    names = names_ok (λ t. t < f.temps) none_known f.body (none_named (λ t. t < f.temps)) ok.names;
    params_named = ok.params_named;
    params_differ = ok.params_differ;
    count = ok.count;
    sizes = ok.sizes;
    words = ok.words;
  }

  functions_ok : (fs : List (FunctionT ℕ)) → AllOf (IsFunction IsTemporary x) fs → AllOf (IsFunction IsTemporary y) (map forwarded_function fs)
  functions_ok [] ok = tt
  functions_ok (f ∷ fs) ok = (function_ok f ok.0, functions_ok fs ok.1)

  -- The code that comes of it is mid code.
  pub forwarded_mid : IsMid x → IsMid y
  forwarded_mid mid = record {
    start = record { function = function_ok x.start mid.start.function; params = mid.start.params; locals = mid.start.locals; gives = mid.start.gives; calls = calls_none none_known x.start.body mid.start.calls };
    functions = functions_ok x.functions mid.functions;
    globals = mid.globals;
    main = counts_same x.functions x.main ∙ mid.main;
  }
