-- The pass over a whole program: it keeps the runs, in no more work.
use Rattle.std.proofs.Common.{◌≡◌, ℕ, zero, suc, ◌+◌, ◌<◌, ◌≤◌, ◌⊎◌, inl, inr, Bool, true, false, cond, eqb, List, [], ◌∷◌, length, get_or, Option, Some, None, refl, sym, ap, ◌∙◌, subst, arith}
use Rattle.mid_code.specs.Code.{OpT, ConstO, NullO, MoveO, OneO, TwoO, GlobalO, LocalO, LiteralO, CardO, StepO, ApartO, PtrTestO, LoadO, StoreO, FreshO, EndO, InO, OutO, WaitO, HaltO}
use Rattle.mid_code.specs.Code.{NodesT, Stop, Do, Call, Choose, Block, Loop, Leave, Again, Return, FunctionT, CodeT, maybe, uses, target}
use Rattle.mid_code.specs.Functions.{joined}
use Rattle.mid_code.specs.States.{temporaries, over_worlds, sizes_of, function_at, no_function}
use Rattle.obj_mem.specs.Stores.{words_here}
use Rattle.mid_code.specs.Runs.{opening, mid_runs}
use Rattle.mid_code.specs.Keeps.{KeepsRuns, WorksAtMost}
use Rattle.mid_code.specs.Invariants.{IsOp, AreNodes, IsLoop, Names, AllOf, IsFunction, IsTemporary, IsMid}
use Rattle.mid_code.specs.inner.Passing.{Pass, Points, end_at, begin_at, Like}
use Rattle.mid_code.specs.inner.Programs.{Program}
use Rattle.mid_code.proofs.Programs.{program_keeps, program_works}
use Rattle.mid_scalars.specs.inner.Named.{count_of}
use Rattle.mid_scalars.proofs.Whole.{ids, objects_opened, start_begun, opens}
use Rattle.mid_scalars.proofs.Promotes.{function_ok}
use Rattle.mid_replace.specs.inner.Facts.{Fact, Plain, Word, Any, Plan, Weaker, IsPlain, with_target, facts_behind, Follows, replaced_op, IsFine}
use Rattle.mid_replace.specs.inner.Held.{Fits, Alive, AllNamed, AllPlain, replacing}
use Rattle.mid_replace.specs.inner.Replaced.{replaced}
use Rattle.mid_replace.specs.inner.Chosen.{words_before, plan_by, IsByChoice, IsReplacedBy, AllReplacedBy}
use Rattle.mid_replace.proofs.Spare.{weaker_same}
use Rattle.mid_replace.proofs.Calling.{keeps}
use Rattle.mid_replace.proofs.Lists.{body_like}

true_false : true ≡ false → ⊥
true_false e = cc

-- ---- functions that stay

-- nothing is held
abbrev idle : ℕ → Plan
idle n = record { temps = n; held = λ k. false; variable = λ k w. n; size = λ k. 0; base = λ q. Plain }

module _ (x : CodeT ℕ) (m : ℕ) where
  -- an operation stands for itself
  abbrev Stays : Plan → OpT ℕ → Type 0
  Stays P o = (o ∷ [] ≡ replaced_op P P.base o) × IsFine P (length x.globals) (length x.literals) m P.base o × AllNamed P (uses o) × AllNamed P (maybe (target o)) × Follows (facts_behind P P.base o) P.base

  plain_follows : (t : Option ℕ) (u : Fact) → Weaker u Plain → Follows (with_target t u (λ q. Plain)) (λ q. Plain)
  plain_follows None u h q = tt
  plain_follows (Some t) u h q = go (eqb q t)
    where
      go : (c : Bool) → Weaker (cond c u Plain) Plain
      go true = h
      go false = tt

  stays : (n : ℕ) (o : OpT ℕ) → IsOp x m o → AllOf (λ q. q < n) (uses o) → AllOf (λ q. q < n) (maybe (target o)) → Stays (idle n) o
  stays n (ConstO t w) i u v = (refl, tt, u, v, plain_follows (Some t) (Word w) tt)
  stays n (NullO t) i u v = (refl, tt, u, v, plain_follows (Some t) Plain tt)
  stays n (MoveO t a) i u v = (refl, tt, u, v, plain_follows (Some t) Plain tt)
  stays n (OneO o t a) i u v = (refl, tt, u, v, plain_follows (Some t) Plain tt)
  stays n (TwoO o t a b) i u v = (refl, (tt, tt), u, v, plain_follows (Some t) Plain tt)
  stays n (GlobalO t k) i u v = (refl, i, u, v, plain_follows (Some t) Plain tt)
  stays n (LocalO t k) i u v = (refl, i, u, v, plain_follows (Some t) Plain tt)
  stays n (LiteralO t k) i u v = (refl, i, u, v, plain_follows (Some t) Plain tt)
  stays n (CardO t) i u v = (refl, tt, u, v, plain_follows (Some t) Plain tt)
  stays n (StepO t p q) i u v = (refl, tt, u, v, plain_follows (Some t) Plain tt)
  stays n (ApartO t p q) i u v = (refl, (tt, tt), u, v, plain_follows (Some t) Plain tt)
  stays n (PtrTestO o t p q) i u v = (refl, (tt, tt), u, v, plain_follows (Some t) Plain tt)
  stays n (LoadO t p) i u v = (refl, tt, u, v, plain_follows (Some t) Plain tt)
  stays n (StoreO p a) i u v = (refl, (tt, tt), u, v, plain_follows None Plain tt)
  stays n (FreshO k) i u v = (refl, i, u, v, plain_follows None Plain tt)
  stays n (EndO k) i u v = (refl, i, u, v, plain_follows None Plain tt)
  stays n (InO t port) i u v = (refl, tt, u, v, plain_follows (Some t) Plain tt)
  stays n (OutO port a) i u v = (refl, tt, u, v, plain_follows None Plain tt)
  stays n WaitO i u v = (refl, tt, u, v, plain_follows None Plain tt)
  stays n HaltO i u v = (refl, tt, u, v, plain_follows None Plain tt)

  abbrev StaysCall : Plan → Option ℕ → List ℕ → Type 0
  StaysCall P t args = AllPlain P.base args × AllNamed P args × AllNamed P (maybe t) × Follows (with_target t Plain P.base) P.base

  idle_plain : (n : ℕ) (qs : List ℕ) → AllPlain (idle n).base qs
  idle_plain n [] = tt
  idle_plain n (q ∷ qs) = (tt, idle_plain n qs)

  stays_call : (n : ℕ) (t : Option ℕ) (args : List ℕ) → AllOf (λ q. q < n) args → AllOf (λ q. q < n) (maybe t) → StaysCall (idle n) t args
  stays_call n t args u v = (idle_plain n args, u, v, plain_follows t Plain tt)

module _ (X : Option ℕ → Plan) (x y : CodeT ℕ) (frames : List ℕ) (f : Option ℕ) (n : ℕ) (is : X f ≡ idle n) where
  abbrev base : ℕ → Fact
  base = (X f).base

  abbrev m : ℕ
  m = count_of (sizes_of x frames) f

  abbrev PP : Pass (over_worlds temporaries x frames) (over_worlds temporaries y frames)
  PP = replacing X x y frames

  abbrev AllBase : List (Points (ℕ → Fact)) → Type 0
  AllBase [] = Unit {0}
  AllBase (l ∷ ls) = (l.begins ≡ base) × (l.ends ≡ base) × AllBase ls

  ends_base : (ls : List (Points (ℕ → Fact))) (k : ℕ) → AllBase ls → k < length ls → end_at ls k base
  ends_base [] k h lt = absurd (omega (arith, lt))
  ends_base (l ∷ ls) zero h lt = sym h.1
  ends_base (l ∷ ls) (suc k) h lt = ends_base ls k h.2 (omega (arith, lt))

  begins_base : (ls : List (Points (ℕ → Fact))) (k : ℕ) → AllBase ls → k < length ls → begin_at ls k base
  begins_base [] k h lt = absurd (omega (arith, lt))
  begins_base (l ∷ ls) zero h lt = sym h.0
  begins_base (l ∷ ls) (suc k) h lt = begins_base ls k h.2 (omega (arith, lt))

  loop_in : (bs : List Bool) (k : ℕ) → IsLoop bs k → k < length bs
  loop_in [] k h = absurd h
  loop_in (b ∷ bs) zero h = omega arith
  loop_in (b ∷ bs) (suc k) h = let r = loop_in bs k h in omega (arith, r)

  base_same : Follows base base
  base_same q = weaker_same (base q)

  abbrev Named : ℕ → Type 0
  Named q = q < n

  plain : (p : ℕ) → p < n → IsPlain (base p) × (p < (X f).temps)
  plain p lt = subst (λ P. IsPlain (P.base p) × (p < P.temps)) (sym is) (tt, lt)

  plain_maybe : (p : Option ℕ) → AllOf Named (maybe p) → AllPlain base (maybe p) × AllNamed (X f) (maybe p)
  plain_maybe p h = subst (λ P. AllPlain P.base (maybe p) × AllNamed P (maybe p)) (sym is) (idle_plain x m n (maybe p), h)

  same_like : (c : NodesT ℕ) (bs : List Bool) (ls : List (Points (ℕ → Fact))) → AllBase ls → length ls ≡ length bs → AreNodes x m bs c → Names Named c → Like PP f ls base c c base
  same_like Stop bs ls al len a b = (refl, refl)
  same_like (Do o c) bs ls al len a b = (o ∷ [], c, base, refl, subst (λ P. Stays x m P o) (sym is) (stays x m n o a.0 b.0.0 b.0.1), same_like c bs ls al len a.1 b.1)
  same_like (Call t g args c) bs ls al len a b =
      let r = subst (λ P. StaysCall x m P t args) (sym is) (stays_call x m n t args b.0.0 b.0.1) in
      (t, args, c, base, refl, refl, (refl, refl, r.0, r.1, r.2, r.3), same_like c bs ls al len a.1 b.1)
  same_like (Choose p u v c) bs ls al len a b =
      let r = plain p b.0.0.0 in
      (p, u, v, c, base, refl, (refl, r.0, r.1), base, base, base_same, base_same, same_like u bs ls al len a.0 b.1, same_like v bs ls al len a.1 b.2, same_like c bs ls al len a.2 b.3)
  same_like (Block u c) bs ls al len a b = (u, c, base, base, refl, same_like u (false ∷ bs) (record { begins = base; ends = base } ∷ ls) (refl, refl, al) (ap suc len) a.0 b.0, same_like c bs ls al len a.1 b.1)
  same_like (Loop u c) bs ls al len a b = (u, c, base, base, refl, base_same, same_like u (true ∷ bs) (record { begins = base; ends = base } ∷ ls) (refl, refl, al) (ap suc len) a.0 b.0, same_like c bs ls al len a.1 b.1)
  same_like (Leave k c) bs ls al len a b = (c, base, refl, ends_base ls k al (subst (λ w. k < w) (sym len) a.0), base_same)
  same_like (Again k c) bs ls al len a b = (c, base, refl, begins_base ls k al (subst (λ w. k < w) (sym len) (loop_in bs k a.0)), base_same)
  same_like (Return p c) bs ls al len a b = let r = plain_maybe p b.0.0 in (p, c, refl, (refl, r.0, r.1, base_same))

-- ---- the plan of a program

-- words of two locals that are held stand apart
spread : (bs : List Bool) (ns : List ℕ) (j k w v : ℕ) → get_or bs j false ≡ true → get_or bs k false ≡ true → w < get_or ns j 0 → v < get_or ns k 0 → words_before bs ns j + w ≡ words_before bs ns k + v → (j ≡ k) × (w ≡ v)
spread [] ns j k w v a b lw lv e = absurd (true_false (sym a))
spread (b ∷ bs) [] j k w v a c lw lv e = absurd (omega (arith, lw))
spread (b ∷ bs) (n ∷ ns) zero zero w v a c lw lv e = (refl, omega (arith, e))
spread (b ∷ bs) (n ∷ ns) zero (suc k) w v a c lw lv e = let s = ap (λ q. cond q n 0) a in absurd (omega (arith, e, s, lw))
spread (b ∷ bs) (n ∷ ns) (suc j) zero w v a c lw lv e = let s = ap (λ q. cond q n 0) c in absurd (omega (arith, e, s, lv))
spread (b ∷ bs) (n ∷ ns) (suc j) (suc k) w v a c lw lv e = let r = spread bs ns j k w v a c lw lv (omega (arith, e)) in (ap suc r.0, r.1)

held_in : (bs : List Bool) (k : ℕ) → get_or bs k false ≡ true → k < length bs
held_in [] k e = absurd (true_false (sym e))
held_in (b ∷ bs) zero e = omega arith
held_in (b ∷ bs) (suc k) e = let h = held_in bs k e in omega (arith, h)

open_base : (c : Bool) → Weaker Plain (cond c Any Plain)
open_base true = tt
open_base false = tt

abbrev plan_of : (f g : FunctionT ℕ) → IsReplacedBy f g → Plan
plan_of f g (inl c) = plan_by f c.choice
plan_of f g (inr e) = idle f.temps

-- what a function has, by its plan
record Planned (P : Plan) (f g : FunctionT ℕ) : Type 0 where
  params : g.params ≡ f.params
  locals : g.locals ≡ f.locals
  in_range : (k : ℕ) → P.held k ≡ true → k < length f.locals
  words : (k : ℕ) → P.held k ≡ true → P.size k ≡ get_or f.locals k 0
  above : (k w : ℕ) → P.temps ≤ P.variable k w
  apart : (j k w v : ℕ) → P.held j ≡ true → P.held k ≡ true → w < P.size j → v < P.size k → P.variable j w ≡ P.variable k v → (j ≡ k) × (w ≡ v)
  base : (q : ℕ) → Weaker Plain (P.base q)
  temps : P.temps ≡ f.temps
  body : ((c : IsByChoice f g) × (P ≡ plan_by f c.choice)) ⊎ ((g ≡ f) × (P ≡ idle f.temps))

planned : (f g : FunctionT ℕ) (h : IsReplacedBy f g) → Planned (plan_of f g h) f g
planned f g (inl c) = record {
  params = ap (λ r. r.params) c.is;
  locals = ap (λ r. r.locals) c.is;
  in_range = λ k e. (let a = held_in c.choice.held k e in let b = c.few in omega (arith, a, b));
  words = λ k e. refl;
  above = λ k w. omega arith;
  apart = λ j k w v a b lw lv e. spread c.choice.held f.locals j k w v a b lw lv (omega (arith, e));
  base = λ q. open_base (get_or c.choice.unsure q true);
  temps = refl;
  body = inl (c, refl);
}
planned f g (inr e) = record {
  params = ap (λ r. r.params) e;
  locals = ap (λ r. r.locals) e;
  in_range = λ k h. absurd (true_false (sym h));
  words = λ k h. absurd (true_false (sym h));
  above = λ k w. omega arith;
  apart = λ j k w v a b lw lv h. absurd (true_false (sym a));
  base = λ q. tt;
  temps = refl;
  body = inr (e, refl);
}

abbrev plans : (fs gs : List (FunctionT ℕ)) → AllReplacedBy fs gs → ℕ → Plan
plans [] [] h n = idle 0
plans [] (g ∷ gs) h n = absurd h
plans (f ∷ fs) [] h n = absurd h
plans (f ∷ fs) (g ∷ gs) h zero = plan_of f g h.0
plans (f ∷ fs) (g ∷ gs) h (suc n) = plans fs gs h.1 n

all_planned : (fs gs : List (FunctionT ℕ)) (h : AllReplacedBy fs gs) (n : ℕ) → Planned (plans fs gs h n) (get_or fs n no_function) (get_or gs n no_function)
all_planned [] [] h n = planned no_function no_function (inr refl)
all_planned [] (g ∷ gs) h n = absurd h
all_planned (f ∷ fs) [] h n = absurd h
all_planned (f ∷ fs) (g ∷ gs) h zero = planned f g h.0
all_planned (f ∷ fs) (g ∷ gs) h (suc n) = all_planned fs gs h.1 n

none_some : (o : ℕ) → None ≡ Some o → ⊥
none_some o e = cc

module _ (x y : CodeT ℕ) (mid : IsMid x) (start : y.start ≡ x.start) (globals : y.globals ≡ x.globals) (literals : y.literals ≡ x.literals) (main : y.main ≡ x.main) (all : AllReplacedBy x.functions y.functions) (frames : List ℕ) where
  abbrev X : Option ℕ → Plan
  X None = idle x.start.temps
  X (Some g) = plans x.functions y.functions all g

  at : (g : ℕ) → Planned (X (Some g)) (function_at x g) (function_at y g)
  at g = all_planned x.functions y.functions all g

  ok : (g : ℕ) → IsFunction IsTemporary x (function_at x g)
  ok g = function_ok x x.functions mid.functions g

  in_range : (f : Option ℕ) (k : ℕ) → (X f).held k ≡ true → k < count_of (sizes_of x frames) f
  in_range None k e = absurd (true_false (sym e))
  in_range (Some g) k e = (at g).in_range k e

  words : (f : Option ℕ) (k : ℕ) → (X f).held k ≡ true → (X f).size k ≡ words_here (sizes_of x frames) f k
  words None k e = absurd (true_false (sym e))
  words (Some g) k e = (at g).words k e

  above : (f : Option ℕ) (k w : ℕ) → (X f).held k ≡ true → w < (X f).size k → (X f).temps ≤ (X f).variable k w
  above None k w e lt = absurd (true_false (sym e))
  above (Some g) k w e lt = (at g).above k w

  apart : (f : Option ℕ) (j k w v : ℕ) → (X f).held j ≡ true → (X f).held k ≡ true → w < (X f).size j → v < (X f).size k → (X f).variable j w ≡ (X f).variable k v → (j ≡ k) × (w ≡ v)
  apart None j k w v a b lw lv e = absurd (true_false (sym a))
  apart (Some g) j k w v a b lw lv e = (at g).apart j k w v a b lw lv e

  plain_base : (f : Option ℕ) (q : ℕ) → Weaker Plain ((X f).base q)
  plain_base None q = tt
  plain_base (Some g) q = (at g).base q

  fits : Fits X x y frames
  fits = record {
    globals = globals;
    literals = literals;
    main = main;
    params = λ g. (at g).params;
    locals = λ g. (at g).locals;
    in_range = in_range;
    words = words;
    above = above;
    apart = apart;
    base = plain_base;
  }

  abbrev QQ : Pass (over_worlds temporaries x frames) (over_worlds temporaries y frames)
  QQ = replacing X x y frames

  by : (g : ℕ) → ((c : IsByChoice (function_at x g) (function_at y g)) × (X (Some g) ≡ plan_by (function_at x g) c.choice)) ⊎ ((function_at y g ≡ function_at x g) × (X (Some g) ≡ idle (function_at x g).temps))
      → Like QQ (Some g) [] (X (Some g)).base (function_at x g).body (function_at y g).body (X (Some g)).base
  by g (inl r) =
      let c = r.0 in
      let f = function_at x g in
      let nodes : AreNodes x (length f.locals) [] (joined c.before) = subst (AreNodes x (length f.locals) []) c.body (ok g).nodes in
      let names : Names (λ q. q < (X (Some g)).temps) (joined c.before) = subst (λ n. Names (λ q. q < n) (joined c.before)) (sym (at g).temps) (subst (Names (λ q. q < f.temps)) c.body (ok g).names) in
      let done : replaced (X (Some g)) [] c.before ≡ Some c.after = ap (λ P. replaced P [] c.before) r.1 ∙ c.done in
      subst (λ b. Like QQ (Some g) [] (X (Some g)).base b (function_at y g).body (X (Some g)).base) (sym c.body) (subst (λ b. Like QQ (Some g) [] (X (Some g)).base (joined c.before) b (X (Some g)).base) (sym (ap (λ q. q.body) c.is)) (body_like X x y frames (Some g) (plain_base (Some g)) c.before c.after nodes names done))
  by g (inr r) =
      let f = function_at x g in
      subst (λ b. Like QQ (Some g) [] (X (Some g)).base f.body b (X (Some g)).base) (sym (ap (λ q. q.body) r.0)) (same_like X x y frames (Some g) f.temps r.1 f.body [] [] tt refl (ok g).nodes (ok g).names)

  start_like : Like QQ None [] (X None).base x.start.body y.start.body (X None).base
  start_like =
      let s = mid.start.function in
      subst (λ b. Like QQ None [] (X None).base x.start.body b (X None).base) (sym (ap (λ q. q.body) start)) (same_like X x y frames None x.start.temps refl x.start.body [] [] tt refl (subst (λ l. AreNodes x (length l) [] x.start.body) mid.start.locals s.nodes) s.names)

  -- the states at the opening, where the second has the globals and literals of the first
  alike : (answers : List ℕ) (card : Option (List ℕ)) → Alive X x y frames (start_begun x) (X None).base (opening x answers card) (opening x answers card)
  alike answers card = record {
    names = ids 0 (objects_opened x);
    core = opens x card;
    answers = refl;
    events = refl;
    work = omega arith;
    fn = refl;
    fn' = refl;
    used = refl;
    count = refl;
    count' = refl;
    known = λ q lt. tt;
    hidden = λ k o h e. absurd (true_false (sym h));
    spare = λ k p h e. absurd (true_false (sym h));
    holds = λ k o h e l. absurd (true_false (sym h));
    locals = λ k lt h. refl;
  }

  opening_same : (answers : List ℕ) (card : Option (List ℕ)) → opening {P = ℕ} y answers card ≡ opening x answers card
  opening_same answers card = ap (λ gs. opening {P = ℕ} (record y { globals = gs }) answers card) globals ∙ ap (λ ls. opening {P = ℕ} (record x { literals = ls }) answers card) literals

  program : Program temporaries temporaries x y frames frames (replacing X x y frames)
  program = record {
    keeps = keeps X x y frames fits (λ g. by g (at g).body);
    ev = λ s. refl;
    ev' = λ t. refl;
    globals = ap length globals;
    literals = ap length literals;
    main = main;
    begun = start_begun x;
    of_start = refl;
    start = start_like;
    opening = λ answers card is. subst (Alive X x y frames (start_begun x) (X None).base (opening x answers card)) (sym (opening_same answers card)) (alike answers card);
    goes = λ s t g. g.alive;
    call = (refl, refl, tt, tt, tt, λ q. tt);
    ended = λ s t k. k;
    out = λ s t k. k;
    deep = λ s t k. k;
  }

  pub replaced_keeps : KeepsRuns (mid_runs x frames) (mid_runs y frames)
  replaced_keeps = program_keeps temporaries temporaries x y frames frames (replacing X x y frames) program

  pub replaced_works : WorksAtMost 1 (mid_runs x frames) (mid_runs y frames)
  replaced_works = program_works temporaries temporaries x y frames frames (replacing X x y frames) program
