-- Functions and programs by choices are mid code, and no heavier.
use Rattle.std.proofs.Common.{◌≡◌, ℕ, zero, suc, ◌+◌, ◌<◌, ◌≤◌, inl, inr, Bool, true, false, List, [], ◌∷◌, length, get_or, slice_get, option_map, Some, refl, sym, ap, ◌∙◌, subst, arith}
use Rattle.std.specs.List.{fold}
use Rattle.mid_code.specs.Code.{OpT, ConstO, NullO, MoveO, OneO, TwoO, GlobalO, LocalO, LiteralO, CardO, StepO, ApartO, PtrTestO, LoadO, StoreO, FreshO, EndO, InO, OutO, WaitO, HaltO, NodesT, Stop, Do, Call, Choose, Block, Loop, Leave, Again, Return, FunctionT, CodeT}
use Rattle.mid_code.specs.Functions.{joined, listed}
use Rattle.mid_code.specs.Invariants.{IsOp, IsCall, parameter_count, AreNodes, AllOf, Names, IsFunction, IsStart, IsTemporary, IsMid}
use Rattle.mid_code.specs.Calls.{nesting, AddsNone}
use Rattle.mid_code.specs.Runs.{mid_runs, nodes_weight, function_weight, weight}
use Rattle.mid_code.specs.Keeps.{KeepsRuns, WorksAtMost}
use Rattle.mid_code.specs.Open.{LiveAtOnce}
use Rattle.mid_replace.specs.ReplacedFrom.{IsReplacedFunction, EachReplaced, IsReplacedFrom}
use Rattle.mid_replace.specs.inner.Chosen.{held_words, words_before, plan_by, IsByChoice, IsReplacedBy, AllReplacedBy}
use Rattle.mid_replace.proofs.Planning.{words_within}
use Rattle.mid_replace.proofs.Pairs.{old, new, adds_none, nests, lighter, nodes_ok, names_ok, all_more, at_once}
use Rattle.mid_replace.proofs.Paired.{Paired, list_paired}

-- ---- a function by a choice

module _ (f g : FunctionT ℕ) (by : IsByChoice f g) where
  abbrev pub total : ℕ
  total = f.temps + held_words by.choice.held f.locals

  pub fits : (k w : ℕ) → get_or by.choice.held k false ≡ true → w < get_or f.locals k 0 → f.temps + (words_before by.choice.held f.locals k + w) < total
  fits k w e l = let a = words_within by.choice.held f.locals k e in omega (arith, a, l)

  pub paired : Paired (plan_by f by.choice) total fits (joined by.before) by.after
  paired = list_paired (plan_by f by.choice) total fits [] by.before by.after by.done

  old_is : old paired.pair ≡ f.body
  old_is = paired.is_old ∙ sym by.body

  new_is : new paired.pair ≡ g.body
  new_is = paired.is_new ∙ sym (ap (λ z. z.body) by.is)

  pub choice_weighs : nodes_weight g.body ≤ nodes_weight f.body
  choice_weighs = let a = lighter paired.pair in let b = ap nodes_weight old_is in let c = ap nodes_weight new_is in omega (arith, a, b, c)

  pub choice_replaced : IsReplacedFunction f g
  choice_replaced = record {
    locals = ap (λ z. z.locals) by.is;
    temporaries = let a = ap (λ z. z.temps) by.is in let b = by.words in omega (arith, a, b);
    at_once = λ ks l. subst (λ c. LiveAtOnce c ks) new_is (at_once total ks paired.pair (subst (λ c. LiveAtOnce c ks) (sym old_is) l));
    adds_none = subst (λ c. AddsNone f.body c) new_is (subst (λ c. AddsNone c (new paired.pair)) old_is (adds_none paired.pair));
    nests = ap nesting (sym new_is) ∙ nests paired.pair ∙ ap nesting old_is;
  }

  pub choice_params : g.params ≡ f.params
  choice_params = ap (λ z. z.params) by.is

  module _ (x y : CodeT ℕ) (ops : (m : ℕ) (o : OpT ℕ) → IsOp x m o → IsOp y m o) (calls : (g : ℕ) (args : List ℕ) → IsCall x g args → IsCall y g args) where
    made : IsFunction IsTemporary x f → IsFunction IsTemporary y (record { temps = total; params = f.params; locals = f.locals; gives = f.gives; body = joined (listed by.after) })
    made ok = record {
      nodes = subst (AreNodes y (length f.locals) []) paired.is_new (nodes_ok x y (length f.locals) (ops (length f.locals)) calls [] paired.pair (subst (AreNodes x (length f.locals) []) (sym old_is) ok.nodes));
      names = subst (Names (λ t. t < total)) paired.is_new (names_ok f.temps (omega arith) paired.pair (subst (Names (λ t. t < f.temps)) (sym old_is) ok.names));
      params_named = all_more f.temps (omega arith) f.params ok.params_named;
      params_differ = ok.params_differ;
      count = by.count;
      sizes = ok.sizes;
      words = ok.words;
    }

    pub choice_function : IsFunction IsTemporary x f → IsFunction IsTemporary y g
    choice_function ok = subst (IsFunction IsTemporary y) (sym by.is) (made ok)

-- ---- a function that stays

pub stays_replaced : (f : FunctionT ℕ) → IsReplacedFunction f f
stays_replaced f = record { locals = refl; temporaries = omega arith; at_once = λ ks l. l; adds_none = record { loop_count = omega arith; calls = λ g c. c }; nests = refl }

module _ (x y : CodeT ℕ) (ops : (m : ℕ) (o : OpT ℕ) → IsOp x m o → IsOp y m o) (calls : (g : ℕ) (args : List ℕ) → IsCall x g args → IsCall y g args) where
  nodes_stay : (m : ℕ) (ls : List Bool) (c : NodesT ℕ) → AreNodes x m ls c → AreNodes y m ls c
  nodes_stay m ls Stop n = tt
  nodes_stay m ls (Do o c) n = (ops m o n.0, nodes_stay m ls c n.1)
  nodes_stay m ls (Call t g args c) n = (calls g args n.0, nodes_stay m ls c n.1)
  nodes_stay m ls (Choose p a b c) n = (nodes_stay m ls a n.0, nodes_stay m ls b n.1, nodes_stay m ls c n.2)
  nodes_stay m ls (Block b c) n = (nodes_stay m (false ∷ ls) b n.0, nodes_stay m ls c n.1)
  nodes_stay m ls (Loop b c) n = (nodes_stay m (true ∷ ls) b n.0, nodes_stay m ls c n.1)
  nodes_stay m ls (Leave k c) n = (n.0, nodes_stay m ls c n.1)
  nodes_stay m ls (Again k c) n = (n.0, nodes_stay m ls c n.1)
  nodes_stay m ls (Return p c) n = nodes_stay m ls c n

  stays_function : (f : FunctionT ℕ) → IsFunction IsTemporary x f → IsFunction IsTemporary y f
  stays_function f ok = record {
    nodes = nodes_stay (length f.locals) [] f.body ok.nodes;
    names = ok.names;
    params_named = ok.params_named;
    params_differ = ok.params_differ;
    count = ok.count;
    sizes = ok.sizes;
    words = ok.words;
  }

  stays_start : (f : FunctionT ℕ) → IsStart IsTemporary x f → IsStart IsTemporary y f
  stays_start f ok = record { function = stays_function f ok.function; params = ok.params; locals = ok.locals; gives = ok.gives; calls = ok.calls }

  either_function : (f g : FunctionT ℕ) → IsReplacedBy f g → IsFunction IsTemporary x f → IsFunction IsTemporary y g
  either_function f g r ok = elim r [ inl by ↦ choice_function f g by x y ops calls ok | inr e ↦ subst (IsFunction IsTemporary y) (sym e) (stays_function f ok) ]

  all_functions : (fs gs : List (FunctionT ℕ)) → AllReplacedBy fs gs → AllOf (IsFunction IsTemporary x) fs → AllOf (IsFunction IsTemporary y) gs
  all_functions [] [] r ok = tt
  all_functions [] (g ∷ gs) r ok = absurd r
  all_functions (f ∷ fs) [] r ok = absurd r
  all_functions (f ∷ fs) (g ∷ gs) r ok = (either_function f g r.0 ok.0, all_functions fs gs r.1 ok.1)

-- ---- all functions

either_replaced : (f g : FunctionT ℕ) → IsReplacedBy f g → IsReplacedFunction f g
either_replaced f g r = elim r [ inl by ↦ choice_replaced f g by | inr e ↦ subst (IsReplacedFunction f) (sym e) (stays_replaced f) ]

each_replaced : (fs gs : List (FunctionT ℕ)) → AllReplacedBy fs gs → EachReplaced fs gs
each_replaced [] [] r = tt
each_replaced [] (g ∷ gs) r = absurd r
each_replaced (f ∷ fs) [] r = absurd r
each_replaced (f ∷ fs) (g ∷ gs) r = (either_replaced f g r.0, each_replaced fs gs r.1)

either_weighs : (f g : FunctionT ℕ) → IsReplacedBy f g → function_weight g ≤ function_weight f
either_weighs f g r = elim r [ inl by ↦ (let a = choice_weighs f g by in omega (arith, a)) | inr e ↦ (let a = ap function_weight e in omega (arith, a)) ]

fold_more : (a b : ℕ) (fs gs : List (FunctionT ℕ)) → AllReplacedBy fs gs → b ≤ a → fold (λ n h. n + function_weight h) b gs ≤ fold (λ n h. n + function_weight h) a fs
fold_more a b [] [] r le = le
fold_more a b [] (g ∷ gs) r le = absurd r
fold_more a b (f ∷ fs) [] r le = absurd r
fold_more a b (f ∷ fs) (g ∷ gs) r le = fold_more (a + function_weight f) (b + function_weight g) fs gs r.1 (let h = either_weighs f g r.0 in omega (arith, h, le))

either_params : (f g : FunctionT ℕ) → IsReplacedBy f g → length g.params ≡ length f.params
either_params f g r = elim r [ inl by ↦ ap length (choice_params f g by) | inr e ↦ ap (λ z. length z.params) e ]

counts_same : (fs gs : List (FunctionT ℕ)) → AllReplacedBy fs gs → (k : ℕ) → option_map (λ h. length h.params) (slice_get gs k) ≡ option_map (λ h. length h.params) (slice_get fs k)
counts_same [] [] r k = refl
counts_same [] (g ∷ gs) r k = absurd r
counts_same (f ∷ fs) [] r k = absurd r
counts_same (f ∷ fs) (g ∷ gs) r zero = ap Some (either_params f g r.0)
counts_same (f ∷ fs) (g ∷ gs) r (suc k) = counts_same fs gs r.1 k

-- ---- the program

module _ (x y : CodeT ℕ) (mid : IsMid x) (start : y.start ≡ x.start) (globals : y.globals ≡ x.globals) (literals : y.literals ≡ x.literals) (main : y.main ≡ x.main)
    (all : AllReplacedBy x.functions y.functions) where
  ops_stay : (m : ℕ) (o : OpT ℕ) → IsOp x m o → IsOp y m o
  ops_stay m (GlobalO t k) i = subst (λ gs. k < length gs) (sym globals) i
  ops_stay m (LiteralO t k) i = subst (λ ls. k < length ls) (sym literals) i
  ops_stay m (ConstO t n) i = i
  ops_stay m (NullO t) i = i
  ops_stay m (MoveO t a) i = i
  ops_stay m (OneO o t a) i = i
  ops_stay m (TwoO o t a b) i = i
  ops_stay m (LocalO t k) i = i
  ops_stay m (CardO t) i = i
  ops_stay m (StepO t p n) i = i
  ops_stay m (ApartO t p q) i = i
  ops_stay m (PtrTestO o t p q) i = i
  ops_stay m (LoadO t p) i = i
  ops_stay m (StoreO p a) i = i
  ops_stay m (FreshO k) i = i
  ops_stay m (EndO k) i = i
  ops_stay m (InO t port) i = i
  ops_stay m (OutO port a) i = i
  ops_stay m WaitO i = i
  ops_stay m HaltO i = i

  calls_stay : (g : ℕ) (args : List ℕ) → IsCall x g args → IsCall y g args
  calls_stay g args c = counts_same x.functions y.functions all g ∙ c

  pub replaced_mid : IsMid y
  replaced_mid = record {
    start = subst (IsStart IsTemporary y) (sym start) (stays_start x y ops_stay calls_stay x.start mid.start);
    functions = all_functions x y ops_stay calls_stay x.functions y.functions all mid.functions;
    globals = subst (λ gs. fold (λ a n. a + n) 0 gs ≤ 3145728) (sym globals) mid.globals;
    main = ap (parameter_count y) main ∙ counts_same x.functions y.functions all x.main ∙ mid.main;
  }

  replaced_weighs : weight y ≤ weight x
  replaced_weighs =
      let a = fold_more 0 0 x.functions y.functions all (omega arith) in
      let b = ap (λ z. nodes_weight z.body) start in
      omega (arith, a, b)

  pub static_laws : ((frames : List ℕ) → KeepsRuns (mid_runs x frames) (mid_runs y frames)) → ((frames : List ℕ) → WorksAtMost 1 (mid_runs x frames) (mid_runs y frames)) → IsReplacedFrom x y
  static_laws keeps works = record {
    is_mid = replaced_mid;
    keeps = keeps;
    works = works;
    weighs = replaced_weighs;
    functions = each_replaced x.functions y.functions all;
    start = start;
    globals = globals;
    literals = literals;
    main = main;
  }
