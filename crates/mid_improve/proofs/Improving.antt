-- Rounds of forward propagation and of the sweep, one after another, until the code is settled.
use Rattle.std.proofs.Common.{◌≡◌, ◌↔◌, ℕ, ◌<◌, ◌≤◌, ◌⊎◌, inl, inr, Bool, true, false, List, [], ◌∷◌, refl, sym, ap, ◌∙◌, subst, arith, append-nil}
use Rattle.std.proofs.lemmas.Bool.{false≢true}
use Rattle.obj_mem.specs.Runs.{Ending, Halted, Fault, Starved, Stray, Deep, OutOfBound, Run}
use Rattle.mid_code.specs.Code.{NodesT, FunctionT, CodeT}
use Rattle.mid_code.specs.Invariants.{AllOf}
use Rattle.mid_code.specs.Calls.{AddsNone, NoneAdd}
use Rattle.mid_code.specs.Keeps.{SameRun, KeepsRun}
use Rattle.mid_code.specs.Runs.{mid_runs, weight}
use Rattle.mid_code.proofs.Keeping.{keeps_through}
use Rattle.mid_code.proofs.Agreeing.{works_through}
use Rattle.mid_code.proofs.Skeletons.{same_shape}
use Rattle.mid_fold.specs.FoldedFrom.{IsFoldedFunction, EachFolded, IsFoldedFrom}
use Rattle.mid_improve.specs.Settled.{IsSettledFunction, IsSettled}
use Rattle.mid_improve.specs.ImprovedFrom.{IsImprovedFunction, EachImproved, IsNoWorseFrom, IsImprovedFrom}
use Rattle.mid_improve.specs.inner.ForwardedFrom.{IsForwardedFunction, EachForwarded, IsForwardedFrom}
use Rattle.mid_improve.specs.inner.SweptFrom.{IsSweptFunction, EachSwept, HasWanted, IsSweptAlready, IsSweptFrom}
use Rattle.mid_improve.specs.inner.Rounds.{HasSettledRuns, IsForwarded, IsRoundFrom}

-- ---- one after another

pub adds_through : (a b c : NodesT ℕ) → AddsNone a b → AddsNone b c → AddsNone a c
adds_through a b c p q = record { loop_count = let h = p.loop_count in let k = q.loop_count in omega (arith, h, k); calls = λ f r. p.calls f (q.calls f r) }

none_through : (fs gs hs : List (FunctionT ℕ)) → NoneAdd fs gs → NoneAdd gs hs → NoneAdd fs hs
none_through [] [] [] p q = tt
none_through [] [] (h ∷ hs) p q = absurd q
none_through [] (g ∷ gs) hs p q = absurd p
none_through (f ∷ fs) [] hs p q = absurd p
none_through (f ∷ fs) (g ∷ gs) [] p q = absurd q
none_through (f ∷ fs) (g ∷ gs) (h ∷ hs) p q = (adds_through f.body g.body h.body p.0 q.0, none_through fs gs hs p.1 q.1)

function_through : (f g h : FunctionT ℕ) → IsImprovedFunction f g → IsImprovedFunction g h → IsImprovedFunction f h
function_through f g h p q = record { temporaries = q.temporaries ∙ p.temporaries; params = q.params ∙ p.params; locals = q.locals ∙ p.locals; gives = q.gives ∙ p.gives; stays = q.stays ∙ p.stays; divisions = q.divisions ∙ p.divisions; together = λ ks l. q.together ks (p.together ks l) }

each_through : (fs gs hs : List (FunctionT ℕ)) → EachImproved fs gs → EachImproved gs hs → EachImproved fs hs
each_through [] [] [] p q = tt
each_through [] [] (h ∷ hs) p q = absurd q
each_through [] (g ∷ gs) hs p q = absurd p
each_through (f ∷ fs) [] hs p q = absurd p
each_through (f ∷ fs) (g ∷ gs) [] p q = absurd q
each_through (f ∷ fs) (g ∷ gs) (h ∷ hs) p q = (function_through f g h p.0 q.0, each_through fs gs hs p.1 q.1)

pub no_worse_through : (x y z : CodeT ℕ) → IsNoWorseFrom x y → IsNoWorseFrom y z → IsNoWorseFrom x z
no_worse_through x y z p q = record {
  is_mid = q.is_mid;
  keeps = λ frames. keeps_through (mid_runs x frames) (mid_runs y frames) (mid_runs z frames) (p.keeps frames) (q.keeps frames);
  works = λ frames. works_through 1 (mid_runs x frames) (mid_runs y frames) (mid_runs z frames) (p.keeps frames) (p.works frames) (q.works frames);
  weighs = let h = p.weighs in let k = q.weighs in omega (arith, h, k);
  start = function_through x.start y.start z.start p.start q.start;
  functions = each_through x.functions y.functions z.functions p.functions q.functions;
  adds_none = none_through x.functions y.functions z.functions p.adds_none q.adds_none;
  start_adds_none = adds_through x.start.body y.start.body z.start.body p.start_adds_none q.start_adds_none;
  globals = q.globals ∙ p.globals;
  literals = q.literals ∙ p.literals;
  main = q.main ∙ p.main;
}

-- ---- steps whose runs are the same

same_as_itself : (a : Run) → SameRun a a
same_as_itself a = record { end = refl; events = refl; cells = record { of_globals = λ k i x h. h; of_card = λ i x h. h } }

itself : (e : Ending) (a : Run) → a.end ≡ e → KeepsRun e a a
itself Halted a h = same_as_itself a
itself (Fault n) a h = same_as_itself a
itself Starved a h = same_as_itself a
itself OutOfBound a h = same_as_itself a
itself Deep a h = (h, refl)
itself Stray a h = ([], sym (append-nil a.events))

pub same_run : (a b : Run) → b ≡ a → KeepsRun a.end a b
same_run a b e = subst (KeepsRun a.end a) (sym e) (itself a.end a refl)

function_folded : (f g : FunctionT ℕ) → IsFoldedFunction f g → IsImprovedFunction f g
function_folded f g h = record { temporaries = h.temporaries; params = h.params; locals = h.locals; gives = h.gives; stays = h.stays; divisions = h.divisions; together = (same_shape f.body g.body h.stays).at_once }

each_folded : (fs gs : List (FunctionT ℕ)) → EachFolded fs gs → EachImproved fs gs
each_folded [] [] a = tt
each_folded [] (g ∷ gs) a = absurd a
each_folded (f ∷ fs) [] a = absurd a
each_folded (f ∷ fs) (g ∷ gs) a = (function_folded f g a.0, each_folded fs gs a.1)

pub folded : (x y : CodeT ℕ) → IsFoldedFrom x y → IsNoWorseFrom x y
folded x y h = record {
  is_mid = h.is_mid;
  keeps = λ frames n answers card is. same_run (mid_runs x frames n answers card) (mid_runs y frames n answers card) (h.runs frames n answers card);
  works = λ frames n answers card is strays. (let e = ap (λ r. r.work) (h.runs frames n answers card) in omega (arith, e));
  weighs = let e = h.weighs in omega (arith, e);
  start = function_folded x.start y.start h.start;
  functions = each_folded x.functions y.functions h.functions;
  adds_none = h.adds_none;
  start_adds_none = h.start_adds_none;
  globals = h.globals;
  literals = h.literals;
  main = h.main;
}

function_forwarded : (f g : FunctionT ℕ) → IsForwardedFunction f g → IsImprovedFunction f g
function_forwarded f g h = record { temporaries = h.temporaries; params = h.params; locals = h.locals; gives = h.gives; stays = h.stays; divisions = h.divisions; together = (same_shape f.body g.body h.stays).at_once }

each_forwarded : (fs gs : List (FunctionT ℕ)) → EachForwarded fs gs → EachImproved fs gs
each_forwarded [] [] a = tt
each_forwarded [] (g ∷ gs) a = absurd a
each_forwarded (f ∷ fs) [] a = absurd a
each_forwarded (f ∷ fs) (g ∷ gs) a = (function_forwarded f g a.0, each_forwarded fs gs a.1)

forwarded_runs : (fs gs : List (FunctionT ℕ)) → EachForwarded fs gs → AllOf HasSettledRuns gs
forwarded_runs [] [] a = tt
forwarded_runs [] (g ∷ gs) a = absurd a
forwarded_runs (f ∷ fs) [] a = absurd a
forwarded_runs (f ∷ fs) (g ∷ gs) a = (a.0.settled, forwarded_runs fs gs a.1)

forwards : (x y : CodeT ℕ) → IsForwardedFrom x y → IsForwarded x y
forwards x y h = record {
  no_worse = record {
    is_mid = h.is_mid;
    keeps = λ frames n answers card is. same_run (mid_runs x frames n answers card) (mid_runs y frames n answers card) (h.runs frames n answers card);
    works = λ frames n answers card is strays. (let e = ap (λ r. r.work) (h.runs frames n answers card) in omega (arith, e));
    weighs = let e = h.weighs in omega (arith, e);
    start = function_forwarded x.start y.start h.start;
    functions = each_forwarded x.functions y.functions h.functions;
    adds_none = h.adds_none;
    start_adds_none = h.start_adds_none;
    globals = h.globals;
    literals = h.literals;
    main = h.main;
  };
  start = h.start.settled;
  functions = forwarded_runs x.functions y.functions h.functions;
}

-- ---- the sweep

function_swept : (f g : FunctionT ℕ) → IsSweptFunction f g → IsImprovedFunction f g
function_swept f g h = record { temporaries = h.temporaries; params = h.params; locals = h.locals; gives = h.gives; stays = h.stays; divisions = h.divisions; together = (same_shape f.body g.body h.stays).at_once }

each_swept : (fs gs : List (FunctionT ℕ)) → EachSwept fs gs → EachImproved fs gs
each_swept [] [] a = tt
each_swept [] (g ∷ gs) a = absurd a
each_swept (f ∷ fs) [] a = absurd a
each_swept (f ∷ fs) (g ∷ gs) a = (function_swept f g a.0, each_swept fs gs a.1)

swept_none : (fs gs : List (FunctionT ℕ)) → EachSwept fs gs → NoneAdd fs gs
swept_none [] [] a = tt
swept_none [] (g ∷ gs) a = absurd a
swept_none (f ∷ fs) [] a = absurd a
swept_none (f ∷ fs) (g ∷ gs) a = ((same_shape f.body g.body a.0.stays).adds_none, swept_none fs gs a.1)

no_heavier : (x y : CodeT ℕ) → (weight y < weight x) ⊎ IsSweptAlready x y → weight y ≤ weight x
no_heavier x y (inl l) = omega (arith, l)
no_heavier x y (inr a) = let e = ap weight a.same in omega (arith, e)

swept : (x y : CodeT ℕ) → IsSweptFrom x y → IsNoWorseFrom x y
swept x y h = record {
  is_mid = h.is_mid;
  keeps = h.keeps;
  works = h.works;
  weighs = no_heavier x y h.weighs;
  start = function_swept x.start y.start h.start;
  functions = each_swept x.functions y.functions h.functions;
  adds_none = swept_none x.functions y.functions h.functions;
  start_adds_none = (same_shape x.start.body y.start.body h.start.stays).adds_none;
  globals = h.globals;
  literals = h.literals;
  main = h.main;
}

all_settled : (fs : List (FunctionT ℕ)) → AllOf HasSettledRuns fs → AllOf HasWanted fs → AllOf IsSettledFunction fs
all_settled [] r w = tt
all_settled (f ∷ fs) r w = (record { runs = r.0; targets = w.0 }, all_settled fs r.1 w.1)

settled_already : (x y : CodeT ℕ) → HasSettledRuns x.start → AllOf HasSettledRuns x.functions → IsSweptAlready x y → IsSettled x
settled_already x y r rs a = record { start = record { runs = r; targets = a.start }; functions = all_settled x.functions rs a.functions }

-- ---- rounds

pub fold_and_forward : (x y u z : CodeT ℕ) → IsFoldedFrom x y → IsNoWorseFrom y u → IsForwardedFrom u z → IsForwarded x z
fold_and_forward x y u z a k b =
    let h = forwards u z b in
    record { no_worse = no_worse_through x u z (no_worse_through x y u (folded x y a) k) h.no_worse; start = h.start; functions = h.functions }

pub sweep_and_forward : (x y z : CodeT ℕ) → IsSweptFrom x y → IsForwardedFrom y z → IsRoundFrom x z
sweep_and_forward x y z a b =
    let h = forwards y z b in
    record {
      forwarded = record { no_worse = no_worse_through x y z (swept x y a) h.no_worse; start = h.start; functions = h.functions };
      weighs = λ r rs. go r rs a.weighs;
    }
  where
    go : HasSettledRuns x.start → AllOf HasSettledRuns x.functions → (weight y < weight x) ⊎ IsSweptAlready x y → (weight z < weight x) ⊎ IsSettled x
    go r rs (inl l) = let e = b.weighs in inl (omega (arith, l, e))
    go r rs (inr s) = inr (settled_already x y r rs s)

pub round_after : (x y z : CodeT ℕ) → IsForwarded x y → IsRoundFrom y z → IsForwarded x z
round_after x y z a b = record { no_worse = no_worse_through x y z a.no_worse b.forwarded.no_worse; start = b.forwarded.start; functions = b.forwarded.functions }

-- A round on code that is not settled takes something out.
pub round_falls : (x y z : CodeT ℕ) (b : Bool) → IsForwarded x y → IsRoundFrom y z → (b ≡ true) ↔ IsSettled y → b ≡ false → weight z < weight y
round_falls x y z b a r s n = go (r.weighs a.start a.functions)
  where
    go : (weight z < weight y) ⊎ IsSettled y → weight z < weight y
    go (inl l) = l
    go (inr h) = absurd (false≢true (sym n ∙ s.1 h))

pub improved : (x y : CodeT ℕ) (b : Bool) → IsForwarded x y → (b ≡ true) ↔ IsSettled y → b ≡ true → IsImprovedFrom x y
improved x y b a s e = record { no_worse = a.no_worse; settled = s.0 e }
