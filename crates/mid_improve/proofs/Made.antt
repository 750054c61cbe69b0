-- What promotion and improvement keep composes, and their rounds come to an end.
use Rattle.std.proofs.Common.{◌+◌, fold, ◌≡◌, ◌≢◌, sum_by, ℕ, zero, suc, ◌≤◌, ◌<◌, List, [], ◌∷◌, map, sum, length, get_or, slice_get, Option, Some, None, refl, sym, ap, ap₂, ◌∙◌, subst, arith, inl, inr}
use Rattle.std.proofs.lemmas.Bool.{cases_lt}
use Rattle.std.proofs.lemmas.List.{get_or_past}
use Rattle.std.proofs.lemmas.List.Sums.{sum_by-cons}
use Rattle.obj_mem.specs.Runs.{Meaning}
use Rattle.mid_code.specs.Code.{NodesT, FunctionT, CodeT}
use Rattle.mid_code.specs.Runs.{mid_runs}
use Rattle.mid_code.specs.Keeps.{KeepsRuns, WorksAtMost}
use Rattle.mid_code.specs.Invariants.{IsMid, DifferFrom, AreDifferent}
use Rattle.mid_code.specs.Calls.{AddsNone, NoneAdd}
use Rattle.mid_code.specs.Plain.{IsPromoted}
use Rattle.mid_code.specs.Together.{WordsAtOnce}
use Rattle.mid_code.proofs.Keeping.{keeps_through}
use Rattle.mid_code.proofs.Agreeing.{works_through}
use Rattle.mid_scalars.specs.PromotedFrom.{Renumbered, IsPromotedFunction, EachPromoted, local_count, IsPromotedFrom}
use Rattle.mid_improve.specs.Settled.{IsSettled}
use Rattle.mid_improve.specs.ImprovedFrom.{IsImprovedFunction, EachImproved, IsNoWorseFrom, IsImprovedFrom}
use Rattle.mid_improve.specs.MadeFrom.{AllTwo, IsMadeFunction, EachMade, IsMadeFrom, IsSettledFrom}
use Rattle.mid_improve.specs.inner.Counted.{counts}
use Rattle.mid_improve.proofs.Improving.{adds_through, same_run}

fold_from : (n : ℕ) (sizes : List ℕ) → fold ◌+◌ n sizes ≡ n + fold ◌+◌ 0 sizes
fold_from n [] = omega arith
fold_from n (s ∷ sizes) = let a = fold_from (n + s) sizes in let b = fold_from (0 + s) sizes in omega (arith, a, b)

sum_first : (s : ℕ) (sizes : List ℕ) → sum (s ∷ sizes) ≡ s + sum sizes
sum_first s sizes = fold_from (0 + s) sizes ∙ omega arith

-- ---- code as it is

keeps_itself : (m : Meaning) → KeepsRuns m m
keeps_itself m n answers card c = same_run (m n answers card) (m n answers card) refl

works_itself : (m : Meaning) → WorksAtMost 1 m m
works_itself m n answers card c s = omega arith

adds_itself : (a : NodesT ℕ) → AddsNone a a
adds_itself a = record { loop_count = omega arith; calls = λ f c. c }

each_itself : (fs : List (FunctionT ℕ)) → EachMade fs fs
each_itself [] = tt
each_itself (f ∷ fs) = (record { frame_words = omega arith; adds_none = adds_itself f.body; together = λ sizes t w. w }, each_itself fs)

pub made_itself : (x : CodeT ℕ) → IsMid x → IsMadeFrom x x
made_itself x m = record {
  is_mid = m;
  keeps = λ frames. keeps_itself (mid_runs x frames);
  works = λ frames. works_itself (mid_runs x frames);
  weighs = omega arith;
  functions = each_itself x.functions;
  start_adds_none = adds_itself x.start.body;
  globals = refl;
  literals = refl;
  main = refl;
}

-- ---- one after another

function_through : (f g h : FunctionT ℕ) → IsMadeFunction f g → IsMadeFunction g h → IsMadeFunction f h
function_through f g h a b = record {
  frame_words = let x = a.frame_words in let y = b.frame_words in omega (arith, x, y);
  adds_none = adds_through f.body g.body h.body a.adds_none b.adds_none;
  together = λ sizes t w. b.together sizes t (a.together sizes t w);
}

each_through : (fs gs hs : List (FunctionT ℕ)) → EachMade fs gs → EachMade gs hs → EachMade fs hs
each_through [] [] hs a b = b
each_through [] (g ∷ gs) hs a b = absurd a
each_through (f ∷ fs) [] hs a b = absurd a
each_through (f ∷ fs) (g ∷ gs) [] a b = absurd b
each_through (f ∷ fs) (g ∷ gs) (h ∷ hs) a b = (function_through f g h a.0 b.0, each_through fs gs hs a.1 b.1)

pub made_through : (x y z : CodeT ℕ) → IsMadeFrom x y → IsMadeFrom y z → IsMadeFrom x z
made_through x y z a b = record {
  is_mid = b.is_mid;
  keeps = λ frames. keeps_through (mid_runs x frames) (mid_runs y frames) (mid_runs z frames) (a.keeps frames) (b.keeps frames);
  works = λ frames. works_through 1 (mid_runs x frames) (mid_runs y frames) (mid_runs z frames) (a.keeps frames) (a.works frames) (b.works frames);
  weighs = let p = a.weighs in let q = b.weighs in omega (arith, p, q);
  functions = each_through x.functions y.functions z.functions a.functions b.functions;
  start_adds_none = adds_through x.start.body y.start.body z.start.body a.start_adds_none b.start_adds_none;
  globals = b.globals ∙ a.globals;
  literals = b.literals ∙ a.literals;
  main = b.main ∙ a.main;
}

-- ---- promotion: what has two words or more stays a local

abbrev or_zero : Option ℕ → ℕ
or_zero None = 0
or_zero (Some x) = x

got : (xs : List ℕ) (k v : ℕ) → slice_get xs k ≡ Some v → get_or xs k 0 ≡ v
got [] k v e = ap or_zero e
got (x ∷ xs) zero v e = ap or_zero e
got (x ∷ xs) (suc k) v e = got xs k v e

module _ (g h : FunctionT ℕ) (b : IsPromotedFunction g h) where
  inside : (k : ℕ) → 2 ≤ get_or g.locals k 0 → k < length g.locals
  inside k two = elim (cases_lt k (length g.locals)) [
    | inl lt ↦ lt
    | inr le ↦ absurd (omega (arith, two, get_or_past g.locals k 0 le))
  ]

  known : (k : ℕ) → 2 ≤ get_or g.locals k 0 → (j : ℕ) × (b.new k ≡ Some j)
  known k two = go (b.new k) refl
    where
      go : (o : Option ℕ) → b.new k ≡ o → (j : ℕ) × (b.new k ≡ Some j)
      go (Some j) e = (j, e)
      go None e = absurd (omega (arith, two, got g.locals k 1 (b.gone k (inside k two) e).size))

  numbers : (ks : List ℕ) → AllTwo (map (λ k. get_or g.locals k 0) ks) → (js : List ℕ) × Renumbered b.new ks js
  numbers [] t = ([], tt)
  numbers (k ∷ ks) t = let j = known k t.0 in let r = numbers ks t.1 in (j.0 ∷ r.0, (j.1, r.1))

  same_words : (ks js : List ℕ) → Renumbered b.new ks js → map (λ k. get_or g.locals k 0) ks ≡ map (λ j. get_or h.locals j 0) js
  same_words [] [] r = refl
  same_words [] (j ∷ js) r = absurd r
  same_words (k ∷ ks) [] r = absurd r
  same_words (k ∷ ks) (j ∷ js) r = ap₂ (λ x xs. x ∷ xs) (sym (b.words k j r.0)) (same_words ks js r.1)

  differs : (k j : ℕ) (ks js : List ℕ) → b.new k ≡ Some j → DifferFrom k ks → Renumbered b.new ks js → DifferFrom j js
  differs k j [] [] e d r = tt
  differs k j [] (i ∷ js) e d r = absurd r
  differs k j (l ∷ ks) [] e d r = absurd r
  differs k j (l ∷ ks) (i ∷ js) e d r = (λ s. d.0 (b.different k l j e (r.0 ∙ ap Some (sym s))), differs k j ks js e d.1 r.1)

  different : (ks js : List ℕ) → AreDifferent ks → Renumbered b.new ks js → AreDifferent js
  different [] [] d r = tt
  different [] (j ∷ js) d r = absurd r
  different (k ∷ ks) [] d r = absurd r
  different (k ∷ ks) (j ∷ js) d r = (differs k j ks js r.0 d.0 r.1, different ks js d.1 r.1)

  large_stay : (sizes : List ℕ) → AllTwo sizes → WordsAtOnce g sizes → WordsAtOnce h sizes
  large_stay sizes t w =
      let r = numbers w.locals (subst AllTwo w.words t) in
      record {
        locals = r.0;
        different = different w.locals r.0 w.different r.1;
        together = b.together w.locals r.0 r.1 w.together;
        words = w.words ∙ same_words w.locals r.0 r.1;
      }

  promoted_function : AddsNone g.body h.body → IsMadeFunction g h
  promoted_function a = record { frame_words = b.frame_words; adds_none = a; together = large_stay }

each_promoted : (fs gs : List (FunctionT ℕ)) → EachPromoted fs gs → NoneAdd fs gs → EachMade fs gs
each_promoted [] [] p a = tt
each_promoted [] (g ∷ gs) p a = absurd p
each_promoted (f ∷ fs) [] p a = absurd p
each_promoted (f ∷ fs) (g ∷ gs) p a = (promoted_function f g p.0 a.0, each_promoted fs gs p.1 a.1)

pub promoted_made : (x y : CodeT ℕ) → IsPromotedFrom x y → IsMadeFrom x y
promoted_made x y p = record {
  is_mid = p.is_mid;
  keeps = p.keeps;
  works = p.works;
  weighs = p.weighs;
  functions = each_promoted x.functions y.functions p.functions p.adds_none;
  start_adds_none = p.start_adds_none;
  globals = p.globals;
  literals = p.literals;
  main = p.main;
}

-- ---- improvement

improved_function : (f g : FunctionT ℕ) → IsImprovedFunction f g → AddsNone f.body g.body → IsMadeFunction f g
improved_function f g i a = record {
  frame_words = let p = i.temporaries in let q = ap sum i.locals in omega (arith, p, q);
  adds_none = a;
  together = λ sizes t w. record {
    locals = w.locals;
    different = w.different;
    together = i.together w.locals w.together;
    words = w.words ∙ ap (λ locals. map (λ k. get_or locals k 0) w.locals) (sym i.locals);
  };
}

each_improved : (fs gs : List (FunctionT ℕ)) → EachImproved fs gs → NoneAdd fs gs → EachMade fs gs
each_improved [] [] i a = tt
each_improved [] (g ∷ gs) i a = absurd i
each_improved (f ∷ fs) [] i a = absurd i
each_improved (f ∷ fs) (g ∷ gs) i a = (improved_function f g i.0 a.0, each_improved fs gs i.1 a.1)

pub no_worse_made : (x y : CodeT ℕ) → IsNoWorseFrom x y → IsMadeFrom x y
no_worse_made x y p = record {
  is_mid = p.is_mid;
  keeps = p.keeps;
  works = p.works;
  weighs = p.weighs;
  functions = each_improved x.functions y.functions p.functions p.adds_none;
  start_adds_none = p.start_adds_none;
  globals = p.globals;
  literals = p.literals;
  main = p.main;
}

-- ---- how many locals there are

by_counts : (fs : List (FunctionT ℕ)) → sum_by (λ f. length f.locals) fs ≡ sum (map (λ f. length f.locals) fs)
by_counts [] = refl
by_counts (f ∷ fs) = let a = sum_by-cons (λ f. length f.locals) f fs in let b = by_counts fs in let c = sum_first (length f.locals) (map (λ f. length f.locals) fs) in omega (arith, a, b, c)

same_counts : (fs gs : List (FunctionT ℕ)) → EachImproved fs gs → map (λ f. length f.locals) gs ≡ map (λ f. length f.locals) fs
same_counts [] [] i = refl
same_counts [] (g ∷ gs) i = absurd i
same_counts (f ∷ fs) [] i = absurd i
same_counts (f ∷ fs) (g ∷ gs) i = ap₂ (λ n ns. n ∷ ns) (ap length i.0.locals) (same_counts fs gs i.1)

-- code is improved and then promoted: it has fewer locals, or is settled
counts_fall : (x y z : CodeT ℕ) → IsImprovedFrom x y → IsPromotedFrom y z → counts z ≢ counts x → local_count z < local_count x
counts_fall x y z i p differ =
    let same = same_counts x.functions y.functions i.no_worse.functions in
    elim p.fewer_or_same [
      | inl lt ↦ (let a = by_counts x.functions in let b = by_counts y.functions in let c = ap sum same in omega (arith, lt, a, b, c))
      | inr e ↦ absurd (differ (ap (λ w. counts w) e ∙ same))
    ]

ends : (x y z : CodeT ℕ) → IsImprovedFrom x y → IsPromotedFrom y z → counts z ≡ counts x → IsSettled z
ends x y z i p e =
    let same = same_counts x.functions y.functions i.no_worse.functions in
    elim p.fewer_or_same [
      | inl lt ↦ absurd (let a = by_counts z.functions in let b = by_counts y.functions in let c = ap sum (e ∙ sym same) in omega (arith, lt, a, b, c))
      | inr s ↦ subst IsSettled (sym s) i.settled
    ]

-- ---- the loop

-- what the loop keeps: made of what was given, with no plain local, and its locals are counted
abbrev pub Goes : CodeT ℕ → CodeT ℕ → List ℕ → Type 0
Goes x y left = IsMadeFrom x y × IsPromoted y × (left ≡ counts y)

pub begins : (x y : CodeT ℕ) (n : List ℕ) → IsPromotedFrom x y → n ≡ counts y → Goes x y n
begins x y n p e = (promoted_made x y p, p.promoted, e)

pub round : (x y z w : CodeT ℕ) (n m : List ℕ) → Goes x y n → IsImprovedFrom y z → IsPromotedFrom z w → m ≡ counts w → Goes x w m
round x y z w n m g i p e = (made_through x y w g.0 (made_through y z w (no_worse_made y z i.no_worse) (promoted_made z w p)), p.promoted, e)

pub falls : (x y z w : CodeT ℕ) (n m : List ℕ) → Goes x y n → IsImprovedFrom y z → IsPromotedFrom z w → m ≡ counts w → (m ≡ n → ⊥) → local_count w < local_count y
falls x y z w n m g i p e differ = counts_fall y z w i p (λ s. differ (e ∙ s ∙ sym g.2))

pub done : (x y z w : CodeT ℕ) (n m : List ℕ) → Goes x y n → IsImprovedFrom y z → IsPromotedFrom z w → m ≡ counts w → m ≡ n → IsSettledFrom x w
done x y z w n m g i p e s = record { made = (round x y z w n m g i p e).0; promoted = p.promoted; settled = ends y z w i p (sym e ∙ s ∙ g.2) }
