-- What lives at once in a function of the source lives at once in its code.
use Rattle.std.proofs.Common.{◌≡◌, ◌≢◌, ℕ, ◌+◌, ◌<◌, ◌≤◌, leb, ◌==◌, ◌||◌, arith, Bool, true, false, List, [], ◌∷◌, ◌++◌, length, map, inl, get_or, refl, sym, ap₂, ◌∙◌, true≢false, eq-eqb, leb-true, leb-false}
use Rattle.std.proofs.lemmas.List.{get_or_append_left, get_or_past}
use Rattle.c_types.specs.Types.{Ty}
use Rattle.c_types.specs.Programs.{TFunctionT}
use Rattle.c_types.specs.Kinds.{is_structure}
use Rattle.c_meaning.specs.Frames.{ReachesAll, is_among, AllAmong, AreLarge, AreDistinct, LargeAtOnce}
use Rattle.mid_code.specs.Code.{Stop}
use Rattle.mid_code.specs.Paths.{Blocked, Point, at, beginning}
use Rattle.mid_code.specs.Invariants.{DifferFrom, AreDifferent}
use Rattle.mid_code.specs.Together.{WordsAtOnce}
use Rattle.lower_trees.specs.Shape.{Shape, words}
use Rattle.lower_trees.specs.Pieces.{Nodes, coded}
use Rattle.lower_trees.specs.Parts.{first_param}
use Rattle.lower_trees.specs.Statements.{ToEnd}
use Rattle.lower_trees.specs.Lowered.{received, all_received, first_of, low_body, low_function}
use Rattle.lower_trees.specs.Counts.{stmts_sizes}
use Rattle.mid_lower.proofs.TogetherPaths.{Frames, Leads, here, doing, into_block, Expected, Reaching, led, all_made}
use Rattle.mid_lower.proofs.TogetherExpressions.{copied_on_leads, either_leads}
use Rattle.mid_lower.proofs.TogetherPoints.{stmts_reaches}

-- ---- one path through the code that makes them all

received_leads : (h : Shape) (ty : Ty) (k a : ℕ) (c : Nodes) (fs : Frames) (q : Point ℕ) → Leads (at fs c) q → Leads (at fs (coded (received h ty k a) c)) q
received_leads h ty k a c fs q l = either_leads (is_structure ty) _ _ fs q (doing tt (copied_on_leads (words h ty) a c fs q l)) (doing tt (doing tt l))

all_received_leads : (h : Shape) (tys : List Ty) (k a : ℕ) (c : Nodes) (fs : Frames) (q : Point ℕ) → Leads (at fs c) q → Leads (at fs (coded (all_received h tys k a) c)) q
all_received_leads h [] k a c fs q l = l
all_received_leads h (ty ∷ tys) k a c fs q l = received_leads h ty k a _ fs q (all_received_leads h tys (k + 1) (a + 1) c fs q l)

body_reaches : (h : Shape) (f : TFunctionT) (ks : List ℕ) → ReachesAll f.body ks → Reaching (f.made ++ ks) (beginning (coded (low_body h f) Stop))
body_reaches h f ks r =
    all_made f.made ks [] _ (led ks _ _ (all_received_leads h f.params 0 first_param _ [] _ (into_block (here _)))
    (stmts_reaches h f.gives f.body ks (first_of f.params) (length f.locals) 0 (ToEnd 0) Stop (Blocked Stop ∷ []) r))

all_expected : (js ks : List ℕ) → AllAmong js ks → Expected js ks []
all_expected [] ks all = tt
all_expected (j ∷ js) ks all = (inl all.0, all_expected js ks all.1)

-- ---- they are different, and have the same words

neither : (a b : Bool) → (a || b) ≡ false → (a ≡ false) × (b ≡ false)
neither true b e = absurd (true≢false e)
neither false b e = (refl, e)

other_number : (j k : ℕ) → (j == k) ≡ false → j ≢ k
other_number j k e s = true≢false (sym (eq-eqb j k s) ∙ e)

differ_from : (j : ℕ) (js : List ℕ) → is_among j js ≡ false → DifferFrom j js
differ_from j [] e = tt
differ_from j (k ∷ js) e = let parts = neither (j == k) (is_among j js) e in (other_number j k parts.0, differ_from j js parts.1)

all_different : (js : List ℕ) → AreDistinct js → AreDifferent js
all_different [] d = tt
all_different (j ∷ js) d = (differ_from j js d.0, all_different js d.1)

-- an object of words is one of the function
is_object : (locals : List ℕ) (j : ℕ) → 2 ≤ get_or locals j 0 → j < length locals
is_object locals j two = by (leb (length locals) j) refl
  where
    by : (b : Bool) → leb (length locals) j ≡ b → j < length locals
    by true e = let past = get_or_past locals j 0 (leb-true (length locals) j e) in absurd (omega (arith, two, past))
    by false e = leb-false (length locals) j e

same_words : (f : TFunctionT) (extra js : List ℕ) → AreLarge f js → map (λ j. get_or f.locals j 0) js ≡ map (λ j. get_or (f.locals ++ extra) j 0) js
same_words f extra [] large = refl
same_words f extra (j ∷ js) large = ap₂ (λ n ns. n ∷ ns) (sym (get_or_append_left f.locals extra 0 j (is_object f.locals j large.0))) (same_words f extra js large.1)

-- Arrays, structures and unions that live at once in a function are locals that live at once in its code.
pub lives_together : (h : Shape) (f : TFunctionT) (sizes : List ℕ) → LargeAtOnce f sizes → WordsAtOnce (low_function h f) sizes
lives_together h f sizes large =
    let reached = body_reaches h f large.together.0 large.together.1 in
    record {
      locals = large.objects;
      different = all_different large.objects large.distinct;
      together = reached large.objects [] (all_expected large.objects (f.made ++ large.together.0) large.together.2);
      words = large.words ∙ same_words f (stmts_sizes h f.body) large.objects large.large;
    }
