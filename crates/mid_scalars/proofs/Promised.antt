-- What `promote` promises holds of the promoted program.
use Rattle.std.proofs.Common.{◌≡◌, ℕ, suc, ◌+◌, ◌-◌, ◌<◌, ◌≤◌, Bool, true, false, cond, eqb, ltb, List, [], ◌∷◌, map, length, get_or, Option, Some, None, refl, sym, ap, ◌∙◌, subst, arith}
use Rattle.mid_code.specs.Code.{NodesT, FunctionT, CodeT}
use Rattle.mid_code.specs.States.{function_at, no_function}
use Rattle.mid_code.specs.Invariants.{AllOf, IsFunction, IsTemporary, IsMid}
use Rattle.mid_code.specs.Open.{LiveAtOnce}
use Rattle.mid_code.specs.Plain.{IsPlain}
use Rattle.mid_scalars.specs.inner.Plan.{promoted_nodes}
use Rattle.mid_scalars.specs.inner.Table.{flags, trues, kept, falses_before, kind_in, trues_before, plan_of, promoted_function, promoted_functions, promoted}
use Rattle.std.specs.Option.{option_map_or}
use Rattle.std.specs.List.{list_any}
use Rattle.std.proofs.lemmas.Bool.{lt-ltb}
use Rattle.mid_scalars.specs.declared.table.Table.{Table}
use Rattle.mid_scalars.specs.inner.Rewriting.{addressed, plan_by}
use Rattle.mid_scalars.specs.inner.Tabled.{falses, IsTableOf}
use Rattle.mid_scalars.specs.inner.Alone.{alone, promoted_alone, ArePromotable}
use Rattle.mid_scalars.specs.PromotedFrom.{Renumbered, IsPromotedFunction, EachPromoted, IsPromotedFrom}
use Rattle.mid_scalars.proofs.Planned.{flag_plain, kept_in, kept_at, moved_one}
use Rattle.mid_scalars.proofs.Plainly.{AllFalse, no_flags, same_flags, found_plain, promote_same, promote_counts}
use Rattle.mid_scalars.proofs.Promotes.{promote_keeps, promote_works, promote_lighter}
use Rattle.mid_scalars.proofs.NonePlain.{promote_leaves_none, promote_words, promote_fewer_or_same}
use Rattle.mid_scalars.proofs.MidAgain.{promote_adds_none, promote_mid}
use Rattle.mid_scalars.proofs.LiveAfter.{promote_live, AllStay}
use Rattle.mid_scalars.proofs.Rewritten.{SamePlans, code_same}
use Rattle.mid_scalars.proofs.Tabled.{flags_long, numbers_length, falses_few, trues_and_falses, body_is}

-- ---- functions by themselves, and in their program

alone_plans : (x : CodeT ℕ) (g : ℕ) (f : FunctionT ℕ) → function_at x g ≡ f → SamePlans (plan_of (alone f)) (Some 0) (plan_of x) (Some g)
alone_plans x g f e =
    let z = sym e in
    record {
      promoted = λ k. (λ i. get_or (flags (z i)) k false);
      moved = λ k no. (λ i. falses_before (flags (z i)) k);
      variable = λ p. (λ i. option_map_or (λ k. Some ((z i).temps + trues_before (flags (z i)) k)) (addressed (kind_in (z i) p)) None);
    }

abbrev by_body : FunctionT ℕ → NodesT ℕ → FunctionT ℕ
by_body f b = record { temps = f.temps + trues (flags f); params = f.params; locals = kept (flags f) f.locals; gives = f.gives; body = b }

alone_is : (x : CodeT ℕ) (g : ℕ) (f : FunctionT ℕ) → function_at x g ≡ f → promoted_alone f ≡ promoted_function (plan_of x) (Some g) f
alone_is x g f e = ap (by_body f) (code_same (plan_of (alone f)) (Some 0) (plan_of x) (Some g) (alone_plans x g f e) f.body)

all_alone : (x : CodeT ℕ) (n : ℕ) (fs : List (FunctionT ℕ)) → ((i : ℕ) → i < length fs → function_at x (n + i) ≡ get_or fs i no_function) → map promoted_alone fs ≡ promoted_functions (plan_of x) n fs
all_alone x n [] h = refl
all_alone x n (f ∷ fs) h =
    let a = alone_is x n f (ap (function_at x) (omega arith) ∙ h 0 (omega arith)) in
    let b = all_alone x (suc n) fs (λ i lt. ap (function_at x) (omega arith) ∙ h (suc i) (omega (arith, lt))) in
    λ i. a i ∷ b i

pub functions_are : (x : CodeT ℕ) (fs gs : List (FunctionT ℕ)) → fs ≡ x.functions → gs ≡ map promoted_alone fs → gs ≡ promoted_functions (plan_of x) 0 x.functions
functions_are x fs gs e g = g ∙ ap (map promoted_alone) e ∙ all_alone x 0 x.functions (λ i lt. ap (λ n. get_or x.functions n no_function) (omega arith))

-- a function made by its table
pub function_is : (f : FunctionT ℕ) (t : Table) (n : ℕ) (ps ls : List ℕ) (b : NodesT ℕ) → IsTableOf f t → n ≡ f.temps + (length t.plain.items - t.kept) → ps ≡ f.params → ls ≡ kept t.plain.items f.locals → b ≡ promoted_nodes (plan_by t) None f.body
    → record { temps = n; params = ps; locals = ls; gives = f.gives; body = b } ≡ promoted_alone f
function_is f t n ps ls b is e g h j =
    let long = ap length is.plain in
    let all = trues_and_falses (flags f) in
    let kept_is = is.kept in
    let temps : n ≡ f.temps + trues (flags f) = omega (arith, e, long, all, kept_is) in
    let locals : ls ≡ kept (flags f) f.locals = h ∙ ap (λ bs. kept bs f.locals) is.plain in
    let body = j ∙ body_is f t is (alone f) 0 refl f.body in
    λ i. record { temps = temps i; params = g i; locals = locals i; gives = f.gives; body = body i }

pub table_fits : (f : FunctionT ℕ) (t : Table) → IsTableOf f t → t.kept ≤ length t.numbers.items
table_fits f t is = let a = falses_few (flags f) in let b = ap length is.numbers in let c = numbers_length f.temps 0 (flags f) in let d = is.kept in omega (arith, a, b, c, d)

pub table_long : (f : FunctionT ℕ) (t : Table) → IsTableOf f t → length t.plain.items ≡ length f.locals
table_long f t is = flags_long f t.plain.items is.plain

pub table_least : (f : FunctionT ℕ) (t : Table) → IsTableOf f t → t.kept ≤ length t.plain.items
table_least f t is = let a = falses_few (flags f) in let b = ap length is.plain in let d = is.kept in omega (arith, a, b, d)

-- ---- a function without plain locals

pub stays_alone : (f : FunctionT ℕ) → AllFalse (flags f) → f ≡ promoted_alone f
stays_alone f h = sym (same_flags (alone f) 0 h)

pub no_single_stays : (f : FunctionT ℕ) → list_any (λ n. eqb n 1) f.locals ≡ false → f ≡ promoted_alone f
no_single_stays f e = stays_alone f (no_flags f e)

all_false : (bs : List Bool) → falses bs ≡ length bs → AllFalse bs
all_false [] e = tt
all_false (true ∷ bs) e = absurd (let h = falses_few bs in omega (arith, h, e))
all_false (false ∷ bs) e = (refl, all_false bs (omega (arith, e)))

pub all_kept_stays : (f : FunctionT ℕ) (t : Table) → IsTableOf f t → length t.plain.items - t.kept ≡ 0 → f ≡ promoted_alone f
all_kept_stays f t is e =
    let long = ap length is.plain in
    let kept_is = is.kept in
    let few = falses_few (flags f) in
    stays_alone f (all_false (flags f) (omega (arith, e, long, kept_is, few)))

-- ---- what is asked of functions

promotable : (x : CodeT ℕ) (fs : List (FunctionT ℕ)) → AllOf (IsFunction IsTemporary x) fs → ArePromotable fs
promotable x [] h = tt
promotable x (f ∷ fs) h = (record { names = h.0.names; count = h.0.count }, promotable x fs h.1)

pub mid_promotable : (x : CodeT ℕ) → IsMid x → ArePromotable x.functions
mid_promotable x m = promotable x x.functions m.functions

-- ---- locals by their new numbers

abbrev new_of : FunctionT ℕ → ℕ → Option ℕ
new_of f k = cond (ltb k (length f.locals)) (cond (get_or (flags f) k false) None (Some (falses_before (flags f) k))) None

none_some : (j : ℕ) → None ≡ Some j → ⊥
none_some j e = cc

some_same : (a b : ℕ) → Some a ≡ Some b → a ≡ b
some_same a b e = cc

some_none : (j : ℕ) → Some j ≡ None → ⊥
some_none j e = cc

abbrev Moved : FunctionT ℕ → (k j : ℕ) → Type 0
Moved f k j = (k < length f.locals) × (get_or (flags f) k false ≡ false) × (falses_before (flags f) k ≡ j)

moved_case : (f : FunctionT ℕ) (k j : ℕ) → new_of f k ≡ Some j → Moved f k j
moved_case f k j e = go (ltb k (length f.locals)) refl (get_or (flags f) k false) refl e
  where
    go : (b : Bool) → ltb k (length f.locals) ≡ b → (c : Bool) → get_or (flags f) k false ≡ c → cond b (cond c None (Some (falses_before (flags f) k))) None ≡ Some j → Moved f k j
    go true g true h z = absurd (none_some j z)
    go true g false h z = (grind (arith, g), h, some_same (falses_before (flags f) k) j z)
    go false g c h z = absurd (none_some j z)

gone_case : (f : FunctionT ℕ) (k : ℕ) → k < length f.locals → new_of f k ≡ None → IsPlain f k
gone_case f k lt e = go (get_or (flags f) k false) refl
  where
    go : (c : Bool) → get_or (flags f) k false ≡ c → IsPlain f k
    go true h = found_plain f k (flag_plain f k h)
    go false h = absurd (some_none (falses_before (flags f) k) (sym (ap (λ b. cond b (cond (get_or (flags f) k false) None (Some (falses_before (flags f) k))) None) (lt-ltb k (length f.locals) lt) ∙ ap (λ c. cond c None (Some (falses_before (flags f) k))) h) ∙ e))

renumbered_is : (f : FunctionT ℕ) (ks js : List ℕ) → Renumbered (new_of f) ks js → js ≡ map (falses_before (flags f)) ks
renumbered_is f [] [] r = refl
renumbered_is f [] (j ∷ js) r = absurd r
renumbered_is f (k ∷ ks) [] r = absurd r
renumbered_is f (k ∷ ks) (j ∷ js) r = let a = (moved_case f k j r.0).2 in let b = renumbered_is f ks js r.1 in λ i. sym a i ∷ b i

module _ (x : CodeT ℕ) (g : ℕ) where
  abbrev f : FunctionT ℕ
  f = function_at x g

  all_stay : (ks js : List ℕ) → Renumbered (new_of f) ks js → AllStay (plan_of x) (Some g) ks
  all_stay [] [] r = tt
  all_stay [] (j ∷ js) r = absurd r
  all_stay (k ∷ ks) [] r = absurd r
  all_stay (k ∷ ks) (j ∷ js) r = ((moved_case f k j r.0).1, all_stay ks js r.1)

  pub promoted_is : IsPromotedFunction (function_at x g) (promoted_function (plan_of x) (Some g) (function_at x g))
  promoted_is = record {
    new = new_of f;
    gone = gone_case f;
    temporaries = let a = promote_counts (plan_of x) (Some g) f in omega (arith, a);
    frame_words = promote_words (plan_of x) (Some g) f;
    there = λ k j e. (let m = moved_case f k j e in (m.0, subst (λ n. n < length (kept (flags f) f.locals)) m.2 (kept_in (flags f) f.locals k m.0 m.1)));
    different = λ k l j e h. (let m = moved_case f k j e in let n = moved_case f l j h in moved_one (flags f) k l m.1 n.1 (m.2 ∙ sym n.2));
    words = λ k j e. (let m = moved_case f k j e in ap (λ n. get_or (kept (flags f) f.locals) n 0) (sym m.2) ∙ kept_at (flags f) f.locals k m.0 m.1);
    together = λ ks js r l. subst (LiveAtOnce (promoted_function (plan_of x) (Some g) (function_at x g)).body) (sym (renumbered_is f ks js r)) (promote_live x g ks (all_stay ks js r) l);
  }

each_promoted : (x : CodeT ℕ) (n : ℕ) (fs : List (FunctionT ℕ)) → ((i : ℕ) → i < length fs → function_at x (n + i) ≡ get_or fs i no_function) → EachPromoted fs (promoted_functions (plan_of x) n fs)
each_promoted x n [] h = tt
each_promoted x n (f ∷ fs) h =
    let e : function_at x n ≡ f = ap (function_at x) (omega arith) ∙ h 0 (omega arith) in
    (subst (λ k. IsPromotedFunction k (promoted_function (plan_of x) (Some n) k)) e (promoted_is x n), each_promoted x (suc n) fs (λ i lt. ap (function_at x) (omega arith) ∙ h (suc i) (omega (arith, lt))))

-- ---- the program

pub is_promoted_from : (x : CodeT ℕ) → IsMid x → IsPromotedFrom x (promoted x)
is_promoted_from x m = record {
  is_mid = promote_mid x m;
  promoted = promote_leaves_none x m;
  keeps = λ frames. promote_keeps x m frames;
  works = λ frames. promote_works x m frames;
  weighs = promote_lighter x;
  functions = each_promoted x 0 x.functions (λ i lt. ap (λ n. get_or x.functions n no_function) (omega arith));
  adds_none = promote_adds_none x;
  start_adds_none = record { loop_count = omega arith; calls = λ f c. c };
  stays = promote_same x;
  fewer_or_same = promote_fewer_or_same x;
  globals = refl;
  literals = refl;
  main = refl;
}

-- the program with its functions promoted by themselves
pub program_is : (x y : CodeT ℕ) (gs : List (FunctionT ℕ)) → y ≡ x → gs ≡ map promoted_alone y.functions → record y { functions = gs } ≡ promoted x
program_is x y gs e g =
    let h = functions_are x y.functions gs (ap (λ z. z.functions) e) g in
    λ i. record (e i) { functions = h i }
