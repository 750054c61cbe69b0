-- The lowered code of a program is mid code.
use Rattle.std.proofs.Common.{◌≡◌, ℕ, zero, suc, ◌+◌, ◌*◌, ◌<◌, ◌≤◌, ◌^◌, Bool, true, false, not, ◌&&◌, nat_le, List, [], ◌∷◌, ◌++◌, length, length-append, map, sum, sum_by, slice_get, Option, Some, None, option_map, Ok, refl, sym, ap, ◌∙◌, subst, arith, if◌then◌else◌}
use Rattle.std.specs.Option.{option_map_or}
use Rattle.std.specs.List.{list_all}
use Rattle.std.proofs.lemmas.Bool.Decides.{nat_tests}
use Rattle.std.proofs.lemmas.Option.{slice_get-map}
use Rattle.std.proofs.lemmas.List.Sums.{sum-map, sum_by-cons, sum_by-append}
use Rattle.c_types.specs.Types.{Ty, VoidY, IntY, BoolY, EnumY, StructY, UnionY, PointerY, ArrayY, LayoutT}
use Rattle.c_types.specs.Typed.{TStmtT, BlockZ, EmptyZ, VarsZ, DoZ, IfZ, WhileZ, DoWhileZ, ForZ, SwitchZ, ReturnZ, BreakZ, ContinueZ}
use Rattle.c_types.specs.Programs.{TFunctionT, ProgramT}
use Rattle.c_types.specs.Nodes.{function_nodes, program_nodes}
use Rattle.c_types.specs.Sizes.{words_of}
use Rattle.c_types.specs.View.{tstmts}
use Rattle.c_rules.specs.declared.code.Code.TheVariants.{InfiniteType, TooLarge}
use Rattle.c_rules.specs.Kinds.{holds, is_array}
use Rattle.c_types.specs.Kinds.{is_void, is_structure}
use Rattle.c_rules.specs.Rules.{judged, demand}
use Rattle.c_rules.specs.Nodes.{given}
use Rattle.c_rules.specs.Sizes.{is_whole, fits}
use Rattle.c_exprs.specs.Faults.{text_words}
use Rattle.c_check.specs.Reading.{same_types, parameter_rule}
use Rattle.c_check.specs.Whole.{is_plain}
use Rattle.c_facts.specs.Sound.{Scene, IsSized, IsSound, IsFunction, AreFunctions, AreCallObjects, FillGlobals, in_call, scene, wholes}
use Rattle.c_facts.specs.Known.{HasSize}
use Rattle.c_facts.specs.Start.{gives_globals}
use Rattle.c_facts.specs.Words.{NumbersAreWords, FunctionsInWords, FillInWords, StatementsInWords}
use Rattle.mid_code.specs.Code.{Stop, FunctionT}
use Rattle.mid_code.specs.Invariants as mid
use Rattle.mid_code.specs.Invariants.{IsMid, IsTemporary, AllOf, DifferFrom, AreDifferent, CallsNone, parameter_count}
use Rattle.lower_trees.specs.Shape.{Shape, shape, words, literal_words}
use Rattle.lower_trees.specs.Pieces.{coded}
use Rattle.lower_trees.specs.Parts.{to, result_at, param_at, first_param}
use Rattle.lower_trees.specs.Statements.{ToEnd, low_stmts}
use Rattle.lower_trees.specs.Lowered.{args_from, with_result, received, all_received, first_of, lowered, low_function, low_start}
use Rattle.lower_trees.specs.Counts.{stmts_temps, vars_temps, one_size, stmts_sizes, vars_sizes}
use Rattle.mid_lower.proofs.ProgramsListed.{inits_nodes}
use Rattle.mid_lower.proofs.Kept.{Site, Good, Keeps, good_stop, both, alone, none, either_kept, block_kept, fixed, k_local, k_store, words_small, copied_on_kept, made_kept}
use Rattle.mid_lower.proofs.KeptExpressions.{Linked}
use Rattle.mid_lower.proofs.KeptStatements.{objects_there, vars_kept, stmts_kept}
use Rattle.mid_lower.proofs.Counted.{stmts_few, stmts_sizes_few}
use Rattle.mid_lower.proofs.InRange.{InRange, Ranged, stmts_ranged, ranged_sum, ranged_least, result_ranged}
use Rattle.mid_lower.proofs.StartKept.{and_first, and_second, vars_quiet, vars_none}

-- what is known of a program
pub record Known (p : ProgramT) : Type 0 where
  pub sound : IsSound p
  pub words : NumbersAreWords p
  pub nodes : program_nodes p ≤ 200000
  pub locals : (k : ℕ) (f : TFunctionT) → slice_get p.functions k ≡ Some f → length f.locals ≤ 200000
  pub objects : (k : ℕ) (f : TFunctionT) → slice_get p.functions k ≡ Some f → AllOf (λ n. 1 ≤ n) f.locals
  pub sized : (ty : Ty) → IsSized p.layouts (wholes p.layouts) ty → HasSize p ty
  pub given : list_all gives_globals p.inits ≡ true

-- ---- parameters

-- as many objects at least as parameters
objects_enough : (ls : List LayoutT) (ws : List Bool) (tys : List Ty) (sizes : List ℕ) → AreCallObjects ls ws tys sizes → length tys ≤ length sizes
objects_enough ls ws [] sizes is = omega arith
objects_enough ls ws (ty ∷ tys) [] is = absurd is
objects_enough ls ws (ty ∷ tys) (n ∷ ns) is = let e = objects_enough ls ws tys ns is.2 in omega (arith, e)

rule_holds : (b whole few : Bool) (w n : ℕ) → judged (record { gives = given b w; demands = demand InfiniteType whole ∷ demand TooLarge few ∷ [] }) ≡ Ok n → (w ≡ n) × (few ≡ true)
rule_holds true true true w n e = (cc, refl)
rule_holds true true false w n e = cc
rule_holds true false few w n e = cc
rule_holds false whole few w n e = cc

param_words : (ls : List LayoutT) (ws : List Bool) (ty : Ty) (n : ℕ) → judged (parameter_rule ls ws ty) ≡ Ok n → (words_of ls ty ≡ n) × (nat_le (words_of ls ty) 4096 ≡ true)
unfolding parameter_rule fits
param_words ls ws ty n e = rule_holds (not (is_void ty) && not (is_array ty)) (is_whole ws ty) (nat_le (words_of ls ty) 4096) (words_of ls ty) n e

le_true : (a b : ℕ) → nat_le a b ≡ true → a ≤ b
le_true a b e = grind (arith, nat_tests)

-- parameters have few words, and so have the variables
objects_sum : (ls : List LayoutT) (ws : List Bool) (tys : List Ty) (sizes : List ℕ) → AreCallObjects ls ws tys sizes → sum sizes ≤ 4096 * length tys + 1000000
objects_sum ls ws [] sizes is = omega (arith, is)
objects_sum ls ws (ty ∷ tys) [] is = absurd is
objects_sum ls ws (ty ∷ tys) (n ∷ ns) is =
    let rest = objects_sum ls ws tys ns is.2 in
    let w = param_words ls ws ty n is.1 in
    let few = le_true (words_of ls ty) 4096 w.1 in
    let e = sum_by-cons (λ x. x) n ns in
    let same = w.0 in
    omega (arith, rest, few, e, same)

args_below : (T a : ℕ) (tys : List Ty) → a + length tys ≤ T → AllOf (λ t. t < T) (args_from a tys)
args_below T a [] le = tt
args_below T a (ty ∷ tys) le = (omega (arith, le), args_below T (a + 1) tys (omega (arith, le)))

args_above : (p a : ℕ) (tys : List Ty) → p < a → DifferFrom p (args_from a tys)
args_above p a [] lt = tt
args_above p a (ty ∷ tys) lt = (λ e. omega (arith, lt, e), args_above p (a + 1) tys (omega (arith, lt)))

args_differ : (a : ℕ) (tys : List Ty) → AreDifferent (args_from a tys)
args_differ a [] = tt
args_differ a (ty ∷ tys) = (args_above a (a + 1) tys (omega arith), args_differ (a + 1) tys)

with_result_below : (T : ℕ) (b : Bool) (ps : List ℕ) → 8 < T → AllOf (λ t. t < T) ps → AllOf (λ t. t < T) (if b then result_at ∷ ps else ps)
with_result_below T true ps lt all = (lt, all)
with_result_below T false ps lt all = all

with_result_differ : (b : Bool) (tys : List Ty) → AreDifferent (if b then result_at ∷ args_from first_param tys else args_from first_param tys)
with_result_differ true tys = (args_above 8 16 tys (omega arith), args_differ 16 tys)
with_result_differ false tys = args_differ 16 tys

param_small : (s : Site) (k : ℕ) → param_at k < s.temps
param_small s k = grind (arith, nat_tests, s.wide)

received_kept : {ls : List Bool} (s : Site) (h : Shape) (ty : Ty) (k a : ℕ) → k < s.locals → a < s.temps → Keeps s ls (coded (received h ty k a))
received_kept s h ty k a lk la =
    either_kept (is_structure ty) (both (k_local to k (fixed s 4 (omega arith)) lk) (copied_on_kept s (words h ty) a (words_small h ty) la))
    (both (k_local (param_at k) k (param_small s k) lk) (k_store (param_at k) a (param_small s k) la))

all_received_kept : {ls : List Bool} (s : Site) (h : Shape) (tys : List Ty) (k a : ℕ) → k + length tys ≤ s.locals → a + length tys ≤ s.temps → Keeps s ls (coded (all_received h tys k a))
all_received_kept s h [] k a lk la = none
all_received_kept s h (ty ∷ tys) k a lk la = both (received_kept s h ty k a (omega (arith, lk)) (omega (arith, la))) (all_received_kept s h tys (k + 1) (a + 1) (omega (arith, lk)) (omega (arith, la)))

-- ---- the whole

calls_are : (p : ProgramT) (f : ℕ) → parameter_count (lowered p) f ≡ option_map (λ g. length (with_result g.gives (args_from first_param g.params))) (slice_get p.functions f)
calls_are p f = ap (option_map (λ g. length g.params)) (slice_get-map (low_function (shape p)) p.functions f) ∙ go (slice_get p.functions f)
  where
    go : (o : Option TFunctionT) → option_map (λ (g : FunctionT ℕ). length g.params) (option_map (low_function (shape p)) o) ≡ option_map (λ g. length (with_result g.gives (args_from first_param g.params))) o
    go None = refl
    go (Some g) = refl

text_small : (ts : List (List ℕ)) (number : ℕ) → option_map_or (λ t. length t + 1) (slice_get ts number) 0 ≤ text_words ts
text_small [] number = omega arith
text_small (t ∷ ts) zero = let e = sum_by-cons (λ t. length t + 1) t ts in omega (arith, e)
text_small (t ∷ ts) (suc k) = let e = sum_by-cons (λ t. length t + 1) t ts in let l = text_small ts k in omega (arith, e, l)

texts_small : (p : ProgramT) → Known p → (number : ℕ) → literal_words (shape p) number < 2 ^ 32
texts_small p known number = let l = text_small p.literals number in let m = known.sound.literals in omega (arith, l, m)

map_length : {A B : Type 0} (f : A → B) (xs : List A) → length (map f xs) ≡ length xs
map_length f [] = refl
map_length f (x ∷ xs) = ap suc (map_length f xs)

linked : (p : ProgramT) → Known p → (s : Site) → s.code ≡ lowered p → (locals : List ℕ) → length locals ≤ s.locals → Linked s (in_call (scene p) locals) (shape p)
linked p known s code locals few = record {
  functions = refl;
  globals = ap (λ x. length x.globals) code ∙ map_length (λ g. g.1) p.globals;
  literals = ap (λ x. length x.literals) code;
  locals = few;
  texts = texts_small p known;
  calls = λ f. ap (λ x. parameter_count x f) code ∙ calls_are p f;
}

-- ---- functions

functions_at : (z : Scene) (fs : List TFunctionT) → AreFunctions z fs → (k : ℕ) (f : TFunctionT) → slice_get fs k ≡ Some f → IsFunction z f
functions_at z [] is k f e = cc
functions_at z (g ∷ fs) is zero f e = subst (IsFunction z) (cc) is.0
functions_at z (g ∷ fs) is (suc k) f e = functions_at z fs is.1 k f e

void_result : (h : Shape) (o : Option TFunctionT) → ((g : TFunctionT) → o ≡ Some g → AllOf InRange (one_size h g.gives)) → AllOf InRange (one_size h (option_map_or (λ g. g.gives) o VoidY))
void_result h None r = tt
void_result h (Some g) r = r g refl

ranged : (p : ProgramT) → Known p → (locals : List ℕ) → Ranged (in_call (scene p) locals) (shape p)
ranged p known locals =
    let z = scene p in
    let sized : (ty : Ty) → IsSized p.layouts (wholes p.layouts) ty → 1 ≤ words_of p.layouts ty = λ ty is. (known.sized ty is).some in
    record {
      layouts = refl;
      sized = sized;
      results = λ f. void_result (shape p) (slice_get p.functions f) (λ g e. let is = functions_at z p.functions known.sound.functions f g e in result_ranged z (shape p) refl sized g.gives is.known is.result);
    }

all_append : (xs ys : List ℕ) → AllOf (λ n. 1 ≤ n) xs → AllOf (λ n. 1 ≤ n) ys → AllOf (λ n. 1 ≤ n) (xs ++ ys)
all_append [] ys a b = b
all_append (x ∷ xs) ys a b = (a.0, all_append xs ys a.1 b)

function_is_mid : (p : ProgramT) → Known p → (f : TFunctionT) → IsFunction (scene p) f → StatementsInWords f.body → function_nodes f ≤ 200000 → length f.locals ≤ 200000 → AllOf (λ n. 1 ≤ n) f.locals
    → mid.IsFunction IsTemporary (lowered p) (low_function (shape p) f)
function_is_mid p known f is w nodes many objects =
    let h = shape p in
    let z = in_call (scene p) f.locals in
    let extra = stmts_sizes h f.body in
    let m = length-append f.locals extra in
    let temps_most = stmts_few f.body in
    let sizes_most = stmts_sizes_few h f.body in
    let enough = objects_enough p.layouts (wholes p.layouts) f.params f.locals is.objects in
    let T : ℕ = first_of f.params + stmts_temps f.body in
    let s : Site = record { code = lowered p; locals = length (f.locals ++ extra); temps = T; wide = omega arith } in
    let link = linked p known s refl f.locals (omega (arith, m)) in
    let range = stmts_ranged z h (ranged p known f.locals) f.body f.gives false false is.body in
    let total_more = ranged_sum extra range in
    let summed = sum_by-append (λ n. n) f.locals extra in
    let total = objects_sum p.layouts (wholes p.layouts) f.params f.locals is.objects in
    let good = alone (both (made_kept {ls = []} s f.made (objects_there s z h link 0 f.made is.rising)) (both (all_received_kept s h f.params 0 first_param (omega (arith, m, enough)) (omega arith))
    (block_kept (alone (stmts_kept s z h link f.gives f.body false false is.body w (omega (arith, nodes)) (false ∷ []) (first_of f.params) (length f.locals) 0 (ToEnd 0) (omega arith) (omega (arith, m)) (omega arith) (omega arith)))))) in
    record {
      nodes = good.nodes;
      names = good.names;
      params_named = with_result_below T (is_structure f.gives) (args_from first_param f.params) (omega arith) (args_below T 16 f.params (omega arith));
      params_differ = with_result_differ (is_structure f.gives) f.params;
      count = omega (arith, m, temps_most, sizes_most, nodes, many);
      sizes = all_append f.locals extra objects (ranged_least extra range);
      words = omega (arith, total, total_more, summed, sizes_most, nodes);
    }

functions_are_mid : (p : ProgramT) → Known p → (fs : List TFunctionT) → AreFunctions (scene p) fs → FunctionsInWords fs → sum_by function_nodes fs ≤ 200000
    → ((k : ℕ) (f : TFunctionT) → slice_get fs k ≡ Some f → length f.locals ≤ 200000) → ((k : ℕ) (f : TFunctionT) → slice_get fs k ≡ Some f → AllOf (λ n. 1 ≤ n) f.locals)
    → AllOf (mid.IsFunction IsTemporary (lowered p)) (map (low_function (shape p)) fs)
functions_are_mid p known [] is w nodes many objects = tt
functions_are_mid p known (f ∷ fs) is w nodes many objects =
    let e = sum_by-cons function_nodes f fs in (
      function_is_mid p known f is.0 w.0 (omega (arith, e, nodes)) (many 0 f refl) (objects 0 f refl),
      functions_are_mid p known fs is.1 w.1 (omega (arith, e, nodes)) (λ k. many (suc k)) (λ k. objects (suc k)),
    )

-- ---- main

plain_params : (g : TFunctionT) → is_plain g ≡ true → length (with_result g.gives (args_from first_param g.params)) ≡ 0
plain_params g e = go g.params g.gives e
  where
    go : (tys : List Ty) (ty : Ty) → (same_types tys [] && is_void ty) ≡ true → length (with_result ty (args_from first_param tys)) ≡ 0
    go [] VoidY e = refl
    go [] IntY e = cc
    go [] BoolY e = cc
    go [] (EnumY k) e = cc
    go [] (StructY k) e = cc
    go [] (UnionY k) e = cc
    go [] (PointerY to_type) e = cc
    go [] (ArrayY of len) e = cc
    go (t ∷ tys) ty e = cc

main_is : (p : ProgramT) → holds is_plain (slice_get p.functions p.main) ≡ true → mid.IsMain (lowered p)
main_is p e = calls_are p p.main ∙ go (slice_get p.functions p.main) e
  where
    go : (o : Option TFunctionT) → holds is_plain o ≡ true → option_map (λ g. length (with_result g.gives (args_from first_param g.params))) o ≡ Some 0
    go None e = cc
    go (Some g) e = ap Some (plain_params g e)

-- ---- the start

-- the statements that fill the globals, one after the other
start_good : (p : ProgramT) → Known p → (s : Site) → s.code ≡ lowered p → (inits : List TStmtT) → FillGlobals (scene p) inits → FillInWords inits → (n m : ℕ) → n + stmts_temps (tstmts inits) ≤ s.temps → m + length (stmts_sizes (shape p) (tstmts inits)) ≤ s.locals
    → Good s [] (coded (low_stmts (shape p) VoidY (tstmts inits) n m 0 (ToEnd 0)) Stop)
start_good p known s code [] is w n m ln lm = good_stop s []
start_good p known s code (VarsZ vars ∷ rest) is w n m ln lm =
    let link = linked p known s code [] (omega arith) in
    let more = length-append (vars_sizes (shape p) vars) (stmts_sizes (shape p) (tstmts rest)) in
    let first = vars_kept s (in_call (scene p) []) (shape p) link true vars is.0 w.0 [] n m (omega arith) (omega (arith, more)) in
    first.keep _ (start_good p known s code rest is.1 w.1 (n + vars_temps vars) (m + length (vars_sizes (shape p) vars)) (omega arith) (omega (arith, more)))
start_good p known s code (BlockZ ks body ∷ rest) is w n m ln lm = absurd is.0
start_good p known s code (EmptyZ ∷ rest) is w n m ln lm = absurd is.0
start_good p known s code (DoZ x ∷ rest) is w n m ln lm = absurd is.0
start_good p known s code (IfZ x a b ∷ rest) is w n m ln lm = absurd is.0
start_good p known s code (WhileZ x a ∷ rest) is w n m ln lm = absurd is.0
start_good p known s code (DoWhileZ a x ∷ rest) is w n m ln lm = absurd is.0
start_good p known s code (ForZ ks a x y b ∷ rest) is w n m ln lm = absurd is.0
start_good p known s code (SwitchZ x ks arms ∷ rest) is w n m ln lm = absurd is.0
start_good p known s code (ReturnZ x ∷ rest) is w n m ln lm = absurd is.0
start_good p known s code (BreakZ ∷ rest) is w n m ln lm = absurd is.0
start_good p known s code (ContinueZ ∷ rest) is w n m ln lm = absurd is.0

start_silent : (p : ProgramT) → (inits : List TStmtT) → FillGlobals (scene p) inits → list_all gives_globals inits ≡ true → (n m : ℕ) → CallsNone (coded (low_stmts (shape p) VoidY (tstmts inits) n m 0 (ToEnd 0)) Stop)
start_silent p [] is e n m = tt
start_silent p (VarsZ vars ∷ rest) is e n m =
    let first = vars_quiet (scene p) (shape p) true vars is.0 (and_first (gives_globals (VarsZ vars)) (list_all gives_globals rest) e) n m in
    first.quiet _ (start_silent p rest is.1 (and_second (gives_globals (VarsZ vars)) (list_all gives_globals rest) e) (n + vars_temps vars) (m + length (vars_sizes (shape p) vars)))
start_silent p (BlockZ ks body ∷ rest) is e n m = absurd is.0
start_silent p (EmptyZ ∷ rest) is e n m = absurd is.0
start_silent p (DoZ x ∷ rest) is e n m = absurd is.0
start_silent p (IfZ x a b ∷ rest) is e n m = absurd is.0
start_silent p (WhileZ x a ∷ rest) is e n m = absurd is.0
start_silent p (DoWhileZ a x ∷ rest) is e n m = absurd is.0
start_silent p (ForZ ks a x y b ∷ rest) is e n m = absurd is.0
start_silent p (SwitchZ x ks arms ∷ rest) is e n m = absurd is.0
start_silent p (ReturnZ x ∷ rest) is e n m = absurd is.0
start_silent p (BreakZ ∷ rest) is e n m = absurd is.0
start_silent p (ContinueZ ∷ rest) is e n m = absurd is.0

start_none : (p : ProgramT) → (inits : List TStmtT) → FillGlobals (scene p) inits → list_all gives_globals inits ≡ true → stmts_sizes (shape p) (tstmts inits) ≡ []
start_none p [] is e = refl
start_none p (VarsZ vars ∷ rest) is e =
    ap (λ ws. ws ++ stmts_sizes (shape p) (tstmts rest)) (vars_none (scene p) (shape p) true vars is.0 (and_first (gives_globals (VarsZ vars)) (list_all gives_globals rest) e))
    ∙ start_none p rest is.1 (and_second (gives_globals (VarsZ vars)) (list_all gives_globals rest) e)
start_none p (BlockZ ks body ∷ rest) is e = absurd is.0
start_none p (EmptyZ ∷ rest) is e = absurd is.0
start_none p (DoZ x ∷ rest) is e = absurd is.0
start_none p (IfZ x a b ∷ rest) is e = absurd is.0
start_none p (WhileZ x a ∷ rest) is e = absurd is.0
start_none p (DoWhileZ a x ∷ rest) is e = absurd is.0
start_none p (ForZ ks a x y b ∷ rest) is e = absurd is.0
start_none p (SwitchZ x ks arms ∷ rest) is e = absurd is.0
start_none p (ReturnZ x ∷ rest) is e = absurd is.0
start_none p (BreakZ ∷ rest) is e = absurd is.0
start_none p (ContinueZ ∷ rest) is e = absurd is.0

start_is : (p : ProgramT) → Known p → mid.IsStart IsTemporary (lowered p) (low_start p)
start_is p known =
    let body = tstmts p.inits in
    let sizes = stmts_sizes (shape p) body in
    let T : ℕ = first_param + stmts_temps body in
    let s : Site = record { code = lowered p; locals = length sizes; temps = T; wide = omega arith } in
    let good = start_good p known s refl p.inits known.sound.inits known.words.inits first_param 0 (omega arith) (omega arith) in
    let none = start_none p p.inits known.sound.inits known.given in
    let few = stmts_few body in
    let nodes = inits_nodes p.inits in
    let all = known.nodes in
    let no_length : length sizes ≡ 0 = ap length none in
    record {
      function = record {
        nodes = good.nodes;
        names = good.names;
        params_named = tt;
        params_differ = tt;
        count = omega (arith, few, nodes, all, no_length);
        sizes = subst (AllOf (λ n. 1 ≤ n)) (sym none) tt;
        words = omega (arith, ap sum none);
      };
      params = refl;
      locals = none;
      gives = refl;
      calls = start_silent p p.inits known.sound.inits known.given first_param 0;
    }

-- ---- the code of a program is mid code

pub lowered_is_mid : (p : ProgramT) → Known p → IsMid (lowered p)
lowered_is_mid p known =
    let all = known.nodes in
    let globals = known.sound.globals in
    let mapped = sum-map (λ (g : List ℕ × ℕ). g.1) p.globals in
    record {
      start = start_is p known;
      functions = functions_are_mid p known p.functions known.sound.functions known.words.functions (omega (arith, all)) known.locals known.objects;
      globals = omega (arith, globals, mapped);
      main = main_is p known.sound.main;
    }
