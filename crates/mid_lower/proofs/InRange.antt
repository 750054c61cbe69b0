-- A structure of a program that is a value has a word at least, and at most 4,096.
use Rattle.std.proofs.Common.{◌≡◌, ℕ, ◌*◌, ◌≤◌, ◌^◌, ◌%◌, Bool, true, false, nat_le, List, [], ◌∷◌, ◌++◌, length, sum, Option, Some, None, Ok, refl, ap, ◌∙◌, arith}
use Rattle.std.proofs.Math.Nat.{mod-eq_of_lt}
use Rattle.std.proofs.lemmas.List.Sums.{sum_by-cons}
use Rattle.std.proofs.lemmas.Bool.Decides.{nat_tests}
use Rattle.c_tree.specs.declared.operator.UnOp.TheVariants as un
use Rattle.c_types.specs.Types.{Ty, VoidY, IntY, BoolY, EnumY, StructY, UnionY, PointerY, ArrayY}
use Rattle.c_types.specs.Typed.{TExprT, Typed, TKindT, NumberK, NullK, LiteralK, GlobalK, LocalK, UnaryK, BinaryK, AssignK, StepK, IndexK, MemberK, ArrowK, CastK, CallK, InK, OutK, WaitK, HaltK, CardK, TExprTs, NoX, MoreX, TInitT, OneI, TextI, ListI, TInitTs, NoI, MoreI, TVarT, TStmtT, BlockZ, EmptyZ, VarsZ, DoZ, IfZ, WhileZ, DoWhileZ, ForZ, SwitchZ, ReturnZ, BreakZ, ContinueZ, MaybeZ, NoneZ, SomeZ, TStmtTs, NoZ, MoreZ, TArmT, CaseB, DefaultB, StmtB, TArmTs, NoB, MoreB}
use Rattle.c_types.specs.Sizes.{words_of}
use Rattle.c_rules.specs.declared.code.Code.{Code}
use Rattle.c_rules.specs.declared.code.Code.TheVariants.{InfiniteType, TooLarge}
use Rattle.c_rules.specs.Rules.{judged, demand, checked}
use Rattle.c_rules.specs.Sizes.{is_whole, fits}
use Rattle.c_exprs.specs.Nodes.{value_rule, type_of_typed, is_place}
use Rattle.c_check.specs.Reading.{result_rule}
use Rattle.c_stmts.specs.Slots.{Slots, next_slot, later_slots, slots_of}
use Rattle.c_stmts.specs.State.{Labels, no_labels, with_label}
use Rattle.c_facts.specs.Sound.{Scene, IsKnown, IsSized, IsValue, IsTyped, IsKind, AreValues, FillsAs, FillEach, AreFilled, MayTest, MayValue, IsStatement, MayState, AreStatements, AreArms, IsArm}
use Rattle.mid_code.specs.Invariants.{AllOf}
use Rattle.lower_trees.specs.Shape.{Shape, words, result_of}
use Rattle.lower_trees.specs.Counts.{one_size, read_sizes, sizes, sizes_of, sizes_all, value_sizes, init_sizes, inits_sizes, vars_sizes, maybe_sizes, stmt_sizes, other_sizes, stmts_sizes, arm_sizes, arms_sizes}

pub record InRange (n : ℕ) : Type 0 where
  pub least : 1 ≤ n
  pub most : n ≤ 4096

-- sized types have words, and the results of functions keep their rule
pub record Ranged (z : Scene) (h : Shape) : Type 0 where
  pub layouts : h.layouts ≡ z.layouts
  pub sized : (ty : Ty) → IsSized z.layouts z.whole ty → 1 ≤ words_of z.layouts ty
  pub results : (f : ℕ) → AllOf InRange (one_size h (result_of h f))

pub all_both : (xs ys : List ℕ) → AllOf InRange xs → AllOf InRange ys → AllOf InRange (xs ++ ys)
all_both [] ys a b = b
all_both (x ∷ xs) ys a b = (a.0, all_both xs ys a.1 b)

le_true : (a b : ℕ) → nat_le a b ≡ true → a ≤ b
le_true a b e = grind (arith, nat_tests)

-- ---- one structure

two_hold : (a b : Bool) (e f : Code) → checked {A = Unit {0}} (demand e a ∷ demand f b ∷ []) tt ≡ Ok tt → (a ≡ true) × (b ≡ true)
two_hold true true e f is = (refl, refl)
two_hold true false e f is = cc
two_hold false b e f is = cc

struct_value : (z : Scene) (number : ℕ) → IsValue z (StructY number) → (is_whole z.whole (StructY number) ≡ true) × (nat_le (words_of z.layouts (StructY number)) 4096 ≡ true)
unfolding value_rule fits
struct_value z number is = two_hold (is_whole z.whole (StructY number)) (nat_le (words_of z.layouts (StructY number)) 4096) InfiniteType TooLarge is

union_value : (z : Scene) (number : ℕ) → IsValue z (UnionY number) → (is_whole z.whole (UnionY number) ≡ true) × (nat_le (words_of z.layouts (UnionY number)) 4096 ≡ true)
unfolding value_rule fits
union_value z number is = two_hold (is_whole z.whole (UnionY number)) (nat_le (words_of z.layouts (UnionY number)) 4096) InfiniteType TooLarge is

ranged_words : (z : Scene) (h : Shape) → h.layouts ≡ z.layouts → (ty : Ty) → 1 ≤ words_of z.layouts ty → words_of z.layouts ty ≤ 4096 → InRange (words h ty)
ranged_words z h e ty least most =
    let w : words h ty ≡ words_of z.layouts ty = ap (λ ls. words_of ls ty % 2 ^ 32) e ∙ mod-eq_of_lt (omega (arith, most)) in
    record { least = omega (arith, w, least); most = omega (arith, w, most) }

-- what the value of an expression of this type reads
read_ranged : (z : Scene) (h : Shape) → Ranged z h → (ty : Ty) → IsKnown z.layouts z.whole ty → IsValue z ty → AllOf InRange (one_size h ty)
read_ranged z h r (StructY number) known is =
    let m = struct_value z number is in
    (ranged_words z h r.layouts (StructY number) (r.sized (StructY number) (record { known = known; sized = m.0 })) (le_true (words_of z.layouts (StructY number)) 4096 m.1), tt)
read_ranged z h r (UnionY number) known is =
    let m = union_value z number is in
    (ranged_words z h r.layouts (UnionY number) (r.sized (UnionY number) (record { known = known; sized = m.0 })) (le_true (words_of z.layouts (UnionY number)) 4096 m.1), tt)
read_ranged z h r VoidY known is = tt
read_ranged z h r IntY known is = tt
read_ranged z h r BoolY known is = tt
read_ranged z h r (EnumY e) known is = tt
read_ranged z h r (PointerY to) known is = tt
read_ranged z h r (ArrayY of len) known is = tt

place_ranged : (z : Scene) (h : Shape) → Ranged z h → (place : Bool) (ty : Ty) → IsKnown z.layouts z.whole ty → IsValue z ty → AllOf InRange (read_sizes h place ty)
place_ranged z h r true ty known is = read_ranged z h r ty known is
place_ranged z h r false ty known is = tt

-- ---- trees

mutual
  sizes_ranged : (z : Scene) (h : Shape) → Ranged z h → (x : TExprT) → IsTyped z x → AllOf InRange (sizes h x)
  sizes_ranged z h r (Typed kind ty span) is = kind_ranged z h r kind ty is.1

  value_ranged : (z : Scene) (h : Shape) → Ranged z h → (x : TExprT) → IsTyped z x → IsValue z (type_of_typed x) → AllOf InRange (value_sizes h x)
  value_ranged z h r (Typed kind ty span) is v =
      all_both (sizes_of h kind) (read_sizes h (is_place (Typed kind ty span)) ty) (kind_ranged z h r kind ty is.1) (place_ranged z h r (is_place (Typed kind ty span)) ty is.0 v)

  kind_ranged : (z : Scene) (h : Shape) → Ranged z h → (k : TKindT) (ty : Ty) → IsKind z k ty → AllOf InRange (sizes_of h k)
  kind_ranged z h r (NumberK x) ty is = tt
  kind_ranged z h r NullK ty is = tt
  kind_ranged z h r (LiteralK number) ty is = tt
  kind_ranged z h r (GlobalK number) ty is = tt
  kind_ranged z h r (LocalK number) ty is = tt
  kind_ranged z h r (UnaryK un.Deref x) ty is = value_ranged z h r x is.0 is.1
  kind_ranged z h r (UnaryK un.Address x) ty is = sizes_ranged z h r x is.0
  kind_ranged z h r (UnaryK un.Not x) ty is = value_ranged z h r x is.0 is.1
  kind_ranged z h r (UnaryK un.Minus x) ty is = value_ranged z h r x is.0 is.1
  kind_ranged z h r (UnaryK un.Plus x) ty is = value_ranged z h r x is.0 is.1
  kind_ranged z h r (UnaryK un.Flip x) ty is = value_ranged z h r x is.0 is.1
  kind_ranged z h r (BinaryK op x y) ty is = all_both (value_sizes h x) (value_sizes h y) (value_ranged z h r x is.0 is.1) (value_ranged z h r y is.2 is.3)
  kind_ranged z h r (AssignK None x y) ty is = all_both (sizes h x) (value_sizes h y) (sizes_ranged z h r x is.0) (value_ranged z h r y is.1 is.2)
  kind_ranged z h r (AssignK (Some op) x y) ty is = all_both (sizes h x) (value_sizes h y) (sizes_ranged z h r x is.0) (value_ranged z h r y is.1 is.2)
  kind_ranged z h r (StepK op x) ty is = sizes_ranged z h r x is.0
  kind_ranged z h r (IndexK x y) ty is = all_both (value_sizes h x) (value_sizes h y) (value_ranged z h r x is.0 is.1) (value_ranged z h r y is.2 is.3)
  kind_ranged z h r (MemberK x offset) ty is = sizes_ranged z h r x is.0
  kind_ranged z h r (ArrowK x offset) ty is = value_ranged z h r x is.0 is.1
  kind_ranged z h r (CastK x) ty is = value_ranged z h r x is.0 is.1
  kind_ranged z h r (CallK f xs) ty is = all_both (sizes_all h xs) (one_size h (result_of h f)) (args_ranged z h r xs is.0) (r.results f)
  kind_ranged z h r (InK port) ty is = tt
  kind_ranged z h r (OutK port x) ty is = value_ranged z h r x is.1 is.2
  kind_ranged z h r WaitK ty is = tt
  kind_ranged z h r HaltK ty is = tt
  kind_ranged z h r CardK ty is = tt

  args_ranged : (z : Scene) (h : Shape) → Ranged z h → (xs : TExprTs) → AreValues z xs → AllOf InRange (sizes_all h xs)
  args_ranged z h r NoX is = tt
  args_ranged z h r (MoreX x xs) is = all_both (value_sizes h x) (sizes_all h xs) (value_ranged z h r x is.0 is.1) (args_ranged z h r xs is.2)

mutual
  init_ranged : (z : Scene) (h : Shape) → Ranged z h → (g : Bool) (i : TInitT) (o : Option Ty) → FillsAs z g i o → AllOf InRange (init_sizes h i)
  init_ranged z h r g (OneI x) None is = absurd is
  init_ranged z h r g (TextI number) o is = tt
  init_ranged z h r g (ListI items) None is = absurd is
  init_ranged z h r g (OneI x) (Some ty) is = value_ranged z h r x (is.0).typed (is.0).value
  init_ranged z h r g (ListI items) (Some ty) is = inits_ranged z h r g items (slots_of z.layouts ty) is.1

  inits_ranged : (z : Scene) (h : Shape) → Ranged z h → (g : Bool) (items : TInitTs) (o : Slots) → FillEach z g items o → AllOf InRange (inits_sizes h items)
  inits_ranged z h r g NoI o is = tt
  inits_ranged z h r g (MoreI i rest) o is = all_both (init_sizes h i) (inits_sizes h rest) (init_ranged z h r g i (next_slot o) is.0) (inits_ranged z h r g rest (later_slots o) is.1)

vars_ranged : (z : Scene) (h : Shape) → Ranged z h → (g : Bool) (vs : List TVarT) → AreFilled z g vs → AllOf InRange (vars_sizes h vs)
vars_ranged z h r g [] is = tt
vars_ranged z h r g (v ∷ vs) is = all_both (init_sizes h v.init) (vars_sizes h vs) (init_ranged z h r g v.init (Some v.ty) (is.0).filled) (vars_ranged z h r g vs is.1)

test_ranged : (z : Scene) (h : Shape) → Ranged z h → (x : Option TExprT) → MayTest z x → AllOf InRange (maybe_sizes h x)
test_ranged z h r None is = tt
test_ranged z h r (Some x) is = value_ranged z h r x (is.0).typed (is.0).value

step_ranged : (z : Scene) (h : Shape) → Ranged z h → (x : Option TExprT) → MayValue z x → AllOf InRange (maybe_sizes h x)
step_ranged z h r None is = tt
step_ranged z h r (Some x) is = value_ranged z h r x is.typed is.value

mutual
  stmt_ranged : (z : Scene) (h : Shape) → Ranged z h → (a : TStmtT) (ty : Ty) (br co : Bool) → IsStatement z a ty br co → AllOf InRange (stmt_sizes h a)
  stmt_ranged z h r (BlockZ ks body) ty br co is = stmts_ranged z h r body ty br co is.1
  stmt_ranged z h r EmptyZ ty br co is = tt
  stmt_ranged z h r (VarsZ vars) ty br co is = vars_ranged z h r false vars is
  stmt_ranged z h r (DoZ x) ty br co is = value_ranged z h r x is.typed is.value
  stmt_ranged z h r (IfZ x a rest) ty br co is =
      all_both (value_sizes h x) (stmt_sizes h a ++ other_sizes h rest) (value_ranged z h r x ((is.0).0).typed ((is.0).0).value)
      (all_both (stmt_sizes h a) (other_sizes h rest) (stmt_ranged z h r a ty br co is.1) (other_ranged z h r rest ty br co is.2))
  stmt_ranged z h r (WhileZ x a) ty br co is = all_both (value_sizes h x) (stmt_sizes h a) (value_ranged z h r x ((is.0).0).typed ((is.0).0).value) (stmt_ranged z h r a ty true true is.1)
  stmt_ranged z h r (DoWhileZ a x) ty br co is = all_both (stmt_sizes h a) (value_sizes h x) (stmt_ranged z h r a ty true true is.0) (value_ranged z h r x ((is.1).0).typed ((is.1).0).value)
  stmt_ranged z h r (ForZ ks first test step a) ty br co is =
      all_both (other_sizes h first) (maybe_sizes h test ++ (stmt_sizes h a ++ maybe_sizes h step)) (other_ranged z h r first ty br co is.1)
      (all_both (maybe_sizes h test) (stmt_sizes h a ++ maybe_sizes h step) (test_ranged z h r test is.2)
      (all_both (stmt_sizes h a) (maybe_sizes h step) (stmt_ranged z h r a ty true true is.4) (step_ranged z h r step is.3)))
  stmt_ranged z h r (SwitchZ x ks arms) ty br co is = all_both (value_sizes h x) (arms_sizes h arms) (value_ranged z h r x (is.0).typed (is.0).value) (arms_ranged z h r arms ty co no_labels is.3)
  stmt_ranged z h r (ReturnZ None) ty br co is = tt
  stmt_ranged z h r (ReturnZ (Some x)) ty br co is = value_ranged z h r x (is.0).typed (is.0).value
  stmt_ranged z h r BreakZ ty br co is = tt
  stmt_ranged z h r ContinueZ ty br co is = tt

  other_ranged : (z : Scene) (h : Shape) → Ranged z h → (a : MaybeZ) (ty : Ty) (br co : Bool) → MayState z a ty br co → AllOf InRange (other_sizes h a)
  other_ranged z h r NoneZ ty br co is = tt
  other_ranged z h r (SomeZ a) ty br co is = stmt_ranged z h r a ty br co is

  pub stmts_ranged : (z : Scene) (h : Shape) → Ranged z h → (body : TStmtTs) (ty : Ty) (br co : Bool) → AreStatements z body ty br co → AllOf InRange (stmts_sizes h body)
  stmts_ranged z h r NoZ ty br co is = tt
  stmts_ranged z h r (MoreZ a rest) ty br co is = all_both (stmt_sizes h a) (stmts_sizes h rest) (stmt_ranged z h r a ty br co is.0) (stmts_ranged z h r rest ty br co is.1)

  arm_ranged : (z : Scene) (h : Shape) → Ranged z h → (a : TArmT) (ty : Ty) (co : Bool) → IsArm z a ty co → AllOf InRange (arm_sizes h a)
  arm_ranged z h r (CaseB label) ty co is = tt
  arm_ranged z h r DefaultB ty co is = tt
  arm_ranged z h r (StmtB a) ty co is = stmt_ranged z h r a ty true co is

  arms_ranged : (z : Scene) (h : Shape) → Ranged z h → (arms : TArmTs) (ty : Ty) (co : Bool) (seen : Labels) → AreArms z arms ty co seen → AllOf InRange (arms_sizes h arms)
  arms_ranged z h r NoB ty co seen is = tt
  arms_ranged z h r (MoreB a rest) ty co seen is = all_both (arm_sizes h a) (arms_sizes h rest) (arm_ranged z h r a ty co is.1) (arms_ranged z h r rest ty co (with_label seen a) is.2)

-- ---- what ranges give of lists

pub ranged_sum : (ws : List ℕ) → AllOf InRange ws → sum ws ≤ 4096 * length ws
ranged_sum [] all = omega arith
ranged_sum (w ∷ ws) all =
    let m = ranged_sum ws all.1 in
    let e = sum_by-cons (λ x. x) w ws in
    let k = (all.0).most in
    omega (arith, m, e, k)

pub ranged_least : (ws : List ℕ) → AllOf InRange ws → AllOf (λ n. 1 ≤ n) ws
ranged_least [] all = tt
ranged_least (w ∷ ws) all = ((all.0).least, ranged_least ws all.1)

-- ---- the results of functions

struct_result : (z : Scene) (number : ℕ) → judged (result_rule z.layouts z.whole (StructY number)) ≡ Ok tt → (is_whole z.whole (StructY number) ≡ true) × (nat_le (words_of z.layouts (StructY number)) 4096 ≡ true)
unfolding fits
struct_result z number is = two_hold (is_whole z.whole (StructY number)) (nat_le (words_of z.layouts (StructY number)) 4096) InfiniteType TooLarge is

union_result : (z : Scene) (number : ℕ) → judged (result_rule z.layouts z.whole (UnionY number)) ≡ Ok tt → (is_whole z.whole (UnionY number) ≡ true) × (nat_le (words_of z.layouts (UnionY number)) 4096 ≡ true)
unfolding fits
union_result z number is = two_hold (is_whole z.whole (UnionY number)) (nat_le (words_of z.layouts (UnionY number)) 4096) InfiniteType TooLarge is

pub result_ranged : (z : Scene) (h : Shape) → h.layouts ≡ z.layouts → ((ty : Ty) → IsSized z.layouts z.whole ty → 1 ≤ words_of z.layouts ty) → (ty : Ty) → IsKnown z.layouts z.whole ty → judged (result_rule z.layouts z.whole ty) ≡ Ok tt → AllOf InRange (one_size h ty)
result_ranged z h e sized (StructY number) known is =
    let m = struct_result z number is in
    (ranged_words z h e (StructY number) (sized (StructY number) (record { known = known; sized = m.0 })) (le_true (words_of z.layouts (StructY number)) 4096 m.1), tt)
result_ranged z h e sized (UnionY number) known is =
    let m = union_result z number is in
    (ranged_words z h e (UnionY number) (sized (UnionY number) (record { known = known; sized = m.0 })) (le_true (words_of z.layouts (UnionY number)) 4096 m.1), tt)
result_ranged z h e sized VoidY known is = tt
result_ranged z h e sized IntY known is = tt
result_ranged z h e sized BoolY known is = tt
result_ranged z h e sized (EnumY k) known is = tt
result_ranged z h e sized (PointerY to) known is = tt
result_ranged z h e sized (ArrayY of len) known is = tt
