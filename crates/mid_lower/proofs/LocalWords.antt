-- The locals of a lowered function have at most the words of its objects, and those of its expressions that are structures or unions.
use Rattle.std.proofs.Common.{◌≡◌, ℕ, ◌+◌, ◌≤◌, Bool, true, false, List, [], ◌∷◌, ◌++◌, sum, slice_get, Option, Some, None, refl, ap, ◌∙◌, arith, if◌then◌else◌}
use Rattle.std.specs.Option.{option_map_or}
use Rattle.std.proofs.lemmas.List.Sums.{sum_by-cons}
use Rattle.c_tree.specs.declared.operator.UnOp.TheVariants as un
use Rattle.c_types.specs.Types.{Ty, VoidY}
use Rattle.c_types.specs.Typed.{TExprT, Typed, TKindT, NumberK, NullK, LiteralK, GlobalK, LocalK, UnaryK, BinaryK, AssignK, StepK, IndexK, MemberK, ArrowK, CastK, CallK, InK, OutK, WaitK, HaltK, CardK, TExprTs, NoX, MoreX, TInitT, OneI, TextI, ListI, TInitTs, NoI, MoreI, TVarT, TStmtT, BlockZ, EmptyZ, VarsZ, DoZ, IfZ, WhileZ, DoWhileZ, ForZ, SwitchZ, ReturnZ, BreakZ, ContinueZ, MaybeZ, NoneZ, SomeZ, TStmtTs, NoZ, MoreZ, TArmT, CaseB, DefaultB, StmtB, TArmTs, NoB, MoreB}
use Rattle.c_types.specs.Programs.{TFunctionT, ProgramT}
use Rattle.c_exprs.specs.Nodes.{is_place_kind}
use Rattle.c_types.specs.Kinds.{is_structure}
use Rattle.c_meaning.specs.Setting.{setting}
use Rattle.c_meaning.specs.Frames.{over, over_kind, over_all, over_maybe, over_init, over_inits, over_vars, over_statement, over_other, over_statements, over_arm, over_arms, structure_words}
use Rattle.c_stmts.specs.Slots.{Slots, next_slot, later_slots, slots_of}
use Rattle.c_stmts.specs.State.{Labels, no_labels, with_label}
use Rattle.c_facts.specs.Sound.{Scene, IsTyped, IsKind, Calls, AreValues, FillsAs, FillEach, AreFilled, MayTest, MayValue, IsStatement, MayState, AreStatements, AreArms, IsArm, IsFunction, in_call, scene}
use Rattle.lower_trees.specs.Shape.{Shape, shape, words, result_of}
use Rattle.lower_trees.specs.Lowered.{low_function}
use Rattle.lower_trees.specs.Counts.{one_size, read_sizes, sizes, sizes_of, sizes_all, value_sizes, init_sizes, inits_sizes, vars_sizes, maybe_sizes, stmt_sizes, other_sizes, stmts_sizes, arm_sizes, arms_sizes}

-- the words of a structure or union that an expression is
abbrev own : Shape → TKindT → Ty → ℕ
own h kind ty = if is_structure ty then words h ty else 0

sum_both : (xs ys : List ℕ) → sum (xs ++ ys) ≡ sum xs + sum ys
sum_both [] ys = omega arith
sum_both (x ∷ xs) ys =
    let e = sum_by-cons (λ n. n) x (xs ++ ys) in
    let f = sum_by-cons (λ n. n) x xs in
    let g = sum_both xs ys in
    omega (arith, e, f, g)

one_words : (h : Shape) (k : TKindT) (ty : Ty) → sum (one_size h ty) ≡ own h k ty
one_words h k ty = by (is_structure ty)
  where
    by : (b : Bool) → sum (if b then words h ty ∷ [] else []) ≡ (if b then words h ty else 0)
    by true = let e = sum_by-cons (λ n. n) (words h ty) [] in omega (arith, e)
    by false = refl

read_words : (h : Shape) (place : Bool) (k : TKindT) (ty : Ty) → sum (read_sizes h place ty) ≤ own h k ty
read_words h true k ty = let e = one_words h k ty in omega (arith, e)
read_words h false k ty = omega arith

-- a call is of its function's result
call_words : (h : Shape) (z : Scene) (f : ℕ) (xs : TExprTs) (ty : Ty) → h.functions ≡ z.functions → Calls (slice_get z.functions f) xs ty → result_of h f ≡ ty
call_words h z f xs ty e is = ap (λ fs. option_map_or (λ (g : TFunctionT). g.gives) (slice_get fs f) VoidY) e ∙ by (slice_get z.functions f) is
  where
    by : (o : Option TFunctionT) → Calls o xs ty → option_map_or (λ (g : TFunctionT). g.gives) o VoidY ≡ ty
    by None is = absurd is
    by (Some g) is = is.gives

mutual
  sizes_words : (z : Scene) (h : Shape) → h.functions ≡ z.functions → (x : TExprT) → IsTyped z x → sum (sizes h x) ≤ over (own h) x
  sizes_words z h r (Typed kind ty span) is = let k = kind_words z h r kind ty is.1 in omega (arith, k)

  value_words : (z : Scene) (h : Shape) → h.functions ≡ z.functions → (x : TExprT) → IsTyped z x → sum (value_sizes h x) ≤ over (own h) x
  value_words z h r (Typed kind ty span) is =
      let k = kind_words z h r kind ty is.1 in
      let e = sum_both (sizes_of h kind) (read_sizes h (is_place_kind kind) ty) in
      omega (arith, k, e)

  kind_words : (z : Scene) (h : Shape) → h.functions ≡ z.functions → (k : TKindT) (ty : Ty) → IsKind z k ty → sum (sizes_of h k) + sum (read_sizes h (is_place_kind k) ty) ≤ own h k ty + over_kind (own h) k
  kind_words z h r (NumberK x) ty is = omega arith
  kind_words z h r NullK ty is = omega arith
  kind_words z h r (LiteralK number) ty is = let p = read_words h true (LiteralK number) ty in omega (arith, p)
  kind_words z h r (GlobalK number) ty is = let p = read_words h true (GlobalK number) ty in omega (arith, p)
  kind_words z h r (LocalK number) ty is = let p = read_words h true (LocalK number) ty in omega (arith, p)
  kind_words z h r (UnaryK un.Deref x) ty is = let p = read_words h true (UnaryK un.Deref x) ty in let a = value_words z h r x is.0 in omega (arith, p, a)
  kind_words z h r (UnaryK un.Address x) ty is = let a = sizes_words z h r x is.0 in omega (arith, a)
  kind_words z h r (UnaryK un.Not x) ty is = let a = value_words z h r x is.0 in omega (arith, a)
  kind_words z h r (UnaryK un.Minus x) ty is = let a = value_words z h r x is.0 in omega (arith, a)
  kind_words z h r (UnaryK un.Plus x) ty is = let a = value_words z h r x is.0 in omega (arith, a)
  kind_words z h r (UnaryK un.Flip x) ty is = let a = value_words z h r x is.0 in omega (arith, a)
  kind_words z h r (BinaryK op x y) ty is = let a = value_words z h r x is.0 in let b = value_words z h r y is.2 in let e = sum_both (value_sizes h x) (value_sizes h y) in omega (arith, a, b, e)
  kind_words z h r (AssignK None x y) ty is = let a = sizes_words z h r x is.0 in let b = value_words z h r y is.1 in let e = sum_both (sizes h x) (value_sizes h y) in omega (arith, a, b, e)
  kind_words z h r (AssignK (Some op) x y) ty is = let a = sizes_words z h r x is.0 in let b = value_words z h r y is.1 in let e = sum_both (sizes h x) (value_sizes h y) in omega (arith, a, b, e)
  kind_words z h r (StepK op x) ty is = let a = sizes_words z h r x is.0 in omega (arith, a)
  kind_words z h r (IndexK x y) ty is =
      let p = read_words h true (IndexK x y) ty in
      let a = value_words z h r x is.0 in
      let b = value_words z h r y is.2 in
      let e = sum_both (value_sizes h x) (value_sizes h y) in
      omega (arith, p, a, b, e)
  kind_words z h r (MemberK (Typed kind of span) offset) ty is =
      let p = read_words h (is_place_kind kind) (MemberK (Typed kind of span) offset) ty in
      let a = sizes_words z h r (Typed kind of span) is.0 in
      omega (arith, p, a)
  kind_words z h r (ArrowK x offset) ty is = let p = read_words h true (ArrowK x offset) ty in let a = value_words z h r x is.0 in omega (arith, p, a)
  kind_words z h r (CastK x) ty is = let a = value_words z h r x is.0 in omega (arith, a)
  kind_words z h r (CallK f xs) ty is =
      let a = args_words z h r xs is.0 in
      let e = sum_both (sizes_all h xs) (one_size h (result_of h f)) in
      let o : sum (one_size h (result_of h f)) ≡ own h (CallK f xs) ty = ap (λ t. sum (one_size h t)) (call_words h z f xs ty r is.1) ∙ one_words h (CallK f xs) ty in
      omega (arith, a, e, o)
  kind_words z h r (InK port) ty is = omega arith
  kind_words z h r (OutK port x) ty is = let a = value_words z h r x is.1 in omega (arith, a)
  kind_words z h r WaitK ty is = omega arith
  kind_words z h r HaltK ty is = omega arith
  kind_words z h r CardK ty is = omega arith

  args_words : (z : Scene) (h : Shape) → h.functions ≡ z.functions → (xs : TExprTs) → AreValues z xs → sum (sizes_all h xs) ≤ over_all (own h) xs
  args_words z h r NoX is = omega arith
  args_words z h r (MoreX x xs) is = let a = value_words z h r x is.0 in let b = args_words z h r xs is.2 in let e = sum_both (value_sizes h x) (sizes_all h xs) in omega (arith, a, b, e)

mutual
  init_words : (z : Scene) (h : Shape) → h.functions ≡ z.functions → (g : Bool) (i : TInitT) (o : Option Ty) → FillsAs z g i o → sum (init_sizes h i) ≤ over_init (own h) i
  init_words z h r g (OneI x) None is = absurd is
  init_words z h r g (TextI number) o is = omega arith
  init_words z h r g (ListI items) None is = absurd is
  init_words z h r g (OneI x) (Some ty) is = value_words z h r x (is.0).typed
  init_words z h r g (ListI items) (Some ty) is = inits_words z h r g items (slots_of z.layouts ty) is.1

  inits_words : (z : Scene) (h : Shape) → h.functions ≡ z.functions → (g : Bool) (items : TInitTs) (o : Slots) → FillEach z g items o → sum (inits_sizes h items) ≤ over_inits (own h) items
  inits_words z h r g NoI o is = omega arith
  inits_words z h r g (MoreI i rest) o is =
      let a = init_words z h r g i (next_slot o) is.0 in
      let b = inits_words z h r g rest (later_slots o) is.1 in
      let e = sum_both (init_sizes h i) (inits_sizes h rest) in
      omega (arith, a, b, e)

vars_words : (z : Scene) (h : Shape) → h.functions ≡ z.functions → (g : Bool) (vs : List TVarT) → AreFilled z g vs → sum (vars_sizes h vs) ≤ over_vars (own h) vs
vars_words z h r g [] is = omega arith
vars_words z h r g (v ∷ vs) is =
    let a = init_words z h r g v.init (Some v.ty) (is.0).filled in
    let b = vars_words z h r g vs is.1 in
    let e = sum_both (init_sizes h v.init) (vars_sizes h vs) in
    omega (arith, a, b, e)

test_words : (z : Scene) (h : Shape) → h.functions ≡ z.functions → (x : Option TExprT) → MayTest z x → sum (maybe_sizes h x) ≤ over_maybe (own h) x
test_words z h r None is = omega arith
test_words z h r (Some x) is = value_words z h r x (is.0).typed

step_words : (z : Scene) (h : Shape) → h.functions ≡ z.functions → (x : Option TExprT) → MayValue z x → sum (maybe_sizes h x) ≤ over_maybe (own h) x
step_words z h r None is = omega arith
step_words z h r (Some x) is = value_words z h r x is.typed

mutual
  stmt_words : (z : Scene) (h : Shape) → h.functions ≡ z.functions → (a : TStmtT) (ty : Ty) (br co : Bool) → IsStatement z a ty br co → sum (stmt_sizes h a) ≤ over_statement (own h) a
  stmt_words z h r (BlockZ ks body) ty br co is = stmts_words z h r body ty br co is.1
  stmt_words z h r EmptyZ ty br co is = omega arith
  stmt_words z h r (VarsZ vars) ty br co is = vars_words z h r false vars is
  stmt_words z h r (DoZ x) ty br co is = value_words z h r x is.typed
  stmt_words z h r (IfZ x a rest) ty br co is =
      let p = value_words z h r x ((is.0).0).typed in
      let q = stmt_words z h r a ty br co is.1 in
      let s = other_words z h r rest ty br co is.2 in
      let e = sum_both (value_sizes h x) (stmt_sizes h a ++ other_sizes h rest) in
      let f = sum_both (stmt_sizes h a) (other_sizes h rest) in
      omega (arith, p, q, s, e, f)
  stmt_words z h r (WhileZ x a) ty br co is =
      let p = value_words z h r x ((is.0).0).typed in
      let q = stmt_words z h r a ty true true is.1 in
      let e = sum_both (value_sizes h x) (stmt_sizes h a) in
      omega (arith, p, q, e)
  stmt_words z h r (DoWhileZ a x) ty br co is =
      let p = value_words z h r x ((is.1).0).typed in
      let q = stmt_words z h r a ty true true is.0 in
      let e = sum_both (stmt_sizes h a) (value_sizes h x) in
      omega (arith, p, q, e)
  stmt_words z h r (ForZ ks first test step a) ty br co is =
      let p = other_words z h r first ty br co is.1 in
      let q = test_words z h r test is.2 in
      let s = stmt_words z h r a ty true true is.4 in
      let t = step_words z h r step is.3 in
      let e = sum_both (other_sizes h first) (maybe_sizes h test ++ (stmt_sizes h a ++ maybe_sizes h step)) in
      let f = sum_both (maybe_sizes h test) (stmt_sizes h a ++ maybe_sizes h step) in
      let g = sum_both (stmt_sizes h a) (maybe_sizes h step) in
      omega (arith, p, q, s, t, e, f, g)
  stmt_words z h r (SwitchZ x ks arms) ty br co is =
      let p = value_words z h r x (is.0).typed in
      let q = arms_words z h r arms ty co no_labels is.3 in
      let e = sum_both (value_sizes h x) (arms_sizes h arms) in
      omega (arith, p, q, e)
  stmt_words z h r (ReturnZ None) ty br co is = omega arith
  stmt_words z h r (ReturnZ (Some x)) ty br co is = value_words z h r x (is.0).typed
  stmt_words z h r BreakZ ty br co is = omega arith
  stmt_words z h r ContinueZ ty br co is = omega arith

  other_words : (z : Scene) (h : Shape) → h.functions ≡ z.functions → (a : MaybeZ) (ty : Ty) (br co : Bool) → MayState z a ty br co → sum (other_sizes h a) ≤ over_other (own h) a
  other_words z h r NoneZ ty br co is = omega arith
  other_words z h r (SomeZ a) ty br co is = stmt_words z h r a ty br co is

  stmts_words : (z : Scene) (h : Shape) → h.functions ≡ z.functions → (body : TStmtTs) (ty : Ty) (br co : Bool) → AreStatements z body ty br co → sum (stmts_sizes h body) ≤ over_statements (own h) body
  stmts_words z h r NoZ ty br co is = omega arith
  stmts_words z h r (MoreZ a rest) ty br co is =
      let p = stmt_words z h r a ty br co is.0 in
      let q = stmts_words z h r rest ty br co is.1 in
      let e = sum_both (stmt_sizes h a) (stmts_sizes h rest) in
      omega (arith, p, q, e)

  arm_words : (z : Scene) (h : Shape) → h.functions ≡ z.functions → (a : TArmT) (ty : Ty) (co : Bool) → IsArm z a ty co → sum (arm_sizes h a) ≤ over_arm (own h) a
  arm_words z h r (CaseB label) ty co is = omega arith
  arm_words z h r DefaultB ty co is = omega arith
  arm_words z h r (StmtB a) ty co is = stmt_words z h r a ty true co is

  arms_words : (z : Scene) (h : Shape) → h.functions ≡ z.functions → (arms : TArmTs) (ty : Ty) (co : Bool) (seen : Labels) → AreArms z arms ty co seen → sum (arms_sizes h arms) ≤ over_arms (own h) arms
  arms_words z h r NoB ty co seen is = omega arith
  arms_words z h r (MoreB a rest) ty co seen is =
      let p = arm_words z h r a ty co is.1 in
      let q = arms_words z h r rest ty co (with_label seen a) is.2 in
      let e = sum_both (arm_sizes h a) (arms_sizes h rest) in
      omega (arith, p, q, e)

pub local_words : (p : ProgramT) (f : TFunctionT) → IsFunction (scene p) f → sum (low_function (shape p) f).locals ≤ sum f.locals + structure_words (setting p []) f
local_words p f is =
    let a : sum (stmts_sizes (shape p) f.body) ≤ structure_words (setting p []) f = stmts_words (in_call (scene p) f.locals) (shape p) refl f.body f.gives false false is.body in
    let e = sum_both f.locals (stmts_sizes (shape p) f.body) in
    omega (arith, a, e)
