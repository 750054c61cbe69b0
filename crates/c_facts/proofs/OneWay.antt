-- That a program is sound is shown in one way.
use Rattle.std.proofs.Common.{◌≡◌, ℕ, ◌+◌, max, Bool, true, false, List, [], ◌∷◌, Option, Some, None, Result, refl, sym, subst}
use Rattle.std.proofs.Props.{props}
use mathlib.Core.HLevel.{Discrete, hedberg}
use Rattle.std.specs.Prelude.{slice_get}
use Rattle.c_types.specs.Types.{Ty, VoidY, IntY, BoolY, EnumY, StructY, UnionY, PointerY, ArrayY, MemberT, LayoutT}
use Rattle.c_types.specs.Sizes.{words_of, Follow, Overlap, IsPlacedAs}
use Rattle.c_types.specs.Typed.{TExprT, Typed, TKindT, NumberK, NullK, LiteralK, GlobalK, LocalK, UnaryK, BinaryK, AssignK, StepK, IndexK, MemberK, ArrowK, CastK, CallK, InK, OutK, WaitK, HaltK, CardK, TExprTs, NoX, MoreX, TInitT, OneI, TextI, ListI, TInitTs, NoI, MoreI, TVarT, TStmtT, BlockZ, EmptyZ, VarsZ, DoZ, IfZ, WhileZ, DoWhileZ, ForZ, SwitchZ, ReturnZ, BreakZ, ContinueZ, MaybeZ, NoneZ, SomeZ, TStmtTs, NoZ, MoreZ, TArmT, CaseB, DefaultB, StmtB, TArmTs, NoB, MoreB}
use Rattle.c_types.specs.Programs.{TFunctionT, ProgramT}
use Rattle.c_rules.specs.declared.code.Code.{Code}
use Rattle.c_rules.specs.Kinds.{same_type}
use Rattle.c_rules.specs.Nodes.{needs_place}
use Rattle.c_exprs.specs.Nodes.{type_of_typed}
use Rattle.c_stmts.specs.Slots.{Slots, NoSlots, Elements, Members, slots_of, next_slot, later_slots}
use Rattle.c_stmts.specs.State.{Labels, no_labels, with_label}
use Rattle.c_check.specs.Reading.{has_members}
use Rattle.std.proofs.Math.Logic.{∥∥₁_prop}
use Rattle.c_facts.specs.Sound.{Scene, IsKnown, IsOfType, IsSized, IsValue, IsUsed, Calls, IsTyped, IsKind, AreValues, IsTypedValue, HasPlaces, FillsAs, FillEach, IsObject, IsFilled, AreFilled, AreObjects, IsTest, MayTest, MayValue, Returns, IsLabel, IsStatement, MayState, AreStatements, AreArms, IsArm, AreSized, IsLaidOut, IsDeclaredAs, AreDeclaredAs, AreCallObjects, AllHaveWords, in_call, IsFunction, AreFunctions, FillsGlobals, FillGlobals, wholes, scene, IsSound}
use Rattle.c_facts.proofs.Equal.{types_equal}
use Rattle.c_facts.proofs.Lookups.{same_itself}

-- types have one equality
ty_decided : Discrete Ty
ty_decided a b = by (same_type a b) refl
  where
    by : (t : Bool) → same_type a b ≡ t → Dec (a ≡ b)
    by true h = yes (types_equal a b h)
    by false h = no (λ e. let g : same_type a a ≡ false = subst (λ c. same_type a c ≡ false) (sym e) h in let k = same_itself a in absurd cc)

pub ty_set : IsSet Ty
ty_set = hedberg ty_decided

code_set : IsSet Code
code_set = hlevel props

answer_one : (r q : Result Ty Code) → IsProp (r ≡ q)
answer_one r q = hlevel (props, ty_set, code_set)

known_one : (layouts : List LayoutT) (whole : List Bool) (ty : Ty) → IsProp (IsKnown layouts whole ty)
known_one layouts whole VoidY = hlevel props
known_one layouts whole IntY = hlevel props
known_one layouts whole BoolY = hlevel props
known_one layouts whole (EnumY number) = hlevel props
known_one layouts whole (StructY number) = hlevel props
known_one layouts whole (UnionY number) = hlevel props
known_one layouts whole (PointerY to) = known_one layouts whole to
known_one layouts whole (ArrayY of count) = hlevel (props, known_one layouts whole of)

-- ---- expressions

of_type_one : (o : Option (List Ty)) (number : ℕ) (ty : Ty) → IsProp (IsOfType o number ty)
of_type_one None number ty = hlevel props
of_type_one (Some types) number ty = hlevel (props, ty_set)

value_one : (s : Scene) (ty : Ty) → IsProp (IsValue s ty)
value_one s ty = hlevel (props, code_set)

used_one : (s : Scene) (kept : Bool) (ty : Ty) → IsProp (IsUsed s kept ty)
used_one s true ty = hlevel props
used_one s false ty = value_one s ty

call_one : (o : Option TFunctionT) (xs : TExprTs) (ty : Ty) → IsProp (Calls o xs ty)
call_one None xs ty = hlevel props
call_one (Some f) xs ty = hlevel (props, ty_set)

mutual
  pub typed_one : (s : Scene) (x : TExprT) → IsProp (IsTyped s x)
  typed_one s (Typed kind ty span) = hlevel (props, known_one s.layouts s.whole ty, kind_one s kind ty)

  kind_one : (s : Scene) (kind : TKindT) (ty : Ty) → IsProp (IsKind s kind ty)
  kind_one s (NumberK n) ty = hlevel (props, ty_set)
  kind_one s NullK ty = hlevel (props, ty_set)
  kind_one s (LiteralK number) ty = hlevel (props, ty_set)
  kind_one s (GlobalK number) ty = hlevel (props, of_type_one s.global_types number ty)
  kind_one s (LocalK number) ty = hlevel (props, of_type_one s.local_types number ty)
  kind_one s (UnaryK op x) ty = hlevel (props, typed_one s x, used_one s (needs_place op) (type_of_typed x), answer_one)
  kind_one s (BinaryK op x y) ty = hlevel (props, typed_one s x, typed_one s y, value_one s, answer_one)
  kind_one s (AssignK None x y) ty = hlevel (props, typed_one s x, typed_one s y, value_one s, answer_one)
  kind_one s (AssignK (Some op) x y) ty = hlevel (props, typed_one s x, typed_one s y, value_one s, answer_one)
  kind_one s (StepK op x) ty = hlevel (props, typed_one s x, answer_one)
  kind_one s (IndexK x y) ty = hlevel (props, typed_one s x, typed_one s y, value_one s, answer_one)
  kind_one s (MemberK x offset) ty = hlevel (props, typed_one s x)
  kind_one s (ArrowK x offset) ty = hlevel (props, typed_one s x, value_one s)
  kind_one s (CastK x) ty = hlevel (props, typed_one s x, value_one s, answer_one)
  kind_one s (CallK number xs) ty = hlevel (props, values_one s xs, call_one (slice_get s.functions number) xs ty)
  kind_one s (InK number) ty = hlevel (props, ty_set)
  kind_one s (OutK number x) ty = hlevel (props, typed_one s x, value_one s, ty_set)
  kind_one s WaitK ty = hlevel (props, ty_set)
  kind_one s HaltK ty = hlevel (props, ty_set)
  kind_one s CardK ty = hlevel (props, ty_set)

  values_one : (s : Scene) (xs : TExprTs) → IsProp (AreValues s xs)
  values_one s NoX = hlevel props
  values_one s (MoreX x xs) = hlevel (props, typed_one s x, value_one s, values_one s xs)

typed_value_one : (s : Scene) (x : TExprT) → IsProp (IsTypedValue s x)
typed_value_one s x = hlevel (props, typed_one s x, value_one s (type_of_typed x))

-- ---- initialisers

places_one : (slots : Slots) → IsProp (HasPlaces slots)
places_one NoSlots = hlevel props
places_one (Elements of left) = hlevel props
places_one (Members tys) = hlevel props

mutual
  fills_one : (s : Scene) (global : Bool) (i : TInitT) (target : Option Ty) → IsProp (FillsAs s global i target)
  fills_one s global (OneI x) None = hlevel props
  fills_one s global (TextI number) None = hlevel props
  fills_one s global (ListI items) None = hlevel props
  fills_one s global (OneI x) (Some ty) = hlevel (props, typed_value_one s x)
  fills_one s global (TextI number) (Some ty) = hlevel props
  fills_one s global (ListI items) (Some ty) = hlevel (props, places_one (slots_of s.layouts ty), fill_each_one s global items (slots_of s.layouts ty))

  fill_each_one : (s : Scene) (global : Bool) (items : TInitTs) (slots : Slots) → IsProp (FillEach s global items slots)
  fill_each_one s global NoI slots = hlevel props
  fill_each_one s global (MoreI i rest) slots = hlevel (props, fills_one s global i (next_slot slots), fill_each_one s global rest (later_slots slots))

object_one : (s : Scene) (global : Bool) (number : ℕ) (ty : Ty) → IsProp (IsObject s global number ty)
object_one s true number ty = hlevel (props, of_type_one s.global_types number ty)
object_one s false number ty = hlevel (props, of_type_one s.local_types number ty)

sized_one : (layouts : List LayoutT) (whole : List Bool) (ty : Ty) → IsProp (IsSized layouts whole ty)
sized_one layouts whole ty = hlevel (props, known_one layouts whole ty)

filled_one : (s : Scene) (global : Bool) (v : TVarT) → IsProp (IsFilled s global v)
filled_one s global v = hlevel (props, object_one s global v.object v.ty, sized_one s.layouts s.whole v.ty, fills_one s global v.init (Some v.ty))

all_filled_one : (s : Scene) (global : Bool) (vs : List TVarT) → IsProp (AreFilled s global vs)
all_filled_one s global [] = hlevel props
all_filled_one s global (v ∷ vs) = hlevel (props, filled_one s global v, all_filled_one s global vs)

-- ---- statements

objects_one : (s : Scene) (low : ℕ) (ks : List ℕ) → IsProp (AreObjects s low ks)
objects_one s low [] = hlevel props
objects_one s low (k ∷ ks) = hlevel (props, objects_one s (k + 1) ks)

test_one : (s : Scene) (x : TExprT) → IsProp (IsTest s x)
test_one s x = hlevel (props, typed_value_one s x)

may_test_one : (s : Scene) (x : Option TExprT) → IsProp (MayTest s x)
may_test_one s None = hlevel props
may_test_one s (Some x) = test_one s x

may_value_one : (s : Scene) (x : Option TExprT) → IsProp (MayValue s x)
may_value_one s None = hlevel props
may_value_one s (Some x) = typed_value_one s x

returns_one : (s : Scene) (gives : Ty) (x : Option TExprT) → IsProp (Returns s gives x)
returns_one s gives None = hlevel props
returns_one s gives (Some x) = hlevel (props, typed_value_one s x)

label_one : (seen : Labels) (a : TArmT) → IsProp (IsLabel seen a)
label_one seen (CaseB k) = hlevel props
label_one seen DefaultB = hlevel props
label_one seen (StmtB x) = hlevel props

mutual
  statement_one : (s : Scene) (x : TStmtT) (gives : Ty) (b c : Bool) → IsProp (IsStatement s x gives b c)
  statement_one s (BlockZ made body) gives b c = hlevel (props, objects_one s 0 made, statements_one s body gives b c)
  statement_one s EmptyZ gives b c = hlevel props
  statement_one s (VarsZ vars) gives b c = all_filled_one s false vars
  statement_one s (DoZ x) gives b c = typed_value_one s x
  statement_one s (IfZ x y z) gives b c = hlevel (props, test_one s x, statement_one s y gives b c, may_state_one s z gives b c)
  statement_one s (WhileZ x y) gives b c = hlevel (props, test_one s x, statement_one s y gives true true)
  statement_one s (DoWhileZ y x) gives b c = hlevel (props, test_one s x, statement_one s y gives true true)
  statement_one s (ForZ made first test step y) gives b c = hlevel (props, objects_one s 0 made, may_state_one s first gives b c, may_test_one s test, may_value_one s step, statement_one s y gives true true)
  statement_one s (SwitchZ x made arms) gives b c = hlevel (props, typed_value_one s x, objects_one s 0 made, arms_one s arms gives c no_labels)
  statement_one s (ReturnZ e) gives b c = returns_one s gives e
  statement_one s BreakZ gives b c = hlevel props
  statement_one s ContinueZ gives b c = hlevel props

  may_state_one : (s : Scene) (x : MaybeZ) (gives : Ty) (b c : Bool) → IsProp (MayState s x gives b c)
  may_state_one s NoneZ gives b c = hlevel props
  may_state_one s (SomeZ x) gives b c = statement_one s x gives b c

  statements_one : (s : Scene) (xs : TStmtTs) (gives : Ty) (b c : Bool) → IsProp (AreStatements s xs gives b c)
  statements_one s NoZ gives b c = hlevel props
  statements_one s (MoreZ x xs) gives b c = hlevel (props, statement_one s x gives b c, statements_one s xs gives b c)

  arms_one : (s : Scene) (xs : TArmTs) (gives : Ty) (c : Bool) (seen : Labels) → IsProp (AreArms s xs gives c seen)
  arms_one s NoB gives c seen = hlevel props
  arms_one s (MoreB x xs) gives c seen = hlevel (props, label_one seen x, arm_one s x gives c, arms_one s xs gives c (with_label seen x))

  arm_one : (s : Scene) (x : TArmT) (gives : Ty) (c : Bool) → IsProp (IsArm s x gives c)
  arm_one s (CaseB k) gives c = hlevel props
  arm_one s DefaultB gives c = hlevel props
  arm_one s (StmtB x) gives c = statement_one s x gives true c

-- ---- programs

follow_one : (layouts : List LayoutT) (start end : ℕ) (ms : List MemberT) → IsProp (Follow layouts start ms end)
follow_one layouts start end [] = hlevel props
follow_one layouts start end (m ∷ ms) = hlevel (props, follow_one layouts (start + words_of layouts m.ty) end ms)

overlap_one : (layouts : List LayoutT) (greatest size : ℕ) (ms : List MemberT) → IsProp (Overlap layouts greatest ms size)
overlap_one layouts greatest size [] = hlevel props
overlap_one layouts greatest size (m ∷ ms) = hlevel (props, overlap_one layouts (max greatest (words_of layouts m.ty)) size ms)

placed_one : (layouts : List LayoutT) (l : LayoutT) (u : Bool) → IsProp (IsPlacedAs layouts l u)
placed_one layouts l true = overlap_one layouts 0 l.size l.members
placed_one layouts l false = follow_one layouts 0 l.size l.members

all_sized_one : (layouts : List LayoutT) (whole : List Bool) (ms : List MemberT) → IsProp (AreSized layouts whole ms)
all_sized_one layouts whole [] = hlevel props
all_sized_one layouts whole (m ∷ ms) = hlevel (props, sized_one layouts whole m.ty, all_sized_one layouts whole ms)

laid_one : (layouts : List LayoutT) (whole : List Bool) (l : LayoutT) → IsProp (IsLaidOut layouts whole l)
laid_one layouts whole l = hlevel (props, placed_one layouts l l.is_union, all_sized_one layouts whole l.members)

declared_one : (layouts : List LayoutT) (whole : List Bool) (l : LayoutT) (w : Bool) → IsProp (IsDeclaredAs layouts whole l w)
declared_one layouts whole l true = laid_one layouts whole l
declared_one layouts whole l false = hlevel props

all_declared_one : (layouts : List LayoutT) (whole : List Bool) (ls : List LayoutT) → IsProp (AreDeclaredAs layouts whole ls)
all_declared_one layouts whole [] = hlevel props
all_declared_one layouts whole (l ∷ ls) = hlevel (props, declared_one layouts whole l (has_members l), all_declared_one layouts whole ls)

call_objects_one : (layouts : List LayoutT) (whole : List Bool) (tys : List Ty) (ns : List ℕ) → IsProp (AreCallObjects layouts whole tys ns)
call_objects_one layouts whole [] ns = hlevel props
call_objects_one layouts whole (ty ∷ tys) [] = hlevel props
call_objects_one layouts whole (ty ∷ tys) (n ∷ ns) = hlevel (props, code_set, known_one layouts whole ty, call_objects_one layouts whole tys ns)

words_one : (ns : List ℕ) → IsProp (AllHaveWords ns)
words_one [] = hlevel props
words_one (n ∷ ns) = hlevel (props, words_one ns)

function_one : (s : Scene) (f : TFunctionT) → IsProp (IsFunction s f)
function_one s f = hlevel (props, code_set, known_one s.layouts s.whole f.gives, call_objects_one s.layouts s.whole f.params f.locals, words_one f.locals, objects_one (in_call s f.locals) 0 f.made, statements_one (in_call s f.locals) f.body f.gives false false)

functions_one : (s : Scene) (fs : List TFunctionT) → IsProp (AreFunctions s fs)
functions_one s [] = hlevel props
functions_one s (f ∷ fs) = hlevel (props, function_one s f, functions_one s fs)

init_one : (s : Scene) (x : TStmtT) → IsProp (FillsGlobals s x)
init_one s (VarsZ vars) = all_filled_one s true vars
init_one s x = hlevel props

inits_one : (s : Scene) (xs : List TStmtT) → IsProp (FillGlobals s xs)
inits_one s [] = hlevel props
inits_one s (x ∷ xs) = hlevel (props, init_one s x, inits_one s xs)

pub sound_one : (p : ProgramT) → IsProp (IsSound p)
sound_one p = hlevel (props, ∥∥₁_prop, all_declared_one p.layouts (wholes p.layouts) p.layouts, inits_one (scene p) p.inits, functions_one (scene p) p.functions)
