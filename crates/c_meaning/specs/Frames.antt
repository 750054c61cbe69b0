-- How large the frame of a function may be, and how large it has to be.
use Rattle.std.specs.Prelude.{ℕ, ◌≡◌, ◌+◌, ◌*◌, ◌≤◌, ◌==◌, Bool, true, false, ◌||◌, List, [], ◌∷◌, ◌++◌, length, sum, map, get_or, ◌⊎◌, Option, Some}
use Rattle.std.specs.Prelude.{None, if◌then◌else◌}
use Rattle.c_types.specs.Types.{Ty}
use Rattle.c_types.specs.Typed.{TExprT, Typed, TKindT, NumberK, NullK, LiteralK, GlobalK, LocalK, UnaryK, BinaryK, AssignK, StepK, IndexK, MemberK}
use Rattle.c_types.specs.Typed.{ArrowK, CastK, CallK, InK, OutK, WaitK, HaltK, CardK, TExprTs, NoX, MoreX, TInitT, OneI, TextI, ListI, TInitTs, NoI}
use Rattle.c_types.specs.Typed.{MoreI, TVarT, TStmtT, BlockZ, EmptyZ, VarsZ, DoZ, IfZ, WhileZ, DoWhileZ, ForZ, SwitchZ, ReturnZ, BreakZ, ContinueZ}
use Rattle.c_types.specs.Typed.{MaybeZ, NoneZ, SomeZ, TStmtTs, NoZ, MoreZ, TArmT, CaseB, DefaultB, StmtB, TArmTs, NoB, MoreB}
use Rattle.c_types.specs.Programs.{TFunctionT}
use Rattle.c_types.specs.Kinds.{is_structure}
use Rattle.c_meaning.specs.Setting.{Setting, words}

-- ---- a number for each expression, told by its kind and type, added up over a function

abbrev mutual
  pub over : (TKindT → Ty → ℕ) → TExprT → ℕ
  over g (Typed kind ty span) = g kind ty + over_kind g kind

  pub over_kind : (TKindT → Ty → ℕ) → TKindT → ℕ
  over_kind g (NumberK n) = 0
  over_kind g NullK = 0
  over_kind g (LiteralK number) = 0
  over_kind g (GlobalK number) = 0
  over_kind g (LocalK number) = 0
  over_kind g (UnaryK op x) = over g x
  over_kind g (BinaryK op x y) = over g x + over g y
  over_kind g (AssignK op x y) = over g x + over g y
  over_kind g (StepK op x) = over g x
  over_kind g (IndexK x y) = over g x + over g y
  over_kind g (MemberK x offset) = over g x
  over_kind g (ArrowK x offset) = over g x
  over_kind g (CastK x) = over g x
  over_kind g (CallK f xs) = over_all g xs
  over_kind g (InK port) = 0
  over_kind g (OutK port x) = over g x
  over_kind g WaitK = 0
  over_kind g HaltK = 0
  over_kind g CardK = 0

  pub over_all : (TKindT → Ty → ℕ) → TExprTs → ℕ
  over_all g NoX = 0
  over_all g (MoreX x xs) = over g x + over_all g xs

abbrev pub over_maybe : (TKindT → Ty → ℕ) → Option TExprT → ℕ
over_maybe g None = 0
over_maybe g (Some x) = over g x

abbrev mutual
  pub over_init : (TKindT → Ty → ℕ) → TInitT → ℕ
  over_init g (OneI x) = over g x
  over_init g (TextI number) = 0
  over_init g (ListI items) = over_inits g items

  pub over_inits : (TKindT → Ty → ℕ) → TInitTs → ℕ
  over_inits g NoI = 0
  over_inits g (MoreI i rest) = over_init g i + over_inits g rest

abbrev pub over_vars : (TKindT → Ty → ℕ) → List TVarT → ℕ
over_vars g [] = 0
over_vars g (v ∷ vs) = over_init g v.init + over_vars g vs

abbrev mutual
  pub over_statement : (TKindT → Ty → ℕ) → TStmtT → ℕ
  over_statement g (BlockZ made body) = over_statements g body
  over_statement g EmptyZ = 0
  over_statement g (VarsZ vars) = over_vars g vars
  over_statement g (DoZ x) = over g x
  over_statement g (IfZ x a b) = over g x + (over_statement g a + over_other g b)
  over_statement g (WhileZ x a) = over g x + over_statement g a
  over_statement g (DoWhileZ a x) = over_statement g a + over g x
  over_statement g (ForZ made first test step a) = over_other g first + (over_maybe g test + (over_maybe g step + over_statement g a))
  over_statement g (SwitchZ x made arms) = over g x + over_arms g arms
  over_statement g (ReturnZ e) = over_maybe g e
  over_statement g BreakZ = 0
  over_statement g ContinueZ = 0

  pub over_other : (TKindT → Ty → ℕ) → MaybeZ → ℕ
  over_other g NoneZ = 0
  over_other g (SomeZ a) = over_statement g a

  pub over_statements : (TKindT → Ty → ℕ) → TStmtTs → ℕ
  over_statements g NoZ = 0
  over_statements g (MoreZ a rest) = over_statement g a + over_statements g rest

  pub over_arm : (TKindT → Ty → ℕ) → TArmT → ℕ
  over_arm g (CaseB label) = 0
  over_arm g DefaultB = 0
  over_arm g (StmtB a) = over_statement g a

  pub over_arms : (TKindT → Ty → ℕ) → TArmTs → ℕ
  over_arms g NoB = 0
  over_arms g (MoreB a rest) = over_arm g a + over_arms g rest

-- how many expressions a function has, and the words of those that are structures or unions
abbrev pub expressions : TFunctionT → ℕ
expressions f = over_statements (λ kind ty. 1) f.body

abbrev pub structure_words : Setting → TFunctionT → ℕ
structure_words s f = over_statements (λ kind ty. if is_structure ty then words s ty else 0) f.body

-- ---- paths through a function: each condition may go either way, and each switch to any of its labels, or past it where it has no default

-- how a path leaves a statement
pub data Way : Type 0 where
  Onward : Way
  ByBreak : Way
  ByContinue : Way

abbrev pub IsOnward : Way → Type 0
IsOnward Onward = Unit {0}
IsOnward _ = ⊥

abbrev pub IsBreak : Way → Type 0
IsBreak ByBreak = Unit {0}
IsBreak _ = ⊥

abbrev pub IsContinue : Way → Type 0
IsContinue ByContinue = Unit {0}
IsContinue _ = ⊥

abbrev pub HasTest : Option TExprT → Type 0
HasTest None = ⊥
HasTest (Some x) = Unit {0}

abbrev pub HasNoDefault : TArmTs → Type 0
HasNoDefault NoB = Unit {0}
HasNoDefault (MoreB (CaseB label) rest) = HasNoDefault rest
HasNoDefault (MoreB DefaultB rest) = ⊥
HasNoDefault (MoreB (StmtB a) rest) = HasNoDefault rest

abbrev pub IsLabel : TArmT → Type 0
IsLabel (CaseB label) = Unit {0}
IsLabel DefaultB = Unit {0}
IsLabel (StmtB a) = ⊥

-- some path leaves a statement so
abbrev mutual
  pub Leaves : Way → TStmtT → Type 0
  Leaves w (BlockZ made body) = LeavesAll w body
  Leaves w EmptyZ = IsOnward w
  Leaves w (VarsZ vars) = IsOnward w
  Leaves w (DoZ x) = IsOnward w
  Leaves w (IfZ x a b) = Leaves w a ⊎ LeavesOther w b
  Leaves w (WhileZ x a) = IsOnward w
  Leaves w (DoWhileZ a x) = IsOnward w × (Leaves Onward a ⊎ Leaves ByBreak a ⊎ Leaves ByContinue a)
  Leaves w (ForZ made first test step a) = IsOnward w × LeavesOther Onward first × (HasTest test ⊎ Leaves ByBreak a)
  Leaves w (SwitchZ x made arms) = (IsOnward w × (HasNoDefault arms ⊎ LeavesFrom Onward arms ⊎ LeavesFrom ByBreak arms))
      ⊎ (IsContinue w × LeavesFrom ByContinue arms)
  Leaves w (ReturnZ e) = ⊥
  Leaves w BreakZ = IsBreak w
  Leaves w ContinueZ = IsContinue w

  pub LeavesOther : Way → MaybeZ → Type 0
  LeavesOther w NoneZ = IsOnward w
  LeavesOther w (SomeZ a) = Leaves w a

  pub LeavesAll : Way → TStmtTs → Type 0
  LeavesAll w NoZ = IsOnward w
  LeavesAll w (MoreZ a rest) = (Leaves Onward a × LeavesAll w rest) ⊎ ((IsBreak w ⊎ IsContinue w) × Leaves w a)

  pub LeavesArm : Way → TArmT → Type 0
  LeavesArm w (CaseB label) = IsOnward w
  LeavesArm w DefaultB = IsOnward w
  LeavesArm w (StmtB a) = Leaves w a

  pub LeavesArms : Way → TArmTs → Type 0
  LeavesArms w NoB = IsOnward w
  LeavesArms w (MoreB a rest) = (LeavesArm Onward a × LeavesArms w rest) ⊎ ((IsBreak w ⊎ IsContinue w) × LeavesArm w a)

  -- from one of the labels on
  pub LeavesFrom : Way → TArmTs → Type 0
  LeavesFrom w NoB = ⊥
  LeavesFrom w (MoreB a rest) = (IsLabel a × LeavesArms w rest) ⊎ LeavesFrom w rest

-- Some path reaches a point of a statement at which, of the locals that are made inside it, these are made and not yet ended.
abbrev mutual
  pub Reaches : TStmtT → List ℕ → Type 0
  Reaches (BlockZ made body) ks = (js : List ℕ) × (ks ≡ made ++ js) × ReachesAll body js
  Reaches EmptyZ ks = ks ≡ []
  Reaches (VarsZ vars) ks = ks ≡ []
  Reaches (DoZ x) ks = ks ≡ []
  Reaches (IfZ x a b) ks = (ks ≡ []) ⊎ Reaches a ks ⊎ ReachesOther b ks
  Reaches (WhileZ x a) ks = (ks ≡ []) ⊎ Reaches a ks
  Reaches (DoWhileZ a x) ks = (ks ≡ []) ⊎ Reaches a ks
  Reaches (ForZ made first test step a) ks = (js : List ℕ) × (ks ≡ made ++ js)
      × ((js ≡ []) ⊎ ReachesOther first js ⊎ (LeavesOther Onward first × Reaches a js))
  Reaches (SwitchZ x made arms) ks = (js : List ℕ) × (ks ≡ made ++ js) × ((js ≡ []) ⊎ ReachesFrom arms js)
  Reaches (ReturnZ e) ks = ks ≡ []
  Reaches BreakZ ks = ks ≡ []
  Reaches ContinueZ ks = ks ≡ []

  pub ReachesOther : MaybeZ → List ℕ → Type 0
  ReachesOther NoneZ ks = ks ≡ []
  ReachesOther (SomeZ a) ks = Reaches a ks

  pub ReachesAll : TStmtTs → List ℕ → Type 0
  ReachesAll NoZ ks = ks ≡ []
  ReachesAll (MoreZ a rest) ks = Reaches a ks ⊎ (Leaves Onward a × ReachesAll rest ks)

  pub ReachesArm : TArmT → List ℕ → Type 0
  ReachesArm (CaseB label) ks = ks ≡ []
  ReachesArm DefaultB ks = ks ≡ []
  ReachesArm (StmtB a) ks = Reaches a ks

  pub ReachesArms : TArmTs → List ℕ → Type 0
  ReachesArms NoB ks = ks ≡ []
  ReachesArms (MoreB a rest) ks = ReachesArm a ks ⊎ (LeavesArm Onward a × ReachesArms rest ks)

  pub ReachesFrom : TArmTs → List ℕ → Type 0
  ReachesFrom NoB ks = ⊥
  ReachesFrom (MoreB a rest) ks = (IsLabel a × ReachesArms rest ks) ⊎ ReachesFrom rest ks

abbrev pub is_among : ℕ → List ℕ → Bool
is_among k [] = false
is_among k (j ∷ js) = (k == j) || is_among k js

abbrev pub AllAmong : List ℕ → List ℕ → Type 0
AllAmong [] ks = Unit {0}
AllAmong (j ∷ js) ks = (is_among j ks ≡ true) × AllAmong js ks

-- Objects of a call live at once where some path reaches a point at which all are made and not yet ended.
abbrev pub LiveAtOnce : TFunctionT → List ℕ → Type 0
LiveAtOnce f js = (ks : List ℕ) × ReachesAll f.body ks × AllAmong js (f.made ++ ks)

-- ---- frames

-- objects of two words or more: these are arrays, structures and unions
abbrev pub AreLarge : TFunctionT → List ℕ → Type 0
AreLarge f [] = Unit {0}
AreLarge f (j ∷ js) = (2 ≤ get_or f.locals j 0) × AreLarge f js

abbrev pub AreDistinct : List ℕ → Type 0
AreDistinct [] = Unit {0}
AreDistinct (j ∷ js) = (is_among j js ≡ false) × AreDistinct js

-- These are the words of arrays, structures and unions, of two words or more each, that live at once.
pub record LargeAtOnce (f : TFunctionT) (sizes : List ℕ) : Type 0 where
  pub objects : List ℕ
  pub distinct : AreDistinct objects
  pub large : AreLarge f objects
  pub together : LiveAtOnce f objects
  pub words : sizes ≡ map (λ j. get_or f.locals j 0) objects

-- A frame of a function is at most the words of its objects, its parameters, two for each expression, the words of expressions that are
-- structures, and 36; and at least the words of those of its arrays, structures and unions of two words or more that live at once.
pub record FitsFrame (s : Setting) (f : TFunctionT) (size : ℕ) : Type 0 where
  pub at_most : size ≤ sum f.locals + length f.params + 2 * expressions f + structure_words s f + 36
  pub at_least : (sizes : List ℕ) → LargeAtOnce f sizes → sum sizes ≤ size

-- so for each function
abbrev pub EachFits : Setting → List TFunctionT → List ℕ → Type 0
EachFits s [] [] = Unit {0}
EachFits s (f ∷ fs) (size ∷ sizes) = FitsFrame s f size × EachFits s fs sizes
EachFits s _ _ = ⊥
