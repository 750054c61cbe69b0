-- Where a function of typed trees takes turns - in loops, in initialisers, in copies of structures and unions - and what it calls.
use Rattle.std.specs.Prelude.{ℕ, ◌≡◌, ◌≢◌, ◌+◌, ◌-◌, ◌*◌, ◌==◌, ◌&&◌, List, [], ◌∷◌, Option, Some, None, if◌then◌else◌}
use Rattle.c_types.specs.Types.{Ty, ArrayY}
use Rattle.c_types.specs.Typed.{TExprT, TKindT, AssignK, CallK, TExprTs, NoX, MoreX, TInitT, OneI, TextI, ListI, TInitTs, NoI, MoreI, TVarT, TStmtT}
use Rattle.c_types.specs.Typed.{BlockZ, EmptyZ, VarsZ, DoZ, IfZ, WhileZ, DoWhileZ, ForZ, SwitchZ, ReturnZ, BreakZ, ContinueZ, MaybeZ, NoneZ, SomeZ}
use Rattle.c_types.specs.Typed.{TStmtTs, NoZ, MoreZ, TArmT, CaseB, DefaultB, StmtB, TArmTs, NoB, MoreB}
use Rattle.c_types.specs.Programs.{TFunctionT}
use Rattle.c_exprs.specs.Nodes.{is_place}
use Rattle.c_meaning.specs.Kinds.{type_of}
use Rattle.c_types.specs.Kinds.{is_structure}
use Rattle.c_types.specs.Parts.{part_type}
use Rattle.c_meaning.specs.Setting.{Setting, words}
use Rattle.c_meaning.specs.Frames.{over, over_statements}

-- ---- structures and unions

abbrev pub if_structure : Ty → ℕ
if_structure ty = if is_structure ty then 1 else 0

-- a structure that is read from a place
abbrev pub reads : TExprT → ℕ
reads x = if is_structure (type_of x) && is_place x then 1 else 0

abbrev pub reads_all : TExprTs → ℕ
reads_all NoX = 0
reads_all (MoreX x xs) = reads x + reads_all xs

-- copies that an expression makes beside those of its parts
abbrev pub copies : TKindT → Ty → ℕ
copies (AssignK op x y) ty = if_structure ty
copies (CallK f xs) ty = reads_all xs
copies _ ty = 0

-- a structure that is passed is stored in its parameter
abbrev pub params_copied : List Ty → ℕ
params_copied [] = 0
params_copied (ty ∷ tys) = if_structure ty + params_copied tys

-- ---- initialisers

-- the elements of an array from a number on
abbrev pub rest_turns : Setting → Ty → (k : ℕ) → ℕ
rest_turns s (ArrayY of len) k = words s of * (len - k)
rest_turns s _ k = 0

abbrev mutual
  pub init_turns : Setting → TInitT → Ty → ℕ
  init_turns s (OneI x) ty = over copies x + if_structure ty
  init_turns s (TextI number) ty = 1
  init_turns s (ListI items) ty = items_turns s items ty 0

  -- the items from the part of that number on
  pub items_turns : Setting → TInitTs → Ty → (k : ℕ) → ℕ
  items_turns s NoI ty k = rest_turns s ty k
  items_turns s (MoreI i rest) ty k = init_turns s i (part_type s.layouts ty k) + items_turns s rest ty (k + 1)

abbrev pub variables_turns : Setting → List TVarT → ℕ
variables_turns s [] = 0
variables_turns s (v ∷ vs) = init_turns s v.init v.ty + variables_turns s vs

-- ---- statements

abbrev pub returned_copies : Option TExprT → ℕ
returned_copies None = 0
returned_copies (Some x) = over copies x + if_structure (type_of x)

abbrev mutual
  pub turns : Setting → TStmtT → ℕ
  turns s (BlockZ made body) = turns_all s body
  turns s EmptyZ = 0
  turns s (VarsZ vars) = variables_turns s vars
  turns s (DoZ x) = over copies x + reads x
  turns s (IfZ x a b) = over copies x + (turns s a + turns_maybe s b)
  turns s (WhileZ x a) = 1
  turns s (DoWhileZ a x) = 1
  turns s (ForZ made first test step a) = 1
  turns s (SwitchZ x made arms) = over copies x + turns_arms s arms
  turns s (ReturnZ x) = returned_copies x
  turns s BreakZ = 0
  turns s ContinueZ = 0

  pub turns_maybe : Setting → MaybeZ → ℕ
  turns_maybe s NoneZ = 0
  turns_maybe s (SomeZ a) = turns s a

  pub turns_all : Setting → TStmtTs → ℕ
  turns_all s NoZ = 0
  turns_all s (MoreZ a rest) = turns s a + turns_all s rest

  pub turns_arm : Setting → TArmT → ℕ
  turns_arm s (CaseB label) = 0
  turns_arm s DefaultB = 0
  turns_arm s (StmtB a) = turns s a

  pub turns_arms : Setting → TArmTs → ℕ
  turns_arms s NoB = 0
  turns_arms s (MoreB a rest) = turns_arm s a + turns_arms s rest

-- no turns are taken anywhere in the function
abbrev pub HasNoLoops : Setting → TFunctionT → Type 0
HasNoLoops s f = params_copied f.params + turns_all s f.body ≡ 0

-- ---- calls

abbrev pub is_call_of : ℕ → TKindT → Ty → ℕ
is_call_of f (CallK g xs) ty = if g == f then 1 else 0
is_call_of f _ ty = 0

-- a call of that function stands in the tree
abbrev pub TreeCalls : ℕ → TFunctionT → Type 0
TreeCalls f g = over_statements (is_call_of f) g.body ≢ 0
