-- What every checked program is: its numbers are in range, its trees are typed by the rules, its limits are kept.
use Rattle.std.specs.Prelude.{◌≡◌, ℕ, ◌+◌, ◌==◌, ◌<◌, ◌≤◌, Bool, true, false, ◌&&◌, ◌||◌, not, List, [], ◌∷◌, ◌++◌, length, map, sum, sum_by, nat_le}
use Rattle.std.specs.Prelude.{slice_get, Option, Some, None, option_map, Ok}
use Rattle.std.specs.List.{list_any}
use Rattle.v32_isa.specs.Ports.{is_readable, is_writable}
use Rattle.c_types.specs.Types.{Ty, VoidY, IntY, BoolY, EnumY, StructY, UnionY, PointerY, ArrayY, MemberT, LayoutT}
use Rattle.c_types.specs.Typed.{TExprT, Typed, TKindT, NumberK, NullK, LiteralK, GlobalK, LocalK, UnaryK, BinaryK, AssignK, StepK, IndexK, MemberK}
use Rattle.c_types.specs.Typed.{ArrowK, CastK, CallK, InK, OutK, WaitK, HaltK, CardK, TExprTs, NoX, MoreX, TInitT, OneI, TextI, ListI, TInitTs, NoI}
use Rattle.c_types.specs.Typed.{MoreI, TVarT, TStmtT, BlockZ, EmptyZ, VarsZ, DoZ, IfZ, WhileZ, DoWhileZ, ForZ, SwitchZ, ReturnZ, BreakZ, ContinueZ}
use Rattle.c_types.specs.Typed.{MaybeZ, NoneZ, SomeZ, TStmtTs, NoZ, MoreZ, TArmT, CaseB, DefaultB, StmtB, TArmTs, NoB, MoreB}
use Rattle.c_types.specs.Sizes.{words_of, IsPlaced}
use Rattle.c_rules.specs.Kinds.{is_int, is_array, is_number, holds, same_type, converts}
use Rattle.c_types.specs.Kinds.{is_structure, decayed, pointed}
use Rattle.c_rules.specs.Rules.{judged}
use Rattle.c_rules.specs.Sizes.{is_whole, type_limit}
use Rattle.c_rules.specs.Nodes.{needs_place, unary_rule, binary_rule, assign_rule, compound_rule, step_rule, index_rule, cast_rule}
use Rattle.c_exprs.specs.Env.{Text}
use Rattle.c_exprs.specs.Faults.{text_words, text_limit}
use Rattle.c_exprs.specs.Nodes.{type_of_typed, is_place, value_rule, layout_of, layout_behind}
use Rattle.c_exprs.specs.Calls.{all_convert}
use Rattle.c_types.specs.Lists.{listed}
use Rattle.c_stmts.specs.Slots.{Slots, NoSlots, slots_of, next_slot, later_slots, is_fixed}
use Rattle.c_stmts.specs.State.{locals_limit, is_condition_of, Labels, no_labels, is_case, with_label}
use Rattle.c_check.specs.Words.{is_word}
use Rattle.c_check.specs.Reading.{has_members, parameter_rule, result_rule, globals_limit}
use Rattle.c_types.specs.Programs.{TFunctionT, ProgramT}
use Rattle.c_check.specs.Whole.{is_plain}
use Rattle.c_facts.specs.Made.{IsMadeOnce}

-- What the trees of a function, or those that fill the globals, name. `whole` tells by their numbers which structures and unions are
-- declared whole; `locals` are the sizes of the objects of a call. The types of the globals, and those of the objects of the call, are told by
-- their numbers, or not told.
pub record Scene : Type 0 where
  pub layouts : List LayoutT
  pub whole : List Bool
  pub globals : List (Text × ℕ)
  pub global_types : Option (List Ty)
  pub literals : List Text
  pub functions : List TFunctionT
  pub locals : List ℕ
  pub local_types : Option (List Ty)

-- ---- types

-- whether the layout of that number is a union's, where there is one
abbrev pub kind_at : List LayoutT → ℕ → Option Bool
kind_at layouts number = option_map (λ (l : LayoutT). l.is_union) (slice_get layouts number)

-- The structures and unions that a type names are there, and are that; an array has elements, whose size is known, and is no larger than a
-- type may be.
abbrev pub IsKnown : List LayoutT → List Bool → Ty → Type 0
IsKnown layouts whole VoidY = Unit {0}
IsKnown layouts whole IntY = Unit {0}
IsKnown layouts whole BoolY = Unit {0}
IsKnown layouts whole (EnumY number) = Unit {0}
IsKnown layouts whole (StructY number) = kind_at layouts number ≡ Some false
IsKnown layouts whole (UnionY number) = kind_at layouts number ≡ Some true
IsKnown layouts whole (PointerY to) = IsKnown layouts whole to
IsKnown layouts whole (ArrayY of count) =
    IsKnown layouts whole of × (is_whole whole of ≡ true) × (0 < count) × (words_of layouts (ArrayY of count) ≤ type_limit)

-- what an object, a member or a parameter may be: a type that has words, of which the size is known
pub record IsSized (layouts : List LayoutT) (whole : List Bool) (ty : Ty) : Type 0 where
  pub known : IsKnown layouts whole ty
  pub sized : is_whole whole ty ≡ true

-- ---- expressions

-- a structure or union is a value where it is whole and not too large
abbrev pub IsValue : Scene → Ty → Type 0
IsValue s ty = judged (value_rule s.layouts s.whole ty) ≡ Ok tt

abbrev pub IsUsed : Scene → Bool → Ty → Type 0
IsUsed s true ty = Unit {0}
IsUsed s false ty = IsValue s ty

-- a member of this type that begins at this word
abbrev pub is_member : ℕ → Ty → MemberT → Bool
is_member offset ty m = (m.offset == offset) && same_type m.ty ty

abbrev pub has_member : Option LayoutT → ℕ → Ty → Bool
has_member l offset ty = holds (λ k. list_any (is_member offset ty) k.members) l

-- A text is an array of its words, the last one 0.
abbrev pub text_type : Text → Ty
text_type t = ArrayY IntY (length t + 1)

abbrev pub IsLiteral : Scene → ℕ → Ty → Type 0
IsLiteral s number ty = option_map text_type (slice_get s.literals number) ≡ Some ty

-- Where types of objects are told, the one of that number has this type.
abbrev pub IsOfType : Option (List Ty) → ℕ → Ty → Type 0
IsOfType None number ty = Unit {0}
IsOfType (Some types) number ty = slice_get types number ≡ Some ty

-- An object has as many words as its type, which is the one that is told of it.
abbrev pub IsGlobal : Scene → ℕ → Ty → Type 0
IsGlobal s number ty = (option_map (λ (g : Text × ℕ). g.1) (slice_get s.globals number) ≡ Some (words_of s.layouts ty)) × IsOfType s.global_types number ty

abbrev pub IsLocal : Scene → ℕ → Ty → Type 0
IsLocal s number ty = (slice_get s.locals number ≡ Some (words_of s.layouts ty)) × IsOfType s.local_types number ty

-- The arguments of a call of that function become its parameters, one by one.
pub record IsCall (f : TFunctionT) (xs : TExprTs) (ty : Ty) : Type 0 where
  pub convert : all_convert (listed xs) f.params ≡ true
  pub count : length (listed xs) ≡ length f.params
  pub gives : f.gives ≡ ty

-- and the function is there
abbrev pub Calls : Option TFunctionT → TExprTs → Ty → Type 0
Calls None xs ty = ⊥
Calls (Some f) xs ty = IsCall f xs ty

-- An expression of this kind has this type: its parts are so, and the rule of the node gives the type.
abbrev mutual
  pub IsTyped : Scene → TExprT → Type 0
  IsTyped s (Typed kind ty span) = IsKnown s.layouts s.whole ty × IsKind s kind ty

  pub IsKind : Scene → TKindT → Ty → Type 0
  IsKind s (NumberK n) ty = ty ≡ IntY
  IsKind s NullK ty = ty ≡ PointerY VoidY
  IsKind s (LiteralK number) ty = IsLiteral s number ty
  IsKind s (GlobalK number) ty = IsGlobal s number ty
  IsKind s (LocalK number) ty = IsLocal s number ty
  IsKind s (UnaryK op x) ty = IsTyped s x × IsUsed s (needs_place op) (type_of_typed x) × (judged (unary_rule op (type_of_typed x) (is_place x)) ≡ Ok ty)
  IsKind s (BinaryK op x y) ty = IsTyped s x × IsValue s (type_of_typed x) × IsTyped s y × IsValue s (type_of_typed y)
      × (judged (binary_rule s.whole op (type_of_typed x) (type_of_typed y)) ≡ Ok ty)
  IsKind s (AssignK None x y) ty = IsTyped s x × IsTyped s y × IsValue s (type_of_typed y)
      × (judged (assign_rule s.layouts s.whole (type_of_typed x) (is_place x) (type_of_typed y)) ≡ Ok ty)
  IsKind s (AssignK (Some op) x y) ty = IsTyped s x × IsTyped s y × IsValue s (type_of_typed y)
      × (judged (compound_rule s.whole op (type_of_typed x) (is_place x) (type_of_typed y)) ≡ Ok ty)
  IsKind s (StepK op x) ty = IsTyped s x × (judged (step_rule s.whole op (type_of_typed x) (is_place x)) ≡ Ok ty)
  IsKind s (IndexK x y) ty = IsTyped s x × IsValue s (type_of_typed x) × IsTyped s y × IsValue s (type_of_typed y)
      × (judged (index_rule s.whole (type_of_typed x) (type_of_typed y)) ≡ Ok ty)
  IsKind s (MemberK x offset) ty = IsTyped s x × (has_member (layout_of s.layouts (type_of_typed x)) offset ty ≡ true)
      × ((is_place x || not (is_array ty)) ≡ true)
  IsKind s (ArrowK x offset) ty = IsTyped s x × IsValue s (type_of_typed x)
      × (has_member (layout_behind s.layouts (pointed (decayed (type_of_typed x)))) offset ty ≡ true)
  IsKind s (CastK x) ty = IsTyped s x × IsValue s (type_of_typed x) × (judged (cast_rule (type_of_typed x) ty) ≡ Ok ty)
  IsKind s (CallK number xs) ty = AreValues s xs × Calls (slice_get s.functions number) xs ty
  IsKind s (InK number) ty = (is_readable number ≡ true) × (ty ≡ IntY)
  IsKind s (OutK number x) ty = (is_writable number ≡ true) × IsTyped s x × IsValue s (type_of_typed x) × (is_number (type_of_typed x) ≡ true) × (ty ≡ VoidY)
  IsKind s WaitK ty = ty ≡ VoidY
  IsKind s HaltK ty = ty ≡ VoidY
  IsKind s CardK ty = ty ≡ PointerY IntY

  pub AreValues : Scene → TExprTs → Type 0
  AreValues s NoX = Unit {0}
  AreValues s (MoreX x xs) = IsTyped s x × IsValue s (type_of_typed x) × AreValues s xs

-- an expression whose value is asked for
pub record IsTypedValue (s : Scene) (x : TExprT) : Type 0 where
  pub typed : IsTyped s x
  pub value : IsValue s (type_of_typed x)

-- ---- initialisers

-- A value fills a type that it becomes, which is no array. A global is filled with what is fixed, and not with a structure as a whole.
abbrev pub takes_value : Bool → Ty → TExprT → Bool
takes_value global ty x = not (is_array ty) && converts (type_of_typed x) ty && (not global || (not (is_structure ty) && is_fixed x))

-- An array of int is filled with a text that has room with its 0.
abbrev pub takes_text : Ty → Option Text → Bool
takes_text (ArrayY of count) t = is_int of && holds (λ words. nat_le (length words + 1) count) t
takes_text _ t = false

abbrev pub HasPlaces : Slots → Type 0
HasPlaces NoSlots = ⊥
HasPlaces _ = Unit {0}

-- An initialiser fills an object, or a part of one, of this type; where there is no further part nothing fills it.
abbrev mutual
  pub FillsAs : Scene → Bool → TInitT → Option Ty → Type 0
  FillsAs s global i None = ⊥
  FillsAs s global (OneI x) (Some ty) = IsTypedValue s x × (takes_value global ty x ≡ true)
  FillsAs s global (TextI number) (Some ty) = takes_text ty (slice_get s.literals number) ≡ true
  FillsAs s global (ListI items) (Some ty) = HasPlaces (slots_of s.layouts ty) × FillEach s global items (slots_of s.layouts ty)

  pub FillEach : Scene → Bool → TInitTs → Slots → Type 0
  FillEach s global NoI slots = Unit {0}
  FillEach s global (MoreI i rest) slots = FillsAs s global i (next_slot slots) × FillEach s global rest (later_slots slots)

abbrev pub IsObject : Scene → Bool → ℕ → Ty → Type 0
IsObject s true number ty = IsGlobal s number ty
IsObject s false number ty = IsLocal s number ty

-- a variable that is filled: a global, or one of the function
pub record IsFilled (s : Scene) (global : Bool) (v : TVarT) : Type 0 where
  pub kind : v.global ≡ global
  pub object : IsObject s global v.object v.ty
  pub sized : IsSized s.layouts s.whole v.ty
  pub filled : FillsAs s global v.init (Some v.ty)

abbrev pub AreFilled : Scene → Bool → List TVarT → Type 0
AreFilled s global [] = Unit {0}
AreFilled s global (v ∷ vs) = IsFilled s global v × AreFilled s global vs

-- ---- statements

-- objects of the call in rising order, none below this one
abbrev pub AreObjects : Scene → ℕ → List ℕ → Type 0
AreObjects s least [] = Unit {0}
AreObjects s least (k ∷ ks) = (least ≤ k) × (k < length s.locals) × AreObjects s (k + 1) ks

abbrev pub IsTest : Scene → TExprT → Type 0
IsTest s x = IsTypedValue s x × (is_condition_of x ≡ true)

abbrev pub MayTest : Scene → Option TExprT → Type 0
MayTest s None = Unit {0}
MayTest s (Some x) = IsTest s x

abbrev pub MayValue : Scene → Option TExprT → Type 0
MayValue s None = Unit {0}
MayValue s (Some x) = IsTypedValue s x

abbrev pub Returns : Scene → Ty → Option TExprT → Type 0
Returns s gives None = Unit {0}
Returns s gives (Some x) = IsTypedValue s x × (converts (type_of_typed x) gives ≡ true)

-- a label of a switch that has these labels before it
abbrev pub IsLabel : Labels → TArmT → Type 0
IsLabel seen (CaseB k) = is_case k seen ≡ false
IsLabel seen DefaultB = seen.has_default ≡ false
IsLabel seen (StmtB x) = Unit {0}

-- A statement of a function with this result, where `break` and `continue` may stand or may not.
abbrev mutual
  pub IsStatement : Scene → TStmtT → Ty → Bool → Bool → Type 0
  IsStatement s (BlockZ made body) gives breaks continues = AreObjects s 0 made × AreStatements s body gives breaks continues
  IsStatement s EmptyZ gives breaks continues = Unit {0}
  IsStatement s (VarsZ vars) gives breaks continues = AreFilled s false vars
  IsStatement s (DoZ x) gives breaks continues = IsTypedValue s x
  IsStatement s (IfZ x a b) gives breaks continues = IsTest s x × IsStatement s a gives breaks continues × MayState s b gives breaks continues
  IsStatement s (WhileZ x a) gives breaks continues = IsTest s x × IsStatement s a gives true true
  IsStatement s (DoWhileZ a x) gives breaks continues = IsStatement s a gives true true × IsTest s x
  IsStatement s (ForZ made first test step a) gives breaks continues =
      AreObjects s 0 made × MayState s first gives breaks continues × MayTest s test × MayValue s step × IsStatement s a gives true true
  IsStatement s (SwitchZ x made arms) gives breaks continues =
      IsTypedValue s x × (is_number (type_of_typed x) ≡ true) × AreObjects s 0 made × AreArms s arms gives continues no_labels
  IsStatement s (ReturnZ e) gives breaks continues = Returns s gives e
  IsStatement s BreakZ gives breaks continues = breaks ≡ true
  IsStatement s ContinueZ gives breaks continues = continues ≡ true

  pub MayState : Scene → MaybeZ → Ty → Bool → Bool → Type 0
  MayState s NoneZ gives breaks continues = Unit {0}
  MayState s (SomeZ a) gives breaks continues = IsStatement s a gives breaks continues

  pub AreStatements : Scene → TStmtTs → Ty → Bool → Bool → Type 0
  AreStatements s NoZ gives breaks continues = Unit {0}
  AreStatements s (MoreZ a rest) gives breaks continues = IsStatement s a gives breaks continues × AreStatements s rest gives breaks continues

  -- the arms of a switch, in which `break` may stand
  pub AreArms : Scene → TArmTs → Ty → Bool → Labels → Type 0
  AreArms s NoB gives continues seen = Unit {0}
  AreArms s (MoreB a rest) gives continues seen = IsLabel seen a × IsArm s a gives continues × AreArms s rest gives continues (with_label seen a)

  pub IsArm : Scene → TArmT → Ty → Bool → Type 0
  IsArm s (CaseB k) gives continues = Unit {0}
  IsArm s DefaultB gives continues = Unit {0}
  IsArm s (StmtB a) gives continues = IsStatement s a gives true continues

-- ---- programs

abbrev pub AreSized : List LayoutT → List Bool → List MemberT → Type 0
AreSized layouts whole [] = Unit {0}
AreSized layouts whole (m ∷ ms) = IsSized layouts whole m.ty × AreSized layouts whole ms

-- A structure or union that is declared whole is laid out, has words, and no more than a type may have.
pub record IsLaidOut (layouts : List LayoutT) (whole : List Bool) (l : LayoutT) : Type 0 where
  pub places : IsPlaced layouts l
  pub members : AreSized layouts whole l.members
  pub words : 0 < l.size
  pub size : l.size ≤ type_limit

-- One that has members is declared whole; one that has none has no words.
abbrev pub IsDeclaredAs : List LayoutT → List Bool → LayoutT → Bool → Type 0
IsDeclaredAs layouts whole l true = IsLaidOut layouts whole l
IsDeclaredAs layouts whole l false = l.size ≡ 0

abbrev pub AreDeclaredAs : List LayoutT → List Bool → List LayoutT → Type 0
AreDeclaredAs layouts whole [] = Unit {0}
AreDeclaredAs layouts whole (l ∷ ls) = IsDeclaredAs layouts whole l (has_members l) × AreDeclaredAs layouts whole ls

-- The objects of a call: its parameters first, each with the words of its rule, then its variables with at most so many words.
abbrev pub AreCallObjects : List LayoutT → List Bool → List Ty → List ℕ → Type 0
AreCallObjects layouts whole [] sizes = sum sizes ≤ locals_limit
AreCallObjects layouts whole (ty ∷ tys) [] = ⊥
AreCallObjects layouts whole (ty ∷ tys) (n ∷ ns) =
    IsKnown layouts whole ty × (judged (parameter_rule layouts whole ty) ≡ Ok n) × AreCallObjects layouts whole tys ns

-- inside a call whose objects have these sizes, and these types where they are told
abbrev pub calling : Scene → List ℕ → Option (List Ty) → Scene
calling s sizes types = record s { locals = sizes; local_types = types }

abbrev pub in_call : Scene → List ℕ → Scene
in_call s sizes = calling s sizes None

-- each has a word at least
abbrev pub AllHaveWords : List ℕ → Type 0
AllHaveWords [] = Unit {0}
AllHaveWords (n ∷ ns) = (1 ≤ n) × AllHaveWords ns

pub record IsFunction (s : Scene) (f : TFunctionT) : Type 0 where
  pub word : is_word f.name ≡ true
  pub known : IsKnown s.layouts s.whole f.gives
  pub result : judged (result_rule s.layouts s.whole f.gives) ≡ Ok tt
  pub objects : AreCallObjects s.layouts s.whole f.params f.locals
  pub words : AllHaveWords f.locals
  pub made : IsMadeOnce f
  pub rising : AreObjects (in_call s f.locals) 0 f.made
  pub body : AreStatements (in_call s f.locals) f.body f.gives false false

abbrev pub AreFunctions : Scene → List TFunctionT → Type 0
AreFunctions s [] = Unit {0}
AreFunctions s (f ∷ fs) = IsFunction s f × AreFunctions s fs

-- the statements that fill the globals
abbrev pub FillsGlobals : Scene → TStmtT → Type 0
FillsGlobals s (VarsZ vars) = AreFilled s true vars
FillsGlobals s _ = ⊥

abbrev pub FillGlobals : Scene → List TStmtT → Type 0
FillGlobals s [] = Unit {0}
FillGlobals s (x ∷ xs) = FillsGlobals s x × FillGlobals s xs

-- which structures and unions are declared whole, by their numbers
abbrev pub wholes : List LayoutT → List Bool
wholes layouts = map has_members layouts

-- what the trees of a program name outside functions
abbrev pub scene : ProgramT → Scene
scene p = record {
  layouts = p.layouts;
  whole = wholes p.layouts;
  globals = p.globals;
  global_types = None;
  literals = p.literals;
  functions = p.functions;
  locals = [];
  local_types = None;
}

-- ---- the types of objects

-- The objects of a call have types: its parameters first, with their own, then its variables with these. Their sizes are the words of their
-- types, and the body is typed where they are told: each mention of an object has the type of its number.
pub record HasTypedObjects (s : Scene) (f : TFunctionT) : Type 0 where
  pub variables : List Ty
  pub sizes : f.locals ≡ map (words_of s.layouts) (f.params ++ variables)
  pub body : AreStatements (calling s f.locals (Some (f.params ++ variables))) f.body f.gives false false

abbrev pub HaveTypedObjects : Scene → List TFunctionT → Type 0
HaveTypedObjects s [] = Unit {0}
HaveTypedObjects s (f ∷ fs) = HasTypedObjects s f × HaveTypedObjects s fs

abbrev pub with_types : Scene → List Ty → Scene
with_types s types = record s { global_types = Some types }

-- So have the globals: all trees of the program are typed where the types of globals are told, and in each function those of the objects of
-- its call too.
pub record HasObjectTypes (p : ProgramT) : Type 0 where
  pub globals : List Ty
  pub sizes : map (λ g. g.1) p.globals ≡ map (words_of p.layouts) globals
  pub inits : FillGlobals (with_types (scene p) globals) p.inits
  pub functions : HaveTypedObjects (with_types (scene p) globals) p.functions

-- no two names are equal
abbrev pub AreApart : List Text → Type 0
AreApart names = (i j : ℕ) (n : Text) → slice_get names i ≡ Some n → slice_get names j ≡ Some n → i ≡ j

pub record IsSound (p : ProgramT) : Type 0 where
  pub layouts : AreDeclaredAs p.layouts (wholes p.layouts) p.layouts
  pub globals : sum_by (λ g. g.1) p.globals ≤ globals_limit
  pub literals : text_words p.literals ≤ text_limit
  pub inits : FillGlobals (scene p) p.inits
  pub functions : AreFunctions (scene p) p.functions
  pub types : ∥ HasObjectTypes p ∥₁
  pub global_names : AreApart (map (λ g. g.0) p.globals)
  pub function_names : AreApart (map (λ f. f.name) p.functions)
  pub main : holds is_plain (slice_get p.functions p.main) ≡ true
