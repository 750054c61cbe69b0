-- The rules of nodes that look at names, members and constants.
use Rattle.std.specs.Prelude.{ℕ, Bool, true, false, ◌||◌, not, List, [], ◌∷◌, slice_get, Option, Some, None, option_and_then, Result, Ok, Err, if◌then◌else◌}
use Rattle.c_tree.specs.declared.span.Span.{Span}
use Rattle.c_tree.specs.declared.operator.UnOp.TheVariants.{Deref}
use Rattle.c_tree.specs.Tree.{ExprT, NameE, NumberE, TextE, NullE, ParenE, UnaryE, BinaryE, AssignE, StepE, IndexE, MemberE, ArrowE, CallE, CastE, SizeOfE}
use Rattle.c_types.specs.Types.{Ty, IntY, StructY, UnionY, MemberT, LayoutT}
use Rattle.c_types.specs.Sizes.{member_named}
use Rattle.c_types.specs.Typed.{TExprT, Typed, TKindT, NumberK, LiteralK, GlobalK, LocalK, UnaryK, BinaryK, IndexK, MemberK, ArrowK}
use Rattle.c_rules.specs.declared.code.Code.{Code}
use Rattle.c_rules.specs.declared.code.Code.TheVariants.{UnknownName, Twice, WrongType, NotAPlace, InfiniteType, TooLarge}
use Rattle.c_rules.specs.Kinds.{is_array}
use Rattle.c_types.specs.Kinds.{is_structure, decayed, pointed}
use Rattle.c_rules.specs.Sizes.{is_whole, fits, value_limit}
use Rattle.c_rules.specs.Rules.{Rule, demand}
use Rattle.c_rules.specs.Constants.{constant_unary, constant_binary}
use Rattle.c_exprs.specs.Env.{Text, find, find_in, LocalD, Decl, TypeD, ConstantD, GlobalD, FunctionD, Ctx}
use Rattle.c_exprs.specs.declared.intrinsics.Intrinsic.{Intrinsic}
use Rattle.c_exprs.specs.Intrinsics.{intrinsic}

abbrev pub type_of_typed : TExprT → Ty
type_of_typed (Typed kind ty s) = ty

abbrev pub kind_of_typed : TExprT → TKindT
kind_of_typed (Typed kind ty s) = kind

abbrev pub span_of : ExprT → Span
span_of (NameE n s) = s
span_of (NumberE n s) = s
span_of (TextE t s) = s
span_of (NullE s) = s
span_of (ParenE a s) = s
span_of (UnaryE op a s) = s
span_of (BinaryE op a b s) = s
span_of (AssignE op a b s) = s
span_of (StepE op a s) = s
span_of (IndexE a b s) = s
span_of (MemberE a n s) = s
span_of (ArrowE a n s) = s
span_of (CallE f args s) = s
span_of (CastE to a s) = s
span_of (SizeOfE of s) = s

-- ---- places and values

-- A place is an object, a text, what `*`, an index and `->` give, and a member of a place.
abbrev pub is_place_kind : TKindT → Bool
is_place_kind (LiteralK number) = true
is_place_kind (GlobalK number) = true
is_place_kind (LocalK number) = true
is_place_kind (UnaryK Deref a) = true
is_place_kind (IndexK a b) = true
is_place_kind (MemberK (Typed kind ty s) offset) = is_place_kind kind
is_place_kind (ArrowK a offset) = true
is_place_kind _ = false

abbrev pub is_place : TExprT → Bool
is_place (Typed kind ty s) = is_place_kind kind

-- A structure or union is a value where it is declared whole and has at most 4,096 words; other values have no such rule.
unfoldable pub value_rule : List LayoutT → List Bool → Ty → Rule (Unit {0})
value_rule layouts whole ty = record {
  gives = Some tt;
  demands = demand InfiniteType (not (is_structure ty) || is_whole whole ty) ∷ demand TooLarge (not (is_structure ty) || fits layouts value_limit ty) ∷ [];
}

-- ---- names

abbrev pub intrinsic_tree : Option Intrinsic → Result TExprT Code
intrinsic_tree None = Err UnknownName
intrinsic_tree (Some i) = Err WrongType

-- An enumerator is its number. A type is no value, nor is a function.
abbrev pub declared_tree : Text → Span → Option Decl → Result TExprT Code
declared_tree n s None = intrinsic_tree (intrinsic n)
declared_tree n s (Some (TypeD ty)) = Err Twice
declared_tree n s (Some (ConstantD k)) = Ok (Typed (NumberK k) IntY s)
declared_tree n s (Some (GlobalD number ty)) = Ok (Typed (GlobalK number) ty s)
declared_tree n s (Some (FunctionD params gives)) = Err WrongType

abbrev pub local_or_declared : Text → Span → Option LocalD → Option Decl → Result TExprT Code
local_or_declared n s (Some l) d = Ok (Typed (LocalK l.number) l.ty s)
local_or_declared n s None d = declared_tree n s d

unfoldable pub name_tree : Ctx → Text → Span → Result TExprT Code
name_tree c n s = local_or_declared n s (find_in n c.scopes) (find n c.names)

-- ---- types by name

abbrev pub declared_type : Option Decl → Result Ty Code
declared_type None = Err UnknownName
declared_type (Some (TypeD ty)) = Ok ty
declared_type (Some (ConstantD k)) = Err Twice
declared_type (Some (GlobalD number ty)) = Err Twice
declared_type (Some (FunctionD params gives)) = Err Twice

unfoldable pub named_type : Ctx → Text → Result Ty Code
named_type c n = declared_type (find n c.names)

-- ---- members

-- the layout of a structure or union
abbrev pub layout_of : List LayoutT → Ty → Option LayoutT
layout_of layouts (StructY number) = slice_get layouts number
layout_of layouts (UnionY number) = slice_get layouts number
layout_of layouts _ = None

abbrev pub known_member : Option MemberT → Result MemberT Code
known_member None = Err UnknownName
known_member (Some m) = Ok m

-- A structure or union has members; one that is not declared whole has none yet.
abbrev pub member_in : Text → Option LayoutT → Result MemberT Code
member_in n None = Err WrongType
member_in n (Some l) = known_member (member_named n l.members)

-- An array in a value has no place of its own.
abbrev pub member_at : Span → TExprT → Result MemberT Code → Result TExprT Code
member_at s x (Err k) = Err k
member_at s x (Ok m) = if is_place x || not (is_array m.ty) then Ok (Typed (MemberK x m.offset) m.ty s) else Err NotAPlace

unfoldable pub member_tree : Ctx → Span → TExprT → Text → Result TExprT Code
member_tree c s x n = member_at s x (member_in n (layout_of c.layouts (type_of_typed x)))

abbrev pub layout_behind : List LayoutT → Option Ty → Option LayoutT
layout_behind layouts None = None
layout_behind layouts (Some ty) = layout_of layouts ty

abbrev pub arrow_at : Span → TExprT → Result MemberT Code → Result TExprT Code
arrow_at s x (Err k) = Err k
arrow_at s x (Ok m) = Ok (Typed (ArrowK x m.offset) m.ty s)

unfoldable pub arrow_tree : Ctx → Span → TExprT → Text → Result TExprT Code
arrow_tree c s x n = arrow_at s x (member_in n (layout_behind c.layouts (pointed (decayed (type_of_typed x)))))

-- ---- constants

-- Numbers, and operators on constants. A zero divisor makes none, also where the operator's value would not be asked for.
abbrev mutual
  pub constant : TExprT → Option ℕ
  constant (Typed kind ty s) = constant_kind kind

  pub constant_kind : TKindT → Option ℕ
  constant_kind (NumberK n) = Some n
  constant_kind (UnaryK op a) = option_and_then (constant_unary op) (constant a)
  constant_kind (BinaryK op a b) = option_and_then (λ m. option_and_then (constant_binary op m) (constant b)) (constant a)
  constant_kind _ = None
