-- The rules of the nodes of expressions.
use Rattle.std.specs.Prelude.{ℕ, ◌^◌, ◌==◌, Bool, true, false, ◌&&◌, ◌||◌, not, List, [], ◌∷◌, Option, Some, None, option_map, option_and_then}
use Rattle.std.specs.Prelude.{nat_lt, if◌then◌else◌}
use Rattle.c_tree.specs.declared.operator.UnOp.{UnOp}
use Rattle.c_tree.specs.declared.operator.UnOp.TheVariants.{Minus, Plus, Not, Flip, Deref, Address}
use Rattle.c_tree.specs.declared.operator.StepOp.{StepOp}
use Rattle.c_tree.specs.declared.operator.StepOp.TheVariants.{PreUp, PreDown, PostUp, PostDown}
use Rattle.c_tree.specs.declared.operator.BinOp.{BinOp}
use Rattle.c_tree.specs.declared.operator.BinOp.TheVariants.{Mul, Div, Mod, Add, Sub, Shl, Shr, Less, LessEq, More, MoreEq, Equal, NotEqual, BitAnd}
use Rattle.c_tree.specs.declared.operator.BinOp.TheVariants.{BitXor, BitOr, AndAlso, OrElse}
use Rattle.c_types.specs.Types.{Ty, IntY, BoolY, PointerY, ArrayY, LayoutT}
use Rattle.c_types.specs.Sizes.{words_of}
use Rattle.c_rules.specs.declared.code.Code.TheVariants.{NotAPlace, InfiniteType, TooLarge}
use Rattle.c_types.specs.Kinds.{is_void, decayed}
use Rattle.c_rules.specs.Kinds.{is_number, is_array, is_condition, target, same_type, pointers_convert, converts, can_cast}
use Rattle.c_rules.specs.Sizes.{is_whole, fits, type_limit, value_limit}
use Rattle.c_rules.specs.Rules.{Rule, demand}

abbrev pub given : {A : Type 0} → Bool → A → Option A
given test x = if test then Some x else None

-- ---- operators before an operand

abbrev pub unary_gives : UnOp → Ty → Option Ty
unary_gives Minus ty = given (is_number ty) IntY
unary_gives Plus ty = given (is_number ty) IntY
unary_gives Flip ty = given (is_number ty) IntY
unary_gives Not ty = given (is_condition ty) BoolY
unary_gives Deref ty = target ty
unary_gives Address ty = Some (PointerY ty)

abbrev pub needs_place : UnOp → Bool
needs_place Address = true
needs_place _ = false

unfoldable pub unary_rule : UnOp → Ty → Bool → Rule Ty
unary_rule op ty place = record { gives = unary_gives op ty; demands = demand NotAPlace (not (needs_place op) || place) ∷ [] }

-- ---- operators between operands

abbrev pub are_numbers : Ty → Ty → Bool
are_numbers a b = is_number a && is_number b

-- two numbers, or two pointers of which one becomes the other
abbrev pub are_comparable : Ty → Ty → Bool
are_comparable a b = are_numbers a b || pointers_convert (decayed a) (decayed b) || pointers_convert (decayed b) (decayed a)

-- a pointer that goes by so many elements
abbrev pub moved : Ty → Ty → Option Ty
moved a b = if is_number b then option_map PointerY (target a) else None

-- two pointers to one type have a distance
abbrev pub apart : Ty → Ty → Option Ty
apart a b = option_and_then (λ t. option_and_then (λ u. given (same_type t u) IntY) (target b)) (target a)

unfoldable pub sum_gives : Ty → Ty → Option Ty
sum_gives a b = if are_numbers a b then Some IntY else moved a b

unfoldable pub difference_gives : Ty → Ty → Option Ty
difference_gives a b = if are_numbers a b then Some IntY else if is_number b then moved a b else apart a b

-- what operands of these types give; an array counts as the pointer that its value is
abbrev pub binary_gives : BinOp → Ty → Ty → Option Ty
binary_gives Mul a b = given (are_numbers a b) IntY
binary_gives Div a b = given (are_numbers a b) IntY
binary_gives Mod a b = given (are_numbers a b) IntY
binary_gives Add a b = sum_gives a b
binary_gives Sub a b = difference_gives a b
binary_gives Shl a b = given (are_numbers a b) IntY
binary_gives Shr a b = given (are_numbers a b) IntY
binary_gives Less a b = given (are_comparable a b) BoolY
binary_gives LessEq a b = given (are_comparable a b) BoolY
binary_gives More a b = given (are_comparable a b) BoolY
binary_gives MoreEq a b = given (are_comparable a b) BoolY
binary_gives Equal a b = given (are_comparable a b) BoolY
binary_gives NotEqual a b = given (are_comparable a b) BoolY
binary_gives BitAnd a b = given (are_numbers a b) IntY
binary_gives BitXor a b = given (are_numbers a b) IntY
binary_gives BitOr a b = given (are_numbers a b) IntY
binary_gives AndAlso a b = given (is_condition a && is_condition b) BoolY
binary_gives OrElse a b = given (is_condition a && is_condition b) BoolY

-- the operators that count by the size of what a pointer leads to
abbrev pub counts_elements : BinOp → Bool
counts_elements Add = true
counts_elements Sub = true
counts_elements _ = false

-- where something is led to, its size is known
abbrev pub led_to_whole : List Bool → Option Ty → Bool
led_to_whole whole None = true
led_to_whole whole (Some ty) = is_whole whole ty

abbrev pub count_is_known : List Bool → BinOp → Ty → Bool
count_is_known whole op a = not (counts_elements op) || led_to_whole whole (target a)

unfoldable pub binary_rule : List Bool → BinOp → Ty → Ty → Rule Ty
binary_rule whole op a b = record { gives = binary_gives op a b; demands = demand InfiniteType (count_is_known whole op a) ∷ [] }

unfoldable pub index_rule : List Bool → Ty → Ty → Rule Ty
index_rule whole a b = record { gives = if is_number b then target a else None; demands = demand InfiniteType (led_to_whole whole (target a)) ∷ [] }

-- ---- values that are stored

-- A value that is passed, returned or filled in as a type. A structure or union is a value where it is whole and not too large.
unfoldable pub store_rule : List LayoutT → List Bool → Ty → Ty → Rule (Unit {0})
store_rule layouts whole from to = record {
  gives = given (converts from to) tt;
  demands = demand InfiniteType (is_whole whole to) ∷ demand TooLarge (fits layouts value_limit to) ∷ [];
}

unfoldable pub assign_rule : List LayoutT → List Bool → Ty → Bool → Ty → Rule Ty
assign_rule layouts whole to place from =
    record {
      gives = given (not (is_array to) && converts from to) to;
      demands = demand NotAPlace place ∷ demand InfiniteType (is_whole whole to) ∷ demand TooLarge (fits layouts value_limit to) ∷ [];
    }

abbrev pub kept_as : Ty → Option Ty → Option Ty
kept_as to None = None
kept_as to (Some ty) = given (not (is_array to) && converts ty to) to

-- `a op= b` is what `a = a op b` is
unfoldable pub compound_rule : List Bool → BinOp → Ty → Bool → Ty → Rule Ty
compound_rule whole op to place from = record {
  gives = kept_as to (binary_gives op to from);
  demands = demand NotAPlace place ∷ demand InfiniteType (count_is_known whole op to) ∷ [];
}

-- a step is `a += 1` or `a -= 1`
abbrev pub step_operator : StepOp → BinOp
step_operator PreUp = Add
step_operator PreDown = Sub
step_operator PostUp = Add
step_operator PostDown = Sub

abbrev pub step_rule : List Bool → StepOp → Ty → Bool → Rule Ty
step_rule whole op to place = compound_rule whole (step_operator op) to place IntY

unfoldable pub cast_rule : Ty → Ty → Rule Ty
cast_rule from to = record { gives = given (can_cast from to) to; demands = [] }

-- ---- sizes

-- `sizeof`, and the size of what is declared
unfoldable pub size_rule : List LayoutT → List Bool → Ty → Rule ℕ
size_rule layouts whole ty = record {
  gives = given (not (is_void ty)) (words_of layouts ty);
  demands = demand InfiniteType (is_whole whole ty) ∷ demand TooLarge (fits layouts type_limit ty) ∷ [];
}

-- An array of so many; a count of 2 ^ 31 and above is a negative number.
unfoldable pub array_rule : List LayoutT → List Bool → Ty → ℕ → Rule Ty
array_rule layouts whole of count = record {
  gives = given (not (is_void of) && not (count == 0)) (ArrayY of count);
  demands =
      demand InfiniteType (is_whole whole of) ∷ demand TooLarge (nat_lt count (2 ^ 31)) ∷ demand TooLarge (fits layouts type_limit (ArrayY of count)) ∷ [];
}
