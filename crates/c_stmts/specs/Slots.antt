-- What a variable is filled with: the places of a brace list, and the rules of an initialiser.
use Rattle.std.specs.Prelude.{ℕ, ◌+◌, ◌-◌, ◌==◌, Bool, true, false, ◌&&◌, ◌||◌, not, List, [], ◌∷◌, length, slice_get, Option, Some, None, is_some}
use Rattle.std.specs.Prelude.{Result, Ok, Err, nat_le, if◌then◌else◌}
use Rattle.std.specs.Option.{option_map_or}
use Rattle.c_tree.specs.Tree as tree
use Rattle.c_tree.specs.Tree.{InitTs}
use Rattle.c_types.specs.Types.{Ty, VoidY, IntY, BoolY, EnumY, StructY, UnionY, PointerY, ArrayY, MemberT, LayoutT}
use Rattle.c_types.specs.Typed.{TExprT, TKindT, NullK, LiteralK, TInitT, OneI, TextI}
use Rattle.c_rules.specs.declared.code.Code.{Code}
use Rattle.c_rules.specs.declared.code.Code.TheVariants.{WrongType, NotConstant}
use Rattle.c_rules.specs.Kinds.{is_int, element_count, converts}
use Rattle.c_types.specs.Kinds.{is_structure}
use Rattle.c_exprs.specs.Nodes.{type_of_typed, kind_of_typed, constant}
use Rattle.c_exprs.specs.Calls.{ensured}

-- ---- the places of a brace list

-- None; so many elements of one type; members of these types.
pub data Slots : Type 0 where
  NoSlots : Slots
  Elements : (of : Ty) (left : ℕ) → Slots
  Members : (types : List Ty) → Slots

abbrev pub member_types : List MemberT → List Ty
member_types [] = []
member_types (m ∷ ms) = m.ty ∷ member_types ms

abbrev pub members_of : Option LayoutT → List Ty
members_of None = []
members_of (Some l) = member_types l.members

abbrev pub first_of : List Ty → List Ty
first_of [] = []
first_of (ty ∷ tys) = ty ∷ []

-- An array's elements, a structure's members in their order, a union's first member; other types have no places.
abbrev pub slots_of : List LayoutT → Ty → Slots
slots_of layouts VoidY = NoSlots
slots_of layouts IntY = NoSlots
slots_of layouts BoolY = NoSlots
slots_of layouts (EnumY number) = NoSlots
slots_of layouts (StructY number) = Members (members_of (slice_get layouts number))
slots_of layouts (UnionY number) = Members (first_of (members_of (slice_get layouts number)))
slots_of layouts (PointerY to) = NoSlots
slots_of layouts (ArrayY of count) = Elements of count

abbrev pub slots_for : List LayoutT → Option Ty → Slots
slots_for layouts None = NoSlots
slots_for layouts (Some ty) = slots_of layouts ty

-- the type of the next place, where there is one
abbrev pub next_slot : Slots → Option Ty
next_slot NoSlots = None
next_slot (Elements of left) = if left == 0 then None else Some of
next_slot (Members []) = None
next_slot (Members (ty ∷ tys)) = Some ty

abbrev pub later_slots : Slots → Slots
later_slots NoSlots = NoSlots
later_slots (Elements of left) = Elements of (left - 1)
later_slots (Members []) = Members []
later_slots (Members (ty ∷ tys)) = Members tys

abbrev pub item_count : InitTs → ℕ
item_count tree.NoI = 0
item_count (tree.MoreI i rest) = item_count rest + 1

-- whether a brace list of so many items has a place for each
abbrev pub has_room : ℕ → Slots → Bool
has_room n NoSlots = false
has_room n (Elements of left) = nat_le n left
has_room n (Members tys) = nat_le n (length tys)

-- ---- one expression

abbrev pub is_null_or_text : TKindT → Bool
is_null_or_text NullK = true
is_null_or_text (LiteralK number) = true
is_null_or_text _ = false

-- what a global may be filled with: a constant, NULL, a text
abbrev pub is_fixed : TExprT → Bool
is_fixed x = is_some (constant x) || is_null_or_text (kind_of_typed x)

abbrev pub literal_of : TKindT → Option ℕ
literal_of (LiteralK number) = Some number
literal_of _ = None

-- An array of int is filled with a text that has room with its 0.
abbrev pub text_fills : Ty → ℕ → Option ℕ → Ty → Result TInitT Code
text_fills of count None text = Err WrongType
text_fills of count (Some number) text = ensured WrongType (is_int of && nat_le (option_map_or (λ n. n) (element_count text) 0) count) (Ok (TextI number))

-- A variable of the function is filled with a value that becomes its type.
abbrev pub local_fills : Ty → TExprT → Result TInitT Code
local_fills ty x = ensured WrongType (converts (type_of_typed x) ty) (Ok (OneI x))

-- A global is filled with no structure as a whole, and with what is fixed.
abbrev pub global_fills : Ty → TExprT → Result TInitT Code
global_fills ty x = ensured WrongType (converts (type_of_typed x) ty && not (is_structure ty)) (ensured NotConstant (is_fixed x) (Ok (OneI x)))

abbrev pub value_fills : Bool → Ty → TExprT → Result TInitT Code
value_fills true ty x = global_fills ty x
value_fills false ty x = local_fills ty x

abbrev pub fills : Bool → Ty → TExprT → Result TInitT Code
fills global VoidY x = value_fills global VoidY x
fills global IntY x = value_fills global IntY x
fills global BoolY x = value_fills global BoolY x
fills global (EnumY number) x = value_fills global (EnumY number) x
fills global (StructY number) x = value_fills global (StructY number) x
fills global (UnionY number) x = value_fills global (UnionY number) x
fills global (PointerY to) x = value_fills global (PointerY to) x
fills global (ArrayY of count) x = text_fills of count (literal_of (kind_of_typed x)) (type_of_typed x)

-- An expression that has no place is refused with its list, behind all items.
unfoldable pub filled : Bool → Option Ty → TExprT → Result TInitT Code
filled global None x = Ok (OneI x)
filled global (Some ty) x = fills global ty x
