-- The type that a node gives is known where those of its parts are.
use Rattle.std.proofs.Common.{◌≡◌, Bool, true, false, ◌&&◌, List, Option, Some, None, Ok, subst}
use Rattle.std.specs.Prelude.{if◌then◌else◌, option_map, option_and_then}
use Rattle.c_tree.specs.declared.operator.UnOp.{UnOp}
use Rattle.c_tree.specs.declared.operator.UnOp.TheVariants.{Minus, Plus, Not, Flip, Deref, Address}
use Rattle.c_tree.specs.declared.operator.StepOp.{StepOp}
use Rattle.c_tree.specs.declared.operator.BinOp.{BinOp}
use Rattle.c_tree.specs.declared.operator.BinOp.TheVariants.{Mul, Div, Mod, Add, Sub, Shl, Shr, Less, LessEq, More, MoreEq, Equal, NotEqual, BitAnd, BitXor, BitOr, AndAlso, OrElse}
use Rattle.c_types.specs.Types.{Ty, VoidY, IntY, BoolY, EnumY, StructY, UnionY, PointerY, ArrayY, LayoutT}
use Rattle.c_types.specs.Kinds.{is_void, decayed, pointed}
use Rattle.c_rules.specs.Kinds.{is_number, is_condition, if_not_void, target, same_type}
use Rattle.c_rules.specs.Rules.{Rule, judged}
use Rattle.c_rules.specs.Nodes.{given, unary_gives, unary_rule, are_numbers, are_comparable, moved, sum_gives, difference_gives, binary_gives, binary_rule, index_rule, assign_rule, kept_as, compound_rule, step_operator, step_rule, cast_rule}
use Rattle.c_facts.specs.Sound.{IsKnown}
use Rattle.c_facts.proofs.Growth.{judged_holds, given_is}

-- a type that may not be there
abbrev pub MayBeKnown : List LayoutT → List Bool → Option Ty → Type 0
MayBeKnown layouts whole None = Unit {0}
MayBeKnown layouts whole (Some ty) = IsKnown layouts whole ty

pub given_known : (layouts : List LayoutT) (whole : List Bool) (test : Bool) (ty : Ty) → IsKnown layouts whole ty → MayBeKnown layouts whole (given test ty)
given_known layouts whole true ty h = h
given_known layouts whole false ty h = tt

pub pointed_known : (layouts : List LayoutT) (whole : List Bool) (ty : Ty) → IsKnown layouts whole ty → MayBeKnown layouts whole (pointed (decayed ty))
pointed_known layouts whole VoidY h = tt
pointed_known layouts whole IntY h = tt
pointed_known layouts whole BoolY h = tt
pointed_known layouts whole (EnumY number) h = tt
pointed_known layouts whole (StructY number) h = tt
pointed_known layouts whole (UnionY number) h = tt
pointed_known layouts whole (PointerY to) h = h
pointed_known layouts whole (ArrayY of len) h = h.0

not_void_known : (layouts : List LayoutT) (whole : List Bool) (test : Bool) (ty : Ty) → IsKnown layouts whole ty → MayBeKnown layouts whole (if test then None else Some ty)
not_void_known layouts whole true ty h = tt
not_void_known layouts whole false ty h = h

if_not_void_known : (layouts : List LayoutT) (whole : List Bool) (o : Option Ty) → MayBeKnown layouts whole o → MayBeKnown layouts whole (if_not_void o)
if_not_void_known layouts whole None h = tt
if_not_void_known layouts whole (Some ty) h = not_void_known layouts whole (is_void ty) ty h

target_known : (layouts : List LayoutT) (whole : List Bool) (ty : Ty) → IsKnown layouts whole ty → MayBeKnown layouts whole (target ty)
target_known layouts whole ty h = if_not_void_known layouts whole (pointed (decayed ty)) (pointed_known layouts whole ty h)

unary_known : (layouts : List LayoutT) (whole : List Bool) (op : UnOp) (ty : Ty) → IsKnown layouts whole ty → MayBeKnown layouts whole (unary_gives op ty)
unary_known layouts whole Minus ty h = given_known layouts whole (is_number ty) IntY tt
unary_known layouts whole Plus ty h = given_known layouts whole (is_number ty) IntY tt
unary_known layouts whole Not ty h = given_known layouts whole (is_condition ty) BoolY tt
unary_known layouts whole Flip ty h = given_known layouts whole (is_number ty) IntY tt
unary_known layouts whole Deref ty h = target_known layouts whole ty h
unary_known layouts whole Address ty h = h

-- ---- operators between operands

either : (layouts : List LayoutT) (whole : List Bool) (test : Bool) (a b : Option Ty) → MayBeKnown layouts whole a → MayBeKnown layouts whole b → MayBeKnown layouts whole (if test then a else b)
either layouts whole true a b first second = first
either layouts whole false a b first second = second

pointer_known : (layouts : List LayoutT) (whole : List Bool) (o : Option Ty) → MayBeKnown layouts whole o → MayBeKnown layouts whole (option_map PointerY o)
pointer_known layouts whole None h = tt
pointer_known layouts whole (Some ty) h = h

moved_known : (layouts : List LayoutT) (whole : List Bool) (a b : Ty) → IsKnown layouts whole a → MayBeKnown layouts whole (moved a b)
moved_known layouts whole a b h = either layouts whole (is_number b) (option_map PointerY (target a)) None (pointer_known layouts whole (target a) (target_known layouts whole a h)) tt

apart_known : (layouts : List LayoutT) (whole : List Bool) (a b : Option Ty) → MayBeKnown layouts whole (option_and_then (λ (t : Ty). option_and_then (λ (u : Ty). given (same_type t u) IntY) b) a)
apart_known layouts whole None b = tt
apart_known layouts whole (Some t) None = tt
apart_known layouts whole (Some t) (Some u) = given_known layouts whole (same_type t u) IntY tt

sum_known : (layouts : List LayoutT) (whole : List Bool) (a b : Ty) → IsKnown layouts whole a → MayBeKnown layouts whole (sum_gives a b)
unfolding sum_gives
sum_known layouts whole a b h = either layouts whole (are_numbers a b) (Some IntY) (moved a b) tt (moved_known layouts whole a b h)

difference_known : (layouts : List LayoutT) (whole : List Bool) (a b : Ty) → IsKnown layouts whole a → MayBeKnown layouts whole (difference_gives a b)
unfolding difference_gives
difference_known layouts whole a b h =
    let one : Option Ty = moved a b in
    let two : Option Ty = option_and_then (λ (t : Ty). option_and_then (λ (u : Ty). given (same_type t u) IntY) (target b)) (target a) in
    either layouts whole (are_numbers a b) (Some IntY) (if is_number b then one else two) tt (either layouts whole (is_number b) one two (moved_known layouts whole a b h) (apart_known layouts whole (target a) (target b)))

binary_known : (layouts : List LayoutT) (whole : List Bool) (op : BinOp) (a b : Ty) → IsKnown layouts whole a → MayBeKnown layouts whole (binary_gives op a b)
binary_known layouts whole Mul a b h = given_known layouts whole (are_numbers a b) IntY tt
binary_known layouts whole Div a b h = given_known layouts whole (are_numbers a b) IntY tt
binary_known layouts whole Mod a b h = given_known layouts whole (are_numbers a b) IntY tt
binary_known layouts whole Add a b h = sum_known layouts whole a b h
binary_known layouts whole Sub a b h = difference_known layouts whole a b h
binary_known layouts whole Shl a b h = given_known layouts whole (are_numbers a b) IntY tt
binary_known layouts whole Shr a b h = given_known layouts whole (are_numbers a b) IntY tt
binary_known layouts whole Less a b h = given_known layouts whole (are_comparable a b) BoolY tt
binary_known layouts whole LessEq a b h = given_known layouts whole (are_comparable a b) BoolY tt
binary_known layouts whole More a b h = given_known layouts whole (are_comparable a b) BoolY tt
binary_known layouts whole MoreEq a b h = given_known layouts whole (are_comparable a b) BoolY tt
binary_known layouts whole Equal a b h = given_known layouts whole (are_comparable a b) BoolY tt
binary_known layouts whole NotEqual a b h = given_known layouts whole (are_comparable a b) BoolY tt
binary_known layouts whole BitAnd a b h = given_known layouts whole (are_numbers a b) IntY tt
binary_known layouts whole BitXor a b h = given_known layouts whole (are_numbers a b) IntY tt
binary_known layouts whole BitOr a b h = given_known layouts whole (are_numbers a b) IntY tt
binary_known layouts whole AndAlso a b h = given_known layouts whole (is_condition a && is_condition b) BoolY tt
binary_known layouts whole OrElse a b h = given_known layouts whole (is_condition a && is_condition b) BoolY tt

kept_known : (layouts : List LayoutT) (whole : List Bool) (to : Ty) (o : Option Ty) → IsKnown layouts whole to → MayBeKnown layouts whole (kept_as to o)
kept_known layouts whole to None h = tt
kept_known layouts whole to (Some ty) h = given_known layouts whole _ to h

-- ---- the answers of rules

is_there : (layouts : List LayoutT) (whole : List Bool) (o : Option Ty) (ty : Ty) → o ≡ Some ty → MayBeKnown layouts whole o → IsKnown layouts whole ty
is_there layouts whole o ty e h = subst (λ (p : Option Ty). MayBeKnown layouts whole p) e h

answer_known : (layouts : List LayoutT) (whole : List Bool) (rule : Rule Ty) (ty : Ty) → MayBeKnown layouts whole rule.gives → judged rule ≡ Ok ty → IsKnown layouts whole ty
answer_known layouts whole rule ty known h = is_there layouts whole rule.gives ty (judged_holds rule ty h).0 known

pub unary_answer : (layouts : List LayoutT) (whole : List Bool) (op : UnOp) (of : Ty) (place : Bool) (ty : Ty) → IsKnown layouts whole of → judged (unary_rule op of place) ≡ Ok ty → IsKnown layouts whole ty
unfolding unary_rule
unary_answer layouts whole op of place ty known h = answer_known layouts whole (unary_rule op of place) ty (unary_known layouts whole op of known) h

pub binary_answer : (layouts : List LayoutT) (whole : List Bool) (op : BinOp) (a b ty : Ty) → IsKnown layouts whole a → judged (binary_rule whole op a b) ≡ Ok ty → IsKnown layouts whole ty
unfolding binary_rule
binary_answer layouts whole op a b ty known h = answer_known layouts whole (binary_rule whole op a b) ty (binary_known layouts whole op a b known) h

pub index_answer : (layouts : List LayoutT) (whole : List Bool) (a b ty : Ty) → IsKnown layouts whole a → judged (index_rule whole a b) ≡ Ok ty → IsKnown layouts whole ty
unfolding index_rule
index_answer layouts whole a b ty known h = answer_known layouts whole (index_rule whole a b) ty (either layouts whole (is_number b) (target a) None (target_known layouts whole a known) tt) h

pub assign_answer : (layouts : List LayoutT) (whole : List Bool) (to : Ty) (place : Bool) (from ty : Ty) → IsKnown layouts whole to → judged (assign_rule layouts whole to place from) ≡ Ok ty → IsKnown layouts whole ty
unfolding assign_rule
assign_answer layouts whole to place from ty known h = answer_known layouts whole (assign_rule layouts whole to place from) ty (given_known layouts whole _ to known) h

pub compound_answer : (layouts : List LayoutT) (whole : List Bool) (op : BinOp) (to : Ty) (place : Bool) (from ty : Ty) → IsKnown layouts whole to → judged (compound_rule whole op to place from) ≡ Ok ty → IsKnown layouts whole ty
unfolding compound_rule
compound_answer layouts whole op to place from ty known h = answer_known layouts whole (compound_rule whole op to place from) ty (kept_known layouts whole to (binary_gives op to from) known) h

pub step_answer : (layouts : List LayoutT) (whole : List Bool) (op : StepOp) (to : Ty) (place : Bool) (ty : Ty) → IsKnown layouts whole to → judged (step_rule whole op to place) ≡ Ok ty → IsKnown layouts whole ty
step_answer layouts whole op to place ty known h = compound_answer layouts whole (step_operator op) to place IntY ty known h

pub cast_answer : (layouts : List LayoutT) (whole : List Bool) (from to ty : Ty) → IsKnown layouts whole to → judged (cast_rule from to) ≡ Ok ty → IsKnown layouts whole ty
unfolding cast_rule
cast_answer layouts whole from to ty known h = answer_known layouts whole (cast_rule from to) ty (given_known layouts whole _ to known) h

-- a cast gives the type that it names
pub cast_gives : (from to ty : Ty) → judged (cast_rule from to) ≡ Ok ty → to ≡ ty
unfolding cast_rule
cast_gives from to ty h = given_is _ to ty (judged_holds (cast_rule from to) ty h).0
