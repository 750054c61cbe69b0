-- What the rules of nodes take as operands is no structure, save what is assigned, passed, given or filled in whole.
use Rattle.std.proofs.Common.{◌≡◌, ℕ, Bool, true, false, not, ◌&&◌, ◌||◌, List, [], ◌∷◌, Option, Some, None, Ok, Err, refl, ap, if◌then◌else◌}
use Rattle.std.specs.Prelude.{option_map}
use Rattle.c_tree.specs.declared.operator.UnOp.{UnOp}
use Rattle.c_tree.specs.declared.operator.UnOp.TheVariants as un
use Rattle.c_tree.specs.declared.operator.BinOp.{BinOp}
use Rattle.c_tree.specs.declared.operator.BinOp.TheVariants as bin
use Rattle.c_types.specs.Types.{Ty, VoidY, IntY, BoolY, EnumY, StructY, UnionY, PointerY, ArrayY, LayoutT}
use Rattle.c_rules.specs.Kinds.{is_number, is_array, is_condition, target, pointers_convert, converts, can_cast}
use Rattle.c_types.specs.Kinds.{is_pointer, decayed, pointed, is_structure}
use Rattle.c_rules.specs.Rules.{Demand, checked, judged_by, judged}
use Rattle.c_rules.specs.Nodes.{given, needs_place, unary_gives, unary_rule, are_numbers, are_comparable, moved, apart, sum_gives, difference_gives, binary_gives, binary_rule, index_rule, assign_rule, kept_as, compound_rule, cast_rule}
use Rattle.c_exprs.specs.Nodes.{layout_behind}
use Rattle.c_facts.specs.Sound.{has_member}

-- ---- both of two tests

pub both_first : (a b : Bool) → (a && b) ≡ true → a ≡ true
both_first true b e = refl
both_first false b e = cc

pub both_second : (a b : Bool) → (a && b) ≡ true → b ≡ true
both_second true b e = e
both_second false b e = cc

-- one of two tests
pub data Either (a b : Bool) : Type 0 where
  First : a ≡ true → Either a b
  Second : b ≡ true → Either a b

pub either : (a b : Bool) → (a || b) ≡ true → Either a b
either true b e = First refl
either false b e = Second e

-- ---- what a rule gives

pub checked_gives : {A : Type 0} (ds : List Demand) (x z : A) → checked ds x ≡ Ok z → x ≡ z
checked_gives [] x z e = cc
checked_gives (d ∷ ds) x z e = by (λ g. checked_gives ds x z g) d.holds e
  where
    by : (checked ds x ≡ Ok z → x ≡ z) → (t : Bool) → (if t then checked ds x else Err d.code) ≡ Ok z → x ≡ z
    by rest true e = rest e
    by rest false e = cc

pub judged_gives : {A : Type 0} (o : Option A) (ds : List Demand) (z : A) → judged_by o ds ≡ Ok z → o ≡ Some z
judged_gives None ds z e = cc
judged_gives (Some x) ds z e = ap Some (checked_gives ds x z e)

pub given_holds : {A : Type 0} (t : Bool) (y z : A) → given t y ≡ Some z → t ≡ true
given_holds true y z e = refl
given_holds false y z e = cc

-- ---- numbers and pointers

pub number_scalar : (ty : Ty) → is_number ty ≡ true → is_structure ty ≡ false
number_scalar VoidY e = refl
number_scalar IntY e = refl
number_scalar BoolY e = refl
number_scalar (EnumY number) e = refl
number_scalar (StructY number) e = cc
number_scalar (UnionY number) e = cc
number_scalar (PointerY to) e = refl
number_scalar (ArrayY of len) e = refl

pub pointer_scalar : (ty : Ty) → is_pointer (decayed ty) ≡ true → is_structure ty ≡ false
pointer_scalar VoidY e = refl
pointer_scalar IntY e = refl
pointer_scalar BoolY e = refl
pointer_scalar (EnumY number) e = refl
pointer_scalar (StructY number) e = cc
pointer_scalar (UnionY number) e = cc
pointer_scalar (PointerY to) e = refl
pointer_scalar (ArrayY of len) e = refl

pub condition_scalar : (ty : Ty) → is_condition ty ≡ true → is_structure ty ≡ false
condition_scalar ty e = by (either (is_number ty) (is_pointer (decayed ty)) e)
  where
    by : Either (is_number ty) (is_pointer (decayed ty)) → is_structure ty ≡ false
    by (First e) = number_scalar ty e
    by (Second e) = pointer_scalar ty e

target_scalar : (ty z : Ty) → target ty ≡ Some z → is_structure ty ≡ false
target_scalar VoidY z e = refl
target_scalar IntY z e = refl
target_scalar BoolY z e = refl
target_scalar (EnumY number) z e = refl
target_scalar (StructY number) z e = cc
target_scalar (UnionY number) z e = cc
target_scalar (PointerY to) z e = refl
target_scalar (ArrayY of len) z e = refl

pub behind_scalar : (layouts : List LayoutT) (ty : Ty) (offset : ℕ) (member : Ty) → has_member (layout_behind layouts (pointed (decayed ty))) offset member ≡ true → is_structure ty ≡ false
behind_scalar layouts VoidY offset member e = refl
behind_scalar layouts IntY offset member e = refl
behind_scalar layouts BoolY offset member e = refl
behind_scalar layouts (EnumY number) offset member e = refl
behind_scalar layouts (StructY number) offset member e = cc
behind_scalar layouts (UnionY number) offset member e = cc
behind_scalar layouts (PointerY to) offset member e = refl
behind_scalar layouts (ArrayY of len) offset member e = refl

-- ---- what becomes what: a structure becomes itself alone

pub to_scalar : (from to : Ty) → converts from to ≡ true → is_structure from ≡ false → is_structure to ≡ false
to_scalar from VoidY e s = refl
to_scalar from IntY e s = refl
to_scalar from BoolY e s = refl
to_scalar from (EnumY number) e s = refl
to_scalar from (PointerY to) e s = refl
to_scalar from (ArrayY of len) e s = refl
to_scalar VoidY (StructY number) e s = cc
to_scalar IntY (StructY number) e s = cc
to_scalar BoolY (StructY number) e s = cc
to_scalar (EnumY j) (StructY number) e s = cc
to_scalar (StructY j) (StructY number) e s = cc
to_scalar (UnionY j) (StructY number) e s = cc
to_scalar (PointerY j) (StructY number) e s = cc
to_scalar (ArrayY of len) (StructY number) e s = cc
to_scalar VoidY (UnionY number) e s = cc
to_scalar IntY (UnionY number) e s = cc
to_scalar BoolY (UnionY number) e s = cc
to_scalar (EnumY j) (UnionY number) e s = cc
to_scalar (StructY j) (UnionY number) e s = cc
to_scalar (UnionY j) (UnionY number) e s = cc
to_scalar (PointerY j) (UnionY number) e s = cc
to_scalar (ArrayY of len) (UnionY number) e s = cc

pub from_scalar : (from to : Ty) → converts from to ≡ true → is_structure to ≡ false → is_structure from ≡ false
from_scalar VoidY to e s = refl
from_scalar IntY to e s = refl
from_scalar BoolY to e s = refl
from_scalar (EnumY number) to e s = refl
from_scalar (PointerY j) to e s = refl
from_scalar (ArrayY of len) to e s = refl
from_scalar (StructY number) VoidY e s = cc
from_scalar (StructY number) IntY e s = cc
from_scalar (StructY number) BoolY e s = cc
from_scalar (StructY number) (EnumY j) e s = cc
from_scalar (StructY number) (StructY j) e s = cc
from_scalar (StructY number) (UnionY j) e s = cc
from_scalar (StructY number) (PointerY j) e s = cc
from_scalar (StructY number) (ArrayY of len) e s = cc
from_scalar (UnionY number) VoidY e s = cc
from_scalar (UnionY number) IntY e s = cc
from_scalar (UnionY number) BoolY e s = cc
from_scalar (UnionY number) (EnumY j) e s = cc
from_scalar (UnionY number) (StructY j) e s = cc
from_scalar (UnionY number) (UnionY j) e s = cc
from_scalar (UnionY number) (PointerY j) e s = cc
from_scalar (UnionY number) (ArrayY of len) e s = cc

-- nothing becomes void
pub never_void : (from : Ty) → converts from VoidY ≡ true → ⊥
never_void VoidY e = absurd cc
never_void IntY e = absurd cc
never_void BoolY e = absurd cc
never_void (EnumY j) e = absurd cc
never_void (StructY j) e = absurd cc
never_void (UnionY j) e = absurd cc
never_void (PointerY j) e = absurd cc
never_void (ArrayY of len) e = absurd cc

-- ---- two operands

pub record Scalars (a b : Ty) : Type 0 where
  pub first : is_structure a ≡ false
  pub second : is_structure b ≡ false

pub numbers_two : (a b : Ty) → are_numbers a b ≡ true → Scalars a b
numbers_two a b e = record { first = number_scalar a (both_first (is_number a) (is_number b) e); second = number_scalar b (both_second (is_number a) (is_number b) e) }

conditions_two : (a b : Ty) → (is_condition a && is_condition b) ≡ true → Scalars a b
conditions_two a b e = record { first = condition_scalar a (both_first (is_condition a) (is_condition b) e); second = condition_scalar b (both_second (is_condition a) (is_condition b) e) }

pub pointed_pointer : (ty to : Ty) → pointed ty ≡ Some to → is_pointer ty ≡ true
pointed_pointer VoidY to e = cc
pointed_pointer IntY to e = cc
pointed_pointer BoolY to e = cc
pointed_pointer (EnumY number) to e = cc
pointed_pointer (StructY number) to e = cc
pointed_pointer (UnionY number) to e = cc
pointed_pointer (PointerY j) to e = refl
pointed_pointer (ArrayY of len) to e = cc

pointers_two : (a b : Ty) → pointers_convert (decayed a) (decayed b) ≡ true → Scalars a b
pointers_two a b e = by (pointed (decayed b)) (pointed (decayed a)) refl refl
  where
    by : (q r : Option Ty) → pointed (decayed b) ≡ q → pointed (decayed a) ≡ r → Scalars a b
    by (Some t) (Some u) eq er = record { first = pointer_scalar a (pointed_pointer (decayed a) u er); second = pointer_scalar b (pointed_pointer (decayed b) t eq) }
    by None r eq er = cc
    by (Some t) None eq er = cc

swapped : (a b : Ty) → Scalars b a → Scalars a b
swapped a b s = record { first = s.second; second = s.first }

comparable_two : (a b : Ty) → are_comparable a b ≡ true → Scalars a b
comparable_two a b e = by (either (are_numbers a b || pointers_convert (decayed a) (decayed b)) (pointers_convert (decayed b) (decayed a)) e)
  where
    first : Either (are_numbers a b) (pointers_convert (decayed a) (decayed b)) → Scalars a b
    first (First e) = numbers_two a b e
    first (Second e) = pointers_two a b e

    by : Either (are_numbers a b || pointers_convert (decayed a) (decayed b)) (pointers_convert (decayed b) (decayed a)) → Scalars a b
    by (First e) = first (either (are_numbers a b) (pointers_convert (decayed a) (decayed b)) e)
    by (Second e) = swapped a b (pointers_two b a e)

moved_two : (a b z : Ty) → moved a b ≡ Some z → Scalars a b
moved_two a b z e = by (is_number b) (target a) refl refl e
  where
    by : (t : Bool) (o : Option Ty) → is_number b ≡ t → target a ≡ o → (if t then option_map PointerY o else None) ≡ Some z → Scalars a b
    by true (Some u) eb ea e = record { first = target_scalar a u ea; second = number_scalar b eb }
    by true None eb ea e = cc
    by false o eb ea e = cc

apart_two : (a b z : Ty) → apart a b ≡ Some z → Scalars a b
apart_two a b z e = by (target a) (target b) refl refl
  where
    by : (o q : Option Ty) → target a ≡ o → target b ≡ q → Scalars a b
    by (Some t) (Some u) ea eb = record { first = target_scalar a t ea; second = target_scalar b u eb }
    by None q ea eb = cc
    by (Some t) None ea eb = cc

sum_two : (a b z : Ty) → sum_gives a b ≡ Some z → Scalars a b
unfolding sum_gives
sum_two a b z e = by (are_numbers a b) refl e
  where
    by : (t : Bool) → are_numbers a b ≡ t → (if t then Some IntY else moved a b) ≡ Some z → Scalars a b
    by true et e = numbers_two a b et
    by false et e = moved_two a b z e

difference_two : (a b z : Ty) → difference_gives a b ≡ Some z → Scalars a b
unfolding difference_gives
difference_two a b z e = by (are_numbers a b) (is_number b) refl e
  where
    by : (t n : Bool) → are_numbers a b ≡ t → (if t then Some IntY else if n then moved a b else apart a b) ≡ Some z → Scalars a b
    by true n et e = numbers_two a b et
    by false true et e = moved_two a b z e
    by false false et e = apart_two a b z e

pub binary_two : (op : BinOp) (a b z : Ty) → binary_gives op a b ≡ Some z → Scalars a b
binary_two bin.Mul a b z e = numbers_two a b (given_holds (are_numbers a b) IntY z e)
binary_two bin.Div a b z e = numbers_two a b (given_holds (are_numbers a b) IntY z e)
binary_two bin.Mod a b z e = numbers_two a b (given_holds (are_numbers a b) IntY z e)
binary_two bin.Add a b z e = sum_two a b z e
binary_two bin.Sub a b z e = difference_two a b z e
binary_two bin.Shl a b z e = numbers_two a b (given_holds (are_numbers a b) IntY z e)
binary_two bin.Shr a b z e = numbers_two a b (given_holds (are_numbers a b) IntY z e)
binary_two bin.Less a b z e = comparable_two a b (given_holds (are_comparable a b) BoolY z e)
binary_two bin.LessEq a b z e = comparable_two a b (given_holds (are_comparable a b) BoolY z e)
binary_two bin.More a b z e = comparable_two a b (given_holds (are_comparable a b) BoolY z e)
binary_two bin.MoreEq a b z e = comparable_two a b (given_holds (are_comparable a b) BoolY z e)
binary_two bin.Equal a b z e = comparable_two a b (given_holds (are_comparable a b) BoolY z e)
binary_two bin.NotEqual a b z e = comparable_two a b (given_holds (are_comparable a b) BoolY z e)
binary_two bin.BitAnd a b z e = numbers_two a b (given_holds (are_numbers a b) IntY z e)
binary_two bin.BitXor a b z e = numbers_two a b (given_holds (are_numbers a b) IntY z e)
binary_two bin.BitOr a b z e = numbers_two a b (given_holds (are_numbers a b) IntY z e)
binary_two bin.AndAlso a b z e = conditions_two a b (given_holds (is_condition a && is_condition b) BoolY z e)
binary_two bin.OrElse a b z e = conditions_two a b (given_holds (is_condition a && is_condition b) BoolY z e)

-- ---- the rules

pub unary_operand : (op : UnOp) (ty : Ty) (place : Bool) (z : Ty) → needs_place op ≡ false → judged (unary_rule op ty place) ≡ Ok z → is_structure ty ≡ false
unfolding unary_rule
unary_operand un.Minus ty place z n e = number_scalar ty (given_holds (is_number ty) IntY z (judged_gives (unary_gives un.Minus ty) _ z e))
unary_operand un.Plus ty place z n e = number_scalar ty (given_holds (is_number ty) IntY z (judged_gives (unary_gives un.Plus ty) _ z e))
unary_operand un.Flip ty place z n e = number_scalar ty (given_holds (is_number ty) IntY z (judged_gives (unary_gives un.Flip ty) _ z e))
unary_operand un.Not ty place z n e = condition_scalar ty (given_holds (is_condition ty) BoolY z (judged_gives (unary_gives un.Not ty) _ z e))
unary_operand un.Deref ty place z n e = target_scalar ty z (judged_gives (unary_gives un.Deref ty) _ z e)
unary_operand un.Address ty place z n e = cc

pub binary_operands : (whole : List Bool) (op : BinOp) (a b z : Ty) → judged (binary_rule whole op a b) ≡ Ok z → Scalars a b
unfolding binary_rule
binary_operands whole op a b z e = binary_two op a b z (judged_gives (binary_gives op a b) _ z e)

pub index_operands : (whole : List Bool) (a b z : Ty) → judged (index_rule whole a b) ≡ Ok z → Scalars a b
unfolding index_rule
index_operands whole a b z e = by (is_number b) refl (judged_gives (if is_number b then target a else None) _ z e)
  where
    by : (t : Bool) → is_number b ≡ t → (if t then target a else None) ≡ Some z → Scalars a b
    by true eb e = record { first = target_scalar a z e; second = number_scalar b eb }
    by false eb e = cc

pub compound_operands : (whole : List Bool) (op : BinOp) (to : Ty) (place : Bool) (from z : Ty) → judged (compound_rule whole op to place from) ≡ Ok z → Scalars to from
unfolding compound_rule
compound_operands whole op to place from z e = by (binary_gives op to from) refl (judged_gives (kept_as to (binary_gives op to from)) _ z e)
  where
    by : (o : Option Ty) → binary_gives op to from ≡ o → kept_as to o ≡ Some z → Scalars to from
    by None eo e = cc
    by (Some y) eo e = binary_two op to from y eo

pub record Stored (to from z : Ty) : Type 0 where
  pub same : to ≡ z
  pub becomes : converts from to ≡ true

given_same : {A : Type 0} (t : Bool) (y z : A) → given t y ≡ Some z → y ≡ z
given_same true y z e = cc
given_same false y z e = cc

pub assigned_operands : (layouts : List LayoutT) (whole : List Bool) (to : Ty) (place : Bool) (from z : Ty) → judged (assign_rule layouts whole to place from) ≡ Ok z → Stored to from z
unfolding assign_rule
assigned_operands layouts whole to place from z e =
    let g = judged_gives (given (not (is_array to) && converts from to) to) _ z e in
    record { same = given_same (not (is_array to) && converts from to) to z g; becomes = both_second (not (is_array to)) (converts from to) (given_holds (not (is_array to) && converts from to) to z g) }

pub cast_operand : (from to z : Ty) → judged (cast_rule from to) ≡ Ok z → is_structure from ≡ false
unfolding cast_rule
cast_operand from to z e = by (either (is_number from && is_number to) (is_pointer (decayed from) && is_pointer to) (given_holds (can_cast from to) to z (judged_gives (given (can_cast from to) to) _ z e)))
  where
    by : Either (is_number from && is_number to) (is_pointer (decayed from) && is_pointer to) → is_structure from ≡ false
    by (First e) = number_scalar from (both_first (is_number from) (is_number to) e)
    by (Second e) = pointer_scalar from (both_first (is_pointer (decayed from)) (is_pointer to) e)
