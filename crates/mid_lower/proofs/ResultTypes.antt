-- What rules demand of places, and which of them give no structure.
use Rattle.std.proofs.Common.{◌≡◌, ℕ, Bool, true, false, not, ◌&&◌, List, [], ◌∷◌, Option, Some, None, Ok, Err, refl, ap, if◌then◌else◌, subst, sym, ◌∙◌}
use Rattle.std.specs.Prelude.{option_and_then, option_map}
use Rattle.std.proofs.lemmas.Bool.{false≢true}
use Rattle.c_tree.specs.declared.operator.UnOp.{UnOp}
use Rattle.c_tree.specs.declared.operator.UnOp.TheVariants as un
use Rattle.c_tree.specs.declared.operator.BinOp.{BinOp}
use Rattle.c_tree.specs.declared.operator.BinOp.TheVariants as bin
use Rattle.c_types.specs.Types.{Ty, VoidY, IntY, BoolY, EnumY, StructY, UnionY, PointerY, ArrayY, LayoutT}
use Rattle.c_rules.specs.Kinds.{is_number, is_array, is_condition, target, converts, can_cast, same_type}
use Rattle.c_types.specs.Kinds.{is_pointer, decayed, is_structure}
use Rattle.c_rules.specs.Rules.{Demand, checked, judged_by, judged}
use Rattle.c_rules.specs.Nodes.{given, unary_gives, unary_rule, are_numbers, are_comparable, moved, apart, sum_gives, difference_gives, binary_gives, binary_rule, assign_rule, kept_as, compound_rule, cast_rule}
use Rattle.c_exprs.specs.Nodes.{layout_of}
use Rattle.c_facts.specs.Sound.{has_member}
use Rattle.mid_lower.proofs.Operands.{both_second, Either, First, Second, either, judged_gives, given_holds, number_scalar, to_scalar, binary_two}

-- ---- what demands a place, and what gives no structure

demands_first : {A : Type 0} (o : Option A) (d : Demand) (ds : List Demand) (z : A) → judged_by o (d ∷ ds) ≡ Ok z → d.holds ≡ true
demands_first None d ds z e = cc
demands_first (Some x) d ds z e = by d.holds refl e
  where
    by : (t : Bool) → d.holds ≡ t → (if t then checked ds x else Err d.code) ≡ Ok z → d.holds ≡ true
    by true et e = et
    by false et e = cc

pub address_place : (ty : Ty) (place : Bool) (z : Ty) → judged (unary_rule un.Address ty place) ≡ Ok z → place ≡ true
unfolding unary_rule
address_place ty place z e = demands_first (unary_gives un.Address ty) _ [] z e

pub assigned_place : (layouts : List LayoutT) (whole : List Bool) (to : Ty) (place : Bool) (from z : Ty) → judged (assign_rule layouts whole to place from) ≡ Ok z → place ≡ true
unfolding assign_rule
assigned_place layouts whole to place from z e = demands_first (given (not (is_array to) && converts from to) to) _ _ z e

pub has_structure : (layouts : List LayoutT) (ty : Ty) (offset : ℕ) (member : Ty) → has_member (layout_of layouts ty) offset member ≡ true → is_structure ty ≡ true
has_structure layouts (StructY number) offset member e = refl
has_structure layouts (UnionY number) offset member e = refl
has_structure layouts VoidY offset member e = cc
has_structure layouts IntY offset member e = cc
has_structure layouts BoolY offset member e = cc
has_structure layouts (EnumY number) offset member e = cc
has_structure layouts (PointerY to) offset member e = cc
has_structure layouts (ArrayY of len) offset member e = cc

pub from_structure : (from to : Ty) → converts from to ≡ true → is_structure to ≡ true → is_structure from ≡ true
from_structure from to e s = by (is_structure from) refl
  where
    by : (b : Bool) → is_structure from ≡ b → is_structure from ≡ true
    by true f = f
    by false f = absurd (false≢true (sym (to_scalar from to e f) ∙ s))

given_is : {A : Type 0} (t : Bool) (y z : A) → given t y ≡ Some z → z ≡ y
given_is true y z e = cc
given_is false y z e = cc

scalar_is : (z y : Ty) → z ≡ y → is_structure y ≡ false → is_structure z ≡ true → ⊥
scalar_is z y e f s = false≢true (sym f ∙ sym (ap is_structure e) ∙ s)

some_same : (x y : Ty) → Some x ≡ Some y → x ≡ y
some_same x y e = cc

abbrev pub is_deref : UnOp → Bool
is_deref un.Deref = true
is_deref _ = false

is_pointer_scalar : (ty : Ty) → is_pointer ty ≡ true → is_structure ty ≡ false
is_pointer_scalar VoidY e = refl
is_pointer_scalar IntY e = refl
is_pointer_scalar BoolY e = refl
is_pointer_scalar (EnumY number) e = refl
is_pointer_scalar (StructY number) e = cc
is_pointer_scalar (UnionY number) e = cc
is_pointer_scalar (PointerY to) e = refl
is_pointer_scalar (ArrayY of len) e = refl

pub never_unary : (op : UnOp) (ty : Ty) (place : Bool) (z : Ty) → is_deref op ≡ false → judged (unary_rule op ty place) ≡ Ok z → is_structure z ≡ true → ⊥
unfolding unary_rule
never_unary un.Minus ty place z n e s = scalar_is z IntY (given_is (is_number ty) IntY z (judged_gives (unary_gives un.Minus ty) _ z e)) refl s
never_unary un.Plus ty place z n e s = scalar_is z IntY (given_is (is_number ty) IntY z (judged_gives (unary_gives un.Plus ty) _ z e)) refl s
never_unary un.Flip ty place z n e s = scalar_is z IntY (given_is (is_number ty) IntY z (judged_gives (unary_gives un.Flip ty) _ z e)) refl s
never_unary un.Not ty place z n e s = scalar_is z BoolY (given_is (is_condition ty) BoolY z (judged_gives (unary_gives un.Not ty) _ z e)) refl s
never_unary un.Address ty place z n e s = scalar_is z (PointerY ty) (sym (some_same (PointerY ty) z (judged_gives (unary_gives un.Address ty) ((unary_rule un.Address ty place).demands) z e))) refl s
never_unary un.Deref ty place z n e s = absurd cc

moved_scalar : (a b z : Ty) → moved a b ≡ Some z → is_structure z ≡ false
moved_scalar a b z e = by (is_number b) (target a) e
  where
    by : (t : Bool) (o : Option Ty) → (if t then option_map PointerY o else None) ≡ Some z → is_structure z ≡ false
    by true (Some u) e = let same : PointerY u ≡ z = cc in subst (λ q. is_structure q ≡ false) same refl
    by true None e = cc
    by false o e = cc

apart_scalar : (a b z : Ty) → apart a b ≡ Some z → is_structure z ≡ false
apart_scalar a b z e = by (target a) (target b) e
  where
    by : (o q : Option Ty) → option_and_then (λ t. option_and_then (λ u. given (same_type t u) IntY) q) o ≡ Some z → is_structure z ≡ false
    by (Some t) (Some u) e = subst (λ q. is_structure q ≡ false) (sym (given_is (same_type t u) IntY z e)) refl
    by None q e = cc
    by (Some t) None e = cc

sum_scalar : (a b z : Ty) → sum_gives a b ≡ Some z → is_structure z ≡ false
unfolding sum_gives
sum_scalar a b z e = by (are_numbers a b) e
  where
    by : (t : Bool) → (if t then Some IntY else moved a b) ≡ Some z → is_structure z ≡ false
    by true e = let same : IntY ≡ z = cc in subst (λ q. is_structure q ≡ false) same refl
    by false e = moved_scalar a b z e

difference_scalar : (a b z : Ty) → difference_gives a b ≡ Some z → is_structure z ≡ false
unfolding difference_gives
difference_scalar a b z e = by (are_numbers a b) (is_number b) e
  where
    by : (t n : Bool) → (if t then Some IntY else if n then moved a b else apart a b) ≡ Some z → is_structure z ≡ false
    by true n e = let same : IntY ≡ z = cc in subst (λ q. is_structure q ≡ false) same refl
    by false true e = moved_scalar a b z e
    by false false e = apart_scalar a b z e

given_scalar : (t : Bool) (y z : Ty) → is_structure y ≡ false → given t y ≡ Some z → is_structure z ≡ false
given_scalar t y z f e = subst (λ q. is_structure q ≡ false) (sym (given_is t y z e)) f

gives_scalar : (op : BinOp) (a b z : Ty) → binary_gives op a b ≡ Some z → is_structure z ≡ false
gives_scalar bin.Mul a b z e = given_scalar (are_numbers a b) IntY z refl e
gives_scalar bin.Div a b z e = given_scalar (are_numbers a b) IntY z refl e
gives_scalar bin.Mod a b z e = given_scalar (are_numbers a b) IntY z refl e
gives_scalar bin.Add a b z e = sum_scalar a b z e
gives_scalar bin.Sub a b z e = difference_scalar a b z e
gives_scalar bin.Shl a b z e = given_scalar (are_numbers a b) IntY z refl e
gives_scalar bin.Shr a b z e = given_scalar (are_numbers a b) IntY z refl e
gives_scalar bin.Less a b z e = given_scalar (are_comparable a b) BoolY z refl e
gives_scalar bin.LessEq a b z e = given_scalar (are_comparable a b) BoolY z refl e
gives_scalar bin.More a b z e = given_scalar (are_comparable a b) BoolY z refl e
gives_scalar bin.MoreEq a b z e = given_scalar (are_comparable a b) BoolY z refl e
gives_scalar bin.Equal a b z e = given_scalar (are_comparable a b) BoolY z refl e
gives_scalar bin.NotEqual a b z e = given_scalar (are_comparable a b) BoolY z refl e
gives_scalar bin.BitAnd a b z e = given_scalar (are_numbers a b) IntY z refl e
gives_scalar bin.BitXor a b z e = given_scalar (are_numbers a b) IntY z refl e
gives_scalar bin.BitOr a b z e = given_scalar (are_numbers a b) IntY z refl e
gives_scalar bin.AndAlso a b z e = given_scalar (is_condition a && is_condition b) BoolY z refl e
gives_scalar bin.OrElse a b z e = given_scalar (is_condition a && is_condition b) BoolY z refl e

pub never_binary : (whole : List Bool) (op : BinOp) (a b z : Ty) → judged (binary_rule whole op a b) ≡ Ok z → is_structure z ≡ true → ⊥
unfolding binary_rule
never_binary whole op a b z e s = false≢true (sym (gives_scalar op a b z (judged_gives (binary_gives op a b) _ z e)) ∙ s)

pub never_compound : (whole : List Bool) (op : BinOp) (to : Ty) (place : Bool) (from z : Ty) → judged (compound_rule whole op to place from) ≡ Ok z → is_structure z ≡ true → ⊥
unfolding compound_rule
never_compound whole op to place from z e s = by (binary_gives op to from) refl (judged_gives (kept_as to (binary_gives op to from)) _ z e)
  where
    by : (o : Option Ty) → binary_gives op to from ≡ o → kept_as to o ≡ Some z → ⊥
    by None eo e = absurd cc
    by (Some y) eo e = scalar_is z to (given_is (not (is_array to) && converts y to) to z e) (binary_two op to from y eo).first s

pub never_cast : (from to z : Ty) → judged (cast_rule from to) ≡ Ok z → is_structure z ≡ true → ⊥
unfolding cast_rule
never_cast from to z e s =
    let g = judged_gives (given (can_cast from to) to) _ z e in
    by (either (is_number from && is_number to) (is_pointer (decayed from) && is_pointer to) (given_holds (can_cast from to) to z g)) (given_is (can_cast from to) to z g)
  where
    by : Either (is_number from && is_number to) (is_pointer (decayed from) && is_pointer to) → z ≡ to → ⊥
    by (First e) q = scalar_is z to q (number_scalar to (both_second (is_number from) (is_number to) e)) s
    by (Second e) q = scalar_is z to q (is_pointer_scalar to (both_second (is_pointer (decayed from)) (is_pointer to) e)) s
