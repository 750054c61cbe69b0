-- Types that the test of types takes for one are one.
use Rattle.std.proofs.Common.{◌≡◌, ℕ, ◌==◌, true, List, [], ◌∷◌, refl, ap, eqb-true}
use Rattle.std.proofs.lemmas.Bool.{and_parts}
use Rattle.c_types.specs.Types.{Ty, VoidY, IntY, BoolY, EnumY, StructY, UnionY, PointerY, ArrayY}
use Rattle.c_rules.specs.Kinds.{same_type}
use Rattle.c_check.specs.Reading.{same_types}

array_equal : (a b : Ty) (m n : ℕ) → a ≡ b → m ≡ n → ArrayY a m ≡ ArrayY b n
array_equal a b m n p q = cc

pub types_equal : (a b : Ty) → same_type a b ≡ true → a ≡ b
types_equal VoidY VoidY h = refl
types_equal VoidY _ h = absurd cc
types_equal IntY IntY h = refl
types_equal IntY _ h = absurd cc
types_equal BoolY BoolY h = refl
types_equal BoolY _ h = absurd cc
types_equal (EnumY j) (EnumY k) h = ap EnumY (eqb-true j k h)
types_equal (EnumY j) _ h = absurd cc
types_equal (StructY j) (StructY k) h = ap StructY (eqb-true j k h)
types_equal (StructY j) _ h = absurd cc
types_equal (UnionY j) (UnionY k) h = ap UnionY (eqb-true j k h)
types_equal (UnionY j) _ h = absurd cc
types_equal (PointerY a) (PointerY b) h = ap PointerY (types_equal a b h)
types_equal (PointerY a) _ h = absurd cc
types_equal (ArrayY a m) (ArrayY b n) h =
    let parts : (same_type a b ≡ true) × ((m == n) ≡ true) = and_parts _ _ h in
    array_equal a b m n (types_equal a b parts.0) (eqb-true m n parts.1)
types_equal (ArrayY a m) _ h = absurd cc

pub all_types_equal : (xs ys : List Ty) → same_types xs ys ≡ true → xs ≡ ys
all_types_equal [] [] h = refl
all_types_equal [] (b ∷ ys) h = absurd cc
all_types_equal (a ∷ xs) [] h = absurd cc
all_types_equal (a ∷ xs) (b ∷ ys) h =
    let parts : (same_type a b ≡ true) × (same_types xs ys ≡ true) = and_parts _ _ h in
    both (types_equal a b parts.0) (all_types_equal xs ys parts.1)
  where
    both : a ≡ b → xs ≡ ys → (a ∷ xs) ≡ (b ∷ ys)
    both p q = cc
