-- The test of types tells whether they are equal.
use Rattle.std.proofs.Common.{◌≡◌, ◌↔◌, ℕ, ◌==◌, Bool, true, false, ◌&&◌, refl, ap, subst}
use Rattle.std.proofs.lemmas.Bool.{eq-eqb, eqb-true}
use Rattle.c_types.specs.Types.{Ty, VoidY, IntY, BoolY, EnumY, StructY, UnionY, PointerY, ArrayY}
use Rattle.c_rules.specs.Kinds.{same_type}

both : (a b : Bool) → (a && b) ≡ true → (a ≡ true) × (b ≡ true)
both true true e = (refl, refl)
both true false e = cc
both false b e = cc

array_ap : (a b : Ty) (m n : ℕ) → a ≡ b → m ≡ n → ArrayY a m ≡ ArrayY b n
array_ap a b m n p q = cc

equal : (a b : Ty) → same_type a b ≡ true → a ≡ b
equal VoidY VoidY h = refl
equal VoidY _ h = cc
equal IntY IntY h = refl
equal IntY _ h = cc
equal BoolY BoolY h = refl
equal BoolY _ h = cc
equal (EnumY j) (EnumY k) h = ap EnumY (eqb-true j k h)
equal (EnumY j) _ h = cc
equal (StructY j) (StructY k) h = ap StructY (eqb-true j k h)
equal (StructY j) _ h = cc
equal (UnionY j) (UnionY k) h = ap UnionY (eqb-true j k h)
equal (UnionY j) _ h = cc
equal (PointerY a) (PointerY b) h = ap PointerY (equal a b h)
equal (PointerY a) _ h = cc
equal (ArrayY a m) (ArrayY b n) h =
    let parts : (same_type a b ≡ true) × ((m == n) ≡ true) = both _ _ h in
    array_ap a b m n (equal a b parts.0) (eqb-true m n parts.1)
equal (ArrayY a m) _ h = cc

pub same_self : (a : Ty) → same_type a a ≡ true
same_self VoidY = refl
same_self IntY = refl
same_self BoolY = refl
same_self (EnumY j) = eq-eqb j j refl
same_self (StructY j) = eq-eqb j j refl
same_self (UnionY j) = eq-eqb j j refl
same_self (PointerY a) = same_self a
same_self (ArrayY a m) = rw (same_self a) (eq-eqb m m refl)

same_of : (a b : Ty) → a ≡ b → same_type a b ≡ true
same_of a b e = subst (λ (t : Ty). same_type a t ≡ true) e (same_self a)

pub same_equal : (a b : Ty) → (same_type a b ≡ true) ↔ (a ≡ b)
same_equal a b = (equal a b, same_of a b)
