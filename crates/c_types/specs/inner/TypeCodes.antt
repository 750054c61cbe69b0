-- Types as lists of numbers, by which they are told apart: the lengths of arrays, and none for a pointer, down to a type that is neither.
use Rattle.std.proofs.Common.{ℕ, ◌≡◌, refl, ap, List, [], ◌∷◌, Option, Some, None, ◌⊎◌, inl, inr}
use Rattle.std.specs.Coded.{Coded, code_by, coded×, coded_ℕ, coded_list, coded_option, coded⊎}
use Rattle.c_types.specs.Types.{Ty, VoidY, IntY, BoolY, EnumY, StructY, UnionY, PointerY, ArrayY}

abbrev Base : Type 0
Base = Option (Option (Option (ℕ ⊎ ℕ ⊎ ℕ)))

abbrev steps_of : Ty → List (Option ℕ)
steps_of (PointerY to) = None ∷ steps_of to
steps_of (ArrayY of len) = Some len ∷ steps_of of
steps_of _ = []

abbrev base_of : Ty → Base
base_of VoidY = None
base_of IntY = Some None
base_of BoolY = Some (Some None)
base_of (EnumY number) = Some (Some (Some (inl number)))
base_of (StructY number) = Some (Some (Some (inr (inl number))))
base_of (UnionY number) = Some (Some (Some (inr (inr number))))
base_of (PointerY to) = base_of to
base_of (ArrayY of len) = base_of of

abbrev plain : Base → Ty
plain None = VoidY
plain (Some None) = IntY
plain (Some (Some None)) = BoolY
plain (Some (Some (Some (inl number)))) = EnumY number
plain (Some (Some (Some (inr (inl number))))) = StructY number
plain (Some (Some (Some (inr (inr number))))) = UnionY number

abbrev back : List (Option ℕ) → Base → Ty
back [] base = plain base
back (None ∷ steps) base = PointerY (back steps base)
back (Some len ∷ steps) base = ArrayY (back steps base) len

again : (t : Ty) → back (steps_of t) (base_of t) ≡ t
again VoidY = refl
again IntY = refl
again BoolY = refl
again (EnumY number) = refl
again (StructY number) = refl
again (UnionY number) = refl
again (PointerY to) = ap (λ (t : Ty). PointerY t) (again to)
again (ArrayY of len) = ap (λ (t : Ty). ArrayY t len) (again of)

pub type_code : Coded Ty
type_code =
    code_by (List (Option ℕ) × Base)
    (coded× (coded_list (coded_option coded_ℕ)) (coded_option (coded_option (coded_option (coded⊎ coded_ℕ (coded⊎ coded_ℕ coded_ℕ))))))
    (λ t. (steps_of t, base_of t)) (λ p. back p.0 p.1) again
