-- The parts of an object that a brace list fills, by their numbers (the C language guide, section on initialisers).
use Rattle.std.specs.Prelude.{ℕ, List, slice_get, Option, option_and_then}
use Rattle.std.specs.Option.{option_map_or}
use Rattle.c_types.specs.Types.{Ty, VoidY, StructY, UnionY, ArrayY, LayoutT}

-- the type of a member of the structure or union of that number
abbrev pub member_type : List LayoutT → (number k : ℕ) → Ty
member_type layouts number k = option_map_or (λ m. m.ty) (option_and_then (λ l. slice_get l.members k) (slice_get layouts number)) VoidY

-- The type of a part: of an element, or of a member in its order; another type has no parts.
abbrev pub part_type : List LayoutT → Ty → (k : ℕ) → Ty
part_type layouts (ArrayY of len) k = of
part_type layouts (StructY number) k = member_type layouts number k
part_type layouts (UnionY number) k = member_type layouts number k
part_type layouts _ k = VoidY
