-- Kinds of types, and what they lead to (the C language guide, section on types).
use Rattle.std.specs.Prelude.{Bool, true, false, Option, Some, None}
use Rattle.c_types.specs.Types.{Ty, VoidY, StructY, UnionY, PointerY, ArrayY}

abbrev pub is_void : Ty → Bool
is_void VoidY = true
is_void _ = false

abbrev pub is_pointer : Ty → Bool
is_pointer (PointerY to) = true
is_pointer _ = false

abbrev pub is_structure : Ty → Bool
is_structure (StructY number) = true
is_structure (UnionY number) = true
is_structure _ = false

-- The value of an array is a pointer to its first element.
abbrev pub decayed : Ty → Ty
decayed (ArrayY of len) = PointerY of
decayed ty = ty

-- what a pointer leads to
abbrev pub pointed : Ty → Option Ty
pointed (PointerY to) = Some to
pointed _ = None
