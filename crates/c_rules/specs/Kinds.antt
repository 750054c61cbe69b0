-- Kinds of types, and which values become which.
use Rattle.std.specs.Prelude.{ℕ, ◌==◌, Bool, true, false, ◌&&◌, ◌||◌, Option, Some, None, if◌then◌else◌}
use Rattle.c_types.specs.Types.{Ty, VoidY, IntY, BoolY, EnumY, StructY, UnionY, PointerY, ArrayY}
use Rattle.c_types.specs.Kinds.{is_void, is_pointer, is_structure, decayed, pointed}

abbrev pub is_int : Ty → Bool
is_int IntY = true
is_int _ = false

abbrev pub is_bool : Ty → Bool
is_bool BoolY = true
is_bool _ = false

-- the types that arithmetic takes
abbrev pub is_number : Ty → Bool
is_number IntY = true
is_number BoolY = true
is_number (EnumY number) = true
is_number _ = false

abbrev pub is_array : Ty → Bool
is_array (ArrayY of len) = true
is_array _ = false

-- what a value may be that is tested
abbrev pub is_condition : Ty → Bool
is_condition ty = is_number ty || is_pointer (decayed ty)

-- ---- parts of a type, where it has them

abbrev pub enum_number : Ty → Option ℕ
enum_number (EnumY number) = Some number
enum_number _ = None

abbrev pub struct_number : Ty → Option ℕ
struct_number (StructY number) = Some number
struct_number _ = None

abbrev pub union_number : Ty → Option ℕ
union_number (UnionY number) = Some number
union_number _ = None

abbrev pub element : Ty → Option Ty
element (ArrayY of len) = Some of
element _ = None

abbrev pub element_count : Ty → Option ℕ
element_count (ArrayY of len) = Some len
element_count _ = None

abbrev pub holds : {A : Type 0} → (A → Bool) → Option A → Bool
holds p None = false
holds p (Some x) = p x

abbrev pub not_void : Ty → Option Ty
not_void to = if is_void to then None else Some to

abbrev pub if_not_void : Option Ty → Option Ty
if_not_void None = None
if_not_void (Some to) = not_void to

-- what a pointer or an array leads to, where that is no void
abbrev pub target : Ty → Option Ty
target ty = if_not_void (pointed (decayed ty))

-- ---- equality

-- whether two types are one
abbrev pub same_type : Ty → Ty → Bool
same_type VoidY b = is_void b
same_type IntY b = is_int b
same_type BoolY b = is_bool b
same_type (EnumY j) b = holds (λ k. j == k) (enum_number b)
same_type (StructY j) b = holds (λ k. j == k) (struct_number b)
same_type (UnionY j) b = holds (λ k. j == k) (union_number b)
same_type (PointerY to) b = holds (same_type to) (pointed b)
same_type (ArrayY of m) b = holds (same_type of) (element b) && holds (λ n. m == n) (element_count b)

-- ---- conversions

-- A pointer becomes one of its own type; to and from void*, every one.
abbrev pub leads_alike : Ty → Ty → Bool
leads_alike from to = is_void from || is_void to || same_type from to

abbrev pub pointers_convert : Ty → Ty → Bool
pointers_convert from to = holds (λ t. holds (λ f. leads_alike f t) (pointed from)) (pointed to)

-- Whether a value may be stored, passed or returned as a type: numbers as each other, a pointer or an array as a pointer, a
-- structure or union as its own type.
abbrev pub converts : Ty → Ty → Bool
converts from to = (is_number from && is_number to) || pointers_convert (decayed from) to || (is_structure from && same_type from to)

-- Whether a value may be cast: among numbers, and among pointers.
abbrev pub can_cast : Ty → Ty → Bool
can_cast from to = (is_number from && is_number to) || (is_pointer (decayed from) && is_pointer to)
