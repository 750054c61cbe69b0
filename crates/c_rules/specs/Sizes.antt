-- Which types have a known size, and how large they may be.
use Rattle.std.specs.Prelude.{ℕ, Bool, true, false, List, slice_get, nat_le}
use Rattle.c_types.specs.Types.{Ty, VoidY, StructY, UnionY, ArrayY, LayoutT}
use Rattle.c_types.specs.Sizes.{words_of}
use Rattle.c_rules.specs.Kinds.{holds}

-- whether the structure or union of that number is declared whole
abbrev pub is_declared : List Bool → ℕ → Bool
is_declared whole number = holds (λ declared. declared) (slice_get whole number)

-- Whether a type's size is known: that of a structure or union once it is declared whole, that of an array with its element's.
abbrev pub is_whole : List Bool → Ty → Bool
is_whole whole VoidY = false
is_whole whole (StructY number) = is_declared whole number
is_whole whole (UnionY number) = is_declared whole number
is_whole whole (ArrayY of len) = is_whole whole of
is_whole whole _ = true

-- whether a type has at most so many words
unfoldable pub fits : List LayoutT → ℕ → Ty → Bool
fits layouts limit ty = nat_le (words_of layouts ty) limit

-- the words that a type may have
abbrev pub type_limit : ℕ
type_limit = 4194304

-- the words that a structure or union may have where it is a value
abbrev pub value_limit : ℕ
value_limit = 4096
