-- How many words a type has, and where members stand.
use Rattle.std.specs.Prelude.{◌≡◌, ◌<◌, ℕ, ◌+◌, ◌*◌, ◌^◌, ◌-◌, max, min, Bool, true, false, List, [], ◌∷◌, ◌++◌, length, Option, Some, None}
use Rattle.std.specs.Prelude.{option_map, slice_get, if◌then◌else◌}
use Rattle.std.specs.Option.{option_map_or}
use Rattle.std.specs.Str.{bytes_eq}
use Rattle.c_types.specs.Types.{Ty, VoidY, IntY, BoolY, EnumY, StructY, UnionY, PointerY, ArrayY, MemberT, LayoutT}

-- the size of the layout of that number
abbrev pub layout_size : List LayoutT → ℕ → ℕ
layout_size layouts number = option_map_or (λ l. l.size) (slice_get layouts number) 0

-- A scalar has one word, a structure or union what its layout says, an array its length times its element.
abbrev pub words_of : List LayoutT → Ty → ℕ
words_of layouts VoidY = 0
words_of layouts IntY = 1
words_of layouts BoolY = 1
words_of layouts (EnumY number) = 1
words_of layouts (StructY number) = layout_size layouts number
words_of layouts (UnionY number) = layout_size layouts number
words_of layouts (PointerY to) = 1
words_of layouts (ArrayY of len) = words_of layouts of * len

-- the structures and unions that the size asks for are there
abbrev pub IsNumbered : List LayoutT → Ty → Type 0
IsNumbered layouts (StructY number) = number < length layouts
IsNumbered layouts (UnionY number) = number < length layouts
IsNumbered layouts (ArrayY of len) = IsNumbered layouts of
IsNumbered layouts _ = Unit {0}

-- ---- members and their places

-- without members
abbrev pub no_layout : Bool → LayoutT
no_layout is_union = record { is_union = is_union; members = []; size = 0 }

-- Where the next member begins: behind those before it in a structure, at word 0 in a union.
abbrev pub next_offset : LayoutT → ℕ
next_offset l = if l.is_union then 0 else l.size

-- The size with a further member of so many words: the sum in a structure, the greatest in a union.
abbrev pub size_with : LayoutT → ℕ → ℕ
size_with l words = if l.is_union then max l.size words else l.size + words

-- with a further member of this type, which has so many words
abbrev pub with_member : LayoutT → List ℕ → Ty → ℕ → LayoutT
with_member l name ty words = record l { members = l.members ++ record { name = name; offset = next_offset l; ty = ty } ∷ []; size = size_with l words }

-- as it stands in memory, where more than 2^32 - 1 words are counted as 2^32 - 1
abbrev pub capped : LayoutT → LayoutT
capped l = record l { size = min l.size (2 ^ 32 - 1) }

-- The members of a structure follow each other from word 0, and its size is the sum of theirs.
abbrev pub Follow : List LayoutT → ℕ → List MemberT → ℕ → Type 0
Follow layouts start [] end = start ≡ end
Follow layouts start (m ∷ ms) end = (m.offset ≡ start) × Follow layouts (start + words_of layouts m.ty) ms end

abbrev pub IsStructure : List LayoutT → LayoutT → Type 0
IsStructure layouts l = Follow layouts 0 l.members l.size

-- The members of a union all begin at word 0, and its size is the greatest of theirs.
abbrev pub Overlap : List LayoutT → ℕ → List MemberT → ℕ → Type 0
Overlap layouts greatest [] size = greatest ≡ size
Overlap layouts greatest (m ∷ ms) size = (m.offset ≡ 0) × Overlap layouts (max greatest (words_of layouts m.ty)) ms size

abbrev pub IsUnion : List LayoutT → LayoutT → Type 0
IsUnion layouts l = Overlap layouts 0 l.members l.size

-- The members stand where its kind wants them.
abbrev pub IsPlacedAs : List LayoutT → LayoutT → Bool → Type 0
IsPlacedAs layouts l true = IsUnion layouts l
IsPlacedAs layouts l false = IsStructure layouts l

abbrev pub IsPlaced : List LayoutT → LayoutT → Type 0
IsPlaced layouts l = IsPlacedAs layouts l l.is_union

-- the first member of that name
abbrev pub member_named : List ℕ → List MemberT → Option MemberT
member_named name [] = None
member_named name (m ∷ ms) = if bytes_eq name m.name then Some m else member_named name ms

-- its offset
abbrev pub offset_of : List MemberT → List ℕ → Option ℕ
offset_of ms name = option_map (λ m. m.offset) (member_named name ms)
