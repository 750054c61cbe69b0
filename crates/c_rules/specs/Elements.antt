-- What a type is made of, where the elements of an array of arrays are taken one by one. A type that is no array is one element.
use Rattle.std.specs.Prelude.{ℕ, ◌*◌, Bool, true, false, List}
use Rattle.c_types.specs.Types.{Ty, VoidY, StructY, UnionY, ArrayY, LayoutT}
use Rattle.c_types.specs.Sizes.{layout_size}
use Rattle.c_rules.specs.Sizes.{is_declared}
use Rattle.c_rules.specs.declared.elements.Element.{Element}
use Rattle.c_rules.specs.declared.elements.Element.TheVariants.{Void, Word, Record}

-- what each element is
abbrev pub element_of : Ty → Element
element_of VoidY = Void
element_of (StructY number) = Record number
element_of (UnionY number) = Record number
element_of (ArrayY of len) = element_of of
element_of _ = Word

-- how many there are
abbrev pub elements_in : Ty → ℕ
elements_in (ArrayY of len) = elements_in of * len
elements_in _ = 1

-- the words of each
abbrev pub element_words : List LayoutT → Element → ℕ
element_words layouts Void = 0
element_words layouts Word = 1
element_words layouts (Record number) = layout_size layouts number

-- whether its size is known
abbrev pub is_element_whole : List Bool → Element → Bool
is_element_whole whole Void = false
is_element_whole whole Word = true
is_element_whole whole (Record number) = is_declared whole number
