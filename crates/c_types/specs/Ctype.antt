-- The types that those in memory stand for.
use Rattle.c_types.specs.declared.ctype.CType.{CType}
use Rattle.c_types.specs.declared.ctype.CType.TheVariants as c
use Rattle.c_types.specs.Types.{Ty, VoidY, IntY, BoolY, EnumY, StructY, UnionY, PointerY, ArrayY}

abbrev pub ctype : CType → Ty
ctype c.Void = VoidY
ctype c.Int = IntY
ctype c.Bool = BoolY
ctype (c.Enum n) = EnumY n
ctype (c.Struct n) = StructY n
ctype (c.Union n) = UnionY n
ctype (c.Pointer t) = PointerY t.value
ctype (c.Array t n) = ArrayY t.value n
