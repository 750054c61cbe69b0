-- Which expressions come to 0 or 1, whatever they are made of: a conversion of these to bool changes nothing. An object of type bool has the word
-- that was stored there, which need not be one of these.
use Rattle.std.specs.Prelude.{nat_le, Bool, true, false, ◌||◌}
use Rattle.c_tree.specs.declared.operator.UnOp.{UnOp}
use Rattle.c_tree.specs.declared.operator.UnOp.TheVariants.{Not}
use Rattle.c_tree.specs.declared.operator.BinOp.{BinOp}
use Rattle.c_tree.specs.declared.operator.BinOp.TheVariants.{Less, LessEq, More, MoreEq, Equal, NotEqual, AndAlso, OrElse}
use Rattle.c_types.specs.Types.{Ty, BoolY}
use Rattle.c_types.specs.Typed.{TExprT, Typed, TKindT, NumberK, UnaryK, BinaryK, AssignK, CastK}
use Rattle.c_meaning.specs.Kinds.{type_of}
use Rattle.c_types.specs.Kinds.{decayed, is_pointer}

abbrev pub is_bool : Ty → Bool
is_bool BoolY = true
is_bool _ = false

abbrev pub is_not : UnOp → Bool
is_not Not = true
is_not _ = false

abbrev pub is_comparison : BinOp → Bool
is_comparison Less = true
is_comparison LessEq = true
is_comparison More = true
is_comparison MoreEq = true
is_comparison Equal = true
is_comparison NotEqual = true
is_comparison AndAlso = true
is_comparison OrElse = true
is_comparison _ = false

abbrev pub is_flag_kind : TKindT → Ty → Bool
is_flag_kind (NumberK x) ty = nat_le x 1
is_flag_kind (UnaryK op x) ty = is_not op
is_flag_kind (BinaryK op x y) ty = is_comparison op
is_flag_kind (AssignK op x y) ty = is_bool (type_of x)
is_flag_kind (CastK x) ty = is_bool ty
is_flag_kind _ ty = false

abbrev pub is_flag : TExprT → Bool
is_flag (Typed kind ty span) = is_flag_kind kind ty

-- a condition whose word is 0 or 1: that of a pointer is what a comparison with NULL gives
abbrev pub tests_flag : TExprT → Bool
tests_flag x = is_flag x || is_pointer (decayed (type_of x))
