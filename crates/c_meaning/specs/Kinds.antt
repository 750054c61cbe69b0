-- What a typed expression says beside its kind: its type, and its tokens.
use Rattle.c_tree.specs.declared.span.Span.{Span}
use Rattle.c_types.specs.Types.{Ty}
use Rattle.c_types.specs.Typed.{TExprT, Typed}

abbrev pub type_of : TExprT → Ty
type_of (Typed kind ty span) = ty

abbrev pub span_of : TExprT → Span
span_of (Typed kind ty span) = span
