-- What data in memory stand for.
use Rattle.std.specs.Prelude.{map}
use Rattle.c_types.specs.declared.typed.TKind.{TKind, fold-TKind}
use Rattle.c_types.specs.Typed.{TExprT, TKindT}
use Rattle.c_types.specs.View.{layout, function, kind_layer, texpr_layer}
use Rattle.lower_trees.specs.declared.reading.Reading.{Reading}
use Rattle.lower_trees.specs.declared.jump.JumpTo.{JumpTo}
use Rattle.lower_trees.specs.declared.jump.JumpTo.TheVariants as to
use Rattle.lower_trees.specs.Shape.{Shape}
use Rattle.lower_trees.specs.Statements.{Jump, ToEnd, ToTurn}

abbrev pub shape_of : Reading → Shape
shape_of s = record { layouts = map layout s.layouts.now; functions = map function s.functions.now; literals = s.literals.now }

abbrev pub tkind : TKind → TKindT
tkind = fold-TKind TKindT TExprT kind_layer texpr_layer

abbrev pub jump_of : JumpTo → Jump
jump_of (to.End k) = ToEnd k
jump_of (to.Turn k) = ToTurn k
