-- What the value of an expression is by the rules.
use Rattle.std.proofs.Common.{List}
use Rattle.c_tree.specs.Tree.{ExprT}
use Rattle.c_exprs.specs.Env.{Text, Ctx}
use Rattle.c_exprs.specs.Nodes.{span_of}
use Rattle.c_exprs.specs.Typing.{as_value, typed}
use Rattle.c_exprs.proofs.Exact.{ValueOut, value_out, outcome}

pub value_outcome : (c : Ctx) (ts : List Text) (e : ExprT) → ValueOut c ts e (as_value c (span_of e) (typed c ts e))
value_outcome c ts e = value_out c ts e (typed c ts e) (outcome c ts e)
