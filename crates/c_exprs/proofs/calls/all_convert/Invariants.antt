use Rattle.std.proofs.Common.{◌≡◌, length, map}
use Rattle.c_types.specs.View.{texpr, ctype}
use Rattle.c_exprs.specs.Calls.{all_convert}
use Rattle.c_exprs.proofs.calls.all_convert.Given as goal

abbrev pub invariant-loop-x : goal.invariant-loop-x
invariant-loop-x l = all_convert (map texpr l.left) (map ctype l.types) ≡ all_convert (map texpr l.args) (map ctype l.params)

abbrev pub decreases-loop-x : goal.decreases-loop-x
decreases-loop-x l = length l.left
