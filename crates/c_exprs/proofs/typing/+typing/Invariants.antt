use Rattle.std.proofs.Common.{◌≡◌, drop, map}
use Rattle.c_tree.specs.View.{expr, exprs}
use Rattle.c_types.specs.View.{texpr}
use Rattle.c_exprs.specs.View.{ctx}
use Rattle.c_exprs.specs.Typing.{all_valued}
use Rattle.c_exprs.proofs.Fronts.{before}
use Rattle.c_exprs.proofs.typing.+typing.Given as goal

abbrev pub invariant-all_valued-loop-e : goal.invariant-all_valued-loop-e
invariant-all_valued-loop-e l =
    before (map texpr l.found.items) (all_valued (ctx l.globals l.scopes) l.texts l.named (exprs (map expr (drop l.e-index l.es)))) ≡ all_valued (ctx l.globals l.scopes) l.initial.texts l.fn.named (exprs (map expr l.es))
