use Rattle.std.proofs.Common.{◌≡◌, ◌∙◌, ap, length, List, ℕ}
use Rattle.c_tree.specs.View.{var}
use Rattle.c_stmts.specs.View.{st, fn_of}
use Rattle.c_stmts.proofs.Declared.{declared_so}
use Rattle.c_stmts.proofs.variables.declared.Goals as goal

pub returns : goal.returns
returns c =
    let number : c.in_ok-number.number ≡ length (st c.args.state.now).sizes = c.in_ok-number.ensures.number ∙ ap (λ (ns : List ℕ). length ns) c.type_in.ensures.sizes in
    let tree = rw number at c.filled_var.ensures in
    let filled = rw c.in_ok-number.ensures.entered at c.in_ok-init.ensures.gives in
    let size = rw (c.object_size-size.ensures.size, c.deref-2.ensures.value, c.deref-3.ensures.value, c.is_new-fresh.ensures.new, c.deref.ensures.value) at c.in_ok-size.ensures.placed in
    rw c.in_ok-add_variable.ensures.sized (declared_so (fn_of c.args.globals.now c.args.gives.now) (st c.args.state.now) _ _ (var c.args.v.now) _ _ _ _ c.in_ok-ty.ensures.gives filled size tree)
