use Rattle.std.proofs.Common.{◌≡◌}
use Rattle.c_evaluate.specs.inner.Storing.{cells_in}
use Rattle.c_evaluate.specs.inner.StoreView.{store_of}
use Rattle.c_evaluate.proofs.cells.cells.Given as goal

abbrev pub decreases-cells : goal.decreases-cells
decreases-cells l = l.left

abbrev pub invariant-cells : goal.invariant-cells
invariant-cells l = cells_in l.span l.bound l.left l.read l.place (store_of l.store) ≡ cells_in l.span l.n l.count l.fn.from l.fn.to (store_of l.fn.store)
