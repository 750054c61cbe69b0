use Rattle.std.proofs.Common.{◌≡◌, length}
use Rattle.c_evaluate.specs.inner.StoreView.{store_of}
use Rattle.c_evaluate.specs.inner.Swift.{passed}
use Rattle.c_evaluate.proofs.store.passed.Given as goal

abbrev pub decreases-each : goal.decreases-each
decreases-each l = length l.left

abbrev pub invariant-each : goal.invariant-each
invariant-each l = passed l.left (store_of l.store) ≡ passed l.args (store_of l.fn.store)
