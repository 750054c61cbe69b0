use Rattle.std.proofs.Common.{◌≡◌, length, map}
use Rattle.c_types.specs.View.{ctype}
use Rattle.c_meaning.specs.Expressions.{all_released}
use Rattle.c_evaluate.specs.inner.StoreView.{store_of}
use Rattle.c_evaluate.proofs.calls.released_all.Given as goal

abbrev pub decreases-types : goal.decreases-types
decreases-types l = length l.types

abbrev pub invariant-types : goal.invariant-types
invariant-types l = all_released (map ctype l.types) l.cells (store_of l.store) ≡ all_released (map ctype l.tys) l.values (store_of l.fn.store)
