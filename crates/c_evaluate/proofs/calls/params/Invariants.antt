use Rattle.std.proofs.Common.{◌≡◌, ◌+◌, length, map}
use Rattle.c_types.specs.View.{ctype}
use Rattle.c_evaluate.specs.inner.SettingView.{setting_of}
use Rattle.c_evaluate.specs.inner.StoreView.{store_of}
use Rattle.c_evaluate.specs.inner.Storing.{params_in}
use Rattle.c_evaluate.proofs.calls.params.Given as goal

abbrev pub decreases-params : goal.decreases-params
decreases-params l = length l.types

abbrev pub invariant-params : goal.invariant-params
invariant-params l = (l.k + length l.types ≡ length l.tys) × (params_in (setting_of l.s) l.n l.k (map ctype l.types) l.cells (store_of l.store) ≡ params_in (setting_of l.s) l.n 0 (map ctype l.tys) l.values (store_of l.fn.store))
