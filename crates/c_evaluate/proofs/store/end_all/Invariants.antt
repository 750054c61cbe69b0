use Rattle.std.proofs.Common.{◌≡◌, drop}
use Rattle.obj_mem.specs.Stores.{end_all}
use Rattle.c_evaluate.specs.inner.StoreView.{store_of}
use Rattle.c_evaluate.proofs.store.end_all.Given as goal

abbrev pub invariant-locals : goal.invariant-locals
invariant-locals l = end_all (drop l.k-index l.ks) (store_of l.store) ≡ end_all l.ks (store_of l.fn.store)
