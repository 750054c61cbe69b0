use Rattle.std.proofs.Common.{◌≡◌, drop}
use Rattle.obj_mem.specs.Stores.{fresh_all}
use Rattle.c_evaluate.specs.inner.SettingView.{setting_of}
use Rattle.c_evaluate.specs.inner.StoreView.{store_of}
use Rattle.c_evaluate.proofs.store.fresh_all.Given as goal

abbrev pub invariant-locals : goal.invariant-locals
invariant-locals l = fresh_all (setting_of l.s).sizes (drop l.k-index l.ks) (store_of l.store) ≡ fresh_all (setting_of l.s).sizes l.ks (store_of l.fn.store)
