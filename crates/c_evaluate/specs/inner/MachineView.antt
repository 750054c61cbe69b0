-- The configuration of a machine in memory.
use Rattle.c_meaning.specs.Setting as meaning
use Rattle.c_evaluate.specs.declared.machine.Machine.{Machine}
use Rattle.c_evaluate.specs.inner.FocusView.{at, stack_of}
use Rattle.c_evaluate.specs.inner.SettingView as view
use Rattle.c_evaluate.specs.inner.StoreView.{store_of}
use Rattle.c_evaluate.specs.inner.Machine.{Config}

abbrev pub config_of : Machine → Config
config_of m = at m.focus (stack_of m.stack.items) (store_of m.store)

abbrev pub setting_of : Machine → meaning.Setting
setting_of m = view.setting_of m.setting
