use Rattle.std.proofs.Common.{◌≡◌, length, map}
use Rattle.c_types.specs.View.{texpr, texprs}
use Rattle.c_evaluate.specs.inner.FocusView.{stack_of}
use Rattle.c_evaluate.specs.inner.SettingView.{setting_of}
use Rattle.c_evaluate.specs.inner.StoreView.{store_of}
use Rattle.c_evaluate.specs.inner.Swift.{args_on}
use Rattle.c_evaluate.proofs.calls.arguments.Given as goal

abbrev pub decreases-arguments : goal.decreases-arguments
decreases-arguments l = length l.left

abbrev pub invariant-arguments : goal.invariant-arguments
invariant-arguments l = args_on (setting_of l.s) l.of.bound l.of.function l.of.span l.given.items (texprs (map texpr l.left)) (stack_of l.stack.items) (store_of l.store) ≡ args_on (setting_of l.s) l.of.bound l.of.function l.of.span l.fn.values.items (texprs (map texpr l.xs)) (stack_of l.fn.stack.items) (store_of l.fn.store)
