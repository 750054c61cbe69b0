use Rattle.std.proofs.Common.{◌≡◌, ◌+◌, ◌*◌}
use Rattle.c_evaluate.specs.inner.MachineView.{config_of, setting_of}
use Rattle.c_evaluate.specs.inner.Machine.{run_left, work_left}
use Rattle.c_evaluate.proofs.Moving.{size}
use Rattle.c_evaluate.proofs.machine.Machine.advance.Given as goal

abbrev pub decreases-steps : goal.decreases-steps
decreases-steps l = 9 * work_left (setting_of l.self) (config_of l.self) + size (config_of l.self)

abbrev pub invariant-steps : goal.invariant-steps
invariant-steps l = (setting_of l.self ≡ setting_of l.fn.self) × (run_left (setting_of l.fn.self) (config_of l.self) ≡ run_left (setting_of l.fn.self) (config_of l.fn.self))
