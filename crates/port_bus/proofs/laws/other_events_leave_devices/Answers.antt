use Rattle.port_bus.proofs.Others.{asked_elsewhere, told_elsewhere, mixed_elsewhere}
use Rattle.port_bus.proofs.laws.other_events_leave_devices.Goals as goal

pub returns : goal.returns
returns c = record { asked = asked_elsewhere; told = told_elsewhere; mixed = mixed_elsewhere }
