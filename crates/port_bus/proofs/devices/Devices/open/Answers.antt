use Rattle.std.proofs.Common.{refl}
use Rattle.port_bus.specs.Random.{random_after}
use Rattle.port_bus.proofs.Keeping.{opened}
use Rattle.port_bus.proofs.devices.Devices.open.Goals as goal

pub invariant_of-result : goal.invariant_of-result
invariant_of-result c = opened c.args.pads.events

pub returns : goal.returns
unfolding random_after
returns c = record { stands = record { script_is = refl; facts_are = refl; frames_are = refl; random_is = refl; selected_is = refl } }
