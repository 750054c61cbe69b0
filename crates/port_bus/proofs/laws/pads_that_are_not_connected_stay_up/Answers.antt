use Rattle.port_bus.proofs.Unconnected.{stays_at_start}
use Rattle.port_bus.proofs.laws.pads_that_are_not_connected_stay_up.Goals as goal

pub returns : goal.returns
returns c = record { word = stays_at_start }
