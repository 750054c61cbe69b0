use Rattle.port_bus.proofs.Keeping.{frame_begun}
use Rattle.port_bus.proofs.devices.Devices.begin_frame.Goals as goal

pub invariant_of-self : goal.invariant_of-self
invariant_of-self c = frame_begun c.self.inside.pads.events c.self.inside.frames c.self.inside.next c.apply_events-self-inside.result c.self.inside.selected
    c.self.inside.downs c.apply_events-self-inside.new.downs c.self.inside.counts c.count_frame.new.counts c.self.invariant
    c.apply_events-self-inside.ensures.parts c.apply_events-self-inside.ensures.downs c.count_frame.ensures.size c.count_frame.ensures.counts
