use Rattle.run_files.proofs.Scripts.{grown}
use Rattle.run_files.proofs.pads.Pads.put_event.Goals as goal

pub invariant_of-self : goal.invariant_of-self
invariant_of-self c =
    grown (record { date = c.self.inside.date; time = c.self.inside.time; connected = c.self.inside.connected; events = c.self.inside.events.items })
    c.push_event.new.events.items c.args.event c.self.invariant (rw (← c.self.view_is) at c.requires.event) (rw (← c.self.view_is) at c.requires.order)
    c.push_event.ensures.either
