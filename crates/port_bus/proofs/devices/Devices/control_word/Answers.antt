use Rattle.std.proofs.Common.{◌∙◌, ap, ℕ, false, get_or}
use Rattle.port_bus.specs.Controls.{signed_count}
use Rattle.port_bus.proofs.Keeping.{word_is}
use Rattle.port_bus.proofs.devices.Devices.control_word.Goals as goal

pub returns : goal.returns
returns c = record {
  word = c.signed_count.ensures.word
      ∙ ap (λ (k : ℕ). signed_count (get_or c.self.inside.downs k false) (get_or c.self.inside.counts k 0)) c.place-at.ensures.place
      ∙ rw (← c.self.view_is) (word_is c.self.inside.pads.events c.self.inside.frames c.self.inside.next c.self.inside.selected c.args.control c.self.inside.downs c.self.inside.counts c.self.invariant c.requires.control);
}
