use Rattle.std.proofs.Common.{sym, ◌∙◌, subst}
use Rattle.port_bus.specs.State.{State}
use Rattle.port_bus.specs.Stand.{DevicesStand}
use Rattle.port_bus.proofs.Standing.{stands_seeded}
use Rattle.port_bus.proofs.devices.Devices.out.Goals as goal

pub returns-then-is_seed-clause-stands : goal.returns-then-is_seed-clause-stands
returns-then-is_seed-clause-stands c script facts past h =
    let before : State = record {
      script = c.self.inside.pads;
      facts = record { program = c.self.inside.program; textures = c.self.inside.textures; sounds = c.self.inside.sounds; card = c.self.inside.card };
      frames = c.self.inside.frames;
      random = c.self.inside.random;
      selected = c.self.inside.selected;
    } in
    stands_seeded script facts past before c.args.port c.args.word (sym c.number.ensures.value ∙ c.in-256.is) (sym c.is_seed.ensures.seed ∙ c.if-is_seed.true)
    (subst (DevicesStand script facts past) (sym c.self.view_is) h)
