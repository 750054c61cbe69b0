use Rattle.std.proofs.Common.{◌∙◌, ap, sym, subst, ℕ}
use Rattle.port_bus.specs.Random.{asked_random}
use Rattle.port_bus.specs.State.{State}
use Rattle.port_bus.specs.Stand.{DevicesStand}
use Rattle.port_bus.proofs.Standing.{answers, stands_asked}
use Rattle.port_bus.proofs.devices.Devices.answer.Goals as goal

pub returns-clause-answer : goal.returns-clause-answer
returns-clause-answer c script facts past h =
    let before : State = record {
      script = c.self.inside.pads;
      facts = record { program = c.self.inside.program; textures = c.self.inside.textures; sounds = c.self.inside.sounds; card = c.self.inside.card };
      frames = c.self.inside.frames;
      random = c.self.inside.random;
      selected = c.self.inside.selected;
    } in
    c.answer_now.ensures.answer
    ∙ answers script facts past before c.args.cycles c.args.port c.number-number.result c.asked_random-self-inside.result c.number-number.ensures.value
    (c.asked_random-self-inside.ensures.random ∙ ap (λ (n : ℕ). asked_random n c.self.inside.random) c.number-number.ensures.value)
    (subst (DevicesStand script facts past) (sym c.self.view_is) h)

pub returns-clause-stands : goal.returns-clause-stands
returns-clause-stands c script facts past h =
    let before : State = record {
      script = c.self.inside.pads;
      facts = record { program = c.self.inside.program; textures = c.self.inside.textures; sounds = c.self.inside.sounds; card = c.self.inside.card };
      frames = c.self.inside.frames;
      random = c.self.inside.random;
      selected = c.self.inside.selected;
    } in
    stands_asked script facts past before c.args.port c.asked_random-self-inside.result
    (c.asked_random-self-inside.ensures.random ∙ ap (λ (n : ℕ). asked_random n c.self.inside.random) c.number-number.ensures.value)
    (subst (DevicesStand script facts past) (sym c.self.view_is) h)
