use Rattle.std.proofs.Common.{◌≡◌, true, false, refl, sym, ◌∙◌}
use Rattle.port_history.specs.Past.{is_graphics_port, is_sound_port}
use Rattle.v32_console.specs.Setup.{facts_of}
use Rattle.v32_console.proofs.Boards.{no_sound, graphics_told, sound_told, small_told}
use Rattle.v32_console.proofs.board.Board.tell.Goals as goal

pub returns-then-is_graphics : goal.returns-then-is_graphics
returns-then-is_graphics c = record {
  telling = record {
    counts = record { cycles = refl; frames = refl };
    tape = refl;
    stands = λ writable u past stands.
        let is : is_graphics_port c.args.port ≡ true = sym c.is_graphics.ensures ∙ c.if-is_graphics.true in
        graphics_told u past c.args.self.now c.args.port c.args.word _ is (no_sound c.args.port is) stands (c.out.ensures.told u.textures past stands.graphics);
  };
}

pub returns-then-is_sound : goal.returns-then-is_sound
returns-then-is_sound c = record {
  telling = record {
    counts = record { cycles = refl; frames = refl };
    tape = refl;
    stands = λ writable u past stands.
        let none : is_graphics_port c.args.port ≡ false = sym c.is_graphics.ensures ∙ c.if-is_graphics.false in
        let is : is_sound_port c.args.port ≡ true = sym c.is_sound.ensures ∙ c.if-is_sound.true in
        sound_told u past c.args.self.now c.args.port c.args.word _ none is stands (c.out-then-is_sound.ensures.told u.sounds past stands.sound);
  };
}

pub returns-else-is_sound : goal.returns-else-is_sound
returns-else-is_sound c = record {
  telling = record {
    counts = record { cycles = refl; frames = c.out-else-is_sound.ensures.frames };
    tape = refl;
    stands = λ writable u past stands.
        let none : is_graphics_port c.args.port ≡ false = sym c.is_graphics.ensures ∙ c.if-is_graphics.false in
        let neither : is_sound_port c.args.port ≡ false = sym c.is_sound.ensures ∙ c.if-is_sound.false in
        small_told u past c.args.self.now c.args.port c.args.word _ none neither stands (c.out-else-is_sound.ensures.stands u.pads (facts_of u) past stands.small);
  };
}
