use Rattle.std.proofs.Common.{◌≡◌, true, false, Some, refl, sym, ◌∙◌, ap}
use Rattle.port_history.specs.Past.{is_graphics_port, is_sound_port}
use Rattle.v32_console.specs.Setup.{facts_of}
use Rattle.v32_console.proofs.Boards.{graphics_asked, sound_asked, small_asked, graphics_answered, sound_answered, small_answered}
use Rattle.v32_console.proofs.board.Board.answer.Goals as goal

pub returns-then-is_graphics : goal.returns-then-is_graphics
returns-then-is_graphics c = record {
  answering = record {
    counts = record { cycles = refl; frames = refl };
    tape = refl;
    some = refl;
    stands = λ readable begun u past stands.
        let is : is_graphics_port c.args.port ≡ true = sym c.is_graphics.ensures ∙ c.if-is_graphics.true in (
          ap Some (c.answer.ensures.answer u.textures past stands.graphics ∙ graphics_answered u past c.args.self.now c.args.port c.args.self.now.cycles is),
          graphics_asked u past c.args.self.now c.args.port is stands,
        );
  };
}

pub returns-then-is_sound : goal.returns-then-is_sound
returns-then-is_sound c = record {
  answering = record {
    counts = record { cycles = refl; frames = refl };
    tape = refl;
    some = refl;
    stands = λ readable begun u past stands.
        let no : is_graphics_port c.args.port ≡ false = sym c.is_graphics.ensures ∙ c.if-is_graphics.false in
        let is : is_sound_port c.args.port ≡ true = sym c.is_sound.ensures ∙ c.if-is_sound.true in (
          ap Some (c.answer-then-is_sound.ensures.exact u.sounds past stands.sound ∙ sound_answered u past c.args.self.now c.args.port c.args.self.now.cycles no is),
          sound_asked u past c.args.self.now c.args.port is stands,
        );
  };
}

pub returns : goal.returns
returns c = record {
  answering = record {
    counts = record { cycles = refl; frames = c.answer-2.ensures.frames };
    tape = refl;
    some = refl;
    stands = λ readable begun u past stands.
        let no : is_graphics_port c.args.port ≡ false = sym c.is_graphics.ensures ∙ c.if-is_graphics.false in
        let none : is_sound_port c.args.port ≡ false = sym c.is_sound.ensures ∙ c.if-is_sound.false in (
          ap Some (c.answer-2.ensures.answer u.pads (facts_of u) past stands.small ∙ small_answered u past c.args.self.now c.args.port c.args.self.now.cycles no none),
          small_asked u past c.args.self.now c.args.port _ stands (c.answer-2.ensures.stands u.pads (facts_of u) past stands.small),
        );
  };
}
