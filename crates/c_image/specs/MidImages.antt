-- What the mid code of an image is: that for which places were chosen, between the program and the words.
use Rattle.std.specs.Prelude.{ℕ, List}
use Rattle.c_types.specs.Programs.{ProgramT}
use Rattle.c_meaning.specs.Runs.{c_runs}
use Rattle.mid_code.specs.declared.placed.Where.{Where}
use Rattle.mid_code.specs.Agrees.{AgreesWithin}
use Rattle.mid_code.specs.Choices.{AreSafe}
use Rattle.mid_code.specs.Code.{CodeT}
use Rattle.mid_code.specs.Keeps.{KeepsRuns}
use Rattle.mid_code.specs.Plain.{IsPromoted}
use Rattle.mid_code.specs.Runs.{mid_runs}
use Rattle.mid_improve.specs.Settled.{IsSettled}
use Rattle.reg_choose.specs.Each.{AllSpare}
use Rattle.reg_frames.specs.PlacedFrom.{FramesFit}
use Rattle.c_image.specs.Imaging.{ImageT, frame_sizes, global_addresses}

-- The mid code of an image, and the choice of a register or slot for each of its temporaries, that of the start first.
pub record IsMidOf (p : ProgramT) (i : ImageT) (code : CodeT ℕ) (choices : List (List Where)) : Type 0 where
  -- it has the runs of the program, and no local of one word whose address is never taken
  pub keeps : KeepsRuns (c_runs p (frame_sizes i.map)) (mid_runs code (frame_sizes i.map))
  pub promoted : IsPromoted code
  -- it has no operator whose words are known, no copy as an operand, and nothing that only puts what nothing reads
  pub settled : IsSettled code
  -- the words do what it means, in at most as many instructions as its work, and 64, where it does not stray
  pub follows : AgreesWithin 1 (global_addresses i.map) (mid_runs code (frame_sizes i.map)) i.words
  -- the choices are safe, and have no slot where they need none; the frames are at most the words of the locals, the slots and 16
  pub safe : AreSafe code choices
  pub spares : AllSpare code choices
  pub frames : FramesFit code choices (frame_sizes i.map)
