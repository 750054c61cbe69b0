-- A function of a sound program that has no loops has none in mid code, and calls only what its tree calls.
use Rattle.std.proofs.Common.{[]}
use Rattle.c_types.specs.Programs.{TFunctionT, ProgramT}
use Rattle.c_facts.specs.Sound.{IsFunction, IsSound, scene}
use Rattle.c_meaning.specs.Setting.{setting}
use Rattle.lower_trees.specs.Shape.{shape}
use Rattle.lower_trees.specs.Lowered.{low_function}
use Rattle.mid_lower.specs.SourceLoops.{HasNoLoops}
use Rattle.mid_lower.specs.LoweredFrom.{StaysStraight}
use Rattle.mid_lower.proofs.CallsOfStatements.{calls_stand}
use Rattle.mid_lower.proofs.LooplessStatements.{no_loops}

pub stays_straight : (p : ProgramT) → IsSound p → (f : TFunctionT) → IsFunction (scene p) f → HasNoLoops (setting p []) f → StaysStraight f (low_function (shape p) f)
stays_straight p sound f is e = record {
  loop_count = no_loops p sound.layouts f is e;
  calls = λ g. calls_stand g (shape p) f;
}
