-- What is promised of lowered code, put together from its laws.
use Rattle.std.proofs.Common.{List, [], ◌∷◌, map, refl}
use Rattle.c_types.specs.Programs.{TFunctionT, ProgramT}
use Rattle.c_facts.specs.Sound.{IsFunction, AreFunctions, IsSound, scene}
use Rattle.c_meaning.specs.Setting.{setting}
use Rattle.lower_trees.specs.Shape.{shape}
use Rattle.lower_trees.specs.Lowered.{lowered, low_function}
use Rattle.mid_lower.specs.LoweredFrom.{IsLoweredFunction, EachLowered, IsLoweredFrom}
use Rattle.mid_lower.proofs.IsMidCode.{Known, lowered_is_mid}
use Rattle.mid_lower.proofs.LocalWords.{local_words}
use Rattle.mid_lower.proofs.Temporaries.{function_temporaries, start_temporaries}
use Rattle.mid_lower.proofs.NestingStatements.{function_nests, start_nests}
use Rattle.mid_lower.proofs.WeighedStatements.{weighs}
use Rattle.mid_lower.proofs.StaysStraight.{stays_straight}
use Rattle.mid_lower.proofs.Together.{lives_together}
use Rattle.mid_lower.proofs.SoundRuns.{keeps, works}

pub is_lowered_function : (p : ProgramT) → IsSound p → (f : TFunctionT) → IsFunction (scene p) f → IsLoweredFunction (setting p []) f (low_function (shape p) f)
is_lowered_function p sound f is = record {
  local_words = local_words p f is;
  together = lives_together (shape p) f;
  temporaries = function_temporaries (shape p) f;
  straight = stays_straight p sound f is;
  nests = function_nests (shape p) f;
}

each_lowered : (p : ProgramT) → IsSound p → (fs : List TFunctionT) → AreFunctions (scene p) fs → EachLowered (setting p []) fs (map (low_function (shape p)) fs)
each_lowered p sound [] are = tt
each_lowered p sound (f ∷ fs) are = (is_lowered_function p sound f are.0, each_lowered p sound fs are.1)

pub lowered_from : (p : ProgramT) → Known p → IsLoweredFrom p (lowered p)
lowered_from p known = record {
  is_mid = lowered_is_mid p known;
  keeps = keeps p known.sound known.nodes;
  works = works p known.sound known.nodes;
  weighs = weighs p;
  functions = each_lowered p known.sound p.functions known.sound.functions;
  start_temporaries = start_temporaries p;
  start_nests = start_nests p;
  globals = refl;
  literals = refl;
  main = refl;
}
