-- The plain code that whole programs of mid code and of placed code stand for.
use Rattle.std.specs.Prelude.{ℕ, map}
use Rattle.mid_code.specs.declared.mid.Mid.{Mid}
use Rattle.mid_code.specs.declared.placed_code.Placed.{Placed}
use Rattle.mid_code.specs.Code.{CodeT}
use Rattle.mid_code.specs.Placed.{PlacedT}
use Rattle.mid_code.specs.View.{code, spots}

abbrev pub mid : Mid → CodeT ℕ
mid m = code m.of

abbrev pub placed : Placed → PlacedT
placed x = record { code = code x.of; frames = x.frames.sizes; spots = map spots x.words }
