-- What the mid code is that was built.
use Rattle.std.specs.Prelude.{ℕ, List}
use Rattle.kit_base.specs.Held.{Held}
use Rattle.mid_code.specs.Whole.{mid}
use Rattle.reg_frames.specs.Placeable.{places_of}
use Rattle.c_image.specs.MidImages.{IsMidOf}
use Rattle.build_core.specs.declared.building.Built.{Built}
use Rattle.build_core.specs.Build.{IsBuilt}

-- It is built of the project, and its mid code and choices are those between the source's program and the words.
pub record HasMid (m : Held) (project : List ℕ) (b : Built) : Type 0 where
  pub built : IsBuilt m project b
  pub is_mid : IsMidOf built.of.program built.of.image (mid b.mid) (places_of b.choices)
