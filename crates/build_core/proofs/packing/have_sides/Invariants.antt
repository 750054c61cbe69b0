use Rattle.std.proofs.Common.{take}
use Rattle.std.specs.List.{AllByRecursion}
use Rattle.asset_pack.specs.Texts.{HasSides}
use Rattle.build_core.proofs.packing.have_sides.Given as goal

abbrev pub invariant-each : goal.invariant-each
invariant-each l = AllByRecursion HasSides (take l.texture-index l.textures)
