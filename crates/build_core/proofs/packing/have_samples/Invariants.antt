use Rattle.std.proofs.Common.{take}
use Rattle.std.specs.List.{AllByRecursion}
use Rattle.asset_pack.specs.Texts.{HasSamples}
use Rattle.build_core.proofs.packing.have_samples.Given as goal

abbrev pub invariant-each : goal.invariant-each
invariant-each l = AllByRecursion HasSamples (take l.sound-index l.sounds)
