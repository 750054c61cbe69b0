use Rattle.std.proofs.Common.{◌≡◌, ◌++◌, take}
use Rattle.std.specs.List.{flat_map, AllByRecursion}
use Rattle.asset_pack.specs.Texts.{sound_text, IsSound}
use Rattle.cart_format.proofs.writing.put_sounds.Given as goal

abbrev pub invariant-each : goal.invariant-each
invariant-each l = record {
  text : l.out.items ≡ l.fn.out.items ++ flat_map sound_text (take l.sound-index l.sounds);
  fits : AllByRecursion IsSound (take l.sound-index l.sounds);
}
