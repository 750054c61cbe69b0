use Rattle.std.proofs.Common.{◌≡◌, ◌++◌, take}
use Rattle.std.specs.List.{flat_map, AllByRecursion}
use Rattle.asset_pack.specs.Texts.{texture_text, IsTexture}
use Rattle.cart_format.proofs.writing.put_textures.Given as goal

abbrev pub invariant-each : goal.invariant-each
invariant-each l = record {
  text : l.out.items ≡ l.fn.out.items ++ flat_map texture_text (take l.texture-index l.textures);
  fits : AllByRecursion IsTexture (take l.texture-index l.textures);
}
