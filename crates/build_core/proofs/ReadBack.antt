-- A built cartridge is read from its bytes again.
use Rattle.std.proofs.Common.{ℕ, ◌≡◌, List, ap, ◌∙◌}
use Rattle.std.specs.Prelude.{Ok}
use Rattle.kit_base.specs.Held.{Held}
use Rattle.cart_format.specs.Reading.{cart_of}
use Rattle.cart_format.proofs.Carts.{cart_again}
use Rattle.build_core.specs.declared.building.Built.{Built}
use Rattle.build_core.specs.Due.{assets}
use Rattle.build_core.specs.Build.{IsBuilt, cartridge_of}

pub read_back : (m : Held) (project : List ℕ) (b : Built) (built : IsBuilt m project b)
    → cart_of b.cart ≡ Ok (cartridge_of built.of.parts.title built.of.image (assets built.textures built.sounds))
read_back m project b built =
    ap cart_of built.cart_is ∙ cart_again (cartridge_of built.of.parts.title built.of.image (assets built.textures built.sounds)) built.cartridge
