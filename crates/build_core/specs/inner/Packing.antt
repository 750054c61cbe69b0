-- What is packed of an image. Only private clauses cite this.
use Rattle.std.specs.Prelude.{ℕ, ◌≡◌, List}
use Rattle.cart_format.specs.Cartridge.{IsCartridge, cart_text}
use Rattle.c_image.specs.Imaging.{ImageT}
use Rattle.build_core.specs.declared.building.Built.{Built}
use Rattle.build_core.specs.Due.{Assets}
use Rattle.build_core.specs.Build.{cartridge_of}

pub record IsPackedFrom (title : List ℕ) (i : ImageT) (a : Assets) (tokens : ℕ) (b : Built) : Type 0 where
  pub cartridge : IsCartridge (cartridge_of title i a)
  pub cart_is : b.cart ≡ cart_text (cartridge_of title i a)
  pub map_is : b.map ≡ i.map
  pub items_are : b.items ≡ i.items
  pub tokens_are : b.tokens ≡ tokens
