-- What was answered is spelled so.
use Rattle.std.proofs.Common.{◌≡◌, ℕ, List}
use Rattle.std.specs.Prelude.{Ok}
use Rattle.asset_pack.specs.Words.{IsBytes}
use Rattle.cart_format.specs.Cartridge.{Cartridge, IsCartridge, cart_text}
use Rattle.cart_format.specs.Reading.{cart_of}
use Rattle.cart_format.proofs.Carts.{cart_takes}

pub cart_found : (bytes : List ℕ) (c : Cartridge) → IsBytes bytes → cart_of bytes ≡ Ok c → IsCartridge c × (bytes ≡ cart_text c)
cart_found bytes c fits e = cart_takes bytes c fits e
