use Rattle.cart_format.proofs.Carts.{cart_takes}
use Rattle.cart_format.proofs.laws.texts_are_cartridges.Goals as goal

pub returns : goal.returns
returns c = cart_takes
