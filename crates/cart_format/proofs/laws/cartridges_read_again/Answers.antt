use Rattle.cart_format.proofs.Carts.{cart_again}
use Rattle.cart_format.proofs.laws.cartridges_read_again.Goals as goal

pub returns : goal.returns
returns c = cart_again
