use Rattle.cart_format.proofs.Names.{is_text}
use Rattle.cart_format.proofs.table.is_text.Goals as goal

pub returns : goal.returns
returns c = is_text c.is_text.result c.args.name.now c.is_text.ensures
