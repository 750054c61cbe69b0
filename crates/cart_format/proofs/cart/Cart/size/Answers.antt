use Rattle.std.proofs.Common.{arith}
use Rattle.cart_format.proofs.Limits.{size_is}
use Rattle.cart_format.proofs.cart.Cart.size.Goals as goal

pub overflow_cast-result : goal.overflow_cast-result
overflow_cast-result c =
    let is = size_is c.args.self.now c.file_size.result _ _ _ _ c.program.ensures.program c.textures.ensures.textures c.sounds.ensures.sounds c.table.ensures.table (c.file_size.ensures c.args.self.now.title) c.program.ensures.limits in
    let small = is.1 in
    omega arith
