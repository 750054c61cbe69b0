use Rattle.std.proofs.Common.{arith, ap, length, List, ℕ}
use Rattle.c_check.proofs.functions.read_parameter.Goals as goal

pub add_object-requires-clause-room : goal.add_object-requires-clause-room
add_object-requires-clause-room c = omega (arith, ap (λ (ns : List ℕ). length ns) c.type_at.ensures.sizes, c.requires.room)
