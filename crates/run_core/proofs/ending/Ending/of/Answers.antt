use Rattle.std.proofs.Common.{arith}
use Rattle.v32_console.proofs.Opening.{few_words}
use Rattle.run_core.proofs.ending.Ending.of.Goals as goal

pub overflow_cast-words : goal.overflow_cast-words
overflow_cast-words c = let few = (few_words c.args.cart.now c.program.ensures.limits).0 in rw c.program.ensures.program (omega (arith, few))
