use Rattle.asm_items.specs.Vocabulary.{registers}
use Rattle.asm_items.proofs.vocabulary.register_number.Goals as goal

pub returns : goal.returns
unfolding registers
returns c = c.number_named.ensures
