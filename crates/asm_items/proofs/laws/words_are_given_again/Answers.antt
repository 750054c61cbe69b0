use Rattle.asm_items.proofs.Spelled.{given_again}
use Rattle.asm_items.proofs.laws.words_are_given_again.Goals as goal

pub returns : goal.returns
returns c = given_again
