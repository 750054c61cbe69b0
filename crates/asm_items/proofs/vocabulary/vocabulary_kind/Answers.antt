use Rattle.std.proofs.Common.{map, ◌∙◌}
use Rattle.asm_items.specs.Vocabulary.{entry, operations, others, vocabulary}
use Rattle.asm_items.proofs.Names.{said_first, said_second}
use Rattle.asm_items.proofs.vocabulary.vocabulary_kind.Goals as goal

pub returns-in-Some : goal.returns-in-Some
unfolding vocabulary
returns-in-Some c = said_first c.args.word.now (map entry operations) others c.in-Some.kind c.in-Some.ensures

pub returns-in-None : goal.returns-in-None
unfolding vocabulary
returns-in-None c = c.kind_named.ensures ∙ said_second c.args.word.now (map entry operations) others c.in-None.ensures
