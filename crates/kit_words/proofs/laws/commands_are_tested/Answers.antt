use Rattle.kit_words.proofs.Created.{created_differ, numbers_are}
use Rattle.kit_words.proofs.laws.commands_are_tested.Goals as goal

pub returns-clause-created : goal.returns-clause-created
returns-clause-created c = created_differ

pub returns-clause-number : goal.returns-clause-number
returns-clause-number c = numbers_are
