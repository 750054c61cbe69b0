use Rattle.kit_words.proofs.Created.{created_listed, read_listed}
use Rattle.kit_words.proofs.laws.commands_are_listed.Goals as goal

pub returns-clause-created : goal.returns-clause-created
returns-clause-created c = created_listed

pub returns-clause-read : goal.returns-clause-read
returns-clause-read c = read_listed
