use Rattle.kit_words.proofs.Listed.{made_as_many, named_form}
use Rattle.kit_words.proofs.laws.forms_have_commands.Goals as goal

pub returns-clause-named : goal.returns-clause-named
returns-clause-named c = named_form

pub returns-clause-made : goal.returns-clause-made
returns-clause-made c = made_as_many
