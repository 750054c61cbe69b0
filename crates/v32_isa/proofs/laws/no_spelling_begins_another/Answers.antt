use Rattle.v32_isa.proofs.Spellings.{one_spelling}
use Rattle.v32_isa.proofs.laws.no_spelling_begins_another.Goals as goal

pub returns : goal.returns
returns c = one_spelling
