use Rattle.c_facts.proofs.Starts.{starts_given}
use Rattle.c_facts.proofs.laws.starts_are_given.Goals as goal

pub returns : goal.returns
returns c = record { given = starts_given }
