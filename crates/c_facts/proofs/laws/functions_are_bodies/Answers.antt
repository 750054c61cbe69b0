use Rattle.c_facts.proofs.BodyItems.{functions_are_bodies}
use Rattle.c_facts.proofs.laws.functions_are_bodies.Goals as goal

pub returns : goal.returns
returns c = record { bodies = functions_are_bodies }
