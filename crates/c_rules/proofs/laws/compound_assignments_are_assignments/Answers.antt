use Rattle.c_rules.proofs.Compounds.{assignment, refused, stepped}
use Rattle.c_rules.proofs.laws.compound_assignments_are_assignments.Goals as goal

pub returns : goal.returns
returns c = record { assignment = assignment; refused = refused; stepped = stepped }
