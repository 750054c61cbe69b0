use Rattle.c_facts.proofs.KnownTypes.{keeps_itself, assigned_stored}
use Rattle.c_facts.proofs.laws.structures_become_themselves.Goals as goal

pub returns : goal.returns
returns c = record { kept = keeps_itself; assigned = assigned_stored }
