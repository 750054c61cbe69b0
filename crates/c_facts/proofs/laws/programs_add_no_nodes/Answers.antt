use Rattle.c_facts.proofs.ProgramNodes.{programs_have_few_nodes}
use Rattle.c_facts.proofs.laws.programs_add_no_nodes.Goals as goal

pub returns : goal.returns
returns c = record { nodes = programs_have_few_nodes }
