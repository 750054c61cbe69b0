use Rattle.c_parse.proofs.NodeCount.{unit_few}
use Rattle.c_parse.proofs.laws.units_have_few_nodes.Goals as goal

pub returns : goal.returns
returns c = record { few = unit_few }
