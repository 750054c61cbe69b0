use Rattle.c_facts.proofs.KnownTypes.{known_numbered, sizes_there}
use Rattle.c_facts.proofs.laws.known_types_have_sizes.Goals as goal

pub returns : goal.returns
returns c = record { numbered = known_numbered; sized = sizes_there }
