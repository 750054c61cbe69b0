use Rattle.c_rules.proofs.SameTypes.{same_equal}
use Rattle.c_rules.proofs.laws.same_types_are_equal.Goals as goal

pub returns : goal.returns
returns c = record { equal = same_equal }
