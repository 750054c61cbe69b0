use Rattle.c_parse.proofs.UnitReads.{one_unit}
use Rattle.c_parse.proofs.laws.tokens_are_one_unit.Goals as goal

pub returns : goal.returns
returns c = record { one = one_unit }
