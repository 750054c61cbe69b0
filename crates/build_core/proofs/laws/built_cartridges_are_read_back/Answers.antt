use Rattle.build_core.proofs.ReadBack.{read_back}
use Rattle.build_core.proofs.laws.built_cartridges_are_read_back.Goals as goal

pub returns : goal.returns
returns c = record { read = read_back }
