use Rattle.assembler.proofs.Standing.{is_address}
use Rattle.assembler.proofs.laws.labels_are_addresses.Goals as goal

pub returns : goal.returns
returns c = is_address
