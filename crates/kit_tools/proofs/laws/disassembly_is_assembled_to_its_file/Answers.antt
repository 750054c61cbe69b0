use Rattle.kit_tools.proofs.Again.{assembled_again}
use Rattle.kit_tools.proofs.laws.disassembly_is_assembled_to_its_file.Goals as goal

pub returns : goal.returns
returns c = assembled_again
