use Rattle.asm_reader.proofs.WordLaws.{mnemonics_stand, registers_stand}
use Rattle.asm_reader.proofs.laws.names_stand_for_what_they_name.Goals as goal

pub returns : goal.returns
returns c = record { mnemonics = λ i. mnemonics_stand i; registers = registers_stand }
