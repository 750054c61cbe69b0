use Rattle.assembler.proofs.ReadingAgain.{reads_again, assembles_again}
use Rattle.assembler.proofs.laws.disassembly_assembles_again.Goals as goal

pub returns : goal.returns
returns c = record { reads = reads_again; assembles = assembles_again }
