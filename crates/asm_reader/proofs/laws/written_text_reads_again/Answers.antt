use Rattle.asm_reader.proofs.AgainLaws.{written_again}
use Rattle.asm_reader.proofs.laws.written_text_reads_again.Goals as goal

pub returns : goal.returns
returns c = record { again = written_again }
