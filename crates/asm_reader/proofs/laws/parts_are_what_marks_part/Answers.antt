use Rattle.asm_reader.proofs.PartLaws.{lines_both_ways, operands_apart_both_ways}
use Rattle.asm_reader.proofs.laws.parts_are_what_marks_part.Goals as goal

pub returns : goal.returns
returns c = record { lines = lines_both_ways; operands = operands_apart_both_ways }
