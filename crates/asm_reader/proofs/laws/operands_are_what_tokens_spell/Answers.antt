use Rattle.asm_reader.proofs.OperandLaws.{operands_both_ways}
use Rattle.asm_reader.proofs.laws.operands_are_what_tokens_spell.Goals as goal

pub returns : goal.returns
returns c = record { both_ways = operands_both_ways }
