use Rattle.asm_grammar.proofs.Whole.{lines_both}
use Rattle.asm_grammar.proofs.laws.lines_are_what_they_spell.Goals as goal

pub returns : goal.returns
returns c = record { both_ways = lines_both }
