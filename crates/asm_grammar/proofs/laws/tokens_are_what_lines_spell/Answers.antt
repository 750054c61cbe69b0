use Rattle.asm_grammar.proofs.Strays.{tokens_both}
use Rattle.asm_grammar.proofs.laws.tokens_are_what_lines_spell.Goals as goal

pub returns : goal.returns
returns c = record { both_ways = tokens_both }
