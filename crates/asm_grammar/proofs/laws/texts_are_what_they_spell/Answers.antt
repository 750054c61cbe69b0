use Rattle.asm_grammar.proofs.Whole.{texts_both}
use Rattle.asm_grammar.proofs.laws.texts_are_what_they_spell.Goals as goal

pub returns : goal.returns
returns c = record { both_ways = texts_both }
