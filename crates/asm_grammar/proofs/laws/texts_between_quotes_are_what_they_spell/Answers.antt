use Rattle.asm_grammar.proofs.Quotes.{quoted_both_ways}
use Rattle.asm_grammar.proofs.laws.texts_between_quotes_are_what_they_spell.Goals as goal

pub returns : goal.returns
returns c = record { both_ways = quoted_both_ways }
