use Rattle.asm_grammar.proofs.Whole.{refusals_both}
use Rattle.asm_grammar.proofs.laws.texts_are_refused_at_their_first_faulty_line.Goals as goal

pub returns : goal.returns
returns c = record { both_ways = refusals_both }
