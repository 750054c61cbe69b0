use Rattle.asm_grammar.proofs.Whole.{faults_both}
use Rattle.asm_grammar.proofs.laws.lines_are_refused_by_class.Goals as goal

pub returns : goal.returns
returns c = record { both_ways = faults_both }
