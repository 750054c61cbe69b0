use Rattle.asm_grammar.proofs.Classes.{ranges_both, forms_both}
use Rattle.asm_grammar.proofs.laws.operations_are_refused_by_class.Goals as goal

pub returns : goal.returns
returns c = record { ranges = ranges_both; forms = forms_both }
