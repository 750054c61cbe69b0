use Rattle.asm_reader.proofs.FormLaws.{forms_both_ways}
use Rattle.asm_reader.proofs.laws.forms_are_what_is_written.Goals as goal

pub returns : goal.returns
returns c = record { both_ways = forms_both_ways }
