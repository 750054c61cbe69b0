use Rattle.text_laws.proofs.Parting.{lines_both}
use Rattle.text_laws.proofs.laws.lines_are_what_ends_part.Goals as goal

pub returns : goal.returns
returns c = record { both_ways = lines_both }
