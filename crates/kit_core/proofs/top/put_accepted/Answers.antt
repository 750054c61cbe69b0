use Rattle.kit_core.proofs.Showing.{shown_once}
use Rattle.kit_core.proofs.top.put_accepted.Goals as goal

pub returns-clause-shows : goal.returns-clause-shows
returns-clause-shows g c = shown_once _ _ _ _ _ c.put_last.ensures.puts
