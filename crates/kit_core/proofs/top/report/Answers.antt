use Rattle.kit_core.proofs.Showing.{shown_instead}
use Rattle.kit_core.proofs.top.report.Goals as goal

pub returns-in-Err-clause-shows : goal.returns-in-Err-clause-shows
returns-in-Err-clause-shows g c = shown_instead _ _ _ _ _ c.put_last-in-Err.ensures.puts
