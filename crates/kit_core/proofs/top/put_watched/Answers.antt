use Rattle.kit_core.proofs.Showing.{shown_twice}
use Rattle.kit_core.proofs.top.put_watched.Goals as goal

pub returns-in-Err-Memory-clause-shows : goal.returns-in-Err-Memory-clause-shows
returns-in-Err-Memory-clause-shows g c =
    shown_twice _ _ _ c.in-Err-Memory.ensures.puts.0 _ _ _ c.in-Err-Memory.ensures.puts.1 c.put_last.ensures.puts
