use Rattle.kit_base.proofs.Holdings.{holds_emptied}
use Rattle.run_core.proofs.writing.create_output.Goals as goal

pub returns-in-Ok-clause-made : goal.returns-in-Ok-clause-made
returns-in-Ok-clause-made g c = holds_emptied _ _ _ c.in-Ok.ensures.ok
