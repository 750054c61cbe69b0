use Rattle.gpu_state.proofs.Elsewhere.{stands_asked, stands_told, stands_mixed}
use Rattle.gpu_state.proofs.laws.other_events_leave_graphics.Goals as goal

pub returns-clause-asked : goal.returns-clause-asked
returns-clause-asked c = stands_asked

pub returns-clause-told : goal.returns-clause-told
returns-clause-told c = stands_told

pub returns-clause-mixed : goal.returns-clause-mixed
returns-clause-mixed c = stands_mixed
