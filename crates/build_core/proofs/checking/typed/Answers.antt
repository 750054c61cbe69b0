use Rattle.std.proofs.Common.{ap}
use Rattle.std.specs.Prelude.{Err}
use Rattle.build_core.proofs.Checks.{breaks_so}
use Rattle.build_core.proofs.checking.typed.Goals as goal

pub returns-in-Err-Cause-clause-typed : goal.returns-in-Err-Cause-clause-typed
returns-in-Err-Cause-clause-typed c = breaks_so c.args.parsed.now c.in-Err-Cause.fault c.broken.result (c.in-Err-Cause.ensures.first c.in-Err-Cause.fault (ap Err c.in-Err-Cause.field-0-is)) c.broken.ensures.told
