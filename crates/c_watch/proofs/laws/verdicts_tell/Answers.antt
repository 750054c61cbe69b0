use Rattle.c_watch.proofs.Telling.{verdicts_tell}
use Rattle.c_watch.proofs.laws.verdicts_tell.Goals as goal

pub returns : goal.returns
returns c = verdicts_tell
