use Rattle.std.proofs.Common.{subst}
use Rattle.run_files.specs.PadsAnswer.{ReadsPads}
use Rattle.run_files.proofs.PadsWhole.{only}
use Rattle.run_files.proofs.pads.read_pads.Goals as goal

pub returns-clause-only : goal.returns-clause-only
returns-clause-only c = λ s is. subst (λ r. ReadsPads c.script_of.result r) (only c.args.bytes.now s is) c.script_of.ensures.exact
