use Rattle.build_core.proofs.Listing.{rule_code}
use Rattle.build_core.proofs.checking.broken.Goals as goal

pub returns-in-Ok-clause-content : goal.returns-in-Ok-clause-content
returns-in-Ok-clause-content c = rule_code c.code_number.result c.args.fault.code c.code_number.ensures.number
