use Rattle.c_prep.proofs.Listing.{fault_code}
use Rattle.c_prep.proofs.files.refusal.Goals as goal

pub returns-clause-codes : goal.returns-clause-codes
returns-clause-codes c = fault_code c.code_of.result c.args.x.fault c.code_of.ensures
