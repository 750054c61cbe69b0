use Rattle.v32_isa.specs.Decoding.{decoded}
use Rattle.v32_isa.proofs.Decoded.{found_begins, none_begins}
use Rattle.v32_isa.proofs.decoding.decode.Goals as goal

pub returns-clause-found : goal.returns-clause-found
unfolding decoded
returns-clause-found c = found_begins c.args.first c.args.second _ (rw c.fields_of.ensures.parts at c.read_fields.ensures)

pub returns-clause-none : goal.returns-clause-none
unfolding decoded
returns-clause-none c = none_begins c.args.first c.args.second _ (rw c.fields_of.ensures.parts at c.read_fields.ensures)
