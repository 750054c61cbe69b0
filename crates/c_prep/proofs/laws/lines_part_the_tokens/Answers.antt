use Rattle.c_prep.proofs.Parting.{whole, lines, begun}
use Rattle.c_prep.proofs.laws.lines_part_the_tokens.Goals as goal

pub returns-clause-whole : goal.returns-clause-whole
returns-clause-whole c = whole

pub returns-clause-lines : goal.returns-clause-lines
returns-clause-lines c = lines

pub returns-clause-begun : goal.returns-clause-begun
returns-clause-begun c = begun
