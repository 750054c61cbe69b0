use Rattle.std.proofs.Common.{sym, ◌∙◌}
use Rattle.c_lex.proofs.Readings.{only_one, reads_itself, reads_so}
use Rattle.c_lex.proofs.laws.texts_read_one_way.Goals as goal

pub returns-clause-some : goal.returns-clause-some
returns-clause-some c = reads_itself

pub returns-clause-one : goal.returns-clause-one
returns-clause-one c = λ file bytes r s one two. only_one file bytes r one ∙ sym (only_one file bytes s two)

pub returns-clause-both_ways : goal.returns-clause-both_ways
returns-clause-both_ways c = λ file bytes r. (only_one file bytes r, reads_so file bytes r)
