use Rattle.c_lex.proofs.Places.{all_placed, told}
use Rattle.c_lex.proofs.laws.places_are_told.Goals as goal

pub returns-clause-tokens : goal.returns-clause-tokens
returns-clause-tokens c = all_placed

pub returns-clause-refusals : goal.returns-clause-refusals
returns-clause-refusals c = told
