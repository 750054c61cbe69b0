use Rattle.c_lex.proofs.Spellings.{spelled_so, so_spelled}
use Rattle.c_lex.proofs.laws.tokens_are_what_is_spelled.Goals as goal

pub returns : goal.returns
returns c = record { both_ways = λ text kind. (spelled_so text kind, so_spelled text kind) }
