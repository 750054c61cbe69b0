use Rattle.c_lex.proofs.Apart.{apart}
use Rattle.c_lex.proofs.laws.gaps_and_tokens_are_apart.Goals as goal

pub returns : goal.returns
returns c = record { apart = apart }
