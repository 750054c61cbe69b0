use Rattle.c_lex.proofs.Comments.{gap_is, is_gap_of}
use Rattle.c_lex.proofs.laws.gaps_are_what_is_spelled.Goals as goal

pub returns : goal.returns
returns c = record { both_ways = λ bytes n some. (gap_is bytes n some, is_gap_of bytes n) }
