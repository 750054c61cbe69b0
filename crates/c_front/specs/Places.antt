-- The places of tokens.
use Rattle.std.specs.Prelude.{ℕ, List, Option, Some, None}
use Rattle.c_lex.specs.declared.token.Token.{Token}
use Rattle.c_front.specs.declared.places.Places.{Places}
use Rattle.c_front.specs.Names.{name_of, token_at}

-- a file and a line
abbrev pub Place : Type 0
Place = List ℕ × ℕ

-- where a token stands; line 1 of the source stands for none
abbrev pub place_in : Places → Option Token → Place
place_in p None = (p.source, 1)
place_in p (Some t) = (name_of p.source p.names t.file, t.line)

-- where the token of that number stands
abbrev pub place_at : Places → ℕ → Place
place_at p t = place_in p (token_at p.tokens t)
