-- What a text that is known to be a list of tokens still has.
use Rattle.std.specs.Prelude.{◌≡◌, ◌≤◌, ℕ, ◌+◌, List, [], length}
use Rattle.c_lex.specs.declared.token.Token.{Token}
use Rattle.c_lex.specs.declared.place.Place.{Place}
use Rattle.c_lex.specs.Reading.{Reading, found, stuck}
use Rattle.c_lex.specs.Found.{reading_from}

abbrev pub tokens_in : Reading → List Token
tokens_in (found tokens) = tokens
tokens_in (stuck code line byte) = []

-- the tokens from that place on
abbrev pub left : Place → List ℕ → List Token
left place rest = tokens_in (reading_from 0 place rest)

-- the bytes from that place on read as tokens, and are no more than a text has
pub record IsLeft (place : Place) (rest : List ℕ) : Type 0 where
  pub reads : reading_from 0 place rest ≡ found (left place rest)
  pub byte : place.byte + length rest ≤ 268435456
  pub line : place.line ≤ place.byte + 1
