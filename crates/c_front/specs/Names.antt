-- Names of files by their numbers, and tokens by theirs.
use Rattle.std.specs.Prelude.{ℕ, ◌-◌, min, List, length, Option, slice_get, slice_index_or}
use Rattle.c_lex.specs.declared.token.Token.{Token}

-- the name of a file; a number without one stands for the source
abbrev pub name_of : List ℕ → List (List ℕ) → ℕ → List ℕ
name_of source names file = slice_index_or names file source

-- the token of that number, and the last one at their end and behind it
abbrev pub token_at : List Token → ℕ → Option Token
token_at tokens t = slice_get tokens (min (length tokens - 1) t)
