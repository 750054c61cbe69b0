-- What is known where tokens are read: how many tokens the unit has, and the names that are types so far.
use Rattle.std.specs.Prelude.{ℕ, ◌-◌, List, [], ◌∷◌, ◌++◌, length, Bool}
use Rattle.std.specs.List.{list_any}
use Rattle.std.specs.Str.{bytes_eq}
use Rattle.c_tree.specs.declared.span.Span.{Span}
use Rattle.c_parse.specs.Tok.{Tok}

pub record Context : Type 0 where
  pub total : ℕ
  pub types : List (List ℕ)

abbrev pub is_type : Context → List ℕ → Bool
is_type c n = list_any (λ t. bytes_eq t n) c.types

-- with a further name of a type
abbrev pub declare : List ℕ → Context → Context
declare n c = record { total = c.total; types = c.types ++ n ∷ [] }

-- the tokens from the first of these up to the first of the rest, which is no more of them
abbrev pub span : Context → List Tok → List Tok → Span
span c ts rest = record { first = c.total - length ts; last = c.total - length rest - 1 }
