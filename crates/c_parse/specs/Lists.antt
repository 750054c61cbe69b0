-- What repeats, apart from the grammar of expressions.
use Rattle.std.specs.Prelude.{List, [], ◌∷◌}
use Rattle.c_lex.specs.declared.token.Punct.TheVariants as m
use Rattle.c_parse.specs.Tok.{Tok, mark}

-- one or more, parted by commas
pub data Separated {A : Type 0} (P : List Tok → A → List Tok → Type 0) : List Tok → List A → List Tok → Type 0 where
  last : {ts rest : List Tok} {x : A} → P ts x rest → Separated P ts (x ∷ []) rest
  more : {ts mid rest : List Tok} {x : A} {xs : List A} → P ts x (mark m.Comma ∷ mid) → Separated P mid xs rest → Separated P ts (x ∷ xs) rest

-- the brace that closes a list, behind a comma or without one
pub data ListEnd : List Tok → List Tok → Type 0 where
  brace : {rest : List Tok} → ListEnd (mark m.CloseBrace ∷ rest) rest
  comma : {rest : List Tok} → ListEnd (mark m.Comma ∷ mark m.CloseBrace ∷ rest) rest
