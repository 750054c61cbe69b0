-- Where tokens stop to be the beginning of a unit.
use Rattle.std.specs.Prelude.{◌≡◌, ℕ, List, [], ◌∷◌, ◌++◌, length, Option, Some, None, Result, Ok, Err}
use Rattle.c_tree.specs.declared.item.Unit.{Unit as File}
use Rattle.c_tree.specs.Tree.{ItemT}
use Rattle.c_tree.specs.View.{unit}
use Rattle.c_parse.specs.declared.error.ParseErr.{ParseErr}
use Rattle.c_parse.specs.declared.error.ParseErr.TheVariants as errors
use Rattle.c_parse.specs.Tok.{Tok, refused}
use Rattle.c_parse.specs.Units.{Unit_, Derives}

-- some unit, of any depth, begins with these tokens
pub record Begins (ts : List Tok) : Type 0 where
  pub more : List Tok
  pub items : List ItemT
  pub unit : Unit_ (ts ++ more) items

-- some unit that is shallow enough begins with these tokens
pub record BeginsShallow (ts : List Tok) : Type 0 where
  pub more : List Tok
  pub items : List ItemT
  pub unit : Derives (ts ++ more) items

-- the number of the refused word that comes next
abbrev pub refused_at : List Tok → Option ℕ
refused_at (refused n ∷ ts) = Some n
refused_at _ = None

-- The token t is the first with which no unit goes on, and is this refused word or none; where each token goes on, and yet
-- all of them are no unit, t is their end.
pub record FirstBad (ts : List Tok) (t : ℕ) (what : Option ℕ) : Type 0 where
  pub before : List Tok
  pub rest : List Tok
  pub is : ts ≡ before ++ rest
  pub place : length before ≡ t
  pub word : refused_at rest ≡ what
  pub begins : Begins before
  pub bad : (o : Tok) (after : List Tok) → rest ≡ o ∷ after → Begins (before ++ o ∷ []) → ⊥
  pub whole : (ds : List ItemT) → Unit_ ts ds → ⊥

-- Units go on with the token t, and none that is shallow enough does.
pub record FirstDeep (ts : List Tok) (t : ℕ) : Type 0 where
  pub before : List Tok
  pub token : Tok
  pub after : List Tok
  pub is : ts ≡ before ++ (token ∷ after)
  pub place : length before ≡ t
  pub begins : Begins (before ++ token ∷ [])
  pub deep : BeginsShallow (before ++ token ∷ []) → ⊥

-- the unit of these items, unless memory ran out
abbrev pub Answers : List ItemT → Result File ParseErr → Type 0
Answers ds (Ok u) = unit u ≡ ds
Answers ds (Err errors.Memory) = Unit {0}
Answers ds (Err _) = ⊥

-- too deep, unless memory ran out
abbrev pub AnswersTooDeep : Result File ParseErr → Type 0
AnswersTooDeep (Err (errors.TooDeep t)) = Unit {0}
AnswersTooDeep (Err errors.Memory) = Unit {0}
AnswersTooDeep _ = ⊥
