-- Typed functions and programs as plain data.
use Rattle.std.specs.Prelude.{ℕ, List}
use Rattle.c_types.specs.Types.{Ty, LayoutT}
use Rattle.c_types.specs.Typed.{TStmtT, TStmtTs}

-- A function with a body: the types of its parameters; the sizes in words of the objects of a call by their numbers, its parameters first; the
-- numbers of those that are made with the call, in rising order, which are those in no list of a block, a `for` or a `switch`; the type of its
-- result.
pub record TFunctionT : Type 0 where
  pub name : List ℕ
  pub params : List Ty
  pub locals : List ℕ
  pub made : List ℕ
  pub gives : Ty
  pub body : TStmtTs

-- The layouts by the numbers of structures and unions; the globals with their sizes, and the statements that fill them; the literals; the
-- functions with a body, in their order; the number of `main`.
pub record ProgramT : Type 0 where
  pub layouts : List LayoutT
  pub globals : List (List ℕ × ℕ)
  pub inits : List TStmtT
  pub literals : List (List ℕ)
  pub functions : List TFunctionT
  pub main : ℕ
