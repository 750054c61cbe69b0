-- What names mean: the names of the unit, the functions with a body, and the locals of the open scopes.
use Rattle.std.specs.Prelude.{ℕ, Bool, List, [], ◌∷◌, Option, Some, None, if◌then◌else◌}
use Rattle.std.specs.Str.{bytes_eq}
use Rattle.c_types.specs.Types.{Ty, LayoutT}

-- a name, by its bytes
abbrev pub Text : Type 0
Text = List ℕ

-- what a name is declared as, in one scope
abbrev pub find : {A : Type 0} → Text → List (Text × A) → Option A
find n [] = None
find n (e ∷ es) = if bytes_eq n e.0 then Some e.1 else find n es

abbrev pub or_else : {A : Type 0} → Option A → Option A → Option A
or_else None b = b
or_else (Some x) b = Some x

-- what a name is declared as in the innermost scope that has it; the innermost scope comes last
abbrev pub find_in : {A : Type 0} → Text → List (List (Text × A)) → Option A
find_in n [] = None
find_in n (s ∷ ss) = or_else (find_in n ss) (find n s)

-- an object of a function's call: its number there, and its type
pub record LocalD : Type 0 where
  pub number : ℕ
  pub ty : Ty

-- what a name of the unit is declared as: a type, an enumerator, an object, a function with or without a body
pub data Decl : Type 0 where
  TypeD : (ty : Ty) → Decl
  ConstantD : (n : ℕ) → Decl
  GlobalD : (number : ℕ) (ty : Ty) → Decl
  FunctionD : (params : List Ty) (gives : Ty) → Decl

-- What an expression is read under. `whole` tells by their numbers which structures and unions are declared whole; `bodies` has
-- the numbers of the functions with a body, in the whole unit.
pub record Ctx : Type 0 where
  pub layouts : List LayoutT
  pub whole : List Bool
  pub names : List (Text × Decl)
  pub bodies : List (Text × ℕ)
  pub scopes : List (List (Text × LocalD))
