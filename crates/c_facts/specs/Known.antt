-- What known types have, and what becomes of structures and unions: follows from `Sound`.
use Rattle.std.specs.Prelude.{◌≡◌, ◌<◌, ◌≤◌, true, ◌||◌, None}
use Rattle.c_types.specs.Types.{Ty}
use Rattle.c_types.specs.Typed.{TExprT, AssignK}
use Rattle.c_types.specs.Sizes.{words_of, IsNumbered}
use Rattle.c_types.specs.Programs.{ProgramT}
use Rattle.c_types.specs.Kinds.{is_structure}
use Rattle.c_rules.specs.Kinds.{converts, can_cast}
use Rattle.c_rules.specs.Sizes.{type_limit}
use Rattle.c_exprs.specs.Nodes.{type_of_typed}
use Rattle.c_facts.specs.Sound.{Scene, IsKnown, IsSized, IsKind, wholes, IsSound}

-- The size of a complete type: the structures and unions that it asks for are there, and it has a word at least and no more than a type may
-- have.
pub record HasSize (p : ProgramT) (ty : Ty) : Type 0 where
  pub numbered : IsNumbered p.layouts ty
  pub some : 0 < words_of p.layouts ty
  pub few : words_of p.layouts ty ≤ type_limit

abbrev pub SizedHaveSizes : Type 0
SizedHaveSizes = (p : ProgramT) → IsSound p → (ty : Ty) → IsSized p.layouts (wholes p.layouts) ty → HasSize p ty

-- The size of any type that is known may be asked for.
abbrev pub KnownAreNumbered : Type 0
KnownAreNumbered = (p : ProgramT) → IsSound p → (ty : Ty) → IsKnown p.layouts (wholes p.layouts) ty → IsNumbered p.layouts ty

-- A structure or union becomes itself alone, and nothing else becomes one; none is cast.
pub record KeepsItself : Type 0 where
  pub converted : (from to : Ty) → converts from to ≡ true → (is_structure from || is_structure to) ≡ true → from ≡ to
  pub cast : (from to : Ty) → can_cast from to ≡ true → (is_structure from || is_structure to) ≡ true → ⊥

-- The value of an assignment converts to the type of its place, which is that of the assignment.
pub record IsStored (x y : TExprT) (ty : Ty) : Type 0 where
  pub same : type_of_typed x ≡ ty
  pub converts : converts (type_of_typed y) ty ≡ true

abbrev pub AssignedAreStored : Type 0
AssignedAreStored = (s : Scene) (x y : TExprT) (ty : Ty) → IsKind s (AssignK None x y) ty → IsStored x y ty
