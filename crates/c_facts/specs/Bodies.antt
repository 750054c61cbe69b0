-- The functions of a program are the items with a body, in their order.
use Rattle.std.specs.Prelude.{◌≡◌, ℕ, List, [], ◌∷◌, ◌++◌, Some, None}
use Rattle.c_tree.specs.declared.span.Span.{Span}
use Rattle.c_tree.specs.Tree.{TypeT, VarT, ItemT, RecordD, EnumD, TypedefD, VarsD, FunctionD}
use Rattle.c_types.specs.Programs.{TFunctionT, ProgramT}
use Rattle.c_check.specs.Reading.{Un, opening, begun, bodies_of}
use Rattle.c_check.specs.ItemTypes.{TypeAt, Parameters, Items}
use Rattle.c_check.specs.Whole.{WellTyped}

-- what an item with a body says: the items before it, the function's name, its result and its parameters as they are written, and where its
-- definition stands
pub record BodyT : Type 0 where
  pub before : List ItemT
  pub name : List ℕ
  pub gives : TypeT
  pub params : List VarT
  pub span : Span

abbrev pub body_in : List ItemT → ItemT → List BodyT
body_in before (RecordD is_union name members s) = []
body_in before (EnumD name values s) = []
body_in before (TypedefD ty name s) = []
body_in before (VarsD vs s) = []
body_in before (FunctionD gives name params None s) = []
body_in before (FunctionD gives name params (Some body) s) = record { before = before; name = name; gives = gives; params = params; span = s } ∷ []

abbrev pub bodies_behind : List ItemT → List ItemT → List BodyT
bodies_behind before [] = []
bodies_behind before (i ∷ is) = body_in before i ++ bodies_behind (before ++ i ∷ []) is

-- A function of this name. Its types are those that its result and its parameters name where the items before it are read.
pub record IsOf (all : List ItemT) (b : BodyT) (f : TFunctionT) : Type 0 where
  pub name : f.name ≡ b.name
  pub start : Un
  pub reads : Items (opening (bodies_of all)) b.before tt start
  pub inner : Un
  pub gives : TypeAt start b.span b.gives f.gives inner
  pub last : Un
  pub params : Parameters (begun inner) b.params f.params last

-- one by one
abbrev pub AreOf : List ItemT → List BodyT → List TFunctionT → Type 0
AreOf all [] [] = Unit {0}
AreOf all (b ∷ bs) (f ∷ fs) = IsOf all b f × AreOf all bs fs
AreOf all _ _ = ⊥

abbrev pub FunctionsAreBodies : Type 0
FunctionsAreBodies = (all : List ItemT) (p : ProgramT) → WellTyped all p → AreOf all (bodies_behind [] all) p.functions
