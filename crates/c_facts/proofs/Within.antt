-- How what is known while a unit is read stands to the whole program.
use Rattle.std.proofs.Common.{◌≡◌, ◌⊎◌, ℕ, ◌≤◌, Bool, true, List, [], ◌∷◌, ◌++◌, length, Some}
use Rattle.std.specs.Prelude.{slice_get}
use Rattle.c_types.specs.Types.{Ty, MemberT, LayoutT}
use Rattle.c_rules.specs.Sizes.{is_declared, is_whole}
use Rattle.c_exprs.specs.Env.{Text, find, LocalD, Decl, TypeD, ConstantD, GlobalD, FunctionD, Ctx}
use Rattle.c_types.specs.Sizes.{no_layout}
use Rattle.c_types.specs.Programs.{TFunctionT}
use Rattle.c_facts.specs.Sound.{Scene, kind_at, IsKnown, IsGlobal, IsLocal}

-- a list that begins another
abbrev pub Begins : {A : Type 0} → List A → List A → Type 0
Begins xs all = (more : List _) × (all ≡ xs ++ more)

-- Structures and unions may still be declared whole; one that is whole stays as it is, one that is not has no members, and each stays what it is
-- of the two.
pub record Grows (layouts : List LayoutT) (whole : List Bool) (later : List LayoutT) (all : List Bool) : Type 0 where
  pub kept : (k : ℕ) (l : LayoutT) → slice_get layouts k ≡ Some l → (l ≡ no_layout l.is_union) ⊎ (slice_get later k ≡ Some l)
  pub fixed : (k : ℕ) → is_declared whole k ≡ true → (is_declared all k ≡ true) × (slice_get layouts k ≡ slice_get later k)
  pub few : length layouts ≤ length later
  pub kinds : (k : ℕ) (u : Bool) → kind_at layouts k ≡ Some u → kind_at later k ≡ Some u

-- what a name of the unit means
abbrev pub AllKnown : Scene → List Ty → Type 0
AllKnown s [] = Unit {0}
AllKnown s (ty ∷ tys) = IsKnown s.layouts s.whole ty × AllKnown s tys

abbrev pub IsMeant : Scene → Decl → Type 0
IsMeant s (TypeD ty) = IsKnown s.layouts s.whole ty
IsMeant s (ConstantD n) = Unit {0}
IsMeant s (GlobalD number ty) = IsKnown s.layouts s.whole ty × IsGlobal s number ty
IsMeant s (FunctionD params gives) = AllKnown s params × IsKnown s.layouts s.whole gives

abbrev pub AreMeant : Scene → List (Text × Decl) → Type 0
AreMeant s [] = Unit {0}
AreMeant s (e ∷ es) = IsMeant s e.1 × AreMeant s es

-- a function that is called is that of its number
abbrev pub AreBodies : Scene → List (Text × Decl) → List (Text × ℕ) → Type 0
AreBodies s names bodies = (n : Text) (params : List Ty) (gives : Ty) (k : ℕ) → find n names ≡ Some (FunctionD params gives) → find n bodies ≡ Some k
    → (f : TFunctionT) × (slice_get s.functions k ≡ Some f) × (f.params ≡ params) × (f.gives ≡ gives)

-- the objects of the open scopes
abbrev pub IsObjectOf : Scene → LocalD → Type 0
IsObjectOf s l = IsKnown s.layouts s.whole l.ty × IsLocal s l.number l.ty

abbrev pub InScope : Scene → List (Text × LocalD) → Type 0
InScope s [] = Unit {0}
InScope s (e ∷ es) = IsObjectOf s e.1 × InScope s es

abbrev pub InScopes : Scene → List (List (Text × LocalD)) → Type 0
InScopes s [] = Unit {0}
InScopes s (es ∷ ess) = InScope s es × InScopes s ess

-- the types of the members of a structure or union
abbrev pub AllMembersKnown : Scene → List MemberT → Type 0
AllMembersKnown s [] = Unit {0}
AllMembersKnown s (m ∷ ms) = IsKnown s.layouts s.whole m.ty × AllMembersKnown s ms

-- what is declared whole has members whose sizes are known
abbrev pub AllWhole : List Bool → List MemberT → Type 0
AllWhole whole [] = Unit {0}
AllWhole whole (m ∷ ms) = (is_whole whole m.ty ≡ true) × AllWhole whole ms

abbrev pub MembersWhole : List LayoutT → List Bool → Type 0
MembersWhole layouts whole = (k : ℕ) (l : LayoutT) → is_declared whole k ≡ true → slice_get layouts k ≡ Some l → AllWhole whole l.members

abbrev pub MembersKnown : Scene → Type 0
MembersKnown s = (k : ℕ) (l : LayoutT) → slice_get s.layouts k ≡ Some l → AllMembersKnown s l.members

-- what expressions are read under, in the whole program
pub record Within (c : Ctx) (s : Scene) : Type 0 where
  pub grows : Grows c.layouts c.whole s.layouts s.whole
  pub names : AreMeant s c.names
  pub bodies : AreBodies s c.names c.bodies
  pub scopes : InScopes s c.scopes
  pub members : (k : ℕ) (l : LayoutT) → slice_get s.layouts k ≡ Some l → AllMembersKnown s l.members
