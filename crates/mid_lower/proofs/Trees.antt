-- Trees whose values are structures or unions where they are used as such.
use Rattle.std.proofs.Common.{◌≡◌, ℕ, ◌+◌, ◌*◌, ◌-◌, ◌^◌, ◌≤◌, ◌<◌, true, false, List, [], ◌∷◌, Option, Some, None}
use Rattle.c_tree.specs.declared.operator.UnOp.TheVariants as un
use Rattle.c_types.specs.Types.{Ty, ArrayY}
use Rattle.c_types.specs.Typed.{TExprT, Typed, TKindT, UnaryK, BinaryK, AssignK, StepK, IndexK, MemberK, ArrowK, CastK, CallK, OutK, TExprTs, NoX, MoreX, TInitT, OneI, TextI, ListI, TInitTs, NoI, MoreI, TVarT, TStmtT, BlockZ, EmptyZ, VarsZ, DoZ, IfZ, WhileZ, DoWhileZ, ForZ, SwitchZ, ReturnZ, BreakZ, ContinueZ, MaybeZ, NoneZ, SomeZ, TStmtTs, NoZ, MoreZ, CaseB, DefaultB, StmtB, TArmTs, NoB, MoreB, GlobalK, LocalK}
use Rattle.c_exprs.specs.Nodes.{is_place}
use Rattle.c_meaning.specs.Kinds.{type_of}
use Rattle.c_types.specs.Kinds.{is_structure, is_void}
use Rattle.c_types.specs.Parts.{part_type}
use Rattle.c_meaning.specs.Statements.{labels}
use Rattle.lower_trees.specs.Shape.{Shape, words, literal_words, params_of, result_of}

-- the value of this is no structure
abbrev pub IsScalar : TExprT → Type 0
IsScalar x = is_structure (type_of x) ≡ false

-- what a function takes and gives is a structure, where a call's arguments and value are
abbrev mutual
  pub Plain : Shape → TExprT → Type 0
  Plain h (Typed kind ty span) = PlainKind h kind ty

  pub PlainKind : Shape → TKindT → Ty → Type 0
  PlainKind h (UnaryK un.Address x) ty = Plain h x
  PlainKind h (UnaryK op x) ty = Plain h x × IsScalar x
  PlainKind h (BinaryK op x y) ty = Plain h x × IsScalar x × Plain h y × IsScalar y
  PlainKind h (AssignK op x y) ty = Plain h x × IsScalar x × Plain h y × IsScalar y
  PlainKind h (StepK op x) ty = Plain h x × IsScalar x
  PlainKind h (IndexK x y) ty = Plain h x × IsScalar x × Plain h y × IsScalar y
  PlainKind h (MemberK x offset) ty = (is_place x ≡ true → Plain h x) × (is_place x ≡ false → PlainStructure h x × (is_structure ty ≡ false))
  PlainKind h (ArrowK x offset) ty = Plain h x × IsScalar x
  PlainKind h (CastK x) ty = Plain h x × IsScalar x
  PlainKind h (CallK f xs) ty = PlainAll h (params_of h f) xs × (is_structure (result_of h f) ≡ false)
  PlainKind h (OutK port x) ty = Plain h x × IsScalar x
  PlainKind h _ ty = Unit {0}

  -- what has a structure as its value
  pub PlainStructure : Shape → TExprT → Type 0
  PlainStructure h (Typed kind ty span) = StructureKind h kind ty

  pub StructureKind : Shape → TKindT → Ty → Type 0
  StructureKind h (GlobalK number) ty = Unit {0}
  StructureKind h (LocalK number) ty = Unit {0}
  StructureKind h (UnaryK un.Deref x) ty = Plain h x × IsScalar x
  StructureKind h (AssignK None x y) ty = Plain h x × (is_structure (type_of x) ≡ true) × PlainStructure h y × (is_structure (type_of y) ≡ true)
  StructureKind h (IndexK x y) ty = Plain h x × IsScalar x × Plain h y × IsScalar y
  StructureKind h (MemberK x offset) ty = (is_place x ≡ true → Plain h x) × (is_place x ≡ false → PlainStructure h x) × (is_structure ty ≡ true)
  StructureKind h (ArrowK x offset) ty = Plain h x × IsScalar x
  StructureKind h (CallK f xs) ty = PlainAll h (params_of h f) xs × (is_structure (result_of h f) ≡ true)
  StructureKind h _ ty = ⊥

  -- arguments for parameters of these types
  pub PlainAll : Shape → List Ty → TExprTs → Type 0
  PlainAll h tys NoX = Unit {0}
  PlainAll h [] (MoreX x xs) = ⊥
  PlainAll h (ty ∷ tys) (MoreX x xs) = ((is_structure ty ≡ false → Plain h x × IsScalar x) × (is_structure ty ≡ true → PlainStructure h x × (is_structure (type_of x) ≡ true))) × PlainAll h tys xs

abbrev pub PlainValue : Shape → TExprT → Type 0
PlainValue h x = Plain h x × IsScalar x

-- the value becomes one of this type
abbrev pub PlainAs : Shape → Ty → TExprT → Type 0
PlainAs h ty x = (is_structure ty ≡ false → PlainValue h x) × (is_structure ty ≡ true → PlainStructure h x × (is_structure (type_of x) ≡ true))

-- ---- initialisers: of scalars one by one, of texts and of lists; so many words are set to 0 behind the last item

abbrev pub RestFits : Shape → Ty → (k : ℕ) → Type 0
RestFits h (ArrayY of len) k = words h of * (len - k) < 2 ^ 32
RestFits h _ k = Unit {0}

abbrev mutual
  pub Fills : Shape → TInitT → Ty → Type 0
  Fills h (OneI x) ty = PlainAs h ty x
  Fills h (TextI number) ty = literal_words h number ≤ 2 ^ 32
  Fills h (ListI items) ty = FillAll h items ty 0

  pub FillAll : Shape → TInitTs → Ty → (k : ℕ) → Type 0
  FillAll h NoI ty k = RestFits h ty k
  FillAll h (MoreI i rest) ty k = Fills h i (part_type h.layouts ty k) × FillAll h rest ty (k + 1)

abbrev pub FillVars : Shape → List TVarT → Type 0
FillVars h [] = Unit {0}
FillVars h (v ∷ vs) = Fills h v.init v.ty × FillVars h vs

-- ---- statements: of a function with so many locals of its own, whose result has this type

-- these are below n, as own locals are
abbrev pub Below : (n : ℕ) → List ℕ → Type 0
Below n [] = Unit {0}
Below n (k ∷ ks) = (k < n) × Below n ks

abbrev pub PlainMaybe : Shape → Option TExprT → Type 0
PlainMaybe h None = Unit {0}
PlainMaybe h (Some x) = PlainValue h x

-- an expression whose value, a structure or not, is dropped
abbrev pub PlainDropped : Shape → TExprT → Type 0
PlainDropped h x = (is_structure (type_of x) ≡ false → Plain h x) × (is_structure (type_of x) ≡ true → PlainStructure h x)

abbrev pub PlainStep : Shape → Option TExprT → Type 0
PlainStep h None = Unit {0}
PlainStep h (Some x) = PlainDropped h x

-- a value that is returned, where the result has this type
abbrev pub PlainReturned : Shape → Ty → TExprT → Type 0
PlainReturned h ty x = (is_structure ty ≡ false → PlainValue h x × (is_void ty ≡ false)) × (is_structure ty ≡ true → PlainStructure h x × (is_structure (type_of x) ≡ true))

abbrev mutual
  pub PlainStmt : Shape → (own : ℕ) → (gives : Ty) → TStmtT → Type 0
  PlainStmt h own ty (BlockZ made body) = Below own made × PlainStmts h own ty body
  PlainStmt h own ty EmptyZ = Unit {0}
  PlainStmt h own ty (VarsZ vars) = FillVars h vars
  PlainStmt h own ty (DoZ x) = PlainDropped h x
  PlainStmt h own ty (IfZ x a b) = PlainValue h x × PlainStmt h own ty a × PlainOther h own ty b
  PlainStmt h own ty (WhileZ x a) = PlainValue h x × PlainStmt h own ty a
  PlainStmt h own ty (DoWhileZ a x) = PlainStmt h own ty a × PlainValue h x
  PlainStmt h own ty (ForZ made first test step a) = Below own made × PlainOther h own ty first × PlainMaybe h test × PlainStep h step × PlainStmt h own ty a
  PlainStmt h own ty (SwitchZ x made arms) = PlainValue h x × Below own made × PlainArms h own ty arms × (2 * labels arms ≤ 2 ^ 32)
  PlainStmt h own ty (ReturnZ None) = Unit {0}
  PlainStmt h own ty (ReturnZ (Some x)) = PlainReturned h ty x
  PlainStmt h own ty BreakZ = Unit {0}
  PlainStmt h own ty ContinueZ = Unit {0}

  pub PlainOther : Shape → ℕ → Ty → MaybeZ → Type 0
  PlainOther h own ty NoneZ = Unit {0}
  PlainOther h own ty (SomeZ a) = PlainStmt h own ty a

  pub PlainStmts : Shape → ℕ → Ty → TStmtTs → Type 0
  PlainStmts h own ty NoZ = Unit {0}
  PlainStmts h own ty (MoreZ a rest) = PlainStmt h own ty a × PlainStmts h own ty rest

  pub PlainArms : Shape → ℕ → Ty → TArmTs → Type 0
  PlainArms h own ty NoB = Unit {0}
  PlainArms h own ty (MoreB (CaseB label) rest) = PlainArms h own ty rest
  PlainArms h own ty (MoreB DefaultB rest) = PlainArms h own ty rest
  PlainArms h own ty (MoreB (StmtB a) rest) = PlainStmt h own ty a × PlainArms h own ty rest
