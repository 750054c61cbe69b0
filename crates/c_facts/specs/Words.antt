-- The numbers of a program's nodes and labels are words, and so are those of the tokens that a node stands on: a unit as plain data may have
-- any numbers, the trees in memory hold words. The sizes of objects, texts and layouts are words by their limits.
use Rattle.std.specs.Prelude.{ℕ, ◌<◌, ◌^◌, List, [], ◌∷◌, Option, Some, None}
use Rattle.c_types.specs.Typed.{TExprT, Typed, TKindT, NumberK, NullK, LiteralK, GlobalK, LocalK, UnaryK, BinaryK, AssignK, StepK, IndexK, MemberK}
use Rattle.c_types.specs.Typed.{ArrowK, CastK, CallK, InK, OutK, WaitK, HaltK, CardK, TExprTs, NoX, MoreX, TInitT, OneI, TextI, ListI, TInitTs, NoI}
use Rattle.c_types.specs.Typed.{MoreI, TVarT, TStmtT, BlockZ, EmptyZ, VarsZ, DoZ, IfZ, WhileZ, DoWhileZ, ForZ, SwitchZ, ReturnZ, BreakZ, ContinueZ}
use Rattle.c_types.specs.Typed.{MaybeZ, NoneZ, SomeZ, TStmtTs, NoZ, MoreZ, TArmT, CaseB, DefaultB, StmtB, TArmTs, NoB, MoreB}
use Rattle.c_types.specs.Programs.{TFunctionT, ProgramT}

abbrev pub IsWord : ℕ → Type 0
IsWord n = n < 2 ^ 32

abbrev pub AreWords : List ℕ → Type 0
AreWords [] = Unit {0}
AreWords (n ∷ ns) = IsWord n × AreWords ns

abbrev mutual
  pub InWords : TExprT → Type 0
  InWords (Typed kind ty span) = KindInWords kind × IsWord span.first × IsWord span.last

  pub KindInWords : TKindT → Type 0
  KindInWords (NumberK n) = IsWord n
  KindInWords NullK = Unit {0}
  KindInWords (LiteralK number) = IsWord number
  KindInWords (GlobalK number) = IsWord number
  KindInWords (LocalK number) = IsWord number
  KindInWords (UnaryK op x) = InWords x
  KindInWords (BinaryK op x y) = InWords x × InWords y
  KindInWords (AssignK op x y) = InWords x × InWords y
  KindInWords (StepK op x) = InWords x
  KindInWords (IndexK x y) = InWords x × InWords y
  KindInWords (MemberK x offset) = InWords x × IsWord offset
  KindInWords (ArrowK x offset) = InWords x × IsWord offset
  KindInWords (CastK x) = InWords x
  KindInWords (CallK number xs) = IsWord number × AllInWords xs
  KindInWords (InK port) = IsWord port
  KindInWords (OutK port x) = IsWord port × InWords x
  KindInWords WaitK = Unit {0}
  KindInWords HaltK = Unit {0}
  KindInWords CardK = Unit {0}

  pub AllInWords : TExprTs → Type 0
  AllInWords NoX = Unit {0}
  AllInWords (MoreX x xs) = InWords x × AllInWords xs

abbrev mutual
  pub FillsInWords : TInitT → Type 0
  FillsInWords (OneI x) = InWords x
  FillsInWords (TextI number) = IsWord number
  FillsInWords (ListI items) = AllFillInWords items

  pub AllFillInWords : TInitTs → Type 0
  AllFillInWords NoI = Unit {0}
  AllFillInWords (MoreI i rest) = FillsInWords i × AllFillInWords rest

abbrev pub VariableInWords : TVarT → Type 0
VariableInWords v = IsWord v.object × FillsInWords v.init

abbrev pub VariablesInWords : List TVarT → Type 0
VariablesInWords [] = Unit {0}
VariablesInWords (v ∷ vs) = VariableInWords v × VariablesInWords vs

abbrev pub MaybeInWords : Option TExprT → Type 0
MaybeInWords None = Unit {0}
MaybeInWords (Some x) = InWords x

abbrev mutual
  pub StatementInWords : TStmtT → Type 0
  StatementInWords (BlockZ made body) = AreWords made × StatementsInWords body
  StatementInWords EmptyZ = Unit {0}
  StatementInWords (VarsZ vars) = VariablesInWords vars
  StatementInWords (DoZ x) = InWords x
  StatementInWords (IfZ x a b) = InWords x × StatementInWords a × MaybeStatementInWords b
  StatementInWords (WhileZ x a) = InWords x × StatementInWords a
  StatementInWords (DoWhileZ a x) = StatementInWords a × InWords x
  StatementInWords (ForZ made first test step a) = AreWords made × MaybeStatementInWords first × MaybeInWords test × MaybeInWords step × StatementInWords a
  StatementInWords (SwitchZ x made arms) = InWords x × AreWords made × ArmsInWords arms
  StatementInWords (ReturnZ e) = MaybeInWords e
  StatementInWords BreakZ = Unit {0}
  StatementInWords ContinueZ = Unit {0}

  pub MaybeStatementInWords : MaybeZ → Type 0
  MaybeStatementInWords NoneZ = Unit {0}
  MaybeStatementInWords (SomeZ a) = StatementInWords a

  pub StatementsInWords : TStmtTs → Type 0
  StatementsInWords NoZ = Unit {0}
  StatementsInWords (MoreZ a rest) = StatementInWords a × StatementsInWords rest

  -- a negative label is its word in two's complement
  pub ArmInWords : TArmT → Type 0
  ArmInWords (CaseB k) = IsWord k
  ArmInWords DefaultB = Unit {0}
  ArmInWords (StmtB a) = StatementInWords a

  pub ArmsInWords : TArmTs → Type 0
  ArmsInWords NoB = Unit {0}
  ArmsInWords (MoreB a rest) = ArmInWords a × ArmsInWords rest

abbrev pub FillInWords : List TStmtT → Type 0
FillInWords [] = Unit {0}
FillInWords (a ∷ rest) = StatementInWords a × FillInWords rest

abbrev pub FunctionsInWords : List TFunctionT → Type 0
FunctionsInWords [] = Unit {0}
FunctionsInWords (f ∷ fs) = StatementsInWords f.body × FunctionsInWords fs

pub record NumbersAreWords (p : ProgramT) : Type 0 where
  pub inits : FillInWords p.inits
  pub functions : FunctionsInWords p.functions
