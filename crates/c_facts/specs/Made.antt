-- Where the objects of a call are made: each of them in one list of a block, a `for` or a `switch`, or with the call.
use Rattle.std.specs.Prelude.{ℕ, ◌+◌, ◌==◌, ◌≡◌, List, [], ◌∷◌, ◌++◌, length, nat_lt, if◌then◌else◌}
use Rattle.c_types.specs.Typed.{TStmtT, BlockZ, EmptyZ, VarsZ, DoZ, IfZ, WhileZ, DoWhileZ, ForZ, SwitchZ, ReturnZ, BreakZ, ContinueZ, MaybeZ, NoneZ}
use Rattle.c_types.specs.Typed.{SomeZ, TStmtTs, NoZ, MoreZ, TArmT, CaseB, DefaultB, StmtB, TArmTs, NoB, MoreB}
use Rattle.c_types.specs.Programs.{TFunctionT}

-- what the lists of a statement, and of those in it, make
abbrev mutual
  pub made_in : TStmtT → List ℕ
  made_in (BlockZ made body) = made ++ all_made_in body
  made_in EmptyZ = []
  made_in (VarsZ vars) = []
  made_in (DoZ x) = []
  made_in (IfZ x a b) = made_in a ++ maybe_made_in b
  made_in (WhileZ x a) = made_in a
  made_in (DoWhileZ a x) = made_in a
  made_in (ForZ made first test step a) = made ++ (maybe_made_in first ++ made_in a)
  made_in (SwitchZ x made arms) = made ++ arms_made_in arms
  made_in (ReturnZ e) = []
  made_in BreakZ = []
  made_in ContinueZ = []

  pub maybe_made_in : MaybeZ → List ℕ
  maybe_made_in NoneZ = []
  maybe_made_in (SomeZ a) = made_in a

  pub all_made_in : TStmtTs → List ℕ
  all_made_in NoZ = []
  all_made_in (MoreZ a rest) = made_in a ++ all_made_in rest

  pub arms_made_in : TArmTs → List ℕ
  arms_made_in NoB = []
  arms_made_in (MoreB a rest) = arm_made_in a ++ arms_made_in rest

  pub arm_made_in : TArmT → List ℕ
  arm_made_in (CaseB k) = []
  arm_made_in DefaultB = []
  arm_made_in (StmtB a) = made_in a

-- how often a number stands in a list
abbrev pub times : ℕ → List ℕ → ℕ
times k [] = 0
times k (j ∷ js) = (if k == j then 1 else 0) + times k js

-- once where it is a number of one of so many
abbrev pub once_below : ℕ → ℕ → ℕ
once_below n k = if nat_lt k n then 1 else 0

-- Each object of a call is made in one place, and nothing else is made.
abbrev pub IsMadeOnce : TFunctionT → Type 0
IsMadeOnce f = (k : ℕ) → times k (f.made ++ all_made_in f.body) ≡ once_below (length f.locals) k
