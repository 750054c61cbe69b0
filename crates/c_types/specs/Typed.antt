-- Typed trees as plain data.
use Rattle.std.specs.Prelude.{ℕ, List, Option, Bool}
use Rattle.c_tree.specs.declared.span.Span.{Span}
use Rattle.c_tree.specs.declared.operator.UnOp.{UnOp}
use Rattle.c_tree.specs.declared.operator.StepOp.{StepOp}
use Rattle.c_tree.specs.declared.operator.BinOp.{BinOp}
use Rattle.c_types.specs.Types.{Ty}

mutual
  pub data TExprT : Type 0 where
    Typed : (kind : TKindT) (ty : Ty) (span : Span) → TExprT

  pub data TKindT : Type 0 where
    NumberK : (n : ℕ) → TKindT
    NullK : TKindT
    LiteralK : (number : ℕ) → TKindT
    GlobalK : (number : ℕ) → TKindT
    LocalK : (number : ℕ) → TKindT
    UnaryK : (op : UnOp) (a : TExprT) → TKindT
    BinaryK : (op : BinOp) (a b : TExprT) → TKindT
    AssignK : (op : Option BinOp) (a b : TExprT) → TKindT
    StepK : (op : StepOp) (a : TExprT) → TKindT
    IndexK : (a b : TExprT) → TKindT
    MemberK : (a : TExprT) (offset : ℕ) → TKindT
    ArrowK : (a : TExprT) (offset : ℕ) → TKindT
    CastK : (a : TExprT) → TKindT
    CallK : (function : ℕ) (args : TExprTs) → TKindT
    InK : (port : ℕ) → TKindT
    OutK : (port : ℕ) (a : TExprT) → TKindT
    WaitK : TKindT
    HaltK : TKindT
    CardK : TKindT

  pub data TExprTs : Type 0 where
    NoX : TExprTs
    MoreX : (e : TExprT) (rest : TExprTs) → TExprTs

mutual
  pub data TInitT : Type 0 where
    OneI : (e : TExprT) → TInitT
    TextI : (number : ℕ) → TInitT
    ListI : (items : TInitTs) → TInitT

  pub data TInitTs : Type 0 where
    NoI : TInitTs
    MoreI : (i : TInitT) (rest : TInitTs) → TInitTs

pub record TVarT : Type 0 where
  pub global : Bool
  pub object : ℕ
  pub ty : Ty
  pub init : TInitT

mutual
  pub data TStmtT : Type 0 where
    BlockZ : (made : List ℕ) (body : TStmtTs) → TStmtT
    EmptyZ : TStmtT
    VarsZ : (vars : List TVarT) → TStmtT
    DoZ : (e : TExprT) → TStmtT
    IfZ : (test : TExprT) (then : TStmtT) (other : MaybeZ) → TStmtT
    WhileZ : (test : TExprT) (body : TStmtT) → TStmtT
    DoWhileZ : (body : TStmtT) (test : TExprT) → TStmtT
    ForZ : (made : List ℕ) (first : MaybeZ) (test step : Option TExprT) (body : TStmtT) → TStmtT
    SwitchZ : (on : TExprT) (made : List ℕ) (arms : TArmTs) → TStmtT
    ReturnZ : (e : Option TExprT) → TStmtT
    BreakZ : TStmtT
    ContinueZ : TStmtT

  pub data MaybeZ : Type 0 where
    NoneZ : MaybeZ
    SomeZ : (s : TStmtT) → MaybeZ

  pub data TStmtTs : Type 0 where
    NoZ : TStmtTs
    MoreZ : (s : TStmtT) (rest : TStmtTs) → TStmtTs

  pub data TArmT : Type 0 where
    CaseB : (label : ℕ) → TArmT
    DefaultB : TArmT
    StmtB : (s : TStmtT) → TArmT

  pub data TArmTs : Type 0 where
    NoB : TArmTs
    MoreB : (a : TArmT) (rest : TArmTs) → TArmTs
