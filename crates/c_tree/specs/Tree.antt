-- Syntax trees as plain data: no pointer and no capacity stands in them.
use Rattle.std.specs.Prelude.{ℕ, List, Option, Bool}
use Rattle.c_tree.specs.declared.span.Span.{Span}
use Rattle.c_tree.specs.declared.operator.UnOp.{UnOp}
use Rattle.c_tree.specs.declared.operator.StepOp.{StepOp}
use Rattle.c_tree.specs.declared.operator.BinOp.{BinOp}

mutual
  pub data ExprT : Type 0 where
    NameE : (name : List ℕ) (span : Span) → ExprT
    NumberE : (n : ℕ) (span : Span) → ExprT
    TextE : (text : List ℕ) (span : Span) → ExprT
    NullE : (span : Span) → ExprT
    ParenE : (a : ExprT) (span : Span) → ExprT
    UnaryE : (op : UnOp) (a : ExprT) (span : Span) → ExprT
    BinaryE : (op : BinOp) (a b : ExprT) (span : Span) → ExprT
    AssignE : (op : Option BinOp) (a b : ExprT) (span : Span) → ExprT
    StepE : (op : StepOp) (a : ExprT) (span : Span) → ExprT
    IndexE : (a b : ExprT) (span : Span) → ExprT
    MemberE : (a : ExprT) (name : List ℕ) (span : Span) → ExprT
    ArrowE : (a : ExprT) (name : List ℕ) (span : Span) → ExprT
    CallE : (f : List ℕ) (args : ExprTs) (span : Span) → ExprT
    CastE : (ty : TypeT) (a : ExprT) (span : Span) → ExprT
    SizeOfE : (ty : TypeT) (span : Span) → ExprT

  pub data ExprTs : Type 0 where
    NoE : ExprTs
    MoreE : (e : ExprT) (rest : ExprTs) → ExprTs

  pub data TypeT : Type 0 where
    IntY : TypeT
    BoolY : TypeT
    VoidY : TypeT
    NamedY : (name : List ℕ) → TypeT
    PointerY : (to : TypeT) → TypeT
    ArrayY : (of : TypeT) (size : ExprT) → TypeT

mutual
  pub data InitT : Type 0 where
    OneI : (e : ExprT) → InitT
    ListI : (items : InitTs) (span : Span) → InitT

  pub data InitTs : Type 0 where
    NoI : InitTs
    MoreI : (i : InitT) (rest : InitTs) → InitTs

pub record VarT : Type 0 where
  pub ty : TypeT
  pub name : List ℕ
  pub init : Option InitT
  pub span : Span

mutual
  pub data StmtT : Type 0 where
    BlockS : (body : StmtTs) (span : Span) → StmtT
    EmptyS : (span : Span) → StmtT
    VarsS : (vars : List VarT) (span : Span) → StmtT
    DoS : (e : ExprT) → StmtT
    IfS : (test : ExprT) (then : StmtT) (other : MaybeS) (span : Span) → StmtT
    WhileS : (test : ExprT) (body : StmtT) (span : Span) → StmtT
    DoWhileS : (body : StmtT) (test : ExprT) (span : Span) → StmtT
    ForS : (first : MaybeS) (test step : Option ExprT) (body : StmtT) (span : Span) → StmtT
    SwitchS : (on : ExprT) (arms : ArmTs) (span : Span) → StmtT
    ReturnS : (e : Option ExprT) (span : Span) → StmtT
    BreakS : (span : Span) → StmtT
    ContinueS : (span : Span) → StmtT

  pub data MaybeS : Type 0 where
    NoneS : MaybeS
    SomeS : (s : StmtT) → MaybeS

  pub data StmtTs : Type 0 where
    NoS : StmtTs
    MoreS : (s : StmtT) (rest : StmtTs) → StmtTs

  pub data ArmT : Type 0 where
    CaseA : (e : ExprT) (span : Span) → ArmT
    DefaultA : (span : Span) → ArmT
    StmtA : (s : StmtT) → ArmT

  pub data ArmTs : Type 0 where
    NoA : ArmTs
    MoreA : (a : ArmT) (rest : ArmTs) → ArmTs

pub data ItemT : Type 0 where
  RecordD : (is_union : Bool) (name : List ℕ) (members : Option (List VarT)) (span : Span) → ItemT
  EnumD : (name : List ℕ) (values : List (List ℕ × Option ExprT)) (span : Span) → ItemT
  TypedefD : (ty : TypeT) (name : List ℕ) (span : Span) → ItemT
  VarsD : (vars : List VarT) (span : Span) → ItemT
  FunctionD : (gives : TypeT) (name : List ℕ) (params : List VarT) (body : Option StmtTs) (span : Span) → ItemT
