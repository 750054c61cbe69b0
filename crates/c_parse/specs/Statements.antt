-- The grammar of statements.
use Rattle.std.specs.Prelude.{List, [], ◌∷◌, Option, Some, None}
use Rattle.c_lex.specs.declared.token.Punct.TheVariants as m
use Rattle.c_tree.specs.Tree.{ExprT, VarT, StmtT, BlockS, EmptyS, VarsS, DoS, IfS, WhileS, DoWhileS, ForS, SwitchS, ReturnS, BreakS, ContinueS}
use Rattle.c_tree.specs.Tree.{MaybeS, NoneS, SomeS, ArmT, CaseA, DefaultA, StmtA}
use Rattle.c_tree.specs.View.{stmts, arms}
use Rattle.c_parse.specs.declared.class.Key.TheVariants as key
use Rattle.c_parse.specs.Tok.{Tok, keyword, mark}
use Rattle.c_parse.specs.Scope.{Context, span}
use Rattle.c_parse.specs.Grammar.{Expr, Level}
use Rattle.c_parse.specs.Declarations.{Vars}

-- no `else` comes next
abbrev pub NoElse : List Tok → Type 0
NoElse (keyword key.Else ∷ ts) = ⊥
NoElse _ = Unit {0}

-- an expression or none
pub data Maybe (c : Context) : List Tok → Option ExprT → List Tok → Type 0 where
  maybe_none : {ts : List Tok} → Maybe c ts None ts
  maybe_some : {ts rest : List Tok} {e : ExprT} → Expr c ts e rest → Maybe c ts (Some e) rest

-- what a `for` begins with
pub data First (c : Context) : List Tok → MaybeS → List Tok → Type 0 where
  first_none : {ts : List Tok} → First c ts NoneS ts
  first_vars : {ts rest : List Tok} {vs : List VarT} → Vars c ts vs rest → First c ts (SomeS (VarsS vs (span c ts rest))) rest
  first_expr : {ts rest : List Tok} {e : ExprT} → Expr c ts e rest → First c ts (SomeS (DoS e)) rest

mutual
  pub data Stmt (c : Context) : List Tok → StmtT → List Tok → Type 0 where
    block : {ts rest : List Tok} {ss : List StmtT} → Stmts c ts ss (mark m.CloseBrace ∷ rest)
        → Stmt c (mark m.OpenBrace ∷ ts) (BlockS (stmts ss) (span c (mark m.OpenBrace ∷ ts) rest)) rest
    empty : {rest : List Tok} → Stmt c (mark m.Semicolon ∷ rest) (EmptyS (span c (mark m.Semicolon ∷ rest) rest)) rest
    vars : {ts rest : List Tok} {vs : List VarT} → Vars c ts vs (mark m.Semicolon ∷ rest) → Stmt c ts (VarsS vs (span c ts rest)) rest
    expr : {ts rest : List Tok} {e : ExprT} → Expr c ts e (mark m.Semicolon ∷ rest) → Stmt c ts (DoS e) rest
    -- an `else` belongs to the nearest open `if`, so none follows an `if` without one
    if_only : {ts mid rest : List Tok} {e : ExprT} {s : StmtT} → Expr c ts e (mark m.CloseParen ∷ mid) → Stmt c mid s rest → NoElse rest
        → Stmt c (keyword key.If ∷ mark m.OpenParen ∷ ts) (IfS e s NoneS (span c (keyword key.If ∷ mark m.OpenParen ∷ ts) rest)) rest
    if_else : {ts mid on rest : List Tok} {e : ExprT} {s z : StmtT} → Expr c ts e (mark m.CloseParen ∷ mid) → Stmt c mid s (keyword key.Else ∷ on)
        → Stmt c on z rest
        → Stmt c (keyword key.If ∷ mark m.OpenParen ∷ ts) (IfS e s (SomeS z) (span c (keyword key.If ∷ mark m.OpenParen ∷ ts) rest)) rest
    while : {ts mid rest : List Tok} {e : ExprT} {s : StmtT} → Expr c ts e (mark m.CloseParen ∷ mid) → Stmt c mid s rest
        → Stmt c (keyword key.While ∷ mark m.OpenParen ∷ ts) (WhileS e s (span c (keyword key.While ∷ mark m.OpenParen ∷ ts) rest)) rest
    do_while : {ts mid rest : List Tok} {e : ExprT} {s : StmtT} → Stmt c ts s (keyword key.While ∷ mark m.OpenParen ∷ mid)
        → Expr c mid e (mark m.CloseParen ∷ mark m.Semicolon ∷ rest)
        → Stmt c (keyword key.Do ∷ ts) (DoWhileS s e (span c (keyword key.Do ∷ ts) rest)) rest
    for : {ts us vs mid rest : List Tok} {f : MaybeS} {x y : Option ExprT} {s : StmtT} → First c ts f (mark m.Semicolon ∷ us)
        → Maybe c us x (mark m.Semicolon ∷ vs)
        → Maybe c vs y (mark m.CloseParen ∷ mid) → Stmt c mid s rest
        → Stmt c (keyword key.For ∷ mark m.OpenParen ∷ ts) (ForS f x y s (span c (keyword key.For ∷ mark m.OpenParen ∷ ts) rest)) rest
    switch : {ts mid rest : List Tok} {e : ExprT} {xs : List ArmT} → Expr c ts e (mark m.CloseParen ∷ mark m.OpenBrace ∷ mid)
        → Arms c mid xs (mark m.CloseBrace ∷ rest)
        → Stmt c (keyword key.Switch ∷ mark m.OpenParen ∷ ts) (SwitchS e (arms xs) (span c (keyword key.Switch ∷ mark m.OpenParen ∷ ts) rest)) rest
    return : {ts rest : List Tok} {e : Option ExprT} → Maybe c ts e (mark m.Semicolon ∷ rest)
        → Stmt c (keyword key.Return ∷ ts) (ReturnS e (span c (keyword key.Return ∷ ts) rest)) rest
    break : {rest : List Tok} → Stmt c (keyword key.Break ∷ mark m.Semicolon ∷ rest) (BreakS (span c (keyword key.Break ∷ mark m.Semicolon ∷ rest) rest)) rest
    continue : {rest : List Tok} → Stmt c (keyword key.Continue ∷ mark m.Semicolon ∷ rest)
        (ContinueS (span c (keyword key.Continue ∷ mark m.Semicolon ∷ rest) rest)) rest

  pub data Stmts (c : Context) : List Tok → List StmtT → List Tok → Type 0 where
    no_stmts : {ts : List Tok} → Stmts c ts [] ts
    more_stmts : {ts mid rest : List Tok} {s : StmtT} {ss : List StmtT} → Stmt c ts s mid → Stmts c mid ss rest → Stmts c ts (s ∷ ss) rest

  pub data Arm (c : Context) : List Tok → ArmT → List Tok → Type 0 where
    case : {ts rest : List Tok} {e : ExprT} → Level c 10 ts e (mark m.Colon ∷ rest)
        → Arm c (keyword key.Case ∷ ts) (CaseA e (span c (keyword key.Case ∷ ts) rest)) rest
    default : {rest : List Tok} → Arm c (keyword key.Default ∷ mark m.Colon ∷ rest) (DefaultA (span c (keyword key.Default ∷ mark m.Colon ∷ rest) rest)) rest
    arm_stmt : {ts rest : List Tok} {s : StmtT} → Stmt c ts s rest → Arm c ts (StmtA s) rest

  pub data Arms (c : Context) : List Tok → List ArmT → List Tok → Type 0 where
    no_arms : {ts : List Tok} → Arms c ts [] ts
    more_arms : {ts mid rest : List Tok} {a : ArmT} {xs : List ArmT} → Arm c ts a mid → Arms c mid xs rest → Arms c ts (a ∷ xs) rest
