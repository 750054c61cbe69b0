-- Reading statements.
use Rattle.std.specs.Prelude.{ℕ, zero, suc, Bool, true, false, List, Option, Some, None, Result, Ok, ◌||◌, if◌then◌else◌}
use Rattle.c_tree.specs.Tree.{ExprT, StmtT, BlockS, EmptyS, VarsS, DoS, IfS, WhileS, DoWhileS, ForS, SwitchS, ReturnS, BreakS, ContinueS, MaybeS}
use Rattle.c_tree.specs.Tree.{NoneS, SomeS, ArmT, CaseA, DefaultA, StmtA}
use Rattle.c_tree.specs.View.{stmts, arms}
use Rattle.c_parse.specs.declared.fault.Fault.{Fault}
use Rattle.c_parse.specs.declared.lead.StmtLead.{StmtLead}
use Rattle.c_parse.specs.declared.lead.StmtLead.TheVariants as stmt
use Rattle.c_parse.specs.declared.lead.ArmLead.{ArmLead}
use Rattle.c_parse.specs.declared.lead.ArmLead.TheVariants as arm
use Rattle.c_parse.specs.Tok.{Tok}
use Rattle.c_parse.specs.Scope.{Context, span}
use Rattle.c_parse.specs.inner.Reader.{◌>>=◌, Got, Reader, no_room, behind, open_paren, close_paren, open_brace, close_brace, semicolon, colon}
use Rattle.c_parse.specs.inner.Reader.{while_word, at_else_word}
use Rattle.c_parse.specs.inner.Leads.{begins_expr, begins_type, begins_stmt, stmt_at, arm_at, is_some_arm}
use Rattle.c_parse.specs.inner.Reading.{level_at, expr_at}
use Rattle.c_parse.specs.inner.ReadingLists.{braced}
use Rattle.c_parse.specs.inner.ReadingDeclarations.{vars_at}

-- an expression, where one begins
abbrev pub maybe_by : Context → ℕ → List Tok → Bool → Result (Got (Option ExprT)) Fault
maybe_by c room ts false = Ok (None, ts)
maybe_by c room ts true = do
  e ← expr_at c room ts
  Ok (Some e.0, e.1)

abbrev pub maybe_at : Context → ℕ → Reader (Option ExprT)
maybe_at c room ts = maybe_by c room ts (begins_expr c ts)

abbrev pub first_by : Context → ℕ → List Tok → Bool → Bool → Result (Got MaybeS) Fault
first_by c room ts true is_expr = do
  vs ← vars_at c room ts
  Ok (SomeS (VarsS vs.0 (span c ts vs.1)), vs.1)
first_by c room ts false true = do
  e ← expr_at c room ts
  Ok (SomeS (DoS e.0), e.1)
first_by c room ts false false = Ok (NoneS, ts)

unfoldable pub first_at : Context → ℕ → Reader MaybeS
first_at c zero ts = if begins_type c ts || begins_expr c ts then no_room true ts else Ok (NoneS, ts)
first_at c (suc room) ts = first_by c room ts (begins_type c ts) (begins_expr c ts)

pub record Bodies : Type 0 where
  pub stmt : Reader StmtT
  pub arm : Reader ArmT

-- an expression in parentheses
abbrev pub test_at : Context → ℕ → Reader ExprT
test_at c room ts = do
  on ← open_paren ts
  e ← expr_at c room on
  rest ← close_paren e.1
  Ok (e.0, rest)

abbrev pub if_by : Context → Bodies → List Tok → ExprT → StmtT → List Tok → Bool → Result (Got StmtT) Fault
if_by c r at e s ts false = Ok (IfS e s NoneS (span c at ts), ts)
if_by c r at e s ts true = do
  z ← r.stmt (behind ts)
  Ok (IfS e s (SomeS z.0) (span c at z.1), z.1)

abbrev pub if_with : Context → ℕ → Bodies → Reader StmtT
if_with c room r ts = do
  e ← test_at c room (behind ts)
  s ← r.stmt e.1
  if_by c r ts e.0 s.0 s.1 (at_else_word s.1)

abbrev pub while_with : Context → ℕ → Bodies → Reader StmtT
while_with c room r ts = do
  e ← test_at c room (behind ts)
  s ← r.stmt e.1
  Ok (WhileS e.0 s.0 (span c ts s.1), s.1)

abbrev pub do_with : Context → ℕ → Bodies → Reader StmtT
do_with c room r ts = do
  s ← r.stmt (behind ts)
  mid ← while_word s.1
  e ← test_at c room mid
  rest ← semicolon e.1
  Ok (DoWhileS s.0 e.0 (span c ts rest), rest)

abbrev pub for_with : Context → ℕ → Bodies → Reader StmtT
for_with c room r ts = do
  on ← open_paren (behind ts)
  f ← first_at c room on
  us ← semicolon f.1
  x ← maybe_at c room us
  vs ← semicolon x.1
  y ← maybe_at c room vs
  mid ← close_paren y.1
  s ← r.stmt mid
  Ok (ForS f.0 x.0 y.0 s.0 (span c ts s.1), s.1)

abbrev pub switch_with : Context → ℕ → Bodies → Reader StmtT
switch_with c room r ts = do
  e ← test_at c room (behind ts)
  mid ← open_brace e.1
  xs ← braced r.arm mid
  rest ← close_brace xs.1
  Ok (SwitchS e.0 (arms xs.0) (span c ts rest), rest)

abbrev pub stmt_by : Context → ℕ → Bodies → List Tok → StmtLead → Result (Got StmtT) Fault
stmt_by c room r ts stmt.Block = do
  ss ← braced r.stmt (behind ts)
  rest ← close_brace ss.1
  Ok (BlockS (stmts ss.0) (span c ts rest), rest)
stmt_by c room r ts stmt.Empty = Ok (EmptyS (span c ts (behind ts)), behind ts)
stmt_by c room r ts stmt.Vars = do
  vs ← vars_at c room ts
  rest ← semicolon vs.1
  Ok (VarsS vs.0 (span c ts rest), rest)
stmt_by c room r ts stmt.If = if_with c room r ts
stmt_by c room r ts stmt.While = while_with c room r ts
stmt_by c room r ts stmt.Do = do_with c room r ts
stmt_by c room r ts stmt.For = for_with c room r ts
stmt_by c room r ts stmt.Switch = switch_with c room r ts
stmt_by c room r ts stmt.Return = do
  e ← maybe_at c room (behind ts)
  rest ← semicolon e.1
  Ok (ReturnS e.0 (span c ts rest), rest)
stmt_by c room r ts stmt.Break = do
  rest ← semicolon (behind ts)
  Ok (BreakS (span c ts rest), rest)
stmt_by c room r ts stmt.Continue = do
  rest ← semicolon (behind ts)
  Ok (ContinueS (span c ts rest), rest)
stmt_by c room r ts stmt.Expr = do
  e ← expr_at c room ts
  rest ← semicolon e.1
  Ok (DoS e.0, rest)

abbrev pub stmt_with : Context → ℕ → Bodies → Reader StmtT
stmt_with c room r ts = stmt_by c room r ts (stmt_at c ts)

abbrev pub arm_by : Context → ℕ → Bodies → List Tok → ArmLead → Result (Got ArmT) Fault
arm_by c room r ts arm.Case = do
  e ← level_at c room 10 (behind ts)
  rest ← colon e.1
  Ok (CaseA e.0 (span c ts rest), rest)
arm_by c room r ts arm.Default = do
  rest ← colon (behind ts)
  Ok (DefaultA (span c ts rest), rest)
arm_by c room r ts arm.Stmt = do
  s ← r.stmt ts
  Ok (StmtA s.0, s.1)

abbrev pub arm_with : Context → ℕ → Bodies → Reader ArmT
arm_with c room r ts = arm_by c room r ts (arm_at ts)

unfoldable pub bodies : Context → ℕ → Bodies
bodies c zero = record {
  stmt = λ ts. no_room (begins_stmt c ts) ts;
  arm = λ ts. no_room (is_some_arm (arm_at ts) || begins_stmt c ts) ts;
}
bodies c (suc room) = record {
  stmt = λ ts. stmt_with c room (bodies c room) ts;
  arm = λ ts. arm_with c room (bodies c room) ts;
}

abbrev pub stmt_read : Context → ℕ → Reader StmtT
stmt_read c room ts = (bodies c room).stmt ts

abbrev pub arm_read : Context → ℕ → Reader ArmT
arm_read c room ts = (bodies c room).arm ts

-- whether a statement of that lead has no statement inside it
abbrev pub is_simple : StmtLead → Bool
is_simple stmt.Block = false
is_simple stmt.If = false
is_simple stmt.While = false
is_simple stmt.Do = false
is_simple stmt.For = false
is_simple stmt.Switch = false
is_simple _ = true

abbrev pub maybe : Option StmtT → MaybeS
maybe None = NoneS
maybe (Some s) = SomeS s
