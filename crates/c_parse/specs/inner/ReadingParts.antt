-- Reading statements in parts: what stands before the statements inside one, and what stands behind them, each on its own.
use Rattle.std.specs.Prelude.{ℕ, Bool, true, false, List, Option, Result, Ok}
use Rattle.c_tree.specs.Tree.{ExprT, StmtT, IfS, WhileS, DoWhileS, ForS, SwitchS, MaybeS, NoneS, SomeS}
use Rattle.c_tree.specs.View.{arms}
use Rattle.c_parse.specs.declared.fault.Fault.{Fault}
use Rattle.c_parse.specs.declared.lead.StmtLead.{StmtLead}
use Rattle.c_parse.specs.declared.lead.StmtLead.TheVariants as stmt
use Rattle.c_parse.specs.Tok.{Tok}
use Rattle.c_parse.specs.Scope.{Context, span}
use Rattle.c_parse.specs.inner.Reader.{◌>>=◌, Got, Reader, behind, open_paren, close_paren, open_brace, close_brace, semicolon, while_word, at_else_word}
use Rattle.c_parse.specs.inner.ReadingLists.{braced}
use Rattle.c_parse.specs.inner.ReadingStatements.{Bodies, maybe_at, first_at, test_at, stmt_by}

-- a part and the mark behind it
abbrev pub ended : {A : Type 0} → (List Tok → Result (List Tok) Fault) → Reader A → Reader A
ended mark read ts = do
  x ← read ts
  rest ← mark x.1
  Ok (x.0, rest)

-- a test and the statement under it
abbrev pub guarded : Context → ℕ → Bodies → Reader (ExprT × StmtT)
guarded c room r ts = do
  e ← test_at c room ts
  s ← r.stmt e.1
  Ok ((e.0, s.0), s.1)

-- what stands behind `else`, where that comes next
abbrev pub else_by : Bodies → List Tok → Bool → Result (Got MaybeS) Fault
else_by r ts false = Ok (NoneS, ts)
else_by r ts true = do
  s ← r.stmt (behind ts)
  Ok (SomeS s.0, s.1)

abbrev pub else_at : Bodies → Reader MaybeS
else_at r ts = else_by r ts (at_else_word ts)

abbrev pub if_parts : Context → ℕ → Bodies → Reader StmtT
if_parts c room r ts = do
  g ← guarded c room r (behind ts)
  z ← else_at r g.1
  Ok (IfS g.0.0 g.0.1 z.0 (span c ts z.1), z.1)

abbrev pub while_parts : Context → ℕ → Bodies → Reader StmtT
while_parts c room r ts = do
  g ← guarded c room r (behind ts)
  Ok (WhileS g.0.0 g.0.1 (span c ts g.1), g.1)

-- what stands behind the statement of a `do`
abbrev pub do_end : Context → ℕ → Reader ExprT
do_end c room ts = do
  mid ← while_word ts
  ended semicolon (test_at c room) mid

abbrev pub do_parts : Context → ℕ → Bodies → Reader StmtT
do_parts c room r ts = do
  s ← r.stmt (behind ts)
  e ← do_end c room s.1
  Ok (DoWhileS s.0 e.0 (span c ts e.1), e.1)

-- up to the first semicolon of a `for`
abbrev pub for_first : Context → ℕ → Reader MaybeS
for_first c room ts = do
  on ← open_paren ts
  ended semicolon (first_at c room) on

-- from there up to its closing parenthesis
abbrev pub for_steps : Context → ℕ → Reader (Option ExprT × Option ExprT)
for_steps c room ts = do
  x ← ended semicolon (maybe_at c room) ts
  y ← ended close_paren (maybe_at c room) x.1
  Ok ((x.0, y.0), y.1)

abbrev pub for_head : Context → ℕ → Reader (MaybeS × Option ExprT × Option ExprT)
for_head c room ts = do
  f ← for_first c room ts
  x ← for_steps c room f.1
  Ok ((f.0, x.0.0, x.0.1), x.1)

abbrev pub for_parts : Context → ℕ → Bodies → Reader StmtT
for_parts c room r ts = do
  h ← for_head c room (behind ts)
  s ← r.stmt h.1
  Ok (ForS h.0.0 h.0.1 h.0.2 s.0 (span c ts s.1), s.1)

abbrev pub switch_parts : Context → ℕ → Bodies → Reader StmtT
switch_parts c room r ts = do
  e ← ended open_brace (test_at c room) (behind ts)
  xs ← ended close_brace (braced r.arm) e.1
  Ok (SwitchS e.0 (arms xs.0) (span c ts xs.1), xs.1)

abbrev pub stmt_parts : Context → ℕ → Bodies → List Tok → StmtLead → Result (Got StmtT) Fault
stmt_parts c room r ts stmt.If = if_parts c room r ts
stmt_parts c room r ts stmt.While = while_parts c room r ts
stmt_parts c room r ts stmt.Do = do_parts c room r ts
stmt_parts c room r ts stmt.For = for_parts c room r ts
stmt_parts c room r ts stmt.Switch = switch_parts c room r ts
stmt_parts c room r ts stmt.Block = stmt_by c room r ts stmt.Block
stmt_parts c room r ts stmt.Empty = stmt_by c room r ts stmt.Empty
stmt_parts c room r ts stmt.Vars = stmt_by c room r ts stmt.Vars
stmt_parts c room r ts stmt.Return = stmt_by c room r ts stmt.Return
stmt_parts c room r ts stmt.Break = stmt_by c room r ts stmt.Break
stmt_parts c room r ts stmt.Continue = stmt_by c room r ts stmt.Continue
stmt_parts c room r ts stmt.Expr = stmt_by c room r ts stmt.Expr
