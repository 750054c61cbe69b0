-- What the grammar derives of statements is read, where there is room for it, and is otherwise too deep.
use Rattle.std.proofs.Common.{◌≡◌, ℕ, zero, suc, ◌<◌, ◌≤◌, true, false, List, [], ◌∷◌, length, Option, Some, None, Ok, refl, arith}
use Rattle.std.specs.Prelude.{◌||◌}
use Rattle.c_lex.specs.declared.token.Punct.{Punct}
use Rattle.c_lex.specs.declared.token.Punct.TheVariants as m
use Rattle.c_tree.specs.declared.operator.UnOp.{UnOp}
use Rattle.c_tree.specs.declared.operator.StepOp.{StepOp}
use Rattle.c_tree.specs.Tree as t
use Rattle.c_tree.specs.Tree.{ExprT, TypeT, VarT, StmtT, MaybeS, ArmT}
use Rattle.c_tree.specs.View.{stmts, arms}
use Rattle.c_tree.specs.Depth.{expr_depth, maybe_expr_depth, stmt_depth, maybe_depth, stmts_depth, arm_depth, arms_depth}
use Rattle.c_parse.specs.declared.class.Key.TheVariants as key
use Rattle.c_parse.specs.declared.lead.StmtLead.TheVariants as stmt
use Rattle.c_parse.specs.declared.lead.ArmLead.TheVariants as arm
use Rattle.c_parse.specs.Tok.{Tok, keyword, number, character, mark}
use Rattle.c_parse.specs.Scope.{Context}
use Rattle.c_parse.specs.Marks.{prefix, step_before, value}
use Rattle.c_parse.specs.inner.Reader.{◌>>=◌, Got, Reader, at_close_brace, at_else_word}
use Rattle.c_parse.specs.inner.Leads.{begins_expr, begins_type, begins_stmt, stmt_at, is_some_arm, arm_at}
use Rattle.c_parse.specs.inner.ReadingLists.{pushed, brace_turn, braced}
use Rattle.c_parse.specs.inner.ReadingStatements.{maybe_at, first_by, first_at, test_at, stmt_with, arm_with, bodies, stmt_read, arm_read}
use Rattle.c_parse.specs.Grammar.{Base, Ty, Expr, Level, Unary, Primary}
use Rattle.c_parse.specs.Grammar as g
use Rattle.c_parse.specs.Declarations.{Vars}
use Rattle.c_parse.specs.Declarations as d
use Rattle.c_parse.specs.Statements.{NoElse, Maybe, First, Stmt, Stmts, Arm, Arms}
use Rattle.c_parse.specs.Statements as s
use Rattle.c_parse.proofs.Outcomes.{Reads, read, over, reads_is, bind_reads, none_reads}
use Rattle.c_parse.proofs.Fronts.{Ends, end_ends, expr_begins, expr_no_type}
use Rattle.c_parse.proofs.Sizes.{expr_shorter, level_shorter}
use Rattle.c_parse.proofs.ListReads.{Parts, Turned, stop, next, turned_reads}
use Rattle.c_parse.proofs.ExprReads.{expr_reads, level_reads}
use Rattle.c_parse.proofs.DeclReads.{vars_reads, vars_type, vars_shorter}

-- what an expression begins with begins no other statement, and no arm
record Plain (c : Context) (ts : List Tok) : Type 0 where
  stmt : stmt_at c ts ≡ stmt.Expr
  arm : arm_at ts ≡ arm.Stmt
  brace : at_close_brace ts ≡ false

prefix_plain : (c : Context) (o : Tok) (op : UnOp) (ts : List Tok) → prefix o ≡ Some op → Plain c (o ∷ ts)
prefix_plain c (mark m.OpenBrace) op ts e = absurd cc
prefix_plain c (mark m.CloseBrace) op ts e = absurd cc
prefix_plain c (mark m.Semicolon) op ts e = absurd cc
prefix_plain c (mark p) op ts e = record { stmt = refl; arm = refl; brace = refl }
prefix_plain c _ op ts e = absurd cc

step_plain : (c : Context) (o : Tok) (op : StepOp) (ts : List Tok) → step_before o ≡ Some op → Plain c (o ∷ ts)
step_plain c (mark m.OpenBrace) op ts e = absurd cc
step_plain c (mark m.CloseBrace) op ts e = absurd cc
step_plain c (mark m.Semicolon) op ts e = absurd cc
step_plain c (mark p) op ts e = record { stmt = refl; arm = refl; brace = refl }
step_plain c _ op ts e = absurd cc

value_plain : (c : Context) (o : Tok) (n : ℕ) (ts : List Tok) → value o ≡ Some n → Plain c (o ∷ ts)
value_plain c (number n') n ts e = record { stmt = refl; arm = refl; brace = refl }
value_plain c (character n') n ts e = record { stmt = refl; arm = refl; brace = refl }
value_plain c (keyword key.True) n ts e = record { stmt = refl; arm = refl; brace = refl }
value_plain c (keyword key.False) n ts e = record { stmt = refl; arm = refl; brace = refl }
value_plain c _ n ts e = absurd cc

primary_plain : {c : Context} {ts rest : List Tok} {e : ExprT} → Primary c ts e rest → Plain c ts
primary_plain (g.name h) = record { stmt = rw h refl; arm = refl; brace = refl }
primary_plain (g.call_bare h) = record { stmt = rw h refl; arm = refl; brace = refl }
primary_plain (g.call h d) = record { stmt = rw h refl; arm = refl; brace = refl }
primary_plain {c = c} (g.valued {rest = rest} {o = o} {n = n} h) = value_plain c o n rest h
primary_plain g.text_ = record { stmt = refl; arm = refl; brace = refl }
primary_plain g.null = record { stmt = refl; arm = refl; brace = refl }
primary_plain (g.paren d) = record { stmt = refl; arm = refl; brace = refl }

unary_plain : {c : Context} {ts rest : List Tok} {e : ExprT} → Unary c ts e rest → Plain c ts
unary_plain {c = c} (g.operator {ts = ts} {o = o} {op = op} h d) = prefix_plain c o op ts h
unary_plain {c = c} (g.step {ts = ts} {o = o} {op = op} h d) = step_plain c o op ts h
unary_plain (g.cast d u) = record { stmt = refl; arm = refl; brace = refl }
unary_plain (g.size d) = record { stmt = refl; arm = refl; brace = refl }
unary_plain (g.postfix p k) = primary_plain p

level_plain : {c : Context} {k : ℕ} {ts rest : List Tok} {e : ExprT} → Level c k ts e rest → Plain c ts
level_plain (g.unary d) = unary_plain d
level_plain (g.level d k) = level_plain d

expr_plain : {c : Context} {ts rest : List Tok} {e : ExprT} → Expr c ts e rest → Plain c ts
expr_plain (g.plain d) = level_plain d
expr_plain (g.assign d h r) = unary_plain d

record Typed (c : Context) (ts : List Tok) : Type 0 where
  stmt : stmt_at c ts ≡ stmt.Vars
  arm : arm_at ts ≡ arm.Stmt
  brace : at_close_brace ts ≡ false

base_typed : {c : Context} {ts rest : List Tok} {y : TypeT} → Base c ts y rest → Typed c ts
base_typed g.int = record { stmt = refl; arm = refl; brace = refl }
base_typed g.bool = record { stmt = refl; arm = refl; brace = refl }
base_typed (g.named h) = record { stmt = rw h refl; arm = refl; brace = refl }
base_typed g.void = record { stmt = refl; arm = refl; brace = refl }

vars_typed : {c : Context} {ts rest : List Tok} {vs : List VarT} → Vars c ts vs rest → Typed c ts
vars_typed (d.vars (g.type b k) h) = base_typed b

-- what a statement begins with
pub record Begun (c : Context) (ts : List Tok) : Type 0 where
  pub begins : begins_stmt c ts ≡ true
  pub arm : arm_at ts ≡ arm.Stmt
  pub brace : at_close_brace ts ≡ false

pub stmt_begun : {c : Context} {ts rest : List Tok} {x : StmtT} → Stmt c ts x rest → Begun c ts
stmt_begun (s.block h) = record { begins = refl; arm = refl; brace = refl }
stmt_begun s.empty = record { begins = refl; arm = refl; brace = refl }
stmt_begun (s.vars h) = let p = vars_typed h in record { begins = rw p.stmt refl; arm = p.arm; brace = p.brace }
stmt_begun (s.expr h) = let p = expr_plain h in record { begins = rw (p.stmt, expr_begins h) refl; arm = p.arm; brace = p.brace }
stmt_begun (s.if_only e h no_else) = record { begins = refl; arm = refl; brace = refl }
stmt_begun (s.if_else e h k) = record { begins = refl; arm = refl; brace = refl }
stmt_begun (s.while e h) = record { begins = refl; arm = refl; brace = refl }
stmt_begun (s.do_while h e) = record { begins = refl; arm = refl; brace = refl }
stmt_begun (s.for f x y h) = record { begins = refl; arm = refl; brace = refl }
stmt_begun (s.switch e h) = record { begins = refl; arm = refl; brace = refl }
stmt_begun (s.return e) = record { begins = refl; arm = refl; brace = refl }
stmt_begun s.break = record { begins = refl; arm = refl; brace = refl }
stmt_begun s.continue = record { begins = refl; arm = refl; brace = refl }

arm_begins : {c : Context} {ts rest : List Tok} {x : ArmT} → Arm c ts x rest → (is_some_arm (arm_at ts) || begins_stmt c ts) ≡ true
arm_begins (s.case e) = refl
arm_begins s.default = refl
arm_begins (s.arm_stmt h) = let p = stmt_begun h in rw (p.arm, p.begins) refl

arm_no_end : {c : Context} {ts rest : List Tok} {x : ArmT} → Arm c ts x rest → at_close_brace ts ≡ false
arm_no_end (s.case e) = refl
arm_no_end s.default = refl
arm_no_end (s.arm_stmt h) = let p = stmt_begun h in p.brace

stmt_deep : (x : StmtT) → 0 < stmt_depth x
stmt_deep (t.BlockS ss sp) = omega arith
stmt_deep (t.EmptyS sp) = omega arith
stmt_deep (t.VarsS vs sp) = omega arith
stmt_deep (t.DoS e) = omega arith
stmt_deep (t.IfS e a b sp) = omega arith
stmt_deep (t.WhileS e a sp) = omega arith
stmt_deep (t.DoWhileS a e sp) = omega arith
stmt_deep (t.ForS f x y a sp) = omega arith
stmt_deep (t.SwitchS e xs sp) = omega arith
stmt_deep (t.ReturnS e sp) = omega arith
stmt_deep (t.BreakS sp) = omega arith
stmt_deep (t.ContinueS sp) = omega arith

arm_deep : (x : ArmT) → 0 < arm_depth x
arm_deep (t.CaseA e sp) = omega arith
arm_deep (t.DefaultA sp) = omega arith
arm_deep (t.StmtA x) = omega arith

stmt-is : (c : Context) (n : ℕ) (ts : List Tok) → stmt_read c (suc n) ts ≡ stmt_with c n (bodies c n) ts
unfolding bodies
stmt-is c n ts = refl

arm-is : (c : Context) (n : ℕ) (ts : List Tok) → arm_read c (suc n) ts ≡ arm_with c n (bodies c n) ts
unfolding bodies
arm-is c n ts = refl

stmt_none : {x : StmtT} {rest : List Tok} (c : Context) (ts : List Tok) → begins_stmt c ts ≡ true → Reads (stmt_depth x) zero (x, rest) (stmt_read c zero ts)
unfolding bodies
stmt_none {x = x} c ts b = none_reads (begins_stmt c ts) ts b (stmt_deep x)

arm_none : {x : ArmT} {rest : List Tok} (c : Context) (ts : List Tok) → (is_some_arm (arm_at ts) || begins_stmt c ts) ≡ true → Reads (arm_depth x) zero (x, rest) (arm_read c zero ts)
unfolding bodies
arm_none {x = x} c ts b = none_reads (is_some_arm (arm_at ts) || begins_stmt c ts) ts b (arm_deep x)

maybe_up : {c : Context} {ts rest : List Tok} {e : Option ExprT} → Maybe c ts e rest → length rest ≤ length ts
maybe_up s.maybe_none = omega arith
maybe_up (s.maybe_some e) = omega (arith, expr_shorter e)

first_up : {c : Context} {ts rest : List Tok} {f : MaybeS} → First c ts f rest → length rest ≤ length ts
first_up s.first_none = omega arith
first_up (s.first_vars h) = omega (arith, vars_shorter h)
first_up (s.first_expr e) = omega (arith, expr_shorter e)

mutual
  pub stmt_shorter : {c : Context} {ts rest : List Tok} {x : StmtT} → Stmt c ts x rest → length rest < length ts
  stmt_shorter (s.block h) = omega (arith, stmts_up h)
  stmt_shorter s.empty = omega arith
  stmt_shorter (s.vars h) = omega (arith, vars_shorter h)
  stmt_shorter (s.expr h) = omega (arith, expr_shorter h)
  stmt_shorter (s.if_only e h no_else) = omega (arith, expr_shorter e, stmt_shorter h)
  stmt_shorter (s.if_else e h k) = omega (arith, expr_shorter e, stmt_shorter h, stmt_shorter k)
  stmt_shorter (s.while e h) = omega (arith, expr_shorter e, stmt_shorter h)
  stmt_shorter (s.do_while h e) = omega (arith, expr_shorter e, stmt_shorter h)
  stmt_shorter (s.for f x y h) = omega (arith, first_up f, maybe_up x, maybe_up y, stmt_shorter h)
  stmt_shorter (s.switch e h) = omega (arith, expr_shorter e, arms_up h)
  stmt_shorter (s.return e) = omega (arith, maybe_up e)
  stmt_shorter s.break = omega arith
  stmt_shorter s.continue = omega arith

  pub stmts_up : {c : Context} {ts rest : List Tok} {xs : List StmtT} → Stmts c ts xs rest → length rest ≤ length ts
  stmts_up s.no_stmts = omega arith
  stmts_up (s.more_stmts h r) = omega (arith, stmt_shorter h, stmts_up r)

  pub arm_shorter : {c : Context} {ts rest : List Tok} {x : ArmT} → Arm c ts x rest → length rest < length ts
  arm_shorter (s.case e) = omega (arith, level_shorter e)
  arm_shorter s.default = omega arith
  arm_shorter (s.arm_stmt h) = stmt_shorter h

  arms_up : {c : Context} {ts rest : List Tok} {xs : List ArmT} → Arms c ts xs rest → length rest ≤ length ts
  arms_up s.no_arms = omega arith
  arms_up (s.more_arms h r) = omega (arith, arm_shorter h, arms_up r)

abbrev stmt_parts : Parts StmtT StmtT
stmt_parts = record { part = λ x. x ∷ []; depth = stmt_depth; deepest = λ xs. stmts_depth (stmts xs); none = refl; some = λ x xs. refl }

abbrev arm_parts : Parts ArmT ArmT
arm_parts = record { part = λ x. x ∷ []; depth = arm_depth; deepest = λ xs. arms_depth (arms xs); none = refl; some = λ x xs. refl }

brace_stops : {A : Type 0} (reader : Reader A) (ts : List Tok) → at_close_brace ts ≡ true → (xs : List A) → brace_turn reader xs ts ≡ Ok None
brace_stops reader ts e xs = rw e refl

brace_goes : {A : Type 0} (reader : Reader A) (ts : List Tok) → at_close_brace ts ≡ false → (xs : List A) → brace_turn reader xs ts ≡ (reader ts >>= pushed xs)
brace_goes reader ts e xs = rw e refl

pub else_none : (ts : List Tok) → NoElse ts → at_else_word ts ≡ false
else_none [] h = refl
else_none (keyword key.Else ∷ ts) h = absurd h
else_none (_ ∷ ts) h = refl

test_reads : {c : Context} {ts mid : List Tok} {e : ExprT} → Expr c ts e (mark m.CloseParen ∷ mid) → (n : ℕ) → Reads {A = Got ExprT} (expr_depth e) n (e, mid) (test_at c n (mark m.OpenParen ∷ ts))
test_reads {mid = mid} h n = bind_reads _ (expr_reads h (end_ends 11 m.CloseParen mid tt) n) (λ deep. deep) (λ fits. read fits)

abbrev Ender : Punct → Type 0
Ender m.Semicolon = Unit {0}
Ender m.CloseParen = Unit {0}
Ender _ = ⊥

ender_expr : (c : Context) (p : Punct) (ts : List Tok) → Ender p → begins_expr c (mark p ∷ ts) ≡ false
ender_expr c m.Semicolon ts h = refl
ender_expr c m.CloseParen ts h = refl
ender_expr c _ ts h = absurd h

ender_ends : (p : Punct) (ts : List Tok) → Ender p → Ends 11 (mark p ∷ ts)
ender_ends m.Semicolon ts h = end_ends 11 m.Semicolon ts tt
ender_ends m.CloseParen ts h = end_ends 11 m.CloseParen ts tt
ender_ends _ ts h = absurd h

maybe_reads : {c : Context} {ts us : List Tok} {e : Option ExprT} (p : Punct) → Ender p → Maybe c ts e (mark p ∷ us) → (n : ℕ) → Reads {A = Got (Option ExprT)} (maybe_expr_depth e) n (e, mark p ∷ us) (maybe_at c n ts)
maybe_reads {c = c} {us = us} p h s.maybe_none n = rw (ender_expr c p us h) (read (omega arith))
maybe_reads {us = us} p h (s.maybe_some e) n = rw (expr_begins e) (bind_reads _ (expr_reads e (ender_ends p us h) n) (λ deep. deep) (λ fits. read fits))

first-is : (c : Context) (n : ℕ) (ts : List Tok) → first_at c (suc n) ts ≡ first_by c n ts (begins_type c ts) (begins_expr c ts)
unfolding first_at
first-is c n ts = refl

first_reads : {c : Context} {ts us : List Tok} {f : MaybeS} → First c ts f (mark m.Semicolon ∷ us) → (r : ℕ) → Reads {A = Got MaybeS} (maybe_depth f) r (f, mark m.Semicolon ∷ us) (first_at c r ts)
unfolding first_at
first_reads s.first_none zero = read (omega arith)
first_reads (s.first_vars h) zero = rw (vars_type h) (over (omega arith))
first_reads (s.first_expr e) zero = rw (expr_no_type e, expr_begins e) (over (omega arith))
first_reads s.first_none (suc n) = read (omega arith)
first_reads {us = us} (s.first_vars h) (suc n) = rw (vars_type h) (bind_reads _ (vars_reads h (end_ends 11 m.Semicolon us tt) refl n) (λ deep. omega arith) (λ fits. read (omega arith)))
first_reads {us = us} (s.first_expr e) (suc n) = rw (expr_no_type e, expr_begins e) (bind_reads _ (expr_reads e (end_ends 11 m.Semicolon us tt) n) (λ deep. omega arith) (λ fits. read (omega arith)))

braced_reads : {A : Type 0} (p : Parts A A) (n : ℕ) (reader : Reader A) {ts rest : List Tok} {xs : List A} → Turned p n (brace_turn reader) ts xs rest → Reads {A = Got (List A)} (p.deepest xs) n (xs, rest) (braced reader ts)
braced_reads p n reader {ts = ts} h = turned_reads p n (brace_turn reader) h [] (suc (length ts)) (omega arith)

mutual
  pub stmt_reads : {c : Context} {ts rest : List Tok} {x : StmtT} → Stmt c ts x rest → (r : ℕ) → Reads (stmt_depth x) r (x, rest) (stmt_read c r ts)
  stmt_reads {c = c} {ts = ts} h zero = let p = stmt_begun h in stmt_none c ts p.begins
  stmt_reads {c = c} (s.block {ts = ts} h) (suc n) = reads_is _ _ (stmt-is c n (mark m.OpenBrace ∷ ts))
      (bind_reads _ (braced_reads stmt_parts n (λ us. stmt_read c n us) (stmts_turned h refl n)) (λ deep. omega arith) (λ fits. read (omega arith)))
  stmt_reads {c = c} (s.empty {rest = rest}) (suc n) = reads_is _ _ (stmt-is c n (mark m.Semicolon ∷ rest)) (read (omega arith))
  stmt_reads {c = c} (s.vars {ts = ts} {rest = rest} h) (suc n) = let p = vars_typed h in reads_is _ _ (stmt-is c n ts)
      (rw p.stmt (bind_reads _ (vars_reads h (end_ends 11 m.Semicolon rest tt) refl n) (λ deep. omega arith) (λ fits. read (omega arith))))
  stmt_reads {c = c} (s.expr {ts = ts} {rest = rest} h) (suc n) = let p = expr_plain h in reads_is _ _ (stmt-is c n ts)
      (rw p.stmt (bind_reads _ (expr_reads h (end_ends 11 m.Semicolon rest tt) n) (λ deep. omega arith) (λ fits. read (omega arith))))
  stmt_reads {c = c} (s.if_only {ts = ts} {rest = rest} e h no_else) (suc n) = reads_is _ _ (stmt-is c n (keyword key.If ∷ mark m.OpenParen ∷ ts))
      (bind_reads _ (test_reads e n) (λ deep. omega arith) (λ fits. bind_reads _ (stmt_reads h n) (λ deep. omega arith) (λ le. rw (else_none rest no_else) (read (omega arith)))))
  stmt_reads {c = c} (s.if_else {ts = ts} e h k) (suc n) = reads_is _ _ (stmt-is c n (keyword key.If ∷ mark m.OpenParen ∷ ts))
      (bind_reads _ (test_reads e n) (λ deep. omega arith) (λ fits. bind_reads _ (stmt_reads h n) (λ deep. omega arith) (λ le. bind_reads _ (stmt_reads k n) (λ deep. omega arith) (λ lf. read (omega arith)))))
  stmt_reads {c = c} (s.while {ts = ts} e h) (suc n) = reads_is _ _ (stmt-is c n (keyword key.While ∷ mark m.OpenParen ∷ ts))
      (bind_reads _ (test_reads e n) (λ deep. omega arith) (λ fits. bind_reads _ (stmt_reads h n) (λ deep. omega arith) (λ le. read (omega arith))))
  stmt_reads {c = c} (s.do_while {ts = ts} h e) (suc n) = reads_is _ _ (stmt-is c n (keyword key.Do ∷ ts))
      (bind_reads _ (stmt_reads h n) (λ deep. omega arith) (λ fits. bind_reads _ (test_reads e n) (λ deep. omega arith) (λ le. read (omega arith))))
  stmt_reads {c = c} (s.for {ts = ts} f x y h) (suc n) = reads_is _ _ (stmt-is c n (keyword key.For ∷ mark m.OpenParen ∷ ts))
      (bind_reads _ (first_reads f n) (λ deep. omega arith) (λ lf. bind_reads _ (maybe_reads m.Semicolon tt x n) (λ deep. omega arith) (λ lx.
      bind_reads _ (maybe_reads m.CloseParen tt y n) (λ deep. omega arith) (λ ly. bind_reads _ (stmt_reads h n) (λ deep. omega arith) (λ lh. read (omega arith))))))
  stmt_reads {c = c} (s.switch {ts = ts} e h) (suc n) = reads_is _ _ (stmt-is c n (keyword key.Switch ∷ mark m.OpenParen ∷ ts))
      (bind_reads _ (test_reads e n) (λ deep. omega arith) (λ fits. bind_reads _ (braced_reads arm_parts n (λ us. arm_read c n us) (arms_turned h refl n)) (λ deep. omega arith) (λ le. read (omega arith))))
  stmt_reads {c = c} (s.return {ts = ts} e) (suc n) = reads_is _ _ (stmt-is c n (keyword key.Return ∷ ts))
      (bind_reads _ (maybe_reads m.Semicolon tt e n) (λ deep. omega arith) (λ fits. read (omega arith)))
  stmt_reads {c = c} (s.break {rest = rest}) (suc n) = reads_is _ _ (stmt-is c n (keyword key.Break ∷ mark m.Semicolon ∷ rest)) (read (omega arith))
  stmt_reads {c = c} (s.continue {rest = rest}) (suc n) = reads_is _ _ (stmt-is c n (keyword key.Continue ∷ mark m.Semicolon ∷ rest)) (read (omega arith))

  pub stmts_turned : {c : Context} {ts rest : List Tok} {xs : List StmtT} → Stmts c ts xs rest → at_close_brace rest ≡ true → (n : ℕ) → Turned stmt_parts n (brace_turn (λ us. stmt_read c n us)) ts xs rest
  stmts_turned {c = c} (s.no_stmts {ts = ts}) e n = stop (λ xs. brace_stops (λ us. stmt_read c n us) ts e xs)
  stmts_turned {c = c} (s.more_stmts {ts = ts} h r) e n = let p = stmt_begun h in next (λ xs. brace_goes (λ us. stmt_read c n us) ts p.brace xs) (stmt_reads h n) (stmt_shorter h) (stmts_turned r e n)

  arm_reads : {c : Context} {ts rest : List Tok} {x : ArmT} → Arm c ts x rest → (r : ℕ) → Reads (arm_depth x) r (x, rest) (arm_read c r ts)
  arm_reads {c = c} {ts = ts} h zero = arm_none c ts (arm_begins h)
  arm_reads {c = c} (s.case {ts = ts} {rest = rest} e) (suc n) = reads_is _ _ (arm-is c n (keyword key.Case ∷ ts))
      (bind_reads _ (level_reads e (end_ends 10 m.Colon rest tt) n) (λ deep. omega arith) (λ fits. read (omega arith)))
  arm_reads {c = c} (s.default {rest = rest}) (suc n) = reads_is _ _ (arm-is c n (keyword key.Default ∷ mark m.Colon ∷ rest)) (read (omega arith))
  arm_reads {c = c} (s.arm_stmt {ts = ts} h) (suc n) = let p = stmt_begun h in reads_is _ _ (arm-is c n ts)
      (rw p.arm (bind_reads _ (stmt_reads h n) (λ deep. omega arith) (λ fits. read (omega arith))))

  arms_turned : {c : Context} {ts rest : List Tok} {xs : List ArmT} → Arms c ts xs rest → at_close_brace rest ≡ true → (n : ℕ) → Turned arm_parts n (brace_turn (λ us. arm_read c n us)) ts xs rest
  arms_turned {c = c} (s.no_arms {ts = ts}) e n = stop (λ xs. brace_stops (λ us. arm_read c n us) ts e xs)
  arms_turned {c = c} (s.more_arms {ts = ts} h r) e n = next (λ xs. brace_goes (λ us. arm_read c n us) ts (arm_no_end h) xs) (arm_reads h n) (arm_shorter h) (arms_turned r e n)

-- the statements of a body
pub body_reads : {c : Context} {ts rest : List Tok} {xs : List StmtT} → Stmts c ts xs rest → at_close_brace rest ≡ true → (n : ℕ) → Reads {A = Got (List StmtT)} (stmts_depth (stmts xs)) n (xs, rest) (braced (λ us. stmt_read c n us) ts)
body_reads {c = c} h e n = braced_reads stmt_parts n (λ us. stmt_read c n us) (stmts_turned h e n)
