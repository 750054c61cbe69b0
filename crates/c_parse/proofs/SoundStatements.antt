-- The statements that are read are derived by the grammar.
use Rattle.std.proofs.Common.{◌≡◌, ℕ, zero, suc, ◌≤◌, Bool, true, false, cond, List, [], ◌∷◌, Option, Some, None, Ok, refl, sym, ap, subst, ◌∙◌, arith}
use Rattle.std.specs.Prelude.{max, ◌||◌}
use Rattle.c_lex.specs.declared.token.Punct.TheVariants as m
use Rattle.c_tree.specs.Tree.{ExprT, StmtT, BlockS, EmptyS, VarsS, DoS, IfS, WhileS, DoWhileS, ForS, SwitchS, ReturnS, BreakS, ContinueS, MaybeS, NoneS, SomeS, ArmT, CaseA, DefaultA, StmtA}
use Rattle.c_tree.specs.View.{stmts, arms}
use Rattle.c_tree.specs.Depth.{expr_depth, maybe_expr_depth, stmt_depth, maybe_depth, stmts_depth, arm_depth, arms_depth}
use Rattle.c_parse.specs.declared.class.Key.TheVariants as key
use Rattle.c_parse.specs.declared.lead.StmtLead.{StmtLead}
use Rattle.c_parse.specs.declared.lead.StmtLead.TheVariants as stmt
use Rattle.c_parse.specs.declared.lead.ArmLead.{ArmLead}
use Rattle.c_parse.specs.declared.lead.ArmLead.TheVariants as arm
use Rattle.c_parse.specs.Tok.{Tok, keyword, word, mark}
use Rattle.c_parse.specs.Scope.{Context, is_type, span}
use Rattle.c_parse.specs.Grammar.{Expr, Level}
use Rattle.c_parse.specs.Declarations.{Vars}
use Rattle.c_parse.specs.Statements as g
use Rattle.c_parse.specs.Statements.{NoElse, Maybe, First, Stmt, Stmts, Arm, Arms}
use Rattle.c_parse.specs.inner.Reader.{Got, no_room, behind, open_paren, close_paren, open_brace, close_brace, semicolon, colon, while_word, at_else_word}
use Rattle.c_parse.specs.inner.Leads.{begins_expr, begins_type, stmt_at, arm_at}
use Rattle.c_parse.specs.inner.Reading.{level_at, expr_at}
use Rattle.c_parse.specs.inner.ReadingLists.{braced}
use Rattle.c_parse.specs.inner.ReadingDeclarations.{vars_at}
use Rattle.c_parse.specs.inner.ReadingStatements.{maybe_by, maybe_at, first_by, first_at, Bodies, test_at, if_by, if_with, while_with, do_with, for_with, switch_with, stmt_by, stmt_with, arm_by, arm_with, bodies, stmt_read, arm_read}
use Rattle.c_parse.proofs.FrontsRead as f
use Rattle.c_parse.proofs.FrontsRead.{bind_ok, ok_at}
use Rattle.c_parse.proofs.Soundness.{Found, IsSound, nothing_read, level_derived, expr_derived}
use Rattle.c_parse.proofs.SoundLists as l
use Rattle.c_parse.proofs.SoundLists.{deepest, Several, braced_sound}
use Rattle.c_parse.proofs.SoundDeclarations.{vars_derived}

-- ---- what leads say

vars_or_block : (b : Bool) → cond b stmt.Vars stmt.Expr ≡ stmt.Block → ⊥
vars_or_block true e = cc
vars_or_block false e = cc

block_is : (c : Context) (ts : List Tok) → stmt_at c ts ≡ stmt.Block → ts ≡ mark m.OpenBrace ∷ behind ts
block_is c [] e = absurd cc
block_is c (word w ∷ ts) e = absurd (vars_or_block (is_type c w) e)
block_is c (mark m.OpenBrace ∷ ts) e = refl
block_is c (keyword key.Int ∷ ts) e = absurd cc
block_is c (_ ∷ ts) e = absurd cc

vars_or_empty : (b : Bool) → cond b stmt.Vars stmt.Expr ≡ stmt.Empty → ⊥
vars_or_empty true e = cc
vars_or_empty false e = cc

empty_is : (c : Context) (ts : List Tok) → stmt_at c ts ≡ stmt.Empty → ts ≡ mark m.Semicolon ∷ behind ts
empty_is c [] e = absurd cc
empty_is c (word w ∷ ts) e = absurd (vars_or_empty (is_type c w) e)
empty_is c (mark m.Semicolon ∷ ts) e = refl
empty_is c (keyword key.Int ∷ ts) e = absurd cc
empty_is c (_ ∷ ts) e = absurd cc

vars_or_if : (b : Bool) → cond b stmt.Vars stmt.Expr ≡ stmt.If → ⊥
vars_or_if true e = cc
vars_or_if false e = cc

if_is : (c : Context) (ts : List Tok) → stmt_at c ts ≡ stmt.If → ts ≡ keyword key.If ∷ behind ts
if_is c [] e = absurd cc
if_is c (word w ∷ ts) e = absurd (vars_or_if (is_type c w) e)
if_is c (keyword key.If ∷ ts) e = refl
if_is c (mark m.OpenBrace ∷ ts) e = absurd cc
if_is c (_ ∷ ts) e = absurd cc

vars_or_while : (b : Bool) → cond b stmt.Vars stmt.Expr ≡ stmt.While → ⊥
vars_or_while true e = cc
vars_or_while false e = cc

while_is : (c : Context) (ts : List Tok) → stmt_at c ts ≡ stmt.While → ts ≡ keyword key.While ∷ behind ts
while_is c [] e = absurd cc
while_is c (word w ∷ ts) e = absurd (vars_or_while (is_type c w) e)
while_is c (keyword key.While ∷ ts) e = refl
while_is c (mark m.OpenBrace ∷ ts) e = absurd cc
while_is c (_ ∷ ts) e = absurd cc

vars_or_do : (b : Bool) → cond b stmt.Vars stmt.Expr ≡ stmt.Do → ⊥
vars_or_do true e = cc
vars_or_do false e = cc

do_is : (c : Context) (ts : List Tok) → stmt_at c ts ≡ stmt.Do → ts ≡ keyword key.Do ∷ behind ts
do_is c [] e = absurd cc
do_is c (word w ∷ ts) e = absurd (vars_or_do (is_type c w) e)
do_is c (keyword key.Do ∷ ts) e = refl
do_is c (mark m.OpenBrace ∷ ts) e = absurd cc
do_is c (_ ∷ ts) e = absurd cc

vars_or_for : (b : Bool) → cond b stmt.Vars stmt.Expr ≡ stmt.For → ⊥
vars_or_for true e = cc
vars_or_for false e = cc

for_is : (c : Context) (ts : List Tok) → stmt_at c ts ≡ stmt.For → ts ≡ keyword key.For ∷ behind ts
for_is c [] e = absurd cc
for_is c (word w ∷ ts) e = absurd (vars_or_for (is_type c w) e)
for_is c (keyword key.For ∷ ts) e = refl
for_is c (mark m.OpenBrace ∷ ts) e = absurd cc
for_is c (_ ∷ ts) e = absurd cc

vars_or_switch : (b : Bool) → cond b stmt.Vars stmt.Expr ≡ stmt.Switch → ⊥
vars_or_switch true e = cc
vars_or_switch false e = cc

switch_is : (c : Context) (ts : List Tok) → stmt_at c ts ≡ stmt.Switch → ts ≡ keyword key.Switch ∷ behind ts
switch_is c [] e = absurd cc
switch_is c (word w ∷ ts) e = absurd (vars_or_switch (is_type c w) e)
switch_is c (keyword key.Switch ∷ ts) e = refl
switch_is c (mark m.OpenBrace ∷ ts) e = absurd cc
switch_is c (_ ∷ ts) e = absurd cc

vars_or_return : (b : Bool) → cond b stmt.Vars stmt.Expr ≡ stmt.Return → ⊥
vars_or_return true e = cc
vars_or_return false e = cc

return_is : (c : Context) (ts : List Tok) → stmt_at c ts ≡ stmt.Return → ts ≡ keyword key.Return ∷ behind ts
return_is c [] e = absurd cc
return_is c (word w ∷ ts) e = absurd (vars_or_return (is_type c w) e)
return_is c (keyword key.Return ∷ ts) e = refl
return_is c (mark m.OpenBrace ∷ ts) e = absurd cc
return_is c (_ ∷ ts) e = absurd cc

vars_or_break : (b : Bool) → cond b stmt.Vars stmt.Expr ≡ stmt.Break → ⊥
vars_or_break true e = cc
vars_or_break false e = cc

break_is : (c : Context) (ts : List Tok) → stmt_at c ts ≡ stmt.Break → ts ≡ keyword key.Break ∷ behind ts
break_is c [] e = absurd cc
break_is c (word w ∷ ts) e = absurd (vars_or_break (is_type c w) e)
break_is c (keyword key.Break ∷ ts) e = refl
break_is c (mark m.OpenBrace ∷ ts) e = absurd cc
break_is c (_ ∷ ts) e = absurd cc

vars_or_continue : (b : Bool) → cond b stmt.Vars stmt.Expr ≡ stmt.Continue → ⊥
vars_or_continue true e = cc
vars_or_continue false e = cc

continue_is : (c : Context) (ts : List Tok) → stmt_at c ts ≡ stmt.Continue → ts ≡ keyword key.Continue ∷ behind ts
continue_is c [] e = absurd cc
continue_is c (word w ∷ ts) e = absurd (vars_or_continue (is_type c w) e)
continue_is c (keyword key.Continue ∷ ts) e = refl
continue_is c (mark m.OpenBrace ∷ ts) e = absurd cc
continue_is c (_ ∷ ts) e = absurd cc

case_is : (ts : List Tok) → arm_at ts ≡ arm.Case → ts ≡ keyword key.Case ∷ behind ts
case_is [] e = absurd cc
case_is (keyword key.Case ∷ ts) e = refl
case_is (_ ∷ ts) e = absurd cc

default_is : (ts : List Tok) → arm_at ts ≡ arm.Default → ts ≡ keyword key.Default ∷ behind ts
default_is [] e = absurd cc
default_is (keyword key.Default ∷ ts) e = refl
default_is (_ ∷ ts) e = absurd cc

no_else_by : (ts : List Tok) → at_else_word ts ≡ false → NoElse ts
no_else_by [] e = tt
no_else_by (keyword key.Else ∷ ts) e = absurd cc
no_else_by (_ ∷ ts) e = tt

-- ---- parts

maybe_sound : (c : Context) (n : ℕ) → IsSound (Maybe c) maybe_expr_depth n (maybe_at c n)
maybe_sound c n ts x e = step (begins_expr c ts) e
  where
    step : (b : Bool) → maybe_by c n ts b ≡ Ok x → Found (Maybe c) maybe_expr_depth n ts x
    step false e' = ok_at (λ (z : Got (Option ExprT)). Found (Maybe c) maybe_expr_depth n ts z) (None, ts) x e' (record { derived = g.maybe_none; fits = omega arith })
    step true e' =
        let a = bind_ok (expr_at c n ts) _ x e' in
        let d = expr_derived c n ts a.0 a.1 in
        ok_at (λ (z : Got (Option ExprT)). Found (Maybe c) maybe_expr_depth n ts z) (Some a.0.0, a.0.1) x a.2 (record { derived = g.maybe_some d.derived; fits = d.fits })

first_step : (c : Context) (n : ℕ) (ts : List Tok) (x : Got MaybeS) (a b : Bool) → first_by c n ts a b ≡ Ok x → Found (First c) maybe_depth (suc n) ts x
first_step c n ts x true b e =
    let a = bind_ok (vars_at c n ts) _ x e in
    let d = vars_derived c n ts a.0 a.1 in
    ok_at (λ (z : Got MaybeS). Found (First c) maybe_depth (suc n) ts z) (SomeS (VarsS a.0.0 (span c ts a.0.1)), a.0.1) x a.2 (record { derived = g.first_vars d.derived; fits = omega (arith, d.fits) })
first_step c n ts x false true e =
    let a = bind_ok (expr_at c n ts) _ x e in
    let d = expr_derived c n ts a.0 a.1 in
    ok_at (λ (z : Got MaybeS). Found (First c) maybe_depth (suc n) ts z) (SomeS (DoS a.0.0), a.0.1) x a.2 (record { derived = g.first_expr d.derived; fits = omega (arith, d.fits) })
first_step c n ts x false false e = ok_at (λ (z : Got MaybeS). Found (First c) maybe_depth (suc n) ts z) (NoneS, ts) x e (record { derived = g.first_none; fits = omega arith })

first_bare : (c : Context) (ts : List Tok) (x : Got MaybeS) (b : Bool) → cond b (no_room true ts) (Ok (NoneS, ts)) ≡ Ok x → Found (First c) maybe_depth 0 ts x
first_bare c ts x true e = absurd (nothing_read _ x e)
first_bare c ts x false e = ok_at (λ (z : Got MaybeS). Found (First c) maybe_depth 0 ts z) (NoneS, ts) x e (record { derived = g.first_none; fits = omega arith })

first_sound : (c : Context) (n : ℕ) → IsSound (First c) maybe_depth n (λ ts. first_at c n ts)
unfolding first_at
first_sound c zero ts x e = first_bare c ts x (begins_type c ts || begins_expr c ts) e
first_sound c (suc n) ts x e = first_step c n ts x (begins_type c ts) (begins_expr c ts) e

-- an expression in parentheses
record Tested (c : Context) (n : ℕ) (ts : List Tok) (x : Got ExprT) : Type 0 where
  inner : List Tok
  is : ts ≡ mark m.OpenParen ∷ inner
  derived : Expr c inner x.0 (mark m.CloseParen ∷ x.1)
  fits : expr_depth x.0 ≤ n

test_sound : (c : Context) (n : ℕ) (ts : List Tok) (x : Got ExprT) → test_at c n ts ≡ Ok x → Tested c n ts x
test_sound c n ts x e =
    let o = bind_ok (open_paren ts) _ x e in
    let a = bind_ok (expr_at c n o.0) _ x o.2 in
    let b = bind_ok (close_paren a.0.1) _ x a.2 in
    let d = expr_derived c n o.0 a.0 a.1 in
    ok_at (λ (z : Got ExprT). Tested c n ts z) (a.0.0, b.0) x b.2
    (record { inner = o.0; is = f.open_paren-is ts o.0 o.1; derived = subst (λ (z : List Tok). Expr c o.0 a.0.0 z) (f.close_paren-is a.0.1 b.0 b.1) d.derived; fits = d.fits })

stmts_of : {c : Context} {ts rest : List Tok} {ss : List StmtT} → Several (Stmt c) ts ss rest → Stmts c ts ss rest
stmts_of l.none = g.no_stmts
stmts_of (l.some d ds) = g.more_stmts d (stmts_of ds)

arms_of : {c : Context} {ts rest : List Tok} {xs : List ArmT} → Several (Arm c) ts xs rest → Arms c ts xs rest
arms_of l.none = g.no_arms
arms_of (l.some d ds) = g.more_arms d (arms_of ds)

stmts_deepest : (ss : List StmtT) → stmts_depth (stmts ss) ≡ deepest stmt_depth ss
stmts_deepest [] = refl
stmts_deepest (s ∷ ss) = ap (λ (n : ℕ). max (stmt_depth s) n) (stmts_deepest ss)

arms_deepest : (xs : List ArmT) → arms_depth (arms xs) ≡ deepest arm_depth xs
arms_deepest [] = refl
arms_deepest (a ∷ xs) = ap (λ (n : ℕ). max (arm_depth a) n) (arms_deepest xs)

abbrev pub body_depth : List StmtT → ℕ
body_depth ss = stmts_depth (stmts ss)

pub record SoundBodies (c : Context) (n : ℕ) (r : Bodies) : Type 0 where
  pub stmt : IsSound (Stmt c) stmt_depth n (λ ts. r.stmt ts)
  pub arm : IsSound (Arm c) arm_depth n (λ ts. r.arm ts)

module _ (c : Context) (n : ℕ) (r : Bodies) (s : SoundBodies c n r) where
  stmts_sound : IsSound (Stmts c) body_depth n (λ ts. braced r.stmt ts)
  stmts_sound ts x e =
      let d = braced_sound (Stmt c) stmt_depth n (λ us. r.stmt us) s.stmt ts x e in
      record { derived = stmts_of d.derived; fits = omega (arith, d.fits, stmts_deepest x.0) }

  -- a statement that begins with this keyword
  abbrev At : List Tok → Got StmtT → Type 0
  At ts z = Found (Stmt c) stmt_depth (suc n) ts z

  if_sound : (ts : List Tok) (x : Got StmtT) → ts ≡ keyword key.If ∷ behind ts → if_with c n r ts ≡ Ok x → At ts x
  if_sound ts x is e =
      let a = bind_ok (test_at c n (behind ts)) _ x e in
      let t = bind_ok (r.stmt a.0.1) _ x a.2 in
      let p = test_sound c n (behind ts) a.0 a.1 in
      let d = s.stmt a.0.1 t.0 t.1 in
      subst (λ (z : List Tok). if_by c r z a.0.0 t.0.0 t.0.1 (at_else_word t.0.1) ≡ Ok x → At z x) (sym (is ∙ ap (λ (z : List Tok). keyword key.If ∷ z) p.is))
      (step p.inner a.0 p.derived p.fits t.0 d.derived d.fits (at_else_word t.0.1) refl) t.2
    where
      step : (us : List Tok) (a : Got ExprT) → Expr c us a.0 (mark m.CloseParen ∷ a.1) → expr_depth a.0 ≤ n → (t : Got StmtT) → Stmt c a.1 t.0 t.1 → stmt_depth t.0 ≤ n → (b : Bool) → at_else_word t.1 ≡ b
          → if_by c r (keyword key.If ∷ mark m.OpenParen ∷ us) a.0 t.0 t.1 b ≡ Ok x → At (keyword key.If ∷ mark m.OpenParen ∷ us) x
      step us a p pf t d df false is e' = ok_at (λ (z : Got StmtT). At (keyword key.If ∷ mark m.OpenParen ∷ us) z) (IfS a.0 t.0 NoneS (span c (keyword key.If ∷ mark m.OpenParen ∷ us) t.1), t.1) x e'
          (record { derived = g.if_only p d (no_else_by t.1 is); fits = omega arith })
      step us a p pf t d df true is e' =
          let o = bind_ok (r.stmt (behind t.1)) _ x e' in
          let q = s.stmt (behind t.1) o.0 o.1 in
          ok_at (λ (z : Got StmtT). At (keyword key.If ∷ mark m.OpenParen ∷ us) z) (IfS a.0 t.0 (SomeS o.0.0) (span c (keyword key.If ∷ mark m.OpenParen ∷ us) o.0.1), o.0.1) x o.2
          (record { derived = g.if_else p (subst (λ (z : List Tok). Stmt c a.1 t.0 z) (f.at_else_word-is t.1 is) d) q.derived; fits = omega (arith, q.fits) })

  while_sound : (ts : List Tok) (x : Got StmtT) → ts ≡ keyword key.While ∷ behind ts → while_with c n r ts ≡ Ok x → At ts x
  while_sound ts x is e =
      let a = bind_ok (test_at c n (behind ts)) _ x e in
      let t = bind_ok (r.stmt a.0.1) _ x a.2 in
      let p = test_sound c n (behind ts) a.0 a.1 in
      let d = s.stmt a.0.1 t.0 t.1 in
      ok_at (λ (z : Got StmtT). At ts z) (WhileS a.0.0 t.0.0 (span c ts t.0.1), t.0.1) x t.2 (record {
        derived = subst (λ (z : List Tok). Stmt c z (WhileS a.0.0 t.0.0 (span c z t.0.1)) t.0.1) (sym (is ∙ ap (λ (z : List Tok). keyword key.While ∷ z) p.is)) (g.while p.derived d.derived);
        fits = omega (arith, p.fits, d.fits);
      })

  do_sound : (ts : List Tok) (x : Got StmtT) → ts ≡ keyword key.Do ∷ behind ts → do_with c n r ts ≡ Ok x → At ts x
  do_sound ts x is e =
      let t = bind_ok (r.stmt (behind ts)) _ x e in
      let w = bind_ok (while_word t.0.1) _ x t.2 in
      let a = bind_ok (test_at c n w.0) _ x w.2 in
      let b = bind_ok (semicolon a.0.1) _ x a.2 in
      let d = s.stmt (behind ts) t.0 t.1 in
      let p = test_sound c n w.0 a.0 a.1 in
      let body : Stmt c (behind ts) t.0.0 (keyword key.While ∷ mark m.OpenParen ∷ p.inner) = subst (λ (z : List Tok). Stmt c (behind ts) t.0.0 z) (f.while_word-is t.0.1 w.0 w.1 ∙ ap (λ (z : List Tok). keyword key.While ∷ z) p.is) d.derived in
      let test : Expr c p.inner a.0.0 (mark m.CloseParen ∷ mark m.Semicolon ∷ b.0) = subst (λ (z : List Tok). Expr c p.inner a.0.0 (mark m.CloseParen ∷ z)) (f.semicolon-is a.0.1 b.0 b.1) p.derived in
      ok_at (λ (z : Got StmtT). At ts z) (DoWhileS t.0.0 a.0.0 (span c ts b.0), b.0) x b.2 (record {
        derived = subst (λ (z : List Tok). Stmt c z (DoWhileS t.0.0 a.0.0 (span c z b.0)) b.0) (sym is) (g.do_while body test);
        fits = omega (arith, p.fits, d.fits);
      })

  for_sound : (ts : List Tok) (x : Got StmtT) → ts ≡ keyword key.For ∷ behind ts → for_with c n r ts ≡ Ok x → At ts x
  for_sound ts x is e =
      let o = bind_ok (open_paren (behind ts)) _ x e in
      let p = bind_ok (first_at c n o.0) _ x o.2 in
      let u = bind_ok (semicolon p.0.1) _ x p.2 in
      let a = bind_ok (maybe_at c n u.0) _ x u.2 in
      let v = bind_ok (semicolon a.0.1) _ x a.2 in
      let b = bind_ok (maybe_at c n v.0) _ x v.2 in
      let w = bind_ok (close_paren b.0.1) _ x b.2 in
      let t = bind_ok (r.stmt w.0) _ x w.2 in
      let dp = first_sound c n o.0 p.0 p.1 in
      let da = maybe_sound c n u.0 a.0 a.1 in
      let db = maybe_sound c n v.0 b.0 b.1 in
      let dt = s.stmt w.0 t.0 t.1 in
      let first : First c o.0 p.0.0 (mark m.Semicolon ∷ u.0) = subst (λ (z : List Tok). First c o.0 p.0.0 z) (f.semicolon-is p.0.1 u.0 u.1) dp.derived in
      let test : Maybe c u.0 a.0.0 (mark m.Semicolon ∷ v.0) = subst (λ (z : List Tok). Maybe c u.0 a.0.0 z) (f.semicolon-is a.0.1 v.0 v.1) da.derived in
      let last : Maybe c v.0 b.0.0 (mark m.CloseParen ∷ w.0) = subst (λ (z : List Tok). Maybe c v.0 b.0.0 z) (f.close_paren-is b.0.1 w.0 w.1) db.derived in
      ok_at (λ (z : Got StmtT). At ts z) (ForS p.0.0 a.0.0 b.0.0 t.0.0 (span c ts t.0.1), t.0.1) x t.2 (record {
        derived = subst (λ (z : List Tok). Stmt c z (ForS p.0.0 a.0.0 b.0.0 t.0.0 (span c z t.0.1)) t.0.1) (sym (is ∙ ap (λ (z : List Tok). keyword key.For ∷ z) (f.open_paren-is (behind ts) o.0 o.1))) (g.for first test last dt.derived);
        fits = omega (arith, dp.fits, da.fits, db.fits, dt.fits);
      })

  switch_sound : (ts : List Tok) (x : Got StmtT) → ts ≡ keyword key.Switch ∷ behind ts → switch_with c n r ts ≡ Ok x → At ts x
  switch_sound ts x is e =
      let a = bind_ok (test_at c n (behind ts)) _ x e in
      let o = bind_ok (open_brace a.0.1) _ x a.2 in
      let k = bind_ok (braced r.arm o.0) _ x o.2 in
      let b = bind_ok (close_brace k.0.1) _ x k.2 in
      let p = test_sound c n (behind ts) a.0 a.1 in
      let d = braced_sound (Arm c) arm_depth n (λ us. r.arm us) s.arm o.0 k.0 k.1 in
      let test : Expr c p.inner a.0.0 (mark m.CloseParen ∷ mark m.OpenBrace ∷ o.0) = subst (λ (z : List Tok). Expr c p.inner a.0.0 (mark m.CloseParen ∷ z)) (f.open_brace-is a.0.1 o.0 o.1) p.derived in
      let inner : Arms c o.0 k.0.0 (mark m.CloseBrace ∷ b.0) = subst (λ (z : List Tok). Arms c o.0 k.0.0 z) (f.close_brace-is k.0.1 b.0 b.1) (arms_of d.derived) in
      ok_at (λ (z : Got StmtT). At ts z) (SwitchS a.0.0 (arms k.0.0) (span c ts b.0), b.0) x b.2 (record {
        derived = subst (λ (z : List Tok). Stmt c z (SwitchS a.0.0 (arms k.0.0) (span c z b.0)) b.0) (sym (is ∙ ap (λ (z : List Tok). keyword key.Switch ∷ z) p.is)) (g.switch test inner);
        fits = omega (arith, p.fits, d.fits, arms_deepest k.0.0);
      })

  stmt_sound : IsSound (Stmt c) stmt_depth (suc n) (stmt_with c n r)
  stmt_sound ts x e = step (stmt_at c ts) refl e
    where
      step : (k : StmtLead) → stmt_at c ts ≡ k → stmt_by c n r ts k ≡ Ok x → At ts x
      step stmt.Block is e' =
          let a = bind_ok (braced r.stmt (behind ts)) _ x e' in
          let b = bind_ok (close_brace a.0.1) _ x a.2 in
          let d = stmts_sound (behind ts) a.0 a.1 in
          let inner : Stmts c (behind ts) a.0.0 (mark m.CloseBrace ∷ b.0) = subst (λ (z : List Tok). Stmts c (behind ts) a.0.0 z) (f.close_brace-is a.0.1 b.0 b.1) d.derived in
          ok_at (λ (z : Got StmtT). At ts z) (BlockS (stmts a.0.0) (span c ts b.0), b.0) x b.2
          (record { derived = subst (λ (z : List Tok). Stmt c z (BlockS (stmts a.0.0) (span c z b.0)) b.0) (sym (block_is c ts is)) (g.block inner); fits = omega (arith, d.fits) })
      step stmt.Empty is e' = ok_at (λ (z : Got StmtT). At ts z) (EmptyS (span c ts (behind ts)), behind ts) x e'
          (record { derived = subst (λ (z : List Tok). Stmt c z (EmptyS (span c z (behind ts))) (behind ts)) (sym (empty_is c ts is)) g.empty; fits = omega arith })
      step stmt.Vars is e' =
          let a = bind_ok (vars_at c n ts) _ x e' in
          let b = bind_ok (semicolon a.0.1) _ x a.2 in
          let d = vars_derived c n ts a.0 a.1 in
          ok_at (λ (z : Got StmtT). At ts z) (VarsS a.0.0 (span c ts b.0), b.0) x b.2
          (record { derived = g.vars (subst (λ (z : List Tok). Vars c ts a.0.0 z) (f.semicolon-is a.0.1 b.0 b.1) d.derived); fits = omega (arith, d.fits) })
      step stmt.If is e' = if_sound ts x (if_is c ts is) e'
      step stmt.While is e' = while_sound ts x (while_is c ts is) e'
      step stmt.Do is e' = do_sound ts x (do_is c ts is) e'
      step stmt.For is e' = for_sound ts x (for_is c ts is) e'
      step stmt.Switch is e' = switch_sound ts x (switch_is c ts is) e'
      step stmt.Return is e' =
          let a = bind_ok (maybe_at c n (behind ts)) _ x e' in
          let b = bind_ok (semicolon a.0.1) _ x a.2 in
          let d = maybe_sound c n (behind ts) a.0 a.1 in
          let inner : Maybe c (behind ts) a.0.0 (mark m.Semicolon ∷ b.0) = subst (λ (z : List Tok). Maybe c (behind ts) a.0.0 z) (f.semicolon-is a.0.1 b.0 b.1) d.derived in
          ok_at (λ (z : Got StmtT). At ts z) (ReturnS a.0.0 (span c ts b.0), b.0) x b.2
          (record { derived = subst (λ (z : List Tok). Stmt c z (ReturnS a.0.0 (span c z b.0)) b.0) (sym (return_is c ts is)) (g.return inner); fits = omega (arith, d.fits) })
      step stmt.Break is e' =
          let b = bind_ok (semicolon (behind ts)) _ x e' in
          let whole : ts ≡ keyword key.Break ∷ mark m.Semicolon ∷ b.0 = break_is c ts is ∙ ap (λ (z : List Tok). keyword key.Break ∷ z) (f.semicolon-is (behind ts) b.0 b.1) in
          ok_at (λ (z : Got StmtT). At ts z) (BreakS (span c ts b.0), b.0) x b.2
          (record { derived = subst (λ (z : List Tok). Stmt c z (BreakS (span c z b.0)) b.0) (sym whole) g.break; fits = omega arith })
      step stmt.Continue is e' =
          let b = bind_ok (semicolon (behind ts)) _ x e' in
          let whole : ts ≡ keyword key.Continue ∷ mark m.Semicolon ∷ b.0 = continue_is c ts is ∙ ap (λ (z : List Tok). keyword key.Continue ∷ z) (f.semicolon-is (behind ts) b.0 b.1) in
          ok_at (λ (z : Got StmtT). At ts z) (ContinueS (span c ts b.0), b.0) x b.2
          (record { derived = subst (λ (z : List Tok). Stmt c z (ContinueS (span c z b.0)) b.0) (sym whole) g.continue; fits = omega arith })
      step stmt.Expr is e' =
          let a = bind_ok (expr_at c n ts) _ x e' in
          let b = bind_ok (semicolon a.0.1) _ x a.2 in
          let d = expr_derived c n ts a.0 a.1 in
          ok_at (λ (z : Got StmtT). At ts z) (DoS a.0.0, b.0) x b.2
          (record { derived = g.expr (subst (λ (z : List Tok). Expr c ts a.0.0 z) (f.semicolon-is a.0.1 b.0 b.1) d.derived); fits = omega (arith, d.fits) })

  arm_sound : IsSound (Arm c) arm_depth (suc n) (arm_with c n r)
  arm_sound ts x e = step (arm_at ts) refl e
    where
      step : (k : ArmLead) → arm_at ts ≡ k → arm_by c n r ts k ≡ Ok x → Found (Arm c) arm_depth (suc n) ts x
      step arm.Case is e' =
          let a = bind_ok (level_at c n 10 (behind ts)) _ x e' in
          let b = bind_ok (colon a.0.1) _ x a.2 in
          let d = level_derived c n 10 (behind ts) a.0 a.1 in
          let inner : Level c 10 (behind ts) a.0.0 (mark m.Colon ∷ b.0) = subst (λ (z : List Tok). Level c 10 (behind ts) a.0.0 z) (f.colon-is a.0.1 b.0 b.1) d.derived in
          ok_at (λ (z : Got ArmT). Found (Arm c) arm_depth (suc n) ts z) (CaseA a.0.0 (span c ts b.0), b.0) x b.2
          (record { derived = subst (λ (z : List Tok). Arm c z (CaseA a.0.0 (span c z b.0)) b.0) (sym (case_is ts is)) (g.case inner); fits = omega (arith, d.fits) })
      step arm.Default is e' =
          let b = bind_ok (colon (behind ts)) _ x e' in
          let whole : ts ≡ keyword key.Default ∷ mark m.Colon ∷ b.0 = default_is ts is ∙ ap (λ (z : List Tok). keyword key.Default ∷ z) (f.colon-is (behind ts) b.0 b.1) in
          ok_at (λ (z : Got ArmT). Found (Arm c) arm_depth (suc n) ts z) (DefaultA (span c ts b.0), b.0) x b.2
          (record { derived = subst (λ (z : List Tok). Arm c z (DefaultA (span c z b.0)) b.0) (sym whole) g.default; fits = omega arith })
      step arm.Stmt is e' =
          let a = bind_ok (r.stmt ts) _ x e' in
          let d = s.stmt ts a.0 a.1 in
          ok_at (λ (z : Got ArmT). Found (Arm c) arm_depth (suc n) ts z) (StmtA a.0.0, a.0.1) x a.2 (record { derived = g.arm_stmt d.derived; fits = omega (arith, d.fits) })

pub bodies_sound : (c : Context) (n : ℕ) → SoundBodies c n (bodies c n)
unfolding bodies
bodies_sound c zero = record { stmt = λ ts x e. absurd (nothing_read _ x e); arm = λ ts x e. absurd (nothing_read _ x e) }
bodies_sound c (suc n) = record {
  stmt = λ ts x e. stmt_sound c n (bodies c n) (bodies_sound c n) ts x e;
  arm = λ ts x e. arm_sound c n (bodies c n) (bodies_sound c n) ts x e;
}

pub stmt_derived : (c : Context) (n : ℕ) (ts : List Tok) (x : Got StmtT) → stmt_read c n ts ≡ Ok x → Found (Stmt c) stmt_depth n ts x
stmt_derived c n ts x e = (bodies_sound c n).stmt ts x e

pub arm_derived : (c : Context) (n : ℕ) (ts : List Tok) (x : Got ArmT) → arm_read c n ts ≡ Ok x → Found (Arm c) arm_depth n ts x
arm_derived c n ts x e = (bodies_sound c n).arm ts x e

pub body_derived : (c : Context) (n : ℕ) (ts : List Tok) (x : Got (List StmtT)) → braced (stmt_read c n) ts ≡ Ok x → Found (Stmts c) body_depth n ts x
body_derived c n ts x e = stmts_sound c n (bodies c n) (bodies_sound c n) ts x e
