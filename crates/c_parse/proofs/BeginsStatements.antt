-- What is read of statements goes on, and what is at fault there can be completed.
use Rattle.std.proofs.Common.{◌≡◌, ℕ, zero, suc, Bool, true, false, cond, List, [], ◌∷◌, length, Option, Some, None, Ok, refl, ap, subst, ◌∙◌, ◌⊎◌, inl, inr}
use Rattle.std.specs.Prelude.{◌||◌}
use Rattle.c_tree.specs.Tree.{ExprT}
use Rattle.c_lex.specs.declared.token.Punct.TheVariants as m
use Rattle.c_parse.specs.declared.class.Key.TheVariants as key
use Rattle.c_parse.specs.declared.fault.Fault.TheVariants.{TooDeep}
use Rattle.c_parse.specs.Tok.{Tok, keyword, number, mark}
use Rattle.c_parse.specs.Scope.{Context, is_type, span}
use Rattle.c_parse.specs.Grammar.{Expr, Level}
use Rattle.c_parse.specs.inner.Reader.{◌>>=◌, no_room, room_fault, at_else_word, open_paren, close_paren}
use Rattle.c_parse.specs.inner.Leads.{begins_type, begins_expr}
use Rattle.c_parse.specs.inner.Reading.{level_at, expr_at}
use Rattle.c_parse.proofs.Told as told
use Rattle.c_parse.proofs.Told.{StartIs, start_is, LeadIs, lead_is, SuffixIs, suffix_is, TypeIs, type_is, TypeMarkIs, type_mark_is}
use Rattle.c_parse.proofs.Completion.{Rule, Plain, Fits, Deep, GoodFault, Good, Word, Seq, Implies, widen_fault, widen, good_behind, fault_front, bind_good, bind_good_tokens, seq_word, first_wrong, first_deep, Repeats, repeats_word, TurnTakes}
use Rattle.c_parse.specs.inner.ReadingLists.{brace_turn, braced}
use Rattle.c_parse.specs.inner.Reader.{open_brace, close_brace, semicolon, colon, while_word}
use Rattle.c_parse.proofs.OneToken.{TokR, token_frame, open_paren_good, close_paren_good, open_paren_word, close_paren_word}
use Rattle.c_tree.specs.Tree.{VarT}
use Rattle.c_parse.specs.Declarations.{Vars}
use Rattle.c_parse.specs.inner.ReadingDeclarations.{vars_at}
use Rattle.c_parse.proofs.Shrinking.{turns_of_stmts, turns_of_arms}
use Rattle.c_parse.proofs.Begins.{ExprR, LevelR, UnaryR, level_word, expr_word, unary_level, zero_unary, level_expr, unary_deep, type_deep}
use Rattle.c_parse.proofs.BeginsLists.{mapped_good, mapped_tokens, braced_good, open_brace_good, close_brace_good, semicolon_good, colon_good, while_word_good, open_brace_word, close_brace_word, semicolon_word, colon_word, while_tok_word}
use Rattle.c_tree.specs.Tree.{StmtT, BlockS, VarsS, DoS, IfS, WhileS, DoWhileS, ForS, SwitchS, ReturnS, BreakS, ContinueS, MaybeS, NoneS, SomeS, ArmT, CaseA, DefaultA, StmtA}
use Rattle.c_tree.specs.View.{stmts, arms}
use Rattle.c_parse.specs.declared.lead.StmtLead.{StmtLead}
use Rattle.c_parse.specs.declared.lead.ArmLead.{ArmLead}
use Rattle.c_parse.specs.Statements as s
use Rattle.c_parse.specs.Statements.{Maybe, First, Stmt, Stmts, Arm, Arms}
use Rattle.c_parse.specs.inner.Leads.{stmt_at, begins_stmt, is_some_stmt, arm_at, is_some_arm}
use Rattle.c_parse.specs.inner.ReadingStatements.{maybe_by, maybe_at, first_by, first_at, Bodies, test_at, if_by, stmt_by, stmt_with, arm_by, arm_with, bodies, stmt_read}
use Rattle.c_parse.proofs.Told.{StmtIs, stmt_is, ArmIs, arm_is}
use Rattle.c_parse.proofs.Single.{no_else, else_word_is}
use Rattle.c_parse.proofs.BeginsDeclarations.{expr_read_good, level_read_good, zero_expr, VarsQ, vars_word, vars_good, vars_deep}

fits_no_else : (rest after : List Tok) → at_else_word rest ≡ false → Fits rest after → at_else_word after ≡ false
fits_no_else rest after e (inl p) = p.0
fits_no_else rest after e (inr w) = rw (w.other) (rw (w.one) at e)

module _ (types : List (List ℕ)) (fresh : List ℕ) (is_fresh : is_type (record { total = 0; types = types }) fresh ≡ false) where
  abbrev ctx : ℕ → Context
  ctx t = record { total = t; types = types }

  abbrev ExprQ : Rule
  ExprQ = ExprR types fresh is_fresh

  abbrev LevelQ : Rule
  LevelQ = LevelR types fresh is_fresh 10

  abbrev VarsR : Rule
  VarsR = VarsQ types fresh is_fresh

  abbrev UnaryQ : Rule
  UnaryQ = UnaryR types fresh is_fresh

  abbrev expr_w : Word ExprQ
  expr_w = expr_word types fresh is_fresh

  abbrev vars_w : Word VarsR
  vars_w = vars_word types fresh is_fresh

  abbrev level_w : Word LevelQ
  level_w = level_word types fresh is_fresh 10

  expr_good : (t room : ℕ) (ts : List Tok) → Good ExprQ ts (expr_at (ctx t) room ts)
  expr_good t room ts = expr_read_good types fresh is_fresh t room ts

  unary_to_expr : Implies UnaryQ ExprQ
  unary_to_expr us vs u = level_expr types fresh is_fresh us vs (unary_level types fresh is_fresh 10 us vs u)

  expr_deep : (t : ℕ) (ts : List Tok) → begins_expr (ctx t) ts ≡ true → Deep ExprQ ts (length ts)
  expr_deep t ts e = widen_fault UnaryQ ExprQ unary_to_expr ts (TooDeep (length ts)) (unary_deep types fresh is_fresh t ts e)

  vars_begin : (t : ℕ) (ts : List Tok) → begins_type (ctx t) ts ≡ true → Deep VarsR ts (length ts)
  vars_begin t ts e = vars_deep types fresh is_fresh ts (type_deep types fresh is_fresh t ts e)

  -- ---- an expression or none, and what a `for` begins with

  abbrev pub MaybeR : Rule
  MaybeR ts rest = (t : ℕ) → (e : Option ExprT) × Maybe (ctx t) ts e rest

  maybe_good_by : (t room : ℕ) (ts : List Tok) (b : Bool) → Good MaybeR ts (maybe_by (ctx t) room ts b)
  maybe_good_by t room ts false = record { part = []; is = refl; any = λ after w v. (None, s.maybe_none) }
  maybe_good_by t room ts true = widen ExprQ MaybeR (λ us vs e v. let x = e v in (Some x.0, s.maybe_some x.1)) ts _ (mapped_good ExprQ (λ e. Some e.0) ts (expr_at (ctx t) room ts) (expr_good t room ts))

  maybe_good : (t room : ℕ) (ts : List Tok) → Good MaybeR ts (maybe_at (ctx t) room ts)
  maybe_good t room ts = maybe_good_by t room ts (begins_expr (ctx t) ts)

  maybe_word : Word MaybeR
  maybe_word = record { tokens = []; takes = λ after p v. (None, s.maybe_none); plain = λ after p. p }

  abbrev pub FirstR : Rule
  FirstR ts rest = (t : ℕ) → (f : MaybeS) × First (ctx t) ts f rest

  vars_first : Implies VarsR FirstR
  vars_first us vs x v = let y = x v in (_, s.first_vars y.1)

  expr_first : Implies ExprQ FirstR
  expr_first us vs x v = let y = x v in (_, s.first_expr y.1)

  first_good_by : (t room : ℕ) (ts : List Tok) (b e : Bool) → Good FirstR ts (first_by (ctx t) room ts b e)
  first_good_by t room ts true e = widen VarsR FirstR vars_first ts _ (mapped_good VarsR (λ vs. SomeS (VarsS vs.0 (span (ctx t) ts vs.1))) ts (vars_at (ctx t) room ts) (vars_good types fresh is_fresh t room ts))
  first_good_by t room ts false true = widen ExprQ FirstR expr_first ts _ (mapped_good ExprQ (λ e. SomeS (DoS e.0)) ts (expr_at (ctx t) room ts) (expr_good t room ts))
  first_good_by t room ts false false = record { part = []; is = refl; any = λ after w v. (NoneS, s.first_none) }

  first_deep_by : (t : ℕ) (ts : List Tok) (b : Bool) → begins_type (ctx t) ts ≡ b → (c : Bool) → begins_expr (ctx t) ts ≡ c → Good FirstR ts (cond (b || c) (no_room true ts) (Ok (NoneS, ts)))
  first_deep_by t ts true e c f = widen_fault VarsR FirstR vars_first ts (TooDeep (length ts)) (vars_begin t ts e)
  first_deep_by t ts false e true f = widen_fault ExprQ FirstR expr_first ts (TooDeep (length ts)) (expr_deep t ts f)
  first_deep_by t ts false e false f = record { part = []; is = refl; any = λ after w v. (NoneS, s.first_none) }

  first_good : (t room : ℕ) (ts : List Tok) → Good FirstR ts (first_at (ctx t) room ts)
  unfolding first_at
  first_good t zero ts = first_deep_by t ts (begins_type (ctx t) ts) refl (begins_expr (ctx t) ts) refl
  first_good t (suc room) ts = first_good_by t room ts (begins_type (ctx t) ts) (begins_expr (ctx t) ts)

  first_word : Word FirstR
  first_word = record { tokens = []; takes = λ after p v. (NoneS, s.first_none); plain = λ after p. p }

  -- ---- an expression in parentheses

  abbrev TestR : Rule
  TestR = Seq (TokR (mark m.OpenParen)) (Seq ExprQ (TokR (mark m.CloseParen)))

  test_word : Word TestR
  test_word = seq_word (TokR (mark m.OpenParen)) (Seq ExprQ (TokR (mark m.CloseParen))) open_paren_word (seq_word ExprQ (TokR (mark m.CloseParen)) expr_w close_paren_word)

  test_good : (t room : ℕ) (ts : List Tok) → Good TestR ts (test_at (ctx t) room ts)
  test_good t room ts = bind_good_tokens (TokR (mark m.OpenParen)) (Seq ExprQ (TokR (mark m.CloseParen))) (seq_word ExprQ (TokR (mark m.CloseParen)) expr_w close_paren_word) ts (open_paren ts)
      (λ on. expr_at (ctx t) room on >>= λ e. close_paren e.1 >>= λ rest. Ok (e.0, rest)) (open_paren_good ts)
      (λ on. bind_good ExprQ (TokR (mark m.CloseParen)) close_paren_word on (expr_at (ctx t) room on) (λ e. close_paren e.1 >>= λ rest. Ok (e.0, rest)) (expr_good t room on)
      (λ x e. mapped_tokens (TokR (mark m.CloseParen)) (λ rest. x.0) x.1 (close_paren x.1) (close_paren_good x.1)))

  -- what a test says: a parenthesis, an expression, a parenthesis
  pub record Tested (t : ℕ) (ts rest : List Tok) : Type 0 where
    pub inside : List Tok
    pub tree : ExprT
    pub opened : ts ≡ mark m.OpenParen ∷ inside
    pub derived : Expr (ctx t) inside tree (mark m.CloseParen ∷ rest)

  tested : (t : ℕ) (ts rest : List Tok) → TestR ts rest → Tested t ts rest
  tested t ts rest x = let q = x.2 in let e = q.1 t in record { inside = x.0; tree = e.0; opened = x.1; derived = subst (λ (z : List Tok). Expr (ctx t) x.0 e.0 z) q.2 e.1 }

  -- ---- the rules

  abbrev pub StmtR : Rule
  StmtR ts rest = (t : ℕ) → (x : StmtT) × Stmt (ctx t) ts x rest

  abbrev pub StmtsR : Rule
  StmtsR ts rest = (t : ℕ) → (xs : List StmtT) × Stmts (ctx t) ts xs rest

  abbrev pub ArmR : Rule
  ArmR ts rest = (t : ℕ) → (x : ArmT) × Arm (ctx t) ts x rest

  abbrev pub ArmsR : Rule
  ArmsR ts rest = (t : ℕ) → (xs : List ArmT) × Arms (ctx t) ts xs rest

  pub stmts_repeat : Repeats StmtR StmtsR
  stmts_repeat = record { ends = λ ts t. ([], s.no_stmts); goes = λ ts mid rest x l t. let a = x t in let b = l t in (a.0 ∷ b.0, s.more_stmts a.1 b.1) }

  arms_repeat : Repeats ArmR ArmsR
  arms_repeat = record { ends = λ ts t. ([], s.no_arms); goes = λ ts mid rest x l t. let a = x t in let b = l t in (a.0 ∷ b.0, s.more_arms a.1 b.1) }

  empty_stmt : (after : List Tok) → StmtR (mark m.Semicolon ∷ after) after
  empty_stmt after t = (_, s.empty)

  pub stmt_word : Word StmtR
  stmt_word = record { tokens = mark m.Semicolon ∷ []; takes = λ after p. empty_stmt after; plain = λ after p. (refl, refl) }

  arm_word : Word ArmR
  arm_word = record { tokens = mark m.Semicolon ∷ []; takes = λ after p t. let x = empty_stmt after t in (_, s.arm_stmt x.1); plain = λ after p. (refl, refl) }

  pub stmts_word : Word StmtsR
  stmts_word = repeats_word StmtR StmtsR stmts_repeat

  arms_word : Word ArmsR
  arms_word = repeats_word ArmR ArmsR arms_repeat

  -- the statements at one less room
  pub record GoodBodies (t : ℕ) (r : Bodies) : Type 0 where
    pub stmt : (ts : List Tok) → Good StmtR ts (r.stmt ts)
    pub arm : (ts : List Tok) → Good ArmR ts (r.arm ts)
    pub stmts_take : TurnTakes (brace_turn r.stmt)
    pub arms_take : TurnTakes (brace_turn r.arm)

  -- ---- what the rules in a row make

  block_makes : (us mid ts rest : List Tok) → us ≡ mark m.OpenBrace ∷ ts → StmtsR ts mid → mid ≡ mark m.CloseBrace ∷ rest → StmtR us rest
  block_makes us mid ts rest e x f t = let a = x t in rw e (_, s.block (subst (λ (z : List Tok). Stmts (ctx t) ts a.0 z) f a.1))

  vars_makes : (ts mid rest : List Tok) → VarsR ts mid → mid ≡ mark m.Semicolon ∷ rest → StmtR ts rest
  vars_makes ts mid rest x f t = let a = x t in (_, s.vars (subst (λ (z : List Tok). Vars (ctx t) ts a.0 z) f a.1))

  expr_makes : (ts mid rest : List Tok) → ExprQ ts mid → mid ≡ mark m.Semicolon ∷ rest → StmtR ts rest
  expr_makes ts mid rest x f t = let a = x t in (_, s.expr (subst (λ (z : List Tok). Expr (ctx t) ts a.0 z) f a.1))

  while_makes : (us ts mid rest : List Tok) → us ≡ keyword key.While ∷ ts → TestR ts mid → StmtR mid rest → StmtR us rest
  while_makes us ts mid rest e x y t = let a = tested t ts mid x in let b = y t in rw (e, a.opened) (_, s.while a.derived b.1)

  do_makes : (us ts a b c rest : List Tok) → us ≡ keyword key.Do ∷ ts → StmtR ts a → a ≡ keyword key.While ∷ b → TestR b c → c ≡ mark m.Semicolon ∷ rest → StmtR us rest
  do_makes us ts a b c rest e x f y g t =
      let p = x t in let q = tested t b c y in
      rw e (_, s.do_while (subst (λ (z : List Tok). Stmt (ctx t) ts p.0 z) (f ∙ ap (λ (z : List Tok). keyword key.While ∷ z) q.opened) p.1) (subst (λ (z : List Tok). Expr (ctx t) q.inside q.tree (mark m.CloseParen ∷ z)) g q.derived))

  for_makes : (us ts on a b c d e f rest : List Tok) → us ≡ keyword key.For ∷ ts → ts ≡ mark m.OpenParen ∷ on → FirstR on a → a ≡ mark m.Semicolon ∷ b → MaybeR b c → c ≡ mark m.Semicolon ∷ d → MaybeR d e → e ≡ mark m.CloseParen ∷ f → StmtR f rest → StmtR us rest
  for_makes us ts on a b c d e f rest h i x j y k z l w t =
      let p = x t in let q = y t in let o = z t in let n = w t in
      rw (h, i) (_, s.for (subst (λ (u : List Tok). First (ctx t) on p.0 u) j p.1) (subst (λ (u : List Tok). Maybe (ctx t) b q.0 u) k q.1) (subst (λ (u : List Tok). Maybe (ctx t) d o.0 u) l o.1) n.1)

  switch_makes : (us ts a b c rest : List Tok) → us ≡ keyword key.Switch ∷ ts → TestR ts a → a ≡ mark m.OpenBrace ∷ b → ArmsR b c → c ≡ mark m.CloseBrace ∷ rest → StmtR us rest
  switch_makes us ts a b c rest e x f y g t =
      let p = tested t ts a x in let q = y t in
      rw (e, p.opened) (_, s.switch (subst (λ (z : List Tok). Expr (ctx t) p.inside p.tree (mark m.CloseParen ∷ z)) f p.derived) (subst (λ (z : List Tok). Arms (ctx t) b q.0 z) g q.1))

  return_makes : (us ts a rest : List Tok) → us ≡ keyword key.Return ∷ ts → MaybeR ts a → a ≡ mark m.Semicolon ∷ rest → StmtR us rest
  return_makes us ts a rest e x f t = let p = x t in rw e (_, s.return (subst (λ (z : List Tok). Maybe (ctx t) ts p.0 z) f p.1))

  break_makes : (us ts rest : List Tok) → us ≡ keyword key.Break ∷ ts → ts ≡ mark m.Semicolon ∷ rest → StmtR us rest
  break_makes us ts rest e f t = rw (e, f) (_, s.break)

  continue_makes : (us ts rest : List Tok) → us ≡ keyword key.Continue ∷ ts → ts ≡ mark m.Semicolon ∷ rest → StmtR us rest
  continue_makes us ts rest e f t = rw (e, f) (_, s.continue)

  case_makes : (us ts a rest : List Tok) → us ≡ keyword key.Case ∷ ts → LevelQ ts a → a ≡ mark m.Colon ∷ rest → ArmR us rest
  case_makes us ts a rest e x f t = let p = x t in rw e (_, s.case (subst (λ (z : List Tok). Level (ctx t) 10 ts p.0 z) f p.1))

  default_makes : (us ts rest : List Tok) → us ≡ keyword key.Default ∷ ts → ts ≡ mark m.Colon ∷ rest → ArmR us rest
  default_makes us ts rest e f t = rw (e, f) (_, s.default)

  stmt_arm : Implies StmtR ArmR
  stmt_arm us vs x t = let y = x t in (_, s.arm_stmt y.1)

  ElseR : Rule
  ElseR = Seq (TokR (keyword key.Else)) StmtR

  -- an `else`, or none before what begins with none
  IfRestR : Rule
  IfRestR ts rest = ((ts ≡ rest) × (at_else_word rest ≡ false)) ⊎ Seq (TokR (keyword key.Else)) StmtR ts rest

  if_rest_word : Word IfRestR
  unfolding IfRestR
  if_rest_word = record { tokens = []; takes = λ after p. inl (refl, p.0); plain = λ after p. p }

  if_makes : (us ts a b rest : List Tok) → us ≡ keyword key.If ∷ ts → TestR ts a → StmtR a b → IfRestR b rest → StmtR us rest
  unfolding IfRestR
  if_makes us ts a b rest e x y (inl f) t = let p = tested t ts a x in let q = y t in rw (e, p.opened) (_, s.if_only p.derived (subst (λ (z : List Tok). Stmt (ctx t) a q.0 z) f.0 q.1) (no_else rest f.1))
  if_makes us ts a b rest e x y (inr f) t = let p = tested t ts a x in let q = y t in let o = f.2 t in rw (e, p.opened) (_, s.if_else p.derived (subst (λ (z : List Tok). Stmt (ctx t) a q.0 z) f.1 q.1) o.1)

  block_rule : Implies (Seq (TokR (mark m.OpenBrace)) (Seq StmtsR (TokR (mark m.CloseBrace)))) StmtR
  block_rule us rest x = block_makes us x.2.0 x.0 rest x.1 x.2.1 x.2.2

  while_rule : Implies (Seq (TokR (keyword key.While)) (Seq TestR StmtR)) StmtR
  while_rule us rest x = while_makes us x.0 x.2.0 rest x.1 x.2.1 x.2.2

  do_rule : Implies (Seq (TokR (keyword key.Do)) (Seq StmtR (Seq (TokR (keyword key.While)) (Seq TestR (TokR (mark m.Semicolon)))))) StmtR
  do_rule us rest x = do_makes us x.0 x.2.0 x.2.2.0 x.2.2.2.0 rest x.1 x.2.1 x.2.2.1 x.2.2.2.1 x.2.2.2.2

  for_rule : Implies (Seq (TokR (keyword key.For)) (Seq (TokR (mark m.OpenParen)) (Seq FirstR (Seq (TokR (mark m.Semicolon)) (Seq MaybeR (Seq (TokR (mark m.Semicolon)) (Seq MaybeR (Seq (TokR (mark m.CloseParen)) StmtR)))))))) StmtR
  for_rule us rest x = for_makes us x.0 x.2.0 x.2.2.0 x.2.2.2.0 x.2.2.2.2.0 x.2.2.2.2.2.0 x.2.2.2.2.2.2.0 x.2.2.2.2.2.2.2.0 rest x.1 x.2.1 x.2.2.1 x.2.2.2.1 x.2.2.2.2.1 x.2.2.2.2.2.1 x.2.2.2.2.2.2.1 x.2.2.2.2.2.2.2.1 x.2.2.2.2.2.2.2.2

  switch_rule : Implies (Seq (TokR (keyword key.Switch)) (Seq TestR (Seq (TokR (mark m.OpenBrace)) (Seq ArmsR (TokR (mark m.CloseBrace)))))) StmtR
  switch_rule us rest x = switch_makes us x.0 x.2.0 x.2.2.0 x.2.2.2.0 rest x.1 x.2.1 x.2.2.1 x.2.2.2.1 x.2.2.2.2

  return_rule : Implies (Seq (TokR (keyword key.Return)) (Seq MaybeR (TokR (mark m.Semicolon)))) StmtR
  return_rule us rest x = return_makes us x.0 x.2.0 rest x.1 x.2.1 x.2.2

  break_rule : Implies (Seq (TokR (keyword key.Break)) (TokR (mark m.Semicolon))) StmtR
  break_rule us rest x = break_makes us x.0 rest x.1 x.2

  continue_rule : Implies (Seq (TokR (keyword key.Continue)) (TokR (mark m.Semicolon))) StmtR
  continue_rule us rest x = continue_makes us x.0 rest x.1 x.2

  case_rule : Implies (Seq (TokR (keyword key.Case)) (Seq LevelQ (TokR (mark m.Colon)))) ArmR
  case_rule us rest x = case_makes us x.0 x.2.0 rest x.1 x.2.1 x.2.2

  default_rule : Implies (Seq (TokR (keyword key.Default)) (TokR (mark m.Colon))) ArmR
  default_rule us rest x = default_makes us x.0 rest x.1 x.2

  if_rule : Implies (Seq (TokR (keyword key.If)) (Seq TestR (Seq StmtR IfRestR))) StmtR
  if_rule us rest x = if_makes us x.0 x.2.0 x.2.2.0 rest x.1 x.2.1 x.2.2.1 x.2.2.2

  module _ (t room : ℕ) (r : Bodies) (all : GoodBodies t r) where
    block_good_1 : (at : List Tok) (ss : List StmtT) (ts : List Tok) → Good (TokR (mark m.CloseBrace)) ts (close_brace ts >>= λ g1. Ok (BlockS (stmts ss) (span (ctx t) at g1), g1))
    block_good_1 at ss ts = mapped_tokens (TokR (mark m.CloseBrace)) (λ got. BlockS (stmts ss) (span (ctx t) at got)) ts (close_brace ts) (close_brace_good ts)

    block_good_0 : (at : List Tok) (ts : List Tok) → Good (Seq StmtsR (TokR (mark m.CloseBrace))) ts (braced r.stmt ts >>= λ g0. close_brace g0.1 >>= λ g1. Ok (BlockS (stmts g0.0) (span (ctx t) at g1), g1))
    block_good_0 at ts = bind_good StmtsR (TokR (mark m.CloseBrace)) close_brace_word ts (braced r.stmt ts) (λ g0. close_brace g0.1 >>= λ g1. Ok (BlockS (stmts g0.0) (span (ctx t) at g1), g1)) (braced_good StmtR StmtsR stmts_repeat r.stmt all.stmt all.stmts_take ts) (λ got met. block_good_1 at got.0 got.1)

    vars_stmt_good_1 : (at : List Tok) (vs : List VarT) (ts : List Tok) → Good (TokR (mark m.Semicolon)) ts (semicolon ts >>= λ g1. Ok (VarsS vs (span (ctx t) at g1), g1))
    vars_stmt_good_1 at vs ts = mapped_tokens (TokR (mark m.Semicolon)) (λ got. VarsS vs (span (ctx t) at got)) ts (semicolon ts) (semicolon_good ts)

    vars_stmt_good_0 : (at : List Tok) (ts : List Tok) → Good (Seq VarsR (TokR (mark m.Semicolon))) ts (vars_at (ctx t) room ts >>= λ g0. semicolon g0.1 >>= λ g1. Ok (VarsS g0.0 (span (ctx t) at g1), g1))
    vars_stmt_good_0 at ts = bind_good VarsR (TokR (mark m.Semicolon)) semicolon_word ts (vars_at (ctx t) room ts) (λ g0. semicolon g0.1 >>= λ g1. Ok (VarsS g0.0 (span (ctx t) at g1), g1)) (vars_good types fresh is_fresh t room ts) (λ got met. vars_stmt_good_1 at got.0 got.1)

    while_good_1 : (at : List Tok) (e : ExprT) (ts : List Tok) → Good StmtR ts (r.stmt ts >>= λ g1. Ok (WhileS e g1.0 (span (ctx t) at g1.1), g1.1))
    while_good_1 at e ts = mapped_good StmtR (λ got. WhileS e got.0 (span (ctx t) at got.1)) ts (r.stmt ts) (all.stmt ts)

    while_good_0 : (at : List Tok) (ts : List Tok) → Good (Seq TestR StmtR) ts (test_at (ctx t) room ts >>= λ g0. r.stmt g0.1 >>= λ g1. Ok (WhileS g0.0 g1.0 (span (ctx t) at g1.1), g1.1))
    while_good_0 at ts = bind_good TestR StmtR stmt_word ts (test_at (ctx t) room ts) (λ g0. r.stmt g0.1 >>= λ g1. Ok (WhileS g0.0 g1.0 (span (ctx t) at g1.1), g1.1)) (test_good t room ts) (λ got met. while_good_1 at got.0 got.1)

    do_good_3 : (at : List Tok) (s1 : StmtT) (e : ExprT) (ts : List Tok) → Good (TokR (mark m.Semicolon)) ts (semicolon ts >>= λ g3. Ok (DoWhileS s1 e (span (ctx t) at g3), g3))
    do_good_3 at s1 e ts = mapped_tokens (TokR (mark m.Semicolon)) (λ got. DoWhileS s1 e (span (ctx t) at got)) ts (semicolon ts) (semicolon_good ts)

    do_good_2 : (at : List Tok) (s1 : StmtT) (ts : List Tok) → Good (Seq TestR (TokR (mark m.Semicolon))) ts (test_at (ctx t) room ts >>= λ g2. semicolon g2.1 >>= λ g3. Ok (DoWhileS s1 g2.0 (span (ctx t) at g3), g3))
    do_good_2 at s1 ts = bind_good TestR (TokR (mark m.Semicolon)) semicolon_word ts (test_at (ctx t) room ts) (λ g2. semicolon g2.1 >>= λ g3. Ok (DoWhileS s1 g2.0 (span (ctx t) at g3), g3)) (test_good t room ts) (λ got met. do_good_3 at s1 got.0 got.1)

    do_good_1 : (at : List Tok) (s1 : StmtT) (ts : List Tok) → Good (Seq (TokR (keyword key.While)) (Seq TestR (TokR (mark m.Semicolon)))) ts (while_word ts >>= λ g1. test_at (ctx t) room g1 >>= λ g2. semicolon g2.1 >>= λ g3. Ok (DoWhileS s1 g2.0 (span (ctx t) at g3), g3))
    do_good_1 at s1 ts = bind_good_tokens (TokR (keyword key.While)) (Seq TestR (TokR (mark m.Semicolon))) (seq_word TestR (TokR (mark m.Semicolon)) test_word semicolon_word) ts (while_word ts) (λ g1. test_at (ctx t) room g1 >>= λ g2. semicolon g2.1 >>= λ g3. Ok (DoWhileS s1 g2.0 (span (ctx t) at g3), g3)) (while_word_good ts) (λ rest. do_good_2 at s1 rest)

    do_good_0 : (at : List Tok) (ts : List Tok) → Good (Seq StmtR (Seq (TokR (keyword key.While)) (Seq TestR (TokR (mark m.Semicolon))))) ts (r.stmt ts >>= λ g0. while_word g0.1 >>= λ g1. test_at (ctx t) room g1 >>= λ g2. semicolon g2.1 >>= λ g3. Ok (DoWhileS g0.0 g2.0 (span (ctx t) at g3), g3))
    do_good_0 at ts = bind_good StmtR (Seq (TokR (keyword key.While)) (Seq TestR (TokR (mark m.Semicolon)))) (seq_word (TokR (keyword key.While)) (Seq TestR (TokR (mark m.Semicolon))) while_tok_word (seq_word TestR (TokR (mark m.Semicolon)) test_word semicolon_word)) ts (r.stmt ts) (λ g0. while_word g0.1 >>= λ g1. test_at (ctx t) room g1 >>= λ g2. semicolon g2.1 >>= λ g3. Ok (DoWhileS g0.0 g2.0 (span (ctx t) at g3), g3)) (all.stmt ts) (λ got met. do_good_1 at got.0 got.1)

    for_good_7 : (at : List Tok) (f : MaybeS) (x : Option ExprT) (y : Option ExprT) (ts : List Tok) → Good StmtR ts (r.stmt ts >>= λ g7. Ok (ForS f x y g7.0 (span (ctx t) at g7.1), g7.1))
    for_good_7 at f x y ts = mapped_good StmtR (λ got. ForS f x y got.0 (span (ctx t) at got.1)) ts (r.stmt ts) (all.stmt ts)

    for_good_6 : (at : List Tok) (f : MaybeS) (x : Option ExprT) (y : Option ExprT) (ts : List Tok) → Good (Seq (TokR (mark m.CloseParen)) StmtR) ts (close_paren ts >>= λ g6. r.stmt g6 >>= λ g7. Ok (ForS f x y g7.0 (span (ctx t) at g7.1), g7.1))
    for_good_6 at f x y ts = bind_good_tokens (TokR (mark m.CloseParen)) StmtR stmt_word ts (close_paren ts) (λ g6. r.stmt g6 >>= λ g7. Ok (ForS f x y g7.0 (span (ctx t) at g7.1), g7.1)) (close_paren_good ts) (λ rest. for_good_7 at f x y rest)

    for_good_5 : (at : List Tok) (f : MaybeS) (x : Option ExprT) (ts : List Tok) → Good (Seq MaybeR (Seq (TokR (mark m.CloseParen)) StmtR)) ts (maybe_at (ctx t) room ts >>= λ g5. close_paren g5.1 >>= λ g6. r.stmt g6 >>= λ g7. Ok (ForS f x g5.0 g7.0 (span (ctx t) at g7.1), g7.1))
    for_good_5 at f x ts = bind_good MaybeR (Seq (TokR (mark m.CloseParen)) StmtR) (seq_word (TokR (mark m.CloseParen)) StmtR close_paren_word stmt_word) ts (maybe_at (ctx t) room ts) (λ g5. close_paren g5.1 >>= λ g6. r.stmt g6 >>= λ g7. Ok (ForS f x g5.0 g7.0 (span (ctx t) at g7.1), g7.1)) (maybe_good t room ts) (λ got met. for_good_6 at f x got.0 got.1)

    for_good_4 : (at : List Tok) (f : MaybeS) (x : Option ExprT) (ts : List Tok) → Good (Seq (TokR (mark m.Semicolon)) (Seq MaybeR (Seq (TokR (mark m.CloseParen)) StmtR))) ts (semicolon ts >>= λ g4. maybe_at (ctx t) room g4 >>= λ g5. close_paren g5.1 >>= λ g6. r.stmt g6 >>= λ g7. Ok (ForS f x g5.0 g7.0 (span (ctx t) at g7.1), g7.1))
    for_good_4 at f x ts = bind_good_tokens (TokR (mark m.Semicolon)) (Seq MaybeR (Seq (TokR (mark m.CloseParen)) StmtR)) (seq_word MaybeR (Seq (TokR (mark m.CloseParen)) StmtR) maybe_word (seq_word (TokR (mark m.CloseParen)) StmtR close_paren_word stmt_word)) ts (semicolon ts) (λ g4. maybe_at (ctx t) room g4 >>= λ g5. close_paren g5.1 >>= λ g6. r.stmt g6 >>= λ g7. Ok (ForS f x g5.0 g7.0 (span (ctx t) at g7.1), g7.1)) (semicolon_good ts) (λ rest. for_good_5 at f x rest)

    for_good_3 : (at : List Tok) (f : MaybeS) (ts : List Tok) → Good (Seq MaybeR (Seq (TokR (mark m.Semicolon)) (Seq MaybeR (Seq (TokR (mark m.CloseParen)) StmtR)))) ts (maybe_at (ctx t) room ts >>= λ g3. semicolon g3.1 >>= λ g4. maybe_at (ctx t) room g4 >>= λ g5. close_paren g5.1 >>= λ g6. r.stmt g6 >>= λ g7. Ok (ForS f g3.0 g5.0 g7.0 (span (ctx t) at g7.1), g7.1))
    for_good_3 at f ts = bind_good MaybeR (Seq (TokR (mark m.Semicolon)) (Seq MaybeR (Seq (TokR (mark m.CloseParen)) StmtR))) (seq_word (TokR (mark m.Semicolon)) (Seq MaybeR (Seq (TokR (mark m.CloseParen)) StmtR)) semicolon_word (seq_word MaybeR (Seq (TokR (mark m.CloseParen)) StmtR) maybe_word (seq_word (TokR (mark m.CloseParen)) StmtR close_paren_word stmt_word))) ts (maybe_at (ctx t) room ts) (λ g3. semicolon g3.1 >>= λ g4. maybe_at (ctx t) room g4 >>= λ g5. close_paren g5.1 >>= λ g6. r.stmt g6 >>= λ g7. Ok (ForS f g3.0 g5.0 g7.0 (span (ctx t) at g7.1), g7.1)) (maybe_good t room ts) (λ got met. for_good_4 at f got.0 got.1)

    for_good_2 : (at : List Tok) (f : MaybeS) (ts : List Tok) → Good (Seq (TokR (mark m.Semicolon)) (Seq MaybeR (Seq (TokR (mark m.Semicolon)) (Seq MaybeR (Seq (TokR (mark m.CloseParen)) StmtR))))) ts (semicolon ts >>= λ g2. maybe_at (ctx t) room g2 >>= λ g3. semicolon g3.1 >>= λ g4. maybe_at (ctx t) room g4 >>= λ g5. close_paren g5.1 >>= λ g6. r.stmt g6 >>= λ g7. Ok (ForS f g3.0 g5.0 g7.0 (span (ctx t) at g7.1), g7.1))
    for_good_2 at f ts = bind_good_tokens (TokR (mark m.Semicolon)) (Seq MaybeR (Seq (TokR (mark m.Semicolon)) (Seq MaybeR (Seq (TokR (mark m.CloseParen)) StmtR)))) (seq_word MaybeR (Seq (TokR (mark m.Semicolon)) (Seq MaybeR (Seq (TokR (mark m.CloseParen)) StmtR))) maybe_word (seq_word (TokR (mark m.Semicolon)) (Seq MaybeR (Seq (TokR (mark m.CloseParen)) StmtR)) semicolon_word (seq_word MaybeR (Seq (TokR (mark m.CloseParen)) StmtR) maybe_word (seq_word (TokR (mark m.CloseParen)) StmtR close_paren_word stmt_word)))) ts (semicolon ts) (λ g2. maybe_at (ctx t) room g2 >>= λ g3. semicolon g3.1 >>= λ g4. maybe_at (ctx t) room g4 >>= λ g5. close_paren g5.1 >>= λ g6. r.stmt g6 >>= λ g7. Ok (ForS f g3.0 g5.0 g7.0 (span (ctx t) at g7.1), g7.1)) (semicolon_good ts) (λ rest. for_good_3 at f rest)

    for_good_1 : (at : List Tok) (ts : List Tok) → Good (Seq FirstR (Seq (TokR (mark m.Semicolon)) (Seq MaybeR (Seq (TokR (mark m.Semicolon)) (Seq MaybeR (Seq (TokR (mark m.CloseParen)) StmtR)))))) ts (first_at (ctx t) room ts >>= λ g1. semicolon g1.1 >>= λ g2. maybe_at (ctx t) room g2 >>= λ g3. semicolon g3.1 >>= λ g4. maybe_at (ctx t) room g4 >>= λ g5. close_paren g5.1 >>= λ g6. r.stmt g6 >>= λ g7. Ok (ForS g1.0 g3.0 g5.0 g7.0 (span (ctx t) at g7.1), g7.1))
    for_good_1 at ts = bind_good FirstR (Seq (TokR (mark m.Semicolon)) (Seq MaybeR (Seq (TokR (mark m.Semicolon)) (Seq MaybeR (Seq (TokR (mark m.CloseParen)) StmtR))))) (seq_word (TokR (mark m.Semicolon)) (Seq MaybeR (Seq (TokR (mark m.Semicolon)) (Seq MaybeR (Seq (TokR (mark m.CloseParen)) StmtR)))) semicolon_word (seq_word MaybeR (Seq (TokR (mark m.Semicolon)) (Seq MaybeR (Seq (TokR (mark m.CloseParen)) StmtR))) maybe_word (seq_word (TokR (mark m.Semicolon)) (Seq MaybeR (Seq (TokR (mark m.CloseParen)) StmtR)) semicolon_word (seq_word MaybeR (Seq (TokR (mark m.CloseParen)) StmtR) maybe_word (seq_word (TokR (mark m.CloseParen)) StmtR close_paren_word stmt_word))))) ts (first_at (ctx t) room ts) (λ g1. semicolon g1.1 >>= λ g2. maybe_at (ctx t) room g2 >>= λ g3. semicolon g3.1 >>= λ g4. maybe_at (ctx t) room g4 >>= λ g5. close_paren g5.1 >>= λ g6. r.stmt g6 >>= λ g7. Ok (ForS g1.0 g3.0 g5.0 g7.0 (span (ctx t) at g7.1), g7.1)) (first_good t room ts) (λ got met. for_good_2 at got.0 got.1)

    for_good_0 : (at : List Tok) (ts : List Tok) → Good (Seq (TokR (mark m.OpenParen)) (Seq FirstR (Seq (TokR (mark m.Semicolon)) (Seq MaybeR (Seq (TokR (mark m.Semicolon)) (Seq MaybeR (Seq (TokR (mark m.CloseParen)) StmtR))))))) ts (open_paren ts >>= λ g0. first_at (ctx t) room g0 >>= λ g1. semicolon g1.1 >>= λ g2. maybe_at (ctx t) room g2 >>= λ g3. semicolon g3.1 >>= λ g4. maybe_at (ctx t) room g4 >>= λ g5. close_paren g5.1 >>= λ g6. r.stmt g6 >>= λ g7. Ok (ForS g1.0 g3.0 g5.0 g7.0 (span (ctx t) at g7.1), g7.1))
    for_good_0 at ts = bind_good_tokens (TokR (mark m.OpenParen)) (Seq FirstR (Seq (TokR (mark m.Semicolon)) (Seq MaybeR (Seq (TokR (mark m.Semicolon)) (Seq MaybeR (Seq (TokR (mark m.CloseParen)) StmtR)))))) (seq_word FirstR (Seq (TokR (mark m.Semicolon)) (Seq MaybeR (Seq (TokR (mark m.Semicolon)) (Seq MaybeR (Seq (TokR (mark m.CloseParen)) StmtR))))) first_word (seq_word (TokR (mark m.Semicolon)) (Seq MaybeR (Seq (TokR (mark m.Semicolon)) (Seq MaybeR (Seq (TokR (mark m.CloseParen)) StmtR)))) semicolon_word (seq_word MaybeR (Seq (TokR (mark m.Semicolon)) (Seq MaybeR (Seq (TokR (mark m.CloseParen)) StmtR))) maybe_word (seq_word (TokR (mark m.Semicolon)) (Seq MaybeR (Seq (TokR (mark m.CloseParen)) StmtR)) semicolon_word (seq_word MaybeR (Seq (TokR (mark m.CloseParen)) StmtR) maybe_word (seq_word (TokR (mark m.CloseParen)) StmtR close_paren_word stmt_word)))))) ts (open_paren ts) (λ g0. first_at (ctx t) room g0 >>= λ g1. semicolon g1.1 >>= λ g2. maybe_at (ctx t) room g2 >>= λ g3. semicolon g3.1 >>= λ g4. maybe_at (ctx t) room g4 >>= λ g5. close_paren g5.1 >>= λ g6. r.stmt g6 >>= λ g7. Ok (ForS g1.0 g3.0 g5.0 g7.0 (span (ctx t) at g7.1), g7.1)) (open_paren_good ts) (λ rest. for_good_1 at rest)

    switch_good_3 : (at : List Tok) (e : ExprT) (xs : List ArmT) (ts : List Tok) → Good (TokR (mark m.CloseBrace)) ts (close_brace ts >>= λ g3. Ok (SwitchS e (arms xs) (span (ctx t) at g3), g3))
    switch_good_3 at e xs ts = mapped_tokens (TokR (mark m.CloseBrace)) (λ got. SwitchS e (arms xs) (span (ctx t) at got)) ts (close_brace ts) (close_brace_good ts)

    switch_good_2 : (at : List Tok) (e : ExprT) (ts : List Tok) → Good (Seq ArmsR (TokR (mark m.CloseBrace))) ts (braced r.arm ts >>= λ g2. close_brace g2.1 >>= λ g3. Ok (SwitchS e (arms g2.0) (span (ctx t) at g3), g3))
    switch_good_2 at e ts = bind_good ArmsR (TokR (mark m.CloseBrace)) close_brace_word ts (braced r.arm ts) (λ g2. close_brace g2.1 >>= λ g3. Ok (SwitchS e (arms g2.0) (span (ctx t) at g3), g3)) (braced_good ArmR ArmsR arms_repeat r.arm all.arm all.arms_take ts) (λ got met. switch_good_3 at e got.0 got.1)

    switch_good_1 : (at : List Tok) (e : ExprT) (ts : List Tok) → Good (Seq (TokR (mark m.OpenBrace)) (Seq ArmsR (TokR (mark m.CloseBrace)))) ts (open_brace ts >>= λ g1. braced r.arm g1 >>= λ g2. close_brace g2.1 >>= λ g3. Ok (SwitchS e (arms g2.0) (span (ctx t) at g3), g3))
    switch_good_1 at e ts = bind_good_tokens (TokR (mark m.OpenBrace)) (Seq ArmsR (TokR (mark m.CloseBrace))) (seq_word ArmsR (TokR (mark m.CloseBrace)) arms_word close_brace_word) ts (open_brace ts) (λ g1. braced r.arm g1 >>= λ g2. close_brace g2.1 >>= λ g3. Ok (SwitchS e (arms g2.0) (span (ctx t) at g3), g3)) (open_brace_good ts) (λ rest. switch_good_2 at e rest)

    switch_good_0 : (at : List Tok) (ts : List Tok) → Good (Seq TestR (Seq (TokR (mark m.OpenBrace)) (Seq ArmsR (TokR (mark m.CloseBrace))))) ts (test_at (ctx t) room ts >>= λ g0. open_brace g0.1 >>= λ g1. braced r.arm g1 >>= λ g2. close_brace g2.1 >>= λ g3. Ok (SwitchS g0.0 (arms g2.0) (span (ctx t) at g3), g3))
    switch_good_0 at ts = bind_good TestR (Seq (TokR (mark m.OpenBrace)) (Seq ArmsR (TokR (mark m.CloseBrace)))) (seq_word (TokR (mark m.OpenBrace)) (Seq ArmsR (TokR (mark m.CloseBrace))) open_brace_word (seq_word ArmsR (TokR (mark m.CloseBrace)) arms_word close_brace_word)) ts (test_at (ctx t) room ts) (λ g0. open_brace g0.1 >>= λ g1. braced r.arm g1 >>= λ g2. close_brace g2.1 >>= λ g3. Ok (SwitchS g0.0 (arms g2.0) (span (ctx t) at g3), g3)) (test_good t room ts) (λ got met. switch_good_1 at got.0 got.1)

    return_good_1 : (at : List Tok) (x : Option ExprT) (ts : List Tok) → Good (TokR (mark m.Semicolon)) ts (semicolon ts >>= λ g1. Ok (ReturnS x (span (ctx t) at g1), g1))
    return_good_1 at x ts = mapped_tokens (TokR (mark m.Semicolon)) (λ got. ReturnS x (span (ctx t) at got)) ts (semicolon ts) (semicolon_good ts)

    return_good_0 : (at : List Tok) (ts : List Tok) → Good (Seq MaybeR (TokR (mark m.Semicolon))) ts (maybe_at (ctx t) room ts >>= λ g0. semicolon g0.1 >>= λ g1. Ok (ReturnS g0.0 (span (ctx t) at g1), g1))
    return_good_0 at ts = bind_good MaybeR (TokR (mark m.Semicolon)) semicolon_word ts (maybe_at (ctx t) room ts) (λ g0. semicolon g0.1 >>= λ g1. Ok (ReturnS g0.0 (span (ctx t) at g1), g1)) (maybe_good t room ts) (λ got met. return_good_1 at got.0 got.1)

    break_good_0 : (at : List Tok) (ts : List Tok) → Good (TokR (mark m.Semicolon)) ts (semicolon ts >>= λ g0. Ok (BreakS (span (ctx t) at g0), g0))
    break_good_0 at ts = mapped_tokens (TokR (mark m.Semicolon)) (λ got. BreakS (span (ctx t) at got)) ts (semicolon ts) (semicolon_good ts)

    continue_good_0 : (at : List Tok) (ts : List Tok) → Good (TokR (mark m.Semicolon)) ts (semicolon ts >>= λ g0. Ok (ContinueS (span (ctx t) at g0), g0))
    continue_good_0 at ts = mapped_tokens (TokR (mark m.Semicolon)) (λ got. ContinueS (span (ctx t) at got)) ts (semicolon ts) (semicolon_good ts)

    expr_stmt_good_1 : (at : List Tok) (e : ExprT) (ts : List Tok) → Good (TokR (mark m.Semicolon)) ts (semicolon ts >>= λ g1. Ok (DoS e, g1))
    expr_stmt_good_1 at e ts = mapped_tokens (TokR (mark m.Semicolon)) (λ got. DoS e) ts (semicolon ts) (semicolon_good ts)

    expr_stmt_good_0 : (at : List Tok) (ts : List Tok) → Good (Seq ExprQ (TokR (mark m.Semicolon))) ts (expr_at (ctx t) room ts >>= λ g0. semicolon g0.1 >>= λ g1. Ok (DoS g0.0, g1))
    expr_stmt_good_0 at ts = bind_good ExprQ (TokR (mark m.Semicolon)) semicolon_word ts (expr_at (ctx t) room ts) (λ g0. semicolon g0.1 >>= λ g1. Ok (DoS g0.0, g1)) (expr_good t room ts) (λ got met. expr_stmt_good_1 at got.0 got.1)

    case_good_1 : (at : List Tok) (e : ExprT) (ts : List Tok) → Good (TokR (mark m.Colon)) ts (colon ts >>= λ g1. Ok (CaseA e (span (ctx t) at g1), g1))
    case_good_1 at e ts = mapped_tokens (TokR (mark m.Colon)) (λ got. CaseA e (span (ctx t) at got)) ts (colon ts) (colon_good ts)

    case_good_0 : (at : List Tok) (ts : List Tok) → Good (Seq LevelQ (TokR (mark m.Colon))) ts (level_at (ctx t) room 10 ts >>= λ g0. colon g0.1 >>= λ g1. Ok (CaseA g0.0 (span (ctx t) at g1), g1))
    case_good_0 at ts = bind_good LevelQ (TokR (mark m.Colon)) colon_word ts (level_at (ctx t) room 10 ts) (λ g0. colon g0.1 >>= λ g1. Ok (CaseA g0.0 (span (ctx t) at g1), g1)) (level_read_good types fresh is_fresh t room ts) (λ got met. case_good_1 at got.0 got.1)

    default_good_0 : (at : List Tok) (ts : List Tok) → Good (TokR (mark m.Colon)) ts (colon ts >>= λ g0. Ok (DefaultA (span (ctx t) at g0), g0))
    default_good_0 at ts = mapped_tokens (TokR (mark m.Colon)) (λ got. DefaultA (span (ctx t) at got)) ts (colon ts) (colon_good ts)

    arm_stmt_good_0 : (at : List Tok) (ts : List Tok) → Good StmtR ts (r.stmt ts >>= λ g0. Ok (StmtA g0.0, g0.1))
    arm_stmt_good_0 at ts = mapped_good StmtR (λ got. StmtA got.0) ts (r.stmt ts) (all.stmt ts)

    -- `if`, and an `else` or none

    if_rest_good : (at : List Tok) (e : ExprT) (x : StmtT) (ts : List Tok) (b : Bool) → at_else_word ts ≡ b → Good IfRestR ts (if_by (ctx t) r at e x ts b)
    unfolding IfRestR
    if_rest_good at e x ts false h = record { part = []; is = refl; any = λ after w. inl (refl, fits_no_else ts after h w) }
    if_rest_good at e x [] true h = absurd cc
    if_rest_good at e x (o ∷ ts) true h = rw (else_word_is o h) (widen (Seq (TokR (keyword key.Else)) StmtR) IfRestR (λ us vs y. inr y) (keyword key.Else ∷ ts) _ (good_behind (TokR (keyword key.Else)) StmtR (keyword key.Else ∷ ts) ts _ (token_frame (keyword key.Else) ts)
        (mapped_good StmtR (λ z. IfS e x (SomeS z.0) (span (ctx t) at z.1)) ts (r.stmt ts) (all.stmt ts))))

    then_good : (at : List Tok) (e : ExprT) (ts : List Tok) → Good (Seq StmtR IfRestR) ts (r.stmt ts >>= λ x. if_by (ctx t) r at e x.0 x.1 (at_else_word x.1))
    then_good at e ts = bind_good StmtR IfRestR if_rest_word ts (r.stmt ts) (λ x. if_by (ctx t) r at e x.0 x.1 (at_else_word x.1)) (all.stmt ts) (λ x met. if_rest_good at e x.0 x.1 (at_else_word x.1) refl)

    if_good : (at ts : List Tok) → Good (Seq TestR (Seq StmtR IfRestR)) ts (test_at (ctx t) room ts >>= λ e. r.stmt e.1 >>= λ x. if_by (ctx t) r at e.0 x.0 x.1 (at_else_word x.1))
    if_good at ts = bind_good TestR (Seq StmtR IfRestR) (seq_word StmtR IfRestR stmt_word if_rest_word) ts (test_at (ctx t) room ts) (λ e. r.stmt e.1 >>= λ x. if_by (ctx t) r at e.0 x.0 x.1 (at_else_word x.1)) (test_good t room ts) (λ e met. then_good at e.0 e.1)

    stmt_good_by : (ts : List Tok) (l : StmtLead) → StmtIs (ctx t) ts l → Good StmtR ts (stmt_by (ctx t) room r ts l)
    stmt_good_by _ _ (told.block {ts = ts}) = widen (Seq (TokR (mark m.OpenBrace)) (Seq StmtsR (TokR (mark m.CloseBrace)))) StmtR block_rule (mark m.OpenBrace ∷ ts) _ (good_behind (TokR (mark m.OpenBrace)) (Seq StmtsR (TokR (mark m.CloseBrace))) (mark m.OpenBrace ∷ ts) ts _ (token_frame (mark m.OpenBrace) ts) (block_good_0 (mark m.OpenBrace ∷ ts) ts))
    stmt_good_by _ _ (told.while_ {ts = ts}) = widen (Seq (TokR (keyword key.While)) (Seq TestR StmtR)) StmtR while_rule (keyword key.While ∷ ts) _ (good_behind (TokR (keyword key.While)) (Seq TestR StmtR) (keyword key.While ∷ ts) ts _ (token_frame (keyword key.While) ts) (while_good_0 (keyword key.While ∷ ts) ts))
    stmt_good_by _ _ (told.do_ {ts = ts}) = widen (Seq (TokR (keyword key.Do)) (Seq StmtR (Seq (TokR (keyword key.While)) (Seq TestR (TokR (mark m.Semicolon)))))) StmtR do_rule (keyword key.Do ∷ ts) _ (good_behind (TokR (keyword key.Do)) (Seq StmtR (Seq (TokR (keyword key.While)) (Seq TestR (TokR (mark m.Semicolon))))) (keyword key.Do ∷ ts) ts _ (token_frame (keyword key.Do) ts) (do_good_0 (keyword key.Do ∷ ts) ts))
    stmt_good_by _ _ (told.for_ {ts = ts}) = widen (Seq (TokR (keyword key.For)) (Seq (TokR (mark m.OpenParen)) (Seq FirstR (Seq (TokR (mark m.Semicolon)) (Seq MaybeR (Seq (TokR (mark m.Semicolon)) (Seq MaybeR (Seq (TokR (mark m.CloseParen)) StmtR)))))))) StmtR for_rule (keyword key.For ∷ ts) _ (good_behind (TokR (keyword key.For)) (Seq (TokR (mark m.OpenParen)) (Seq FirstR (Seq (TokR (mark m.Semicolon)) (Seq MaybeR (Seq (TokR (mark m.Semicolon)) (Seq MaybeR (Seq (TokR (mark m.CloseParen)) StmtR))))))) (keyword key.For ∷ ts) ts _ (token_frame (keyword key.For) ts) (for_good_0 (keyword key.For ∷ ts) ts))
    stmt_good_by _ _ (told.switch_ {ts = ts}) = widen (Seq (TokR (keyword key.Switch)) (Seq TestR (Seq (TokR (mark m.OpenBrace)) (Seq ArmsR (TokR (mark m.CloseBrace)))))) StmtR switch_rule (keyword key.Switch ∷ ts) _ (good_behind (TokR (keyword key.Switch)) (Seq TestR (Seq (TokR (mark m.OpenBrace)) (Seq ArmsR (TokR (mark m.CloseBrace))))) (keyword key.Switch ∷ ts) ts _ (token_frame (keyword key.Switch) ts) (switch_good_0 (keyword key.Switch ∷ ts) ts))
    stmt_good_by _ _ (told.return_ {ts = ts}) = widen (Seq (TokR (keyword key.Return)) (Seq MaybeR (TokR (mark m.Semicolon)))) StmtR return_rule (keyword key.Return ∷ ts) _ (good_behind (TokR (keyword key.Return)) (Seq MaybeR (TokR (mark m.Semicolon))) (keyword key.Return ∷ ts) ts _ (token_frame (keyword key.Return) ts) (return_good_0 (keyword key.Return ∷ ts) ts))
    stmt_good_by _ _ (told.break_ {ts = ts}) = widen (Seq (TokR (keyword key.Break)) (TokR (mark m.Semicolon))) StmtR break_rule (keyword key.Break ∷ ts) _ (good_behind (TokR (keyword key.Break)) (TokR (mark m.Semicolon)) (keyword key.Break ∷ ts) ts _ (token_frame (keyword key.Break) ts) (break_good_0 (keyword key.Break ∷ ts) ts))
    stmt_good_by _ _ (told.continue_ {ts = ts}) = widen (Seq (TokR (keyword key.Continue)) (TokR (mark m.Semicolon))) StmtR continue_rule (keyword key.Continue ∷ ts) _ (good_behind (TokR (keyword key.Continue)) (TokR (mark m.Semicolon)) (keyword key.Continue ∷ ts) ts _ (token_frame (keyword key.Continue) ts) (continue_good_0 (keyword key.Continue ∷ ts) ts))
    stmt_good_by _ _ (told.empty {ts = ts}) = record { part = mark m.Semicolon ∷ []; is = refl; any = λ after w. empty_stmt after }
    stmt_good_by _ _ (told.if_ {ts = ts}) = widen (Seq (TokR (keyword key.If)) (Seq TestR (Seq StmtR IfRestR))) StmtR if_rule (keyword key.If ∷ ts) _ (good_behind (TokR (keyword key.If)) (Seq TestR (Seq StmtR IfRestR)) (keyword key.If ∷ ts) ts _ (token_frame (keyword key.If) ts) (if_good (keyword key.If ∷ ts) ts))
    stmt_good_by ts _ (told.vars e) = widen (Seq VarsR (TokR (mark m.Semicolon))) StmtR (λ us rest x. vars_makes us x.0 rest x.1 x.2) ts _ (vars_stmt_good_0 ts ts)
    stmt_good_by ts _ told.expr = widen (Seq ExprQ (TokR (mark m.Semicolon))) StmtR (λ us rest x. expr_makes us x.0 rest x.1 x.2) ts _ (expr_stmt_good_0 ts ts)

    stmt_good : (ts : List Tok) → Good StmtR ts (stmt_with (ctx t) room r ts)
    stmt_good ts = stmt_good_by ts (stmt_at (ctx t) ts) (stmt_is (ctx t) ts)

    arm_good_by : (ts : List Tok) (l : ArmLead) → ArmIs ts l → Good ArmR ts (arm_by (ctx t) room r ts l)
    arm_good_by _ _ (told.case {ts = ts}) = widen (Seq (TokR (keyword key.Case)) (Seq LevelQ (TokR (mark m.Colon)))) ArmR case_rule (keyword key.Case ∷ ts) _ (good_behind (TokR (keyword key.Case)) (Seq LevelQ (TokR (mark m.Colon))) (keyword key.Case ∷ ts) ts _ (token_frame (keyword key.Case) ts) (case_good_0 (keyword key.Case ∷ ts) ts))
    arm_good_by _ _ (told.default {ts = ts}) = widen (Seq (TokR (keyword key.Default)) (TokR (mark m.Colon))) ArmR default_rule (keyword key.Default ∷ ts) _ (good_behind (TokR (keyword key.Default)) (TokR (mark m.Colon)) (keyword key.Default ∷ ts) ts _ (token_frame (keyword key.Default) ts) (default_good_0 (keyword key.Default ∷ ts) ts))
    arm_good_by ts _ told.arm_stmt = widen StmtR ArmR stmt_arm ts _ (arm_stmt_good_0 ts ts)

    arm_good : (ts : List Tok) → Good ArmR ts (arm_with (ctx t) room r ts)
    arm_good ts = arm_good_by ts (arm_at ts) (arm_is ts)

  -- ---- at every room

  no_else_rest : (after : List Tok) → Plain after → IfRestR after after
  unfolding IfRestR
  no_else_rest after p = inl (refl, p.0)

  zero_level : (after : List Tok) → LevelQ (number 0 ∷ after) after
  zero_level after = unary_level types fresh is_fresh 10 (number 0 ∷ after) after (zero_unary types fresh is_fresh after)

  abbrev zero_test : List Tok → List Tok
  zero_test after = mark m.OpenParen ∷ number 0 ∷ mark m.CloseParen ∷ after

  zero_tested : (after : List Tok) → TestR (zero_test after) after
  zero_tested after = (_, refl, (_, zero_expr types fresh is_fresh (mark m.CloseParen ∷ after), refl))

  no_stmts_rule : (ts : List Tok) → StmtsR ts ts
  no_stmts_rule ts t = ([], s.no_stmts)

  no_arms_rule : (ts : List Tok) → ArmsR ts ts
  no_arms_rule ts t = ([], s.no_arms)

  vars_stmt_deep : (ts : List Tok) → Deep VarsR ts (length ts) → Deep StmtR ts (length ts)
  vars_stmt_deep ts h = widen_fault (Seq VarsR (TokR (mark m.Semicolon))) StmtR (λ us rest x. vars_makes us x.0 rest x.1 x.2) ts (TooDeep (length ts)) (fault_front VarsR (TokR (mark m.Semicolon)) ts (TooDeep (length ts)) semicolon_word h)

  expr_stmt_deep : (ts : List Tok) → Deep ExprQ ts (length ts) → Deep StmtR ts (length ts)
  expr_stmt_deep ts h = widen_fault (Seq ExprQ (TokR (mark m.Semicolon))) StmtR (λ us rest x. expr_makes us x.0 rest x.1 x.2) ts (TooDeep (length ts)) (fault_front ExprQ (TokR (mark m.Semicolon)) ts (TooDeep (length ts)) semicolon_word h)

  stmt_deep_by : (t : ℕ) (ts : List Tok) (l : StmtLead) → StmtIs (ctx t) ts l → (is_some_stmt l || begins_expr (ctx t) ts) ≡ true → Deep StmtR ts (length ts)
  stmt_deep_by t _ _ (told.block {ts = ts}) h = first_deep StmtR (mark m.OpenBrace) ts (mark m.CloseBrace ∷ []) (λ after p. block_makes _ _ _ after refl (no_stmts_rule (mark m.CloseBrace ∷ after)) refl)
  stmt_deep_by t _ _ (told.empty {ts = ts}) h = first_deep StmtR (mark m.Semicolon) ts [] (λ after p. empty_stmt after)
  stmt_deep_by t ts _ (told.vars e) h = vars_stmt_deep ts (vars_begin t ts e)
  stmt_deep_by t _ _ (told.if_ {ts = ts}) h = first_deep StmtR (keyword key.If) ts (mark m.OpenParen ∷ number 0 ∷ mark m.CloseParen ∷ mark m.Semicolon ∷ []) (λ after p. if_makes _ _ _ _ after refl (zero_tested (mark m.Semicolon ∷ after)) (empty_stmt after) (no_else_rest after p))
  stmt_deep_by t _ _ (told.while_ {ts = ts}) h = first_deep StmtR (keyword key.While) ts (mark m.OpenParen ∷ number 0 ∷ mark m.CloseParen ∷ mark m.Semicolon ∷ []) (λ after p. while_makes _ _ _ after refl (zero_tested (mark m.Semicolon ∷ after)) (empty_stmt after))
  stmt_deep_by t _ _ (told.do_ {ts = ts}) h = first_deep StmtR (keyword key.Do) ts (mark m.Semicolon ∷ keyword key.While ∷ mark m.OpenParen ∷ number 0 ∷ mark m.CloseParen ∷ mark m.Semicolon ∷ [])
      (λ after p. do_makes _ _ _ _ _ after refl (empty_stmt (keyword key.While ∷ zero_test (mark m.Semicolon ∷ after))) refl (zero_tested (mark m.Semicolon ∷ after)) refl)
  stmt_deep_by t _ _ (told.for_ {ts = ts}) h = first_deep StmtR (keyword key.For) ts (mark m.OpenParen ∷ mark m.Semicolon ∷ mark m.Semicolon ∷ mark m.CloseParen ∷ mark m.Semicolon ∷ [])
      (λ after p. for_makes _ _ _ _ _ _ _ _ _ after refl refl (λ v. (NoneS, s.first_none)) refl (λ v. (None, s.maybe_none)) refl (λ v. (None, s.maybe_none)) refl (empty_stmt after))
  stmt_deep_by t _ _ (told.switch_ {ts = ts}) h = first_deep StmtR (keyword key.Switch) ts (mark m.OpenParen ∷ number 0 ∷ mark m.CloseParen ∷ mark m.OpenBrace ∷ mark m.CloseBrace ∷ [])
      (λ after p. switch_makes _ _ _ _ _ after refl (zero_tested (mark m.OpenBrace ∷ mark m.CloseBrace ∷ after)) refl (no_arms_rule (mark m.CloseBrace ∷ after)) refl)
  stmt_deep_by t _ _ (told.return_ {ts = ts}) h = first_deep StmtR (keyword key.Return) ts (mark m.Semicolon ∷ []) (λ after p. return_makes _ _ _ after refl (λ v. (None, s.maybe_none)) refl)
  stmt_deep_by t _ _ (told.break_ {ts = ts}) h = first_deep StmtR (keyword key.Break) ts (mark m.Semicolon ∷ []) (λ after p. break_makes _ _ after refl refl)
  stmt_deep_by t _ _ (told.continue_ {ts = ts}) h = first_deep StmtR (keyword key.Continue) ts (mark m.Semicolon ∷ []) (λ after p. continue_makes _ _ after refl refl)
  stmt_deep_by t ts _ told.expr h = expr_stmt_deep ts (expr_deep t ts h)

  stmt_deep : (t : ℕ) (ts : List Tok) → begins_stmt (ctx t) ts ≡ true → Deep StmtR ts (length ts)
  stmt_deep t ts e = stmt_deep_by t ts (stmt_at (ctx t) ts) (stmt_is (ctx t) ts) e

  arm_deep_by : (t : ℕ) (ts : List Tok) (l : ArmLead) → ArmIs ts l → (is_some_arm l || begins_stmt (ctx t) ts) ≡ true → Deep ArmR ts (length ts)
  arm_deep_by t _ _ (told.case {ts = ts}) h = first_deep ArmR (keyword key.Case) ts (number 0 ∷ mark m.Colon ∷ []) (λ after p. case_makes _ _ _ after refl (zero_level (mark m.Colon ∷ after)) refl)
  arm_deep_by t _ _ (told.default {ts = ts}) h = first_deep ArmR (keyword key.Default) ts (mark m.Colon ∷ []) (λ after p. default_makes _ _ after refl refl)
  arm_deep_by t ts _ told.arm_stmt h = widen_fault StmtR ArmR stmt_arm ts (TooDeep (length ts)) (stmt_deep t ts h)

  stmt_room : (t : ℕ) (ts : List Tok) (b : Bool) → begins_stmt (ctx t) ts ≡ b → GoodFault StmtR ts (room_fault b ts)
  stmt_room t ts true e = stmt_deep t ts e
  stmt_room t ts false e = first_wrong StmtR ts stmt_word

  arm_room : (t : ℕ) (ts : List Tok) (b : Bool) → (is_some_arm (arm_at ts) || begins_stmt (ctx t) ts) ≡ b → GoodFault ArmR ts (room_fault b ts)
  arm_room t ts true e = arm_deep_by t ts (arm_at ts) (arm_is ts) e
  arm_room t ts false e = first_wrong ArmR ts arm_word

  pub bodies_good : (t room : ℕ) → GoodBodies t (bodies (ctx t) room)
  unfolding bodies
  bodies_good t zero = record {
    stmt = λ ts. stmt_room t ts (begins_stmt (ctx t) ts) refl;
    arm = λ ts. arm_room t ts (is_some_arm (arm_at ts) || begins_stmt (ctx t) ts) refl;
    stmts_take = turns_of_stmts (ctx t) zero;
    arms_take = turns_of_arms (ctx t) zero;
  }
  bodies_good t (suc room) = record {
    stmt = λ ts. stmt_good t room (bodies (ctx t) room) (bodies_good t room) ts;
    arm = λ ts. arm_good t room (bodies (ctx t) room) (bodies_good t room) ts;
    stmts_take = turns_of_stmts (ctx t) (suc room);
    arms_take = turns_of_arms (ctx t) (suc room);
  }

  pub body_good : (t room : ℕ) (ts : List Tok) → Good StmtsR ts (braced (stmt_read (ctx t) room) ts)
  body_good t room ts = braced_good StmtR StmtsR stmts_repeat (stmt_read (ctx t) room) (bodies_good t room).stmt (bodies_good t room).stmts_take ts
