-- What the grammar derives of expressions and types is read, where there is room for it, and is otherwise too deep.
use Rattle.std.proofs.Common.{◌≡◌, ℕ, zero, suc, ◌<◌, ◌≤◌, Bool, true, false, cond, List, [], ◌∷◌, length, Option, Some, None, Result, Ok, refl, arith}
use Rattle.c_lex.specs.declared.token.Punct.TheVariants as m
use Rattle.c_tree.specs.declared.operator.BinOp.{BinOp}
use Rattle.c_tree.specs.declared.operator.StepOp.{StepOp}
use Rattle.c_tree.specs.Tree as t
use Rattle.c_tree.specs.Tree.{ExprT, TypeT}
use Rattle.c_tree.specs.View.{exprs}
use Rattle.c_tree.specs.Depth.{expr_depth, exprs_depth, type_depth}
use Rattle.c_parse.specs.declared.class.Key.TheVariants as key
use Rattle.c_parse.specs.declared.fault.Fault.{Fault}
use Rattle.c_parse.specs.declared.lead.Suffix.{Suffix}
use Rattle.c_parse.specs.declared.lead.TypeMark.TheVariants as type_mark
use Rattle.c_parse.specs.Tok.{Tok, keyword, word, mark}
use Rattle.c_parse.specs.Scope.{Context, span}
use Rattle.c_parse.specs.Marks.{step_behind}
use Rattle.c_parse.specs.inner.Reader.{◌>>=◌, Got, above, goes_on, repeat, loop, at_close_paren, at_open_paren, at_open_bracket, close_paren}
use Rattle.c_parse.specs.inner.Leads.{begins_expr, begins_type, type_mark_at, suffix_of}
use Rattle.c_parse.specs.inner.Reading.{run_with, type_mark_by, type_mark_turn, base, type_with, exprs_turn, exprs_with, primary_with, suffix_by, suffix_turn, is_some_suffix, unary_with, operator_by, operator_at, operator_turn, level_with, assigner_at, assigner_behind, assign_by, is_unary, readers, level_at, expr_at, type_read, run_at}
use Rattle.c_parse.specs.Grammar as g
use Rattle.c_parse.specs.Grammar.{Base, Ty, Marks, Run, Expr, Level, Tail, Unary, Suffixes, Primary, Exprs, NoBracket}
use Rattle.c_parse.proofs.Outcomes.{Reads, read, over, reads_is, bind_reads, bind_twice, above_reads, above_twice, none_reads, repeat_ends, repeat_goes}
use Rattle.c_parse.proofs.Fronts.{Ends, Ends_less, end_ends, Ends_assigner, operator_found, tail_front, prefix_start, step_start, step_suffix, value_lead, primary_start, ty_type, unary_begins, level_begins, expr_begins, unary_is}
use Rattle.c_parse.proofs.Sizes.{run_shorter, expr_shorter, level_shorter, marks_deeper, run_deeper, tail_deeper, suffixes_deeper, type_deep, expr_deep}
use Rattle.c_parse.proofs.ListReads.{Parts, Turned, stop, next, Several, several, several_reads}

-- the readers' equations
unary-is : (c : Context) (n : ℕ) (ts : List Tok) → level_at c (suc n) zero ts ≡ unary_with c (readers c n) (suc n) ts
unfolding readers level_with
unary-is c n ts = refl

level-is : (c : Context) (n k : ℕ) (ts : List Tok) → level_at c (suc n) (suc k) ts ≡ (level_at c (suc n) k ts >>= λ a. loop (operator_turn c (readers c n) (suc n) k ts) a.0 a.1)
unfolding readers level_with
level-is c n k ts = refl

whole-is : (c : Context) (n : ℕ) (ts : List Tok) → expr_at c (suc n) ts ≡ (level_at c (suc n) 10 ts >>= λ a. assign_by c (readers c n) (suc n) ts a.0 a.1 (assigner_behind a.0 a.1))
unfolding readers
whole-is c n ts = refl

type-is : (c : Context) (n : ℕ) (ts : List Tok) → type_read c (suc n) ts ≡ type_with c (readers c n) (suc n) ts
unfolding readers
type-is c n ts = refl

run-is : (c : Context) (n : ℕ) (a : TypeT) (ts : List Tok) → run_at c (suc n) a ts ≡ run_with (readers c n) (suc n) a ts
unfolding readers
run-is c n a ts = refl

level_none : {e : ExprT} {rest : List Tok} (c : Context) (k : ℕ) (ts : List Tok) → begins_expr c ts ≡ true → Reads (expr_depth e) zero (e, rest) (level_at c zero k ts)
unfolding readers
level_none {e = e} c k ts b = none_reads (begins_expr c ts) ts b (expr_deep e)

whole_none : {e : ExprT} {rest : List Tok} (c : Context) (ts : List Tok) → begins_expr c ts ≡ true → Reads (expr_depth e) zero (e, rest) (expr_at c zero ts)
unfolding readers
whole_none {e = e} c ts b = none_reads (begins_expr c ts) ts b (expr_deep e)

type_none : {y : TypeT} {rest : List Tok} (c : Context) (ts : List Tok) → begins_type c ts ≡ true → Reads (type_depth y) zero (y, rest) (type_read c zero ts)
unfolding readers
type_none {y = y} c ts b = none_reads (begins_type c ts) ts b (type_deep y)

run_none : {y : TypeT} {rest : List Tok} (c : Context) (a : TypeT) (ts : List Tok) → Reads (type_depth y) zero (y, rest) (run_at c zero a ts)
unfolding readers
run_none {y = y} c a ts = over (type_deep y)

-- one level goes on as the level below ends
level_lifts : {e : ExprT} {rest : List Tok} (c : Context) (n k : ℕ) (ts : List Tok) → Ends (suc k) rest → Reads (expr_depth e) (suc n) (e, rest) (level_at c (suc n) k ts) → Reads (expr_depth e) (suc n) (e, rest) (level_at c (suc n) (suc k) ts)
level_lifts {e = e} {rest = rest} c n k ts ends h = reads_is _ _ (level-is c n k ts)
    (bind_reads (λ a. loop (operator_turn c (readers c n) (suc n) k ts) a.0 a.1) h (λ deep. deep)
    (λ fits. repeat_ends (operator_turn c (readers c n) (suc n) k ts) e rest (suc (length rest)) (omega arith) (no_turn (ends.operator (suc k) (omega arith) (omega arith))) fits))
  where
    no_turn : operator_at (suc k) rest ≡ None → operator_turn c (readers c n) (suc n) k ts e rest ≡ Ok None
    no_turn none = rw none refl

unary_lifts : {e : ExprT} {rest : List Tok} (c : Context) (n k : ℕ) (ts : List Tok) → Ends k rest → Reads (expr_depth e) (suc n) (e, rest) (level_at c (suc n) zero ts) → Reads (expr_depth e) (suc n) (e, rest) (level_at c (suc n) k ts)
unary_lifts c n zero ts ends h = h
unary_lifts {rest = rest} c n (suc k) ts ends h = level_lifts c n k ts ends (unary_lifts c n k ts (Ends_less k (suc k) rest (omega arith) ends) h)

no_assigner : (e : ExprT) (rest : List Tok) → assigner_at rest ≡ None → assigner_behind e rest ≡ None
no_assigner e rest h = choice (is_unary e) (assigner_at rest) h
  where
    choice : (b : Bool) (o : Option (Option BinOp)) → o ≡ None → cond b o None ≡ None
    choice true o h = h
    choice false o h = refl

abbrev expr_parts : Parts ExprT ExprT
expr_parts = record { part = λ e. e ∷ []; depth = expr_depth; deepest = λ es. exprs_depth (exprs es); none = refl; some = λ e es. refl }

abbrev suffix_read : Context → ℕ → List Tok → ExprT → List Tok → Suffix → Result (Got ExprT) Fault
suffix_read c n at a ts s = suffix_by c (readers c n) at a ts s

base_reads : {c : Context} {ts rest : List Tok} {y : TypeT} (n : ℕ) → Base c ts y rest → Reads (type_depth y) (suc n) (y, rest) (base c ts)
base_reads n g.int = read (omega arith)
base_reads n g.bool = read (omega arith)
base_reads n (g.named h) = rw h (read (omega arith))
base_reads n g.void = read (omega arith)

base_deep : {c : Context} {ts rest : List Tok} {y : TypeT} → Base c ts y rest → type_depth y ≡ 1
base_deep g.int = refl
base_deep g.bool = refl
base_deep (g.named h) = refl
base_deep g.void = refl

no_bracket : (ts : List Tok) → NoBracket ts → at_open_bracket ts ≡ false
no_bracket [] h = refl
no_bracket (mark m.OpenBracket ∷ ts) h = absurd h
no_bracket (_ ∷ ts) h = refl

-- a run begins with a bracket
run_front : {c : Context} {ts rest : List Tok} {a y : TypeT} → Run c a ts y rest → type_mark_at ts ≡ type_mark.Bracket
run_front (g.bracket d) = refl
run_front (g.brackets d r) = refl

run_bracket : {c : Context} {ts rest : List Tok} {a y : TypeT} → Run c a ts y rest → at_open_bracket ts ≡ true
run_bracket (g.bracket d) = refl
run_bracket (g.brackets d r) = refl

-- a bracket's part is read, and put behind what stands so far
bind_thrice : {A B C D' : Type 0} {d r D R : ℕ} {x : A} {y : D'} {res : Result A Fault} (k : A → Result B Fault) (g' : B → Result C Fault) (f : C → Result D' Fault) → Reads d r x res → (r < d → R < D)
    → (d ≤ r → Reads D R y ((k x >>= g') >>= f)) → Reads D R y (((res >>= k) >>= g') >>= f)
bind_thrice k g' f (read le) deep go = go le
bind_thrice k g' f (over lt) deep go = over (deep lt)

step_no_paren : (o : Tok) (op : StepOp) → step_behind o ≡ Some op → at_open_paren (o ∷ []) ≡ false
step_no_paren (mark m.OpenParen) op h = absurd cc
step_no_paren _ op h = refl

some_suffix : (o : Tok) (op : StepOp) → step_behind o ≡ Some op → is_some_suffix (suffix_of o) ≡ true
some_suffix o op h = rw (step_suffix o op h) refl

begins_open : (c : Context) (ts : List Tok) → begins_expr c ts ≡ true → at_close_paren ts ≡ false
begins_open c [] h = refl
begins_open c (mark m.CloseParen ∷ ts) h = absurd cc
begins_open c (_ ∷ ts) h = refl

exprs_open : {c : Context} {ts rest : List Tok} {es : List ExprT} → Exprs c ts es rest → at_close_paren ts ≡ false
exprs_open {c = c} {ts = ts} (g.last d) = begins_open c ts (expr_begins d)
exprs_open {c = c} {ts = ts} (g.more d r) = begins_open c ts (expr_begins d)

suffixes_paren : {c : Context} {at ts rest : List Tok} {a e : ExprT} → Suffixes c at a ts e rest → Ends zero rest → at_open_paren ts ≡ false
suffixes_paren g.bare ends = ends.paren
suffixes_paren (g.index d s) ends = refl
suffixes_paren (g.member h s) ends = refl
suffixes_paren (g.arrow h s) ends = refl
suffixes_paren (g.stepped {o = o} {op = op} h s) ends = step_no_paren o op h

comma_turned : (c : Context) (n : ℕ) {ts rest : List Tok} {es : List ExprT} → Several expr_parts n (exprs_turn (readers c n)) (expr_at c n) ts es rest → Turned expr_parts n (exprs_turn (readers c n)) (mark m.Comma ∷ ts) es rest
comma_turned c n (several h less t) = next (λ ys. refl) h (omega arith) t

run_at_reads : {y : TypeT} {rest : List Tok} (c : Context) (ts : List Tok) (a : TypeT) (r : ℕ) → ((n : ℕ) → Reads (type_depth y) (suc n) (y, rest) (run_with (readers c n) (suc n) a ts)) → Reads (type_depth y) r (y, rest) (run_at c r a ts)
run_at_reads c ts a zero h = run_none c a ts
run_at_reads c ts a (suc n) h = reads_is _ _ (run-is c n a ts) (h n)

arguments_read : (c : Context) (n : ℕ) {ts rest : List Tok} {es : List ExprT} → Several expr_parts n (exprs_turn (readers c n)) (expr_at c n) ts es (mark m.CloseParen ∷ rest)
    → Reads {A = Got (List ExprT)} (exprs_depth (exprs es)) n (es, rest) (exprs_with (readers c n) ts >>= λ x. close_paren x.1 >>= λ us. Ok (x.0, us))
arguments_read c n s = bind_reads _ (several_reads expr_parts n (exprs_turn (readers c n)) s) (λ deep. deep) (λ fits. read fits)

mutual
  pub ty_reads : {c : Context} {ts rest : List Tok} {y : TypeT} → Ty c ts y rest → type_mark_at rest ≡ type_mark.Nothing → (r : ℕ) → Reads (type_depth y) r (y, rest) (type_read c r ts)
  ty_reads {c = c} (g.type {ts = ts} b d) ends zero = type_none c ts (ty_type (g.type b d))
  ty_reads {c = c} (g.type {ts = ts} {mid = mid} {a = a} b d) ends (suc n) = reads_is _ _ (type-is c n ts)
      (bind_reads (λ x. loop (type_mark_turn (readers c n) (suc n)) x.0 x.1) (base_reads n b) (λ deep. absurd (omega (arith, base_deep b)))
      (λ fits. marks_reads d ends n fits (suc (length mid)) (omega arith)))

  marks_reads : {c : Context} {ts rest : List Tok} {a y : TypeT} → Marks c a ts y rest → type_mark_at rest ≡ type_mark.Nothing → (n : ℕ) → type_depth a ≤ suc n → (k : ℕ) → length ts < k
      → Reads (type_depth y) (suc n) (y, rest) (repeat (type_mark_turn (readers c n) (suc n)) k a ts)
  marks_reads {c = c} (g.unmarked {ts = ts} {a = a}) ends n fits k lt = repeat_ends (type_mark_turn (readers c n) (suc n)) a ts k lt (rw ends refl) fits
  marks_reads {c = c} (g.pointer {ts = ts} {a = a} d) ends n fits k lt = repeat_goes (type_mark_turn (readers c n) (suc n)) a (mark m.Star ∷ ts) k lt _ refl (λ j is.
      above_twice (type_depth a) (mark m.Star ∷ ts) _ (goes_on (repeat (type_mark_turn (readers c n) (suc n)) j) a (mark m.Star ∷ ts))
      (λ less. marks_reads d ends n (omega arith) j (omega arith)) (λ full. omega (arith, marks_deeper d)))
  marks_reads {c = c} (g.array {ts = ts} {mid = mid} {a = a} {b = b} r free d) ends n fits k lt =
      repeat_goes (type_mark_turn (readers c n) (suc n)) a ts k lt (type_mark_by (readers c n) (suc n) a ts type_mark.Bracket) (rw (run_front r) refl) (λ j is.
      bind_twice (λ x. Ok (Some x)) (goes_on (repeat (type_mark_turn (readers c n) (suc n)) j) a ts) (run_reads r free n) (λ deep. omega (arith, marks_deeper d))
      (λ le. marks_reads d ends n le j (omega (arith, run_shorter r))))

  -- at suc n of room
  run_reads : {c : Context} {ts rest : List Tok} {a y : TypeT} → Run c a ts y rest → NoBracket rest → (n : ℕ) → Reads (type_depth y) (suc n) (y, rest) (run_with (readers c n) (suc n) a ts)
  run_reads {c = c} (g.bracket {ts = ts} {rest = rest} {a = a} {e = e} d) free n = above_reads (type_depth a) (mark m.OpenBracket ∷ ts) _
      (λ less. bind_reads _ (level_reads d (end_ends 10 m.CloseBracket rest tt) n) (λ deep. omega arith) (λ fits. rw (no_bracket rest free) (read (omega arith))))
      (λ full. omega arith)
  run_reads {c = c} (g.brackets {ts = ts} {mid = mid} {a = a} {b = b} {e = e} d r) free n = above_reads (type_depth a) (mark m.OpenBracket ∷ ts) _
      (λ less. bind_reads _ (level_reads d (end_ends 10 m.CloseBracket mid tt) n) (λ deep. omega arith)
      (λ fits. rw (run_bracket r) (bind_reads _ (run_at_reads c mid a n (λ q. run_reads r free q)) (λ deep. omega arith) (λ le. read (omega arith)))))
      (λ full. omega (arith, run_deeper r))

  pub expr_reads : {c : Context} {ts rest : List Tok} {e : ExprT} → Expr c ts e rest → Ends 11 rest → (r : ℕ) → Reads (expr_depth e) r (e, rest) (expr_at c r ts)
  expr_reads {c = c} {ts = ts} d ends zero = whole_none c ts (expr_begins d)
  expr_reads {c = c} (g.plain {ts = ts} {rest = rest} {e = e} d) ends (suc n) = reads_is _ _ (whole-is c n ts)
      (bind_reads _ (level_reads d (Ends_less 10 11 rest (omega arith) ends) (suc n)) (λ deep. deep) (λ fits. rw (no_assigner e rest (ends.assigner (omega arith))) (read fits)))
  expr_reads {c = c} (g.assign {ts = ts} {mid = mid} {rest = rest} {o = o} {op = op} {a = a} {b = b} d h r) ends (suc n) = reads_is _ _ (whole-is c n ts)
      (bind_reads _ (unary_lifts c n 10 ts (Ends_assigner op o mid h) (unary_reads d (Ends_less 0 10 (o ∷ mid) (omega arith) (Ends_assigner op o mid h)) (suc n))) (λ deep. omega arith)
      (λ fits. rw (unary_is d, h) (above_reads (expr_depth a) (o ∷ mid) _ (λ less. bind_reads _ (expr_reads r ends n) (λ deep. omega arith) (λ le. read (omega arith))) (λ full. omega arith))))

  pub level_reads : {c : Context} {k : ℕ} {ts rest : List Tok} {e : ExprT} → Level c k ts e rest → Ends k rest → (r : ℕ) → Reads (expr_depth e) r (e, rest) (level_at c r k ts)
  level_reads {c = c} {k = k} {ts = ts} d ends zero = level_none c k ts (level_begins d)
  level_reads (g.unary d) ends (suc n) = unary_reads d ends (suc n)
  level_reads {c = c} (g.level {k = k} {ts = ts} {mid = mid} {a = a} d s) ends (suc n) = reads_is _ _ (level-is c n k ts)
      (bind_reads (λ x. loop (operator_turn c (readers c n) (suc n) k ts) x.0 x.1) (level_reads d (tail_front s ends) (suc n)) (λ deep. omega (arith, tail_deeper s))
      (λ fits. tail_reads s ends n fits (suc (length mid)) (omega arith)))

  tail_reads : {c : Context} {k : ℕ} {at ts rest : List Tok} {a e : ExprT} → Tail c k at a ts e rest → Ends (suc k) rest → (n : ℕ) → expr_depth a ≤ suc n → (j : ℕ) → length ts < j
      → Reads (expr_depth e) (suc n) (e, rest) (repeat (operator_turn c (readers c n) (suc n) k at) j a ts)
  tail_reads {c = c} (g.ended {k = k} {at = at} {ts = ts} {a = a}) ends n fits j lt = repeat_ends (operator_turn c (readers c n) (suc n) k at) a ts j lt (rw (ends.operator (suc k) (omega arith) (omega arith)) refl) fits
  tail_reads {c = c} (g.operated {k = k} {at = at} {ts = ts} {mid = mid} {o = o} {op = op} {a = a} {b = b} h d s) ends n fits j lt =
      repeat_goes (operator_turn c (readers c n) (suc n) k at) a (o ∷ ts) j lt (operator_by c (readers c n) (suc n) k at a (o ∷ ts) (Some op)) (rw (operator_found (suc k) op o ts h) refl) (λ i is.
      above_twice (expr_depth a) (o ∷ ts) _ (goes_on (repeat (operator_turn c (readers c n) (suc n) k at) i) a (o ∷ ts))
      (λ less. bind_twice _ (goes_on (repeat (operator_turn c (readers c n) (suc n) k at) i) a (o ∷ ts)) (level_reads d (tail_front s ends) n) (λ deep. omega (arith, tail_deeper s))
      (λ le. tail_reads s ends n (omega arith) i (omega (arith, level_shorter d))))
      (λ full. omega (arith, tail_deeper s)))

  pub unary_reads : {c : Context} {ts rest : List Tok} {e : ExprT} → Unary c ts e rest → Ends zero rest → (r : ℕ) → Reads (expr_depth e) r (e, rest) (level_at c r zero ts)
  unary_reads {c = c} {ts = ts} d ends zero = level_none c zero ts (unary_begins d)
  unary_reads {c = c} (g.operator {ts = ts} {o = o} {op = op} h d) ends (suc n) = reads_is _ _ (unary-is c n (o ∷ ts))
      (rw (prefix_start c o op ts h) (bind_reads _ (unary_reads d ends n) (λ deep. omega arith) (λ fits. read (omega arith))))
  unary_reads {c = c} (g.step {ts = ts} {o = o} {op = op} h d) ends (suc n) = reads_is _ _ (unary-is c n (o ∷ ts))
      (rw (step_start c o op ts h) (bind_reads _ (unary_reads d ends n) (λ deep. omega arith) (λ fits. read (omega arith))))
  unary_reads {c = c} (g.cast {ts = ts} {mid = mid} d u) ends (suc n) = reads_is _ _ (unary-is c n (mark m.OpenParen ∷ ts))
      (rw (ty_type d) (bind_reads _ (ty_reads d refl n) (λ deep. omega arith) (λ fits. bind_reads _ (unary_reads u ends n) (λ deep. omega arith) (λ le. read (omega arith)))))
  unary_reads {c = c} (g.size {ts = ts} d) ends (suc n) = reads_is _ _ (unary-is c n (keyword key.SizeOf ∷ mark m.OpenParen ∷ ts))
      (bind_reads _ (ty_reads d refl n) (λ deep. omega arith) (λ fits. read (omega arith)))
  unary_reads {c = c} (g.postfix {ts = ts} {mid = mid} {a = a} p s) ends (suc n) = reads_is _ _ (unary-is c n ts)
      (rw (primary_start p) (bind_reads (λ x. loop (suffix_turn c (readers c n) (suc n) ts) x.0 x.1) (primary_reads p (suffixes_paren s ends) n) (λ deep. omega (arith, suffixes_deeper s))
      (λ fits. suffixes_reads s ends n fits (suc (length mid)) (omega arith))))

  suffixes_reads : {c : Context} {at ts rest : List Tok} {a e : ExprT} → Suffixes c at a ts e rest → Ends zero rest → (n : ℕ) → expr_depth a ≤ suc n → (j : ℕ) → length ts < j
      → Reads (expr_depth e) (suc n) (e, rest) (repeat (suffix_turn c (readers c n) (suc n) at) j a ts)
  suffixes_reads {c = c} (g.bare {at = at} {ts = ts} {a = a}) ends n fits j lt = repeat_ends (suffix_turn c (readers c n) (suc n) at) a ts j lt (rw ends.suffix refl) fits
  suffixes_reads {c = c} (g.index {at = at} {ts = ts} {mid = mid} {a = a} d s) ends n fits j lt =
      repeat_goes (suffix_turn c (readers c n) (suc n) at) a (mark m.OpenBracket ∷ ts) j lt _ refl (λ i is.
      above_twice (expr_depth a) (mark m.OpenBracket ∷ ts) _ (goes_on (repeat (suffix_turn c (readers c n) (suc n) at) i) a (mark m.OpenBracket ∷ ts))
      (λ less. bind_thrice _ (λ x. Ok (Some x)) (goes_on (repeat (suffix_turn c (readers c n) (suc n) at) i) a (mark m.OpenBracket ∷ ts)) (expr_reads d (end_ends 11 m.CloseBracket mid tt) n) (λ deep. omega (arith, suffixes_deeper s))
      (λ le. suffixes_reads s ends n (omega arith) i (omega (arith, expr_shorter d))))
      (λ full. omega (arith, suffixes_deeper s)))
  suffixes_reads {c = c} (g.member {at = at} {ts = ts} {n = w} {a = a} h s) ends n fits j lt =
      repeat_goes (suffix_turn c (readers c n) (suc n) at) a (mark m.Dot ∷ word w ∷ ts) j lt (above (expr_depth a) (suc n) (mark m.Dot ∷ word w ∷ ts) (Ok (Some (t.MemberE a w (span c at ts), ts)))) (rw h refl) (λ i is.
      above_twice (expr_depth a) (mark m.Dot ∷ word w ∷ ts) _ (goes_on (repeat (suffix_turn c (readers c n) (suc n) at) i) a (mark m.Dot ∷ word w ∷ ts))
      (λ less. suffixes_reads s ends n (omega arith) i (omega arith)) (λ full. omega (arith, suffixes_deeper s)))
  suffixes_reads {c = c} (g.arrow {at = at} {ts = ts} {n = w} {a = a} h s) ends n fits j lt =
      repeat_goes (suffix_turn c (readers c n) (suc n) at) a (mark m.Arrow ∷ word w ∷ ts) j lt (above (expr_depth a) (suc n) (mark m.Arrow ∷ word w ∷ ts) (Ok (Some (t.ArrowE a w (span c at ts), ts)))) (rw h refl) (λ i is.
      above_twice (expr_depth a) (mark m.Arrow ∷ word w ∷ ts) _ (goes_on (repeat (suffix_turn c (readers c n) (suc n) at) i) a (mark m.Arrow ∷ word w ∷ ts))
      (λ less. suffixes_reads s ends n (omega arith) i (omega arith)) (λ full. omega (arith, suffixes_deeper s)))
  suffixes_reads {c = c} (g.stepped {at = at} {ts = ts} {o = o} {op = op} {a = a} h s) ends n fits j lt =
      repeat_goes (suffix_turn c (readers c n) (suc n) at) a (o ∷ ts) j lt (above (expr_depth a) (suc n) (o ∷ ts) (Ok (Some (t.StepE op a (span c at ts), ts)))) (rw (some_suffix o op h, step_suffix o op h) refl) (λ i is.
      above_twice (expr_depth a) (o ∷ ts) _ (goes_on (repeat (suffix_turn c (readers c n) (suc n) at) i) a (o ∷ ts))
      (λ less. suffixes_reads s ends n (omega arith) i (omega arith)) (λ full. omega (arith, suffixes_deeper s)))

  primary_reads : {c : Context} {ts rest : List Tok} {e : ExprT} → Primary c ts e rest → at_open_paren rest ≡ false → (n : ℕ) → Reads (expr_depth e) (suc n) (e, rest) (primary_with c (readers c n) ts)
  primary_reads (g.name h) free n = rw (h, free) (read (omega arith))
  primary_reads (g.call_bare h) free n = rw h (read (omega arith))
  primary_reads {c = c} (g.call {ts = ts} {rest = rest} {es = es} h d) free n = rw (h, exprs_open d) (bind_reads _ (arguments_read c n (exprs_several d n)) (λ deep. omega arith) (λ fits. read (omega arith)))
  primary_reads {c = c} (g.valued {o = o} {n = v} h) free n = rw (value_lead c o v h) (read (omega arith))
  primary_reads g.text_ free n = read (omega arith)
  primary_reads g.null free n = read (omega arith)
  primary_reads (g.paren {rest = rest} d) free n = bind_reads _ (expr_reads d (end_ends 11 m.CloseParen rest tt) n) (λ deep. omega arith) (λ fits. read (omega arith))

  exprs_several : {c : Context} {ts rest : List Tok} {es : List ExprT} → Exprs c ts es (mark m.CloseParen ∷ rest) → (n : ℕ) → Several expr_parts n (exprs_turn (readers c n)) (expr_at c n) ts es (mark m.CloseParen ∷ rest)
  exprs_several {c = c} (g.last {rest = rest} d) n = several (expr_reads d (end_ends 11 m.CloseParen _ tt) n) (expr_shorter d) (stop (λ xs. refl))
  exprs_several {c = c} (g.more {mid = mid} d r) n = several (expr_reads d (end_ends 11 m.Comma mid tt) n) (expr_shorter d) (comma_turned c n (exprs_several r n))
