-- Statements in two lists of tokens that agree up to one token: what is read up to there is the same, and so are the faults.
use Rattle.std.proofs.Common.{◌≡◌, ℕ, zero, suc, ◌+◌, Bool, true, false, cond, List, ◌∷◌, length, Option, Some, Result, Ok, refl, arith}
use Rattle.std.specs.Prelude.{◌||◌}
use Rattle.c_parse.specs.declared.fault.Fault.{Fault}
use Rattle.c_parse.specs.Tok.{Tok, keyword, refused, word, number, character, text, mark}
use Rattle.c_tree.specs.Tree.{ExprT, VarT, StmtT, BlockS, VarsS, DoS, IfS, WhileS, DoWhileS, ForS, SwitchS, ReturnS, BreakS, ContinueS, MaybeS, NoneS, SomeS, ArmT, CaseA, DefaultA, StmtA}
use Rattle.c_parse.specs.Scope.{Context, span}
use Rattle.c_parse.specs.inner.Leads.{begins_type, begins_expr, stmt_of, stmt_at, begins_stmt, arm_of, arm_at, is_some_arm}
use Rattle.c_parse.specs.inner.ReadingDeclarations.{vars_at}
use Rattle.c_tree.specs.View.{stmts, arms}
use Rattle.c_parse.specs.declared.lead.StmtLead.{StmtLead}
use Rattle.c_parse.specs.declared.lead.StmtLead.TheVariants as stmt
use Rattle.c_parse.specs.declared.lead.ArmLead.{ArmLead}
use Rattle.c_parse.specs.declared.lead.ArmLead.TheVariants as arm
use Rattle.c_parse.specs.inner.ReadingStatements.{maybe_by, maybe_at, first_by, first_at, Bodies, test_at, if_by, stmt_by, stmt_with, arm_by, arm_with, bodies}
use Rattle.c_parse.specs.inner.ReadingLists.{brace_turn, braced}
use Rattle.c_parse.specs.inner.Reading.{readers, level_at, expr_at}
use Rattle.c_parse.specs.inner.Reader.{◌>>=◌, Got, Reader, no_room, behind, open_paren, close_paren, open_brace, at_close_brace, close_brace, semicolon, colon, while_word, is_else_word, at_else_word, at_while_word, at_colon, at_semicolon, at_open_brace, at_open_paren, at_close_paren}
use Rattle.c_parse.proofs.Locality
use Rattle.c_parse.proofs.Locality.{Takes, last, next, read, too_deep, past, bind_past, behind_gone, bind_got, bind_tokens, must_past, open_paren_same, close_paren_same, open_brace_same, close_brace_same, semicolon_same, colon_same, while_word_same, closed_past, closed_same, room_local, braced_is_local}
use Rattle.c_parse.proofs.LocalExpressions
use Rattle.c_parse.proofs.LocalExpressions.{LocalReaders, TurnsTake, readers_are_local}
use Rattle.c_parse.proofs.LocalDeclarations
use Rattle.c_parse.proofs.LocalDeclarations.{ListsTake}

-- ---- the readers of statements, by what is left to read

abbrev block_2 : Context → ℕ → Bodies → List Tok → (List StmtT) → List Tok → Result (Got StmtT) Fault
block_2 c room r at ss ts = Ok (BlockS (stmts ss) (span c at ts), ts)

abbrev block_1 : Context → ℕ → Bodies → List Tok → (List StmtT) → List Tok → Result (Got StmtT) Fault
block_1 c room r at ss ts = close_brace ts >>= λ us. block_2 c room r at ss us

abbrev block_0 : Context → ℕ → Bodies → List Tok → List Tok → Result (Got StmtT) Fault
block_0 c room r at ts = braced r.stmt ts >>= λ got. block_1 c room r at got.0 got.1

abbrev vars_stmt_2 : Context → ℕ → Bodies → List Tok → (List VarT) → List Tok → Result (Got StmtT) Fault
vars_stmt_2 c room r at vs ts = Ok (VarsS vs (span c at ts), ts)

abbrev vars_stmt_1 : Context → ℕ → Bodies → List Tok → (List VarT) → List Tok → Result (Got StmtT) Fault
vars_stmt_1 c room r at vs ts = semicolon ts >>= λ us. vars_stmt_2 c room r at vs us

abbrev vars_stmt_0 : Context → ℕ → Bodies → List Tok → List Tok → Result (Got StmtT) Fault
vars_stmt_0 c room r at ts = vars_at c room ts >>= λ got. vars_stmt_1 c room r at got.0 got.1

abbrev while_2 : Context → ℕ → Bodies → List Tok → ExprT → StmtT → List Tok → Result (Got StmtT) Fault
while_2 c room r at e s ts = Ok (WhileS e s (span c at ts), ts)

abbrev while_1 : Context → ℕ → Bodies → List Tok → ExprT → List Tok → Result (Got StmtT) Fault
while_1 c room r at e ts = r.stmt ts >>= λ got. while_2 c room r at e got.0 got.1

abbrev while_0 : Context → ℕ → Bodies → List Tok → List Tok → Result (Got StmtT) Fault
while_0 c room r at ts = test_at c room ts >>= λ got. while_1 c room r at got.0 got.1

abbrev do_4 : Context → ℕ → Bodies → List Tok → StmtT → ExprT → List Tok → Result (Got StmtT) Fault
do_4 c room r at s e ts = Ok (DoWhileS s e (span c at ts), ts)

abbrev do_3 : Context → ℕ → Bodies → List Tok → StmtT → ExprT → List Tok → Result (Got StmtT) Fault
do_3 c room r at s e ts = semicolon ts >>= λ us. do_4 c room r at s e us

abbrev do_2 : Context → ℕ → Bodies → List Tok → StmtT → List Tok → Result (Got StmtT) Fault
do_2 c room r at s ts = test_at c room ts >>= λ got. do_3 c room r at s got.0 got.1

abbrev do_1 : Context → ℕ → Bodies → List Tok → StmtT → List Tok → Result (Got StmtT) Fault
do_1 c room r at s ts = while_word ts >>= λ us. do_2 c room r at s us

abbrev do_0 : Context → ℕ → Bodies → List Tok → List Tok → Result (Got StmtT) Fault
do_0 c room r at ts = r.stmt ts >>= λ got. do_1 c room r at got.0 got.1

abbrev for_8 : Context → ℕ → Bodies → List Tok → MaybeS → (Option ExprT) → (Option ExprT) → StmtT → List Tok → Result (Got StmtT) Fault
for_8 c room r at f x y s ts = Ok (ForS f x y s (span c at ts), ts)

abbrev for_7 : Context → ℕ → Bodies → List Tok → MaybeS → (Option ExprT) → (Option ExprT) → List Tok → Result (Got StmtT) Fault
for_7 c room r at f x y ts = r.stmt ts >>= λ got. for_8 c room r at f x y got.0 got.1

abbrev for_6 : Context → ℕ → Bodies → List Tok → MaybeS → (Option ExprT) → (Option ExprT) → List Tok → Result (Got StmtT) Fault
for_6 c room r at f x y ts = close_paren ts >>= λ us. for_7 c room r at f x y us

abbrev for_5 : Context → ℕ → Bodies → List Tok → MaybeS → (Option ExprT) → List Tok → Result (Got StmtT) Fault
for_5 c room r at f x ts = maybe_at c room ts >>= λ got. for_6 c room r at f x got.0 got.1

abbrev for_4 : Context → ℕ → Bodies → List Tok → MaybeS → (Option ExprT) → List Tok → Result (Got StmtT) Fault
for_4 c room r at f x ts = semicolon ts >>= λ us. for_5 c room r at f x us

abbrev for_3 : Context → ℕ → Bodies → List Tok → MaybeS → List Tok → Result (Got StmtT) Fault
for_3 c room r at f ts = maybe_at c room ts >>= λ got. for_4 c room r at f got.0 got.1

abbrev for_2 : Context → ℕ → Bodies → List Tok → MaybeS → List Tok → Result (Got StmtT) Fault
for_2 c room r at f ts = semicolon ts >>= λ us. for_3 c room r at f us

abbrev for_1 : Context → ℕ → Bodies → List Tok → List Tok → Result (Got StmtT) Fault
for_1 c room r at ts = first_at c room ts >>= λ got. for_2 c room r at got.0 got.1

abbrev for_0 : Context → ℕ → Bodies → List Tok → List Tok → Result (Got StmtT) Fault
for_0 c room r at ts = open_paren ts >>= λ us. for_1 c room r at us

abbrev switch_4 : Context → ℕ → Bodies → List Tok → ExprT → (List ArmT) → List Tok → Result (Got StmtT) Fault
switch_4 c room r at e xs ts = Ok (SwitchS e (arms xs) (span c at ts), ts)

abbrev switch_3 : Context → ℕ → Bodies → List Tok → ExprT → (List ArmT) → List Tok → Result (Got StmtT) Fault
switch_3 c room r at e xs ts = close_brace ts >>= λ us. switch_4 c room r at e xs us

abbrev switch_2 : Context → ℕ → Bodies → List Tok → ExprT → List Tok → Result (Got StmtT) Fault
switch_2 c room r at e ts = braced r.arm ts >>= λ got. switch_3 c room r at e got.0 got.1

abbrev switch_1 : Context → ℕ → Bodies → List Tok → ExprT → List Tok → Result (Got StmtT) Fault
switch_1 c room r at e ts = open_brace ts >>= λ us. switch_2 c room r at e us

abbrev switch_0 : Context → ℕ → Bodies → List Tok → List Tok → Result (Got StmtT) Fault
switch_0 c room r at ts = test_at c room ts >>= λ got. switch_1 c room r at got.0 got.1

abbrev return_2 : Context → ℕ → Bodies → List Tok → (Option ExprT) → List Tok → Result (Got StmtT) Fault
return_2 c room r at x ts = Ok (ReturnS x (span c at ts), ts)

abbrev return_1 : Context → ℕ → Bodies → List Tok → (Option ExprT) → List Tok → Result (Got StmtT) Fault
return_1 c room r at x ts = semicolon ts >>= λ us. return_2 c room r at x us

abbrev return_0 : Context → ℕ → Bodies → List Tok → List Tok → Result (Got StmtT) Fault
return_0 c room r at ts = maybe_at c room ts >>= λ got. return_1 c room r at got.0 got.1

abbrev break_1 : Context → ℕ → Bodies → List Tok → List Tok → Result (Got StmtT) Fault
break_1 c room r at ts = Ok (BreakS (span c at ts), ts)

abbrev break_0 : Context → ℕ → Bodies → List Tok → List Tok → Result (Got StmtT) Fault
break_0 c room r at ts = semicolon ts >>= λ us. break_1 c room r at us

abbrev continue_1 : Context → ℕ → Bodies → List Tok → List Tok → Result (Got StmtT) Fault
continue_1 c room r at ts = Ok (ContinueS (span c at ts), ts)

abbrev continue_0 : Context → ℕ → Bodies → List Tok → List Tok → Result (Got StmtT) Fault
continue_0 c room r at ts = semicolon ts >>= λ us. continue_1 c room r at us

abbrev expr_stmt_2 : Context → ℕ → Bodies → List Tok → ExprT → List Tok → Result (Got StmtT) Fault
expr_stmt_2 c room r at e ts = Ok (DoS e, ts)

abbrev expr_stmt_1 : Context → ℕ → Bodies → List Tok → ExprT → List Tok → Result (Got StmtT) Fault
expr_stmt_1 c room r at e ts = semicolon ts >>= λ us. expr_stmt_2 c room r at e us

abbrev expr_stmt_0 : Context → ℕ → Bodies → List Tok → List Tok → Result (Got StmtT) Fault
expr_stmt_0 c room r at ts = expr_at c room ts >>= λ got. expr_stmt_1 c room r at got.0 got.1

abbrev case_2 : Context → ℕ → Bodies → List Tok → ExprT → List Tok → Result (Got ArmT) Fault
case_2 c room r at e ts = Ok (CaseA e (span c at ts), ts)

abbrev case_1 : Context → ℕ → Bodies → List Tok → ExprT → List Tok → Result (Got ArmT) Fault
case_1 c room r at e ts = colon ts >>= λ us. case_2 c room r at e us

abbrev case_0 : Context → ℕ → Bodies → List Tok → List Tok → Result (Got ArmT) Fault
case_0 c room r at ts = level_at c room 10 ts >>= λ got. case_1 c room r at got.0 got.1

abbrev default_1 : Context → ℕ → Bodies → List Tok → List Tok → Result (Got ArmT) Fault
default_1 c room r at ts = Ok (DefaultA (span c at ts), ts)

abbrev default_0 : Context → ℕ → Bodies → List Tok → List Tok → Result (Got ArmT) Fault
default_0 c room r at ts = colon ts >>= λ us. default_1 c room r at us

abbrev arm_stmt_1 : Context → ℕ → Bodies → List Tok → StmtT → List Tok → Result (Got ArmT) Fault
arm_stmt_1 c room r at s ts = Ok (StmtA s, ts)

abbrev arm_stmt_0 : Context → ℕ → Bodies → List Tok → List Tok → Result (Got ArmT) Fault
arm_stmt_0 c room r at ts = r.stmt ts >>= λ got. arm_stmt_1 c room r at got.0 got.1

abbrev if_1 : Context → ℕ → Bodies → List Tok → ExprT → List Tok → Result (Got StmtT) Fault
if_1 c room r at e ts = r.stmt ts >>= λ s. if_by c r at e s.0 s.1 (at_else_word s.1)

abbrev if_0 : Context → ℕ → Bodies → List Tok → List Tok → Result (Got StmtT) Fault
if_0 c room r at ts = test_at c room ts >>= λ e. if_1 c room r at e.0 e.1

-- behind the token up to which they agree come more in the one and more' in the other
module _ (more more' : List Tok) where
  -- the words of Locality, for these lists
  abbrev Agree : List Tok → List Tok → Type 0
  Agree ts ts' = Locality.Agree more more' ts ts'

  abbrev Gone : List Tok → Type 0
  Gone ts = Locality.Gone more more' ts

  abbrev Alike : {A : Type 0} → Got A → Got A → Type 0
  Alike x y = Locality.Alike more more' x y

  abbrev Beyond : {A : Type 0} → Got A → Type 0
  Beyond x = Locality.Beyond more more' x

  abbrev SameGot : {A : Type 0} → Result (Got A) Fault → Result (Got A) Fault → Type 0
  SameGot r r' = Locality.SameGot more more' r r'

  abbrev PastGot : {A : Type 0} → Result (Got A) Fault → Type 0
  PastGot r = Locality.PastGot more more' r

  abbrev Local : {A : Type 0} → Reader A → Reader A → Type 0
  Local f f' = Locality.Local more more' f f'

  -- the two contexts have the same names of types, and differ as the lists do in their lengths
  module _ (total total' : ℕ) (shift : total + length more' ≡ total' + length more) where
    abbrev one : List (List ℕ) → Context
    one types = record { total = total; types = types }

    abbrev other : List (List ℕ) → Context
    other types = record { total = total'; types = types }

    span_same : (types : List (List ℕ)) {at at' ts ts' : List Tok} → Agree at at' → Agree ts ts' → span (one types) at ts ≡ span (other types) at' ts'
    span_same types a b = LocalExpressions.span_same more more' total total' shift types a b

    module _ (types : List (List ℕ)) (take : TurnsTake more more' total total' shift types) (lists : ListsTake more more' total total' shift types take) where
      abbrev all : (n : ℕ) → LocalReaders more more' total total' shift types (readers (one types) n) (readers (other types) n)
      all n = readers_are_local more more' total total' shift types take n

      begins_expr_same : {ts ts' : List Tok} → Agree ts ts' → begins_expr (one types) ts ≡ begins_expr (other types) ts'
      begins_expr_same w = LocalExpressions.begins_expr_same more more' total total' shift types w

      begins_type_same : {ts ts' : List Tok} → Agree ts ts' → begins_type (one types) ts ≡ begins_type (other types) ts'
      begins_type_same w = LocalExpressions.begins_type_same more more' total total' shift types w

      vars_is_local : (room : ℕ) → Local (vars_at (one types) room) (vars_at (other types) room)
      vars_is_local room = LocalDeclarations.vars_is_local more more' total total' shift types take lists room

      maybe_short : (room : ℕ) (b : Bool) (ts : List Tok) → Gone ts → PastGot (maybe_by (one types) room ts b)
      maybe_short room false ts g = g
      maybe_short room true ts g = bind_past more more' Beyond Beyond (expr_at (one types) room ts) (λ e. Ok (Some e.0, e.1)) ((all room).whole.short ts g) (λ x p. p)

      maybe_both : (room : ℕ) (b : Bool) (ts ts' : List Tok) → Agree ts ts' → SameGot (maybe_by (one types) room ts b) (maybe_by (other types) room ts' b)
      maybe_both room false ts ts' w = read (refl, w)
      maybe_both room true ts ts' w = bind_got more more' Alike Beyond ((all room).whole.same ts ts' w) (λ e. Ok (Some e.0, e.1)) (λ e. Ok (Some e.0, e.1)) (λ e us us' v. read (refl, v)) (λ x p. p)

      maybe_is_local : (room : ℕ) → Local (maybe_at (one types) room) (maybe_at (other types) room)
      maybe_is_local room = record {
        short = λ ts g. maybe_short room (begins_expr (one types) ts) ts g;
        same = λ ts ts' w. rw (begins_expr_same w) (maybe_both room (begins_expr (other types) ts') ts ts' w);
      }

      first_short : (room : ℕ) (b e : Bool) (ts : List Tok) → Gone ts → PastGot (first_by (one types) room ts b e)
      first_short room true e ts g = bind_past more more' Beyond Beyond (vars_at (one types) room ts) (λ vs. Ok (SomeS (VarsS vs.0 (span (one types) ts vs.1)), vs.1)) ((vars_is_local room).short ts g) (λ x p. p)
      first_short room false true ts g = bind_past more more' Beyond Beyond (expr_at (one types) room ts) (λ e. Ok (SomeS (DoS e.0), e.1)) ((all room).whole.short ts g) (λ x p. p)
      first_short room false false ts g = g

      first_both : (room : ℕ) (b e : Bool) (ts ts' : List Tok) → Agree ts ts' → SameGot (first_by (one types) room ts b e) (first_by (other types) room ts' b e)
      first_both room true e ts ts' w = bind_got more more' Alike Beyond ((vars_is_local room).same ts ts' w) (λ vs. Ok (SomeS (VarsS vs.0 (span (one types) ts vs.1)), vs.1)) (λ vs. Ok (SomeS (VarsS vs.0 (span (other types) ts' vs.1)), vs.1))
          (λ vs us us' v. read (rw (span_same types w v) refl, v)) (λ x p. p)
      first_both room false true ts ts' w = bind_got more more' Alike Beyond ((all room).whole.same ts ts' w) (λ e. Ok (SomeS (DoS e.0), e.1)) (λ e. Ok (SomeS (DoS e.0), e.1)) (λ e us us' v. read (refl, v)) (λ x p. p)
      first_both room false false ts ts' w = read (refl, w)

      abbrev no_first : Bool → List Tok → Result (Got MaybeS) Fault
      no_first b ts = cond b (no_room true ts) (Ok (NoneS, ts))

      no_first_short : (b : Bool) (ts : List Tok) → Gone ts → PastGot (no_first b ts)
      no_first_short true ts g = g
      no_first_short false ts g = g

      no_first_same : (b : Bool) (ts ts' : List Tok) → Agree ts ts' → SameGot (no_first b ts) (no_first b ts')
      no_first_same true ts ts' w = too_deep w
      no_first_same false ts ts' w = read (refl, w)

      first_is_local : (room : ℕ) → Local (first_at (one types) room) (first_at (other types) room)
      unfolding first_at
      first_is_local zero = record {
        short = λ ts g. no_first_short (begins_type (one types) ts || begins_expr (one types) ts) ts g;
        same = λ ts ts' w. rw (begins_type_same w, begins_expr_same w) (no_first_same (begins_type (other types) ts' || begins_expr (other types) ts') ts ts' w);
      }
      first_is_local (suc room) = record {
        short = λ ts g. first_short room (begins_type (one types) ts) (begins_expr (one types) ts) ts g;
        same = λ ts ts' w. rw (begins_type_same w, begins_expr_same w) (first_both room (begins_type (other types) ts') (begins_expr (other types) ts') ts ts' w);
      }

      -- an expression in parentheses
      tested_past : (room : ℕ) (ts : List Tok) → Gone ts → PastGot (expr_at (one types) room ts >>= λ e. close_paren e.1 >>= λ rest. Ok (e.0, rest))
      tested_past room ts g = bind_past more more' Beyond Beyond (expr_at (one types) room ts) (λ e. close_paren e.1 >>= λ rest. Ok (e.0, rest)) ((all room).whole.short ts g) (closed_past more more')

      tested_same : (room : ℕ) (ts ts' : List Tok) → Agree ts ts' → SameGot (expr_at (one types) room ts >>= λ e. close_paren e.1 >>= λ rest. Ok (e.0, rest)) (expr_at (other types) room ts' >>= λ e. close_paren e.1 >>= λ rest. Ok (e.0, rest))
      tested_same room ts ts' w = bind_got more more' Alike Beyond ((all room).whole.same ts ts' w) (λ e. close_paren e.1 >>= λ rest. Ok (e.0, rest)) (λ e. close_paren e.1 >>= λ rest. Ok (e.0, rest)) (closed_same more more') (closed_past more more')

      test_is_local : (room : ℕ) → Local (test_at (one types) room) (test_at (other types) room)
      test_is_local room = record {
        short = λ ts g. bind_past more more' Gone Beyond (open_paren ts) (λ on. expr_at (one types) room on >>= λ e. close_paren e.1 >>= λ rest. Ok (e.0, rest)) (must_past more more' (at_open_paren ts) ts g) (tested_past room);
        same = λ ts ts' w. bind_tokens more more' Alike Beyond (open_paren_same more more' w) (λ on. expr_at (one types) room on >>= λ e. close_paren e.1 >>= λ rest. Ok (e.0, rest)) (λ on. expr_at (other types) room on >>= λ e. close_paren e.1 >>= λ rest. Ok (e.0, rest))
            (tested_same room) (tested_past room);
      }

      stmt_of_same : (o : Tok) → stmt_of (one types) o ≡ stmt_of (other types) o
      stmt_of_same (keyword k) = refl
      stmt_of_same (refused n) = refl
      stmt_of_same (word n) = refl
      stmt_of_same (number n) = refl
      stmt_of_same (character n) = refl
      stmt_of_same (text t) = refl
      stmt_of_same (mark p) = refl

      stmt_at_same : {ts ts' : List Tok} → Agree ts ts' → stmt_at (one types) ts ≡ stmt_at (other types) ts'
      stmt_at_same (last {o = o}) = stmt_of_same o
      stmt_at_same (next {o = o} a) = stmt_of_same o

      begins_stmt_same : {ts ts' : List Tok} → Agree ts ts' → begins_stmt (one types) ts ≡ begins_stmt (other types) ts'
      begins_stmt_same w = rw (stmt_at_same w, begins_expr_same w) refl

      arm_at_same : {ts ts' : List Tok} → Agree ts ts' → arm_at ts ≡ arm_at ts'
      arm_at_same last = refl
      arm_at_same (next a) = refl

      -- the statements at one less room
      pub record LocalBodies (r r' : Bodies) : Type 0 where
        pub stmt : Local r.stmt r'.stmt
        pub arm : Local r.arm r'.arm
        pub stmts_take : Takes (brace_turn r.stmt)
        pub arms_take : Takes (brace_turn r.arm)

      module _ (room : ℕ) (r r' : Bodies) (body : LocalBodies r r') where
        block_past_2 : (at : List Tok) (ss : List StmtT) (ts : List Tok) → Gone ts → PastGot (block_2 (one types) room r at ss ts)
        block_past_2 at ss ts g = g

        block_same_2 : {at at' : List Tok} → Agree at at' → (ss : List StmtT) (ts ts' : List Tok) → Agree ts ts' → SameGot (block_2 (one types) room r at ss ts) (block_2 (other types) room r' at' ss ts')
        block_same_2 {at = at} {at' = at'} b ss ts ts' w = read (rw (span_same types b w) refl, w)

        block_past_1 : (at : List Tok) (ss : List StmtT) (ts : List Tok) → Gone ts → PastGot (block_1 (one types) room r at ss ts)
        block_past_1 at ss ts g = bind_past more more' Gone Beyond (close_brace ts) (λ us. block_2 (one types) room r at ss us) (must_past more more' (at_close_brace ts) ts g) (λ us p. block_past_2 at ss us p)

        block_same_1 : {at at' : List Tok} → Agree at at' → (ss : List StmtT) (ts ts' : List Tok) → Agree ts ts' → SameGot (block_1 (one types) room r at ss ts) (block_1 (other types) room r' at' ss ts')
        block_same_1 {at = at} {at' = at'} b ss ts ts' w = bind_tokens more more' Alike Beyond (close_brace_same more more' w) (λ us. block_2 (one types) room r at ss us) (λ us. block_2 (other types) room r' at' ss us) (λ us us' u. block_same_2 b ss us us' u) (λ us p. block_past_2 at ss us p)

        block_past_0 : (at : List Tok) (ts : List Tok) → Gone ts → PastGot (block_0 (one types) room r at ts)
        block_past_0 at ts g = bind_past more more' Beyond Beyond (braced r.stmt ts) (λ got. block_1 (one types) room r at got.0 got.1) ((braced_is_local more more' r.stmt r'.stmt body.stmt body.stmts_take).short ts g) (λ got p. block_past_1 at got.0 got.1 p)

        block_same_0 : {at at' : List Tok} → Agree at at' → (ts ts' : List Tok) → Agree ts ts' → SameGot (block_0 (one types) room r at ts) (block_0 (other types) room r' at' ts')
        block_same_0 {at = at} {at' = at'} b ts ts' w = bind_got more more' Alike Beyond ((braced_is_local more more' r.stmt r'.stmt body.stmt body.stmts_take).same ts ts' w) (λ got. block_1 (one types) room r at got.0 got.1) (λ got. block_1 (other types) room r' at' got.0 got.1) (λ v us us' u. block_same_1 b v us us' u) (λ got p. block_past_1 at got.0 got.1 p)

        vars_stmt_past_2 : (at : List Tok) (vs : List VarT) (ts : List Tok) → Gone ts → PastGot (vars_stmt_2 (one types) room r at vs ts)
        vars_stmt_past_2 at vs ts g = g

        vars_stmt_same_2 : {at at' : List Tok} → Agree at at' → (vs : List VarT) (ts ts' : List Tok) → Agree ts ts' → SameGot (vars_stmt_2 (one types) room r at vs ts) (vars_stmt_2 (other types) room r' at' vs ts')
        vars_stmt_same_2 {at = at} {at' = at'} b vs ts ts' w = read (rw (span_same types b w) refl, w)

        vars_stmt_past_1 : (at : List Tok) (vs : List VarT) (ts : List Tok) → Gone ts → PastGot (vars_stmt_1 (one types) room r at vs ts)
        vars_stmt_past_1 at vs ts g = bind_past more more' Gone Beyond (semicolon ts) (λ us. vars_stmt_2 (one types) room r at vs us) (must_past more more' (at_semicolon ts) ts g) (λ us p. vars_stmt_past_2 at vs us p)

        vars_stmt_same_1 : {at at' : List Tok} → Agree at at' → (vs : List VarT) (ts ts' : List Tok) → Agree ts ts' → SameGot (vars_stmt_1 (one types) room r at vs ts) (vars_stmt_1 (other types) room r' at' vs ts')
        vars_stmt_same_1 {at = at} {at' = at'} b vs ts ts' w = bind_tokens more more' Alike Beyond (semicolon_same more more' w) (λ us. vars_stmt_2 (one types) room r at vs us) (λ us. vars_stmt_2 (other types) room r' at' vs us) (λ us us' u. vars_stmt_same_2 b vs us us' u) (λ us p. vars_stmt_past_2 at vs us p)

        vars_stmt_past_0 : (at : List Tok) (ts : List Tok) → Gone ts → PastGot (vars_stmt_0 (one types) room r at ts)
        vars_stmt_past_0 at ts g = bind_past more more' Beyond Beyond (vars_at (one types) room ts) (λ got. vars_stmt_1 (one types) room r at got.0 got.1) ((vars_is_local room).short ts g) (λ got p. vars_stmt_past_1 at got.0 got.1 p)

        vars_stmt_same_0 : {at at' : List Tok} → Agree at at' → (ts ts' : List Tok) → Agree ts ts' → SameGot (vars_stmt_0 (one types) room r at ts) (vars_stmt_0 (other types) room r' at' ts')
        vars_stmt_same_0 {at = at} {at' = at'} b ts ts' w = bind_got more more' Alike Beyond ((vars_is_local room).same ts ts' w) (λ got. vars_stmt_1 (one types) room r at got.0 got.1) (λ got. vars_stmt_1 (other types) room r' at' got.0 got.1) (λ v us us' u. vars_stmt_same_1 b v us us' u) (λ got p. vars_stmt_past_1 at got.0 got.1 p)

        while_past_2 : (at : List Tok) (e : ExprT) (s : StmtT) (ts : List Tok) → Gone ts → PastGot (while_2 (one types) room r at e s ts)
        while_past_2 at e s ts g = g

        while_same_2 : {at at' : List Tok} → Agree at at' → (e : ExprT) (s : StmtT) (ts ts' : List Tok) → Agree ts ts' → SameGot (while_2 (one types) room r at e s ts) (while_2 (other types) room r' at' e s ts')
        while_same_2 {at = at} {at' = at'} b e s ts ts' w = read (rw (span_same types b w) refl, w)

        while_past_1 : (at : List Tok) (e : ExprT) (ts : List Tok) → Gone ts → PastGot (while_1 (one types) room r at e ts)
        while_past_1 at e ts g = bind_past more more' Beyond Beyond (r.stmt ts) (λ got. while_2 (one types) room r at e got.0 got.1) (body.stmt.short ts g) (λ got p. while_past_2 at e got.0 got.1 p)

        while_same_1 : {at at' : List Tok} → Agree at at' → (e : ExprT) (ts ts' : List Tok) → Agree ts ts' → SameGot (while_1 (one types) room r at e ts) (while_1 (other types) room r' at' e ts')
        while_same_1 {at = at} {at' = at'} b e ts ts' w = bind_got more more' Alike Beyond (body.stmt.same ts ts' w) (λ got. while_2 (one types) room r at e got.0 got.1) (λ got. while_2 (other types) room r' at' e got.0 got.1) (λ v us us' u. while_same_2 b e v us us' u) (λ got p. while_past_2 at e got.0 got.1 p)

        while_past_0 : (at : List Tok) (ts : List Tok) → Gone ts → PastGot (while_0 (one types) room r at ts)
        while_past_0 at ts g = bind_past more more' Beyond Beyond (test_at (one types) room ts) (λ got. while_1 (one types) room r at got.0 got.1) ((test_is_local room).short ts g) (λ got p. while_past_1 at got.0 got.1 p)

        while_same_0 : {at at' : List Tok} → Agree at at' → (ts ts' : List Tok) → Agree ts ts' → SameGot (while_0 (one types) room r at ts) (while_0 (other types) room r' at' ts')
        while_same_0 {at = at} {at' = at'} b ts ts' w = bind_got more more' Alike Beyond ((test_is_local room).same ts ts' w) (λ got. while_1 (one types) room r at got.0 got.1) (λ got. while_1 (other types) room r' at' got.0 got.1) (λ v us us' u. while_same_1 b v us us' u) (λ got p. while_past_1 at got.0 got.1 p)

        do_past_4 : (at : List Tok) (s : StmtT) (e : ExprT) (ts : List Tok) → Gone ts → PastGot (do_4 (one types) room r at s e ts)
        do_past_4 at s e ts g = g

        do_same_4 : {at at' : List Tok} → Agree at at' → (s : StmtT) (e : ExprT) (ts ts' : List Tok) → Agree ts ts' → SameGot (do_4 (one types) room r at s e ts) (do_4 (other types) room r' at' s e ts')
        do_same_4 {at = at} {at' = at'} b s e ts ts' w = read (rw (span_same types b w) refl, w)

        do_past_3 : (at : List Tok) (s : StmtT) (e : ExprT) (ts : List Tok) → Gone ts → PastGot (do_3 (one types) room r at s e ts)
        do_past_3 at s e ts g = bind_past more more' Gone Beyond (semicolon ts) (λ us. do_4 (one types) room r at s e us) (must_past more more' (at_semicolon ts) ts g) (λ us p. do_past_4 at s e us p)

        do_same_3 : {at at' : List Tok} → Agree at at' → (s : StmtT) (e : ExprT) (ts ts' : List Tok) → Agree ts ts' → SameGot (do_3 (one types) room r at s e ts) (do_3 (other types) room r' at' s e ts')
        do_same_3 {at = at} {at' = at'} b s e ts ts' w = bind_tokens more more' Alike Beyond (semicolon_same more more' w) (λ us. do_4 (one types) room r at s e us) (λ us. do_4 (other types) room r' at' s e us) (λ us us' u. do_same_4 b s e us us' u) (λ us p. do_past_4 at s e us p)

        do_past_2 : (at : List Tok) (s : StmtT) (ts : List Tok) → Gone ts → PastGot (do_2 (one types) room r at s ts)
        do_past_2 at s ts g = bind_past more more' Beyond Beyond (test_at (one types) room ts) (λ got. do_3 (one types) room r at s got.0 got.1) ((test_is_local room).short ts g) (λ got p. do_past_3 at s got.0 got.1 p)

        do_same_2 : {at at' : List Tok} → Agree at at' → (s : StmtT) (ts ts' : List Tok) → Agree ts ts' → SameGot (do_2 (one types) room r at s ts) (do_2 (other types) room r' at' s ts')
        do_same_2 {at = at} {at' = at'} b s ts ts' w = bind_got more more' Alike Beyond ((test_is_local room).same ts ts' w) (λ got. do_3 (one types) room r at s got.0 got.1) (λ got. do_3 (other types) room r' at' s got.0 got.1) (λ v us us' u. do_same_3 b s v us us' u) (λ got p. do_past_3 at s got.0 got.1 p)

        do_past_1 : (at : List Tok) (s : StmtT) (ts : List Tok) → Gone ts → PastGot (do_1 (one types) room r at s ts)
        do_past_1 at s ts g = bind_past more more' Gone Beyond (while_word ts) (λ us. do_2 (one types) room r at s us) (must_past more more' (at_while_word ts) ts g) (λ us p. do_past_2 at s us p)

        do_same_1 : {at at' : List Tok} → Agree at at' → (s : StmtT) (ts ts' : List Tok) → Agree ts ts' → SameGot (do_1 (one types) room r at s ts) (do_1 (other types) room r' at' s ts')
        do_same_1 {at = at} {at' = at'} b s ts ts' w = bind_tokens more more' Alike Beyond (while_word_same more more' w) (λ us. do_2 (one types) room r at s us) (λ us. do_2 (other types) room r' at' s us) (λ us us' u. do_same_2 b s us us' u) (λ us p. do_past_2 at s us p)

        do_past_0 : (at : List Tok) (ts : List Tok) → Gone ts → PastGot (do_0 (one types) room r at ts)
        do_past_0 at ts g = bind_past more more' Beyond Beyond (r.stmt ts) (λ got. do_1 (one types) room r at got.0 got.1) (body.stmt.short ts g) (λ got p. do_past_1 at got.0 got.1 p)

        do_same_0 : {at at' : List Tok} → Agree at at' → (ts ts' : List Tok) → Agree ts ts' → SameGot (do_0 (one types) room r at ts) (do_0 (other types) room r' at' ts')
        do_same_0 {at = at} {at' = at'} b ts ts' w = bind_got more more' Alike Beyond (body.stmt.same ts ts' w) (λ got. do_1 (one types) room r at got.0 got.1) (λ got. do_1 (other types) room r' at' got.0 got.1) (λ v us us' u. do_same_1 b v us us' u) (λ got p. do_past_1 at got.0 got.1 p)

        for_past_8 : (at : List Tok) (f : MaybeS) (x : Option ExprT) (y : Option ExprT) (s : StmtT) (ts : List Tok) → Gone ts → PastGot (for_8 (one types) room r at f x y s ts)
        for_past_8 at f x y s ts g = g

        for_same_8 : {at at' : List Tok} → Agree at at' → (f : MaybeS) (x : Option ExprT) (y : Option ExprT) (s : StmtT) (ts ts' : List Tok) → Agree ts ts' → SameGot (for_8 (one types) room r at f x y s ts) (for_8 (other types) room r' at' f x y s ts')
        for_same_8 {at = at} {at' = at'} b f x y s ts ts' w = read (rw (span_same types b w) refl, w)

        for_past_7 : (at : List Tok) (f : MaybeS) (x : Option ExprT) (y : Option ExprT) (ts : List Tok) → Gone ts → PastGot (for_7 (one types) room r at f x y ts)
        for_past_7 at f x y ts g = bind_past more more' Beyond Beyond (r.stmt ts) (λ got. for_8 (one types) room r at f x y got.0 got.1) (body.stmt.short ts g) (λ got p. for_past_8 at f x y got.0 got.1 p)

        for_same_7 : {at at' : List Tok} → Agree at at' → (f : MaybeS) (x : Option ExprT) (y : Option ExprT) (ts ts' : List Tok) → Agree ts ts' → SameGot (for_7 (one types) room r at f x y ts) (for_7 (other types) room r' at' f x y ts')
        for_same_7 {at = at} {at' = at'} b f x y ts ts' w = bind_got more more' Alike Beyond (body.stmt.same ts ts' w) (λ got. for_8 (one types) room r at f x y got.0 got.1) (λ got. for_8 (other types) room r' at' f x y got.0 got.1) (λ v us us' u. for_same_8 b f x y v us us' u) (λ got p. for_past_8 at f x y got.0 got.1 p)

        for_past_6 : (at : List Tok) (f : MaybeS) (x : Option ExprT) (y : Option ExprT) (ts : List Tok) → Gone ts → PastGot (for_6 (one types) room r at f x y ts)
        for_past_6 at f x y ts g = bind_past more more' Gone Beyond (close_paren ts) (λ us. for_7 (one types) room r at f x y us) (must_past more more' (at_close_paren ts) ts g) (λ us p. for_past_7 at f x y us p)

        for_same_6 : {at at' : List Tok} → Agree at at' → (f : MaybeS) (x : Option ExprT) (y : Option ExprT) (ts ts' : List Tok) → Agree ts ts' → SameGot (for_6 (one types) room r at f x y ts) (for_6 (other types) room r' at' f x y ts')
        for_same_6 {at = at} {at' = at'} b f x y ts ts' w = bind_tokens more more' Alike Beyond (close_paren_same more more' w) (λ us. for_7 (one types) room r at f x y us) (λ us. for_7 (other types) room r' at' f x y us) (λ us us' u. for_same_7 b f x y us us' u) (λ us p. for_past_7 at f x y us p)

        for_past_5 : (at : List Tok) (f : MaybeS) (x : Option ExprT) (ts : List Tok) → Gone ts → PastGot (for_5 (one types) room r at f x ts)
        for_past_5 at f x ts g = bind_past more more' Beyond Beyond (maybe_at (one types) room ts) (λ got. for_6 (one types) room r at f x got.0 got.1) ((maybe_is_local room).short ts g) (λ got p. for_past_6 at f x got.0 got.1 p)

        for_same_5 : {at at' : List Tok} → Agree at at' → (f : MaybeS) (x : Option ExprT) (ts ts' : List Tok) → Agree ts ts' → SameGot (for_5 (one types) room r at f x ts) (for_5 (other types) room r' at' f x ts')
        for_same_5 {at = at} {at' = at'} b f x ts ts' w = bind_got more more' Alike Beyond ((maybe_is_local room).same ts ts' w) (λ got. for_6 (one types) room r at f x got.0 got.1) (λ got. for_6 (other types) room r' at' f x got.0 got.1) (λ v us us' u. for_same_6 b f x v us us' u) (λ got p. for_past_6 at f x got.0 got.1 p)

        for_past_4 : (at : List Tok) (f : MaybeS) (x : Option ExprT) (ts : List Tok) → Gone ts → PastGot (for_4 (one types) room r at f x ts)
        for_past_4 at f x ts g = bind_past more more' Gone Beyond (semicolon ts) (λ us. for_5 (one types) room r at f x us) (must_past more more' (at_semicolon ts) ts g) (λ us p. for_past_5 at f x us p)

        for_same_4 : {at at' : List Tok} → Agree at at' → (f : MaybeS) (x : Option ExprT) (ts ts' : List Tok) → Agree ts ts' → SameGot (for_4 (one types) room r at f x ts) (for_4 (other types) room r' at' f x ts')
        for_same_4 {at = at} {at' = at'} b f x ts ts' w = bind_tokens more more' Alike Beyond (semicolon_same more more' w) (λ us. for_5 (one types) room r at f x us) (λ us. for_5 (other types) room r' at' f x us) (λ us us' u. for_same_5 b f x us us' u) (λ us p. for_past_5 at f x us p)

        for_past_3 : (at : List Tok) (f : MaybeS) (ts : List Tok) → Gone ts → PastGot (for_3 (one types) room r at f ts)
        for_past_3 at f ts g = bind_past more more' Beyond Beyond (maybe_at (one types) room ts) (λ got. for_4 (one types) room r at f got.0 got.1) ((maybe_is_local room).short ts g) (λ got p. for_past_4 at f got.0 got.1 p)

        for_same_3 : {at at' : List Tok} → Agree at at' → (f : MaybeS) (ts ts' : List Tok) → Agree ts ts' → SameGot (for_3 (one types) room r at f ts) (for_3 (other types) room r' at' f ts')
        for_same_3 {at = at} {at' = at'} b f ts ts' w = bind_got more more' Alike Beyond ((maybe_is_local room).same ts ts' w) (λ got. for_4 (one types) room r at f got.0 got.1) (λ got. for_4 (other types) room r' at' f got.0 got.1) (λ v us us' u. for_same_4 b f v us us' u) (λ got p. for_past_4 at f got.0 got.1 p)

        for_past_2 : (at : List Tok) (f : MaybeS) (ts : List Tok) → Gone ts → PastGot (for_2 (one types) room r at f ts)
        for_past_2 at f ts g = bind_past more more' Gone Beyond (semicolon ts) (λ us. for_3 (one types) room r at f us) (must_past more more' (at_semicolon ts) ts g) (λ us p. for_past_3 at f us p)

        for_same_2 : {at at' : List Tok} → Agree at at' → (f : MaybeS) (ts ts' : List Tok) → Agree ts ts' → SameGot (for_2 (one types) room r at f ts) (for_2 (other types) room r' at' f ts')
        for_same_2 {at = at} {at' = at'} b f ts ts' w = bind_tokens more more' Alike Beyond (semicolon_same more more' w) (λ us. for_3 (one types) room r at f us) (λ us. for_3 (other types) room r' at' f us) (λ us us' u. for_same_3 b f us us' u) (λ us p. for_past_3 at f us p)

        for_past_1 : (at : List Tok) (ts : List Tok) → Gone ts → PastGot (for_1 (one types) room r at ts)
        for_past_1 at ts g = bind_past more more' Beyond Beyond (first_at (one types) room ts) (λ got. for_2 (one types) room r at got.0 got.1) ((first_is_local room).short ts g) (λ got p. for_past_2 at got.0 got.1 p)

        for_same_1 : {at at' : List Tok} → Agree at at' → (ts ts' : List Tok) → Agree ts ts' → SameGot (for_1 (one types) room r at ts) (for_1 (other types) room r' at' ts')
        for_same_1 {at = at} {at' = at'} b ts ts' w = bind_got more more' Alike Beyond ((first_is_local room).same ts ts' w) (λ got. for_2 (one types) room r at got.0 got.1) (λ got. for_2 (other types) room r' at' got.0 got.1) (λ v us us' u. for_same_2 b v us us' u) (λ got p. for_past_2 at got.0 got.1 p)

        for_past_0 : (at : List Tok) (ts : List Tok) → Gone ts → PastGot (for_0 (one types) room r at ts)
        for_past_0 at ts g = bind_past more more' Gone Beyond (open_paren ts) (λ us. for_1 (one types) room r at us) (must_past more more' (at_open_paren ts) ts g) (λ us p. for_past_1 at us p)

        for_same_0 : {at at' : List Tok} → Agree at at' → (ts ts' : List Tok) → Agree ts ts' → SameGot (for_0 (one types) room r at ts) (for_0 (other types) room r' at' ts')
        for_same_0 {at = at} {at' = at'} b ts ts' w = bind_tokens more more' Alike Beyond (open_paren_same more more' w) (λ us. for_1 (one types) room r at us) (λ us. for_1 (other types) room r' at' us) (λ us us' u. for_same_1 b us us' u) (λ us p. for_past_1 at us p)

        switch_past_4 : (at : List Tok) (e : ExprT) (xs : List ArmT) (ts : List Tok) → Gone ts → PastGot (switch_4 (one types) room r at e xs ts)
        switch_past_4 at e xs ts g = g

        switch_same_4 : {at at' : List Tok} → Agree at at' → (e : ExprT) (xs : List ArmT) (ts ts' : List Tok) → Agree ts ts' → SameGot (switch_4 (one types) room r at e xs ts) (switch_4 (other types) room r' at' e xs ts')
        switch_same_4 {at = at} {at' = at'} b e xs ts ts' w = read (rw (span_same types b w) refl, w)

        switch_past_3 : (at : List Tok) (e : ExprT) (xs : List ArmT) (ts : List Tok) → Gone ts → PastGot (switch_3 (one types) room r at e xs ts)
        switch_past_3 at e xs ts g = bind_past more more' Gone Beyond (close_brace ts) (λ us. switch_4 (one types) room r at e xs us) (must_past more more' (at_close_brace ts) ts g) (λ us p. switch_past_4 at e xs us p)

        switch_same_3 : {at at' : List Tok} → Agree at at' → (e : ExprT) (xs : List ArmT) (ts ts' : List Tok) → Agree ts ts' → SameGot (switch_3 (one types) room r at e xs ts) (switch_3 (other types) room r' at' e xs ts')
        switch_same_3 {at = at} {at' = at'} b e xs ts ts' w = bind_tokens more more' Alike Beyond (close_brace_same more more' w) (λ us. switch_4 (one types) room r at e xs us) (λ us. switch_4 (other types) room r' at' e xs us) (λ us us' u. switch_same_4 b e xs us us' u) (λ us p. switch_past_4 at e xs us p)

        switch_past_2 : (at : List Tok) (e : ExprT) (ts : List Tok) → Gone ts → PastGot (switch_2 (one types) room r at e ts)
        switch_past_2 at e ts g = bind_past more more' Beyond Beyond (braced r.arm ts) (λ got. switch_3 (one types) room r at e got.0 got.1) ((braced_is_local more more' r.arm r'.arm body.arm body.arms_take).short ts g) (λ got p. switch_past_3 at e got.0 got.1 p)

        switch_same_2 : {at at' : List Tok} → Agree at at' → (e : ExprT) (ts ts' : List Tok) → Agree ts ts' → SameGot (switch_2 (one types) room r at e ts) (switch_2 (other types) room r' at' e ts')
        switch_same_2 {at = at} {at' = at'} b e ts ts' w = bind_got more more' Alike Beyond ((braced_is_local more more' r.arm r'.arm body.arm body.arms_take).same ts ts' w) (λ got. switch_3 (one types) room r at e got.0 got.1) (λ got. switch_3 (other types) room r' at' e got.0 got.1) (λ v us us' u. switch_same_3 b e v us us' u) (λ got p. switch_past_3 at e got.0 got.1 p)

        switch_past_1 : (at : List Tok) (e : ExprT) (ts : List Tok) → Gone ts → PastGot (switch_1 (one types) room r at e ts)
        switch_past_1 at e ts g = bind_past more more' Gone Beyond (open_brace ts) (λ us. switch_2 (one types) room r at e us) (must_past more more' (at_open_brace ts) ts g) (λ us p. switch_past_2 at e us p)

        switch_same_1 : {at at' : List Tok} → Agree at at' → (e : ExprT) (ts ts' : List Tok) → Agree ts ts' → SameGot (switch_1 (one types) room r at e ts) (switch_1 (other types) room r' at' e ts')
        switch_same_1 {at = at} {at' = at'} b e ts ts' w = bind_tokens more more' Alike Beyond (open_brace_same more more' w) (λ us. switch_2 (one types) room r at e us) (λ us. switch_2 (other types) room r' at' e us) (λ us us' u. switch_same_2 b e us us' u) (λ us p. switch_past_2 at e us p)

        switch_past_0 : (at : List Tok) (ts : List Tok) → Gone ts → PastGot (switch_0 (one types) room r at ts)
        switch_past_0 at ts g = bind_past more more' Beyond Beyond (test_at (one types) room ts) (λ got. switch_1 (one types) room r at got.0 got.1) ((test_is_local room).short ts g) (λ got p. switch_past_1 at got.0 got.1 p)

        switch_same_0 : {at at' : List Tok} → Agree at at' → (ts ts' : List Tok) → Agree ts ts' → SameGot (switch_0 (one types) room r at ts) (switch_0 (other types) room r' at' ts')
        switch_same_0 {at = at} {at' = at'} b ts ts' w = bind_got more more' Alike Beyond ((test_is_local room).same ts ts' w) (λ got. switch_1 (one types) room r at got.0 got.1) (λ got. switch_1 (other types) room r' at' got.0 got.1) (λ v us us' u. switch_same_1 b v us us' u) (λ got p. switch_past_1 at got.0 got.1 p)

        return_past_2 : (at : List Tok) (x : Option ExprT) (ts : List Tok) → Gone ts → PastGot (return_2 (one types) room r at x ts)
        return_past_2 at x ts g = g

        return_same_2 : {at at' : List Tok} → Agree at at' → (x : Option ExprT) (ts ts' : List Tok) → Agree ts ts' → SameGot (return_2 (one types) room r at x ts) (return_2 (other types) room r' at' x ts')
        return_same_2 {at = at} {at' = at'} b x ts ts' w = read (rw (span_same types b w) refl, w)

        return_past_1 : (at : List Tok) (x : Option ExprT) (ts : List Tok) → Gone ts → PastGot (return_1 (one types) room r at x ts)
        return_past_1 at x ts g = bind_past more more' Gone Beyond (semicolon ts) (λ us. return_2 (one types) room r at x us) (must_past more more' (at_semicolon ts) ts g) (λ us p. return_past_2 at x us p)

        return_same_1 : {at at' : List Tok} → Agree at at' → (x : Option ExprT) (ts ts' : List Tok) → Agree ts ts' → SameGot (return_1 (one types) room r at x ts) (return_1 (other types) room r' at' x ts')
        return_same_1 {at = at} {at' = at'} b x ts ts' w = bind_tokens more more' Alike Beyond (semicolon_same more more' w) (λ us. return_2 (one types) room r at x us) (λ us. return_2 (other types) room r' at' x us) (λ us us' u. return_same_2 b x us us' u) (λ us p. return_past_2 at x us p)

        return_past_0 : (at : List Tok) (ts : List Tok) → Gone ts → PastGot (return_0 (one types) room r at ts)
        return_past_0 at ts g = bind_past more more' Beyond Beyond (maybe_at (one types) room ts) (λ got. return_1 (one types) room r at got.0 got.1) ((maybe_is_local room).short ts g) (λ got p. return_past_1 at got.0 got.1 p)

        return_same_0 : {at at' : List Tok} → Agree at at' → (ts ts' : List Tok) → Agree ts ts' → SameGot (return_0 (one types) room r at ts) (return_0 (other types) room r' at' ts')
        return_same_0 {at = at} {at' = at'} b ts ts' w = bind_got more more' Alike Beyond ((maybe_is_local room).same ts ts' w) (λ got. return_1 (one types) room r at got.0 got.1) (λ got. return_1 (other types) room r' at' got.0 got.1) (λ v us us' u. return_same_1 b v us us' u) (λ got p. return_past_1 at got.0 got.1 p)

        break_past_1 : (at : List Tok) (ts : List Tok) → Gone ts → PastGot (break_1 (one types) room r at ts)
        break_past_1 at ts g = g

        break_same_1 : {at at' : List Tok} → Agree at at' → (ts ts' : List Tok) → Agree ts ts' → SameGot (break_1 (one types) room r at ts) (break_1 (other types) room r' at' ts')
        break_same_1 {at = at} {at' = at'} b ts ts' w = read (rw (span_same types b w) refl, w)

        break_past_0 : (at : List Tok) (ts : List Tok) → Gone ts → PastGot (break_0 (one types) room r at ts)
        break_past_0 at ts g = bind_past more more' Gone Beyond (semicolon ts) (λ us. break_1 (one types) room r at us) (must_past more more' (at_semicolon ts) ts g) (λ us p. break_past_1 at us p)

        break_same_0 : {at at' : List Tok} → Agree at at' → (ts ts' : List Tok) → Agree ts ts' → SameGot (break_0 (one types) room r at ts) (break_0 (other types) room r' at' ts')
        break_same_0 {at = at} {at' = at'} b ts ts' w = bind_tokens more more' Alike Beyond (semicolon_same more more' w) (λ us. break_1 (one types) room r at us) (λ us. break_1 (other types) room r' at' us) (λ us us' u. break_same_1 b us us' u) (λ us p. break_past_1 at us p)

        continue_past_1 : (at : List Tok) (ts : List Tok) → Gone ts → PastGot (continue_1 (one types) room r at ts)
        continue_past_1 at ts g = g

        continue_same_1 : {at at' : List Tok} → Agree at at' → (ts ts' : List Tok) → Agree ts ts' → SameGot (continue_1 (one types) room r at ts) (continue_1 (other types) room r' at' ts')
        continue_same_1 {at = at} {at' = at'} b ts ts' w = read (rw (span_same types b w) refl, w)

        continue_past_0 : (at : List Tok) (ts : List Tok) → Gone ts → PastGot (continue_0 (one types) room r at ts)
        continue_past_0 at ts g = bind_past more more' Gone Beyond (semicolon ts) (λ us. continue_1 (one types) room r at us) (must_past more more' (at_semicolon ts) ts g) (λ us p. continue_past_1 at us p)

        continue_same_0 : {at at' : List Tok} → Agree at at' → (ts ts' : List Tok) → Agree ts ts' → SameGot (continue_0 (one types) room r at ts) (continue_0 (other types) room r' at' ts')
        continue_same_0 {at = at} {at' = at'} b ts ts' w = bind_tokens more more' Alike Beyond (semicolon_same more more' w) (λ us. continue_1 (one types) room r at us) (λ us. continue_1 (other types) room r' at' us) (λ us us' u. continue_same_1 b us us' u) (λ us p. continue_past_1 at us p)

        expr_stmt_past_2 : (at : List Tok) (e : ExprT) (ts : List Tok) → Gone ts → PastGot (expr_stmt_2 (one types) room r at e ts)
        expr_stmt_past_2 at e ts g = g

        expr_stmt_same_2 : {at at' : List Tok} → Agree at at' → (e : ExprT) (ts ts' : List Tok) → Agree ts ts' → SameGot (expr_stmt_2 (one types) room r at e ts) (expr_stmt_2 (other types) room r' at' e ts')
        expr_stmt_same_2 {at = at} {at' = at'} b e ts ts' w = read (refl, w)

        expr_stmt_past_1 : (at : List Tok) (e : ExprT) (ts : List Tok) → Gone ts → PastGot (expr_stmt_1 (one types) room r at e ts)
        expr_stmt_past_1 at e ts g = bind_past more more' Gone Beyond (semicolon ts) (λ us. expr_stmt_2 (one types) room r at e us) (must_past more more' (at_semicolon ts) ts g) (λ us p. expr_stmt_past_2 at e us p)

        expr_stmt_same_1 : {at at' : List Tok} → Agree at at' → (e : ExprT) (ts ts' : List Tok) → Agree ts ts' → SameGot (expr_stmt_1 (one types) room r at e ts) (expr_stmt_1 (other types) room r' at' e ts')
        expr_stmt_same_1 {at = at} {at' = at'} b e ts ts' w = bind_tokens more more' Alike Beyond (semicolon_same more more' w) (λ us. expr_stmt_2 (one types) room r at e us) (λ us. expr_stmt_2 (other types) room r' at' e us) (λ us us' u. expr_stmt_same_2 b e us us' u) (λ us p. expr_stmt_past_2 at e us p)

        expr_stmt_past_0 : (at : List Tok) (ts : List Tok) → Gone ts → PastGot (expr_stmt_0 (one types) room r at ts)
        expr_stmt_past_0 at ts g = bind_past more more' Beyond Beyond (expr_at (one types) room ts) (λ got. expr_stmt_1 (one types) room r at got.0 got.1) ((all room).whole.short ts g) (λ got p. expr_stmt_past_1 at got.0 got.1 p)

        expr_stmt_same_0 : {at at' : List Tok} → Agree at at' → (ts ts' : List Tok) → Agree ts ts' → SameGot (expr_stmt_0 (one types) room r at ts) (expr_stmt_0 (other types) room r' at' ts')
        expr_stmt_same_0 {at = at} {at' = at'} b ts ts' w = bind_got more more' Alike Beyond ((all room).whole.same ts ts' w) (λ got. expr_stmt_1 (one types) room r at got.0 got.1) (λ got. expr_stmt_1 (other types) room r' at' got.0 got.1) (λ v us us' u. expr_stmt_same_1 b v us us' u) (λ got p. expr_stmt_past_1 at got.0 got.1 p)

        case_past_2 : (at : List Tok) (e : ExprT) (ts : List Tok) → Gone ts → PastGot (case_2 (one types) room r at e ts)
        case_past_2 at e ts g = g

        case_same_2 : {at at' : List Tok} → Agree at at' → (e : ExprT) (ts ts' : List Tok) → Agree ts ts' → SameGot (case_2 (one types) room r at e ts) (case_2 (other types) room r' at' e ts')
        case_same_2 {at = at} {at' = at'} b e ts ts' w = read (rw (span_same types b w) refl, w)

        case_past_1 : (at : List Tok) (e : ExprT) (ts : List Tok) → Gone ts → PastGot (case_1 (one types) room r at e ts)
        case_past_1 at e ts g = bind_past more more' Gone Beyond (colon ts) (λ us. case_2 (one types) room r at e us) (must_past more more' (at_colon ts) ts g) (λ us p. case_past_2 at e us p)

        case_same_1 : {at at' : List Tok} → Agree at at' → (e : ExprT) (ts ts' : List Tok) → Agree ts ts' → SameGot (case_1 (one types) room r at e ts) (case_1 (other types) room r' at' e ts')
        case_same_1 {at = at} {at' = at'} b e ts ts' w = bind_tokens more more' Alike Beyond (colon_same more more' w) (λ us. case_2 (one types) room r at e us) (λ us. case_2 (other types) room r' at' e us) (λ us us' u. case_same_2 b e us us' u) (λ us p. case_past_2 at e us p)

        case_past_0 : (at : List Tok) (ts : List Tok) → Gone ts → PastGot (case_0 (one types) room r at ts)
        case_past_0 at ts g = bind_past more more' Beyond Beyond (level_at (one types) room 10 ts) (λ got. case_1 (one types) room r at got.0 got.1) (((all room).level 10).short ts g) (λ got p. case_past_1 at got.0 got.1 p)

        case_same_0 : {at at' : List Tok} → Agree at at' → (ts ts' : List Tok) → Agree ts ts' → SameGot (case_0 (one types) room r at ts) (case_0 (other types) room r' at' ts')
        case_same_0 {at = at} {at' = at'} b ts ts' w = bind_got more more' Alike Beyond (((all room).level 10).same ts ts' w) (λ got. case_1 (one types) room r at got.0 got.1) (λ got. case_1 (other types) room r' at' got.0 got.1) (λ v us us' u. case_same_1 b v us us' u) (λ got p. case_past_1 at got.0 got.1 p)

        default_past_1 : (at : List Tok) (ts : List Tok) → Gone ts → PastGot (default_1 (one types) room r at ts)
        default_past_1 at ts g = g

        default_same_1 : {at at' : List Tok} → Agree at at' → (ts ts' : List Tok) → Agree ts ts' → SameGot (default_1 (one types) room r at ts) (default_1 (other types) room r' at' ts')
        default_same_1 {at = at} {at' = at'} b ts ts' w = read (rw (span_same types b w) refl, w)

        default_past_0 : (at : List Tok) (ts : List Tok) → Gone ts → PastGot (default_0 (one types) room r at ts)
        default_past_0 at ts g = bind_past more more' Gone Beyond (colon ts) (λ us. default_1 (one types) room r at us) (must_past more more' (at_colon ts) ts g) (λ us p. default_past_1 at us p)

        default_same_0 : {at at' : List Tok} → Agree at at' → (ts ts' : List Tok) → Agree ts ts' → SameGot (default_0 (one types) room r at ts) (default_0 (other types) room r' at' ts')
        default_same_0 {at = at} {at' = at'} b ts ts' w = bind_tokens more more' Alike Beyond (colon_same more more' w) (λ us. default_1 (one types) room r at us) (λ us. default_1 (other types) room r' at' us) (λ us us' u. default_same_1 b us us' u) (λ us p. default_past_1 at us p)

        arm_stmt_past_1 : (at : List Tok) (s : StmtT) (ts : List Tok) → Gone ts → PastGot (arm_stmt_1 (one types) room r at s ts)
        arm_stmt_past_1 at s ts g = g

        arm_stmt_same_1 : {at at' : List Tok} → Agree at at' → (s : StmtT) (ts ts' : List Tok) → Agree ts ts' → SameGot (arm_stmt_1 (one types) room r at s ts) (arm_stmt_1 (other types) room r' at' s ts')
        arm_stmt_same_1 {at = at} {at' = at'} b s ts ts' w = read (refl, w)

        arm_stmt_past_0 : (at : List Tok) (ts : List Tok) → Gone ts → PastGot (arm_stmt_0 (one types) room r at ts)
        arm_stmt_past_0 at ts g = bind_past more more' Beyond Beyond (r.stmt ts) (λ got. arm_stmt_1 (one types) room r at got.0 got.1) (body.stmt.short ts g) (λ got p. arm_stmt_past_1 at got.0 got.1 p)

        arm_stmt_same_0 : {at at' : List Tok} → Agree at at' → (ts ts' : List Tok) → Agree ts ts' → SameGot (arm_stmt_0 (one types) room r at ts) (arm_stmt_0 (other types) room r' at' ts')
        arm_stmt_same_0 {at = at} {at' = at'} b ts ts' w = bind_got more more' Alike Beyond (body.stmt.same ts ts' w) (λ got. arm_stmt_1 (one types) room r at got.0 got.1) (λ got. arm_stmt_1 (other types) room r' at' got.0 got.1) (λ v us us' u. arm_stmt_same_1 b v us us' u) (λ got p. arm_stmt_past_1 at got.0 got.1 p)

        -- an `else` may follow
        else_past : (at : List Tok) (e : ExprT) (s : StmtT) (b : Bool) (ts : List Tok) → Gone ts → PastGot (if_by (one types) r at e s ts b)
        else_past at e s false ts g = g
        else_past at e s true ts g = bind_past more more' Beyond Beyond (r.stmt (behind ts)) (λ z. Ok (IfS e s (SomeS z.0) (span (one types) at z.1), z.1)) (body.stmt.short (behind ts) (behind_gone more more' ts g)) (λ x p. p)

        other_past : (at : List Tok) (e : ExprT) (s : StmtT) → PastGot (r.stmt more >>= λ z. Ok (IfS e s (SomeS z.0) (span (one types) at z.1), z.1))
        other_past at e s = bind_past more more' Beyond Beyond (r.stmt more) (λ z. Ok (IfS e s (SomeS z.0) (span (one types) at z.1), z.1)) (body.stmt.short more (omega arith)) (λ x p. p)

        else_last : {at at' : List Tok} → Agree at at' → (e : ExprT) (s : StmtT) (b : Bool) (o : Tok) → SameGot (if_by (one types) r at e s (o ∷ more) b) (if_by (other types) r' at' e s (o ∷ more') b)
        else_last w e s false o = read (rw (span_same types w (last {o = o})) refl, last)
        else_last {at = at} w e s true o = past (other_past at e s)

        else_next : {at at' : List Tok} → Agree at at' → (e : ExprT) (s : StmtT) (b : Bool) (o : Tok) (ts ts' : List Tok) → Agree ts ts' → SameGot (if_by (one types) r at e s (o ∷ ts) b) (if_by (other types) r' at' e s (o ∷ ts') b)
        else_next w e s false o ts ts' v = read (rw (span_same types w (next {o = o} v)) refl, next v)
        else_next {at = at} {at' = at'} w e s true o ts ts' v = bind_got more more' Alike Beyond (body.stmt.same ts ts' v) (λ z. Ok (IfS e s (SomeS z.0) (span (one types) at z.1), z.1)) (λ z. Ok (IfS e s (SomeS z.0) (span (other types) at' z.1), z.1))
            (λ z us us' u. read (rw (span_same types w u) refl, u)) (λ x p. p)

        else_same : {at at' : List Tok} → Agree at at' → (e : ExprT) (s : StmtT) (ts ts' : List Tok) → Agree ts ts'
            → SameGot (if_by (one types) r at e s ts (at_else_word ts)) (if_by (other types) r' at' e s ts' (at_else_word ts'))
        else_same w e s _ _ (last {o = o}) = else_last w e s (is_else_word o) o
        else_same w e s _ _ (next {o = o} {ts = ts} {ts' = ts'} v) = else_next w e s (is_else_word o) o ts ts' v

        then_past : (at : List Tok) (e : ExprT) (ts : List Tok) → Gone ts → PastGot (if_1 (one types) room r at e ts)
        then_past at e ts g = bind_past more more' Beyond Beyond (r.stmt ts) (λ s. if_by (one types) r at e s.0 s.1 (at_else_word s.1)) (body.stmt.short ts g) (λ x p. else_past at e x.0 (at_else_word x.1) x.1 p)

        then_same : {at at' : List Tok} → Agree at at' → (e : ExprT) (ts ts' : List Tok) → Agree ts ts' → SameGot (if_1 (one types) room r at e ts) (if_1 (other types) room r' at' e ts')
        then_same {at = at} {at' = at'} w e ts ts' v = bind_got more more' Alike Beyond (body.stmt.same ts ts' v) (λ s. if_by (one types) r at e s.0 s.1 (at_else_word s.1)) (λ s. if_by (other types) r' at' e s.0 s.1 (at_else_word s.1))
            (λ s us us' u. else_same w e s us us' u) (λ x p. else_past at e x.0 (at_else_word x.1) x.1 p)

        if_past : (at ts : List Tok) → Gone ts → PastGot (if_0 (one types) room r at ts)
        if_past at ts g = bind_past more more' Beyond Beyond (test_at (one types) room ts) (λ e. if_1 (one types) room r at e.0 e.1) ((test_is_local room).short ts g) (λ x p. then_past at x.0 x.1 p)

        if_same : {at at' : List Tok} → Agree at at' → (ts ts' : List Tok) → Agree ts ts' → SameGot (if_0 (one types) room r at ts) (if_0 (other types) room r' at' ts')
        if_same {at = at} {at' = at'} w ts ts' v = bind_got more more' Alike Beyond ((test_is_local room).same ts ts' v) (λ e. if_1 (one types) room r at e.0 e.1) (λ e. if_1 (other types) room r' at' e.0 e.1)
            (λ e us us' u. then_same w e us us' u) (λ x p. then_past at x.0 x.1 p)

        stmt_short : (l : StmtLead) (ts : List Tok) → Gone ts → PastGot (stmt_by (one types) room r ts l)
        stmt_short stmt.Block ts g = block_past_0 ts (behind ts) (behind_gone more more' ts g)
        stmt_short stmt.Empty ts g = behind_gone more more' ts g
        stmt_short stmt.Vars ts g = vars_stmt_past_0 ts ts g
        stmt_short stmt.If ts g = if_past ts (behind ts) (behind_gone more more' ts g)
        stmt_short stmt.While ts g = while_past_0 ts (behind ts) (behind_gone more more' ts g)
        stmt_short stmt.Do ts g = do_past_0 ts (behind ts) (behind_gone more more' ts g)
        stmt_short stmt.For ts g = for_past_0 ts (behind ts) (behind_gone more more' ts g)
        stmt_short stmt.Switch ts g = switch_past_0 ts (behind ts) (behind_gone more more' ts g)
        stmt_short stmt.Return ts g = return_past_0 ts (behind ts) (behind_gone more more' ts g)
        stmt_short stmt.Break ts g = break_past_0 ts (behind ts) (behind_gone more more' ts g)
        stmt_short stmt.Continue ts g = continue_past_0 ts (behind ts) (behind_gone more more' ts g)
        stmt_short stmt.Expr ts g = expr_stmt_past_0 ts ts g

        stmt_last : (l : StmtLead) (o : Tok) → SameGot (stmt_by (one types) room r (o ∷ more) l) (stmt_by (other types) room r' (o ∷ more') l)
        stmt_last stmt.Block o = past (block_past_0 (o ∷ more) more (omega arith))
        stmt_last stmt.Empty o = past (omega arith)
        stmt_last stmt.Vars o = vars_stmt_same_0 (last {o = o}) (o ∷ more) (o ∷ more') last
        stmt_last stmt.If o = past (if_past (o ∷ more) more (omega arith))
        stmt_last stmt.While o = past (while_past_0 (o ∷ more) more (omega arith))
        stmt_last stmt.Do o = past (do_past_0 (o ∷ more) more (omega arith))
        stmt_last stmt.For o = past (for_past_0 (o ∷ more) more (omega arith))
        stmt_last stmt.Switch o = past (switch_past_0 (o ∷ more) more (omega arith))
        stmt_last stmt.Return o = past (return_past_0 (o ∷ more) more (omega arith))
        stmt_last stmt.Break o = past (break_past_0 (o ∷ more) more (omega arith))
        stmt_last stmt.Continue o = past (continue_past_0 (o ∷ more) more (omega arith))
        stmt_last stmt.Expr o = expr_stmt_same_0 (last {o = o}) (o ∷ more) (o ∷ more') last

        stmt_next : (l : StmtLead) (o : Tok) (ts ts' : List Tok) → Agree ts ts' → SameGot (stmt_by (one types) room r (o ∷ ts) l) (stmt_by (other types) room r' (o ∷ ts') l)
        stmt_next stmt.Block o ts ts' w = block_same_0 (next {o = o} w) ts ts' w
        stmt_next stmt.Empty o ts ts' w = read (rw (span_same types (next {o = o} w) w) refl, w)
        stmt_next stmt.Vars o ts ts' w = vars_stmt_same_0 (next {o = o} w) (o ∷ ts) (o ∷ ts') (next w)
        stmt_next stmt.If o ts ts' w = if_same (next {o = o} w) ts ts' w
        stmt_next stmt.While o ts ts' w = while_same_0 (next {o = o} w) ts ts' w
        stmt_next stmt.Do o ts ts' w = do_same_0 (next {o = o} w) ts ts' w
        stmt_next stmt.For o ts ts' w = for_same_0 (next {o = o} w) ts ts' w
        stmt_next stmt.Switch o ts ts' w = switch_same_0 (next {o = o} w) ts ts' w
        stmt_next stmt.Return o ts ts' w = return_same_0 (next {o = o} w) ts ts' w
        stmt_next stmt.Break o ts ts' w = break_same_0 (next {o = o} w) ts ts' w
        stmt_next stmt.Continue o ts ts' w = continue_same_0 (next {o = o} w) ts ts' w
        stmt_next stmt.Expr o ts ts' w = expr_stmt_same_0 (next {o = o} w) (o ∷ ts) (o ∷ ts') (next w)

        stmt_same : {ts ts' : List Tok} → Agree ts ts' → SameGot (stmt_with (one types) room r ts) (stmt_with (other types) room r' ts')
        stmt_same (last {o = o}) = rw (stmt_of_same o) (stmt_last (stmt_of (other types) o) o)
        stmt_same (next {o = o} {ts = ts} {ts' = ts'} w) = rw (stmt_of_same o) (stmt_next (stmt_of (other types) o) o ts ts' w)

        arm_short : (l : ArmLead) (ts : List Tok) → Gone ts → PastGot (arm_by (one types) room r ts l)
        arm_short arm.Case ts g = case_past_0 ts (behind ts) (behind_gone more more' ts g)
        arm_short arm.Default ts g = default_past_0 ts (behind ts) (behind_gone more more' ts g)
        arm_short arm.Stmt ts g = arm_stmt_past_0 ts ts g

        arm_last : (l : ArmLead) (o : Tok) → SameGot (arm_by (one types) room r (o ∷ more) l) (arm_by (other types) room r' (o ∷ more') l)
        arm_last arm.Case o = past (case_past_0 (o ∷ more) more (omega arith))
        arm_last arm.Default o = past (default_past_0 (o ∷ more) more (omega arith))
        arm_last arm.Stmt o = arm_stmt_same_0 (last {o = o}) (o ∷ more) (o ∷ more') last

        arm_next : (l : ArmLead) (o : Tok) (ts ts' : List Tok) → Agree ts ts' → SameGot (arm_by (one types) room r (o ∷ ts) l) (arm_by (other types) room r' (o ∷ ts') l)
        arm_next arm.Case o ts ts' w = case_same_0 (next {o = o} w) ts ts' w
        arm_next arm.Default o ts ts' w = default_same_0 (next {o = o} w) ts ts' w
        arm_next arm.Stmt o ts ts' w = arm_stmt_same_0 (next {o = o} w) (o ∷ ts) (o ∷ ts') (next w)

        arm_same : {ts ts' : List Tok} → Agree ts ts' → SameGot (arm_with (one types) room r ts) (arm_with (other types) room r' ts')
        arm_same (last {o = o}) = arm_last (arm_of o) o
        arm_same (next {o = o} {ts = ts} {ts' = ts'} w) = arm_next (arm_of o) o ts ts' w

      pub bodies_are_local : (room : ℕ) → LocalBodies (bodies (one types) room) (bodies (other types) room)
      unfolding bodies
      bodies_are_local zero = record {
        stmt = room_local more more' (begins_stmt (one types)) (begins_stmt (other types)) (λ ts ts' w. begins_stmt_same w);
        arm = room_local more more' (λ ts. is_some_arm (arm_at ts) || begins_stmt (one types) ts) (λ ts. is_some_arm (arm_at ts) || begins_stmt (other types) ts) (λ ts ts' w. rw (arm_at_same w, begins_stmt_same w) refl);
        stmts_take = lists.stmts_take zero;
        arms_take = lists.arms_take zero;
      }
      bodies_are_local (suc room) = record {
        stmt = record {
          short = λ ts g. stmt_short room (bodies (one types) room) (bodies (other types) room) (bodies_are_local room) (stmt_at (one types) ts) ts g;
          same = λ ts ts' w. stmt_same room (bodies (one types) room) (bodies (other types) room) (bodies_are_local room) w;
        };
        arm = record {
          short = λ ts g. arm_short room (bodies (one types) room) (bodies (other types) room) (bodies_are_local room) (arm_at ts) ts g;
          same = λ ts ts' w. arm_same room (bodies (one types) room) (bodies (other types) room) (bodies_are_local room) w;
        };
        stmts_take = lists.stmts_take (suc room);
        arms_take = lists.arms_take (suc room);
      }
