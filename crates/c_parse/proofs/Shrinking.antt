-- Each reader leaves fewer tokens than it was given, and each turn of a part that repeats takes one at least.
use Rattle.std.proofs.Common.{◌≡◌, ℕ, zero, suc, ◌+◌, ◌<◌, ◌≤◌, Bool, true, false, cond, List, [], ◌∷◌, length, Option, Some, None, Result, Ok, Err, ap, arith}
use Rattle.std.specs.Prelude.{nat_lt, ◌||◌}
use Rattle.c_tree.specs.declared.operator.BinOp.{BinOp}
use Rattle.c_tree.specs.Tree.{ExprT, TypeT, InitT, VarT, StmtT, NoneS, ItemT, VoidY}
use Rattle.c_tree.specs.Depth.{expr_depth, type_depth}
use Rattle.c_parse.specs.declared.fault.Fault.{Fault}
use Rattle.c_parse.specs.declared.lead.TypeLead.{TypeLead}
use Rattle.c_parse.specs.declared.lead.TypeLead.TheVariants as type_
use Rattle.c_parse.specs.declared.lead.TypeMark.{TypeMark}
use Rattle.c_parse.specs.declared.lead.TypeMark.TheVariants as type_mark
use Rattle.c_parse.specs.declared.lead.Lead.{Lead}
use Rattle.c_parse.specs.declared.lead.Lead.TheVariants as lead
use Rattle.c_parse.specs.declared.lead.Start.{Start}
use Rattle.c_parse.specs.declared.lead.Start.TheVariants as start
use Rattle.c_parse.specs.declared.lead.Suffix.{Suffix}
use Rattle.c_parse.specs.declared.lead.Suffix.TheVariants as suffix
use Rattle.c_parse.specs.declared.lead.StmtLead.{StmtLead}
use Rattle.c_parse.specs.declared.lead.StmtLead.TheVariants as stmt
use Rattle.c_parse.specs.declared.lead.ArmLead.{ArmLead}
use Rattle.c_parse.specs.declared.lead.ArmLead.TheVariants as arm
use Rattle.c_parse.specs.declared.lead.ItemLead.{ItemLead}
use Rattle.c_parse.specs.declared.lead.ItemLead.TheVariants as item
use Rattle.c_parse.specs.Tok.{Tok}
use Rattle.c_parse.specs.Scope.{Context, declare}
use Rattle.c_parse.specs.Marks.{binary}
use Rattle.c_parse.specs.inner.Leads.{type_of, type_mark_of, lead_of, start_of, suffix_of, begins_type, begins_expr, stmt_of, arm_of, item_of}
use Rattle.c_parse.specs.inner.ReadingDeclarations.{init_by, init_at, field, var_by, var, vars_at, member_at, members_by, members_turn, members_at, param_at, params_by, at_void, params_at, value_by, value}
use Rattle.c_parse.specs.inner.ReadingStatements.{maybe_by, maybe_at, first_by, first_at, Bodies, test_at, if_by, if_with, while_with, do_with, for_with, switch_with, stmt_by, stmt_with, arm_by, arm_with, bodies, stmt_read, arm_read}
use Rattle.c_parse.specs.inner.ReadingUnits.{record_by, enum_at, typedef_at, body_by, function_at, vars_by, typed_by, typed_at, item_by, item_read}
use Rattle.c_parse.specs.inner.ReadingLists.{pushed, comma_by, comma_turn, separated, more_turn, listed, brace_by, brace_turn, braced}
use Rattle.c_parse.specs.inner.Reading.{expr_at, level_at, type_read, Readers, run_more, run_with, type_mark_by, type_mark_turn, base_by, base, type_with, exprs_by, exprs_turn, exprs_with, arguments_by, named_by, primary_by, primary_with, suffix_by, is_some_suffix, suffix_turn_by, suffix_turn, postfix_with, unary_by, unary_with, of_level, operator_by, operator_turn, level_with, assigner_behind, assign_by, whole_with, readers}
use Rattle.c_parse.specs.inner.Reader.{◌>>=◌, Got, Reader, bad, deep, above, Turn, goes_on, repeat, loop, behind, bytes_at, must, is_behind, is_comma, at_comma, at_more, at_open_paren, at_close_paren, at_open_bracket, at_close_bracket, at_close_brace, at_open_brace, at_semicolon, at_assign, at_colon, at_while_word, at_else_word, no_room, is_name, name, is_new, new, at_star, close_brace, end_list}
use Rattle.c_parse.proofs.Locality.{Takes}
use Rattle.c_parse.proofs.LocalExpressions.{TurnsTake}
use Rattle.c_parse.proofs.LocalDeclarations.{ListsTake}
use Rattle.c_parse.proofs.LocalUnits.{Known}

-- what is read leaves fewer than n tokens
pub data Fewer {A : Type 0} (n : ℕ) : Result (Got A) Fault → Type 0 where
  leaves : {x : Got A} → length x.1 < n → Fewer n (Ok x)
  fault : {e : Fault} → Fewer n (Err e)

-- the tokens left are fewer than n
pub data Left (n : ℕ) : Result (List Tok) Fault → Type 0 where
  some_left : {ts : List Tok} → length ts < n → Left n (Ok ts)
  none_left : {e : Fault} → Left n (Err e)

-- a turn that goes on leaves fewer than n tokens
pub data Turned {A : Type 0} (n : ℕ) : Result (Option (Got A)) Fault → Type 0 where
  goes : {x : Got A} → length x.1 < n → Turned n (Ok (Some x))
  ended : Turned n (Ok None)
  halted : {e : Fault} → Turned n (Err e)

abbrev pub Shrinks : {A : Type 0} → Reader A → Type 0
Shrinks f = (ts : List Tok) → Fewer (length ts) (f ts)

abbrev pub Taking : {A : Type 0} → Turn A → Type 0
Taking {A} t = (a : A) (ts : List Tok) → Turned (length ts) (t a ts)

pub left_fewer : {A : Type 0} {n : ℕ} {r : Result (Got A) Fault} → Fewer n r → (x : Got A) → r ≡ Ok x → length x.1 < n
left_fewer {A = A} (leaves {x = y} p) x e =
    let same : y ≡ x = cc in
    let lengths : length y.1 ≡ length x.1 = ap (λ (z : Got A). length z.1) same in
    omega (arith, lengths, p)
left_fewer fault x e = absurd cc

left_turned : {A : Type 0} {n : ℕ} {r : Result (Option (Got A)) Fault} → Turned n r → (x : Got A) → r ≡ Ok (Some x) → length x.1 < n
left_turned {A = A} (goes {x = y} p) x e =
    let same : y ≡ x = cc in
    let lengths : length y.1 ≡ length x.1 = ap (λ (z : Got A). length z.1) same in
    omega (arith, lengths, p)
left_turned ended x e = absurd cc
left_turned halted x e = absurd cc

pub taken : {A : Type 0} (t : Turn A) → Taking t → Takes t
taken t l a ts x e = left_turned (l a ts) x e

weaken : {A : Type 0} {n m : ℕ} {r : Result (Got A) Fault} → Fewer n r → n ≤ m → Fewer m r
weaken (leaves p) le = leaves (omega (arith, p, le))
weaken fault le = fault

-- where fewer tokens than n are given, fewer are left
on : {A : Type 0} {k n : ℕ} {r : Result (Got A) Fault} → Fewer k r → k < n → Fewer n r
on (leaves p) q = leaves (omega (arith, p, q))
on fault q = fault

-- where no more tokens than given are left, fewer than n are
within : {A : Type 0} {k n : ℕ} {r : Result (Got A) Fault} → Fewer (suc k) r → k < n → Fewer n r
within s p = weaken s (omega (arith, p))

bind : {A B : Type 0} {n m : ℕ} {r : Result (Got A) Fault} {f : Got A → Result (Got B) Fault} → Fewer n r → ((x : Got A) → length x.1 < n → Fewer m (f x)) → Fewer m (r >>= f)
bind (leaves {x = x} p) h = h x p
bind fault h = fault

bind_left : {B : Type 0} {n m : ℕ} {r : Result (List Tok) Fault} {f : List Tok → Result (Got B) Fault} → Left n r → ((ts : List Tok) → length ts < n → Fewer m (f ts)) → Fewer m (r >>= f)
bind_left (some_left {ts = ts} p) h = h ts p
bind_left none_left h = fault

bind_turned : {A B : Type 0} {n m : ℕ} {r : Result (Got A) Fault} {f : Got A → Result (Option (Got B)) Fault} → Fewer n r → ((x : Got A) → length x.1 < n → Turned m (f x)) → Turned m (r >>= f)
bind_turned (leaves {x = x} p) h = h x p
bind_turned fault h = halted

behind_most : (ts : List Tok) → length (behind ts) ≤ length ts
behind_most [] = omega arith
behind_most (o ∷ ts) = omega arith

behind_fewer : {n : ℕ} (ts : List Tok) → length ts < n → length (behind ts) < n
behind_fewer ts p = omega (arith, p, behind_most ts)

above_fewer : {A : Type 0} {n : ℕ} (depth room : ℕ) (ts : List Tok) {r : Result (Got A) Fault} → Fewer n r → Fewer n (above depth room ts r)
above_fewer {A = A} {n = n} depth room ts {r = r} p = by (nat_lt depth room)
  where
    by : (b : Bool) → Fewer n (cond b r (deep ts))
    by true = p
    by false = fault

above_turned : {A : Type 0} {n : ℕ} (depth room : ℕ) (ts : List Tok) {r : Result (Option (Got A)) Fault} → Turned n r → Turned n (above depth room ts r)
above_turned {A = A} {n = n} depth room ts {r = r} p = by (nat_lt depth room)
  where
    by : (b : Bool) → Turned n (cond b r (deep ts))
    by true = p
    by false = halted

-- ---- what repeats

went : {A : Type 0} {n : ℕ} (t : Turn A) (k : ℕ) (a : A) (ts : List Tok) {r : Result (Option (Got A)) Fault} → Turned (length ts) r → length ts < n
    → ((x : Got A) → length x.1 < n → Fewer n (repeat t k x.0 x.1)) → Fewer n (r >>= goes_on (repeat t k) a ts)
went t k a ts (goes {x = x} p) q h = h x (omega (arith, p, q))
went t k a ts ended q h = leaves q
went t k a ts halted q h = fault

repeat_fewer : {A : Type 0} (n : ℕ) (t : Turn A) → Taking t → (k : ℕ) (a : A) (ts : List Tok) → length ts < n → Fewer n (repeat t k a ts)
unfolding repeat
repeat_fewer n t l zero a ts p = fault
repeat_fewer n t l (suc k) a ts p = went t k a ts (l a ts) p (λ x q. repeat_fewer n t l k x.0 x.1 q)

loop_fewer : {A : Type 0} {n : ℕ} (t : Turn A) → Taking t → (a : A) (ts : List Tok) → length ts < n → Fewer n (loop t a ts)
loop_fewer {n = n} t l a ts p = repeat_fewer n t l (suc (length ts)) a ts p

-- ---- tokens that must come next

must_left : {n : ℕ} (b : Bool) (ts : List Tok) → length ts < n → Left n (must (is_behind ts b) ts)
must_left true ts p = some_left (behind_fewer ts p)
must_left false ts p = none_left

end_list_left : {n : ℕ} (ts : List Tok) → length ts < n → Left n (end_list ts)
end_list_left {n = n} ts p = by (at_comma ts)
  where
    by : (b : Bool) → Left n (cond b (close_brace (behind ts)) (close_brace ts))
    by true = must_left (at_close_brace (behind ts)) (behind ts) (behind_fewer ts p)
    by false = must_left (at_close_brace ts) ts p

worded : (b : Bool) (o : Tok) (ts : List Tok) → Fewer (suc (length ts)) (cond b (Ok (bytes_at (o ∷ ts), ts)) (bad (o ∷ ts)))
worded true o ts = leaves (omega arith)
worded false o ts = fault

pub name_shrinks : (c : Context) → Shrinks (name c)
name_shrinks c [] = fault
name_shrinks c (o ∷ ts) = worded (is_name c o) o ts

pub new_shrinks : Shrinks new
new_shrinks [] = fault
new_shrinks (o ∷ ts) = worded (is_new o) o ts

-- ---- lists

module _ {A : Type 0} (f : Reader A) (s : Shrinks f) where
  pushed_turned : {n : ℕ} {r : Result (Got A) Fault} (xs : List A) → Fewer n r → Turned n (r >>= pushed xs)
  pushed_turned xs p = bind_turned p (λ x q. goes q)

  comma_turned : (xs : List A) (o : Tok) (ts : List Tok) (b : Bool) → Turned (suc (length ts)) (comma_by f xs (o ∷ ts) b)
  comma_turned xs o ts false = ended
  comma_turned xs o ts true = pushed_turned xs (on (s ts) (omega arith))

  pub comma_takes : Taking (comma_turn f)
  comma_takes xs [] = ended
  comma_takes xs (o ∷ ts) = comma_turned xs o ts (is_comma o)

  pub more_takes : Taking (more_turn f)
  more_takes xs [] = ended
  more_takes xs (o ∷ ts) = comma_turned xs o ts (at_more (o ∷ ts))

  brace_turned : (xs : List A) (ts : List Tok) (b : Bool) → Turned (length ts) (brace_by f xs ts b)
  brace_turned xs ts true = ended
  brace_turned xs ts false = pushed_turned xs (s ts)

  pub brace_takes : Taking (brace_turn f)
  brace_takes xs ts = brace_turned xs ts (at_close_brace ts)

  pub separated_shrinks : Shrinks (separated f)
  separated_shrinks ts = bind (s ts) (λ x p. loop_fewer (comma_turn f) comma_takes (x.0 ∷ []) x.1 p)

  pub listed_shrinks : Shrinks (listed f)
  listed_shrinks ts = bind (s ts) (λ x p. loop_fewer (more_turn f) more_takes (x.0 ∷ []) x.1 p)

  pub braced_fewer : {n : ℕ} (ts : List Tok) → length ts < n → Fewer n (braced f ts)
  braced_fewer ts p = loop_fewer (brace_turn f) brace_takes [] ts p

-- ---- expressions and types

-- the readers at one less room
pub record ReadersShrink (r : Readers) : Type 0 where
  pub level : (k : ℕ) → Shrinks (r.level k)
  pub whole : Shrinks r.whole
  pub type : Shrinks r.type
  pub run : (a : TypeT) → Shrinks (r.run a)

module _ (c : Context) (r : Readers) (all : ReadersShrink r) where
  run_more_fewer : {n : ℕ} (a : TypeT) (e : ExprT) (ts : List Tok) → length ts < n → (b : Bool) → Fewer n (run_more r a e ts b)
  run_more_fewer a e ts p false = leaves p
  run_more_fewer a e ts p true = bind (on (all.run a ts) p) (λ b q. leaves q)

  run_shrinks : (room : ℕ) (a : TypeT) → Shrinks (run_with r room a)
  run_shrinks room a ts = above_fewer (type_depth a) room ts (bind (weaken (all.level 10 (behind ts)) (behind_most ts)) (λ e p.
      bind_left (must_left (at_close_bracket e.1) e.1 p) (λ mid q. run_more_fewer a e.0 mid q (at_open_bracket mid))))

  type_mark_turned : (room : ℕ) (a : TypeT) (o : Tok) (ts : List Tok) (m : TypeMark) → Turned (suc (length ts)) (type_mark_by r room a (o ∷ ts) m)
  type_mark_turned room a o ts type_mark.Star = above_turned (type_depth a) room (o ∷ ts) (goes (omega arith))
  type_mark_turned room a o ts type_mark.Bracket = bind_turned (run_shrinks room a (o ∷ ts)) (λ b p. goes p)
  type_mark_turned room a o ts type_mark.Nothing = ended

  pub type_marks_take : (room : ℕ) → Taking (type_mark_turn r room)
  type_marks_take room a [] = ended
  type_marks_take room a (o ∷ ts) = type_mark_turned room a o ts (type_mark_of o)

  base_fewer : (o : Tok) (ts : List Tok) (l : TypeLead) → Fewer (suc (length ts)) (base_by (o ∷ ts) l)
  base_fewer o ts type_.Int = leaves (omega arith)
  base_fewer o ts type_.Bool = leaves (omega arith)
  base_fewer o ts type_.Named = leaves (omega arith)
  base_fewer o ts type_.Void = by (at_star ts)
    where
      by : (b : Bool) → Fewer (suc (length ts)) (cond b (Ok (VoidY, ts)) (bad ts))
      by true = leaves (omega arith)
      by false = fault
  base_fewer o ts type_.Other = fault

  base_shrinks : Shrinks (base c)
  base_shrinks [] = fault
  base_shrinks (o ∷ ts) = base_fewer o ts (type_of c o)

  type_shrinks : (room : ℕ) → Shrinks (type_with c r room)
  type_shrinks room ts = bind (base_shrinks ts) (λ a p. loop_fewer (type_mark_turn r room) (type_marks_take room) a.0 a.1 p)

  exprs_turned : (es : List ExprT) (o : Tok) (ts : List Tok) (b : Bool) → Turned (suc (length ts)) (exprs_by r es (o ∷ ts) b)
  exprs_turned es o ts false = ended
  exprs_turned es o ts true = bind_turned (on (all.whole ts) (omega arith)) (λ e p. goes p)

  pub exprs_take : Taking (exprs_turn r)
  exprs_take es [] = ended
  exprs_take es (o ∷ ts) = exprs_turned es o ts (is_comma o)

  exprs_shrink : Shrinks (exprs_with r)
  exprs_shrink ts = bind (all.whole ts) (λ e p. loop_fewer (exprs_turn r) exprs_take (e.0 ∷ []) e.1 p)

  arguments_fewer : {n : ℕ} (ts : List Tok) → length ts < n → (b : Bool) → Fewer n (arguments_by r ts b)
  arguments_fewer ts p true = leaves (behind_fewer ts p)
  arguments_fewer ts p false = bind (on (exprs_shrink ts) p) (λ es q. bind_left (must_left (at_close_paren es.1) es.1 q) (λ rest u. leaves u))

  named_fewer : (o : Tok) (ts : List Tok) (b : Bool) → Fewer (suc (length ts)) (named_by c r (o ∷ ts) b)
  named_fewer o ts false = leaves (omega arith)
  named_fewer o ts true = bind (arguments_fewer (behind ts) (behind_fewer ts (omega arith)) (at_close_paren (behind ts))) (λ es p. leaves p)

  primary_fewer : (o : Tok) (ts : List Tok) (l : Lead) → Fewer (suc (length ts)) (primary_by c r (o ∷ ts) l)
  primary_fewer o ts lead.Name = named_fewer o ts (at_open_paren ts)
  primary_fewer o ts (lead.Value n) = leaves (omega arith)
  primary_fewer o ts lead.Text = leaves (omega arith)
  primary_fewer o ts lead.Null = leaves (omega arith)
  primary_fewer o ts lead.Paren = bind (on (all.whole ts) (omega arith)) (λ e p. bind_left (must_left (at_close_paren e.1) e.1 p) (λ rest q. leaves q))
  primary_fewer o ts lead.Other = fault

  primary_shrinks : Shrinks (primary_with c r)
  primary_shrinks [] = fault
  primary_shrinks (o ∷ ts) = primary_fewer o ts (lead_of c o)

  suffix_fewer : (at : List Tok) (a : ExprT) (o : Tok) (ts : List Tok) (s : Suffix) → Fewer (suc (length ts)) (suffix_by c r at a (o ∷ ts) s)
  suffix_fewer at a o ts suffix.Index = bind (on (all.whole ts) (omega arith)) (λ i p. bind_left (must_left (at_close_bracket i.1) i.1 p) (λ rest q. leaves q))
  suffix_fewer at a o ts suffix.Member = bind (on (name_shrinks c ts) (omega arith)) (λ n p. leaves p)
  suffix_fewer at a o ts suffix.Arrow = bind (on (name_shrinks c ts) (omega arith)) (λ n p. leaves p)
  suffix_fewer at a o ts (suffix.Step op) = leaves (omega arith)
  suffix_fewer at a o ts suffix.Nothing = fault

  suffix_turned : (room : ℕ) (at : List Tok) (a : ExprT) (o : Tok) (ts : List Tok) (b : Bool) → Turned (suc (length ts)) (suffix_turn_by c r room at a (o ∷ ts) b)
  suffix_turned room at a o ts false = ended
  suffix_turned room at a o ts true = above_turned (expr_depth a) room (o ∷ ts) (bind_turned (suffix_fewer at a o ts (suffix_of o)) (λ x p. goes p))

  pub suffixes_take : (room : ℕ) (at : List Tok) → Taking (suffix_turn c r room at)
  suffixes_take room at a [] = ended
  suffixes_take room at a (o ∷ ts) = suffix_turned room at a o ts (is_some_suffix (suffix_of o))

  postfix_shrinks : (room : ℕ) → Shrinks (postfix_with c r room)
  postfix_shrinks room ts = bind (primary_shrinks ts) (λ a p. loop_fewer (suffix_turn c r room ts) (suffixes_take room ts) a.0 a.1 p)

  unary_fewer : (room : ℕ) (o : Tok) (ts : List Tok) (l : Start) → Fewer (suc (length ts)) (unary_by c r room (o ∷ ts) l)
  unary_fewer room o ts (start.Operator op) = bind (on (all.level zero ts) (omega arith)) (λ a p. leaves p)
  unary_fewer room o ts (start.Step op) = bind (on (all.level zero ts) (omega arith)) (λ a p. leaves p)
  unary_fewer room o ts start.Cast = bind (on (all.type ts) (omega arith)) (λ y p. bind_left (must_left (at_close_paren y.1) y.1 p) (λ mid q. bind (on (all.level zero mid) q) (λ a u. leaves u)))
  unary_fewer room o ts start.Size = bind_left (must_left (at_open_paren ts) ts (omega arith)) (λ mid p. bind (on (all.type mid) p) (λ y q. bind_left (must_left (at_close_paren y.1) y.1 q) (λ rest u. leaves u)))
  unary_fewer room o ts start.Other = postfix_shrinks room (o ∷ ts)

  unary_shrinks : (room : ℕ) → Shrinks (unary_with c r room)
  unary_shrinks room [] = postfix_shrinks room []
  unary_shrinks room (o ∷ ts) = unary_fewer room o ts (start_of c o ts)

  operator_turned : (room k : ℕ) (at : List Tok) (a : ExprT) (o : Tok) (ts : List Tok) (op : Option BinOp) → Turned (suc (length ts)) (operator_by c r room k at a (o ∷ ts) op)
  operator_turned room k at a o ts None = ended
  operator_turned room k at a o ts (Some op) = above_turned (expr_depth a) room (o ∷ ts) (bind_turned (on (all.level k ts) (omega arith)) (λ b p. goes p))

  pub operators_take : (room k : ℕ) (at : List Tok) → Taking (operator_turn c r room k at)
  operators_take room k at a [] = ended
  operators_take room k at a (o ∷ ts) = operator_turned room k at a o ts (of_level (suc k) (binary o))

  level_shrinks : (room k : ℕ) → Shrinks (level_with c r room k)
  unfolding level_with
  level_shrinks room zero ts = unary_shrinks room ts
  level_shrinks room (suc k) ts = bind (level_shrinks room k ts) (λ a p. loop_fewer (operator_turn c r room k ts) (operators_take room k ts) a.0 a.1 p)

  assign_fewer : {n : ℕ} (room : ℕ) (at : List Tok) (a : ExprT) (ts : List Tok) → length ts < n → (op : Option (Option BinOp)) → Fewer n (assign_by c r room at a ts op)
  assign_fewer room at a ts p None = leaves p
  assign_fewer room at a ts p (Some op) = above_fewer (expr_depth a) room ts (bind (on (all.whole (behind ts)) (behind_fewer ts p)) (λ b q. leaves q))

  whole_shrinks : (room : ℕ) → Shrinks (whole_with c r room)
  whole_shrinks room ts = bind (level_shrinks room 10 ts) (λ a p. assign_fewer room ts a.0 a.1 p (assigner_behind a.0 a.1))

pub readers_shrink : (c : Context) (n : ℕ) → ReadersShrink (readers c n)
unfolding readers
readers_shrink c zero = record {
  level = λ k ts. fault;
  whole = λ ts. fault;
  type = λ ts. fault;
  run = λ a ts. fault;
}
readers_shrink c (suc n) = record {
  level = λ k ts. level_shrinks c (readers c n) (readers_shrink c n) (suc n) k ts;
  whole = λ ts. whole_shrinks c (readers c n) (readers_shrink c n) (suc n) ts;
  type = λ ts. type_shrinks c (readers c n) (readers_shrink c n) (suc n) ts;
  run = λ a ts. run_shrinks c (readers c n) (readers_shrink c n) (suc n) a ts;
}

-- ---- declarations

module _ (c : Context) where
  expr_shrinks : (room : ℕ) → Shrinks (expr_at c room)
  expr_shrinks room ts = (readers_shrink c room).whole ts

  constant_shrinks : (room : ℕ) → Shrinks (level_at c room 10)
  constant_shrinks room ts = (readers_shrink c room).level 10 ts

  pub type_read_shrinks : (room : ℕ) → Shrinks (type_read c room)
  type_read_shrinks room ts = (readers_shrink c room).type ts

  init_fewer : (room : ℕ) (inner : Reader InitT) → Shrinks inner → (ts : List Tok) (b : Bool) → Fewer (length ts) (init_by c room inner ts b)
  init_fewer room inner s ts false = bind (expr_shrinks room ts) (λ e p. leaves p)
  init_fewer room inner s ts true = bind (weaken (listed_shrinks inner s (behind ts)) (behind_most ts)) (λ is p. bind_left (end_list_left is.1 p) (λ rest q. leaves q))

  pub init_shrinks : (room : ℕ) → Shrinks (init_at c room)
  unfolding init_at
  init_shrinks zero ts = fault
  init_shrinks (suc room) ts = init_fewer room (λ us. init_at c room us) (λ us. init_shrinks room us) ts (at_open_brace ts)

  pub field_shrinks : (y : TypeT) → Shrinks (field c y)
  field_shrinks y ts = bind (name_shrinks c ts) (λ n p. leaves p)

  var_fewer : {n : ℕ} (room : ℕ) (y : TypeT) (at : List Tok) (w : Got (List ℕ)) → length w.1 < n → (b : Bool) → Fewer n (var_by c room y at w b)
  var_fewer room y at w p false = leaves p
  var_fewer room y at w p true = bind (on (init_shrinks room (behind w.1)) (behind_fewer w.1 p)) (λ i q. leaves q)

  pub var_shrinks : (room : ℕ) (y : TypeT) → Shrinks (var c room y)
  var_shrinks room y ts = bind (name_shrinks c ts) (λ n p. var_fewer room y ts n p (at_assign n.1))

  pub vars_shrink : (room : ℕ) → Shrinks (vars_at c room)
  unfolding vars_at
  vars_shrink zero ts = fault
  vars_shrink (suc room) ts = bind (type_read_shrinks room ts) (λ y p. on (separated_shrinks (var c room y.0) (var_shrinks room y.0) y.1) p)

  pub member_shrinks : (room : ℕ) → Shrinks (member_at c room)
  unfolding member_at
  member_shrinks zero ts = fault
  member_shrinks (suc room) ts = bind (type_read_shrinks room ts) (λ y p. bind (on (separated_shrinks (field c y.0) (field_shrinks y.0) y.1) p) (λ vs q.
      bind_left (must_left (at_semicolon vs.1) vs.1 q) (λ rest u. leaves u)))

  members_turned : (room : ℕ) (vs : List VarT) (ts : List Tok) (b : Bool) → Turned (length ts) (members_by c room vs ts b)
  members_turned room vs ts true = ended
  members_turned room vs ts false = bind_turned (member_shrinks room ts) (λ us p. goes p)

  pub members_take : (room : ℕ) → Taking (members_turn c room)
  members_take room vs ts = members_turned room vs ts (at_close_brace ts)

  pub members_shrink : (room : ℕ) → Shrinks (members_at c room)
  members_shrink room ts = bind (member_shrinks room ts) (λ vs p. loop_fewer (members_turn c room) (members_take room) vs.0 vs.1 p)

  pub param_shrinks : (room : ℕ) → Shrinks (param_at c room)
  unfolding param_at
  param_shrinks zero ts = fault
  param_shrinks (suc room) ts = bind (type_read_shrinks room ts) (λ y p. on (field_shrinks y.0 y.1) p)

  params_fewer : {n : ℕ} (room : ℕ) (ts : List Tok) → length ts < n → (closed void : Bool) → Fewer n (params_by c room ts closed void)
  params_fewer room ts p true void = leaves p
  params_fewer room ts p false true = leaves (behind_fewer ts p)
  params_fewer room ts p false false = on (separated_shrinks (param_at c room) (param_shrinks room) ts) p

  -- a list that may be empty
  pub params_leave : (room : ℕ) (ts : List Tok) → Fewer (suc (length ts)) (params_at c room ts)
  params_leave room ts = params_fewer room ts (omega arith) (at_close_paren ts) (at_void ts)

  value_fewer : {n : ℕ} (room : ℕ) (w : Got (List ℕ)) → length w.1 < n → (b : Bool) → Fewer n (value_by c room w b)
  value_fewer room w p false = leaves p
  value_fewer room w p true = bind (on (constant_shrinks room (behind w.1)) (behind_fewer w.1 p)) (λ e q. leaves q)

  pub value_shrinks : (room : ℕ) → Shrinks (value c room)
  value_shrinks room ts = bind (name_shrinks c ts) (λ n p. value_fewer room n p (at_assign n.1))

  -- ---- statements

  maybe_fewer : {n : ℕ} (room : ℕ) (ts : List Tok) → length ts < n → (b : Bool) → Fewer n (maybe_by c room ts b)
  maybe_fewer room ts p false = leaves p
  maybe_fewer room ts p true = bind (on (expr_shrinks room ts) p) (λ e q. leaves q)

  -- an expression that may be missing
  pub maybe_leaves : (room : ℕ) (ts : List Tok) → Fewer (suc (length ts)) (maybe_at c room ts)
  maybe_leaves room ts = maybe_fewer room ts (omega arith) (begins_expr c ts)

  first_fewer : {n : ℕ} (room : ℕ) (ts : List Tok) → length ts < n → (is_type is_expr : Bool) → Fewer n (first_by c room ts is_type is_expr)
  first_fewer room ts p true is_expr = bind (on (vars_shrink room ts) p) (λ vs q. leaves q)
  first_fewer room ts p false true = bind (on (expr_shrinks room ts) p) (λ e q. leaves q)
  first_fewer room ts p false false = leaves p

  no_first_fewer : (ts : List Tok) (b : Bool) → Fewer (suc (length ts)) (cond b (no_room true ts) (Ok (NoneS, ts)))
  no_first_fewer ts true = fault
  no_first_fewer ts false = leaves (omega arith)

  -- the first part of a `for`, which may be empty
  pub first_leaves : (room : ℕ) (ts : List Tok) → Fewer (suc (length ts)) (first_at c room ts)
  unfolding first_at
  first_leaves zero ts = no_first_fewer ts (begins_type c ts || begins_expr c ts)
  first_leaves (suc room) ts = first_fewer room ts (omega arith) (begins_type c ts) (begins_expr c ts)

  test_fewer : {n : ℕ} (room : ℕ) (ts : List Tok) → length ts < n → Fewer n (test_at c room ts)
  test_fewer room ts p = bind_left (must_left (at_open_paren ts) ts p) (λ us q. bind (on (expr_shrinks room us) q) (λ e u. bind_left (must_left (at_close_paren e.1) e.1 u) (λ rest v. leaves v)))

  -- the statements at one less room
  pub record BodiesShrink (r : Bodies) : Type 0 where
    pub stmt : Shrinks r.stmt
    pub arm : Shrinks r.arm

  module _ (room : ℕ) (r : Bodies) (all : BodiesShrink r) where
    else_fewer : {n : ℕ} (at : List Tok) (e : ExprT) (s : StmtT) (ts : List Tok) → length ts < n → (b : Bool) → Fewer n (if_by c r at e s ts b)
    else_fewer at e s ts p false = leaves p
    else_fewer at e s ts p true = bind (on (all.stmt (behind ts)) (behind_fewer ts p)) (λ z q. leaves q)

    if_fewer : (o : Tok) (ts : List Tok) → Fewer (suc (length ts)) (if_with c room r (o ∷ ts))
    if_fewer o ts = bind (test_fewer room ts (omega arith)) (λ e p. bind (on (all.stmt e.1) p) (λ s q. else_fewer (o ∷ ts) e.0 s.0 s.1 q (at_else_word s.1)))

    while_fewer : (o : Tok) (ts : List Tok) → Fewer (suc (length ts)) (while_with c room r (o ∷ ts))
    while_fewer o ts = bind (test_fewer room ts (omega arith)) (λ e p. bind (on (all.stmt e.1) p) (λ s q. leaves q))

    do_fewer : (o : Tok) (ts : List Tok) → Fewer (suc (length ts)) (do_with c room r (o ∷ ts))
    do_fewer o ts = bind (on (all.stmt ts) (omega arith)) (λ s p. bind_left (must_left (at_while_word s.1) s.1 p) (λ mid q. bind (test_fewer room mid q) (λ e u.
        bind_left (must_left (at_semicolon e.1) e.1 u) (λ rest v. leaves v))))

    for_fewer : (o : Tok) (ts : List Tok) → Fewer (suc (length ts)) (for_with c room r (o ∷ ts))
    for_fewer o ts = bind_left (must_left (at_open_paren ts) ts (omega arith)) (λ us p1. bind (within (first_leaves room us) p1) (λ f p2. bind_left (must_left (at_semicolon f.1) f.1 p2) (λ vs p3.
        bind (within (maybe_leaves room vs) p3) (λ x p4. bind_left (must_left (at_semicolon x.1) x.1 p4) (λ ws p5. bind (within (maybe_leaves room ws) p5) (λ y p6.
        bind_left (must_left (at_close_paren y.1) y.1 p6) (λ mid p7. bind (on (all.stmt mid) p7) (λ s p8. leaves p8))))))))

    switch_fewer : (o : Tok) (ts : List Tok) → Fewer (suc (length ts)) (switch_with c room r (o ∷ ts))
    switch_fewer o ts = bind (test_fewer room ts (omega arith)) (λ e p. bind_left (must_left (at_open_brace e.1) e.1 p) (λ mid q. bind (braced_fewer r.arm all.arm mid q) (λ xs u.
        bind_left (must_left (at_close_brace xs.1) xs.1 u) (λ rest v. leaves v))))

    expr_stmt_fewer : (ts : List Tok) → Fewer (length ts) (stmt_by c room r ts stmt.Expr)
    expr_stmt_fewer ts = bind (expr_shrinks room ts) (λ e p. bind_left (must_left (at_semicolon e.1) e.1 p) (λ rest q. leaves q))

    stmt_fewer : (o : Tok) (ts : List Tok) (l : StmtLead) → Fewer (suc (length ts)) (stmt_by c room r (o ∷ ts) l)
    stmt_fewer o ts stmt.Block = bind (braced_fewer r.stmt all.stmt ts (omega arith)) (λ ss p. bind_left (must_left (at_close_brace ss.1) ss.1 p) (λ rest q. leaves q))
    stmt_fewer o ts stmt.Empty = leaves (omega arith)
    stmt_fewer o ts stmt.Vars = bind (vars_shrink room (o ∷ ts)) (λ vs p. bind_left (must_left (at_semicolon vs.1) vs.1 p) (λ rest q. leaves q))
    stmt_fewer o ts stmt.If = if_fewer o ts
    stmt_fewer o ts stmt.While = while_fewer o ts
    stmt_fewer o ts stmt.Do = do_fewer o ts
    stmt_fewer o ts stmt.For = for_fewer o ts
    stmt_fewer o ts stmt.Switch = switch_fewer o ts
    stmt_fewer o ts stmt.Return = bind (within (maybe_leaves room ts) (omega arith)) (λ e p. bind_left (must_left (at_semicolon e.1) e.1 p) (λ rest q. leaves q))
    stmt_fewer o ts stmt.Break = bind_left (must_left (at_semicolon ts) ts (omega arith)) (λ rest p. leaves p)
    stmt_fewer o ts stmt.Continue = bind_left (must_left (at_semicolon ts) ts (omega arith)) (λ rest p. leaves p)
    stmt_fewer o ts stmt.Expr = expr_stmt_fewer (o ∷ ts)

    stmt_shrinks : Shrinks (stmt_with c room r)
    stmt_shrinks [] = expr_stmt_fewer []
    stmt_shrinks (o ∷ ts) = stmt_fewer o ts (stmt_of c o)

    arm_stmt_fewer : (ts : List Tok) → Fewer (length ts) (arm_by c room r ts arm.Stmt)
    arm_stmt_fewer ts = bind (all.stmt ts) (λ s p. leaves p)

    arm_fewer : (o : Tok) (ts : List Tok) (l : ArmLead) → Fewer (suc (length ts)) (arm_by c room r (o ∷ ts) l)
    arm_fewer o ts arm.Case = bind (on (constant_shrinks room ts) (omega arith)) (λ e p. bind_left (must_left (at_colon e.1) e.1 p) (λ rest q. leaves q))
    arm_fewer o ts arm.Default = bind_left (must_left (at_colon ts) ts (omega arith)) (λ rest p. leaves p)
    arm_fewer o ts arm.Stmt = arm_stmt_fewer (o ∷ ts)

    arm_shrinks : Shrinks (arm_with c room r)
    arm_shrinks [] = arm_stmt_fewer []
    arm_shrinks (o ∷ ts) = arm_fewer o ts (arm_of o)

  pub bodies_shrink : (room : ℕ) → BodiesShrink (bodies c room)
  unfolding bodies
  bodies_shrink zero = record {
    stmt = λ ts. fault;
    arm = λ ts. fault;
  }
  bodies_shrink (suc room) = record {
    stmt = λ ts. stmt_shrinks room (bodies c room) (bodies_shrink room) ts;
    arm = λ ts. arm_shrinks room (bodies c room) (bodies_shrink room) ts;
  }

  pub stmt_read_shrinks : (room : ℕ) → Shrinks (stmt_read c room)
  stmt_read_shrinks room ts = (bodies_shrink room).stmt ts

  pub arm_read_shrinks : (room : ℕ) → Shrinks (arm_read c room)
  arm_read_shrinks room ts = (bodies_shrink room).arm ts

  -- ---- items

  body_fewer : {n : ℕ} (room : ℕ) (at : List Tok) (y : TypeT) (w : List ℕ) (vs : List VarT) (ts : List Tok) → length ts < n → (b : Bool) → Fewer n (body_by c room at y w vs ts b)
  body_fewer room at y w vs ts p true = leaves (behind_fewer ts p)
  body_fewer room at y w vs ts p false = bind_left (must_left (at_open_brace ts) ts p) (λ us q. bind (braced_fewer (stmt_read c room) (stmt_read_shrinks room) us q) (λ ss u.
      bind_left (must_left (at_close_brace ss.1) ss.1 u) (λ rest v. leaves v)))

  function_fewer : {n : ℕ} (room : ℕ) (at : List Tok) (y : TypeT) (w : List ℕ) (ts : List Tok) → length ts < n → Fewer n (function_at c room at y w ts)
  function_fewer room at y w ts p = bind_left (must_left (at_open_paren ts) ts p) (λ us q. bind (within (params_leave room us) q) (λ vs u.
      bind_left (must_left (at_close_paren vs.1) vs.1 u) (λ mid v. body_fewer room at y w vs.0 mid v (at_semicolon mid))))

  vars_item_fewer : (room : ℕ) (at ts : List Tok) (b : Bool) → Fewer (length at) (vars_by c room at ts b)
  vars_item_fewer room at ts false = fault
  vars_item_fewer room at ts true = bind (vars_shrink room at) (λ vs p. bind_left (must_left (at_semicolon vs.1) vs.1 p) (λ rest q. leaves q))

  typed_fewer : (room : ℕ) (ts : List Tok) (y : TypeT) (w : Got (List ℕ)) → length w.1 < length ts → (b : Bool) → Fewer (length ts) (typed_by c room ts y w b)
  typed_fewer room ts y w p true = function_fewer room ts y w.0 w.1 p
  typed_fewer room ts y w p false = vars_item_fewer room ts w.1 (nat_lt (type_depth y) room)

  typed_shrinks : (room : ℕ) → Shrinks (typed_at c room)
  typed_shrinks room ts = bind (type_read_shrinks room ts) (λ y p. bind (on (name_shrinks c y.1) p) (λ n q. typed_fewer room ts y.0 n q (at_open_paren n.1)))

module _ (c : Context) (room : ℕ) where
  record_fewer : {n : ℕ} (at : List Tok) (u : Bool) (w : Got (List ℕ)) → length w.1 < n → (b : Bool) → Fewer n (record_by c room at u w b)
  record_fewer at u w p true = leaves (behind_fewer w.1 p)
  record_fewer at u w p false = bind_left (must_left (at_open_brace w.1) w.1 p) (λ us q. bind (on (members_shrink (declare w.0 c) room us) q) (λ vs p3.
      bind_left (must_left (at_close_brace vs.1) vs.1 p3) (λ mid p4. bind_left (must_left (at_semicolon mid) mid p4) (λ rest p5. leaves p5))))

  enum_fewer : (o : Tok) (ts : List Tok) → Fewer (suc (length ts)) (enum_at c room (o ∷ ts))
  enum_fewer o ts = bind (on (new_shrinks ts) (omega arith)) (λ w p. bind_left (must_left (at_open_brace w.1) w.1 p) (λ us q. bind (on (listed_shrinks (value c room) (value_shrinks c room) us) q) (λ vs p3.
      bind_left (end_list_left vs.1 p3) (λ mid p4. bind_left (must_left (at_semicolon mid) mid p4) (λ rest p5. leaves p5)))))

  typedef_fewer : (o : Tok) (ts : List Tok) → Fewer (suc (length ts)) (typedef_at c room (o ∷ ts))
  typedef_fewer o ts = bind (on (type_read_shrinks c room ts) (omega arith)) (λ y p. bind (on (new_shrinks y.1) p) (λ w q. bind_left (must_left (at_semicolon w.1) w.1 q) (λ rest u. leaves u)))

  item_fewer : (o : Tok) (ts : List Tok) (l : ItemLead) → Fewer (suc (length ts)) (item_by c room (o ∷ ts) l)
  item_fewer o ts (item.Record u) = bind (on (new_shrinks ts) (omega arith)) (λ w p. record_fewer (o ∷ ts) u w p (at_semicolon w.1))
  item_fewer o ts item.Enum = enum_fewer o ts
  item_fewer o ts item.Typedef = typedef_fewer o ts
  item_fewer o ts item.Void = bind (on (name_shrinks c ts) (omega arith)) (λ w p. function_fewer c room (o ∷ ts) VoidY w.0 w.1 p)
  item_fewer o ts item.Other = typed_shrinks c room (o ∷ ts)

  pub item_shrinks : Shrinks (item_read c room)
  item_shrinks [] = typed_shrinks c room []
  item_shrinks (o ∷ ts) = item_fewer o ts (item_of o ts)

-- ---- what is known of the turns and of the items

module _ (c : Context) where
  pub turns_of_types : (n room : ℕ) → Takes (type_mark_turn (readers c n) room)
  turns_of_types n room = taken (type_mark_turn (readers c n) room) (type_marks_take c (readers c n) (readers_shrink c n) room)

  pub turns_of_exprs : (n : ℕ) → Takes (exprs_turn (readers c n))
  turns_of_exprs n = taken (exprs_turn (readers c n)) (exprs_take c (readers c n) (readers_shrink c n))

  pub turns_of_suffixes : (n room : ℕ) (at : List Tok) → Takes (suffix_turn c (readers c n) room at)
  turns_of_suffixes n room at = taken (suffix_turn c (readers c n) room at) (suffixes_take c (readers c n) (readers_shrink c n) room at)

  pub turns_of_operators : (n room k : ℕ) (at : List Tok) → Takes (operator_turn c (readers c n) room k at)
  turns_of_operators n room k at = taken (operator_turn c (readers c n) room k at) (operators_take c (readers c n) (readers_shrink c n) room k at)

  pub turns_of_fields : (y : TypeT) → Takes (comma_turn (field c y))
  turns_of_fields y = taken (comma_turn (field c y)) (comma_takes (field c y) (field_shrinks c y))

  pub turns_of_vars : (room : ℕ) (y : TypeT) → Takes (comma_turn (var c room y))
  turns_of_vars room y = taken (comma_turn (var c room y)) (comma_takes (var c room y) (var_shrinks c room y))

  pub turns_of_params : (room : ℕ) → Takes (comma_turn (param_at c room))
  turns_of_params room = taken (comma_turn (param_at c room)) (comma_takes (param_at c room) (param_shrinks c room))

  pub turns_of_inits : (room : ℕ) → Takes (more_turn (init_at c room))
  turns_of_inits room = taken (more_turn (init_at c room)) (more_takes (init_at c room) (init_shrinks c room))

  pub turns_of_values : (room : ℕ) → Takes (more_turn (value c room))
  turns_of_values room = taken (more_turn (value c room)) (more_takes (value c room) (value_shrinks c room))

  pub turns_of_members : (room : ℕ) → Takes (members_turn c room)
  turns_of_members room = taken (members_turn c room) (members_take c room)

  pub turns_of_stmts : (room : ℕ) → Takes (brace_turn (stmt_read c room))
  turns_of_stmts room = taken (brace_turn (stmt_read c room)) (brace_takes (stmt_read c room) (stmt_read_shrinks c room))

  pub turns_of_arms : (room : ℕ) → Takes (brace_turn (arm_read c room))
  turns_of_arms room = taken (brace_turn (arm_read c room)) (brace_takes (arm_read c room) (arm_read_shrinks c room))

  pub items_take : (room : ℕ) (ts : List Tok) (x : Got ItemT) → item_read c room ts ≡ Ok x → length x.1 < length ts
  items_take room ts x e = left_fewer (item_shrinks c room ts) x e

-- ---- the same, as it is asked for where two lists of tokens are compared

module _ (more more' : List Tok) (total total' : ℕ) (shift : total + length more' ≡ total' + length more) (types : List (List ℕ)) where
  abbrev one : Context
  one = record { total = total; types = types }

  pub turns_take : TurnsTake more more' total total' shift types
  turns_take = record {
    types_take = turns_of_types one;
    exprs_take = turns_of_exprs one;
    suffixes_take = turns_of_suffixes one;
    operators_take = turns_of_operators one;
  }

  pub lists_take : (turns : TurnsTake more more' total total' shift types) → ListsTake more more' total total' shift types turns
  lists_take turns = record {
    fields_take = turns_of_fields one;
    vars_take = turns_of_vars one;
    params_take = turns_of_params one;
    inits_take = turns_of_inits one;
    values_take = turns_of_values one;
    members_take = turns_of_members one;
    stmts_take = turns_of_stmts one;
    arms_take = turns_of_arms one;
  }

-- with what is known of a type that is read again with less room, all that is asked for
module _ (more more' : List Tok) (total total' : ℕ) (shift : total + length more' ≡ total' + length more) where
  abbrev pub Again : Type 0
  Again = (types : List (List ℕ)) (room : ℕ) (ts : List Tok) (x : Got TypeT) → type_read (record { total = total; types = types }) (suc room) ts ≡ Ok x → nat_lt (type_depth x.0) (suc room) ≡ true
      → type_read (record { total = total; types = types }) room ts ≡ Ok x

  pub known : Again → Known more more' total total' shift
  known again = record {
    turns = λ types. turns_take more more' total total' shift types;
    lists = λ types. lists_take more more' total total' shift types (turns_take more more' total total' shift types);
    items = λ types. items_take (record { total = total; types = types });
    again = again;
  }
