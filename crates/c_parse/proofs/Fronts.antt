-- What the parts of the grammar begin with, what may come behind them, and that each takes a token at least.
use Rattle.std.proofs.Common.{◌≡◌, ℕ, suc, ◌<◌, ◌≤◌, true, false, eqb, List, ◌∷◌, Option, Some, None, refl, arith}
use Rattle.std.proofs.lemmas.Bool.Decides.{nat_tests}
use Rattle.c_lex.specs.declared.token.Punct.{Punct}
use Rattle.c_lex.specs.declared.token.Punct.TheVariants as m
use Rattle.c_tree.specs.declared.operator.UnOp.{UnOp}
use Rattle.c_tree.specs.declared.operator.StepOp.{StepOp}
use Rattle.c_tree.specs.declared.operator.BinOp.{BinOp}
use Rattle.c_tree.specs.Tree.{ExprT, TypeT}
use Rattle.c_parse.specs.declared.class.Key.TheVariants as key
use Rattle.c_parse.specs.declared.lead.Start.TheVariants as start
use Rattle.c_parse.specs.declared.lead.Lead.TheVariants as lead
use Rattle.c_parse.specs.declared.lead.Suffix.TheVariants as suffix
use Rattle.c_parse.specs.Tok.{Tok, keyword, number, character, mark}
use Rattle.c_parse.specs.Scope.{Context}
use Rattle.c_parse.specs.Marks.{prefix, step_before, step_behind, binary, assigner, value}
use Rattle.c_parse.specs.inner.Reader.{at_open_paren, is_open_paren}
use Rattle.c_parse.specs.inner.Leads.{begins_type, start_at, lead_of, begins_expr, suffix_of, suffix_at}
use Rattle.c_parse.specs.inner.Reading.{operator_at, assigner_at, is_unary}
use Rattle.c_parse.specs.Grammar as g
use Rattle.c_parse.specs.Grammar.{Base, Ty, Marks, Run, Expr, Level, Tail, Unary, Suffixes, Primary, Exprs, NoBracket}

-- no expression of the level goes on with these tokens; level 11 is the whole expression
pub record Ends (k : ℕ) (ts : List Tok) : Type 0 where
  pub suffix : suffix_at ts ≡ suffix.Nothing
  pub paren : at_open_paren ts ≡ false
  pub operator : (j : ℕ) → 0 < j → j ≤ k → operator_at j ts ≡ None
  pub assigner : 10 < k → assigner_at ts ≡ None

pub Ends_less : (j k : ℕ) (ts : List Tok) → j ≤ k → Ends k ts → Ends j ts
Ends_less j k ts le h = record { suffix = h.suffix; paren = h.paren; operator = λ i pos at. h.operator i pos (omega arith); assigner = λ lt. h.assigner (omega arith) }

-- a mark that ends each expression
abbrev pub IsEnd : Punct → Type 0
IsEnd m.Comma = Unit {0}
IsEnd m.Semicolon = Unit {0}
IsEnd m.Colon = Unit {0}
IsEnd m.CloseParen = Unit {0}
IsEnd m.CloseBracket = Unit {0}
IsEnd m.CloseBrace = Unit {0}
IsEnd _ = ⊥

pub end_ends : (k : ℕ) (p : Punct) (ts : List Tok) → IsEnd p → Ends k (mark p ∷ ts)
end_ends k m.Comma ts h = record { suffix = refl; paren = refl; operator = λ j pos le. refl; assigner = λ lt. refl }
end_ends k m.Semicolon ts h = record { suffix = refl; paren = refl; operator = λ j pos le. refl; assigner = λ lt. refl }
end_ends k m.Colon ts h = record { suffix = refl; paren = refl; operator = λ j pos le. refl; assigner = λ lt. refl }
end_ends k m.CloseParen ts h = record { suffix = refl; paren = refl; operator = λ j pos le. refl; assigner = λ lt. refl }
end_ends k m.CloseBracket ts h = record { suffix = refl; paren = refl; operator = λ j pos le. refl; assigner = λ lt. refl }
end_ends k m.CloseBrace ts h = record { suffix = refl; paren = refl; operator = λ j pos le. refl; assigner = λ lt. refl }
end_ends k _ ts h = absurd h

pub not_equal : (k n : ℕ) → k < n → eqb n k ≡ false
not_equal k n h = grind (arith, nat_tests)

pub same_equal : (n : ℕ) → eqb n n ≡ true
same_equal n = grind (arith, nat_tests)

-- an operator between operands begins nothing else that goes on with an expression
binary_no_suffix : (o : Tok) (p : ℕ × BinOp) → binary o ≡ Some p → suffix_of o ≡ suffix.Nothing
binary_no_suffix (mark m.OpenBracket) p e = absurd cc
binary_no_suffix (mark m.Dot) p e = absurd cc
binary_no_suffix (mark m.Arrow) p e = absurd cc
binary_no_suffix (mark m.PlusPlus) p e = absurd cc
binary_no_suffix (mark m.MinusMinus) p e = absurd cc
binary_no_suffix _ p e = refl

binary_no_paren : (o : Tok) (p : ℕ × BinOp) → binary o ≡ Some p → is_open_paren o ≡ false
binary_no_paren (mark m.OpenParen) p e = absurd cc
binary_no_paren _ p e = refl

binary_no_assigner : (o : Tok) (p : ℕ × BinOp) → binary o ≡ Some p → assigner o ≡ None
binary_no_assigner (mark m.Assign) p e = absurd cc
binary_no_assigner (mark m.PlusAssign) p e = absurd cc
binary_no_assigner (mark m.MinusAssign) p e = absurd cc
binary_no_assigner (mark m.StarAssign) p e = absurd cc
binary_no_assigner (mark m.SlashAssign) p e = absurd cc
binary_no_assigner (mark m.PercentAssign) p e = absurd cc
binary_no_assigner (mark m.ShlAssign) p e = absurd cc
binary_no_assigner (mark m.ShrAssign) p e = absurd cc
binary_no_assigner (mark m.AndAssign) p e = absurd cc
binary_no_assigner (mark m.OrAssign) p e = absurd cc
binary_no_assigner (mark m.XorAssign) p e = absurd cc
binary_no_assigner _ p e = refl

assigner_no_suffix : (o : Tok) (p : Option BinOp) → assigner o ≡ Some p → suffix_of o ≡ suffix.Nothing
assigner_no_suffix (mark m.OpenBracket) p e = absurd cc
assigner_no_suffix (mark m.Dot) p e = absurd cc
assigner_no_suffix (mark m.Arrow) p e = absurd cc
assigner_no_suffix (mark m.PlusPlus) p e = absurd cc
assigner_no_suffix (mark m.MinusMinus) p e = absurd cc
assigner_no_suffix _ p e = refl

assigner_no_paren : (o : Tok) (p : Option BinOp) → assigner o ≡ Some p → is_open_paren o ≡ false
assigner_no_paren (mark m.OpenParen) p e = absurd cc
assigner_no_paren _ p e = refl

assigner_no_binary : (o : Tok) (p : Option BinOp) → assigner o ≡ Some p → binary o ≡ None
assigner_no_binary (mark m.Star) p e = absurd cc
assigner_no_binary (mark m.Slash) p e = absurd cc
assigner_no_binary (mark m.Percent) p e = absurd cc
assigner_no_binary (mark m.Plus) p e = absurd cc
assigner_no_binary (mark m.Minus) p e = absurd cc
assigner_no_binary (mark m.Shl) p e = absurd cc
assigner_no_binary (mark m.Shr) p e = absurd cc
assigner_no_binary (mark m.Less) p e = absurd cc
assigner_no_binary (mark m.LessEqual) p e = absurd cc
assigner_no_binary (mark m.Greater) p e = absurd cc
assigner_no_binary (mark m.GreaterEqual) p e = absurd cc
assigner_no_binary (mark m.EqualEqual) p e = absurd cc
assigner_no_binary (mark m.NotEqual) p e = absurd cc
assigner_no_binary (mark m.And) p e = absurd cc
assigner_no_binary (mark m.Xor) p e = absurd cc
assigner_no_binary (mark m.Or) p e = absurd cc
assigner_no_binary (mark m.AndAnd) p e = absurd cc
assigner_no_binary (mark m.OrOr) p e = absurd cc
assigner_no_binary _ p e = refl

-- the operator of its own level is found, and none of a lower level
pub operator_found : (k : ℕ) (op : BinOp) (o : Tok) (ts : List Tok) → binary o ≡ Some (k, op) → operator_at k (o ∷ ts) ≡ Some op
operator_found k op o ts e = rw (e, same_equal k) refl

pub Ends_operator : (k : ℕ) (op : BinOp) (o : Tok) (ts : List Tok) → binary o ≡ Some (suc k, op) → Ends k (o ∷ ts)
Ends_operator k op o ts e = record {
  suffix = binary_no_suffix o (suc k, op) e;
  paren = binary_no_paren o (suc k, op) e;
  operator = λ j pos le. rw (e, not_equal j (suc k) (omega arith)) refl;
  assigner = λ lt. binary_no_assigner o (suc k, op) e;
}

pub Ends_assigner : (op : Option BinOp) (o : Tok) (ts : List Tok) → assigner o ≡ Some op → Ends 10 (o ∷ ts)
Ends_assigner op o ts e = record {
  suffix = assigner_no_suffix o op e;
  paren = assigner_no_paren o op e;
  operator = λ j pos le. rw (assigner_no_binary o op e) refl;
  assigner = λ lt. absurd (omega arith);
}

pub tail_front : {c : Context} {k : ℕ} {at ts rest : List Tok} {a e : ExprT} → Tail c k at a ts e rest → Ends (suc k) rest → Ends k ts
tail_front (g.ended {k = k} {ts = ts}) ends = Ends_less k (suc k) ts (omega arith) ends
tail_front (g.operated {k = k} {ts = ts} {o = o} {op = op} is d t) ends = Ends_operator k op o ts is

-- what the marks begin
pub prefix_start : (c : Context) (o : Tok) (op : UnOp) (ts : List Tok) → prefix o ≡ Some op → start_at c (o ∷ ts) ≡ start.Operator op
prefix_start c (mark m.PlusPlus) op ts e = absurd cc
prefix_start c (mark m.MinusMinus) op ts e = absurd cc
prefix_start c (mark m.OpenParen) op ts e = absurd cc
prefix_start c (mark m.Minus) op ts e = cc
prefix_start c (mark m.Plus) op ts e = cc
prefix_start c (mark m.Bang) op ts e = cc
prefix_start c (mark m.Tilde) op ts e = cc
prefix_start c (mark m.Star) op ts e = cc
prefix_start c (mark m.And) op ts e = cc
prefix_start c _ op ts e = absurd cc

pub step_start : (c : Context) (o : Tok) (op : StepOp) (ts : List Tok) → step_before o ≡ Some op → start_at c (o ∷ ts) ≡ start.Step op
step_start c (mark m.PlusPlus) op ts e = cc
step_start c (mark m.MinusMinus) op ts e = cc
step_start c _ op ts e = absurd cc

pub step_suffix : (o : Tok) (op : StepOp) → step_behind o ≡ Some op → suffix_of o ≡ suffix.Step op
step_suffix (mark m.PlusPlus) op e = cc
step_suffix (mark m.MinusMinus) op e = cc
step_suffix _ op e = absurd cc

pub value_lead : (c : Context) (o : Tok) (n : ℕ) → value o ≡ Some n → lead_of c o ≡ lead.Value n
value_lead c (number n') n e = cc
value_lead c (character n') n e = cc
value_lead c (keyword key.True) n e = cc
value_lead c (keyword key.False) n e = cc
value_lead c _ n e = absurd cc

pub value_start : (c : Context) (o : Tok) (n : ℕ) (ts : List Tok) → value o ≡ Some n → start_at c (o ∷ ts) ≡ start.Other
value_start c (number n') n ts e = refl
value_start c (character n') n ts e = refl
value_start c (keyword key.True) n ts e = refl
value_start c (keyword key.False) n ts e = refl
value_start c _ n ts e = absurd cc

value_no_type : (c : Context) (o : Tok) (n : ℕ) (ts : List Tok) → value o ≡ Some n → begins_type c (o ∷ ts) ≡ false
value_no_type c (number n') n ts e = refl
value_no_type c (character n') n ts e = refl
value_no_type c (keyword key.True) n ts e = refl
value_no_type c (keyword key.False) n ts e = refl
value_no_type c _ n ts e = absurd cc

prefix_no_type : (c : Context) (o : Tok) (op : UnOp) (ts : List Tok) → prefix o ≡ Some op → begins_type c (o ∷ ts) ≡ false
prefix_no_type c (mark p) op ts e = refl
prefix_no_type c _ op ts e = absurd cc

step_no_type : (c : Context) (o : Tok) (op : StepOp) (ts : List Tok) → step_before o ≡ Some op → begins_type c (o ∷ ts) ≡ false
step_no_type c (mark p) op ts e = refl
step_no_type c _ op ts e = absurd cc

-- types
pub base_type : {c : Context} {ts rest : List Tok} {y : TypeT} → Base c ts y rest → begins_type c ts ≡ true
base_type g.int = refl
base_type g.bool = refl
base_type (g.named h) = rw h refl
base_type g.void = refl

pub ty_type : {c : Context} {ts rest : List Tok} {y : TypeT} → Ty c ts y rest → begins_type c ts ≡ true
ty_type (g.type b d) = base_type b

-- expressions begin no type
mutual
  pub primary_no_type : {c : Context} {ts rest : List Tok} {e : ExprT} → Primary c ts e rest → begins_type c ts ≡ false
  primary_no_type (g.name h) = rw h refl
  primary_no_type (g.call_bare h) = rw h refl
  primary_no_type (g.call h d) = rw h refl
  primary_no_type {c = c} (g.valued {rest = rest} {o = o} {n = n} h) = value_no_type c o n rest h
  primary_no_type g.text_ = refl
  primary_no_type g.null = refl
  primary_no_type (g.paren d) = refl

  pub unary_no_type : {c : Context} {ts rest : List Tok} {e : ExprT} → Unary c ts e rest → begins_type c ts ≡ false
  unary_no_type {c = c} (g.operator {ts = ts} {o = o} {op = op} h d) = prefix_no_type c o op ts h
  unary_no_type {c = c} (g.step {ts = ts} {o = o} {op = op} h d) = step_no_type c o op ts h
  unary_no_type (g.cast d u) = refl
  unary_no_type (g.size d) = refl
  unary_no_type (g.postfix p s) = primary_no_type p

pub level_no_type : {c : Context} {k : ℕ} {ts rest : List Tok} {e : ExprT} → Level c k ts e rest → begins_type c ts ≡ false
level_no_type (g.unary d) = unary_no_type d
level_no_type (g.level d t) = level_no_type d

pub expr_no_type : {c : Context} {ts rest : List Tok} {e : ExprT} → Expr c ts e rest → begins_type c ts ≡ false
expr_no_type (g.plain d) = level_no_type d
expr_no_type (g.assign d h r) = unary_no_type d

-- the start and the lead of what begins an expression
pub primary_start : {c : Context} {ts rest : List Tok} {e : ExprT} → Primary c ts e rest → start_at c ts ≡ start.Other
primary_start (g.name h) = refl
primary_start (g.call_bare h) = refl
primary_start (g.call h d) = refl
primary_start {c = c} (g.valued {rest = rest} {o = o} {n = n} h) = value_start c o n rest h
primary_start g.text_ = refl
primary_start g.null = refl
primary_start (g.paren d) = rw (expr_no_type d) refl

value_begins : (c : Context) (o : Tok) (n : ℕ) (ts : List Tok) → value o ≡ Some n → begins_expr c (o ∷ ts) ≡ true
value_begins c (number n') n ts e = refl
value_begins c (character n') n ts e = refl
value_begins c (keyword key.True) n ts e = refl
value_begins c (keyword key.False) n ts e = refl
value_begins c _ n ts e = absurd cc

pub primary_begins : {c : Context} {ts rest : List Tok} {e : ExprT} → Primary c ts e rest → begins_expr c ts ≡ true
primary_begins (g.name h) = rw h refl
primary_begins (g.call_bare h) = rw h refl
primary_begins (g.call h d) = rw h refl
primary_begins {c = c} (g.valued {rest = rest} {o = o} {n = n} h) = value_begins c o n rest h
primary_begins g.text_ = refl
primary_begins g.null = refl
primary_begins (g.paren d) = rw (expr_no_type d) refl

pub unary_begins : {c : Context} {ts rest : List Tok} {e : ExprT} → Unary c ts e rest → begins_expr c ts ≡ true
unary_begins {c = c} (g.operator {ts = ts} {o = o} {op = op} h d) = rw (prefix_start c o op ts h) refl
unary_begins {c = c} (g.step {ts = ts} {o = o} {op = op} h d) = rw (step_start c o op ts h) refl
unary_begins (g.cast d u) = rw (ty_type d) refl
unary_begins (g.size d) = refl
unary_begins (g.postfix p s) = primary_begins p

pub level_begins : {c : Context} {k : ℕ} {ts rest : List Tok} {e : ExprT} → Level c k ts e rest → begins_expr c ts ≡ true
level_begins (g.unary d) = unary_begins d
level_begins (g.level d t) = level_begins d

pub expr_begins : {c : Context} {ts rest : List Tok} {e : ExprT} → Expr c ts e rest → begins_expr c ts ≡ true
expr_begins (g.plain d) = level_begins d
expr_begins (g.assign d h r) = unary_begins d

pub unary_is : {c : Context} {ts rest : List Tok} {e : ExprT} → Unary c ts e rest → is_unary e ≡ true
unary_is (g.operator h d) = refl
unary_is (g.step h d) = refl
unary_is (g.cast d u) = refl
unary_is (g.size d) = refl
unary_is (g.postfix p s) = suffixes_is s (primary_is p)
  where
    primary_is : {c : Context} {ts rest : List Tok} {e : ExprT} → Primary c ts e rest → is_unary e ≡ true
    primary_is (g.name h) = refl
    primary_is (g.call_bare h) = refl
    primary_is (g.call h d) = refl
    primary_is (g.valued h) = refl
    primary_is g.text_ = refl
    primary_is g.null = refl
    primary_is (g.paren d) = refl

    suffixes_is : {c : Context} {at ts rest : List Tok} {a e : ExprT} → Suffixes c at a ts e rest → is_unary a ≡ true → is_unary e ≡ true
    suffixes_is g.bare u = u
    suffixes_is (g.index d s) u = suffixes_is s refl
    suffixes_is (g.member h s) u = suffixes_is s refl
    suffixes_is (g.arrow h s) u = suffixes_is s refl
    suffixes_is (g.stepped h s) u = suffixes_is s refl
