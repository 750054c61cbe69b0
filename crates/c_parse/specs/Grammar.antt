-- The grammar of expressions and types. Each rule says: the tokens ts begin with this tree, and after it come the tokens rest.
-- There is one constructor for each production.
use Rattle.std.specs.Prelude.{◌≡◌, ℕ, zero, suc, List, [], ◌∷◌, Option, Some, false, true}
use Rattle.c_lex.specs.declared.token.Punct.TheVariants as m
use Rattle.c_tree.specs.declared.operator.UnOp.{UnOp}
use Rattle.c_tree.specs.declared.operator.StepOp.{StepOp}
use Rattle.c_tree.specs.declared.operator.BinOp.{BinOp}
use Rattle.c_tree.specs.Tree.{ExprT, NameE, NumberE, TextE, NullE, ParenE, UnaryE, BinaryE, AssignE, StepE, IndexE, MemberE, ArrowE, CallE, CastE}
use Rattle.c_tree.specs.Tree.{SizeOfE, NoE, TypeT, IntY, BoolY, VoidY, NamedY, PointerY, ArrayY}
use Rattle.c_tree.specs.View.{exprs}
use Rattle.c_parse.specs.declared.class.Key.TheVariants as key
use Rattle.c_parse.specs.Tok.{Tok, keyword, word, text, mark}
use Rattle.c_parse.specs.Scope.{Context, is_type, span}
use Rattle.c_parse.specs.Marks.{prefix, step_before, step_behind, binary, assigner, value}

-- int, bool, the name of a type, or void before a star
pub data Base (c : Context) : List Tok → TypeT → List Tok → Type 0 where
  int : {rest : List Tok} → Base c (keyword key.Int ∷ rest) IntY rest
  bool : {rest : List Tok} → Base c (keyword key.Bool ∷ rest) BoolY rest
  named : {n : List ℕ} {rest : List Tok} → is_type c n ≡ true → Base c (word n ∷ rest) (NamedY n) rest
  void : {rest : List Tok} → Base c (keyword key.Void ∷ mark m.Star ∷ rest) VoidY (mark m.Star ∷ rest)

-- no bracket comes next
abbrev pub NoBracket : List Tok → Type 0
NoBracket (mark m.OpenBracket ∷ ts) = ⊥
NoBracket _ = Unit {0}

mutual
  pub data Ty (c : Context) : List Tok → TypeT → List Tok → Type 0 where
    type : {ts mid rest : List Tok} {a y : TypeT} → Base c ts a mid → Marks c a mid y rest → Ty c ts y rest

  -- stars and runs of brackets behind a type a make the type y
  pub data Marks (c : Context) : TypeT → List Tok → TypeT → List Tok → Type 0 where
    unmarked : {ts : List Tok} {a : TypeT} → Marks c a ts a ts
    pointer : {ts rest : List Tok} {a y : TypeT} → Marks c (PointerY a) ts y rest → Marks c a (mark m.Star ∷ ts) y rest
    array : {ts mid rest : List Tok} {a b y : TypeT} → Run c a ts b mid → NoBracket mid → Marks c b mid y rest → Marks c a ts y rest

  -- brackets behind a type a make the array b, the first of them the outermost
  pub data Run (c : Context) : TypeT → List Tok → TypeT → List Tok → Type 0 where
    bracket : {ts rest : List Tok} {a : TypeT} {e : ExprT} → Level c 10 ts e (mark m.CloseBracket ∷ rest) → Run c a (mark m.OpenBracket ∷ ts) (ArrayY a e) rest
    brackets : {ts mid rest : List Tok} {a b : TypeT} {e : ExprT} → Level c 10 ts e (mark m.CloseBracket ∷ mid) → Run c a mid b rest
        → Run c a (mark m.OpenBracket ∷ ts) (ArrayY b e) rest

  pub data Expr (c : Context) : List Tok → ExprT → List Tok → Type 0 where
    plain : {ts rest : List Tok} {e : ExprT} → Level c 10 ts e rest → Expr c ts e rest
    assign : {ts mid rest : List Tok} {o : Tok} {op : Option BinOp} {a b : ExprT} → Unary c ts a (o ∷ mid) → assigner o ≡ Some op → Expr c mid b rest
        → Expr c ts (AssignE op a b (span c ts rest)) rest

  -- level 0 is `unary`, level 1 `prod`, and so on up to level 10, `or`
  pub data Level (c : Context) : ℕ → List Tok → ExprT → List Tok → Type 0 where
    unary : {ts rest : List Tok} {e : ExprT} → Unary c ts e rest → Level c zero ts e rest
    level : {k : ℕ} {ts mid rest : List Tok} {a e : ExprT} → Level c k ts a mid → Tail c k ts a mid e rest → Level c (suc k) ts e rest

  -- what level k + 1 repeats: operators and right operands behind a, which begins at the tokens at, make e
  pub data Tail (c : Context) : ℕ → List Tok → ExprT → List Tok → ExprT → List Tok → Type 0 where
    ended : {k : ℕ} {at ts : List Tok} {a : ExprT} → Tail c k at a ts a ts
    operated : {k : ℕ} {at ts mid rest : List Tok} {o : Tok} {op : BinOp} {a b e : ExprT} → binary o ≡ Some (suc k, op) → Level c k ts b mid
        → Tail c k at (BinaryE op a b (span c at mid)) mid e rest → Tail c k at a (o ∷ ts) e rest

  pub data Unary (c : Context) : List Tok → ExprT → List Tok → Type 0 where
    operator : {ts rest : List Tok} {o : Tok} {op : UnOp} {a : ExprT} → prefix o ≡ Some op → Unary c ts a rest
        → Unary c (o ∷ ts) (UnaryE op a (span c (o ∷ ts) rest)) rest
    step : {ts rest : List Tok} {o : Tok} {op : StepOp} {a : ExprT} → step_before o ≡ Some op → Unary c ts a rest
        → Unary c (o ∷ ts) (StepE op a (span c (o ∷ ts) rest)) rest
    cast : {ts mid rest : List Tok} {y : TypeT} {a : ExprT} → Ty c ts y (mark m.CloseParen ∷ mid) → Unary c mid a rest
        → Unary c (mark m.OpenParen ∷ ts) (CastE y a (span c (mark m.OpenParen ∷ ts) rest)) rest
    size : {ts rest : List Tok} {y : TypeT} → Ty c ts y (mark m.CloseParen ∷ rest)
        → Unary c (keyword key.SizeOf ∷ mark m.OpenParen ∷ ts) (SizeOfE y (span c (keyword key.SizeOf ∷ mark m.OpenParen ∷ ts) rest)) rest
    postfix : {ts mid rest : List Tok} {a e : ExprT} → Primary c ts a mid → Suffixes c ts a mid e rest → Unary c ts e rest

  -- suffixes behind a, which begins at the tokens at, make e
  pub data Suffixes (c : Context) : List Tok → ExprT → List Tok → ExprT → List Tok → Type 0 where
    bare : {at ts : List Tok} {a : ExprT} → Suffixes c at a ts a ts
    index : {at ts mid rest : List Tok} {a i e : ExprT} → Expr c ts i (mark m.CloseBracket ∷ mid) → Suffixes c at (IndexE a i (span c at mid)) mid e rest
        → Suffixes c at a (mark m.OpenBracket ∷ ts) e rest
    member : {at ts rest : List Tok} {n : List ℕ} {a e : ExprT} → is_type c n ≡ false → Suffixes c at (MemberE a n (span c at ts)) ts e rest
        → Suffixes c at a (mark m.Dot ∷ word n ∷ ts) e rest
    arrow : {at ts rest : List Tok} {n : List ℕ} {a e : ExprT} → is_type c n ≡ false → Suffixes c at (ArrowE a n (span c at ts)) ts e rest
        → Suffixes c at a (mark m.Arrow ∷ word n ∷ ts) e rest
    stepped : {at ts rest : List Tok} {o : Tok} {op : StepOp} {a e : ExprT} → step_behind o ≡ Some op → Suffixes c at (StepE op a (span c at ts)) ts e rest
        → Suffixes c at a (o ∷ ts) e rest

  pub data Primary (c : Context) : List Tok → ExprT → List Tok → Type 0 where
    name : {rest : List Tok} {n : List ℕ} → is_type c n ≡ false → Primary c (word n ∷ rest) (NameE n (span c (word n ∷ rest) rest)) rest
    call_bare : {rest : List Tok} {n : List ℕ} → is_type c n ≡ false
        → Primary c (word n ∷ mark m.OpenParen ∷ mark m.CloseParen ∷ rest)
        (CallE n NoE (span c (word n ∷ mark m.OpenParen ∷ mark m.CloseParen ∷ rest) rest)) rest
    call : {ts rest : List Tok} {n : List ℕ} {es : List ExprT} → is_type c n ≡ false → Exprs c ts es (mark m.CloseParen ∷ rest)
        → Primary c (word n ∷ mark m.OpenParen ∷ ts) (CallE n (exprs es) (span c (word n ∷ mark m.OpenParen ∷ ts) rest)) rest
    valued : {rest : List Tok} {o : Tok} {n : ℕ} → value o ≡ Some n → Primary c (o ∷ rest) (NumberE n (span c (o ∷ rest) rest)) rest
    text_ : {rest : List Tok} {t : List ℕ} → Primary c (text t ∷ rest) (TextE t (span c (text t ∷ rest) rest)) rest
    null : {rest : List Tok} → Primary c (keyword key.Null ∷ rest) (NullE (span c (keyword key.Null ∷ rest) rest)) rest
    paren : {ts rest : List Tok} {e : ExprT} → Expr c ts e (mark m.CloseParen ∷ rest)
        → Primary c (mark m.OpenParen ∷ ts) (ParenE e (span c (mark m.OpenParen ∷ ts) rest)) rest

  -- parted by commas
  pub data Exprs (c : Context) : List Tok → List ExprT → List Tok → Type 0 where
    last : {ts rest : List Tok} {e : ExprT} → Expr c ts e rest → Exprs c ts (e ∷ []) rest
    more : {ts mid rest : List Tok} {e : ExprT} {es : List ExprT} → Expr c ts e (mark m.Comma ∷ mid) → Exprs c mid es rest → Exprs c ts (e ∷ es) rest
