-- The grammar of variables, members, parameters and the values of an enumeration.
use Rattle.std.specs.Prelude.{◌≡◌, ℕ, List, [], ◌∷◌, ◌++◌, Option, Some, None, false}
use Rattle.c_lex.specs.declared.token.Punct.TheVariants as m
use Rattle.c_tree.specs.Tree.{ExprT, TypeT, InitT, OneI, ListI, VarT}
use Rattle.c_tree.specs.View.{inits}
use Rattle.c_parse.specs.declared.class.Key.TheVariants as key
use Rattle.c_parse.specs.Tok.{Tok, keyword, word, mark}
use Rattle.c_parse.specs.Scope.{Context, is_type, span}
use Rattle.c_parse.specs.Grammar.{Ty, Expr, Level}
use Rattle.c_parse.specs.Lists.{Separated, ListEnd}

mutual
  pub data Init (c : Context) : List Tok → InitT → List Tok → Type 0 where
    one : {ts rest : List Tok} {e : ExprT} → Expr c ts e rest → Init c ts (OneI e) rest
    list : {ts mid rest : List Tok} {is : List InitT} → Inits c ts is mid → ListEnd mid rest
        → Init c (mark m.OpenBrace ∷ ts) (ListI (inits is) (span c (mark m.OpenBrace ∷ ts) rest)) rest

  pub data Inits (c : Context) : List Tok → List InitT → List Tok → Type 0 where
    last_init : {ts rest : List Tok} {i : InitT} → Init c ts i rest → Inits c ts (i ∷ []) rest
    more_inits : {ts mid rest : List Tok} {i : InitT} {is : List InitT} → Init c ts i (mark m.Comma ∷ mid) → Inits c mid is rest → Inits c ts (i ∷ is) rest

-- a name that has the type y
pub data Field (c : Context) (y : TypeT) : List Tok → VarT → List Tok → Type 0 where
  field : {rest : List Tok} {n : List ℕ} → is_type c n ≡ false
      → Field c y (word n ∷ rest) (record { ty = y; name = n; init = None; span = span c (word n ∷ rest) rest }) rest

-- and may have an initial value
pub data Var (c : Context) (y : TypeT) : List Tok → VarT → List Tok → Type 0 where
  plain_var : {ts rest : List Tok} {v : VarT} → Field c y ts v rest → Var c y ts v rest
  set_var : {ts rest : List Tok} {n : List ℕ} {i : InitT} → is_type c n ≡ false → Init c ts i rest
      → Var c y (word n ∷ mark m.Assign ∷ ts) (record { ty = y; name = n; init = Some i; span = span c (word n ∷ mark m.Assign ∷ ts) rest }) rest

pub data Vars (c : Context) : List Tok → List VarT → List Tok → Type 0 where
  vars : {ts mid rest : List Tok} {y : TypeT} {vs : List VarT} → Ty c ts y mid → Separated (Var c y) mid vs rest → Vars c ts vs rest

pub data Member (c : Context) : List Tok → List VarT → List Tok → Type 0 where
  member : {ts mid rest : List Tok} {y : TypeT} {vs : List VarT} → Ty c ts y mid → Separated (Field c y) mid vs (mark m.Semicolon ∷ rest) → Member c ts vs rest

pub data Members (c : Context) : List Tok → List VarT → List Tok → Type 0 where
  last_member : {ts rest : List Tok} {vs : List VarT} → Member c ts vs rest → Members c ts vs rest
  more_members : {ts mid rest : List Tok} {vs us : List VarT} → Member c ts vs mid → Members c mid us rest → Members c ts (vs ++ us) rest

pub data Param (c : Context) : List Tok → VarT → List Tok → Type 0 where
  param : {ts mid rest : List Tok} {y : TypeT} {v : VarT} → Ty c ts y mid → Field c y mid v rest → Param c ts v rest

pub data Params (c : Context) : List Tok → List VarT → List Tok → Type 0 where
  no_params : {ts : List Tok} → Params c ts [] ts
  void_params : {ts : List Tok} → Params c (keyword key.Void ∷ ts) [] ts
  some_params : {ts rest : List Tok} {vs : List VarT} → Separated (Param c) ts vs rest → Params c ts vs rest

pub data Value (c : Context) : List Tok → List ℕ × Option ExprT → List Tok → Type 0 where
  plain_value : {rest : List Tok} {n : List ℕ} → is_type c n ≡ false → Value c (word n ∷ rest) (n, None) rest
  set_value : {ts rest : List Tok} {n : List ℕ} {e : ExprT} → is_type c n ≡ false → Level c 10 ts e rest
      → Value c (word n ∷ mark m.Assign ∷ ts) (n, Some e) rest
