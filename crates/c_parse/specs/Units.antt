-- The grammar of a unit's items, each under the names that are types before it.
use Rattle.std.specs.Prelude.{◌≡◌, ◌≤◌, ℕ, List, [], ◌∷◌, length, Option, Some, None, Bool, true, false}
use Rattle.c_lex.specs.declared.token.Punct.TheVariants as m
use Rattle.c_tree.specs.Tree.{ExprT, TypeT, VoidY, VarT, StmtT, ItemT, RecordD, EnumD, TypedefD, VarsD, FunctionD}
use Rattle.c_tree.specs.View.{stmts}
use Rattle.c_tree.specs.Depth.{unit_depth}
use Rattle.c_parse.specs.declared.class.Key.TheVariants as key
use Rattle.c_parse.specs.Tok.{Tok, keyword, word, mark}
use Rattle.c_parse.specs.Scope.{Context, is_type, declare, span}
use Rattle.c_parse.specs.Grammar.{Ty}
use Rattle.c_parse.specs.Lists.{Separated, ListEnd}
use Rattle.c_parse.specs.Declarations.{Vars, Members, Params, Value}
use Rattle.c_parse.specs.Statements.{Stmts}

-- `struct` or `union`
abbrev pub record_word : Tok → Option Bool
record_word (keyword key.Struct) = Some false
record_word (keyword key.Union) = Some true
record_word _ = None

pub data Gives (c : Context) : List Tok → TypeT → List Tok → Type 0 where
  gives_void : {rest : List Tok} → Gives c (keyword key.Void ∷ rest) VoidY rest
  gives_type : {ts rest : List Tok} {y : TypeT} → Ty c ts y rest → Gives c ts y rest

pub data Item (c : Context) : List Tok → ItemT → List Tok → Type 0 where
  -- the name is a type inside its own members
  record_ : {ts rest : List Tok} {o : Tok} {u : Bool} {n : List ℕ} {vs : List VarT} → record_word o ≡ Some u
      → Members (declare n c) ts vs (mark m.CloseBrace ∷ mark m.Semicolon ∷ rest)
      → Item c (o ∷ word n ∷ mark m.OpenBrace ∷ ts) (RecordD u n (Some vs) (span c (o ∷ word n ∷ mark m.OpenBrace ∷ ts) rest)) rest
  forward : {rest : List Tok} {o : Tok} {u : Bool} {n : List ℕ} → record_word o ≡ Some u
      → Item c (o ∷ word n ∷ mark m.Semicolon ∷ rest) (RecordD u n None (span c (o ∷ word n ∷ mark m.Semicolon ∷ rest) rest)) rest
  enum : {ts mid rest : List Tok} {n : List ℕ} {vs : List (List ℕ × Option ExprT)} → Separated (Value c) ts vs mid → ListEnd mid (mark m.Semicolon ∷ rest)
      → Item c (keyword key.Enum ∷ word n ∷ mark m.OpenBrace ∷ ts) (EnumD n vs (span c (keyword key.Enum ∷ word n ∷ mark m.OpenBrace ∷ ts) rest)) rest
  typedef : {ts rest : List Tok} {y : TypeT} {n : List ℕ} → Ty c ts y (word n ∷ mark m.Semicolon ∷ rest)
      → Item c (keyword key.Typedef ∷ ts) (TypedefD y n (span c (keyword key.Typedef ∷ ts) rest)) rest
  vars : {ts rest : List Tok} {vs : List VarT} → Vars c ts vs (mark m.Semicolon ∷ rest) → Item c ts (VarsD vs (span c ts rest)) rest
  declared : {ts mid rest : List Tok} {y : TypeT} {n : List ℕ} {vs : List VarT} → Gives c ts y (word n ∷ mark m.OpenParen ∷ mid) → is_type c n ≡ false
      → Params c mid vs (mark m.CloseParen ∷ mark m.Semicolon ∷ rest) → Item c ts (FunctionD y n vs None (span c ts rest)) rest
  defined : {ts mid on rest : List Tok} {y : TypeT} {n : List ℕ} {vs : List VarT} {ss : List StmtT} → Gives c ts y (word n ∷ mark m.OpenParen ∷ mid)
      → is_type c n ≡ false
      → Params c mid vs (mark m.CloseParen ∷ mark m.OpenBrace ∷ on) → Stmts c on ss (mark m.CloseBrace ∷ rest)
      → Item c ts (FunctionD y n vs (Some (stmts ss)) (span c ts rest)) rest

-- under the names that are types behind an item
abbrev pub behind_item : ItemT → Context → Context
behind_item (RecordD u n vs sp) c = declare n c
behind_item (EnumD n vs sp) c = declare n c
behind_item (TypedefD y n sp) c = declare n c
behind_item _ c = c

pub data Items : Context → List Tok → List ItemT → Type 0 where
  end : {c : Context} → Items c [] []
  more : {c : Context} {ts rest : List Tok} {d : ItemT} {ds : List ItemT} → Item c ts d rest → Items (behind_item d c) rest ds → Items c ts (d ∷ ds)

-- the items of a unit, of any depth
abbrev pub Unit_ : List Tok → List ItemT → Type 0
Unit_ ts ds = Items (record { total = length ts; types = [] }) ts ds

abbrev pub Derives : List Tok → List ItemT → Type 0
Derives ts ds = Unit_ ts ds × (unit_depth ds ≤ 200)
