-- Reading a unit's items, each with room for so many trees below it.
use Rattle.std.specs.Prelude.{ℕ, Bool, true, false, List, [], ◌∷◌, ◌++◌, length, Some, None, Result, Ok, ◌||◌, nat_lt}
use Rattle.c_tree.specs.Tree.{TypeT, VoidY, VarT, ItemT, RecordD, EnumD, TypedefD, VarsD, FunctionD}
use Rattle.c_tree.specs.View.{stmts}
use Rattle.c_tree.specs.Depth.{type_depth}
use Rattle.c_parse.specs.declared.fault.Fault.{Fault}
use Rattle.c_parse.specs.declared.lead.ItemLead.{ItemLead}
use Rattle.c_parse.specs.declared.lead.ItemLead.TheVariants as item
use Rattle.c_parse.specs.Tok.{Tok}
use Rattle.c_parse.specs.Scope.{Context, declare, span}
use Rattle.c_parse.specs.Units.{behind_item}
use Rattle.c_parse.specs.inner.Reader.{◌>>=◌, Got, Reader, no_room, Turn, loop, behind, name, new, at_open_paren, open_paren, close_paren}
use Rattle.c_parse.specs.inner.Reader.{open_brace, close_brace, at_semicolon, semicolon, at_assign, at_comma, end_list}
use Rattle.c_parse.specs.inner.Leads.{item_at}
use Rattle.c_parse.specs.inner.Reading.{type_read}
use Rattle.c_parse.specs.inner.ReadingLists.{listed, braced}
use Rattle.c_parse.specs.inner.ReadingDeclarations.{vars_at, members_at, params_at, value}
use Rattle.c_parse.specs.inner.ReadingStatements.{stmt_read}

abbrev pub record_by : Context → ℕ → List Tok → Bool → Got (List ℕ) → Bool → Result (Got ItemT) Fault
record_by c room ts u n true = Ok (RecordD u n.0 None (span c ts (behind n.1)), behind n.1)
record_by c room ts u n false = do
  on ← open_brace n.1
  vs ← members_at (declare n.0 c) room on
  end ← close_brace vs.1
  rest ← semicolon end
  Ok (RecordD u n.0 (Some vs.0) (span c ts rest), rest)

abbrev pub record_at : Context → ℕ → Bool → Reader ItemT
record_at c room u ts = do
  n ← new (behind ts)
  record_by c room ts u n (at_semicolon n.1)

abbrev pub enum_at : Context → ℕ → Reader ItemT
enum_at c room ts = do
  n ← new (behind ts)
  on ← open_brace n.1
  vs ← listed (value c room) on
  end ← end_list vs.1
  rest ← semicolon end
  Ok (EnumD n.0 vs.0 (span c ts rest), rest)

abbrev pub typedef_at : Context → ℕ → Reader ItemT
typedef_at c room ts = do
  y ← type_read c room (behind ts)
  n ← new y.1
  rest ← semicolon n.1
  Ok (TypedefD y.0 n.0 (span c ts rest), rest)

abbrev pub body_by : Context → ℕ → List Tok → TypeT → List ℕ → List VarT → List Tok → Bool → Result (Got ItemT) Fault
body_by c room at y n vs ts true = Ok (FunctionD y n vs None (span c at (behind ts)), behind ts)
body_by c room at y n vs ts false = do
  on ← open_brace ts
  ss ← braced (stmt_read c room) on
  rest ← close_brace ss.1
  Ok (FunctionD y n vs (Some (stmts ss.0)) (span c at rest), rest)

-- a function that begins at the tokens at, from behind its name
abbrev pub function_at : Context → ℕ → List Tok → TypeT → List ℕ → Reader ItemT
function_at c room at y n ts = do
  on ← open_paren ts
  vs ← params_at c room on
  mid ← close_paren vs.1
  body_by c room at y n vs.0 mid (at_semicolon mid)

-- variables that begin at the tokens at; the tokens ts stand behind the first name
abbrev pub vars_by : Context → ℕ → List Tok → List Tok → Bool → Result (Got ItemT) Fault
vars_by c room at ts false = no_room (at_semicolon ts || (at_assign ts || at_comma ts)) ts
vars_by c room at ts true = do
  vs ← vars_at c room at
  rest ← semicolon vs.1
  Ok (VarsD vs.0 (span c at rest), rest)

abbrev pub typed_by : Context → ℕ → List Tok → TypeT → Got (List ℕ) → Bool → Result (Got ItemT) Fault
typed_by c room ts y n true = function_at c room ts y n.0 n.1
typed_by c room ts y n false = vars_by c room ts n.1 (nat_lt (type_depth y) room)

abbrev pub typed_at : Context → ℕ → Reader ItemT
typed_at c room ts = do
  y ← type_read c room ts
  n ← name c y.1
  typed_by c room ts y.0 n (at_open_paren n.1)

abbrev pub item_by : Context → ℕ → List Tok → ItemLead → Result (Got ItemT) Fault
item_by c room ts (item.Record u) = record_at c room u ts
item_by c room ts item.Enum = enum_at c room ts
item_by c room ts item.Typedef = typedef_at c room ts
item_by c room ts item.Void = do
  n ← name c (behind ts)
  function_at c room ts VoidY n.0 n.1
item_by c room ts item.Other = typed_at c room ts

abbrev pub item_read : Context → ℕ → Reader ItemT
item_read c room ts = item_by c room ts (item_at ts)

abbrev pub Unit_so_far : Type 0
Unit_so_far = Context × List ItemT

abbrev pub item_turn : ℕ → Turn Unit_so_far
item_turn room a [] = Ok None
item_turn room a (o ∷ ts) = do
  d ← item_read a.0 room (o ∷ ts)
  Ok (Some ((behind_item d.0 a.0, a.1 ++ d.0 ∷ []), d.1))

-- the items of a unit, with so many trees on a path below each
unfoldable pub unit_at : ℕ → List Tok → Result (List ItemT) Fault
unit_at room ts = do
  a ← loop (item_turn room) (record { total = length ts; types = [] }, []) ts
  Ok a.0.1
