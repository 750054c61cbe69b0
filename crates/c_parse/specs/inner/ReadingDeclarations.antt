-- Reading variables, members, parameters and the values of an enumeration.
use Rattle.std.specs.Prelude.{ℕ, zero, suc, Bool, true, false, List, [], ◌++◌, Option, Some, None, Result, Ok, ◌||◌, ◌&&◌}
use Rattle.c_tree.specs.Tree.{ExprT, TypeT, InitT, OneI, ListI, VarT}
use Rattle.c_tree.specs.View.{inits}
use Rattle.c_parse.specs.declared.fault.Fault.{Fault}
use Rattle.c_parse.specs.Tok.{Tok}
use Rattle.c_parse.specs.Scope.{Context, span}
use Rattle.c_parse.specs.inner.Reader.{◌>>=◌, Got, Reader, no_room, Turn, loop, behind, name, at_open_brace, at_close_brace, at_assign}
use Rattle.c_parse.specs.inner.Reader.{at_close_paren, at_void_word, semicolon, end_list}
use Rattle.c_parse.specs.inner.Leads.{begins_expr, begins_type}
use Rattle.c_parse.specs.inner.Reading.{level_at, expr_at, type_read}
use Rattle.c_parse.specs.inner.ReadingLists.{separated, listed}

abbrev pub init_by : Context → ℕ → Reader InitT → List Tok → Bool → Result (Got InitT) Fault
init_by c room inner ts false = do
  e ← expr_at c room ts
  Ok (OneI e.0, e.1)
init_by c room inner ts true = do
  is ← listed inner (behind ts)
  rest ← end_list is.1
  Ok (ListI (inits is.0) (span c ts rest), rest)

unfoldable pub init_at : Context → ℕ → Reader InitT
init_at c zero ts = no_room (at_open_brace ts || begins_expr c ts) ts
init_at c (suc room) ts = init_by c room (λ us. init_at c room us) ts (at_open_brace ts)

-- the variable without an initial value
abbrev pub bare_var : Context → TypeT → List ℕ → List Tok → List Tok → VarT
bare_var c y n ts rest = record { ty = y; name = n; init = None; span = span c ts rest }

abbrev pub field : Context → TypeT → Reader VarT
field c y ts = do
  n ← name c ts
  Ok (bare_var c y n.0 ts n.1, n.1)

abbrev pub var_by : Context → ℕ → TypeT → List Tok → Got (List ℕ) → Bool → Result (Got VarT) Fault
var_by c room y ts n false = Ok (bare_var c y n.0 ts n.1, n.1)
var_by c room y ts n true = do
  i ← init_at c room (behind n.1)
  Ok (record { ty = y; name = n.0; init = Some i.0; span = span c ts i.1 }, i.1)

abbrev pub var : Context → ℕ → TypeT → Reader VarT
var c room y ts = do
  n ← name c ts
  var_by c room y ts n (at_assign n.1)

-- variables, each with that room
unfoldable pub vars_at : Context → ℕ → Reader (List VarT)
vars_at c zero ts = no_room (begins_type c ts) ts
vars_at c (suc room) ts = do
  y ← type_read c room ts
  separated (var c room y.0) y.1

unfoldable pub member_at : Context → ℕ → Reader (List VarT)
member_at c zero ts = no_room (begins_type c ts) ts
member_at c (suc room) ts = do
  y ← type_read c room ts
  vs ← separated (field c y.0) y.1
  rest ← semicolon vs.1
  Ok (vs.0, rest)

-- members behind those of the lines before
abbrev pub behind_others : List VarT → Result (Got (List VarT)) Fault → Result (Got (List VarT)) Fault
behind_others vs us = us >>= λ x. Ok (vs ++ x.0, x.1)

abbrev pub members_by : Context → ℕ → List VarT → List Tok → Bool → Result (Option (Got (List VarT))) Fault
members_by c room vs ts true = Ok None
members_by c room vs ts false = do
  us ← member_at c room ts
  Ok (Some (vs ++ us.0, us.1))

abbrev pub members_turn : Context → ℕ → Turn (List VarT)
members_turn c room vs ts = members_by c room vs ts (at_close_brace ts)

abbrev pub members_at : Context → ℕ → Reader (List VarT)
members_at c room ts = do
  vs ← member_at c room ts
  loop (members_turn c room) vs.0 vs.1

unfoldable pub param_at : Context → ℕ → Reader VarT
param_at c zero ts = no_room (begins_type c ts) ts
param_at c (suc room) ts = do
  y ← type_read c room ts
  field c y.0 y.1

abbrev pub params_by : Context → ℕ → List Tok → Bool → Bool → Result (Got (List VarT)) Fault
params_by c room ts true void = Ok ([], ts)
params_by c room ts false true = Ok ([], behind ts)
params_by c room ts false false = separated (param_at c room) ts

-- `void` before the closing parenthesis
abbrev pub at_void : List Tok → Bool
at_void ts = at_void_word ts && at_close_paren (behind ts)

abbrev pub params_at : Context → ℕ → Reader (List VarT)
params_at c room ts = params_by c room ts (at_close_paren ts) (at_void ts)

abbrev pub value_by : Context → ℕ → Got (List ℕ) → Bool → Result (Got (List ℕ × Option ExprT)) Fault
value_by c room n false = Ok ((n.0, None), n.1)
value_by c room n true = do
  e ← level_at c room 10 (behind n.1)
  Ok ((n.0, Some e.0), e.1)

abbrev pub value : Context → ℕ → Reader (List ℕ × Option ExprT)
value c room ts = do
  n ← name c ts
  value_by c room n (at_assign n.1)
