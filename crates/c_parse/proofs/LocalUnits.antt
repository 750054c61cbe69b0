-- Items and units in two lists of tokens that agree up to one token: the faults up to there are the same, so a fault says something of all units that begin with these tokens.
use Rattle.std.proofs.Common.{◌≡◌, ℕ, zero, suc, ◌+◌, ◌<◌, Bool, true, false, cond, List, [], ◌∷◌, ◌++◌, length, Option, Some, Result, Ok, Err, refl, sym, arith, ◌⊎◌, inl, inr}
use Rattle.std.specs.Prelude.{nat_lt, ◌||◌}
use Rattle.c_parse.specs.declared.class.Key.TheVariants as key
use Rattle.c_parse.specs.declared.fault.Fault.{Fault}
use Rattle.c_parse.specs.declared.fault.Fault.TheVariants.{Syntax, TooDeep}
use Rattle.c_parse.specs.Tok.{Tok, keyword, refused, word, number, character, text, mark}
use Rattle.c_tree.specs.Tree.{ExprT, TypeT, VoidY, ItemT, RecordD, EnumD, TypedefD, VarsD, FunctionD, VarT, StmtT}
use Rattle.c_tree.specs.Depth.{type_depth}
use Rattle.c_parse.specs.declared.lead.ItemLead.{ItemLead}
use Rattle.c_parse.specs.declared.lead.ItemLead.TheVariants as item
use Rattle.c_parse.specs.Units.{behind_item}
use Rattle.c_parse.specs.inner.ReadingUnits.{record_by, body_by, function_at, vars_by, typed_by, typed_at, item_by, item_read, Unit_so_far, item_turn, unit_at}
use Rattle.c_parse.specs.Scope.{Context, span, declare}
use Rattle.c_parse.specs.inner.Leads.{item_of, item_at}
use Rattle.c_parse.specs.inner.ReadingDeclarations.{var, vars_at, members_at, params_at, value}
use Rattle.c_tree.specs.View.{stmts}
use Rattle.c_parse.specs.inner.ReadingStatements.{stmt_read}
use Rattle.c_parse.specs.inner.ReadingLists.{comma_turn, separated, listed, braced}
use Rattle.c_parse.specs.inner.Reading.{type_read}
use Rattle.c_parse.specs.inner.Reader.{◌>>=◌, Got, Reader, goes_on, repeat, loop, behind, open_paren, close_paren, open_brace, at_close_brace, close_brace, is_semicolon, semicolon, at_comma, end_list, at_semicolon, at_open_brace, at_assign, at_star, at_open_paren, at_close_paren, name, new}
use Rattle.c_parse.proofs.Locality
use Rattle.c_parse.proofs.Locality.{last, next, read, syntax, too_deep, past, bind_past, bind_same, agree_length, behind_gone, bind_got, bind_tokens, must_past, open_paren_same, close_paren_same, open_brace_same, close_brace_same, semicolon_same, end_list_same, new_past, new_same, at_star_same, at_open_paren_same, at_comma_same, at_semicolon_same, at_assign_same, fault_past, roomless_same, end_beyond, more_past, braced_is_local, listed_past, listed_same}
use Rattle.c_parse.proofs.LocalExpressions
use Rattle.c_parse.proofs.LocalExpressions.{TurnsTake, readers_are_local, name_past, name_same}
use Rattle.c_parse.proofs.LocalDeclarations.{ListsTake, var_past, var_is_local, vars_is_local, members_are_local, params_are_local, value_is_local, void_type_past}
use Rattle.c_parse.proofs.LocalStatements.{bodies_are_local}

-- ---- the readers of items, by what is left to read

abbrev record_4 : Context → ℕ → List Tok → Bool → (List ℕ) → (List VarT) → List Tok → Result (Got ItemT) Fault
record_4 c room at u n vs ts = Ok (RecordD u n (Some vs) (span c at ts), ts)

abbrev record_3 : Context → ℕ → List Tok → Bool → (List ℕ) → (List VarT) → List Tok → Result (Got ItemT) Fault
record_3 c room at u n vs ts = semicolon ts >>= λ us. record_4 c room at u n vs us

abbrev record_2 : Context → ℕ → List Tok → Bool → (List ℕ) → (List VarT) → List Tok → Result (Got ItemT) Fault
record_2 c room at u n vs ts = close_brace ts >>= λ us. record_3 c room at u n vs us

abbrev record_1 : Context → ℕ → List Tok → Bool → (List ℕ) → List Tok → Result (Got ItemT) Fault
record_1 c room at u n ts = members_at (declare n c) room ts >>= λ got. record_2 c room at u n got.0 got.1

abbrev record_0 : Context → ℕ → List Tok → Bool → (List ℕ) → List Tok → Result (Got ItemT) Fault
record_0 c room at u n ts = open_brace ts >>= λ us. record_1 c room at u n us

abbrev enum_4 : Context → ℕ → List Tok → (List ℕ) → (List (List ℕ × Option ExprT)) → List Tok → Result (Got ItemT) Fault
enum_4 c room at n vs ts = Ok (EnumD n vs (span c at ts), ts)

abbrev enum_3 : Context → ℕ → List Tok → (List ℕ) → (List (List ℕ × Option ExprT)) → List Tok → Result (Got ItemT) Fault
enum_3 c room at n vs ts = semicolon ts >>= λ us. enum_4 c room at n vs us

abbrev enum_2 : Context → ℕ → List Tok → (List ℕ) → (List (List ℕ × Option ExprT)) → List Tok → Result (Got ItemT) Fault
enum_2 c room at n vs ts = end_list ts >>= λ us. enum_3 c room at n vs us

abbrev enum_1 : Context → ℕ → List Tok → (List ℕ) → List Tok → Result (Got ItemT) Fault
enum_1 c room at n ts = listed (value c room) ts >>= λ got. enum_2 c room at n got.0 got.1

abbrev enum_0 : Context → ℕ → List Tok → (List ℕ) → List Tok → Result (Got ItemT) Fault
enum_0 c room at n ts = open_brace ts >>= λ us. enum_1 c room at n us

abbrev typedef_3 : Context → ℕ → List Tok → TypeT → (List ℕ) → List Tok → Result (Got ItemT) Fault
typedef_3 c room at y n ts = Ok (TypedefD y n (span c at ts), ts)

abbrev typedef_2 : Context → ℕ → List Tok → TypeT → (List ℕ) → List Tok → Result (Got ItemT) Fault
typedef_2 c room at y n ts = semicolon ts >>= λ us. typedef_3 c room at y n us

abbrev typedef_1 : Context → ℕ → List Tok → TypeT → List Tok → Result (Got ItemT) Fault
typedef_1 c room at y ts = new ts >>= λ got. typedef_2 c room at y got.0 got.1

abbrev typedef_0 : Context → ℕ → List Tok → List Tok → Result (Got ItemT) Fault
typedef_0 c room at ts = type_read c room ts >>= λ got. typedef_1 c room at got.0 got.1

abbrev body_3 : Context → ℕ → List Tok → TypeT → (List ℕ) → (List VarT) → (List StmtT) → List Tok → Result (Got ItemT) Fault
body_3 c room at y n vs ss ts = Ok (FunctionD y n vs (Some (stmts ss)) (span c at ts), ts)

abbrev body_2 : Context → ℕ → List Tok → TypeT → (List ℕ) → (List VarT) → (List StmtT) → List Tok → Result (Got ItemT) Fault
body_2 c room at y n vs ss ts = close_brace ts >>= λ us. body_3 c room at y n vs ss us

abbrev body_1 : Context → ℕ → List Tok → TypeT → (List ℕ) → (List VarT) → List Tok → Result (Got ItemT) Fault
body_1 c room at y n vs ts = braced (stmt_read c room) ts >>= λ got. body_2 c room at y n vs got.0 got.1

abbrev body_0 : Context → ℕ → List Tok → TypeT → (List ℕ) → (List VarT) → List Tok → Result (Got ItemT) Fault
body_0 c room at y n vs ts = open_brace ts >>= λ us. body_1 c room at y n vs us

abbrev vars_item_2 : Context → ℕ → List Tok → (List VarT) → List Tok → Result (Got ItemT) Fault
vars_item_2 c room at vs ts = Ok (VarsD vs (span c at ts), ts)

abbrev vars_item_1 : Context → ℕ → List Tok → (List VarT) → List Tok → Result (Got ItemT) Fault
vars_item_1 c room at vs ts = semicolon ts >>= λ us. vars_item_2 c room at vs us

abbrev vars_item_0 : Context → ℕ → List Tok → List Tok → Result (Got ItemT) Fault
vars_item_0 c room at ts = vars_at c room ts >>= λ got. vars_item_1 c room at got.0 got.1

-- behind the token up to which they agree come more in the one and more' in the other
module _ (more more' : List Tok) where
  -- the words of Locality, for these lists
  abbrev Agree : List Tok → List Tok → Type 0
  Agree ts ts' = Locality.Agree more more' ts ts'

  abbrev Gone : List Tok → Type 0
  Gone ts = Locality.Gone more more' ts

  abbrev Same : {A B : Type 0} → (A → B → Type 0) → (A → Type 0) → Result A Fault → Result B Fault → Type 0
  Same R P r r' = Locality.Same more more' R P r r'

  abbrev Alike : {A : Type 0} → Got A → Got A → Type 0
  Alike x y = Locality.Alike more more' x y

  abbrev Beyond : {A : Type 0} → Got A → Type 0
  Beyond x = Locality.Beyond more more' x

  abbrev SameGot : {A : Type 0} → Result (Got A) Fault → Result (Got A) Fault → Type 0
  SameGot r r' = Locality.SameGot more more' r r'

  abbrev PastGot : {A : Type 0} → Result (Got A) Fault → Type 0
  PastGot r = Locality.PastGot more more' r

  abbrev Local : {A : Type 0} → Reader A → Reader A → Type 0
  Local f f' = Locality.Local more more' f f'

  abbrev Halts : List Tok → Type 0
  Halts ts = Locality.Halts more more' ts

  abbrev ListBeyond : {A : Type 0} → Got A → Type 0
  ListBeyond x = Locality.ListBeyond more more' x

  -- the two contexts have the same names of types, and differ as the lists do in their lengths
  module _ (total total' : ℕ) (shift : total + length more' ≡ total' + length more) where
    abbrev one : List (List ℕ) → Context
    one types = record { total = total; types = types }

    abbrev other : List (List ℕ) → Context
    other types = record { total = total'; types = types }

    span_same : (types : List (List ℕ)) {at at' ts ts' : List Tok} → Agree at at' → Agree ts ts' → span (one types) at ts ≡ span (other types) at' ts'
    span_same types a b = LocalExpressions.span_same more more' total total' shift types a b

    -- what is known of the readers of the first list: each turn takes a token, and a type that is read is read with less room where it has less depth
    pub record Known : Type 0 where
      pub turns : (types : List (List ℕ)) → TurnsTake more more' total total' shift types
      pub lists : (types : List (List ℕ)) → ListsTake more more' total total' shift types (turns types)
      pub items : (types : List (List ℕ)) (room : ℕ) (ts : List Tok) (x : Got ItemT) → item_read (one types) room ts ≡ Ok x → length x.1 < length ts
      pub again : (types : List (List ℕ)) (room : ℕ) (ts : List Tok) (x : Got TypeT) → type_read (one types) (suc room) ts ≡ Ok x → nat_lt (type_depth x.0) (suc room) ≡ true → type_read (one types) room ts ≡ Ok x

    module _ (known : Known) where
      abbrev lists : (types : List (List ℕ)) → ListsTake more more' total total' shift types (known.turns types)
      lists types = known.lists types

      members_l : (types : List (List ℕ)) (room : ℕ) → Local (members_at (one types) room) (members_at (other types) room)
      members_l types room = members_are_local more more' total total' shift types (known.turns types) (known.lists types) room

      value_l : (types : List (List ℕ)) (room : ℕ) → Local (value (one types) room) (value (other types) room)
      value_l types room = value_is_local more more' total total' shift types (known.turns types) (known.lists types) room

      type_l : (types : List (List ℕ)) (room : ℕ) → Local (type_read (one types) room) (type_read (other types) room)
      type_l types room = (readers_are_local more more' total total' shift types (known.turns types) room).type

      vars_l : (types : List (List ℕ)) (room : ℕ) → Local (vars_at (one types) room) (vars_at (other types) room)
      vars_l types room = vars_is_local more more' total total' shift types (known.turns types) (known.lists types) room

      params_l : (types : List (List ℕ)) (room : ℕ) → Local (params_at (one types) (suc (suc room))) (params_at (other types) (suc (suc room)))
      params_l types room = params_are_local more more' total total' shift types (known.turns types) (known.lists types) room

      stmt_l : (types : List (List ℕ)) (room : ℕ) → Local (stmt_read (one types) room) (stmt_read (other types) room)
      stmt_l types room = (bodies_are_local more more' total total' shift types (known.turns types) (known.lists types) room).stmt

      body_l : (types : List (List ℕ)) (room : ℕ) → Local (braced (stmt_read (one types) room)) (braced (stmt_read (other types) room))
      body_l types room = braced_is_local more more' (stmt_read (one types) room) (stmt_read (other types) room) (stmt_l types room) ((known.lists types).stmts_take room)

      module _ (types : List (List ℕ)) (room : ℕ) where
        record_past_4 : (at : List Tok) (u : Bool) (n : List ℕ) (vs : List VarT) (ts : List Tok) → Gone ts → PastGot (record_4 (one types) room at u n vs ts)
        record_past_4 at u n vs ts g = g

        record_same_4 : {at at' : List Tok} → Agree at at' → (u : Bool) (n : List ℕ) (vs : List VarT) (ts ts' : List Tok) → Agree ts ts' → SameGot (record_4 (one types) room at u n vs ts) (record_4 (other types) room at' u n vs ts')
        record_same_4 {at = at} {at' = at'} b u n vs ts ts' w = read (rw (span_same types b w) refl, w)

        record_past_3 : (at : List Tok) (u : Bool) (n : List ℕ) (vs : List VarT) (ts : List Tok) → Gone ts → PastGot (record_3 (one types) room at u n vs ts)
        record_past_3 at u n vs ts g = bind_past more more' Gone Beyond (semicolon ts) (λ us. record_4 (one types) room at u n vs us) (must_past more more' (at_semicolon ts) ts g) (λ us p. record_past_4 at u n vs us p)

        record_same_3 : {at at' : List Tok} → Agree at at' → (u : Bool) (n : List ℕ) (vs : List VarT) (ts ts' : List Tok) → Agree ts ts' → SameGot (record_3 (one types) room at u n vs ts) (record_3 (other types) room at' u n vs ts')
        record_same_3 {at = at} {at' = at'} b u n vs ts ts' w = bind_tokens more more' Alike Beyond (semicolon_same more more' w) (λ us. record_4 (one types) room at u n vs us) (λ us. record_4 (other types) room at' u n vs us) (λ us us' agreed. record_same_4 b u n vs us us' agreed) (λ us p. record_past_4 at u n vs us p)

        record_past_2 : (at : List Tok) (u : Bool) (n : List ℕ) (vs : List VarT) (ts : List Tok) → Gone ts → PastGot (record_2 (one types) room at u n vs ts)
        record_past_2 at u n vs ts g = bind_past more more' Gone Beyond (close_brace ts) (λ us. record_3 (one types) room at u n vs us) (must_past more more' (at_close_brace ts) ts g) (λ us p. record_past_3 at u n vs us p)

        record_same_2 : {at at' : List Tok} → Agree at at' → (u : Bool) (n : List ℕ) (vs : List VarT) (ts ts' : List Tok) → Agree ts ts' → SameGot (record_2 (one types) room at u n vs ts) (record_2 (other types) room at' u n vs ts')
        record_same_2 {at = at} {at' = at'} b u n vs ts ts' w = bind_tokens more more' Alike Beyond (close_brace_same more more' w) (λ us. record_3 (one types) room at u n vs us) (λ us. record_3 (other types) room at' u n vs us) (λ us us' agreed. record_same_3 b u n vs us us' agreed) (λ us p. record_past_3 at u n vs us p)

        record_past_1 : (at : List Tok) (u : Bool) (n : List ℕ) (ts : List Tok) → Gone ts → PastGot (record_1 (one types) room at u n ts)
        record_past_1 at u n ts g = bind_past more more' Beyond Beyond (members_at (declare n (one types)) room ts) (λ got. record_2 (one types) room at u n got.0 got.1) ((members_l (types ++ n ∷ []) room).short ts g) (λ got p. record_past_2 at u n got.0 got.1 p)

        record_same_1 : {at at' : List Tok} → Agree at at' → (u : Bool) (n : List ℕ) (ts ts' : List Tok) → Agree ts ts' → SameGot (record_1 (one types) room at u n ts) (record_1 (other types) room at' u n ts')
        record_same_1 {at = at} {at' = at'} b u n ts ts' w = bind_got more more' Alike Beyond ((members_l (types ++ n ∷ []) room).same ts ts' w) (λ got. record_2 (one types) room at u n got.0 got.1) (λ got. record_2 (other types) room at' u n got.0 got.1) (λ v us us' agreed. record_same_2 b u n v us us' agreed) (λ got p. record_past_2 at u n got.0 got.1 p)

        record_past_0 : (at : List Tok) (u : Bool) (n : List ℕ) (ts : List Tok) → Gone ts → PastGot (record_0 (one types) room at u n ts)
        record_past_0 at u n ts g = bind_past more more' Gone Beyond (open_brace ts) (λ us. record_1 (one types) room at u n us) (must_past more more' (at_open_brace ts) ts g) (λ us p. record_past_1 at u n us p)

        record_same_0 : {at at' : List Tok} → Agree at at' → (u : Bool) (n : List ℕ) (ts ts' : List Tok) → Agree ts ts' → SameGot (record_0 (one types) room at u n ts) (record_0 (other types) room at' u n ts')
        record_same_0 {at = at} {at' = at'} b u n ts ts' w = bind_tokens more more' Alike Beyond (open_brace_same more more' w) (λ us. record_1 (one types) room at u n us) (λ us. record_1 (other types) room at' u n us) (λ us us' agreed. record_same_1 b u n us us' agreed) (λ us p. record_past_1 at u n us p)

        enum_past_4 : (at : List Tok) (n : List ℕ) (vs : List (List ℕ × Option ExprT)) (ts : List Tok) → Gone ts → PastGot (enum_4 (one types) room at n vs ts)
        enum_past_4 at n vs ts g = g

        enum_same_4 : {at at' : List Tok} → Agree at at' → (n : List ℕ) (vs : List (List ℕ × Option ExprT)) (ts ts' : List Tok) → Agree ts ts' → SameGot (enum_4 (one types) room at n vs ts) (enum_4 (other types) room at' n vs ts')
        enum_same_4 {at = at} {at' = at'} b n vs ts ts' w = read (rw (span_same types b w) refl, w)

        enum_past_3 : (at : List Tok) (n : List ℕ) (vs : List (List ℕ × Option ExprT)) (ts : List Tok) → Gone ts → PastGot (enum_3 (one types) room at n vs ts)
        enum_past_3 at n vs ts g = bind_past more more' Gone Beyond (semicolon ts) (λ us. enum_4 (one types) room at n vs us) (must_past more more' (at_semicolon ts) ts g) (λ us p. enum_past_4 at n vs us p)

        enum_same_3 : {at at' : List Tok} → Agree at at' → (n : List ℕ) (vs : List (List ℕ × Option ExprT)) (ts ts' : List Tok) → Agree ts ts' → SameGot (enum_3 (one types) room at n vs ts) (enum_3 (other types) room at' n vs ts')
        enum_same_3 {at = at} {at' = at'} b n vs ts ts' w = bind_tokens more more' Alike Beyond (semicolon_same more more' w) (λ us. enum_4 (one types) room at n vs us) (λ us. enum_4 (other types) room at' n vs us) (λ us us' u. enum_same_4 b n vs us us' u) (λ us p. enum_past_4 at n vs us p)

        enum_list_past : (at : List Tok) (n : List ℕ) (vs : List (List ℕ × Option ExprT)) (ts : List Tok) → Gone ts ⊎ Halts ts → PastGot (enum_2 (one types) room at n vs ts)
        enum_list_past at n vs ts g = bind_past more more' Gone Beyond (end_list ts) (λ us. enum_3 (one types) room at n vs us) (end_beyond more more' ts g) (λ us p. enum_past_3 at n vs us p)

        enum_same_2 : {at at' : List Tok} → Agree at at' → (n : List ℕ) (vs : List (List ℕ × Option ExprT)) (ts ts' : List Tok) → Agree ts ts' → SameGot (enum_2 (one types) room at n vs ts) (enum_2 (other types) room at' n vs ts')
        enum_same_2 {at = at} {at' = at'} b n vs ts ts' w = bind_tokens more more' Alike Beyond (end_list_same more more' w) (λ us. enum_3 (one types) room at n vs us) (λ us. enum_3 (other types) room at' n vs us) (λ us us' u. enum_same_3 b n vs us us' u) (λ us p. enum_past_3 at n vs us p)

        enum_past_1 : (at : List Tok) (n : List ℕ) (ts : List Tok) → Gone ts → PastGot (enum_1 (one types) room at n ts)
        enum_past_1 at n ts g = bind_past more more' ListBeyond Beyond (listed (value (one types) room) ts) (λ got. enum_2 (one types) room at n got.0 got.1) (listed_past more more' (value (one types) room) (value (other types) room) (value_l types room) ((lists types).values_take room) ts g) (λ got p. enum_list_past at n got.0 got.1 p)

        enum_same_1 : {at at' : List Tok} → Agree at at' → (n : List ℕ) (ts ts' : List Tok) → Agree ts ts' → SameGot (enum_1 (one types) room at n ts) (enum_1 (other types) room at' n ts')
        enum_same_1 {at = at} {at' = at'} b n ts ts' w = bind_same more more' Alike ListBeyond Alike Beyond (listed_same more more' (value (one types) room) (value (other types) room) (value_l types room) ((lists types).values_take room) ts ts' w) (λ got. enum_2 (one types) room at n got.0 got.1) (λ got. enum_2 (other types) room at' n got.0 got.1) (λ x y v. rw (v.0) (enum_same_2 b n y.0 x.1 y.1 v.1)) (λ got p. enum_list_past at n got.0 got.1 p)

        enum_past_0 : (at : List Tok) (n : List ℕ) (ts : List Tok) → Gone ts → PastGot (enum_0 (one types) room at n ts)
        enum_past_0 at n ts g = bind_past more more' Gone Beyond (open_brace ts) (λ us. enum_1 (one types) room at n us) (must_past more more' (at_open_brace ts) ts g) (λ us p. enum_past_1 at n us p)

        enum_same_0 : {at at' : List Tok} → Agree at at' → (n : List ℕ) (ts ts' : List Tok) → Agree ts ts' → SameGot (enum_0 (one types) room at n ts) (enum_0 (other types) room at' n ts')
        enum_same_0 {at = at} {at' = at'} b n ts ts' w = bind_tokens more more' Alike Beyond (open_brace_same more more' w) (λ us. enum_1 (one types) room at n us) (λ us. enum_1 (other types) room at' n us) (λ us us' u. enum_same_1 b n us us' u) (λ us p. enum_past_1 at n us p)

        typedef_past_3 : (at : List Tok) (y : TypeT) (n : List ℕ) (ts : List Tok) → Gone ts → PastGot (typedef_3 (one types) room at y n ts)
        typedef_past_3 at y n ts g = g

        typedef_same_3 : {at at' : List Tok} → Agree at at' → (y : TypeT) (n : List ℕ) (ts ts' : List Tok) → Agree ts ts' → SameGot (typedef_3 (one types) room at y n ts) (typedef_3 (other types) room at' y n ts')
        typedef_same_3 {at = at} {at' = at'} b y n ts ts' w = read (rw (span_same types b w) refl, w)

        typedef_past_2 : (at : List Tok) (y : TypeT) (n : List ℕ) (ts : List Tok) → Gone ts → PastGot (typedef_2 (one types) room at y n ts)
        typedef_past_2 at y n ts g = bind_past more more' Gone Beyond (semicolon ts) (λ us. typedef_3 (one types) room at y n us) (must_past more more' (at_semicolon ts) ts g) (λ us p. typedef_past_3 at y n us p)

        typedef_same_2 : {at at' : List Tok} → Agree at at' → (y : TypeT) (n : List ℕ) (ts ts' : List Tok) → Agree ts ts' → SameGot (typedef_2 (one types) room at y n ts) (typedef_2 (other types) room at' y n ts')
        typedef_same_2 {at = at} {at' = at'} b y n ts ts' w = bind_tokens more more' Alike Beyond (semicolon_same more more' w) (λ us. typedef_3 (one types) room at y n us) (λ us. typedef_3 (other types) room at' y n us) (λ us us' u. typedef_same_3 b y n us us' u) (λ us p. typedef_past_3 at y n us p)

        typedef_past_1 : (at : List Tok) (y : TypeT) (ts : List Tok) → Gone ts → PastGot (typedef_1 (one types) room at y ts)
        typedef_past_1 at y ts g = bind_past more more' Beyond Beyond (new ts) (λ got. typedef_2 (one types) room at y got.0 got.1) (new_past more more' ts g) (λ got p. typedef_past_2 at y got.0 got.1 p)

        typedef_same_1 : {at at' : List Tok} → Agree at at' → (y : TypeT) (ts ts' : List Tok) → Agree ts ts' → SameGot (typedef_1 (one types) room at y ts) (typedef_1 (other types) room at' y ts')
        typedef_same_1 {at = at} {at' = at'} b y ts ts' w = bind_got more more' Alike Beyond (new_same more more' w) (λ got. typedef_2 (one types) room at y got.0 got.1) (λ got. typedef_2 (other types) room at' y got.0 got.1) (λ v us us' u. typedef_same_2 b y v us us' u) (λ got p. typedef_past_2 at y got.0 got.1 p)

        typedef_past_0 : (at : List Tok) (ts : List Tok) → Gone ts → PastGot (typedef_0 (one types) room at ts)
        typedef_past_0 at ts g = bind_past more more' Beyond Beyond (type_read (one types) room ts) (λ got. typedef_1 (one types) room at got.0 got.1) ((type_l types room).short ts g) (λ got p. typedef_past_1 at got.0 got.1 p)

        typedef_same_0 : {at at' : List Tok} → Agree at at' → (ts ts' : List Tok) → Agree ts ts' → SameGot (typedef_0 (one types) room at ts) (typedef_0 (other types) room at' ts')
        typedef_same_0 {at = at} {at' = at'} b ts ts' w = bind_got more more' Alike Beyond ((type_l types room).same ts ts' w) (λ got. typedef_1 (one types) room at got.0 got.1) (λ got. typedef_1 (other types) room at' got.0 got.1) (λ v us us' u. typedef_same_1 b v us us' u) (λ got p. typedef_past_1 at got.0 got.1 p)

        body_past_3 : (at : List Tok) (y : TypeT) (n : List ℕ) (vs : List VarT) (ss : List StmtT) (ts : List Tok) → Gone ts → PastGot (body_3 (one types) room at y n vs ss ts)
        body_past_3 at y n vs ss ts g = g

        body_same_3 : {at at' : List Tok} → Agree at at' → (y : TypeT) (n : List ℕ) (vs : List VarT) (ss : List StmtT) (ts ts' : List Tok) → Agree ts ts' → SameGot (body_3 (one types) room at y n vs ss ts) (body_3 (other types) room at' y n vs ss ts')
        body_same_3 {at = at} {at' = at'} b y n vs ss ts ts' w = read (rw (span_same types b w) refl, w)

        body_past_2 : (at : List Tok) (y : TypeT) (n : List ℕ) (vs : List VarT) (ss : List StmtT) (ts : List Tok) → Gone ts → PastGot (body_2 (one types) room at y n vs ss ts)
        body_past_2 at y n vs ss ts g = bind_past more more' Gone Beyond (close_brace ts) (λ us. body_3 (one types) room at y n vs ss us) (must_past more more' (at_close_brace ts) ts g) (λ us p. body_past_3 at y n vs ss us p)

        body_same_2 : {at at' : List Tok} → Agree at at' → (y : TypeT) (n : List ℕ) (vs : List VarT) (ss : List StmtT) (ts ts' : List Tok) → Agree ts ts' → SameGot (body_2 (one types) room at y n vs ss ts) (body_2 (other types) room at' y n vs ss ts')
        body_same_2 {at = at} {at' = at'} b y n vs ss ts ts' w = bind_tokens more more' Alike Beyond (close_brace_same more more' w) (λ us. body_3 (one types) room at y n vs ss us) (λ us. body_3 (other types) room at' y n vs ss us) (λ us us' u. body_same_3 b y n vs ss us us' u) (λ us p. body_past_3 at y n vs ss us p)

        body_past_1 : (at : List Tok) (y : TypeT) (n : List ℕ) (vs : List VarT) (ts : List Tok) → Gone ts → PastGot (body_1 (one types) room at y n vs ts)
        body_past_1 at y n vs ts g = bind_past more more' Beyond Beyond (braced (stmt_read (one types) room) ts) (λ got. body_2 (one types) room at y n vs got.0 got.1) ((body_l types room).short ts g) (λ got p. body_past_2 at y n vs got.0 got.1 p)

        body_same_1 : {at at' : List Tok} → Agree at at' → (y : TypeT) (n : List ℕ) (vs : List VarT) (ts ts' : List Tok) → Agree ts ts' → SameGot (body_1 (one types) room at y n vs ts) (body_1 (other types) room at' y n vs ts')
        body_same_1 {at = at} {at' = at'} b y n vs ts ts' w = bind_got more more' Alike Beyond ((body_l types room).same ts ts' w) (λ got. body_2 (one types) room at y n vs got.0 got.1) (λ got. body_2 (other types) room at' y n vs got.0 got.1) (λ v us us' u. body_same_2 b y n vs v us us' u) (λ got p. body_past_2 at y n vs got.0 got.1 p)

        body_past_0 : (at : List Tok) (y : TypeT) (n : List ℕ) (vs : List VarT) (ts : List Tok) → Gone ts → PastGot (body_0 (one types) room at y n vs ts)
        body_past_0 at y n vs ts g = bind_past more more' Gone Beyond (open_brace ts) (λ us. body_1 (one types) room at y n vs us) (must_past more more' (at_open_brace ts) ts g) (λ us p. body_past_1 at y n vs us p)

        body_same_0 : {at at' : List Tok} → Agree at at' → (y : TypeT) (n : List ℕ) (vs : List VarT) (ts ts' : List Tok) → Agree ts ts' → SameGot (body_0 (one types) room at y n vs ts) (body_0 (other types) room at' y n vs ts')
        body_same_0 {at = at} {at' = at'} b y n vs ts ts' w = bind_tokens more more' Alike Beyond (open_brace_same more more' w) (λ us. body_1 (one types) room at y n vs us) (λ us. body_1 (other types) room at' y n vs us) (λ us us' u. body_same_1 b y n vs us us' u) (λ us p. body_past_1 at y n vs us p)

        vars_item_past_2 : (at : List Tok) (vs : List VarT) (ts : List Tok) → Gone ts → PastGot (vars_item_2 (one types) room at vs ts)
        vars_item_past_2 at vs ts g = g

        vars_item_same_2 : {at at' : List Tok} → Agree at at' → (vs : List VarT) (ts ts' : List Tok) → Agree ts ts' → SameGot (vars_item_2 (one types) room at vs ts) (vars_item_2 (other types) room at' vs ts')
        vars_item_same_2 {at = at} {at' = at'} b vs ts ts' w = read (rw (span_same types b w) refl, w)

        vars_item_past_1 : (at : List Tok) (vs : List VarT) (ts : List Tok) → Gone ts → PastGot (vars_item_1 (one types) room at vs ts)
        vars_item_past_1 at vs ts g = bind_past more more' Gone Beyond (semicolon ts) (λ us. vars_item_2 (one types) room at vs us) (must_past more more' (at_semicolon ts) ts g) (λ us p. vars_item_past_2 at vs us p)

        vars_item_same_1 : {at at' : List Tok} → Agree at at' → (vs : List VarT) (ts ts' : List Tok) → Agree ts ts' → SameGot (vars_item_1 (one types) room at vs ts) (vars_item_1 (other types) room at' vs ts')
        vars_item_same_1 {at = at} {at' = at'} b vs ts ts' w = bind_tokens more more' Alike Beyond (semicolon_same more more' w) (λ us. vars_item_2 (one types) room at vs us) (λ us. vars_item_2 (other types) room at' vs us) (λ us us' u. vars_item_same_2 b vs us us' u) (λ us p. vars_item_past_2 at vs us p)

        vars_item_same_0 : {at at' : List Tok} → Agree at at' → (ts ts' : List Tok) → Agree ts ts' → SameGot (vars_item_0 (one types) room at ts) (vars_item_0 (other types) room at' ts')
        vars_item_same_0 {at = at} {at' = at'} b ts ts' w = bind_got more more' Alike Beyond ((vars_l types room).same ts ts' w) (λ got. vars_item_1 (one types) room at got.0 got.1) (λ got. vars_item_1 (other types) room at' got.0 got.1) (λ v us us' u. vars_item_same_1 b v us us' u) (λ got p. vars_item_past_1 at got.0 got.1 p)

        -- `struct` and `union`
        record_short : (at : List Tok) (u : Bool) (n : List ℕ) (b : Bool) (ts : List Tok) → Gone ts → PastGot (record_by (one types) room at u (n, ts) b)
        record_short at u n true ts g = behind_gone more more' ts g
        record_short at u n false ts g = record_past_0 at u n ts g

        record_last : {at at' : List Tok} → Agree at at' → (u : Bool) (n : List ℕ) (b : Bool) (o : Tok) → SameGot (record_by (one types) room at u (n, o ∷ more) b) (record_by (other types) room at' u (n, o ∷ more') b)
        record_last w u n true o = past (omega arith)
        record_last w u n false o = record_same_0 w u n (o ∷ more) (o ∷ more') last

        record_next : {at at' : List Tok} → Agree at at' → (u : Bool) (n : List ℕ) (b : Bool) (o : Tok) (ts ts' : List Tok) → Agree ts ts' → SameGot (record_by (one types) room at u (n, o ∷ ts) b) (record_by (other types) room at' u (n, o ∷ ts') b)
        record_next w u n true o ts ts' v = read (rw (span_same types w v) refl, v)
        record_next w u n false o ts ts' v = record_same_0 w u n (o ∷ ts) (o ∷ ts') (next v)

        record_behind : {at at' : List Tok} → Agree at at' → (u : Bool) (n : List ℕ) (ts ts' : List Tok) → Agree ts ts'
            → SameGot (record_by (one types) room at u (n, ts) (at_semicolon ts)) (record_by (other types) room at' u (n, ts') (at_semicolon ts'))
        record_behind w u n _ _ (last {o = o}) = record_last w u n (is_semicolon o) o
        record_behind w u n _ _ (next {o = o} {ts = ts} {ts' = ts'} v) = record_next w u n (is_semicolon o) o ts ts' v

        record_named_past : (at : List Tok) (u : Bool) (ts : List Tok) → Gone ts → PastGot (new ts >>= λ n. record_by (one types) room at u n (at_semicolon n.1))
        record_named_past at u ts g = bind_past more more' Beyond Beyond (new ts) (λ n. record_by (one types) room at u n (at_semicolon n.1)) (new_past more more' ts g) (λ x p. record_short at u x.0 (at_semicolon x.1) x.1 p)

        record_named_same : {at at' : List Tok} → Agree at at' → (u : Bool) {ts ts' : List Tok} → Agree ts ts'
            → SameGot (new ts >>= λ n. record_by (one types) room at u n (at_semicolon n.1)) (new ts' >>= λ n. record_by (other types) room at' u n (at_semicolon n.1))
        record_named_same {at = at} {at' = at'} w u v = bind_got more more' Alike Beyond (new_same more more' v) (λ n. record_by (one types) room at u n (at_semicolon n.1)) (λ n. record_by (other types) room at' u n (at_semicolon n.1))
            (λ n us us' z. record_behind w u n us us' z) (λ x p. record_short at u x.0 (at_semicolon x.1) x.1 p)

        enum_named_past : (at ts : List Tok) → Gone ts → PastGot (new ts >>= λ n. enum_0 (one types) room at n.0 n.1)
        enum_named_past at ts g = bind_past more more' Beyond Beyond (new ts) (λ n. enum_0 (one types) room at n.0 n.1) (new_past more more' ts g) (λ x p. enum_past_0 at x.0 x.1 p)

        enum_named_same : {at at' : List Tok} → Agree at at' → {ts ts' : List Tok} → Agree ts ts' → SameGot (new ts >>= λ n. enum_0 (one types) room at n.0 n.1) (new ts' >>= λ n. enum_0 (other types) room at' n.0 n.1)
        enum_named_same {at = at} {at' = at'} w v = bind_got more more' Alike Beyond (new_same more more' v) (λ n. enum_0 (one types) room at n.0 n.1) (λ n. enum_0 (other types) room at' n.0 n.1) (λ n us us' z. enum_same_0 w n us us' z) (λ x p. enum_past_0 at x.0 x.1 p)

        -- functions
        body_short : (at : List Tok) (y : TypeT) (n : List ℕ) (vs : List VarT) (b : Bool) (ts : List Tok) → Gone ts → PastGot (body_by (one types) room at y n vs ts b)
        body_short at y n vs true ts g = behind_gone more more' ts g
        body_short at y n vs false ts g = body_past_0 at y n vs ts g

        body_last : {at at' : List Tok} → Agree at at' → (y : TypeT) (n : List ℕ) (vs : List VarT) (b : Bool) (o : Tok) → SameGot (body_by (one types) room at y n vs (o ∷ more) b) (body_by (other types) room at' y n vs (o ∷ more') b)
        body_last w y n vs true o = past (omega arith)
        body_last w y n vs false o = body_same_0 w y n vs (o ∷ more) (o ∷ more') last

        body_next : {at at' : List Tok} → Agree at at' → (y : TypeT) (n : List ℕ) (vs : List VarT) (b : Bool) (o : Tok) (ts ts' : List Tok) → Agree ts ts'
            → SameGot (body_by (one types) room at y n vs (o ∷ ts) b) (body_by (other types) room at' y n vs (o ∷ ts') b)
        body_next w y n vs true o ts ts' v = read (rw (span_same types w v) refl, v)
        body_next w y n vs false o ts ts' v = body_same_0 w y n vs (o ∷ ts) (o ∷ ts') (next v)

        body_behind : {at at' : List Tok} → Agree at at' → (y : TypeT) (n : List ℕ) (vs : List VarT) (ts ts' : List Tok) → Agree ts ts'
            → SameGot (body_by (one types) room at y n vs ts (at_semicolon ts)) (body_by (other types) room at' y n vs ts' (at_semicolon ts'))
        body_behind w y n vs _ _ (last {o = o}) = body_last w y n vs (is_semicolon o) o
        body_behind w y n vs _ _ (next {o = o} {ts = ts} {ts' = ts'} v) = body_next w y n vs (is_semicolon o) o ts ts' v

      module _ (types : List (List ℕ)) (room : ℕ) where
        abbrev two_less : ℕ
        two_less = suc (suc room)

        closed_params_past : (at : List Tok) (y : TypeT) (n : List ℕ) (vs : Got (List VarT)) → Beyond vs → PastGot (close_paren vs.1 >>= λ mid. body_by (one types) two_less at y n vs.0 mid (at_semicolon mid))
        closed_params_past at y n vs g = bind_past more more' Gone Beyond (close_paren vs.1) (λ mid. body_by (one types) two_less at y n vs.0 mid (at_semicolon mid)) (must_past more more' (at_close_paren vs.1) vs.1 g)
            (λ mid p. body_short types two_less at y n vs.0 (at_semicolon mid) mid p)

        closed_params_same : {at at' : List Tok} → Agree at at' → (y : TypeT) (n : List ℕ) (vs : List VarT) (ts ts' : List Tok) → Agree ts ts'
            → SameGot (close_paren ts >>= λ mid. body_by (one types) two_less at y n vs mid (at_semicolon mid)) (close_paren ts' >>= λ mid. body_by (other types) two_less at' y n vs mid (at_semicolon mid))
        closed_params_same {at = at} {at' = at'} w y n vs ts ts' v = bind_tokens more more' Alike Beyond (close_paren_same more more' v) (λ mid. body_by (one types) two_less at y n vs mid (at_semicolon mid)) (λ mid. body_by (other types) two_less at' y n vs mid (at_semicolon mid))
            (λ us us' u. body_behind types two_less w y n vs us us' u) (λ mid p. body_short types two_less at y n vs (at_semicolon mid) mid p)

        params_opened_past : (at : List Tok) (y : TypeT) (n : List ℕ) (ts : List Tok) → Gone ts
            → PastGot (params_at (one types) two_less ts >>= λ vs. close_paren vs.1 >>= λ mid. body_by (one types) two_less at y n vs.0 mid (at_semicolon mid))
        params_opened_past at y n ts g = bind_past more more' Beyond Beyond (params_at (one types) two_less ts) (λ vs. close_paren vs.1 >>= λ mid. body_by (one types) two_less at y n vs.0 mid (at_semicolon mid)) ((params_l types room).short ts g) (closed_params_past at y n)

        params_opened_same : {at at' : List Tok} → Agree at at' → (y : TypeT) (n : List ℕ) (ts ts' : List Tok) → Agree ts ts'
            → SameGot (params_at (one types) two_less ts >>= λ vs. close_paren vs.1 >>= λ mid. body_by (one types) two_less at y n vs.0 mid (at_semicolon mid))
            (params_at (other types) two_less ts' >>= λ vs. close_paren vs.1 >>= λ mid. body_by (other types) two_less at' y n vs.0 mid (at_semicolon mid))
        params_opened_same {at = at} {at' = at'} w y n ts ts' v = bind_got more more' Alike Beyond ((params_l types room).same ts ts' v) (λ vs. close_paren vs.1 >>= λ mid. body_by (one types) two_less at y n vs.0 mid (at_semicolon mid))
            (λ vs. close_paren vs.1 >>= λ mid. body_by (other types) two_less at' y n vs.0 mid (at_semicolon mid)) (closed_params_same w y n) (closed_params_past at y n)

        function_past : (at : List Tok) (y : TypeT) (n : List ℕ) (ts : List Tok) → Gone ts → PastGot (function_at (one types) two_less at y n ts)
        function_past at y n ts g = bind_past more more' Gone Beyond (open_paren ts) (λ on. params_at (one types) two_less on >>= λ vs. close_paren vs.1 >>= λ mid. body_by (one types) two_less at y n vs.0 mid (at_semicolon mid))
            (must_past more more' (at_open_paren ts) ts g) (params_opened_past at y n)

        function_same : {at at' : List Tok} → Agree at at' → (y : TypeT) (n : List ℕ) {ts ts' : List Tok} → Agree ts ts' → SameGot (function_at (one types) two_less at y n ts) (function_at (other types) two_less at' y n ts')
        function_same {at = at} {at' = at'} w y n v = bind_tokens more more' Alike Beyond (open_paren_same more more' v) (λ on. params_at (one types) two_less on >>= λ vs. close_paren vs.1 >>= λ mid. body_by (one types) two_less at y n vs.0 mid (at_semicolon mid))
            (λ on. params_at (other types) two_less on >>= λ vs. close_paren vs.1 >>= λ mid. body_by (other types) two_less at' y n vs.0 mid (at_semicolon mid)) (params_opened_same w y n) (params_opened_past at y n)

        -- variables, whose type was read before
        again_past : (at mid ts : List Tok) (y : TypeT) (n : List ℕ) → type_read (one types) (suc room) at ≡ Ok (y, mid) → name (one types) mid ≡ Ok (n, ts) → Gone ts → PastGot (vars_at (one types) two_less at)
        unfolding vars_at
        again_past at mid ts y n e f g = rw e (separate f)
          where
            separate : name (one types) mid ≡ Ok (n, ts) → PastGot (separated (var (one types) (suc room) y) mid)
            separate f = bind_past more more' Beyond Beyond (var (one types) (suc room) y mid) (λ x. loop (comma_turn (var (one types) (suc room) y)) (x.0 ∷ []) x.1)
                (rw f (var_past more more' total total' shift types (known.turns types) (known.lists types) (suc room) y mid (at_assign ts) (n, ts) g))
                (more_past more more' (var (one types) (suc room) y) (var (other types) (suc room) y) (var_is_local more more' total total' shift types (known.turns types) (known.lists types) (suc room) y))

        vars_again_past : (at ts : List Tok) → PastGot (vars_at (one types) two_less at) → PastGot (vars_by (one types) two_less at ts true)
        vars_again_past at ts p = bind_past more more' Beyond Beyond (vars_at (one types) two_less at) (λ vs. semicolon vs.1 >>= λ rest. Ok (VarsD vs.0 (span (one types) at rest), rest)) p (λ x g. vars_item_past_1 types two_less at x.0 x.1 g)

        vars_by_past : (at mid ts : List Tok) (y : TypeT) (n : List ℕ) → type_read (one types) two_less at ≡ Ok (y, mid) → name (one types) mid ≡ Ok (n, ts) → Gone ts → (b : Bool) → nat_lt (type_depth y) two_less ≡ b
            → PastGot (vars_by (one types) two_less at ts b)
        vars_by_past at mid ts y n e f g true less = vars_again_past at ts (again_past at mid ts y n (known.again types (suc room) at (y, mid) e less) f g)
        vars_by_past at mid ts y n e f g false less = fault_past more more' (at_semicolon ts || (at_assign ts || at_comma ts)) ts g

        typed_by_past : (at mid ts : List Tok) (y : TypeT) (n : List ℕ) → type_read (one types) two_less at ≡ Ok (y, mid) → name (one types) mid ≡ Ok (n, ts) → Gone ts → (b : Bool) → PastGot (typed_by (one types) two_less at y (n, ts) b)
        typed_by_past at mid ts y n e f g true = function_past at y n ts g
        typed_by_past at mid ts y n e f g false = vars_by_past at mid ts y n e f g (nat_lt (type_depth y) two_less) refl

        named_typed_past : (at mid : List Tok) (y : TypeT) → type_read (one types) two_less at ≡ Ok (y, mid) → (r : Result (Got (List ℕ)) Fault) → name (one types) mid ≡ r → PastGot r
            → PastGot (r >>= λ n. typed_by (one types) two_less at y n (at_open_paren n.1))
        named_typed_past at mid y e (Ok x) f p = typed_by_past at mid x.1 y x.0 e f p (at_open_paren x.1)
        named_typed_past at mid y e (Err (Syntax k)) f p = p
        named_typed_past at mid y e (Err (TooDeep k)) f p = p

        typed_read_past : (at : List Tok) (r : Result (Got TypeT) Fault) → type_read (one types) two_less at ≡ r → PastGot r → PastGot (r >>= λ y. name (one types) y.1 >>= λ n. typed_by (one types) two_less at y.0 n (at_open_paren n.1))
        typed_read_past at (Ok x) e p = named_typed_past at x.1 x.0 e (name (one types) x.1) refl (name_past more more' total total' shift types x.1 p)
        typed_read_past at (Err (Syntax k)) e p = p
        typed_read_past at (Err (TooDeep k)) e p = p

        vars_by_both : {at at' : List Tok} → Agree at at' → (b : Bool) (ts ts' : List Tok) → Agree ts ts' → SameGot (vars_by (one types) two_less at ts b) (vars_by (other types) two_less at' ts' b)
        vars_by_both {at = at} {at' = at'} w true ts ts' v = vars_item_same_0 types two_less w at at' w
        vars_by_both w false ts ts' v = rw (at_semicolon_same more more' v, at_assign_same more more' v, at_comma_same more more' v) (roomless_same more more' (at_semicolon ts' || (at_assign ts' || at_comma ts')) v)

        typed_by_both : {at at' : List Tok} → Agree at at' → (y : TypeT) (n : List ℕ) (b : Bool) (ts ts' : List Tok) → Agree ts ts' → SameGot (typed_by (one types) two_less at y (n, ts) b) (typed_by (other types) two_less at' y (n, ts') b)
        typed_by_both w y n true ts ts' v = function_same w y n v
        typed_by_both w y n false ts ts' v = vars_by_both w (nat_lt (type_depth y) two_less) ts ts' v

        named_typed_same : {at at' : List Tok} → Agree at at' → (mid mid' : List Tok) (y : TypeT) → type_read (one types) two_less at ≡ Ok (y, mid) → (r r' : Result (Got (List ℕ)) Fault) → name (one types) mid ≡ r → SameGot r r'
            → SameGot (r >>= λ n. typed_by (one types) two_less at y n (at_open_paren n.1)) (r' >>= λ n. typed_by (other types) two_less at' y n (at_open_paren n.1))
        named_typed_same w mid mid' y e _ _ f (read {x = x} {y = z} v) = rw (v.0, at_open_paren_same more more' v.1) (typed_by_both w y z.0 (at_open_paren z.1) x.1 z.1 v.1)
        named_typed_same w mid mid' y e _ _ f (syntax v) = syntax v
        named_typed_same w mid mid' y e _ _ f (too_deep v) = too_deep v
        named_typed_same {at = at} w mid mid' y e _ _ f (past {r = r} p) = past (named_typed_past at mid y e r f p)

        typed_read_same : {at at' : List Tok} → Agree at at' → (r r' : Result (Got TypeT) Fault) → type_read (one types) two_less at ≡ r → SameGot r r'
            → SameGot (r >>= λ y. name (one types) y.1 >>= λ n. typed_by (one types) two_less at y.0 n (at_open_paren n.1)) (r' >>= λ y. name (other types) y.1 >>= λ n. typed_by (other types) two_less at' y.0 n (at_open_paren n.1))
        typed_read_same w _ _ e (read {x = x} {y = z} v) = rw (sym v.0) (named_typed_same w x.1 z.1 x.0 e (name (one types) x.1) (name (other types) z.1) refl (name_same more more' total total' shift types v.1))
        typed_read_same w _ _ e (syntax v) = syntax v
        typed_read_same w _ _ e (too_deep v) = too_deep v
        typed_read_same {at = at} w _ _ e (past {r = r} p) = past (typed_read_past at r e p)

        typed_same : {at at' : List Tok} → Agree at at' → SameGot (typed_at (one types) two_less at) (typed_at (other types) two_less at')
        typed_same {at = at} {at' = at'} w = typed_read_same w (type_read (one types) two_less at) (type_read (other types) two_less at') refl ((type_l types two_less).same at at' w)

        typed_past : (at : List Tok) → PastGot (type_read (one types) two_less at) → PastGot (typed_at (one types) two_less at)
        typed_past at p = typed_read_past at (type_read (one types) two_less at) refl p

        void_named_past : (at ts : List Tok) → Gone ts → PastGot (name (one types) ts >>= λ n. function_at (one types) two_less at VoidY n.0 n.1)
        void_named_past at ts g = bind_past more more' Beyond Beyond (name (one types) ts) (λ n. function_at (one types) two_less at VoidY n.0 n.1) (name_past more more' total total' shift types ts g) (λ x p. function_past at VoidY x.0 x.1 p)

        void_named_same : {at at' : List Tok} → Agree at at' → {ts ts' : List Tok} → Agree ts ts'
            → SameGot (name (one types) ts >>= λ n. function_at (one types) two_less at VoidY n.0 n.1) (name (other types) ts' >>= λ n. function_at (other types) two_less at' VoidY n.0 n.1)
        void_named_same {at = at} {at' = at'} w v = bind_got more more' Alike Beyond (name_same more more' total total' shift types v) (λ n. function_at (one types) two_less at VoidY n.0 n.1) (λ n. function_at (other types) two_less at' VoidY n.0 n.1)
            (λ n us us' u. function_same w VoidY n u) (λ x p. function_past at VoidY x.0 x.1 p)

        item_short : (l : ItemLead) (ts : List Tok) → Gone ts → PastGot (item_by (one types) two_less ts l)
        item_short (item.Record u) ts g = record_named_past types two_less ts u (behind ts) (behind_gone more more' ts g)
        item_short item.Enum ts g = enum_named_past types two_less ts (behind ts) (behind_gone more more' ts g)
        item_short item.Typedef ts g = typedef_past_0 types two_less ts (behind ts) (behind_gone more more' ts g)
        item_short item.Void ts g = void_named_past ts (behind ts) (behind_gone more more' ts g)
        item_short item.Other ts g = typed_past ts ((type_l types two_less).short ts g)

        item_last : (l : ItemLead) (o : Tok) → SameGot (item_by (one types) two_less (o ∷ more) l) (item_by (other types) two_less (o ∷ more') l)
        item_last (item.Record u) o = past (record_named_past types two_less (o ∷ more) u more (omega arith))
        item_last item.Enum o = past (enum_named_past types two_less (o ∷ more) more (omega arith))
        item_last item.Typedef o = past (typedef_past_0 types two_less (o ∷ more) more (omega arith))
        item_last item.Void o = past (void_named_past (o ∷ more) more (omega arith))
        item_last item.Other o = typed_same (last {o = o})

        item_next : (l : ItemLead) (o : Tok) (ts ts' : List Tok) → Agree ts ts' → SameGot (item_by (one types) two_less (o ∷ ts) l) (item_by (other types) two_less (o ∷ ts') l)
        item_next (item.Record u) o ts ts' w = record_named_same types two_less (next {o = o} w) u w
        item_next item.Enum o ts ts' w = enum_named_same types two_less (next {o = o} w) w
        item_next item.Typedef o ts ts' w = typedef_same_0 types two_less (next {o = o} w) ts ts' w
        item_next item.Void o ts ts' w = void_named_same (next {o = o} w) w
        item_next item.Other o ts ts' w = typed_same (next {o = o} w)

        -- `void` begins a function or a type, by what stands behind it
        void_past : (b : Bool) → PastGot (item_by (one types) two_less (keyword key.Void ∷ more) (cond b item.Other item.Void))
        void_past true = typed_past (keyword key.Void ∷ more) (void_type_past more more' total total' shift types (known.turns types) (known.lists types) (suc room))
        void_past false = void_named_past (keyword key.Void ∷ more) more (omega arith)

        item_told : (o : Tok) → (o ≡ keyword key.Void) ⊎ ((ts us : List Tok) → item_of o ts ≡ item_of o us)
        item_told (refused n) = inr (λ ts us. refl)
        item_told (word n) = inr (λ ts us. refl)
        item_told (number n) = inr (λ ts us. refl)
        item_told (character n) = inr (λ ts us. refl)
        item_told (text t) = inr (λ ts us. refl)
        item_told (mark p) = inr (λ ts us. refl)
        item_told (keyword key.Int) = inr (λ ts us. refl)
        item_told (keyword key.Bool) = inr (λ ts us. refl)
        item_told (keyword key.Void) = inl refl
        item_told (keyword key.Struct) = inr (λ ts us. refl)
        item_told (keyword key.Union) = inr (λ ts us. refl)
        item_told (keyword key.Enum) = inr (λ ts us. refl)
        item_told (keyword key.Typedef) = inr (λ ts us. refl)
        item_told (keyword key.If) = inr (λ ts us. refl)
        item_told (keyword key.Else) = inr (λ ts us. refl)
        item_told (keyword key.While) = inr (λ ts us. refl)
        item_told (keyword key.Do) = inr (λ ts us. refl)
        item_told (keyword key.For) = inr (λ ts us. refl)
        item_told (keyword key.Switch) = inr (λ ts us. refl)
        item_told (keyword key.Case) = inr (λ ts us. refl)
        item_told (keyword key.Default) = inr (λ ts us. refl)
        item_told (keyword key.Return) = inr (λ ts us. refl)
        item_told (keyword key.Break) = inr (λ ts us. refl)
        item_told (keyword key.Continue) = inr (λ ts us. refl)
        item_told (keyword key.SizeOf) = inr (λ ts us. refl)
        item_told (keyword key.True) = inr (λ ts us. refl)
        item_told (keyword key.False) = inr (λ ts us. refl)
        item_told (keyword key.Null) = inr (λ ts us. refl)

        item_one : (o : Tok) → (o ≡ keyword key.Void) ⊎ ((ts us : List Tok) → item_of o ts ≡ item_of o us) → SameGot (item_read (one types) two_less (o ∷ more)) (item_read (other types) two_less (o ∷ more'))
        item_one o (inl e) = rw e (past (void_past (at_star more)))
        item_one o (inr h) = rw (h more more') (item_last (item_of o more') o)

        item_of_next : (o : Tok) {ts ts' : List Tok} → Agree ts ts' → (o ≡ keyword key.Void) ⊎ ((ts us : List Tok) → item_of o ts ≡ item_of o us) → item_of o ts ≡ item_of o ts'
        item_of_next o w (inl e) = rw (e, at_star_same more more' w) refl
        item_of_next o {ts = ts} {ts' = ts'} w (inr h) = h ts ts'

        pub item_same : {ts ts' : List Tok} → Agree ts ts' → SameGot (item_read (one types) two_less ts) (item_read (other types) two_less ts')
        item_same (last {o = o}) = item_one o (item_told o)
        item_same (next {o = o} {ts = ts} {ts' = ts'} w) = rw (item_of_next o w (item_told o)) (item_next (item_of o ts') o ts ts' w)

        pub item_past : (ts : List Tok) → Gone ts → PastGot (item_read (one types) two_less ts)
        item_past ts g = item_short (item_at ts) ts g

      -- ---- units

      types_behind : ItemT → List (List ℕ) → List (List ℕ)
      types_behind (RecordD u n vs sp) types = types ++ n ∷ []
      types_behind (EnumD n vs sp) types = types ++ n ∷ []
      types_behind (TypedefD y n sp) types = types ++ n ∷ []
      types_behind (VarsD vs sp) types = types
      types_behind (FunctionD y n vs b sp) types = types

      behind_one : (d : ItemT) (types : List (List ℕ)) → behind_item d (one types) ≡ one (types_behind d types)
      unfolding types_behind
      behind_one (RecordD u n vs sp) types = refl
      behind_one (EnumD n vs sp) types = refl
      behind_one (TypedefD y n sp) types = refl
      behind_one (VarsD vs sp) types = refl
      behind_one (FunctionD y n vs b sp) types = refl

      behind_other : (d : ItemT) (types : List (List ℕ)) → behind_item d (other types) ≡ other (types_behind d types)
      unfolding types_behind
      behind_other (RecordD u n vs sp) types = refl
      behind_other (EnumD n vs sp) types = refl
      behind_other (TypedefD y n sp) types = refl
      behind_other (VarsD vs sp) types = refl
      behind_other (FunctionD y n vs b sp) types = refl

      abbrev Never : {A : Type 0} → A → A → Type 0
      Never x y = ⊥

      abbrev taken : Context → List ItemT → Got ItemT → Result (Option (Got Unit_so_far)) Fault
      taken c ds d = Ok (Some ((behind_item d.0 c, ds ++ d.0 ∷ []), d.1))

      module _ (room : ℕ) where
        abbrev Going : ℕ → Type 0
        Going n = (types : List (List ℕ)) (ds : List ItemT) (ts : List Tok) → Gone ts → PastGot (repeat (item_turn (suc (suc room))) n (one types, ds) ts)

        items_past : (n : ℕ) → Going n → (types : List (List ℕ)) (ds : List ItemT) (ts : List Tok) (r : Result (Got ItemT) Fault) → PastGot r
            → PastGot ((r >>= taken (one types) ds) >>= goes_on (repeat (item_turn (suc (suc room))) n) (one types, ds) ts)
        items_past n again types ds ts (Ok d) p = rw (behind_one d.0 types) (again (types_behind d.0 types) (ds ++ d.0 ∷ []) d.1 p)
        items_past n again types ds ts (Err (Syntax k)) p = p
        items_past n again types ds ts (Err (TooDeep k)) p = p

        units_past : (n : ℕ) → Going n
        unfolding repeat
        units_past zero types ds ts g = g
        units_past (suc n) types ds [] g = g
        units_past (suc n) types ds (o ∷ ts) g = items_past n (units_past n) types ds (o ∷ ts) (item_read (one types) (suc (suc room)) (o ∷ ts)) (item_past types room (o ∷ ts) g)

        abbrev SameUnits : Result (Got Unit_so_far) Fault → Result (Got Unit_so_far) Fault → Type 0
        SameUnits r r' = Same Never Beyond r r'

        abbrev GoingSame : ℕ → ℕ → Type 0
        GoingSame n n' = (types : List (List ℕ)) (ds : List ItemT) (ts ts' : List Tok) → Agree ts ts' → length ts < n → length ts' < n'
            → SameUnits (repeat (item_turn (suc (suc room))) n (one types, ds) ts) (repeat (item_turn (suc (suc room))) n' (other types, ds) ts')

        items_same : (n n' : ℕ) → GoingSame n n' → (types : List (List ℕ)) (ds : List ItemT) (ts ts' : List Tok) → Agree ts ts' → length ts < suc n → length ts' < suc n'
            → (r r' : Result (Got ItemT) Fault) → item_read (one types) (suc (suc room)) ts ≡ r → SameGot r r'
            → SameUnits ((r >>= taken (one types) ds) >>= goes_on (repeat (item_turn (suc (suc room))) n) (one types, ds) ts)
            ((r' >>= taken (other types) ds) >>= goes_on (repeat (item_turn (suc (suc room))) n') (other types, ds) ts')
        items_same n n' again types ds ts ts' w e e' _ _ f (read {x = d} {y = z} v) =
            let shorter = known.items types (suc (suc room)) ts d f in
            rw (v.0, behind_one z.0 types, behind_other z.0 types) (again (types_behind z.0 types) (ds ++ z.0 ∷ []) d.1 z.1 v.1 (omega (arith, shorter, e)) (omega (arith, shorter, e', agree_length more more' w, agree_length more more' v.1)))
        items_same n n' again types ds ts ts' w e e' _ _ f (syntax v) = syntax v
        items_same n n' again types ds ts ts' w e e' _ _ f (too_deep v) = too_deep v
        items_same n n' again types ds ts ts' w e e' _ _ f (past {r = r} p) = past (items_past n (units_past n) types ds ts r p)

        units_same : (n n' : ℕ) → GoingSame n n'
        unfolding repeat
        units_same zero n' types ds ts ts' w e e' = absurd (omega (arith, e))
        units_same (suc n) zero types ds ts ts' w e e' = absurd (omega (arith, e'))
        units_same (suc n) (suc n') types ds _ _ (last {o = o}) e e' = items_same n n' (units_same n n') types ds (o ∷ more) (o ∷ more') last e e' (item_read (one types) (suc (suc room)) (o ∷ more))
            (item_read (other types) (suc (suc room)) (o ∷ more')) refl (item_same types room (last {o = o}))
        units_same (suc n) (suc n') types ds _ _ (next {o = o} {ts = ts} {ts' = ts'} w) e e' = items_same n n' (units_same n n') types ds (o ∷ ts) (o ∷ ts') (next w) e e' (item_read (one types) (suc (suc room)) (o ∷ ts))
            (item_read (other types) (suc (suc room)) (o ∷ ts')) refl (item_same types room (next {o = o} w))

        -- the same fault, or a fault behind the token up to which they agree
        faults_stay : (r r' : Result (Got Unit_so_far) Fault) → SameUnits r r' → (k : ℕ) → length more < k → (r ≡ Err (Syntax k) → (j : ℕ) × (r' ≡ Err (Syntax j))) × (r ≡ Err (TooDeep k) → (j : ℕ) × (r' ≡ Err (TooDeep j)))
        faults_stay _ _ (read v) k le = absurd v
        faults_stay _ _ (syntax {ts' = ts'} v) k le = ((λ e. (length ts', refl)), (λ e. absurd cc))
        faults_stay _ _ (too_deep {ts' = ts'} v) k le = ((λ e. absurd cc), (λ e. (length ts', refl)))
        faults_stay _ _ (past {r = r} p) k le = ((λ e. absurd (behind_more r p k le (inl e))), (λ e. absurd (behind_more r p k le (inr e))))
          where
            behind_more : (r : Result (Got Unit_so_far) Fault) → PastGot r → (k : ℕ) → length more < k → (r ≡ Err (Syntax k)) ⊎ (r ≡ Err (TooDeep k)) → ⊥
            behind_more (Ok x) p k le (inl e) = cc
            behind_more (Ok x) p k le (inr e) = cc
            behind_more (Err (Syntax j)) p k le (inl e) = let same : j ≡ k = cc in omega (arith, same, p, le)
            behind_more (Err (Syntax j)) p k le (inr e) = cc
            behind_more (Err (TooDeep j)) p k le (inl e) = cc
            behind_more (Err (TooDeep j)) p k le (inr e) = let same : j ≡ k = cc in omega (arith, same, p, le)

-- ---- what a fault says of all units that begin with the tokens up to and including the one that it names

pub agree_behind : (pre : List Tok) (o : Tok) (more more' : List Tok) → Agree more more' (pre ++ (o ∷ more)) (pre ++ (o ∷ more'))
agree_behind [] o more more' = last
agree_behind (p ∷ pre) o more more' = next (agree_behind pre o more more')

abbrev pub shifted : (pre : List Tok) (o : Tok) (more more' : List Tok) → length (pre ++ (o ∷ more)) + length more' ≡ length (pre ++ (o ∷ more')) + length more
shifted pre o more more' = agree_length more more' (agree_behind pre o more more')

items_fault : (r : Result (Got Unit_so_far) Fault) (f : Fault) → (r >>= λ a. Ok a.0.1) ≡ Err f → r ≡ Err f
items_fault (Ok x) f e = absurd cc
items_fault (Err g) f e = let same : g ≡ f = cc in rw same refl

-- what is known of the readers of the first list
abbrev pub KnownOf : (pre : List Tok) (o : Tok) (more more' : List Tok) → Type 0
KnownOf pre o more more' = Known more more' (length (pre ++ (o ∷ more))) (length (pre ++ (o ∷ more'))) (shifted pre o more more')

module _ (pre : List Tok) (o : Tok) (more more' : List Tok) (known : KnownOf pre o more more') (room : ℕ) where
  abbrev opened : List Tok → Unit_so_far
  opened ts = (record { total = length ts; types = [] }, [])

  abbrev reading : List Tok → Result (Got Unit_so_far) Fault
  reading ts = loop (item_turn (suc (suc room))) (opened ts) ts

  both : (reading (pre ++ (o ∷ more)) ≡ Err (Syntax (suc (length more))) → (j : ℕ) × (reading (pre ++ (o ∷ more')) ≡ Err (Syntax j)))
      × (reading (pre ++ (o ∷ more)) ≡ Err (TooDeep (suc (length more))) → (j : ℕ) × (reading (pre ++ (o ∷ more')) ≡ Err (TooDeep j)))
  both = faults_stay more more' (length (pre ++ (o ∷ more))) (length (pre ++ (o ∷ more'))) (shifted pre o more more') known room (reading (pre ++ (o ∷ more))) (reading (pre ++ (o ∷ more')))
      (units_same more more' (length (pre ++ (o ∷ more))) (length (pre ++ (o ∷ more'))) (shifted pre o more more') known room (suc (length (pre ++ (o ∷ more)))) (suc (length (pre ++ (o ∷ more')))) [] []
      (pre ++ (o ∷ more)) (pre ++ (o ∷ more')) (agree_behind pre o more more') (omega arith) (omega arith))
      (suc (length more)) (omega arith)

  pub syntax_stays : unit_at (suc (suc room)) (pre ++ (o ∷ more)) ≡ Err (Syntax (suc (length more))) → (j : ℕ) × (unit_at (suc (suc room)) (pre ++ (o ∷ more')) ≡ Err (Syntax j))
  unfolding unit_at
  syntax_stays e = let b = both.0 (items_fault (reading (pre ++ (o ∷ more))) (Syntax (suc (length more))) e) in (b.0, rw (b.1) refl)

  pub too_deep_stays : unit_at (suc (suc room)) (pre ++ (o ∷ more)) ≡ Err (TooDeep (suc (length more))) → (j : ℕ) × (unit_at (suc (suc room)) (pre ++ (o ∷ more')) ≡ Err (TooDeep j))
  unfolding unit_at
  too_deep_stays e = let b = both.1 (items_fault (reading (pre ++ (o ∷ more))) (TooDeep (suc (length more))) e) in (b.0, rw (b.1) refl)
