-- Declarations in two lists of tokens that agree up to one token: what is read up to there is the same, and so are the faults.
use Rattle.std.proofs.Common.{◌≡◌, ℕ, zero, suc, ◌+◌, Bool, true, false, List, [], ◌∷◌, ◌++◌, length, Option, Some, Result, Ok, refl, arith, ◌⊎◌, inl, inr}
use Rattle.std.specs.Prelude.{◌||◌, ◌&&◌}
use Rattle.c_parse.specs.declared.class.Key.TheVariants as key
use Rattle.c_parse.specs.declared.fault.Fault.{Fault}
use Rattle.c_parse.specs.Tok.{Tok, keyword}
use Rattle.c_tree.specs.Tree.{ExprT, TypeT, InitT, OneI, ListI, VarT}
use Rattle.c_parse.specs.Scope.{Context, span}
use Rattle.c_parse.specs.inner.Leads.{begins_expr}
use Rattle.c_tree.specs.View.{inits}
use Rattle.c_parse.specs.inner.ReadingDeclarations.{init_by, init_at, bare_var, field, var_by, var, vars_at, member_at, members_by, members_turn, members_at, param_at, params_by, at_void, params_at, value_by, value}
use Rattle.c_parse.specs.inner.ReadingStatements.{stmt_read, arm_read}
use Rattle.c_parse.specs.inner.ReadingLists.{comma_turn, separated, more_turn, listed, brace_turn}
use Rattle.c_parse.specs.inner.Reading.{type_mark_turn, base, readers, level_at, expr_at, type_read}
use Rattle.c_parse.specs.inner.Reader.{◌>>=◌, Got, Reader, Turn, loop, behind, is_close_paren, is_open_brace, at_close_brace, semicolon, end_list, at_semicolon, is_void_word, at_open_brace, is_assign, at_assign, at_star, at_close_paren, name}
use Rattle.c_parse.proofs.Single.{void_word_is}
use Rattle.c_parse.proofs.Locality
use Rattle.c_parse.proofs.Locality.{Takes, last, next, read, past, bind_past, bind_same, loop_past, loop_same, behind_gone, bind_got, bind_tokens, must_past, semicolon_same, end_list_same, at_close_brace_same, at_close_paren_same, at_open_brace_same, room_local, end_beyond, more_past, separated_is_local, listed_past, listed_same}
use Rattle.c_parse.proofs.LocalExpressions
use Rattle.c_parse.proofs.LocalExpressions.{LocalReaders, TurnsTake, readers_are_local, star_past, name_past, name_same, type_marks, begins_expr_same, begins_type_local}

-- behind the token up to which they agree come more in the one and more' in the other
module _ (more more' : List Tok) where
  -- the words of Locality, for these lists
  abbrev Agree : List Tok → List Tok → Type 0
  Agree ts ts' = Locality.Agree more more' ts ts'

  abbrev Gone : List Tok → Type 0
  Gone ts = Locality.Gone more more' ts

  abbrev Past : {A : Type 0} → (A → Type 0) → Result A Fault → Type 0
  Past P r = Locality.Past more more' P r

  abbrev Same : {A B : Type 0} → (A → B → Type 0) → (A → Type 0) → Result A Fault → Result B Fault → Type 0
  Same R P r r' = Locality.Same more more' R P r r'

  abbrev Alike : {A : Type 0} → Got A → Got A → Type 0
  Alike x y = Locality.Alike more more' x y

  abbrev Beyond : {A : Type 0} → Got A → Type 0
  Beyond x = Locality.Beyond more more' x

  abbrev SameGot : {A : Type 0} → Result (Got A) Fault → Result (Got A) Fault → Type 0
  SameGot r r' = Locality.SameGot more more' r r'

  abbrev PastGot : {A : Type 0} → Result (Got A) Fault → Type 0
  PastGot r = Locality.PastGot more more' r

  abbrev Local : {A : Type 0} → Reader A → Reader A → Type 0
  Local f f' = Locality.Local more more' f f'

  abbrev TurnAlike : {A : Type 0} → Option (Got A) → Option (Got A) → Type 0
  TurnAlike x y = Locality.TurnAlike more more' x y

  abbrev TurnBeyond : {A : Type 0} → Option (Got A) → Type 0
  TurnBeyond x = Locality.TurnBeyond more more' x

  abbrev TurnShort : {A : Type 0} → Option (Got A) → Type 0
  TurnShort x = Locality.TurnShort more more' x

  abbrev LocalTurn : {A : Type 0} → Turn A → Turn A → Type 0
  LocalTurn t t' = Locality.LocalTurn more more' t t'

  abbrev ListBeyond : {A : Type 0} → Got A → Type 0
  ListBeyond x = Locality.ListBeyond more more' x

  -- the two contexts have the same names of types, and differ as the lists do in their lengths
  module _ (total total' : ℕ) (shift : total + length more' ≡ total' + length more) where
    abbrev one : List (List ℕ) → Context
    one types = record { total = total; types = types }

    abbrev other : List (List ℕ) → Context
    other types = record { total = total'; types = types }

    span_same : (types : List (List ℕ)) {at at' ts ts' : List Tok} → Agree at at' → Agree ts ts' → span (one types) at ts ≡ span (other types) at' ts'
    span_same types a b = LocalExpressions.span_same more more' total total' shift types a b

    module _ (types : List (List ℕ)) (take : TurnsTake more more' total total' shift types) where
      abbrev all : (n : ℕ) → LocalReaders more more' total total' shift types (readers (one types) n) (readers (other types) n)
      all n = readers_are_local more more' total total' shift types take n

      -- each turn of the lists outside expressions takes a token at least
      pub record ListsTake : Type 0 where
        pub fields_take : (y : TypeT) → Takes (comma_turn (field (one types) y))
        pub vars_take : (room : ℕ) (y : TypeT) → Takes (comma_turn (var (one types) room y))
        pub params_take : (room : ℕ) → Takes (comma_turn (param_at (one types) room))
        pub inits_take : (room : ℕ) → Takes (more_turn (init_at (one types) room))
        pub values_take : (room : ℕ) → Takes (more_turn (value (one types) room))
        pub members_take : (room : ℕ) → Takes (members_turn (one types) room)
        pub stmts_take : (room : ℕ) → Takes (brace_turn (stmt_read (one types) room))
        pub arms_take : (room : ℕ) → Takes (brace_turn (arm_read (one types) room))

      module _ (lists : ListsTake) where
        ended_past : {A B : Type 0} (Q : B → Type 0) (x : Got A) → ListBeyond x → (k : List Tok → Result B Fault) → ((ts : List Tok) → Gone ts → Past Q (k ts)) → Past Q (end_list x.1 >>= k)
        ended_past Q x p k h = bind_past more more' Gone Q (end_list x.1) k (end_beyond more more' x.1 p) h

        listed_init_past : (at : List Tok) (x : Got (List InitT)) → ListBeyond x → PastGot (end_list x.1 >>= λ rest. Ok (ListI (inits x.0) (span (one types) at rest), rest))
        listed_init_past at x p = ended_past Beyond x p (λ rest. Ok (ListI (inits x.0) (span (one types) at rest), rest)) (λ ts g. g)

        listed_init_same : {at at' : List Tok} → Agree at at' → (is : List InitT) (ts ts' : List Tok) → Agree ts ts'
            → SameGot (end_list ts >>= λ rest. Ok (ListI (inits is) (span (one types) at rest), rest)) (end_list ts' >>= λ rest. Ok (ListI (inits is) (span (other types) at' rest), rest))
        listed_init_same {at = at} {at' = at'} b is ts ts' w = bind_tokens more more' Alike Beyond (end_list_same more more' w) (λ rest. Ok (ListI (inits is) (span (one types) at rest), rest)) (λ rest. Ok (ListI (inits is) (span (other types) at' rest), rest))
            (λ us us' v. read (rw (span_same types b v) refl, v)) (λ us p. p)

        module _ (room : ℕ) (inner inner' : Reader InitT) (l : Local inner inner') (turns : Takes (more_turn inner)) where
          some_list_past : (at ts : List Tok) → Gone ts → PastGot (listed inner ts >>= λ is. end_list is.1 >>= λ rest. Ok (ListI (inits is.0) (span (one types) at rest), rest))
          some_list_past at ts g = bind_past more more' ListBeyond Beyond (listed inner ts) (λ is. end_list is.1 >>= λ rest. Ok (ListI (inits is.0) (span (one types) at rest), rest)) (listed_past more more' inner inner' l turns ts g) (listed_init_past at)

          init_short : (b : Bool) (ts : List Tok) → Gone ts → PastGot (init_by (one types) room inner ts b)
          init_short false ts g = bind_past more more' Beyond Beyond (expr_at (one types) room ts) (λ e. Ok (OneI e.0, e.1)) ((all room).whole.short ts g) (λ x p. p)
          init_short true ts g = some_list_past ts (behind ts) (behind_gone more more' ts g)

          init_one : {ts ts' : List Tok} → Agree ts ts' → SameGot (init_by (one types) room inner ts false) (init_by (other types) room inner' ts' false)
          init_one {ts = ts} {ts' = ts'} w = bind_got more more' Alike Beyond ((all room).whole.same ts ts' w) (λ e. Ok (OneI e.0, e.1)) (λ e. Ok (OneI e.0, e.1)) (λ e us us' v. read (refl, v)) (λ x p. p)

          init_last : (b : Bool) (o : Tok) → SameGot (init_by (one types) room inner (o ∷ more) b) (init_by (other types) room inner' (o ∷ more') b)
          init_last false o = init_one last
          init_last true o = past (some_list_past (o ∷ more) more (omega arith))

          init_next : (b : Bool) (o : Tok) (ts ts' : List Tok) → Agree ts ts' → SameGot (init_by (one types) room inner (o ∷ ts) b) (init_by (other types) room inner' (o ∷ ts') b)
          init_next false o ts ts' w = init_one (next {o = o} w)
          init_next true o ts ts' w = bind_same more more' Alike ListBeyond Alike Beyond (listed_same more more' inner inner' l turns ts ts' w) (λ is. end_list is.1 >>= λ rest. Ok (ListI (inits is.0) (span (one types) (o ∷ ts) rest), rest))
              (λ is. end_list is.1 >>= λ rest. Ok (ListI (inits is.0) (span (other types) (o ∷ ts') rest), rest)) (λ x y v. rw (v.0) (listed_init_same (next {o = o} w) y.0 x.1 y.1 v.1)) (listed_init_past (o ∷ ts))

          init_same : {ts ts' : List Tok} → Agree ts ts' → SameGot (init_by (one types) room inner ts (at_open_brace ts)) (init_by (other types) room inner' ts' (at_open_brace ts'))
          init_same (last {o = o}) = init_last (is_open_brace o) o
          init_same (next {o = o} {ts = ts} {ts' = ts'} w) = init_next (is_open_brace o) o ts ts' w

        init_is_local : (room : ℕ) → Local (init_at (one types) room) (init_at (other types) room)
        unfolding init_at
        init_is_local zero = room_local more more' (λ ts. at_open_brace ts || begins_expr (one types) ts) (λ ts. at_open_brace ts || begins_expr (other types) ts) (λ ts ts' w. rw (at_open_brace_same more more' w, begins_expr_same more more' total total' shift types w) refl)
        init_is_local (suc room) = record {
          short = λ ts g. init_short room (init_at (one types) room) (init_at (other types) room) (init_is_local room) (lists.inits_take room) (at_open_brace ts) ts g;
          same = λ ts ts' w. init_same room (init_at (one types) room) (init_at (other types) room) (init_is_local room) (lists.inits_take room) w;
        }

        -- a name that has a type, and may have an initial value
        field_is_local : (y : TypeT) → Local (field (one types) y) (field (other types) y)
        field_is_local y = record {
          short = λ ts g. bind_past more more' Beyond Beyond (name (one types) ts) (λ n. Ok (bare_var (one types) y n.0 ts n.1, n.1)) (name_past more more' total total' shift types ts g) (λ x p. p);
          same = λ ts ts' w. bind_got more more' Alike Beyond (name_same more more' total total' shift types w) (λ n. Ok (bare_var (one types) y n.0 ts n.1, n.1)) (λ n. Ok (bare_var (other types) y n.0 ts' n.1, n.1))
              (λ n us us' v. read (rw (span_same types w v) refl, v)) (λ x p. p);
        }

        abbrev with_init : Context → TypeT → List ℕ → List Tok → Got InitT → Result (Got VarT) Fault
        with_init c y n at i = Ok (record { ty = y; name = n; init = Some i.0; span = span c at i.1 }, i.1)

        set_past : (room : ℕ) (y : TypeT) (n : List ℕ) (at ts : List Tok) → Gone ts → PastGot (init_at (one types) room ts >>= with_init (one types) y n at)
        set_past room y n at ts g = bind_past more more' Beyond Beyond (init_at (one types) room ts) (with_init (one types) y n at) ((init_is_local room).short ts g) (λ x p. p)

        set_same : (room : ℕ) (y : TypeT) (n : List ℕ) {at at' : List Tok} → Agree at at' → (ts ts' : List Tok) → Agree ts ts'
            → SameGot (init_at (one types) room ts >>= with_init (one types) y n at)
            (init_at (other types) room ts' >>= with_init (other types) y n at')
        set_same room y n {at = at} {at' = at'} b ts ts' w = bind_got more more' Alike Beyond ((init_is_local room).same ts ts' w) (with_init (one types) y n at)
            (with_init (other types) y n at') (λ i us us' v. read (rw (span_same types b v) refl, v)) (λ x p. p)

        pub var_past : (room : ℕ) (y : TypeT) (at : List Tok) (b : Bool) (x : Got (List ℕ)) → Beyond x → PastGot (var_by (one types) room y at x b)
        var_past room y at false x g = g
        var_past room y at true x g = set_past room y x.0 at (behind x.1) (behind_gone more more' x.1 g)

        var_last : (room : ℕ) (y : TypeT) (n : List ℕ) {at at' : List Tok} → Agree at at' → (b : Bool) (o : Tok) → SameGot (var_by (one types) room y at (n, o ∷ more) b) (var_by (other types) room y at' (n, o ∷ more') b)
        var_last room y n w false o = read (rw (span_same types w (last {o = o})) refl, last)
        var_last room y n {at = at} w true o = past (set_past room y n at more (omega arith))

        var_next : (room : ℕ) (y : TypeT) (n : List ℕ) {at at' : List Tok} → Agree at at' → (b : Bool) (o : Tok) (ts ts' : List Tok) → Agree ts ts'
            → SameGot (var_by (one types) room y at (n, o ∷ ts) b) (var_by (other types) room y at' (n, o ∷ ts') b)
        var_next room y n w false o ts ts' v = read (rw (span_same types w (next {o = o} v)) refl, next v)
        var_next room y n w true o ts ts' v = set_same room y n w ts ts' v

        var_behind : (room : ℕ) (y : TypeT) (n : List ℕ) {at at' : List Tok} → Agree at at' → (ts ts' : List Tok) → Agree ts ts'
            → SameGot (var_by (one types) room y at (n, ts) (at_assign ts)) (var_by (other types) room y at' (n, ts') (at_assign ts'))
        var_behind room y n w _ _ (last {o = o}) = var_last room y n w (is_assign o) o
        var_behind room y n w _ _ (next {o = o} {ts = ts} {ts' = ts'} v) = var_next room y n w (is_assign o) o ts ts' v

        pub var_is_local : (room : ℕ) (y : TypeT) → Local (var (one types) room y) (var (other types) room y)
        var_is_local room y = record {
          short = λ ts g. bind_past more more' Beyond Beyond (name (one types) ts) (λ n. var_by (one types) room y ts n (at_assign n.1)) (name_past more more' total total' shift types ts g) (λ x p. var_past room y ts (at_assign x.1) x p);
          same = λ ts ts' w. bind_got more more' Alike Beyond (name_same more more' total total' shift types w) (λ n. var_by (one types) room y ts n (at_assign n.1)) (λ n. var_by (other types) room y ts' n (at_assign n.1))
              (λ n us us' v. var_behind room y n w us us' v) (λ x p. var_past room y ts (at_assign x.1) x p);
        }

        -- variables, members, parameters and values
        typed_vars_past : (room : ℕ) (y : Got TypeT) → Beyond y → PastGot (separated (var (one types) room y.0) y.1)
        typed_vars_past room y g = (separated_is_local more more' (var (one types) room y.0) (var (other types) room y.0) (var_is_local room y.0) (lists.vars_take room y.0)).short y.1 g

        pub vars_is_local : (room : ℕ) → Local (vars_at (one types) room) (vars_at (other types) room)
        unfolding vars_at
        vars_is_local zero = begins_type_local more more' total total' shift types
        vars_is_local (suc room) = record {
          short = λ ts g. bind_past more more' Beyond Beyond (type_read (one types) room ts) (λ y. separated (var (one types) room y.0) y.1) ((all room).type.short ts g) (typed_vars_past room);
          same = λ ts ts' w. bind_got more more' Alike Beyond ((all room).type.same ts ts' w) (λ y. separated (var (one types) room y.0) y.1) (λ y. separated (var (other types) room y.0) y.1)
              (λ y us us' v. (separated_is_local more more' (var (one types) room y) (var (other types) room y) (var_is_local room y) (lists.vars_take room y)).same us us' v) (typed_vars_past room);
        }

        semi_past : {A : Type 0} (x : Got A) → Beyond x → PastGot (semicolon x.1 >>= λ rest. Ok (x.0, rest))
        semi_past x g = bind_past more more' Gone Beyond (semicolon x.1) (λ rest. Ok (x.0, rest)) (must_past more more' (at_semicolon x.1) x.1 g) (λ ts p. p)

        semi_same : {A : Type 0} (x : A) (ts ts' : List Tok) → Agree ts ts' → SameGot (semicolon ts >>= λ rest. Ok (x, rest)) (semicolon ts' >>= λ rest. Ok (x, rest))
        semi_same x ts ts' w = bind_tokens more more' Alike Beyond (semicolon_same more more' w) (λ rest. Ok (x, rest)) (λ rest. Ok (x, rest)) (λ us us' v. read (refl, v)) (λ us p. p)

        fields_are_local : (y : TypeT) → Local (separated (field (one types) y)) (separated (field (other types) y))
        fields_are_local y = separated_is_local more more' (field (one types) y) (field (other types) y) (field_is_local y) (lists.fields_take y)

        member_fields_past : (y : Got TypeT) → Beyond y → PastGot (separated (field (one types) y.0) y.1 >>= λ vs. semicolon vs.1 >>= λ rest. Ok (vs.0, rest))
        member_fields_past y g = bind_past more more' Beyond Beyond (separated (field (one types) y.0) y.1) (λ vs. semicolon vs.1 >>= λ rest. Ok (vs.0, rest)) ((fields_are_local y.0).short y.1 g) semi_past

        member_fields_same : (y : TypeT) (ts ts' : List Tok) → Agree ts ts'
            → SameGot (separated (field (one types) y) ts >>= λ vs. semicolon vs.1 >>= λ rest. Ok (vs.0, rest)) (separated (field (other types) y) ts' >>= λ vs. semicolon vs.1 >>= λ rest. Ok (vs.0, rest))
        member_fields_same y ts ts' w = bind_got more more' Alike Beyond ((fields_are_local y).same ts ts' w) (λ vs. semicolon vs.1 >>= λ rest. Ok (vs.0, rest)) (λ vs. semicolon vs.1 >>= λ rest. Ok (vs.0, rest))
            (λ vs us us' v. semi_same vs us us' v) semi_past

        member_is_local : (room : ℕ) → Local (member_at (one types) room) (member_at (other types) room)
        unfolding member_at
        member_is_local zero = begins_type_local more more' total total' shift types
        member_is_local (suc room) = record {
          short = λ ts g. bind_past more more' Beyond Beyond (type_read (one types) room ts) (λ y. separated (field (one types) y.0) y.1 >>= λ vs. semicolon vs.1 >>= λ rest. Ok (vs.0, rest)) ((all room).type.short ts g) member_fields_past;
          same = λ ts ts' w. bind_got more more' Alike Beyond ((all room).type.same ts ts' w) (λ y. separated (field (one types) y.0) y.1 >>= λ vs. semicolon vs.1 >>= λ rest. Ok (vs.0, rest))
              (λ y. separated (field (other types) y.0) y.1 >>= λ vs. semicolon vs.1 >>= λ rest. Ok (vs.0, rest)) (λ y us us' v. member_fields_same y us us' v) member_fields_past;
        }

        members_short : (room : ℕ) (vs : List VarT) (b : Bool) (ts : List Tok) → Gone ts → Past TurnShort (members_by (one types) room vs ts b)
        members_short room vs true ts g = tt
        members_short room vs false ts g = bind_past more more' Beyond TurnShort (member_at (one types) room ts) (λ us. Ok (Some (vs ++ us.0, us.1))) ((member_is_local room).short ts g) (λ x p. p)

        members_both : (room : ℕ) (vs : List VarT) (b : Bool) (ts ts' : List Tok) → Agree ts ts' → Same TurnAlike TurnBeyond (members_by (one types) room vs ts b) (members_by (other types) room vs ts' b)
        members_both room vs true ts ts' w = read tt
        members_both room vs false ts ts' w = bind_got more more' TurnAlike TurnBeyond ((member_is_local room).same ts ts' w) (λ us. Ok (Some (vs ++ us.0, us.1))) (λ us. Ok (Some (vs ++ us.0, us.1))) (λ x us us' v. read (refl, v)) (λ x p. p)

        members_turns : (room : ℕ) → LocalTurn (members_turn (one types) room) (members_turn (other types) room)
        members_turns room = record {
          short = λ vs ts g. members_short room vs (at_close_brace ts) ts g;
          same = λ vs ts ts' w. rw (at_close_brace_same more more' w) (members_both room vs (at_close_brace ts') ts ts' w);
        }

        more_members_past : (room : ℕ) (x : Got (List VarT)) → Beyond x → PastGot (loop (members_turn (one types) room) x.0 x.1)
        more_members_past room x g = loop_past more more' (members_turn (one types) room) (members_turns room).short x.0 x.1 g

        pub members_are_local : (room : ℕ) → Local (members_at (one types) room) (members_at (other types) room)
        members_are_local room = record {
          short = λ ts g. bind_past more more' Beyond Beyond (member_at (one types) room ts) (λ vs. loop (members_turn (one types) room) vs.0 vs.1) ((member_is_local room).short ts g) (more_members_past room);
          same = λ ts ts' w. bind_got more more' Alike Beyond ((member_is_local room).same ts ts' w) (λ vs. loop (members_turn (one types) room) vs.0 vs.1) (λ vs. loop (members_turn (other types) room) vs.0 vs.1)
              (λ vs us us' v. loop_same more more' (members_turn (one types) room) (members_turn (other types) room) (members_turns room) (lists.members_take room) vs us us' v) (more_members_past room);
        }

        typed_field_past : (y : Got TypeT) → Beyond y → PastGot (field (one types) y.0 y.1)
        typed_field_past y g = (field_is_local y.0).short y.1 g

        param_is_local : (room : ℕ) → Local (param_at (one types) room) (param_at (other types) room)
        unfolding param_at
        param_is_local zero = begins_type_local more more' total total' shift types
        param_is_local (suc room) = record {
          short = λ ts g. bind_past more more' Beyond Beyond (type_read (one types) room ts) (λ y. field (one types) y.0 y.1) ((all room).type.short ts g) typed_field_past;
          same = λ ts ts' w. bind_got more more' Alike Beyond ((all room).type.same ts ts' w) (λ y. field (one types) y.0 y.1) (λ y. field (other types) y.0 y.1) (λ y us us' v. (field_is_local y).same us us' v) typed_field_past;
        }

        params_list : (room : ℕ) → Local (separated (param_at (one types) room)) (separated (param_at (other types) room))
        params_list room = separated_is_local more more' (param_at (one types) room) (param_at (other types) room) (param_is_local room) (lists.params_take room)

        params_short : (room : ℕ) (b void : Bool) (ts : List Tok) → Gone ts → PastGot (params_by (one types) room ts b void)
        params_short room true void ts g = g
        params_short room false true ts g = behind_gone more more' ts g
        params_short room false false ts g = (params_list room).short ts g

        -- a type that begins with `void` goes on behind it
        pub void_type_past : (room : ℕ) → PastGot (type_read (one types) (suc room) (keyword key.Void ∷ more))
        unfolding readers
        void_type_past room = bind_past more more' Beyond Beyond (base (one types) (keyword key.Void ∷ more)) (λ a. loop (type_mark_turn (readers (one types) room) (suc room)) a.0 a.1) (star_past more more' (at_star more) more (omega arith))
            (λ x g. loop_past more more' (type_mark_turn (readers (one types) room) (suc room)) (type_marks more more' total total' shift types (readers (one types) room) (readers (other types) room) (all room) (suc room)).short x.0 x.1 g)

        void_param_past : (room : ℕ) → PastGot (param_at (one types) (suc (suc room)) (keyword key.Void ∷ more))
        unfolding param_at
        void_param_past room = bind_past more more' Beyond Beyond (type_read (one types) (suc room) (keyword key.Void ∷ more)) (λ y. field (one types) y.0 y.1) (void_type_past room) typed_field_past

        void_params_past : (room : ℕ) (b : Bool) → PastGot (params_by (one types) (suc (suc room)) (keyword key.Void ∷ more) false b)
        void_params_past room true = omega arith
        void_params_past room false = bind_past more more' Beyond Beyond (param_at (one types) (suc (suc room)) (keyword key.Void ∷ more)) (λ x. loop (comma_turn (param_at (one types) (suc (suc room)))) (x.0 ∷ []) x.1) (void_param_past room)
            (more_past more more' (param_at (one types) (suc (suc room))) (param_at (other types) (suc (suc room))) (param_is_local (suc (suc room))))

        void_told : (o : Tok) → (o ≡ keyword key.Void) ⊎ (is_void_word o ≡ false)
        void_told o = by (is_void_word o) refl
          where
            by : (b : Bool) → is_void_word o ≡ b → (o ≡ keyword key.Void) ⊎ (is_void_word o ≡ false)
            by true e = inl (void_word_is o e)
            by false e = inr e

        params_both : (room : ℕ) (b void : Bool) (o : Tok) (ts ts' : List Tok) → Agree (o ∷ ts) (o ∷ ts') → Agree ts ts' ⊎ (void ≡ false) → SameGot (params_by (one types) room (o ∷ ts) b void) (params_by (other types) room (o ∷ ts') b void)
        params_both room true void o ts ts' w h = read (refl, w)
        params_both room false false o ts ts' w h = (params_list room).same (o ∷ ts) (o ∷ ts') w
        params_both room false true o ts ts' w (inl v) = read (refl, v)
        params_both room false true o ts ts' w (inr e) = absurd cc

        params_last : (room : ℕ) (o : Tok) → (o ≡ keyword key.Void) ⊎ (is_void_word o ≡ false) → SameGot (params_at (one types) (suc (suc room)) (o ∷ more)) (params_at (other types) (suc (suc room)) (o ∷ more'))
        params_last room o (inl e) = rw e (past (void_params_past room (at_close_paren more)))
        params_last room o (inr e) = rw e (params_both (suc (suc room)) (is_close_paren o) false o more more' last (inr refl))

        params_next : (room : ℕ) (o : Tok) (ts ts' : List Tok) → Agree ts ts' → SameGot (params_at (one types) room (o ∷ ts)) (params_at (other types) room (o ∷ ts'))
        params_next room o ts ts' w = rw (at_close_paren_same more more' w) (params_both room (is_close_paren o) (is_void_word o && at_close_paren ts') o ts ts' (next w) (inl w))

        params_are_same : (room : ℕ) {ts ts' : List Tok} → Agree ts ts' → SameGot (params_at (one types) (suc (suc room)) ts) (params_at (other types) (suc (suc room)) ts')
        params_are_same room (last {o = o}) = params_last room o (void_told o)
        params_are_same room (next {o = o} {ts = ts} {ts' = ts'} w) = params_next (suc (suc room)) o ts ts' w

        pub params_are_local : (room : ℕ) → Local (params_at (one types) (suc (suc room))) (params_at (other types) (suc (suc room)))
        params_are_local room = record { short = λ ts g. params_short (suc (suc room)) (at_close_paren ts) (at_void ts) ts g; same = λ ts ts' w. params_are_same room w }

        -- a value of an enumeration
        abbrev with_value : List ℕ → Got ExprT → Result (Got (List ℕ × Option ExprT)) Fault
        with_value n e = Ok ((n, Some e.0), e.1)

        set_value_past : (room : ℕ) (n : List ℕ) (ts : List Tok) → Gone ts → PastGot (level_at (one types) room 10 ts >>= with_value n)
        set_value_past room n ts g = bind_past more more' Beyond Beyond (level_at (one types) room 10 ts) (with_value n) (((all room).level 10).short ts g) (λ x p. p)

        value_past : (room : ℕ) (b : Bool) (x : Got (List ℕ)) → Beyond x → PastGot (value_by (one types) room x b)
        value_past room false x g = g
        value_past room true x g = set_value_past room x.0 (behind x.1) (behind_gone more more' x.1 g)

        value_last : (room : ℕ) (n : List ℕ) (b : Bool) (o : Tok) → SameGot (value_by (one types) room (n, o ∷ more) b) (value_by (other types) room (n, o ∷ more') b)
        value_last room n false o = read (refl, last)
        value_last room n true o = past (set_value_past room n more (omega arith))

        value_next : (room : ℕ) (n : List ℕ) (b : Bool) (o : Tok) (ts ts' : List Tok) → Agree ts ts' → SameGot (value_by (one types) room (n, o ∷ ts) b) (value_by (other types) room (n, o ∷ ts') b)
        value_next room n false o ts ts' v = read (refl, next v)
        value_next room n true o ts ts' v = bind_got more more' Alike Beyond (((all room).level 10).same ts ts' v) (with_value n) (with_value n) (λ e us us' u. read (refl, u)) (λ x p. p)

        value_behind : (room : ℕ) (n : List ℕ) (ts ts' : List Tok) → Agree ts ts' → SameGot (value_by (one types) room (n, ts) (at_assign ts)) (value_by (other types) room (n, ts') (at_assign ts'))
        value_behind room n _ _ (last {o = o}) = value_last room n (is_assign o) o
        value_behind room n _ _ (next {o = o} {ts = ts} {ts' = ts'} v) = value_next room n (is_assign o) o ts ts' v

        pub value_is_local : (room : ℕ) → Local (value (one types) room) (value (other types) room)
        value_is_local room = record {
          short = λ ts g. bind_past more more' Beyond Beyond (name (one types) ts) (λ n. value_by (one types) room n (at_assign n.1)) (name_past more more' total total' shift types ts g) (λ x p. value_past room (at_assign x.1) x p);
          same = λ ts ts' w. bind_got more more' Alike Beyond (name_same more more' total total' shift types w) (λ n. value_by (one types) room n (at_assign n.1)) (λ n. value_by (other types) room n (at_assign n.1)) (λ n us us' v. value_behind room n us us' v)
              (λ x p. value_past room (at_assign x.1) x p);
        }
