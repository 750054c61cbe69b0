-- Types and expressions in two lists of tokens that agree up to one token: what is read up to there is the same, and so are the faults.
use Rattle.std.proofs.Common.{◌≡◌, ℕ, zero, suc, ◌+◌, ◌-◌, Bool, true, false, cond, List, [], ◌∷◌, ◌++◌, length, Option, Some, None, Result, Ok, refl, sym, ap, ◌∙◌, arith, ◌⊎◌, inl, inr}
use Rattle.std.specs.Prelude.{◌||◌}
use Rattle.c_parse.specs.declared.fault.Fault.{Fault}
use Rattle.c_parse.specs.Tok.{Tok, keyword, refused, word, number, character, text, mark}
use Rattle.c_tree.specs.Tree.{ExprT, ParenE, UnaryE, BinaryE, AssignE, StepE, IndexE, MemberE, ArrowE, CallE, CastE, SizeOfE, TypeT, VoidY, NamedY, ArrayY}
use Rattle.c_tree.specs.View.{exprs}
use Rattle.c_tree.specs.Depth.{expr_depth, type_depth}
use Rattle.c_parse.specs.declared.lead.TypeLead.{TypeLead}
use Rattle.c_parse.specs.declared.lead.TypeLead.TheVariants as type_
use Rattle.c_parse.specs.declared.lead.Lead.{Lead}
use Rattle.c_parse.specs.declared.lead.Lead.TheVariants as lead
use Rattle.c_tree.specs.declared.operator.UnOp.{UnOp}
use Rattle.c_tree.specs.declared.operator.StepOp.{StepOp}
use Rattle.c_tree.specs.declared.operator.BinOp.{BinOp}
use Rattle.c_parse.specs.declared.lead.Start.{Start}
use Rattle.c_parse.specs.declared.lead.Start.TheVariants as start
use Rattle.c_parse.specs.declared.lead.Suffix.{Suffix}
use Rattle.c_parse.specs.declared.lead.Suffix.TheVariants as suffix
use Rattle.c_parse.specs.declared.lead.TypeMark.{TypeMark}
use Rattle.c_parse.specs.declared.lead.TypeMark.TheVariants as type_mark
use Rattle.c_lex.specs.declared.token.Punct.TheVariants as m
use Rattle.c_parse.specs.Scope.{Context, span}
use Rattle.c_parse.specs.inner.Leads.{type_of, type_at, begins_type, type_mark_of, type_mark_at, start_of, start_at, is_some_start, begins_expr, lead_of, lead_at, suffix_of, suffix_at}
use Rattle.c_parse.specs.inner.Reading.{Readers, run_more, run_with, type_mark_by, type_mark_turn, base_by, base, type_with, exprs_by, exprs_turn, exprs_with, arguments_by, arguments_with, named_by, primary_by, primary_with, suffix_by, is_some_suffix, suffix_turn_by, suffix_turn, postfix_with, unary_by, unary_with, operator_at, operator_by, operator_turn, level_with, assigner_behind, assign_by, whole_with, readers}
use Rattle.c_parse.specs.inner.Reader.{◌>>=◌, Got, Reader, bad, no_room, Turn, loop, behind, open_paren, is_close_paren, close_paren, close_bracket, is_comma, at_comma, bytes_at, at_star, at_open_paren, at_close_paren, at_open_bracket, at_close_bracket, is_name, at_name, name}
use Rattle.c_parse.proofs.Locality
use Rattle.c_parse.proofs.Locality.{Takes, last, next, read, syntax, too_deep, past, bind_past, agree_length, loop_past, loop_same, behind_gone, above_past, above_same, bind_got, bind_tokens, must_past, open_paren_same, close_paren_same, close_bracket_same, bytes_same, worded_past, worded_last, worded_next, closed_past, closed_same, at_star_same, at_open_paren_same, at_open_bracket_same, room_local, weaken_turn}

-- behind the token up to which they agree come more in the one and more' in the other
module _ (more more' : List Tok) where
  -- the words of Locality, for these lists
  abbrev Agree : List Tok → List Tok → Type 0
  Agree ts ts' = Locality.Agree more more' ts ts'

  abbrev Gone : List Tok → Type 0
  Gone ts = Locality.Gone more more' ts

  abbrev Past : {A : Type 0} → (A → Type 0) → Result A Fault → Type 0
  Past P r = Locality.Past more more' P r

  abbrev Same : {A B : Type 0} → (A → B → Type 0) → (A → Type 0) → Result A Fault → Result B Fault → Type 0
  Same R P r r' = Locality.Same more more' R P r r'

  abbrev Alike : {A : Type 0} → Got A → Got A → Type 0
  Alike x y = Locality.Alike more more' x y

  abbrev Beyond : {A : Type 0} → Got A → Type 0
  Beyond x = Locality.Beyond more more' x

  abbrev SameGot : {A : Type 0} → Result (Got A) Fault → Result (Got A) Fault → Type 0
  SameGot r r' = Locality.SameGot more more' r r'

  abbrev PastGot : {A : Type 0} → Result (Got A) Fault → Type 0
  PastGot r = Locality.PastGot more more' r

  abbrev Local : {A : Type 0} → Reader A → Reader A → Type 0
  Local f f' = Locality.Local more more' f f'

  abbrev TurnAlike : {A : Type 0} → Option (Got A) → Option (Got A) → Type 0
  TurnAlike x y = Locality.TurnAlike more more' x y

  abbrev TurnBeyond : {A : Type 0} → Option (Got A) → Type 0
  TurnBeyond x = Locality.TurnBeyond more more' x

  abbrev TurnShort : {A : Type 0} → Option (Got A) → Type 0
  TurnShort x = Locality.TurnShort more more' x

  abbrev LocalTurn : {A : Type 0} → Turn A → Turn A → Type 0
  LocalTurn t t' = Locality.LocalTurn more more' t t'

  -- ---- types

  pub star_past : (b : Bool) (ts : List Tok) → Gone ts → PastGot (cond b (Ok (VoidY, ts)) (bad ts))
  star_past true ts g = g
  star_past false ts g = g

  star_same : (b : Bool) (ts ts' : List Tok) → Agree ts ts' → SameGot (cond b (Ok (VoidY, ts)) (bad ts)) (cond b (Ok (VoidY, ts')) (bad ts'))
  star_same true ts ts' a = read (refl, a)
  star_same false ts ts' a = syntax a

  base_short : (l : TypeLead) (ts : List Tok) → Gone ts → PastGot (base_by ts l)
  base_short type_.Int ts g = behind_gone more more' ts g
  base_short type_.Bool ts g = behind_gone more more' ts g
  base_short type_.Named ts g = behind_gone more more' ts g
  base_short type_.Void ts g = star_past (at_star (behind ts)) (behind ts) (behind_gone more more' ts g)
  base_short type_.Other ts g = g

  base_last : (l : TypeLead) (o : Tok) → SameGot (base_by (o ∷ more) l) (base_by (o ∷ more') l)
  base_last type_.Int o = past (omega arith)
  base_last type_.Bool o = past (omega arith)
  base_last type_.Named o = past (omega arith)
  base_last type_.Void o = past (star_past (at_star more) more (omega arith))
  base_last type_.Other o = syntax {ts = o ∷ more} {ts' = o ∷ more'} last

  base_next : (l : TypeLead) (o : Tok) (ts ts' : List Tok) → Agree ts ts' → SameGot (base_by (o ∷ ts) l) (base_by (o ∷ ts') l)
  base_next type_.Int o ts ts' a = read (refl, a)
  base_next type_.Bool o ts ts' a = read (refl, a)
  base_next type_.Named o ts ts' a = read (ap NamedY (bytes_same more more' o ts ts'), a)
  base_next type_.Void o ts ts' a = rw (at_star_same more more' a) (star_same (at_star ts') ts ts' a)
  base_next type_.Other o ts ts' a = syntax {ts = o ∷ ts} {ts' = o ∷ ts'} (next a)

  -- the two contexts have the same names of types, and differ as the lists do in their lengths
  module _ (total total' : ℕ) (shift : total + length more' ≡ total' + length more) where
    abbrev pub one : List (List ℕ) → Context
    one types = record { total = total; types = types }

    abbrev pub other : List (List ℕ) → Context
    other types = record { total = total'; types = types }

    pub span_same : (types : List (List ℕ)) {at at' ts ts' : List Tok} → Agree at at' → Agree ts ts' → span (one types) at ts ≡ span (other types) at' ts'
    span_same types {at = at} {at' = at'} {ts = ts} {ts' = ts'} a b =
        let first : total - length at ≡ total' - length at' = omega (arith, shift, agree_length more more' a) in
        let end : total - length ts - 1 ≡ total' - length ts' - 1 = omega (arith, shift, agree_length more more' b) in
        rw (first, end) refl

    is_name_same : (types : List (List ℕ)) (o : Tok) → is_name (one types) o ≡ is_name (other types) o
    is_name_same types (keyword k) = refl
    is_name_same types (refused n) = refl
    is_name_same types (word n) = refl
    is_name_same types (number n) = refl
    is_name_same types (character n) = refl
    is_name_same types (text t) = refl
    is_name_same types (mark p) = refl

    pub name_past : (types : List (List ℕ)) (ts : List Tok) → Gone ts → PastGot (name (one types) ts)
    name_past types ts g = worded_past more more' (at_name (one types) ts) ts g

    pub name_same : (types : List (List ℕ)) {ts ts' : List Tok} → Agree ts ts' → SameGot (name (one types) ts) (name (other types) ts')
    name_same types (last {o = o}) = rw (is_name_same types o) (worded_last more more' (is_name (other types) o) o)
    name_same types (next {o = o} {ts = ts} {ts' = ts'} a) = rw (is_name_same types o) (worded_next more more' (is_name (other types) o) o ts ts' a)

    module _ (types : List (List ℕ)) where
      type_of_same : (o : Tok) → type_of (one types) o ≡ type_of (other types) o
      type_of_same (keyword k) = refl
      type_of_same (refused n) = refl
      type_of_same (word n) = refl
      type_of_same (number n) = refl
      type_of_same (character n) = refl
      type_of_same (text t) = refl
      type_of_same (mark p) = refl

      type_at_same : {ts ts' : List Tok} → Agree ts ts' → type_at (one types) ts ≡ type_at (other types) ts'
      type_at_same (last {o = o}) = type_of_same o
      type_at_same (next {o = o} a) = type_of_same o

      base_same : {ts ts' : List Tok} → Agree ts ts' → SameGot (base (one types) ts) (base (other types) ts')
      base_same (last {o = o}) = rw (type_of_same o) (base_last (type_of (other types) o) o)
      base_same (next {o = o} {ts = ts} {ts' = ts'} a) = rw (type_of_same o) (base_next (type_of (other types) o) o ts ts' a)

      lead_of_same : (o : Tok) → lead_of (one types) o ≡ lead_of (other types) o
      lead_of_same (keyword k) = refl
      lead_of_same (refused n) = refl
      lead_of_same (word n) = refl
      lead_of_same (number n) = refl
      lead_of_same (character n) = refl
      lead_of_same (text t) = refl
      lead_of_same (mark p) = refl

      -- a parenthesis begins by what stands behind it, any other token by itself
      start_told : (o : Tok) → (o ≡ mark m.OpenParen) ⊎ ((ts us : List Tok) → start_of (one types) o ts ≡ start_of (other types) o us)
      start_told (keyword k) = inr (λ ts us. refl)
      start_told (refused n) = inr (λ ts us. refl)
      start_told (word n) = inr (λ ts us. refl)
      start_told (number n) = inr (λ ts us. refl)
      start_told (character n) = inr (λ ts us. refl)
      start_told (text t) = inr (λ ts us. refl)
      start_told (mark m.OpenBrace) = inr (λ ts us. refl)
      start_told (mark m.CloseBrace) = inr (λ ts us. refl)
      start_told (mark m.OpenParen) = inl refl
      start_told (mark m.CloseParen) = inr (λ ts us. refl)
      start_told (mark m.OpenBracket) = inr (λ ts us. refl)
      start_told (mark m.CloseBracket) = inr (λ ts us. refl)
      start_told (mark m.Semicolon) = inr (λ ts us. refl)
      start_told (mark m.Comma) = inr (λ ts us. refl)
      start_told (mark m.Dot) = inr (λ ts us. refl)
      start_told (mark m.Arrow) = inr (λ ts us. refl)
      start_told (mark m.Question) = inr (λ ts us. refl)
      start_told (mark m.Colon) = inr (λ ts us. refl)
      start_told (mark m.Hash) = inr (λ ts us. refl)
      start_told (mark m.Assign) = inr (λ ts us. refl)
      start_told (mark m.PlusAssign) = inr (λ ts us. refl)
      start_told (mark m.MinusAssign) = inr (λ ts us. refl)
      start_told (mark m.StarAssign) = inr (λ ts us. refl)
      start_told (mark m.SlashAssign) = inr (λ ts us. refl)
      start_told (mark m.PercentAssign) = inr (λ ts us. refl)
      start_told (mark m.ShlAssign) = inr (λ ts us. refl)
      start_told (mark m.ShrAssign) = inr (λ ts us. refl)
      start_told (mark m.AndAssign) = inr (λ ts us. refl)
      start_told (mark m.OrAssign) = inr (λ ts us. refl)
      start_told (mark m.XorAssign) = inr (λ ts us. refl)
      start_told (mark m.OrOr) = inr (λ ts us. refl)
      start_told (mark m.AndAnd) = inr (λ ts us. refl)
      start_told (mark m.Or) = inr (λ ts us. refl)
      start_told (mark m.Xor) = inr (λ ts us. refl)
      start_told (mark m.And) = inr (λ ts us. refl)
      start_told (mark m.EqualEqual) = inr (λ ts us. refl)
      start_told (mark m.NotEqual) = inr (λ ts us. refl)
      start_told (mark m.Less) = inr (λ ts us. refl)
      start_told (mark m.LessEqual) = inr (λ ts us. refl)
      start_told (mark m.Greater) = inr (λ ts us. refl)
      start_told (mark m.GreaterEqual) = inr (λ ts us. refl)
      start_told (mark m.Shl) = inr (λ ts us. refl)
      start_told (mark m.Shr) = inr (λ ts us. refl)
      start_told (mark m.Plus) = inr (λ ts us. refl)
      start_told (mark m.Minus) = inr (λ ts us. refl)
      start_told (mark m.Star) = inr (λ ts us. refl)
      start_told (mark m.Slash) = inr (λ ts us. refl)
      start_told (mark m.Percent) = inr (λ ts us. refl)
      start_told (mark m.Bang) = inr (λ ts us. refl)
      start_told (mark m.Tilde) = inr (λ ts us. refl)
      start_told (mark m.PlusPlus) = inr (λ ts us. refl)
      start_told (mark m.MinusMinus) = inr (λ ts us. refl)

      pub begins_type_same : {ts ts' : List Tok} → Agree ts ts' → begins_type (one types) ts ≡ begins_type (other types) ts'
      begins_type_same w = rw (type_at_same w) refl

      start_next : (o : Tok) {ts ts' : List Tok} → Agree ts ts' → start_of (one types) o ts ≡ start_of (other types) o ts'
      start_next o {ts = ts} {ts' = ts'} w = by (start_told o)
        where
          by : (o ≡ mark m.OpenParen) ⊎ ((ts us : List Tok) → start_of (one types) o ts ≡ start_of (other types) o us) → start_of (one types) o ts ≡ start_of (other types) o ts'
          by (inl e) = rw (e, begins_type_same w) refl
          by (inr h) = h ts ts'

      paren_begins : (b : Bool) → (is_some_start (cond b start.Cast start.Other) || true) ≡ true
      paren_begins true = refl
      paren_begins false = refl

      begins_expr_by : (o : Tok) (ts us : List Tok) → (o ≡ mark m.OpenParen) ⊎ ((ts us : List Tok) → start_of (one types) o ts ≡ start_of (other types) o us) → begins_expr (one types) (o ∷ ts) ≡ begins_expr (other types) (o ∷ us)
      begins_expr_by o ts us (inl e) = rw e (paren_begins (begins_type (one types) ts) ∙ sym (paren_begins (begins_type (other types) us)))
      begins_expr_by o ts us (inr h) = rw (h ts us, lead_of_same o) refl

      pub begins_expr_same : {ts ts' : List Tok} → Agree ts ts' → begins_expr (one types) ts ≡ begins_expr (other types) ts'
      begins_expr_same (last {o = o}) = begins_expr_by o more more' (start_told o)
      begins_expr_same (next {o = o} {ts = ts} {ts' = ts'} w) = begins_expr_by o ts ts' (start_told o)

      -- the readers at one less room
      pub record LocalReaders (r r' : Readers) : Type 0 where
        pub level : (k : ℕ) → Local (r.level k) (r'.level k)
        pub whole : Local r.whole r'.whole
        pub type : Local r.type r'.type
        pub run : (a : TypeT) → Local (r.run a) (r'.run a)
        pub types_take : (room : ℕ) → Takes (type_mark_turn r room)
        pub exprs_take : Takes (exprs_turn r)
        pub suffixes_take : (room : ℕ) (at : List Tok) → Takes (suffix_turn (one types) r room at)
        pub operators_take : (room k : ℕ) (at : List Tok) → Takes (operator_turn (one types) r room k at)

      module _ (r r' : Readers) (all : LocalReaders r r') where
        run_more_past : (a : TypeT) (e : ExprT) (b : Bool) (ts : List Tok) → Gone ts → PastGot (run_more r a e ts b)
        run_more_past a e false ts g = g
        run_more_past a e true ts g = bind_past more more' Beyond Beyond (r.run a ts) (λ b. Ok (ArrayY b.0 e, b.1)) ((all.run a).short ts g) (λ x p. p)

        run_more_same : (a : TypeT) (e : ExprT) (b : Bool) (ts ts' : List Tok) → Agree ts ts' → SameGot (run_more r a e ts b) (run_more r' a e ts' b)
        run_more_same a e false ts ts' g = read (refl, g)
        run_more_same a e true ts ts' g = bind_got more more' Alike Beyond ((all.run a).same ts ts' g) (λ b. Ok (ArrayY b.0 e, b.1)) (λ b. Ok (ArrayY b.0 e, b.1)) (λ x us us' w. read (refl, w)) (λ x p. p)

        sized_past : (a : TypeT) (x : Got ExprT) → Beyond x → PastGot (close_bracket x.1 >>= λ mid. run_more r a x.0 mid (at_open_bracket mid))
        sized_past a x g = bind_past more more' Gone Beyond (close_bracket x.1) (λ mid. run_more r a x.0 mid (at_open_bracket mid)) (must_past more more' (at_close_bracket x.1) x.1 g) (λ mid p. run_more_past a x.0 (at_open_bracket mid) mid p)

        sized_same : (a : TypeT) (e : ExprT) (ts ts' : List Tok) → Agree ts ts'
            → SameGot (close_bracket ts >>= λ mid. run_more r a e mid (at_open_bracket mid)) (close_bracket ts' >>= λ mid. run_more r' a e mid (at_open_bracket mid))
        sized_same a e ts ts' g = bind_tokens more more' Alike Beyond (close_bracket_same more more' g) (λ mid. run_more r a e mid (at_open_bracket mid)) (λ mid. run_more r' a e mid (at_open_bracket mid))
            (λ us us' w. rw (at_open_bracket_same more more' w) (run_more_same a e (at_open_bracket us') us us' w)) (λ mid p. run_more_past a e (at_open_bracket mid) mid p)

        bracket_past : (a : TypeT) (ts : List Tok) → Gone ts → PastGot (r.level 10 ts >>= λ e. close_bracket e.1 >>= λ mid. run_more r a e.0 mid (at_open_bracket mid))
        bracket_past a ts g = bind_past more more' Beyond Beyond (r.level 10 ts) (λ e. close_bracket e.1 >>= λ mid. run_more r a e.0 mid (at_open_bracket mid)) ((all.level 10).short ts g) (λ x p. sized_past a x p)

        bracket_same : (a : TypeT) (ts ts' : List Tok) → Agree ts ts'
            → SameGot (r.level 10 ts >>= λ e. close_bracket e.1 >>= λ mid. run_more r a e.0 mid (at_open_bracket mid)) (r'.level 10 ts' >>= λ e. close_bracket e.1 >>= λ mid. run_more r' a e.0 mid (at_open_bracket mid))
        bracket_same a ts ts' g = bind_got more more' Alike Beyond ((all.level 10).same ts ts' g) (λ e. close_bracket e.1 >>= λ mid. run_more r a e.0 mid (at_open_bracket mid)) (λ e. close_bracket e.1 >>= λ mid. run_more r' a e.0 mid (at_open_bracket mid))
            (λ e us us' w. sized_same a e us us' w) (λ x p. sized_past a x p)

        run_past : (room : ℕ) (a : TypeT) (ts : List Tok) → Gone ts → PastGot (run_with r room a ts)
        run_past room a ts g = above_past more more' Beyond (type_depth a) room ts _ g (bracket_past a (behind ts) (behind_gone more more' ts g))

        run_same : (room : ℕ) (a : TypeT) {ts ts' : List Tok} → Agree ts ts' → SameGot (run_with r room a ts) (run_with r' room a ts')
        run_same room a (last {o = o}) = above_same more more' Alike Beyond (type_depth a) room (o ∷ more) (o ∷ more') _ _ last (past (bracket_past a more (omega arith)))
        run_same room a (next {o = o} {ts = ts} {ts' = ts'} w) = above_same more more' Alike Beyond (type_depth a) room (o ∷ ts) (o ∷ ts') _ _ (next w) (bracket_same a ts ts' w)

        -- stars and brackets behind a type
        type_mark_short : (room : ℕ) (a : TypeT) (m : TypeMark) (ts : List Tok) → Gone ts → Past TurnShort (type_mark_by r room a ts m)
        type_mark_short room a type_mark.Star ts g = above_past more more' TurnShort (type_depth a) room ts _ g (behind_gone more more' ts g)
        type_mark_short room a type_mark.Bracket ts g = bind_past more more' Beyond TurnShort (run_with r room a ts) (λ b. Ok (Some b)) (run_past room a ts g) (λ x p. p)
        type_mark_short room a type_mark.Nothing ts g = tt

        type_mark_last : (room : ℕ) (a : TypeT) (m : TypeMark) (o : Tok) → Same TurnAlike TurnBeyond (type_mark_by r room a (o ∷ more) m) (type_mark_by r' room a (o ∷ more') m)
        type_mark_last room a type_mark.Star o = above_same more more' TurnAlike TurnBeyond (type_depth a) room (o ∷ more) (o ∷ more') _ _ last (past (omega arith))
        type_mark_last room a type_mark.Bracket o = bind_got more more' TurnAlike TurnBeyond (run_same room a (last {o = o})) (λ b. Ok (Some b)) (λ b. Ok (Some b)) (λ x us us' w. read (refl, w)) (λ x p. p)
        type_mark_last room a type_mark.Nothing o = read tt

        type_mark_next : (room : ℕ) (a : TypeT) (m : TypeMark) (o : Tok) (ts ts' : List Tok) → Agree ts ts' → Same TurnAlike TurnBeyond (type_mark_by r room a (o ∷ ts) m) (type_mark_by r' room a (o ∷ ts') m)
        type_mark_next room a type_mark.Star o ts ts' w = above_same more more' TurnAlike TurnBeyond (type_depth a) room (o ∷ ts) (o ∷ ts') _ _ (next w) (read (refl, w))
        type_mark_next room a type_mark.Bracket o ts ts' w = bind_got more more' TurnAlike TurnBeyond (run_same room a (next {o = o} w)) (λ b. Ok (Some b)) (λ b. Ok (Some b)) (λ x us us' v. read (refl, v)) (λ x p. p)
        type_mark_next room a type_mark.Nothing o ts ts' w = read tt

        type_mark_same : (room : ℕ) (a : TypeT) {ts ts' : List Tok} → Agree ts ts' → Same TurnAlike TurnBeyond (type_mark_turn r room a ts) (type_mark_turn r' room a ts')
        type_mark_same room a (last {o = o}) = type_mark_last room a (type_mark_of o) o
        type_mark_same room a (next {o = o} {ts = ts} {ts' = ts'} w) = type_mark_next room a (type_mark_of o) o ts ts' w

        pub type_marks : (room : ℕ) → LocalTurn (type_mark_turn r room) (type_mark_turn r' room)
        type_marks room = record { short = λ a ts g. type_mark_short room a (type_mark_at ts) ts g; same = λ a ts ts' w. type_mark_same room a w }

        marked_past : (room : ℕ) (x : Got TypeT) → Beyond x → PastGot (loop (type_mark_turn r room) x.0 x.1)
        marked_past room x g = loop_past more more' (type_mark_turn r room) (type_marks room).short x.0 x.1 g

        type_is_local : (room : ℕ) → Local (type_with (one types) r room) (type_with (other types) r' room)
        type_is_local room = record {
          short = λ ts g. bind_past more more' Beyond Beyond (base (one types) ts) (λ a. loop (type_mark_turn r room) a.0 a.1) (base_short (type_at (one types) ts) ts g) (marked_past room);
          same = λ ts ts' w. bind_got more more' Alike Beyond (base_same w) (λ a. loop (type_mark_turn r room) a.0 a.1) (λ a. loop (type_mark_turn r' room) a.0 a.1)
              (λ a us us' v. loop_same more more' (type_mark_turn r room) (type_mark_turn r' room) (type_marks room) (all.types_take room) a us us' v) (marked_past room);
        }

        run_is_local : (room : ℕ) (a : TypeT) → Local (run_with r room a) (run_with r' room a)
        run_is_local room a = record { short = λ ts g. run_past room a ts g; same = λ ts ts' w. run_same room a w }

        -- expressions parted by commas
        exprs_short : (es : List ExprT) (b : Bool) (ts : List Tok) → Gone ts → Past TurnShort (exprs_by r es ts b)
        exprs_short es false ts g = tt
        exprs_short es true ts g = bind_past more more' Beyond TurnShort (r.whole (behind ts)) (λ e. Ok (Some (es ++ e.0 ∷ [], e.1))) (all.whole.short (behind ts) (behind_gone more more' ts g)) (λ x p. p)

        exprs_last : (es : List ExprT) (b : Bool) (o : Tok) → Same TurnAlike TurnBeyond (exprs_by r es (o ∷ more) b) (exprs_by r' es (o ∷ more') b)
        exprs_last es false o = read tt
        exprs_last es true o = past (bind_past more more' Beyond TurnBeyond (r.whole more) (λ e. Ok (Some (es ++ e.0 ∷ [], e.1))) (all.whole.short more (omega arith)) (λ x p. p))

        exprs_next : (es : List ExprT) (b : Bool) (o : Tok) (ts ts' : List Tok) → Agree ts ts' → Same TurnAlike TurnBeyond (exprs_by r es (o ∷ ts) b) (exprs_by r' es (o ∷ ts') b)
        exprs_next es false o ts ts' w = read tt
        exprs_next es true o ts ts' w = bind_got more more' TurnAlike TurnBeyond (all.whole.same ts ts' w) (λ e. Ok (Some (es ++ e.0 ∷ [], e.1))) (λ e. Ok (Some (es ++ e.0 ∷ [], e.1))) (λ e us us' v. read (refl, v)) (λ x p. p)

        exprs_turn_same : (es : List ExprT) {ts ts' : List Tok} → Agree ts ts' → Same TurnAlike TurnBeyond (exprs_turn r es ts) (exprs_turn r' es ts')
        exprs_turn_same es (last {o = o}) = exprs_last es (is_comma o) o
        exprs_turn_same es (next {o = o} {ts = ts} {ts' = ts'} w) = exprs_next es (is_comma o) o ts ts' w

        exprs_turns : LocalTurn (exprs_turn r) (exprs_turn r')
        exprs_turns = record { short = λ es ts g. exprs_short es (at_comma ts) ts g; same = λ es ts ts' w. exprs_turn_same es w }

        more_exprs_past : (x : Got ExprT) → Beyond x → PastGot (loop (exprs_turn r) (x.0 ∷ []) x.1)
        more_exprs_past x g = loop_past more more' (exprs_turn r) exprs_turns.short (x.0 ∷ []) x.1 g

        exprs_past : (ts : List Tok) → Gone ts → PastGot (exprs_with r ts)
        exprs_past ts g = bind_past more more' Beyond Beyond (r.whole ts) (λ e. loop (exprs_turn r) (e.0 ∷ []) e.1) (all.whole.short ts g) more_exprs_past

        exprs_same : {ts ts' : List Tok} → Agree ts ts' → SameGot (exprs_with r ts) (exprs_with r' ts')
        exprs_same {ts = ts} {ts' = ts'} w = bind_got more more' Alike Beyond (all.whole.same ts ts' w) (λ e. loop (exprs_turn r) (e.0 ∷ []) e.1) (λ e. loop (exprs_turn r') (e.0 ∷ []) e.1)
            (λ e us us' v. loop_same more more' (exprs_turn r) (exprs_turn r') exprs_turns all.exprs_take (e ∷ []) us us' v) more_exprs_past

        -- a call's arguments
        arguments_past : (b : Bool) (ts : List Tok) → Gone ts → PastGot (arguments_by r ts b)
        arguments_past true ts g = behind_gone more more' ts g
        arguments_past false ts g = bind_past more more' Beyond Beyond (exprs_with r ts) (λ es. close_paren es.1 >>= λ rest. Ok (es.0, rest)) (exprs_past ts g) (closed_past more more')

        some_arguments : {ts ts' : List Tok} → Agree ts ts' → SameGot (arguments_by r ts false) (arguments_by r' ts' false)
        some_arguments w = bind_got more more' Alike Beyond (exprs_same w) (λ es. close_paren es.1 >>= λ rest. Ok (es.0, rest)) (λ es. close_paren es.1 >>= λ rest. Ok (es.0, rest)) (λ es us us' v. closed_same more more' es us us' v) (closed_past more more')

        arguments_last : (b : Bool) (o : Tok) → SameGot (arguments_by r (o ∷ more) b) (arguments_by r' (o ∷ more') b)
        arguments_last true o = past (omega arith)
        arguments_last false o = some_arguments last

        arguments_next : (b : Bool) (o : Tok) (ts ts' : List Tok) → Agree ts ts' → SameGot (arguments_by r (o ∷ ts) b) (arguments_by r' (o ∷ ts') b)
        arguments_next true o ts ts' w = read (refl, w)
        arguments_next false o ts ts' w = some_arguments (next {o = o} w)

        arguments_same : {ts ts' : List Tok} → Agree ts ts' → SameGot (arguments_with r ts) (arguments_with r' ts')
        arguments_same (last {o = o}) = arguments_last (is_close_paren o) o
        arguments_same (next {o = o} {ts = ts} {ts' = ts'} w) = arguments_next (is_close_paren o) o ts ts' w

        -- names and calls
        call_past : (ts : List Tok) → Gone (behind (behind ts)) → PastGot (named_by (one types) r ts true)
        call_past ts g = bind_past more more' Beyond Beyond (arguments_with r (behind (behind ts))) (λ es. Ok (CallE (bytes_at ts) (exprs es.0) (span (one types) ts es.1), es.1))
            (arguments_past (at_close_paren (behind (behind ts))) (behind (behind ts)) g) (λ x p. p)

        named_past : (b : Bool) (ts : List Tok) → Gone (behind ts) → PastGot (named_by (one types) r ts b)
        named_past false ts g = g
        named_past true ts g = call_past ts (behind_gone more more' (behind ts) g)

        call_same : (o : Tok) (us us' : List Tok) → Agree us us' → SameGot (named_by (one types) r (o ∷ us) true) (named_by (other types) r' (o ∷ us') true)
        call_same o _ _ (last {o = p}) = past (call_past (o ∷ p ∷ more) (omega arith))
        call_same o _ _ (next {o = p} {ts = us} {ts' = us'} w) = bind_got more more' Alike Beyond (arguments_same w) (λ es. Ok (CallE (bytes_at (o ∷ p ∷ us)) (exprs es.0) (span (one types) (o ∷ p ∷ us) es.1), es.1))
            (λ es. Ok (CallE (bytes_at (o ∷ p ∷ us')) (exprs es.0) (span (other types) (o ∷ p ∷ us') es.1), es.1))
            (λ es vs vs' v. read (rw (bytes_same more more' o (p ∷ us) (p ∷ us'), span_same types (next {o = o} (next {o = p} w)) v) refl, v)) (λ x p. p)

        named_same : (b : Bool) (o : Tok) (us us' : List Tok) → Agree us us' → SameGot (named_by (one types) r (o ∷ us) b) (named_by (other types) r' (o ∷ us') b)
        named_same false o us us' w = read (rw (bytes_same more more' o us us', span_same types (next {o = o} w) w) refl, w)
        named_same true o us us' w = call_same o us us' w

        -- an expression in parentheses, from behind the opening one
        paren_past : (at : List Tok) (x : Got ExprT) → Beyond x → PastGot (close_paren x.1 >>= λ rest. Ok (ParenE x.0 (span (one types) at rest), rest))
        paren_past at x g = bind_past more more' Gone Beyond (close_paren x.1) (λ rest. Ok (ParenE x.0 (span (one types) at rest), rest)) (must_past more more' (at_close_paren x.1) x.1 g) (λ ts p. p)

        paren_same : {at at' : List Tok} → Agree at at' → (e : ExprT) (ts ts' : List Tok) → Agree ts ts'
            → SameGot (close_paren ts >>= λ rest. Ok (ParenE e (span (one types) at rest), rest)) (close_paren ts' >>= λ rest. Ok (ParenE e (span (other types) at' rest), rest))
        paren_same {at = at} {at' = at'} a e ts ts' w = bind_tokens more more' Alike Beyond (close_paren_same more more' w) (λ rest. Ok (ParenE e (span (one types) at rest), rest)) (λ rest. Ok (ParenE e (span (other types) at' rest), rest))
            (λ us us' v. read (rw (span_same types a v) refl, v)) (λ us p. p)

        primary_past : (l : Lead) (ts : List Tok) → Gone (behind ts) → Gone ts ⊎ ((l ≡ lead.Other) → ⊥) → PastGot (primary_by (one types) r ts l)
        primary_past lead.Name ts g h = named_past (at_open_paren (behind ts)) ts g
        primary_past (lead.Value n) ts g h = g
        primary_past lead.Text ts g h = g
        primary_past lead.Null ts g h = g
        primary_past lead.Paren ts g h = bind_past more more' Beyond Beyond (r.whole (behind ts)) (λ e. close_paren e.1 >>= λ rest. Ok (ParenE e.0 (span (one types) ts rest), rest)) (all.whole.short (behind ts) g) (λ x p. paren_past ts x p)
        primary_past lead.Other ts g (inl all_gone) = all_gone
        primary_past lead.Other ts g (inr never) = absurd (never refl)

        primary_last : (l : Lead) (o : Tok) → SameGot (primary_by (one types) r (o ∷ more) l) (primary_by (other types) r' (o ∷ more') l)
        primary_last lead.Other o = syntax {ts = o ∷ more} {ts' = o ∷ more'} last
        primary_last lead.Name o = past (primary_past lead.Name (o ∷ more) (omega arith) (inr (λ e. absurd cc)))
        primary_last (lead.Value n) o = past (omega arith)
        primary_last lead.Text o = past (omega arith)
        primary_last lead.Null o = past (omega arith)
        primary_last lead.Paren o = past (primary_past lead.Paren (o ∷ more) (omega arith) (inr (λ e. absurd cc)))

        primary_next : (l : Lead) (o : Tok) (ts ts' : List Tok) → Agree ts ts' → SameGot (primary_by (one types) r (o ∷ ts) l) (primary_by (other types) r' (o ∷ ts') l)
        primary_next lead.Name o ts ts' w = rw (at_open_paren_same more more' w) (named_same (at_open_paren ts') o ts ts' w)
        primary_next (lead.Value n) o ts ts' w = read (rw (span_same types (next {o = o} w) w) refl, w)
        primary_next lead.Text o ts ts' w = read (rw (bytes_same more more' o ts ts', span_same types (next {o = o} w) w) refl, w)
        primary_next lead.Null o ts ts' w = read (rw (span_same types (next {o = o} w) w) refl, w)
        primary_next lead.Paren o ts ts' w = bind_got more more' Alike Beyond (all.whole.same ts ts' w) (λ e. close_paren e.1 >>= λ rest. Ok (ParenE e.0 (span (one types) (o ∷ ts) rest), rest))
            (λ e. close_paren e.1 >>= λ rest. Ok (ParenE e.0 (span (other types) (o ∷ ts') rest), rest)) (λ e us us' v. paren_same (next {o = o} w) e us us' v) (λ x p. paren_past (o ∷ ts) x p)
        primary_next lead.Other o ts ts' w = syntax {ts = o ∷ ts} {ts' = o ∷ ts'} (next w)

        primary_same : {ts ts' : List Tok} → Agree ts ts' → SameGot (primary_with (one types) r ts) (primary_with (other types) r' ts')
        primary_same (last {o = o}) = rw (lead_of_same o) (primary_last (lead_of (other types) o) o)
        primary_same (next {o = o} {ts = ts} {ts' = ts'} w) = rw (lead_of_same o) (primary_next (lead_of (other types) o) o ts ts' w)

        -- what stands behind an expression that begins at the tokens at
        indexed_past : (at : List Tok) (a : ExprT) (x : Got ExprT) → Beyond x → PastGot (close_bracket x.1 >>= λ rest. Ok (IndexE a x.0 (span (one types) at rest), rest))
        indexed_past at a x g = bind_past more more' Gone Beyond (close_bracket x.1) (λ rest. Ok (IndexE a x.0 (span (one types) at rest), rest)) (must_past more more' (at_close_bracket x.1) x.1 g) (λ ts p. p)

        indexed_same : {at at' : List Tok} → Agree at at' → (a e : ExprT) (ts ts' : List Tok) → Agree ts ts'
            → SameGot (close_bracket ts >>= λ rest. Ok (IndexE a e (span (one types) at rest), rest)) (close_bracket ts' >>= λ rest. Ok (IndexE a e (span (other types) at' rest), rest))
        indexed_same {at = at} {at' = at'} b a e ts ts' w = bind_tokens more more' Alike Beyond (close_bracket_same more more' w) (λ rest. Ok (IndexE a e (span (one types) at rest), rest)) (λ rest. Ok (IndexE a e (span (other types) at' rest), rest))
            (λ us us' v. read (rw (span_same types b v) refl, v)) (λ us p. p)

        suffix_past : (at : List Tok) (a : ExprT) (m : Suffix) (ts : List Tok) → Gone (behind ts) → Gone ts ⊎ ((m ≡ suffix.Nothing) → ⊥) → PastGot (suffix_by (one types) r at a ts m)
        suffix_past at a suffix.Index ts g h = bind_past more more' Beyond Beyond (r.whole (behind ts)) (λ i. close_bracket i.1 >>= λ rest. Ok (IndexE a i.0 (span (one types) at rest), rest)) (all.whole.short (behind ts) g) (λ x p. indexed_past at a x p)
        suffix_past at a suffix.Member ts g h = bind_past more more' Beyond Beyond (name (one types) (behind ts)) (λ n. Ok (MemberE a n.0 (span (one types) at n.1), n.1)) (name_past types (behind ts) g) (λ x p. p)
        suffix_past at a suffix.Arrow ts g h = bind_past more more' Beyond Beyond (name (one types) (behind ts)) (λ n. Ok (ArrowE a n.0 (span (one types) at n.1), n.1)) (name_past types (behind ts) g) (λ x p. p)
        suffix_past at a (suffix.Step op) ts g h = g
        suffix_past at a suffix.Nothing ts g (inl all_gone) = all_gone
        suffix_past at a suffix.Nothing ts g (inr never) = absurd (never refl)

        suffix_last : (at at' : List Tok) (a : ExprT) (m : Suffix) (o : Tok) → SameGot (suffix_by (one types) r at a (o ∷ more) m) (suffix_by (other types) r' at' a (o ∷ more') m)
        suffix_last at at' a suffix.Nothing o = syntax {ts = o ∷ more} {ts' = o ∷ more'} last
        suffix_last at at' a suffix.Index o = past (suffix_past at a suffix.Index (o ∷ more) (omega arith) (inr (λ e. absurd cc)))
        suffix_last at at' a suffix.Member o = past (suffix_past at a suffix.Member (o ∷ more) (omega arith) (inr (λ e. absurd cc)))
        suffix_last at at' a suffix.Arrow o = past (suffix_past at a suffix.Arrow (o ∷ more) (omega arith) (inr (λ e. absurd cc)))
        suffix_last at at' a (suffix.Step op) o = past (omega arith)

        suffix_next : {at at' : List Tok} → Agree at at' → (a : ExprT) (m : Suffix) (o : Tok) (ts ts' : List Tok) → Agree ts ts' → SameGot (suffix_by (one types) r at a (o ∷ ts) m) (suffix_by (other types) r' at' a (o ∷ ts') m)
        suffix_next {at = at} {at' = at'} b a suffix.Index o ts ts' w = bind_got more more' Alike Beyond (all.whole.same ts ts' w) (λ i. close_bracket i.1 >>= λ rest. Ok (IndexE a i.0 (span (one types) at rest), rest))
            (λ i. close_bracket i.1 >>= λ rest. Ok (IndexE a i.0 (span (other types) at' rest), rest)) (λ e us us' v. indexed_same b a e us us' v) (λ x p. indexed_past at a x p)
        suffix_next {at = at} {at' = at'} b a suffix.Member o ts ts' w = bind_got more more' Alike Beyond (name_same types w) (λ n. Ok (MemberE a n.0 (span (one types) at n.1), n.1)) (λ n. Ok (MemberE a n.0 (span (other types) at' n.1), n.1))
            (λ n us us' v. read (rw (span_same types b v) refl, v)) (λ x p. p)
        suffix_next {at = at} {at' = at'} b a suffix.Arrow o ts ts' w = bind_got more more' Alike Beyond (name_same types w) (λ n. Ok (ArrowE a n.0 (span (one types) at n.1), n.1)) (λ n. Ok (ArrowE a n.0 (span (other types) at' n.1), n.1))
            (λ n us us' v. read (rw (span_same types b v) refl, v)) (λ x p. p)
        suffix_next b a (suffix.Step op) o ts ts' w = read (rw (span_same types b w) refl, w)
        suffix_next b a suffix.Nothing o ts ts' w = syntax {ts = o ∷ ts} {ts' = o ∷ ts'} (next w)

        suffix_turn_short : (room : ℕ) (at : List Tok) (a : ExprT) (b : Bool) (ts : List Tok) → Gone ts → Past TurnShort (suffix_turn_by (one types) r room at a ts b)
        suffix_turn_short room at a false ts g = tt
        suffix_turn_short room at a true ts g = above_past more more' TurnShort (expr_depth a) room ts _ g
            (bind_past more more' Beyond TurnShort (suffix_by (one types) r at a ts (suffix_at ts)) (λ x. Ok (Some x)) (suffix_past at a (suffix_at ts) ts (behind_gone more more' ts g) (inl g)) (λ x p. p))

        suffix_turn_last : (room : ℕ) (at at' : List Tok) (a : ExprT) (b : Bool) (o : Tok) → Same TurnAlike TurnBeyond (suffix_turn_by (one types) r room at a (o ∷ more) b) (suffix_turn_by (other types) r' room at' a (o ∷ more') b)
        suffix_turn_last room at at' a false o = read tt
        suffix_turn_last room at at' a true o = above_same more more' TurnAlike TurnBeyond (expr_depth a) room (o ∷ more) (o ∷ more') _ _ last
            (bind_got more more' TurnAlike TurnBeyond (suffix_last at at' a (suffix_of o) o) (λ x. Ok (Some x)) (λ x. Ok (Some x)) (λ x us us' v. read (refl, v)) (λ x p. p))

        suffix_turn_next : (room : ℕ) {at at' : List Tok} → Agree at at' → (a : ExprT) (b : Bool) (o : Tok) (ts ts' : List Tok) → Agree ts ts'
            → Same TurnAlike TurnBeyond (suffix_turn_by (one types) r room at a (o ∷ ts) b) (suffix_turn_by (other types) r' room at' a (o ∷ ts') b)
        suffix_turn_next room w a false o ts ts' v = read tt
        suffix_turn_next room w a true o ts ts' v = above_same more more' TurnAlike TurnBeyond (expr_depth a) room (o ∷ ts) (o ∷ ts') _ _ (next v)
            (bind_got more more' TurnAlike TurnBeyond (suffix_next w a (suffix_of o) o ts ts' v) (λ x. Ok (Some x)) (λ x. Ok (Some x)) (λ x us us' u. read (refl, u)) (λ x p. p))

        suffix_turn_same : (room : ℕ) {at at' : List Tok} → Agree at at' → (a : ExprT) {ts ts' : List Tok} → Agree ts ts' → Same TurnAlike TurnBeyond (suffix_turn (one types) r room at a ts) (suffix_turn (other types) r' room at' a ts')
        suffix_turn_same room {at = at} {at' = at'} w a (last {o = o}) = suffix_turn_last room at at' a (is_some_suffix (suffix_of o)) o
        suffix_turn_same room w a (next {o = o} {ts = ts} {ts' = ts'} v) = suffix_turn_next room w a (is_some_suffix (suffix_of o)) o ts ts' v

        suffix_turns : (room : ℕ) {at at' : List Tok} → Agree at at' → LocalTurn (suffix_turn (one types) r room at) (suffix_turn (other types) r' room at')
        suffix_turns room {at = at} w = record { short = λ a ts g. suffix_turn_short room at a (is_some_suffix (suffix_at ts)) ts g; same = λ a ts ts' v. suffix_turn_same room w a v }

        suffixed_past : (room : ℕ) (at : List Tok) (x : Got ExprT) → Beyond x → PastGot (loop (suffix_turn (one types) r room at) x.0 x.1)
        suffixed_past room at x g = loop_past more more' (suffix_turn (one types) r room at) (λ a ts h. suffix_turn_short room at a (is_some_suffix (suffix_at ts)) ts h) x.0 x.1 g

        postfix_short : (room : ℕ) (ts : List Tok) → Gone ts → PastGot (postfix_with (one types) r room ts)
        postfix_short room ts g = bind_past more more' Beyond Beyond (primary_with (one types) r ts) (λ a. loop (suffix_turn (one types) r room ts) a.0 a.1) (primary_past (lead_at (one types) ts) ts (behind_gone more more' ts g) (inl g)) (suffixed_past room ts)

        postfix_same : (room : ℕ) {ts ts' : List Tok} → Agree ts ts' → SameGot (postfix_with (one types) r room ts) (postfix_with (other types) r' room ts')
        postfix_same room {ts = ts} {ts' = ts'} w = bind_got more more' Alike Beyond (primary_same w) (λ a. loop (suffix_turn (one types) r room ts) a.0 a.1) (λ a. loop (suffix_turn (other types) r' room ts') a.0 a.1)
            (λ a us us' v. loop_same more more' (suffix_turn (one types) r room ts) (suffix_turn (other types) r' room ts') (suffix_turns room w) (all.suffixes_take room ts) a us us' v) (suffixed_past room ts)

        -- operators before their operand, casts and sizes
        operand_past : (at : List Tok) (op : UnOp) (ts : List Tok) → Gone ts → PastGot (r.level zero ts >>= λ a. Ok (UnaryE op a.0 (span (one types) at a.1), a.1))
        operand_past at op ts g = bind_past more more' Beyond Beyond (r.level zero ts) (λ a. Ok (UnaryE op a.0 (span (one types) at a.1), a.1)) ((all.level zero).short ts g) (λ x p. p)

        operand_same : {at at' : List Tok} → Agree at at' → (op : UnOp) (ts ts' : List Tok) → Agree ts ts'
            → SameGot (r.level zero ts >>= λ a. Ok (UnaryE op a.0 (span (one types) at a.1), a.1)) (r'.level zero ts' >>= λ a. Ok (UnaryE op a.0 (span (other types) at' a.1), a.1))
        operand_same {at = at} {at' = at'} b op ts ts' w = bind_got more more' Alike Beyond ((all.level zero).same ts ts' w) (λ a. Ok (UnaryE op a.0 (span (one types) at a.1), a.1)) (λ a. Ok (UnaryE op a.0 (span (other types) at' a.1), a.1))
            (λ a us us' v. read (rw (span_same types b v) refl, v)) (λ x p. p)

        stepped_past : (at : List Tok) (op : StepOp) (ts : List Tok) → Gone ts → PastGot (r.level zero ts >>= λ a. Ok (StepE op a.0 (span (one types) at a.1), a.1))
        stepped_past at op ts g = bind_past more more' Beyond Beyond (r.level zero ts) (λ a. Ok (StepE op a.0 (span (one types) at a.1), a.1)) ((all.level zero).short ts g) (λ x p. p)

        stepped_same : {at at' : List Tok} → Agree at at' → (op : StepOp) (ts ts' : List Tok) → Agree ts ts'
            → SameGot (r.level zero ts >>= λ a. Ok (StepE op a.0 (span (one types) at a.1), a.1)) (r'.level zero ts' >>= λ a. Ok (StepE op a.0 (span (other types) at' a.1), a.1))
        stepped_same {at = at} {at' = at'} b op ts ts' w = bind_got more more' Alike Beyond ((all.level zero).same ts ts' w) (λ a. Ok (StepE op a.0 (span (one types) at a.1), a.1)) (λ a. Ok (StepE op a.0 (span (other types) at' a.1), a.1))
            (λ a us us' v. read (rw (span_same types b v) refl, v)) (λ x p. p)

        cast_operand_past : (at : List Tok) (y : TypeT) (ts : List Tok) → Gone ts → PastGot (r.level zero ts >>= λ a. Ok (CastE y a.0 (span (one types) at a.1), a.1))
        cast_operand_past at y ts g = bind_past more more' Beyond Beyond (r.level zero ts) (λ a. Ok (CastE y a.0 (span (one types) at a.1), a.1)) ((all.level zero).short ts g) (λ x p. p)

        cast_operand_same : {at at' : List Tok} → Agree at at' → (y : TypeT) (ts ts' : List Tok) → Agree ts ts'
            → SameGot (r.level zero ts >>= λ a. Ok (CastE y a.0 (span (one types) at a.1), a.1)) (r'.level zero ts' >>= λ a. Ok (CastE y a.0 (span (other types) at' a.1), a.1))
        cast_operand_same {at = at} {at' = at'} b y ts ts' w = bind_got more more' Alike Beyond ((all.level zero).same ts ts' w) (λ a. Ok (CastE y a.0 (span (one types) at a.1), a.1)) (λ a. Ok (CastE y a.0 (span (other types) at' a.1), a.1))
            (λ a us us' v. read (rw (span_same types b v) refl, v)) (λ x p. p)

        cast_closed_past : (at : List Tok) (y : Got TypeT) → Beyond y → PastGot (close_paren y.1 >>= λ mid. r.level zero mid >>= λ a. Ok (CastE y.0 a.0 (span (one types) at a.1), a.1))
        cast_closed_past at y g = bind_past more more' Gone Beyond (close_paren y.1) (λ mid. r.level zero mid >>= λ a. Ok (CastE y.0 a.0 (span (one types) at a.1), a.1)) (must_past more more' (at_close_paren y.1) y.1 g) (cast_operand_past at y.0)

        cast_closed_same : {at at' : List Tok} → Agree at at' → (y : TypeT) (ts ts' : List Tok) → Agree ts ts'
            → SameGot (close_paren ts >>= λ mid. r.level zero mid >>= λ a. Ok (CastE y a.0 (span (one types) at a.1), a.1)) (close_paren ts' >>= λ mid. r'.level zero mid >>= λ a. Ok (CastE y a.0 (span (other types) at' a.1), a.1))
        cast_closed_same {at = at} {at' = at'} b y ts ts' w = bind_tokens more more' Alike Beyond (close_paren_same more more' w) (λ mid. r.level zero mid >>= λ a. Ok (CastE y a.0 (span (one types) at a.1), a.1))
            (λ mid. r'.level zero mid >>= λ a. Ok (CastE y a.0 (span (other types) at' a.1), a.1)) (cast_operand_same b y) (cast_operand_past at y)

        cast_past : (at ts : List Tok) → Gone ts → PastGot (r.type ts >>= λ y. close_paren y.1 >>= λ mid. r.level zero mid >>= λ a. Ok (CastE y.0 a.0 (span (one types) at a.1), a.1))
        cast_past at ts g = bind_past more more' Beyond Beyond (r.type ts) (λ y. close_paren y.1 >>= λ mid. r.level zero mid >>= λ a. Ok (CastE y.0 a.0 (span (one types) at a.1), a.1)) (all.type.short ts g) (cast_closed_past at)

        cast_same : {at at' : List Tok} → Agree at at' → (ts ts' : List Tok) → Agree ts ts' → SameGot (r.type ts >>= λ y. close_paren y.1 >>= λ mid. r.level zero mid >>= λ a. Ok (CastE y.0 a.0 (span (one types) at a.1), a.1))
            (r'.type ts' >>= λ y. close_paren y.1 >>= λ mid. r'.level zero mid >>= λ a. Ok (CastE y.0 a.0 (span (other types) at' a.1), a.1))
        cast_same {at = at} {at' = at'} b ts ts' w = bind_got more more' Alike Beyond (all.type.same ts ts' w) (λ y. close_paren y.1 >>= λ mid. r.level zero mid >>= λ a. Ok (CastE y.0 a.0 (span (one types) at a.1), a.1))
            (λ y. close_paren y.1 >>= λ mid. r'.level zero mid >>= λ a. Ok (CastE y.0 a.0 (span (other types) at' a.1), a.1)) (cast_closed_same b) (cast_closed_past at)

        size_closed_past : (at : List Tok) (y : Got TypeT) → Beyond y → PastGot (close_paren y.1 >>= λ rest. Ok (SizeOfE y.0 (span (one types) at rest), rest))
        size_closed_past at y g = bind_past more more' Gone Beyond (close_paren y.1) (λ rest. Ok (SizeOfE y.0 (span (one types) at rest), rest)) (must_past more more' (at_close_paren y.1) y.1 g) (λ ts p. p)

        size_closed_same : {at at' : List Tok} → Agree at at' → (y : TypeT) (ts ts' : List Tok) → Agree ts ts'
            → SameGot (close_paren ts >>= λ rest. Ok (SizeOfE y (span (one types) at rest), rest)) (close_paren ts' >>= λ rest. Ok (SizeOfE y (span (other types) at' rest), rest))
        size_closed_same {at = at} {at' = at'} b y ts ts' w = bind_tokens more more' Alike Beyond (close_paren_same more more' w) (λ rest. Ok (SizeOfE y (span (one types) at rest), rest)) (λ rest. Ok (SizeOfE y (span (other types) at' rest), rest))
            (λ us us' v. read (rw (span_same types b v) refl, v)) (λ us p. p)

        size_type_past : (at ts : List Tok) → Gone ts → PastGot (r.type ts >>= λ y. close_paren y.1 >>= λ rest. Ok (SizeOfE y.0 (span (one types) at rest), rest))
        size_type_past at ts g = bind_past more more' Beyond Beyond (r.type ts) (λ y. close_paren y.1 >>= λ rest. Ok (SizeOfE y.0 (span (one types) at rest), rest)) (all.type.short ts g) (size_closed_past at)

        size_type_same : {at at' : List Tok} → Agree at at' → (ts ts' : List Tok) → Agree ts ts' → SameGot (r.type ts >>= λ y. close_paren y.1 >>= λ rest. Ok (SizeOfE y.0 (span (one types) at rest), rest))
            (r'.type ts' >>= λ y. close_paren y.1 >>= λ rest. Ok (SizeOfE y.0 (span (other types) at' rest), rest))
        size_type_same {at = at} {at' = at'} b ts ts' w = bind_got more more' Alike Beyond (all.type.same ts ts' w) (λ y. close_paren y.1 >>= λ rest. Ok (SizeOfE y.0 (span (one types) at rest), rest))
            (λ y. close_paren y.1 >>= λ rest. Ok (SizeOfE y.0 (span (other types) at' rest), rest)) (size_closed_same b) (size_closed_past at)

        size_past : (at ts : List Tok) → Gone ts → PastGot (open_paren ts >>= λ mid. r.type mid >>= λ y. close_paren y.1 >>= λ rest. Ok (SizeOfE y.0 (span (one types) at rest), rest))
        size_past at ts g = bind_past more more' Gone Beyond (open_paren ts) (λ mid. r.type mid >>= λ y. close_paren y.1 >>= λ rest. Ok (SizeOfE y.0 (span (one types) at rest), rest)) (must_past more more' (at_open_paren ts) ts g) (size_type_past at)

        size_same : {at at' : List Tok} → Agree at at' → {ts ts' : List Tok} → Agree ts ts' → SameGot (open_paren ts >>= λ mid. r.type mid >>= λ y. close_paren y.1 >>= λ rest. Ok (SizeOfE y.0 (span (one types) at rest), rest))
            (open_paren ts' >>= λ mid. r'.type mid >>= λ y. close_paren y.1 >>= λ rest. Ok (SizeOfE y.0 (span (other types) at' rest), rest))
        size_same {at = at} {at' = at'} b w = bind_tokens more more' Alike Beyond (open_paren_same more more' w) (λ mid. r.type mid >>= λ y. close_paren y.1 >>= λ rest. Ok (SizeOfE y.0 (span (one types) at rest), rest))
            (λ mid. r'.type mid >>= λ y. close_paren y.1 >>= λ rest. Ok (SizeOfE y.0 (span (other types) at' rest), rest)) (size_type_same b) (size_type_past at)

        unary_short : (room : ℕ) (m : Start) (ts : List Tok) → Gone ts → PastGot (unary_by (one types) r room ts m)
        unary_short room (start.Operator op) ts g = operand_past ts op (behind ts) (behind_gone more more' ts g)
        unary_short room (start.Step op) ts g = stepped_past ts op (behind ts) (behind_gone more more' ts g)
        unary_short room start.Cast ts g = cast_past ts (behind ts) (behind_gone more more' ts g)
        unary_short room start.Size ts g = size_past ts (behind ts) (behind_gone more more' ts g)
        unary_short room start.Other ts g = postfix_short room ts g

        unary_next : (room : ℕ) (m : Start) (o : Tok) (ts ts' : List Tok) → Agree ts ts' → SameGot (unary_by (one types) r room (o ∷ ts) m) (unary_by (other types) r' room (o ∷ ts') m)
        unary_next room (start.Operator op) o ts ts' w = operand_same (next {o = o} w) op ts ts' w
        unary_next room (start.Step op) o ts ts' w = stepped_same (next {o = o} w) op ts ts' w
        unary_next room start.Cast o ts ts' w = cast_same (next {o = o} w) ts ts' w
        unary_next room start.Size o ts ts' w = size_same (next {o = o} w) w
        unary_next room start.Other o ts ts' w = postfix_same room (next {o = o} w)

        unary_one : (room : ℕ) (m : Start) (o : Tok) → SameGot (unary_by (one types) r room (o ∷ more) m) (unary_by (other types) r' room (o ∷ more') m)
        unary_one room (start.Operator op) o = past (operand_past (o ∷ more) op more (omega arith))
        unary_one room (start.Step op) o = past (stepped_past (o ∷ more) op more (omega arith))
        unary_one room start.Cast o = past (cast_past (o ∷ more) more (omega arith))
        unary_one room start.Size o = past (size_past (o ∷ more) more (omega arith))
        unary_one room start.Other o = postfix_same room (last {o = o})

        opened_past : (room : ℕ) (b : Bool) → PastGot (unary_by (one types) r room (mark m.OpenParen ∷ more) (cond b start.Cast start.Other))
        opened_past room true = cast_past (mark m.OpenParen ∷ more) more (omega arith)
        opened_past room false = bind_past more more' Beyond Beyond (primary_by (one types) r (mark m.OpenParen ∷ more) lead.Paren) (λ a. loop (suffix_turn (one types) r room (mark m.OpenParen ∷ more)) a.0 a.1)
            (primary_past lead.Paren (mark m.OpenParen ∷ more) (omega arith) (inr (λ e. absurd cc))) (suffixed_past room (mark m.OpenParen ∷ more))

        unary_last : (room : ℕ) (o : Tok) → (o ≡ mark m.OpenParen) ⊎ ((ts us : List Tok) → start_of (one types) o ts ≡ start_of (other types) o us)
            → SameGot (unary_with (one types) r room (o ∷ more)) (unary_with (other types) r' room (o ∷ more'))
        unary_last room o (inl e) = rw e (past (opened_past room (begins_type (one types) more)))
        unary_last room o (inr h) = rw (h more more') (unary_one room (start_of (other types) o more') o)

        unary_same : (room : ℕ) {ts ts' : List Tok} → Agree ts ts' → SameGot (unary_with (one types) r room ts) (unary_with (other types) r' room ts')
        unary_same room (last {o = o}) = unary_last room o (start_told o)
        unary_same room (next {o = o} {ts = ts} {ts' = ts'} w) = rw (start_next o w) (unary_next room (start_of (other types) o ts') o ts ts' w)

        -- operators between two operands
        right_past : (k : ℕ) (at : List Tok) (a : ExprT) (op : BinOp) (ts : List Tok) → Gone ts → Past TurnBeyond (r.level k ts >>= λ b. Ok (Some (BinaryE op a b.0 (span (one types) at b.1), b.1)))
        right_past k at a op ts g = bind_past more more' Beyond TurnBeyond (r.level k ts) (λ b. Ok (Some (BinaryE op a b.0 (span (one types) at b.1), b.1))) ((all.level k).short ts g) (λ x p. p)

        right_same : (k : ℕ) {at at' : List Tok} → Agree at at' → (a : ExprT) (op : BinOp) (ts ts' : List Tok) → Agree ts ts'
            → Same TurnAlike TurnBeyond (r.level k ts >>= λ b. Ok (Some (BinaryE op a b.0 (span (one types) at b.1), b.1))) (r'.level k ts' >>= λ b. Ok (Some (BinaryE op a b.0 (span (other types) at' b.1), b.1)))
        right_same k {at = at} {at' = at'} b a op ts ts' w = bind_got more more' TurnAlike TurnBeyond ((all.level k).same ts ts' w) (λ b. Ok (Some (BinaryE op a b.0 (span (one types) at b.1), b.1)))
            (λ b. Ok (Some (BinaryE op a b.0 (span (other types) at' b.1), b.1))) (λ e us us' v. read (rw (span_same types b v) refl, v)) (λ x p. p)

        operator_short : (room k : ℕ) (at : List Tok) (a : ExprT) (m : Option BinOp) (ts : List Tok) → Gone ts → Past TurnShort (operator_by (one types) r room k at a ts m)
        operator_short room k at a None ts g = tt
        operator_short room k at a (Some op) ts g = above_past more more' TurnShort (expr_depth a) room ts _ g (weaken_turn more more' _ (right_past k at a op (behind ts) (behind_gone more more' ts g)))

        operator_last : (room k : ℕ) (at at' : List Tok) (a : ExprT) (m : Option BinOp) (o : Tok) → Same TurnAlike TurnBeyond (operator_by (one types) r room k at a (o ∷ more) m) (operator_by (other types) r' room k at' a (o ∷ more') m)
        operator_last room k at at' a None o = read tt
        operator_last room k at at' a (Some op) o = above_same more more' TurnAlike TurnBeyond (expr_depth a) room (o ∷ more) (o ∷ more') _ _ last (past (right_past k at a op more (omega arith)))

        operator_next : (room k : ℕ) {at at' : List Tok} → Agree at at' → (a : ExprT) (m : Option BinOp) (o : Tok) (ts ts' : List Tok) → Agree ts ts'
            → Same TurnAlike TurnBeyond (operator_by (one types) r room k at a (o ∷ ts) m) (operator_by (other types) r' room k at' a (o ∷ ts') m)
        operator_next room k b a None o ts ts' w = read tt
        operator_next room k b a (Some op) o ts ts' w = above_same more more' TurnAlike TurnBeyond (expr_depth a) room (o ∷ ts) (o ∷ ts') _ _ (next w) (right_same k b a op ts ts' w)

        operator_turn_same : (room k : ℕ) {at at' : List Tok} → Agree at at' → (a : ExprT) {ts ts' : List Tok} → Agree ts ts' → Same TurnAlike TurnBeyond (operator_turn (one types) r room k at a ts) (operator_turn (other types) r' room k at' a ts')
        operator_turn_same room k {at = at} {at' = at'} b a (last {o = o}) = operator_last room k at at' a (operator_at (suc k) (o ∷ more)) o
        operator_turn_same room k b a (next {o = o} {ts = ts} {ts' = ts'} w) = operator_next room k b a (operator_at (suc k) (o ∷ ts)) o ts ts' w

        operator_turns : (room k : ℕ) {at at' : List Tok} → Agree at at' → LocalTurn (operator_turn (one types) r room k at) (operator_turn (other types) r' room k at')
        operator_turns room k {at = at} w = record { short = λ a ts g. operator_short room k at a (operator_at (suc k) ts) ts g; same = λ a ts ts' v. operator_turn_same room k w a v }

        operated_past : (room k : ℕ) (at : List Tok) (x : Got ExprT) → Beyond x → PastGot (loop (operator_turn (one types) r room k at) x.0 x.1)
        operated_past room k at x g = loop_past more more' (operator_turn (one types) r room k at) (λ a ts h. operator_short room k at a (operator_at (suc k) ts) ts h) x.0 x.1 g

        level_short : (room k : ℕ) (ts : List Tok) → Gone ts → PastGot (level_with (one types) r room k ts)
        unfolding level_with
        level_short room zero ts g = unary_short room (start_at (one types) ts) ts g
        level_short room (suc k) ts g = bind_past more more' Beyond Beyond (level_with (one types) r room k ts) (λ a. loop (operator_turn (one types) r room k ts) a.0 a.1) (level_short room k ts g) (operated_past room k ts)

        level_same : (room k : ℕ) {ts ts' : List Tok} → Agree ts ts' → SameGot (level_with (one types) r room k ts) (level_with (other types) r' room k ts')
        unfolding level_with
        level_same room zero w = unary_same room w
        level_same room (suc k) {ts = ts} {ts' = ts'} w = bind_got more more' Alike Beyond (level_same room k w) (λ a. loop (operator_turn (one types) r room k ts) a.0 a.1) (λ a. loop (operator_turn (other types) r' room k ts') a.0 a.1)
            (λ a us us' v. loop_same more more' (operator_turn (one types) r room k ts) (operator_turn (other types) r' room k ts') (operator_turns room k w) (all.operators_take room k ts) a us us' v) (operated_past room k ts)

        -- assignments
        assigned_past : (at : List Tok) (a : ExprT) (op : Option BinOp) (ts : List Tok) → Gone ts → PastGot (r.whole ts >>= λ b. Ok (AssignE op a b.0 (span (one types) at b.1), b.1))
        assigned_past at a op ts g = bind_past more more' Beyond Beyond (r.whole ts) (λ b. Ok (AssignE op a b.0 (span (one types) at b.1), b.1)) (all.whole.short ts g) (λ x p. p)

        assigned_same : {at at' : List Tok} → Agree at at' → (a : ExprT) (op : Option BinOp) (ts ts' : List Tok) → Agree ts ts'
            → SameGot (r.whole ts >>= λ b. Ok (AssignE op a b.0 (span (one types) at b.1), b.1)) (r'.whole ts' >>= λ b. Ok (AssignE op a b.0 (span (other types) at' b.1), b.1))
        assigned_same {at = at} {at' = at'} b a op ts ts' w = bind_got more more' Alike Beyond (all.whole.same ts ts' w) (λ b. Ok (AssignE op a b.0 (span (one types) at b.1), b.1)) (λ b. Ok (AssignE op a b.0 (span (other types) at' b.1), b.1))
            (λ e us us' v. read (rw (span_same types b v) refl, v)) (λ x p. p)

        assign_short : (room : ℕ) (at : List Tok) (a : ExprT) (m : Option (Option BinOp)) (ts : List Tok) → Gone ts → PastGot (assign_by (one types) r room at a ts m)
        assign_short room at a None ts g = g
        assign_short room at a (Some op) ts g = above_past more more' Beyond (expr_depth a) room ts _ g (assigned_past at a op (behind ts) (behind_gone more more' ts g))

        assign_last : (room : ℕ) (at at' : List Tok) (a : ExprT) (m : Option (Option BinOp)) (o : Tok) → SameGot (assign_by (one types) r room at a (o ∷ more) m) (assign_by (other types) r' room at' a (o ∷ more') m)
        assign_last room at at' a None o = read (refl, last)
        assign_last room at at' a (Some op) o = above_same more more' Alike Beyond (expr_depth a) room (o ∷ more) (o ∷ more') _ _ last (past (assigned_past at a op more (omega arith)))

        assign_next : (room : ℕ) {at at' : List Tok} → Agree at at' → (a : ExprT) (m : Option (Option BinOp)) (o : Tok) (ts ts' : List Tok) → Agree ts ts'
            → SameGot (assign_by (one types) r room at a (o ∷ ts) m) (assign_by (other types) r' room at' a (o ∷ ts') m)
        assign_next room b a None o ts ts' w = read (refl, next w)
        assign_next room b a (Some op) o ts ts' w = above_same more more' Alike Beyond (expr_depth a) room (o ∷ ts) (o ∷ ts') _ _ (next w) (assigned_same b a op ts ts' w)

        assign_same : (room : ℕ) {at at' : List Tok} → Agree at at' → (a : ExprT) (ts ts' : List Tok) → Agree ts ts'
            → SameGot (assign_by (one types) r room at a ts (assigner_behind a ts)) (assign_by (other types) r' room at' a ts' (assigner_behind a ts'))
        assign_same room {at = at} {at' = at'} b a _ _ (last {o = o}) = assign_last room at at' a (assigner_behind a (o ∷ more)) o
        assign_same room b a _ _ (next {o = o} {ts = ts} {ts' = ts'} w) = assign_next room b a (assigner_behind a (o ∷ ts)) o ts ts' w

        whole_is_local : (room : ℕ) → Local (whole_with (one types) r room) (whole_with (other types) r' room)
        whole_is_local room = record {
          short = λ ts g. bind_past more more' Beyond Beyond (level_with (one types) r room 10 ts) (λ a. assign_by (one types) r room ts a.0 a.1 (assigner_behind a.0 a.1)) (level_short room 10 ts g)
              (λ x p. assign_short room ts x.0 (assigner_behind x.0 x.1) x.1 p);
          same = λ ts ts' w. bind_got more more' Alike Beyond (level_same room 10 w) (λ a. assign_by (one types) r room ts a.0 a.1 (assigner_behind a.0 a.1)) (λ a. assign_by (other types) r' room ts' a.0 a.1 (assigner_behind a.0 a.1))
              (λ a us us' v. assign_same room w a us us' v) (λ x p. assign_short room ts x.0 (assigner_behind x.0 x.1) x.1 p);
        }

        level_is_local : (room k : ℕ) → Local (level_with (one types) r room k) (level_with (other types) r' room k)
        level_is_local room k = record { short = λ ts g. level_short room k ts g; same = λ ts ts' w. level_same room k w }

      -- each turn of the readers takes a token at least
      pub record TurnsTake : Type 0 where
        pub types_take : (n room : ℕ) → Takes (type_mark_turn (readers (one types) n) room)
        pub exprs_take : (n : ℕ) → Takes (exprs_turn (readers (one types) n))
        pub suffixes_take : (n room : ℕ) (at : List Tok) → Takes (suffix_turn (one types) (readers (one types) n) room at)
        pub operators_take : (n room k : ℕ) (at : List Tok) → Takes (operator_turn (one types) (readers (one types) n) room k at)

      begins_expr_local : {A : Type 0} → Local {A = A} (λ ts. no_room (begins_expr (one types) ts) ts) (λ ts. no_room (begins_expr (other types) ts) ts)
      begins_expr_local = room_local more more' (begins_expr (one types)) (begins_expr (other types)) (λ ts ts' w. begins_expr_same w)

      pub begins_type_local : {A : Type 0} → Local {A = A} (λ ts. no_room (begins_type (one types) ts) ts) (λ ts. no_room (begins_type (other types) ts) ts)
      begins_type_local = room_local more more' (begins_type (one types)) (begins_type (other types)) (λ ts ts' w. begins_type_same w)

      module _ (take : TurnsTake) where
        pub readers_are_local : (n : ℕ) → LocalReaders (readers (one types) n) (readers (other types) n)
        unfolding readers
        readers_are_local zero = record {
          level = λ k. begins_expr_local;
          whole = begins_expr_local;
          type = begins_type_local;
          run = λ a. record { short = λ ts g. g; same = λ ts ts' w. too_deep w };
          types_take = take.types_take zero;
          exprs_take = take.exprs_take zero;
          suffixes_take = take.suffixes_take zero;
          operators_take = take.operators_take zero;
        }
        readers_are_local (suc n) = record {
          level = λ k. level_is_local (readers (one types) n) (readers (other types) n) (readers_are_local n) (suc n) k;
          whole = whole_is_local (readers (one types) n) (readers (other types) n) (readers_are_local n) (suc n);
          type = type_is_local (readers (one types) n) (readers (other types) n) (readers_are_local n) (suc n);
          run = λ a. run_is_local (readers (one types) n) (readers (other types) n) (readers_are_local n) (suc n) a;
          types_take = take.types_take (suc n);
          exprs_take = take.exprs_take (suc n);
          suffixes_take = take.suffixes_take (suc n);
          operators_take = take.operators_take (suc n);
        }
