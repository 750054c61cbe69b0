-- What is read of items goes on, and what is at fault there can be completed; and so of units.
use Rattle.std.proofs.Common.{◌≡◌, ℕ, zero, suc, ◌+◌, ◌<◌, ◌≤◌, Bool, true, false, eqb, List, [], ◌∷◌, ◌++◌, length, Option, Some, Result, Ok, Err, refl, sym, ap, subst, ◌∙◌, append_assoc, arith, ◌⊎◌, inl, inr}
use Rattle.std.specs.Prelude.{nat_lt, ◌||◌, ◌&&◌}
use Rattle.std.specs.Str.{bytes_eq}
use Rattle.std.specs.List.{list_any}
use Rattle.c_tree.specs.Tree.{ExprT, TypeT, VoidY}
use Rattle.c_tree.specs.Depth.{type_depth}
use Rattle.c_lex.specs.declared.token.Punct.TheVariants as m
use Rattle.c_parse.specs.declared.class.Key.TheVariants as key
use Rattle.c_parse.specs.declared.fault.Fault.{Fault}
use Rattle.c_parse.specs.declared.fault.Fault.TheVariants.{Syntax, TooDeep}
use Rattle.c_parse.specs.Tok.{Tok, keyword, refused, word, number, character, text, mark}
use Rattle.c_parse.specs.Scope.{Context, is_type, span}
use Rattle.c_parse.specs.Grammar.{Ty}
use Rattle.c_parse.specs.inner.Reader.{◌>>=◌, Got, Reader, room_fault, goes_on, repeat, loop, at_open_paren, open_paren, close_paren, is_comma, at_comma, name}
use Rattle.c_parse.specs.inner.Reading.{level_at, type_read}
use Rattle.c_parse.proofs.Told as told
use Rattle.c_parse.proofs.Told.{StartIs, start_is, LeadIs, lead_is, SuffixIs, suffix_is, TypeIs, type_is, TypeMarkIs, type_mark_is}
use Rattle.c_parse.proofs.Single.{comma_is}
use Rattle.c_parse.proofs.Completion.{Rule, Fits, Frame, Cut, Begun, Deep, GoodFault, Good, Word, Seq, Implies, widen_fault, widen_frame, widen, fits_part, good_behind, fault_behind, fault_front, bind_good, bind_good_tokens, seq_word, widen_word, first_wrong, first_deep}
use Rattle.c_parse.specs.Lists as lists
use Rattle.c_parse.specs.Lists.{Separated, ListEnd}
use Rattle.c_parse.specs.inner.ReadingLists.{listed, braced}
use Rattle.c_parse.specs.inner.Reader.{end_list, open_brace, close_brace, is_semicolon, at_semicolon, semicolon, is_assign, at_assign, new}
use Rattle.c_parse.proofs.OneToken.{TokR, token_frame, token_word, open_paren_good, close_paren_good, open_paren_word, close_paren_word}
use Rattle.c_tree.specs.Tree.{VarT}
use Rattle.c_parse.specs.Declarations as d
use Rattle.c_parse.specs.Declarations.{Init, Inits, Field, Var, Vars, Member, Members, Param, Params, Value}
use Rattle.c_parse.specs.inner.ReadingDeclarations.{value_by, value, vars_at, members_at, params_at}
use Rattle.c_parse.proofs.Single.{assign_is}
use Rattle.c_parse.proofs.Shrinking.{turns_of_values}
use Rattle.c_parse.proofs.Begins.{NameR, name_word, name_good, LevelR, TyR, level_word, type_word}
use Rattle.c_parse.proofs.BeginsLists.{mapped_tokens, listed_good, OneR, SomeR, RestR, rest_repeat, rest_join, some_word, open_brace_good, close_brace_good, semicolon_good, close_brace_word, semicolon_word, list_end_word, end_list_good}
use Rattle.c_tree.specs.Tree.{StmtT}
use Rattle.c_tree.specs.View.{stmts}
use Rattle.c_parse.specs.Statements.{Stmts}
use Rattle.c_parse.specs.inner.ReadingStatements.{stmt_read}
use Rattle.c_parse.proofs.Told.{StmtIs, stmt_is, ArmIs, arm_is}
use Rattle.c_parse.proofs.BeginsDeclarations.{type_read_good, level_read_good, VarsQ, vars_good}
use Rattle.c_tree.specs.Tree.{ItemT, RecordD, EnumD, TypedefD, VarsD, FunctionD}
use Rattle.c_parse.specs.declared.lead.ItemLead.{ItemLead}
use Rattle.c_parse.specs.Units as u
use Rattle.c_parse.specs.Units.{record_word, Gives, Item, behind_item, Items, Unit_}
use Rattle.c_parse.specs.Scope.{declare}
use Rattle.c_parse.specs.inner.Leads.{item_at}
use Rattle.c_parse.specs.inner.ReadingUnits.{record_by, record_at, enum_at, typedef_at, body_by, function_at, vars_by, typed_by, item_by, item_read, Unit_so_far, item_turn, unit_at}
use Rattle.c_parse.proofs.Told.{ItemIs, item_is}
use Rattle.c_parse.proofs.Single.{assign_is, semicolon_is}
use Rattle.c_parse.proofs.Shrinking.{items_take}
use Rattle.c_parse.proofs.BeginsDeclarations.{MembersQ, members_word, members_good, ParamsQ, params_word, params_good, VarQ, VarTailR, named_var, zero_tail}
use Rattle.c_parse.proofs.BeginsStatements.{StmtsR, stmts_word, body_good}

-- ---- a name that is no type

-- longer than all of them
fresh : List (List ℕ) → List ℕ
fresh [] = 97 ∷ []
fresh (t ∷ ts) = t ++ fresh ts

unequal : (a b : List ℕ) → length a < length b → bytes_eq a b ≡ false
unequal [] [] e = absurd (omega (arith, e))
unequal [] (y ∷ ys) e = refl
unequal (x ∷ xs) [] e = refl
unequal (x ∷ xs) (y ∷ ys) e = rw (unequal xs ys (omega (arith, e))) (by (eqb x y))
  where
    by : (b : Bool) → (b && false) ≡ false
    by true = refl
    by false = refl

append_length : (a b : List ℕ) → length (a ++ b) ≡ length a + length b
append_length [] b = omega arith
append_length (x ∷ a) b = let h = append_length a b in omega (arith, h)

fresh_some : (ts : List (List ℕ)) → 0 < length (fresh ts)
unfolding fresh
fresh_some [] = omega arith
fresh_some (t ∷ ts) = let h = append_length t (fresh ts) in let i = fresh_some ts in omega (arith, h, i)

-- each of some names is shorter than a text
Shorter : List ℕ → List (List ℕ) → Type 0
Shorter f [] = Unit {0}
Shorter f (t ∷ ts) = (length t < length f) × Shorter f ts

shorter_more : (f g : List ℕ) (ts : List (List ℕ)) → length f ≤ length g → Shorter f ts → Shorter g ts
unfolding Shorter
shorter_more f g [] e s = tt
shorter_more f g (t ∷ ts) e s = (omega (arith, e, s.0), shorter_more f g ts e s.1)

fresh_longer : (ts : List (List ℕ)) → Shorter (fresh ts) ts
unfolding fresh Shorter
fresh_longer [] = tt
fresh_longer (t ∷ ts) = let h = append_length t (fresh ts) in let i = fresh_some ts in (omega (arith, h, i), shorter_more (fresh ts) (t ++ fresh ts) ts (omega (arith, h)) (fresh_longer ts))

none_is : (f : List ℕ) (ts : List (List ℕ)) → Shorter f ts → list_any (λ t. bytes_eq t f) ts ≡ false
unfolding Shorter
none_is f [] s = refl
none_is f (t ∷ ts) s = rw (unequal t f s.0, none_is f ts s.1) refl

is_fresh : (types : List (List ℕ)) → is_type (record { total = 0; types = types }) (fresh types) ≡ false
is_fresh types = none_is (fresh types) types (fresh_longer types)

-- ---- items under some names of types

abbrev types_after : ItemT → List (List ℕ) → List (List ℕ)
types_after (RecordD b n vs sp) types = types ++ n ∷ []
types_after (EnumD n vs sp) types = types ++ n ∷ []
types_after (TypedefD y n sp) types = types ++ n ∷ []
types_after (VarsD vs sp) types = types
types_after (FunctionD y n vs b sp) types = types

behind_is : (d : ItemT) (t : ℕ) (types : List (List ℕ)) → behind_item d (record { total = t; types = types }) ≡ record { total = t; types = types_after d types }
behind_is (RecordD b n vs sp) t types = refl
behind_is (EnumD n vs sp) t types = refl
behind_is (TypedefD y n sp) t types = refl
behind_is (VarsD vs sp) t types = refl
behind_is (FunctionD y n vs b sp) t types = refl

module _ (types : List (List ℕ)) where
  abbrev ctx : ℕ → Context
  ctx t = record { total = t; types = types }

  -- an item behind which these names are types
  abbrev pub ItemR : List (List ℕ) → Rule
  ItemR after ts rest = (t : ℕ) → (d : ItemT) × Item (ctx t) ts d rest × (behind_item d (ctx t) ≡ record { total = t; types = after })

  abbrev Says : List (List ℕ) → Result (Got ItemT) Fault → Type 0
  Says after (Ok x) = types_after x.0 types ≡ after
  Says after (Err e) = Unit {0}

  says_bind : {A : Type 0} (after : List (List ℕ)) (r : Result A Fault) (k : A → Result (Got ItemT) Fault) → ((x : A) → Says after (k x)) → Says after (r >>= k)
  says_bind after (Ok x) k h = h x
  says_bind after (Err e) k h = tt

  -- what is read goes on, as an item behind which some names are types
  pub record GoodItem (ts : List Tok) (r : Result (Got ItemT) Fault) : Type 0 where
    pub after : List (List ℕ)
    pub good : Good (ItemR after) ts r
    pub says : Says after r

  abbrev declared_with : List ℕ → List (List ℕ)
  declared_with n = types ++ n ∷ []

  abbrev NameQ : Rule
  NameQ = NameR types (fresh types) (is_fresh types)

  abbrev TyQ : Rule
  TyQ = TyR types (fresh types) (is_fresh types)

  abbrev LevelQ : Rule
  LevelQ = LevelR types (fresh types) (is_fresh types) 10

  abbrev StmtsQ : Rule
  StmtsQ = StmtsR types (fresh types) (is_fresh types)

  abbrev ParamsR : Rule
  ParamsR = ParamsQ types (fresh types) (is_fresh types)

  abbrev VarsR : Rule
  VarsR = VarsQ types (fresh types) (is_fresh types)

  abbrev stmts_w : Word StmtsQ
  stmts_w = stmts_word types (fresh types) (is_fresh types)

  abbrev params_w : Word ParamsR
  params_w = params_word types (fresh types) (is_fresh types)

  abbrev name_w : Word NameQ
  name_w = name_word types (fresh types) (is_fresh types)

  abbrev type_w : Word TyQ
  type_w = type_word types (fresh types) (is_fresh types)

  abbrev level_w : Word LevelQ
  level_w = level_word types (fresh types) (is_fresh types) 10

  abbrev MembersIn : List ℕ → Rule
  MembersIn n = MembersQ (declared_with n) (fresh (declared_with n)) (is_fresh (declared_with n))

  abbrev members_in_word : (n : List ℕ) → Word (MembersIn n)
  members_in_word n = members_word (declared_with n) (fresh (declared_with n)) (is_fresh (declared_with n))

  -- ---- values of an enumeration

  abbrev ValueQ : ℕ → Bool → List Tok → List ℕ × Option ExprT → List Tok → Type 0
  ValueQ t b ts x rest = Value (ctx t) ts x rest

  abbrev ValuesR : Rule
  ValuesR = SomeR ValueQ

  AssignLevelR : Rule
  AssignLevelR = Seq (TokR (mark m.Assign)) LevelQ

  ValueTailR : Rule
  ValueTailR ts rest = (ts ≡ rest) ⊎ Seq (TokR (mark m.Assign)) LevelQ ts rest

  value_tail_word : Word ValueTailR
  unfolding ValueTailR
  value_tail_word = record { tokens = []; takes = λ after p. inl refl; plain = λ after p. p }

  named_value : (ts mid rest : List Tok) → NameQ ts mid → ValueTailR mid rest → OneR ValueQ ts rest
  unfolding ValueTailR
  named_value ts mid rest n (inl e) t b = rw (n.1, e) (_, d.plain_value n.2)
  named_value ts mid rest n (inr x) t b = let i = x.2 t in rw (n.1, x.1) (_, d.set_value n.2 i.1)

  value_word : Word (OneR ValueQ)
  value_word = widen_word (Seq NameQ ValueTailR) (OneR ValueQ) (λ us rest x. named_value us x.0 rest x.1 x.2) (seq_word NameQ ValueTailR name_w value_tail_word)

  values_word : Word ValuesR
  values_word = some_word ValueQ value_word

  abbrev with_value : List ℕ → Got ExprT → Result (Got (List ℕ × Option ExprT)) Fault
  with_value n e = Ok ((n, Some e.0), e.1)

  valued_good : (n : List ℕ) (ts : List Tok) (x : Result (Got ExprT) Fault) → Good LevelQ ts x → Good LevelQ ts (x >>= with_value n)
  valued_good n ts (Ok x) h = h
  valued_good n ts (Err f) h = h

  value_tail_good : (t room : ℕ) (n : List ℕ) (ts : List Tok) (b : Bool) → at_assign ts ≡ b → Good ValueTailR ts (value_by (ctx t) room (n, ts) b)
  unfolding ValueTailR
  value_tail_good t room n ts false e = record { part = []; is = refl; any = λ after w. inl refl }
  value_tail_good t room n [] true e = absurd cc
  value_tail_good t room n (o ∷ ts) true e = rw (assign_is o e) (widen (Seq (TokR (mark m.Assign)) LevelQ) ValueTailR (λ us vs x. inr x) (mark m.Assign ∷ ts) _ (good_behind (TokR (mark m.Assign)) LevelQ (mark m.Assign ∷ ts) ts _ (token_frame (mark m.Assign) ts)
      (valued_good n ts (level_at (ctx t) room 10 ts) (level_read_good types (fresh types) (is_fresh types) t room ts))))

  value_good : (t room : ℕ) (ts : List Tok) → Good (OneR ValueQ) ts (value (ctx t) room ts)
  value_good t room ts = widen (Seq NameQ ValueTailR) (OneR ValueQ) (λ us rest x. named_value us x.0 rest x.1 x.2) ts (value (ctx t) room ts)
      (bind_good NameQ ValueTailR value_tail_word ts (name (ctx t) ts) (λ n. value_by (ctx t) room n (at_assign n.1)) (name_good types (fresh types) (is_fresh types) t ts) (λ x met. value_tail_good t room x.0 x.1 (at_assign x.1) refl))

  module _ (t room : ℕ) where
    abbrev value_read : Reader (List ℕ × Option ExprT)
    value_read = value (ctx t) room

    values_good : (ts : List Tok) → Good ValuesR ts (listed value_read ts)
    values_good ts = listed_good (OneR ValueQ) (RestR ValueQ) ValuesR (rest_repeat ValueQ) (rest_join ValueQ) value_read (λ us. value_good t room us) (turns_of_values (ctx t) room) ts

    members_in_good : (n : List ℕ) (ts : List Tok) → Good (MembersIn n) ts (members_at (declare n (ctx t)) room ts)
    members_in_good n ts = members_good (declared_with n) (fresh (declared_with n)) (is_fresh (declared_with n)) t room ts

    record_good_3 : (at : List Tok) (u : Bool) (n : List ℕ) (vs : List VarT) (ts : List Tok) → Good (TokR (mark m.Semicolon)) ts (semicolon ts >>= λ g3. Ok (RecordD u n (Some vs) (span (ctx t) at g3), g3))
    record_good_3 at u n vs ts = mapped_tokens (TokR (mark m.Semicolon)) (λ got. RecordD u n (Some vs) (span (ctx t) at got)) ts (semicolon ts) (semicolon_good ts)

    record_good_2 : (at : List Tok) (u : Bool) (n : List ℕ) (vs : List VarT) (ts : List Tok) → Good (Seq (TokR (mark m.CloseBrace)) (TokR (mark m.Semicolon))) ts (close_brace ts >>= λ g2. semicolon g2 >>= λ g3. Ok (RecordD u n (Some vs) (span (ctx t) at g3), g3))
    record_good_2 at u n vs ts = bind_good_tokens (TokR (mark m.CloseBrace)) (TokR (mark m.Semicolon)) semicolon_word ts (close_brace ts) (λ g2. semicolon g2 >>= λ g3. Ok (RecordD u n (Some vs) (span (ctx t) at g3), g3)) (close_brace_good ts) (λ rest. record_good_3 at u n vs rest)

    record_good_1 : (at : List Tok) (u : Bool) (n : List ℕ) (ts : List Tok) → Good (Seq (MembersIn n) (Seq (TokR (mark m.CloseBrace)) (TokR (mark m.Semicolon)))) ts (members_at (declare n (ctx t)) room ts >>= λ g1. close_brace g1.1 >>= λ g2. semicolon g2 >>= λ g3. Ok (RecordD u n (Some g1.0) (span (ctx t) at g3), g3))
    record_good_1 at u n ts = bind_good (MembersIn n) (Seq (TokR (mark m.CloseBrace)) (TokR (mark m.Semicolon))) (seq_word (TokR (mark m.CloseBrace)) (TokR (mark m.Semicolon)) close_brace_word semicolon_word) ts (members_at (declare n (ctx t)) room ts) (λ g1. close_brace g1.1 >>= λ g2. semicolon g2 >>= λ g3. Ok (RecordD u n (Some g1.0) (span (ctx t) at g3), g3)) (members_in_good n ts) (λ got met. record_good_2 at u n got.0 got.1)

    record_good_0 : (at : List Tok) (u : Bool) (n : List ℕ) (ts : List Tok) → Good (Seq (TokR (mark m.OpenBrace)) (Seq (MembersIn n) (Seq (TokR (mark m.CloseBrace)) (TokR (mark m.Semicolon))))) ts (open_brace ts >>= λ g0. members_at (declare n (ctx t)) room g0 >>= λ g1. close_brace g1.1 >>= λ g2. semicolon g2 >>= λ g3. Ok (RecordD u n (Some g1.0) (span (ctx t) at g3), g3))
    record_good_0 at u n ts = bind_good_tokens (TokR (mark m.OpenBrace)) (Seq (MembersIn n) (Seq (TokR (mark m.CloseBrace)) (TokR (mark m.Semicolon)))) (seq_word (MembersIn n) (Seq (TokR (mark m.CloseBrace)) (TokR (mark m.Semicolon))) (members_in_word n) (seq_word (TokR (mark m.CloseBrace)) (TokR (mark m.Semicolon)) close_brace_word semicolon_word)) ts (open_brace ts) (λ g0. members_at (declare n (ctx t)) room g0 >>= λ g1. close_brace g1.1 >>= λ g2. semicolon g2 >>= λ g3. Ok (RecordD u n (Some g1.0) (span (ctx t) at g3), g3)) (open_brace_good ts) (λ rest. record_good_1 at u n rest)

    function_body_good_2 : (at : List Tok) (y : TypeT) (n : List ℕ) (vs : List VarT) (ss : List StmtT) (ts : List Tok) → Good (TokR (mark m.CloseBrace)) ts (close_brace ts >>= λ g2. Ok (FunctionD y n vs (Some (stmts ss)) (span (ctx t) at g2), g2))
    function_body_good_2 at y n vs ss ts = mapped_tokens (TokR (mark m.CloseBrace)) (λ got. FunctionD y n vs (Some (stmts ss)) (span (ctx t) at got)) ts (close_brace ts) (close_brace_good ts)

    function_body_good_1 : (at : List Tok) (y : TypeT) (n : List ℕ) (vs : List VarT) (ts : List Tok) → Good (Seq StmtsQ (TokR (mark m.CloseBrace))) ts (braced (stmt_read (ctx t) room) ts >>= λ g1. close_brace g1.1 >>= λ g2. Ok (FunctionD y n vs (Some (stmts g1.0)) (span (ctx t) at g2), g2))
    function_body_good_1 at y n vs ts = bind_good StmtsQ (TokR (mark m.CloseBrace)) close_brace_word ts (braced (stmt_read (ctx t) room) ts) (λ g1. close_brace g1.1 >>= λ g2. Ok (FunctionD y n vs (Some (stmts g1.0)) (span (ctx t) at g2), g2)) (body_good types (fresh types) (is_fresh types) t room ts) (λ got met. function_body_good_2 at y n vs got.0 got.1)

    function_body_good_0 : (at : List Tok) (y : TypeT) (n : List ℕ) (vs : List VarT) (ts : List Tok) → Good (Seq (TokR (mark m.OpenBrace)) (Seq StmtsQ (TokR (mark m.CloseBrace)))) ts (open_brace ts >>= λ g0. braced (stmt_read (ctx t) room) g0 >>= λ g1. close_brace g1.1 >>= λ g2. Ok (FunctionD y n vs (Some (stmts g1.0)) (span (ctx t) at g2), g2))
    function_body_good_0 at y n vs ts = bind_good_tokens (TokR (mark m.OpenBrace)) (Seq StmtsQ (TokR (mark m.CloseBrace))) (seq_word StmtsQ (TokR (mark m.CloseBrace)) stmts_w close_brace_word) ts (open_brace ts) (λ g0. braced (stmt_read (ctx t) room) g0 >>= λ g1. close_brace g1.1 >>= λ g2. Ok (FunctionD y n vs (Some (stmts g1.0)) (span (ctx t) at g2), g2)) (open_brace_good ts) (λ rest. function_body_good_1 at y n vs rest)

    enum_good_3 : (at : List Tok) (n : List ℕ) (vs : List (List ℕ × Option ExprT)) (ts : List Tok) → Good (TokR (mark m.Semicolon)) ts (semicolon ts >>= λ g3. Ok (EnumD n vs (span (ctx t) at g3), g3))
    enum_good_3 at n vs ts = mapped_tokens (TokR (mark m.Semicolon)) (λ got. EnumD n vs (span (ctx t) at got)) ts (semicolon ts) (semicolon_good ts)

    enum_good_2 : (at : List Tok) (n : List ℕ) (vs : List (List ℕ × Option ExprT)) (ts : List Tok) → Good (Seq ListEnd (TokR (mark m.Semicolon))) ts (end_list ts >>= λ g2. semicolon g2 >>= λ g3. Ok (EnumD n vs (span (ctx t) at g3), g3))
    enum_good_2 at n vs ts = bind_good_tokens ListEnd (TokR (mark m.Semicolon)) semicolon_word ts (end_list ts) (λ g2. semicolon g2 >>= λ g3. Ok (EnumD n vs (span (ctx t) at g3), g3)) (end_list_good ts) (λ rest. enum_good_3 at n vs rest)

    enum_good_1 : (at : List Tok) (n : List ℕ) (ts : List Tok) → Good (Seq ValuesR (Seq ListEnd (TokR (mark m.Semicolon)))) ts (listed (value_read) ts >>= λ g1. end_list g1.1 >>= λ g2. semicolon g2 >>= λ g3. Ok (EnumD n g1.0 (span (ctx t) at g3), g3))
    enum_good_1 at n ts = bind_good ValuesR (Seq ListEnd (TokR (mark m.Semicolon))) (seq_word ListEnd (TokR (mark m.Semicolon)) list_end_word semicolon_word) ts (listed (value_read) ts) (λ g1. end_list g1.1 >>= λ g2. semicolon g2 >>= λ g3. Ok (EnumD n g1.0 (span (ctx t) at g3), g3)) (values_good ts) (λ got met. enum_good_2 at n got.0 got.1)

    enum_good_0 : (at : List Tok) (n : List ℕ) (ts : List Tok) → Good (Seq (TokR (mark m.OpenBrace)) (Seq ValuesR (Seq ListEnd (TokR (mark m.Semicolon))))) ts (open_brace ts >>= λ g0. listed (value_read) g0 >>= λ g1. end_list g1.1 >>= λ g2. semicolon g2 >>= λ g3. Ok (EnumD n g1.0 (span (ctx t) at g3), g3))
    enum_good_0 at n ts = bind_good_tokens (TokR (mark m.OpenBrace)) (Seq ValuesR (Seq ListEnd (TokR (mark m.Semicolon)))) (seq_word ValuesR (Seq ListEnd (TokR (mark m.Semicolon))) values_word (seq_word ListEnd (TokR (mark m.Semicolon)) list_end_word semicolon_word)) ts (open_brace ts) (λ g0. listed (value_read) g0 >>= λ g1. end_list g1.1 >>= λ g2. semicolon g2 >>= λ g3. Ok (EnumD n g1.0 (span (ctx t) at g3), g3)) (open_brace_good ts) (λ rest. enum_good_1 at n rest)

    -- ---- `struct` and `union`

    abbrev RecordTailR : List ℕ → Rule
    RecordTailR n ts rest = (ts ≡ mark m.Semicolon ∷ rest) ⊎ (Seq (TokR (mark m.OpenBrace)) (Seq (MembersIn n) (Seq (TokR (mark m.CloseBrace)) (TokR (mark m.Semicolon))))) ts rest

    abbrev RecordR : Tok → List ℕ → Rule
    RecordR o n = Seq (TokR o) (Seq (TokR (word n)) (RecordTailR n))

    record_tail_word : (n : List ℕ) → Word (RecordTailR n)
    record_tail_word n = record { tokens = mark m.Semicolon ∷ []; takes = λ after p. inl refl; plain = λ after p. (refl, refl) }

    record_makes : (o : Tok) (b : Bool) (n : List ℕ) → record_word o ≡ Some b → (us a c rest : List Tok) → us ≡ o ∷ a → a ≡ word n ∷ c → RecordTailR n c rest → ItemR (declared_with n) us rest
    record_makes o b n w us a c rest e f (inl g) v = rw (e, f, g) (_, u.forward w, refl)
    record_makes o b n w us a c rest e f (inr x) v =
        let q = x.2 in let vs = q.1 v in let k = q.2 in
        rw (e, f, x.1) (_, u.record_ w (subst (λ (z : List Tok). Members (record { total = v; types = declared_with n }) x.0 vs.0 z) (k.1 ∙ ap (λ (z : List Tok). mark m.CloseBrace ∷ z) k.2) vs.1), refl)

    record_rule : (o : Tok) (b : Bool) (n : List ℕ) → record_word o ≡ Some b → Implies (RecordR o n) (ItemR (declared_with n))
    record_rule o b n w us rest x = record_makes o b n w us x.0 x.2.0 rest x.1 x.2.1 x.2.2

    record_tail_good : (at : List Tok) (b : Bool) (n : List ℕ) (ts : List Tok) (c : Bool) → at_semicolon ts ≡ c → Good (RecordTailR n) ts (record_by (ctx t) room at b (n, ts) c)
    record_tail_good at b n [] true e = absurd cc
    record_tail_good at b n (o ∷ ts) true e = rw (semicolon_is o e) (record { part = mark m.Semicolon ∷ []; is = refl; any = λ after w. inl refl })
    record_tail_good at b n ts false e = widen (Seq (TokR (mark m.OpenBrace)) (Seq (MembersIn n) (Seq (TokR (mark m.CloseBrace)) (TokR (mark m.Semicolon))))) (RecordTailR n) (λ us vs x. inr x) ts _ (record_good_0 at b n ts)

    record_says : (at : List Tok) (b : Bool) (n : List ℕ) (ts : List Tok) (c : Bool) → Says (declared_with n) (record_by (ctx t) room at b (n, ts) c)
    record_says at b n ts true = refl
    record_says at b n ts false = says_bind (declared_with n) (open_brace ts) _ (λ on. says_bind (declared_with n) (members_at (declare n (ctx t)) room on) _ (λ vs. says_bind (declared_with n) (close_brace vs.1) _ (λ end. says_bind (declared_with n) (semicolon end) _ (λ rest. refl))))

    record_unnamed : (o : Tok) (b : Bool) → record_word o ≡ Some b → (ts : List Tok) → GoodItem (o ∷ ts) (Err (Syntax (length ts)))
    record_unnamed o b w ts = record {
      after = declared_with [];
      good = record { pre = o ∷ []; wrong = ts; end = word [] ∷ mark m.Semicolon ∷ []; is = refl; size = refl; any = λ after p. record_makes o b [] w _ _ _ after refl refl (inl refl); fits = λ after p. inl (refl, refl) };
      says = tt;
    }

    record_item : (o : Tok) (b : Bool) → record_word o ≡ Some b → (ts : List Tok) → GoodItem (o ∷ ts) (record_at (ctx t) room b (o ∷ ts))
    record_item o b w [] = record_unnamed o b w []
    record_item o b w (keyword k ∷ ts) = record_unnamed o b w (keyword k ∷ ts)
    record_item o b w (refused k ∷ ts) = record_unnamed o b w (refused k ∷ ts)
    record_item o b w (number k ∷ ts) = record_unnamed o b w (number k ∷ ts)
    record_item o b w (character k ∷ ts) = record_unnamed o b w (character k ∷ ts)
    record_item o b w (text k ∷ ts) = record_unnamed o b w (text k ∷ ts)
    record_item o b w (mark k ∷ ts) = record_unnamed o b w (mark k ∷ ts)
    record_item o b w (word n ∷ ts) = record {
      after = declared_with n;
      good = widen (RecordR o n) (ItemR (declared_with n)) (record_rule o b n w) (o ∷ word n ∷ ts) _ (good_behind (TokR o) (Seq (TokR (word n)) (RecordTailR n)) (o ∷ word n ∷ ts) (word n ∷ ts) _ (token_frame o (word n ∷ ts))
          (good_behind (TokR (word n)) (RecordTailR n) (word n ∷ ts) ts _ (token_frame (word n) ts) (record_tail_good (o ∷ word n ∷ ts) b n ts (at_semicolon ts) refl)));
      says = record_says (o ∷ word n ∷ ts) b n ts (at_semicolon ts);
    }

    -- ---- `enum`

    abbrev EnumR : List ℕ → Rule
    EnumR n = Seq (TokR (keyword key.Enum)) (Seq (TokR (word n)) (Seq (TokR (mark m.OpenBrace)) (Seq ValuesR (Seq ListEnd (TokR (mark m.Semicolon))))))

    enum_rule : (n : List ℕ) → Implies (EnumR n) (ItemR (declared_with n))
    enum_rule n us rest x v =
        let q = x.2 in let a = q.2 in let c = a.2 in let vs = c.1 v true in let k = c.2 in
        rw (x.1, q.1, a.1) (_, u.enum vs.1 (subst (λ (z : List Tok). ListEnd c.0 z) k.2 k.1), refl)

    enum_says : (at : List Tok) (n : List ℕ) (ts : List Tok) → Says (declared_with n) (open_brace ts >>= λ on. listed value_read on >>= λ vs. end_list vs.1 >>= λ end. semicolon end >>= λ rest. Ok (EnumD n vs.0 (span (ctx t) at rest), rest))
    enum_says at n ts = says_bind (declared_with n) (open_brace ts) _ (λ on. says_bind (declared_with n) (listed value_read on) _ (λ vs. says_bind (declared_with n) (end_list vs.1) _ (λ end. says_bind (declared_with n) (semicolon end) _ (λ rest. refl))))

    enum_begun : (n : List ℕ) (after : List Tok) → EnumR n (keyword key.Enum ∷ word n ∷ mark m.OpenBrace ∷ word (fresh types) ∷ mark m.CloseBrace ∷ mark m.Semicolon ∷ after) after
    enum_begun n after = (_, refl, (_, refl, (_, refl, (_, (λ v b. (_, lists.last (d.plain_value (is_fresh types)))), (_, lists.brace, refl)))))

    enum_unnamed : (ts : List Tok) → GoodItem (keyword key.Enum ∷ ts) (Err (Syntax (length ts)))
    enum_unnamed ts = record {
      after = declared_with [];
      good = record {
        pre = keyword key.Enum ∷ [];
        wrong = ts;
        end = word [] ∷ mark m.OpenBrace ∷ word (fresh types) ∷ mark m.CloseBrace ∷ mark m.Semicolon ∷ [];
        is = refl;
        size = refl;
        any = λ after p. enum_rule [] _ after (enum_begun [] after);
        fits = λ after p. inl (refl, refl);
      };
      says = tt;
    }

    enum_item : (ts : List Tok) → GoodItem (keyword key.Enum ∷ ts) (enum_at (ctx t) room (keyword key.Enum ∷ ts))
    enum_item [] = enum_unnamed []
    enum_item (keyword k ∷ ts) = enum_unnamed (keyword k ∷ ts)
    enum_item (refused k ∷ ts) = enum_unnamed (refused k ∷ ts)
    enum_item (number k ∷ ts) = enum_unnamed (number k ∷ ts)
    enum_item (character k ∷ ts) = enum_unnamed (character k ∷ ts)
    enum_item (text k ∷ ts) = enum_unnamed (text k ∷ ts)
    enum_item (mark k ∷ ts) = enum_unnamed (mark k ∷ ts)
    enum_item (word n ∷ ts) = record {
      after = declared_with n;
      good = widen (EnumR n) (ItemR (declared_with n)) (enum_rule n) (keyword key.Enum ∷ word n ∷ ts) _ (good_behind (TokR (keyword key.Enum)) (Seq (TokR (word n)) (Seq (TokR (mark m.OpenBrace)) (Seq ValuesR (Seq ListEnd (TokR (mark m.Semicolon)))))) (keyword key.Enum ∷ word n ∷ ts) (word n ∷ ts) _ (token_frame (keyword key.Enum) (word n ∷ ts))
          (good_behind (TokR (word n)) (Seq (TokR (mark m.OpenBrace)) (Seq ValuesR (Seq ListEnd (TokR (mark m.Semicolon))))) (word n ∷ ts) ts _ (token_frame (word n) ts) (enum_good_0 (keyword key.Enum ∷ word n ∷ ts) n ts)));
      says = enum_says (keyword key.Enum ∷ word n ∷ ts) n ts;
    }

    -- ---- `typedef`

    abbrev NewSemiR : List ℕ → Rule
    NewSemiR n = Seq (TokR (word n)) (TokR (mark m.Semicolon))

    new_semi_word : (n : List ℕ) → Word (NewSemiR n)
    new_semi_word n = seq_word (TokR (word n)) (TokR (mark m.Semicolon)) (token_word (word n) (λ after. (refl, refl))) semicolon_word

    abbrev TypedefR : List ℕ → Rule
    TypedefR n = Seq (TokR (keyword key.Typedef)) (Seq TyQ (NewSemiR n))

    typedef_rule : (n : List ℕ) → Implies (TypedefR n) (ItemR (declared_with n))
    typedef_rule n us rest x v =
        let q = x.2 in let y = q.1 v in let k = q.2 in
        rw (x.1) (_, u.typedef (subst (λ (z : List Tok). Ty (ctx v) x.0 y.0 z) (k.1 ∙ ap (λ (z : List Tok). word n ∷ z) k.2) y.1), refl)

    typedef_fault : (n : List ℕ) (ts : List Tok) (f : Fault) → GoodFault (Seq TyQ (NewSemiR n)) ts f → GoodItem (keyword key.Typedef ∷ ts) (Err f)
    typedef_fault n ts f h = record { after = declared_with n; good = widen_fault (TypedefR n) (ItemR (declared_with n)) (typedef_rule n) (keyword key.Typedef ∷ ts) f (fault_behind (TokR (keyword key.Typedef)) (Seq TyQ (NewSemiR n)) _ ts f (token_frame (keyword key.Typedef) ts) h); says = tt }

    typedef_named : (ts : List Tok) (y : TypeT) (mid : List Tok) → Frame TyQ ts mid → GoodItem (keyword key.Typedef ∷ ts) (new mid >>= λ n. semicolon n.1 >>= λ rest. Ok (TypedefD y n.0 (span (ctx t) (keyword key.Typedef ∷ ts) rest), rest))
    typedef_named ts y [] f = typedef_fault [] ts (Syntax 0) (fault_behind TyQ (NewSemiR []) ts [] (Syntax 0) f (first_wrong (NewSemiR []) [] (new_semi_word [])))
    typedef_named ts y (keyword k ∷ mid) f = typedef_fault [] ts (Syntax (suc (length mid))) (fault_behind TyQ (NewSemiR []) ts (keyword k ∷ mid) (Syntax (suc (length mid))) f (first_wrong (NewSemiR []) (keyword k ∷ mid) (new_semi_word [])))
    typedef_named ts y (refused k ∷ mid) f = typedef_fault [] ts (Syntax (suc (length mid))) (fault_behind TyQ (NewSemiR []) ts (refused k ∷ mid) (Syntax (suc (length mid))) f (first_wrong (NewSemiR []) (refused k ∷ mid) (new_semi_word [])))
    typedef_named ts y (number k ∷ mid) f = typedef_fault [] ts (Syntax (suc (length mid))) (fault_behind TyQ (NewSemiR []) ts (number k ∷ mid) (Syntax (suc (length mid))) f (first_wrong (NewSemiR []) (number k ∷ mid) (new_semi_word [])))
    typedef_named ts y (character k ∷ mid) f = typedef_fault [] ts (Syntax (suc (length mid))) (fault_behind TyQ (NewSemiR []) ts (character k ∷ mid) (Syntax (suc (length mid))) f (first_wrong (NewSemiR []) (character k ∷ mid) (new_semi_word [])))
    typedef_named ts y (text k ∷ mid) f = typedef_fault [] ts (Syntax (suc (length mid))) (fault_behind TyQ (NewSemiR []) ts (text k ∷ mid) (Syntax (suc (length mid))) f (first_wrong (NewSemiR []) (text k ∷ mid) (new_semi_word [])))
    typedef_named ts y (mark k ∷ mid) f = typedef_fault [] ts (Syntax (suc (length mid))) (fault_behind TyQ (NewSemiR []) ts (mark k ∷ mid) (Syntax (suc (length mid))) f (first_wrong (NewSemiR []) (mark k ∷ mid) (new_semi_word [])))
    typedef_named ts y (word n ∷ mid) f = record {
      after = declared_with n;
      good = widen (TypedefR n) (ItemR (declared_with n)) (typedef_rule n) (keyword key.Typedef ∷ ts) _ (good_behind (TokR (keyword key.Typedef)) (Seq TyQ (NewSemiR n)) (keyword key.Typedef ∷ ts) ts _ (token_frame (keyword key.Typedef) ts)
          (good_behind TyQ (NewSemiR n) ts (word n ∷ mid) _ f (good_behind (TokR (word n)) (TokR (mark m.Semicolon)) (word n ∷ mid) mid _ (token_frame (word n) mid)
          (mapped_tokens (TokR (mark m.Semicolon)) (λ rest. TypedefD y n (span (ctx t) (keyword key.Typedef ∷ ts) rest)) mid (semicolon mid) (semicolon_good mid)))));
      says = says_bind (declared_with n) (semicolon mid) _ (λ rest. refl);
    }

    typedef_read : (ts : List Tok) (r : Result (Got TypeT) Fault) → Good TyQ ts r → GoodItem (keyword key.Typedef ∷ ts) (r >>= λ y. new y.1 >>= λ n. semicolon n.1 >>= λ rest. Ok (TypedefD y.0 n.0 (span (ctx t) (keyword key.Typedef ∷ ts) rest), rest))
    typedef_read ts (Ok y) h = typedef_named ts y.0 y.1 h
    typedef_read ts (Err f) h = typedef_fault [] ts f (fault_front TyQ (NewSemiR []) ts f (new_semi_word []) h)

    typedef_item : (ts : List Tok) → GoodItem (keyword key.Typedef ∷ ts) (typedef_at (ctx t) room (keyword key.Typedef ∷ ts))
    typedef_item ts = typedef_read ts (type_read (ctx t) room ts) (type_read_good types (fresh types) (is_fresh types) t room ts)

    -- ---- functions

    abbrev BodyR : Rule
    BodyR ts rest = (ts ≡ mark m.Semicolon ∷ rest) ⊎ (Seq (TokR (mark m.OpenBrace)) (Seq StmtsQ (TokR (mark m.CloseBrace)))) ts rest

    body_word : Word BodyR
    body_word = record { tokens = mark m.Semicolon ∷ []; takes = λ after p. inl refl; plain = λ after p. (refl, refl) }

    abbrev FunctionTailR : Rule
    FunctionTailR = Seq (TokR (mark m.OpenParen)) (Seq ParamsR (Seq (TokR (mark m.CloseParen)) BodyR))

    closing_word : Word (Seq (TokR (mark m.CloseParen)) BodyR)
    closing_word = seq_word (TokR (mark m.CloseParen)) BodyR close_paren_word body_word

    params_closing_word : Word (Seq ParamsR (Seq (TokR (mark m.CloseParen)) BodyR))
    params_closing_word = seq_word ParamsR (Seq (TokR (mark m.CloseParen)) BodyR) params_w closing_word

    function_tail_word : Word FunctionTailR
    function_tail_word = seq_word (TokR (mark m.OpenParen)) (Seq ParamsR (Seq (TokR (mark m.CloseParen)) BodyR)) open_paren_word params_closing_word

    body_by_good : (at : List Tok) (y : TypeT) (n : List ℕ) (vs : List VarT) (ts : List Tok) (b : Bool) → at_semicolon ts ≡ b → Good BodyR ts (body_by (ctx t) room at y n vs ts b)
    body_by_good at y n vs [] true e = absurd cc
    body_by_good at y n vs (o ∷ ts) true e = rw (semicolon_is o e) (record { part = mark m.Semicolon ∷ []; is = refl; any = λ after w. inl refl })
    body_by_good at y n vs ts false e = widen (Seq (TokR (mark m.OpenBrace)) (Seq StmtsQ (TokR (mark m.CloseBrace)))) BodyR (λ us ws x. inr x) ts _ (function_body_good_0 at y n vs ts)

    function_good : (at : List Tok) (y : TypeT) (n : List ℕ) (ts : List Tok) → Good FunctionTailR ts (function_at (ctx t) room at y n ts)
    function_good at y n ts = bind_good_tokens (TokR (mark m.OpenParen)) (Seq ParamsR (Seq (TokR (mark m.CloseParen)) BodyR)) params_closing_word ts (open_paren ts)
        (λ on. params_at (ctx t) room on >>= λ vs. close_paren vs.1 >>= λ mid. body_by (ctx t) room at y n vs.0 mid (at_semicolon mid)) (open_paren_good ts)
        (λ on. bind_good ParamsR (Seq (TokR (mark m.CloseParen)) BodyR) closing_word on (params_at (ctx t) room on) (λ vs. close_paren vs.1 >>= λ mid. body_by (ctx t) room at y n vs.0 mid (at_semicolon mid)) (params_good types (fresh types) (is_fresh types) t room on)
        (λ vs met. bind_good_tokens (TokR (mark m.CloseParen)) BodyR body_word vs.1 (close_paren vs.1) (λ mid. body_by (ctx t) room at y n vs.0 mid (at_semicolon mid)) (close_paren_good vs.1) (λ mid. body_by_good at y n vs.0 mid (at_semicolon mid) refl)))

    body_says : (at : List Tok) (y : TypeT) (n : List ℕ) (vs : List VarT) (ts : List Tok) (b : Bool) → Says types (body_by (ctx t) room at y n vs ts b)
    body_says at y n vs ts true = refl
    body_says at y n vs ts false = says_bind types (open_brace ts) _ (λ on. says_bind types (braced (stmt_read (ctx t) room) on) _ (λ ss. says_bind types (close_brace ss.1) _ (λ rest. refl)))

    function_says : (at : List Tok) (y : TypeT) (n : List ℕ) (ts : List Tok) → Says types (function_at (ctx t) room at y n ts)
    function_says at y n ts = says_bind types (open_paren ts) _ (λ on. says_bind types (params_at (ctx t) room on) _ (λ vs. says_bind types (close_paren vs.1) _ (λ mid. body_says at y n vs.0 mid (at_semicolon mid))))

    body_makes : (v : ℕ) (us a b c d rest : List Tok) (y : TypeT) → Gives (ctx v) us y a → NameQ a b → b ≡ mark m.OpenParen ∷ c → (ps : (vs : List VarT) × Params (ctx v) c vs d) → (e : List Tok) → d ≡ mark m.CloseParen ∷ e → BodyR e rest
        → (x : ItemT) × Item (ctx v) us x rest × (behind_item x (ctx v) ≡ record { total = v; types = types })
    body_makes v us a b c d rest y g n f ps e h (inl k) =
        (_, u.declared (subst (λ (z : List Tok). Gives (ctx v) us y z) (n.1 ∙ ap (λ (z : List Tok). word n.0 ∷ z) f) g) n.2 (subst (λ (z : List Tok). Params (ctx v) c ps.0 z) (h ∙ ap (λ (z : List Tok). mark m.CloseParen ∷ z) k) ps.1), refl)
    body_makes v us a b c d rest y g n f ps e h (inr x) =
        let q = x.2 in let ss = q.1 v in (
          _,
          u.defined (subst (λ (z : List Tok). Gives (ctx v) us y z) (n.1 ∙ ap (λ (z : List Tok). word n.0 ∷ z) f) g) n.2 (subst (λ (z : List Tok). Params (ctx v) c ps.0 z) (h ∙ ap (λ (z : List Tok). mark m.CloseParen ∷ z) x.1) ps.1)
              (subst (λ (z : List Tok). Stmts (ctx v) x.0 ss.0 z) q.2 ss.1),
          refl,
        )

    -- a result's type, a name and what stands behind the name
    abbrev GivesR : Rule
    GivesR ts rest = (v : ℕ) → (y : TypeT) × Gives (ctx v) ts y rest

    function_rule : Implies (Seq GivesR (Seq NameQ FunctionTailR)) (ItemR types)
    function_rule us rest x v =
        let g = x.1 v in let q = x.2 in let k = q.2 in let p = k.2 in let w = p.2 in
        body_makes v us x.0 q.0 k.0 p.0 rest g.0 g.1 q.1 k.1 (p.1 v) w.0 w.1 w.2

    void_gives : (ts : List Tok) → Frame GivesR (keyword key.Void ∷ ts) ts
    void_gives ts = record { part = keyword key.Void ∷ []; is = refl; any = λ after w v. (_, u.gives_void) }

    void_read : (ts : List Tok) (r : Result (Got (List ℕ)) Fault) → Good NameQ ts r → GoodItem (keyword key.Void ∷ ts) (r >>= λ n. function_at (ctx t) room (keyword key.Void ∷ ts) VoidY n.0 n.1)
    void_read ts (Ok n) h = record {
      after = types;
      good = widen (Seq GivesR (Seq NameQ FunctionTailR)) (ItemR types) function_rule (keyword key.Void ∷ ts) _ (good_behind GivesR (Seq NameQ FunctionTailR) (keyword key.Void ∷ ts) ts _ (void_gives ts) (good_behind NameQ FunctionTailR ts n.1 _ h (function_good (keyword key.Void ∷ ts) VoidY n.0 n.1)));
      says = function_says (keyword key.Void ∷ ts) VoidY n.0 n.1;
    }
    void_read ts (Err f) h = record {
      after = types;
      good = widen_fault (Seq GivesR (Seq NameQ FunctionTailR)) (ItemR types) function_rule (keyword key.Void ∷ ts) f (fault_behind GivesR (Seq NameQ FunctionTailR) (keyword key.Void ∷ ts) ts f (void_gives ts) (fault_front NameQ FunctionTailR ts f function_tail_word h));
      says = tt;
    }

    -- ---- functions with a type, and variables

    abbrev VarsItemR : Rule
    VarsItemR = Seq VarsR (TokR (mark m.Semicolon))

    vars_item : Implies VarsItemR (ItemR types)
    vars_item us rest x v = let vs = x.1 v in (_, u.vars (subst (λ (z : List Tok). Vars (ctx v) us vs.0 z) x.2 vs.1), refl)

    vars_item_good : (ts : List Tok) → Good VarsItemR ts (vars_at (ctx t) room ts >>= λ vs. semicolon vs.1 >>= λ rest. Ok (VarsD vs.0 (span (ctx t) ts rest), rest))
    vars_item_good ts = bind_good VarsR (TokR (mark m.Semicolon)) semicolon_word ts (vars_at (ctx t) room ts) (λ vs. semicolon vs.1 >>= λ rest. Ok (VarsD vs.0 (span (ctx t) ts rest), rest)) (vars_good types (fresh types) (is_fresh types) t room ts)
        (λ vs met. mapped_tokens (TokR (mark m.Semicolon)) (λ rest. VarsD vs.0 (span (ctx t) ts rest)) vs.1 (semicolon vs.1) (semicolon_good vs.1))

    vars_says : (at ts : List Tok) (b : Bool) → Says types (vars_by (ctx t) room at ts b)
    vars_says at ts true = says_bind types (vars_at (ctx t) room at) _ (λ vs. says_bind types (semicolon vs.1) _ (λ rest. refl))
    vars_says at ts false = tt

    -- what stands behind the first name of variables
    NamedR : Rule
    NamedR ts rest = (v : ℕ) (y : TypeT) (us : List Tok) → NameQ us ts → (vs : List VarT) × Separated (VarQ types (fresh types) (is_fresh types) v y) us vs (mark m.Semicolon ∷ rest)

    named_vars : Implies (Seq TyQ (Seq NameQ NamedR)) (ItemR types)
    unfolding NamedR
    named_vars us rest x v = let y = x.1 v in let q = x.2 in let vs = q.2 v y.0 x.0 q.1 in (_, u.vars (d.vars y.1 vs.1), refl)

    abbrev one_var : (us mid rest : List Tok) → NameQ us mid → VarTailR types (fresh types) (is_fresh types) mid rest → OneR (VarQ types (fresh types) (is_fresh types)) us rest
    one_var us mid rest n x = named_var types (fresh types) (is_fresh types) us mid rest n x

    semi_named : (after : List Tok) → NamedR (mark m.Semicolon ∷ after) after
    unfolding NamedR
    semi_named after v y us n = let x = one_var us (mark m.Semicolon ∷ after) (mark m.Semicolon ∷ after) n (inl refl) v y in (x.0 ∷ [], lists.last x.1)

    assign_named : (after : List Tok) → NamedR (mark m.Assign ∷ number 0 ∷ mark m.Semicolon ∷ after) after
    unfolding NamedR
    assign_named after v y us n = let x = one_var us (mark m.Assign ∷ number 0 ∷ mark m.Semicolon ∷ after) (mark m.Semicolon ∷ after) n (zero_tail types (fresh types) (is_fresh types) (mark m.Semicolon ∷ after)) v y in (x.0 ∷ [], lists.last x.1)

    comma_named : (after : List Tok) → NamedR (mark m.Comma ∷ word (fresh types) ∷ mark m.Semicolon ∷ after) after
    unfolding NamedR
    comma_named after v y us n =
        let x = one_var us (mark m.Comma ∷ word (fresh types) ∷ mark m.Semicolon ∷ after) (mark m.Comma ∷ word (fresh types) ∷ mark m.Semicolon ∷ after) n (inl refl) v y in
        let z = one_var (word (fresh types) ∷ mark m.Semicolon ∷ after) (mark m.Semicolon ∷ after) (mark m.Semicolon ∷ after) (fresh types, refl, is_fresh types) (inl refl) v y in
        (x.0 ∷ z.0 ∷ [], lists.more x.1 (lists.last z.1))

    named_word : Word NamedR
    named_word = record { tokens = mark m.Semicolon ∷ []; takes = λ after p. semi_named after; plain = λ after p. (refl, refl) }

    name_named_word : Word (Seq NameQ NamedR)
    name_named_word = seq_word NameQ NamedR name_w named_word

    named_deep : (o : Tok) (ts : List Tok) → (is_semicolon o ≡ true) ⊎ ((is_assign o ≡ true) ⊎ (is_comma o ≡ true)) → Deep NamedR (o ∷ ts) (suc (length ts))
    named_deep o ts (inl e) = rw (semicolon_is o e) (first_deep NamedR (mark m.Semicolon) ts [] (λ after p. semi_named after))
    named_deep o ts (inr (inl e)) = rw (assign_is o e) (first_deep NamedR (mark m.Assign) ts (number 0 ∷ mark m.Semicolon ∷ []) (λ after p. assign_named after))
    named_deep o ts (inr (inr e)) = rw (comma_is o e) (first_deep NamedR (mark m.Comma) ts (word (fresh types) ∷ mark m.Semicolon ∷ []) (λ after p. comma_named after))

    one_of : (a b c : Bool) → (a || (b || c)) ≡ true → (a ≡ true) ⊎ ((b ≡ true) ⊎ (c ≡ true))
    one_of true b c e = inl refl
    one_of false true c e = inr (inl refl)
    one_of false false true e = inr (inr refl)
    one_of false false false e = absurd cc

    named_room : (ts : List Tok) (b : Bool) → (at_semicolon ts || (at_assign ts || at_comma ts)) ≡ b → GoodFault NamedR ts (room_fault b ts)
    named_room [] true e = absurd cc
    named_room (o ∷ ts) true e = named_deep o ts (one_of (is_semicolon o) (is_assign o) (is_comma o) e)
    named_room ts false e = first_wrong NamedR ts named_word

    vars_by_good : (at mid ts : List Tok) → Frame TyQ at mid → Frame NameQ mid ts → (b : Bool) → Good (ItemR types) at (vars_by (ctx t) room at ts b)
    vars_by_good at mid ts f g true = widen VarsItemR (ItemR types) vars_item at _ (vars_item_good at)
    vars_by_good at mid ts f g false = widen_fault (Seq TyQ (Seq NameQ NamedR)) (ItemR types) named_vars at (room_fault (at_semicolon ts || (at_assign ts || at_comma ts)) ts)
        (fault_behind TyQ (Seq NameQ NamedR) at mid (room_fault (at_semicolon ts || (at_assign ts || at_comma ts)) ts) f
        (fault_behind NameQ NamedR mid ts (room_fault (at_semicolon ts || (at_assign ts || at_comma ts)) ts) g (named_room ts (at_semicolon ts || (at_assign ts || at_comma ts)) refl)))

    type_gives : Implies TyQ GivesR
    type_gives us rest y v = let x = y v in (_, u.gives_type x.1)

    typed_by_good : (at mid : List Tok) (y : TypeT) (n : Got (List ℕ)) → Frame TyQ at mid → Frame NameQ mid n.1 → (b : Bool) → GoodItem at (typed_by (ctx t) room at y n b)
    typed_by_good at mid y n f g true = record {
      after = types;
      good = widen (Seq GivesR (Seq NameQ FunctionTailR)) (ItemR types) function_rule at _ (good_behind GivesR (Seq NameQ FunctionTailR) at mid _ (widen_frame TyQ GivesR type_gives at mid f) (good_behind NameQ FunctionTailR mid n.1 _ g (function_good at y n.0 n.1)));
      says = function_says at y n.0 n.1;
    }
    typed_by_good at mid y n f g false = record { after = types; good = vars_by_good at mid n.1 f g (nat_lt (type_depth y) room); says = vars_says at n.1 (nat_lt (type_depth y) room) }

    named_fault : (at : List Tok) (f : Fault) → GoodFault (Seq TyQ (Seq NameQ NamedR)) at f → GoodItem at (Err f)
    named_fault at f h = record { after = types; good = widen_fault (Seq TyQ (Seq NameQ NamedR)) (ItemR types) named_vars at f h; says = tt }

    typed_named : (at mid : List Tok) (y : TypeT) → Frame TyQ at mid → (r : Result (Got (List ℕ)) Fault) → Good NameQ mid r → GoodItem at (r >>= λ n. typed_by (ctx t) room at y n (at_open_paren n.1))
    typed_named at mid y f (Ok n) h = typed_by_good at mid y n f h (at_open_paren n.1)
    typed_named at mid y f (Err e) h = named_fault at e (fault_behind TyQ (Seq NameQ NamedR) at mid e f (fault_front NameQ NamedR mid e named_word h))

    typed_read : (at : List Tok) (r : Result (Got TypeT) Fault) → Good TyQ at r → GoodItem at (r >>= λ y. name (ctx t) y.1 >>= λ n. typed_by (ctx t) room at y.0 n (at_open_paren n.1))
    typed_read at (Ok y) h = typed_named at y.1 y.0 h (name (ctx t) y.1) (name_good types (fresh types) (is_fresh types) t y.1)
    typed_read at (Err e) h = named_fault at e (fault_front TyQ (Seq NameQ NamedR) at e name_named_word h)

    item_good_by : (ts : List Tok) (l : ItemLead) → ItemIs ts l → GoodItem ts (item_by (ctx t) room ts l)
    item_good_by _ _ (told.record_ {o = o} {u = b} {ts = ts} w) = record_item o b w ts
    item_good_by _ _ (told.enum {ts = ts}) = enum_item ts
    item_good_by _ _ (told.typedef {ts = ts}) = typedef_item ts
    item_good_by _ _ (told.void_function {ts = ts}) = void_read ts (name (ctx t) ts) (name_good types (fresh types) (is_fresh types) t ts)
    item_good_by ts _ told.typed = typed_read ts (type_read (ctx t) room ts) (type_read_good types (fresh types) (is_fresh types) t room ts)

    pub item_good : (ts : List Tok) → GoodItem ts (item_read (ctx t) room ts)
    item_good ts = item_good_by ts (item_at ts) (item_is ts)

-- ---- units

-- the tokens before those at fault, with some behind them, are items
pub record UnitCut (types : List (List ℕ)) (ts : List Tok) (n : ℕ) : Type 0 where
  pub pre : List Tok
  pub wrong : List Tok
  pub more : List Tok
  pub is : ts ≡ pre ++ wrong
  pub size : length wrong ≡ n
  pub items : (t : ℕ) → (ds : List ItemT) × Items (record { total = t; types = types }) (pre ++ more) ds
  pub fits : Fits wrong more

pub record UnitDeep (types : List (List ℕ)) (ts : List Tok) (n : ℕ) : Type 0 where
  pub cut : UnitCut types ts n
  pub begun : Begun cut.wrong cut.more

abbrev UnitFault : List (List ℕ) → List Tok → Fault → Type 0
UnitFault types ts (Syntax n) = UnitCut types ts n
UnitFault types ts (TooDeep n) = UnitDeep types ts n

abbrev GoodUnit : List (List ℕ) → List Tok → Result (Got Unit_so_far) Fault → Type 0
GoodUnit types ts (Ok x) = Unit {0}
GoodUnit types ts (Err f) = UnitFault types ts f

abbrev cut_item : (types after : List (List ℕ)) (ts : List Tok) (n : ℕ) → Cut (ItemR types after) ts n → UnitCut types ts n
cut_item types after ts n c = record {
  pre = c.pre;
  wrong = c.wrong;
  more = c.end ++ [];
  is = c.is;
  size = c.size;
  items = λ t. let x = c.any [] (refl, refl) t in (x.0 ∷ [], u.more x.1 u.end);
  fits = c.fits [] (refl, refl);
}

fault_item : (types after : List (List ℕ)) (ts : List Tok) (f : Fault) → GoodFault (ItemR types after) ts f → UnitFault types ts f
fault_item types after ts (Syntax n) h = cut_item types after ts n h
fault_item types after ts (TooDeep n) h = record { cut = cut_item types after ts n h.cut; begun = record { first = h.begun.first; behind_one = h.begun.behind_one; behind_other = h.begun.behind_other ++ []; one = h.begun.one; other = ap (λ (z : List Tok). z ++ []) h.begun.other } }

abbrev cut_behind_item : (types after : List (List ℕ)) (ts mid : List Tok) (n : ℕ) → Frame (ItemR types after) ts mid → UnitCut after mid n → UnitCut types ts n
cut_behind_item types after ts mid n f c = record {
  pre = f.part ++ c.pre;
  wrong = c.wrong;
  more = c.more;
  is = f.is ∙ ap (λ (z : List Tok). f.part ++ z) c.is ∙ sym (append_assoc f.part c.pre c.wrong);
  size = c.size;
  items = λ t.
      let x = f.any (c.pre ++ c.more) (subst (λ (z : List Tok). Fits z (c.pre ++ c.more)) (sym c.is) (fits_part c.pre c.wrong c.more c.fits)) t in
      let y = c.items t in
      (x.0 ∷ y.0, rw (append_assoc f.part c.pre c.more) (u.more x.1 (subst (λ (z : Context). Items z (c.pre ++ c.more) y.0) (sym x.2) y.1)));
  fits = c.fits;
}

fault_behind_item : (types after : List (List ℕ)) (ts mid : List Tok) (f : Fault) → Frame (ItemR types after) ts mid → UnitFault after mid f → UnitFault types ts f
fault_behind_item types after ts mid (Syntax n) f c = cut_behind_item types after ts mid n f c
fault_behind_item types after ts mid (TooDeep n) f c = record { cut = cut_behind_item types after ts mid n f c.cut; begun = c.begun }

unit_behind_item : (types after : List (List ℕ)) (ts mid : List Tok) (r : Result (Got Unit_so_far) Fault) → Frame (ItemR types after) ts mid → GoodUnit after mid r → GoodUnit types ts r
unit_behind_item types after ts mid (Ok x) f h = tt
unit_behind_item types after ts mid (Err e) f h = fault_behind_item types after ts mid e f h

module _ (t room : ℕ) where
  abbrev start_with : List (List ℕ) → List ItemT → Unit_so_far
  start_with types ds = (record { total = t; types = types }, ds)

  abbrev Going : ℕ → Type 0
  Going n = (types : List (List ℕ)) (ds : List ItemT) (ts : List Tok) → length ts < n → GoodUnit types ts (repeat (item_turn room) n (start_with types ds) ts)

  abbrev taken : List (List ℕ) → List ItemT → Got ItemT → Result (Option (Got Unit_so_far)) Fault
  taken types ds x = Ok (Some ((behind_item x.0 (record { total = t; types = types }), ds ++ x.0 ∷ []), x.1))

  items_go : (n : ℕ) → Going n → (types : List (List ℕ)) (ds : List ItemT) (ts : List Tok) → length ts < suc n → (r : Result (Got ItemT) Fault) → ((x : Got ItemT) → r ≡ Ok x → length x.1 < length ts) → GoodItem types ts r
      → GoodUnit types ts ((r >>= taken types ds) >>= goes_on (repeat (item_turn room) n) (start_with types ds) ts)
  items_go n again types ds ts e (Ok x) s h =
      let shorter = s x refl in
      rw (behind_is x.0 t types, h.says) (unit_behind_item types h.after ts x.1 _ h.good (again h.after (ds ++ x.0 ∷ []) x.1 (omega (arith, shorter, e))))
  items_go n again types ds ts e (Err f) s h = fault_item types h.after ts f h.good

  units_go : (n : ℕ) → Going n
  unfolding repeat
  units_go zero types ds ts e = absurd (omega (arith, e))
  units_go (suc n) types ds [] e = tt
  units_go (suc n) types ds (o ∷ ts) e = items_go n (units_go n) types ds (o ∷ ts) e (item_read (record { total = t; types = types }) room (o ∷ ts))
      (λ x is. items_take (record { total = t; types = types }) room (o ∷ ts) x is) (item_good types t room (o ∷ ts))

unit_fault : (room : ℕ) (ts : List Tok) (f : Fault) → unit_at room ts ≡ Err f → UnitFault [] ts f
unfolding unit_at
unit_fault room ts f e = by (loop (item_turn room) (record { total = length ts; types = [] }, []) ts) (units_go (length ts) room (suc (length ts)) [] [] ts (omega arith)) e
  where
    by : (r : Result (Got Unit_so_far) Fault) → GoodUnit [] ts r → (r >>= λ a. Ok a.0.1) ≡ Err f → UnitFault [] ts f
    by (Ok x) h e = absurd cc
    by (Err g) h e = let same : g ≡ f = cc in subst (λ (z : Fault). UnitFault [] ts z) same h

-- Some unit goes on with the tokens before the one that a fault of syntax names.
pub syntax_begun : (room : ℕ) (ts : List Tok) (n : ℕ) → unit_at room ts ≡ Err (Syntax n) → (pre : List Tok) × (wrong : List Tok) × (more : List Tok) × (ds : List ItemT) × (ts ≡ pre ++ wrong) × (length wrong ≡ n) × Unit_ (pre ++ more) ds
syntax_begun room ts n e =
    let c = unit_fault room ts (Syntax n) e in let x = c.items (length (c.pre ++ c.more)) in
    (c.pre, c.wrong, c.more, x.0, c.is, c.size, x.1)

-- Some unit goes on with the tokens up to and including the one that a fault of depth names.
pub deep_begun : (room : ℕ) (ts : List Tok) (n : ℕ) → unit_at room ts ≡ Err (TooDeep n) → (pre : List Tok) × (o : Tok) × (behind_it : List Tok) × (more : List Tok) × (ds : List ItemT) × (ts ≡ pre ++ (o ∷ behind_it)) × (suc (length behind_it) ≡ n) × Unit_ (pre ++ (o ∷ more)) ds
deep_begun room ts n e =
    let h = unit_fault room ts (TooDeep n) e in let c = h.cut in let b = h.begun in let x = c.items (length (c.pre ++ (b.first ∷ b.behind_other))) in
    (c.pre, b.first, b.behind_one, b.behind_other, x.0, c.is ∙ ap (λ (z : List Tok). c.pre ++ z) b.one, sym (ap length b.one) ∙ c.size, subst (λ (z : List Tok). Items (record { total = length (c.pre ++ (b.first ∷ b.behind_other)); types = [] }) (c.pre ++ z) x.0) b.other x.1)
