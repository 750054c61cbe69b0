-- What is read of variables, members, parameters and values goes on, and what is at fault there can be completed.
use Rattle.std.proofs.Common.{◌≡◌, ℕ, zero, suc, Bool, true, false, List, [], ◌∷◌, ◌++◌, length, Some, Result, Ok, Err, refl, subst, ◌⊎◌, inl, inr}
use Rattle.std.specs.Prelude.{◌||◌, ◌&&◌}
use Rattle.c_tree.specs.Tree.{TypeT}
use Rattle.c_lex.specs.declared.token.Punct.TheVariants as m
use Rattle.c_parse.specs.declared.class.Key.TheVariants as key
use Rattle.c_parse.specs.declared.fault.Fault.{Fault}
use Rattle.c_parse.specs.declared.fault.Fault.TheVariants.{TooDeep}
use Rattle.c_parse.specs.Tok.{Tok, keyword, number, mark}
use Rattle.c_parse.specs.Scope.{Context, is_type, span}
use Rattle.c_parse.specs.inner.Reader.{◌>>=◌, Got, Reader, room_fault, loop, behind, at_close_paren, name}
use Rattle.c_parse.specs.inner.Leads.{begins_expr}
use Rattle.c_parse.specs.inner.Reading.{level_at, expr_at, type_read}
use Rattle.c_parse.proofs.Completion.{Rule, Deep, GoodFault, Good, GoodTurn, Word, Seq, Implies, widen_fault, widen, good_behind, fault_front, bind_good, seq_word, widen_word, first_wrong, first_deep, Repeats, repeats_word, TurnTakes, loop_good}
use Rattle.c_parse.specs.Lists as lists
use Rattle.c_parse.specs.Lists.{Separated, ListEnd}
use Rattle.c_parse.specs.inner.ReadingLists.{separated, more_turn, listed}
use Rattle.c_parse.specs.inner.Reader.{end_list, at_open_brace, at_close_brace, semicolon, at_assign, at_void_word}
use Rattle.c_parse.proofs.OneToken.{TokR, token_frame}
use Rattle.c_tree.specs.Tree.{InitT, OneI, ListI, VarT}
use Rattle.c_tree.specs.View.{inits}
use Rattle.c_parse.specs.Declarations as d
use Rattle.c_parse.specs.Declarations.{Init, Inits, Field, Var, Vars, Member, Members, Param, Params, Value}
use Rattle.c_parse.specs.inner.ReadingDeclarations.{init_by, init_at, bare_var, field, var_by, var, vars_at, member_at, members_by, members_turn, members_at, param_at, params_by, at_void, params_at}
use Rattle.c_parse.proofs.Single.{open_brace_is, assign_is, void_word_is}
use Rattle.c_parse.proofs.Shrinking.{turns_of_fields, turns_of_vars, turns_of_params, turns_of_inits, turns_of_members}
use Rattle.c_parse.proofs.Begins.{NameR, name_word, name_good, ExprR, LevelR, UnaryR, TyR, expr_word, type_word, unary_level, zero_unary, level_expr, unary_deep, type_room, readers_good, plain_level}
use Rattle.c_parse.proofs.BeginsLists.{mapped_good, mapped_tokens, separated_good, listed_good, OneR, SomeR, RestR, rest_repeat, rest_join, some_word, semicolon_good, semicolon_word, list_end_word, end_list_good}

module _ (types : List (List ℕ)) (fresh : List ℕ) (is_fresh : is_type (record { total = 0; types = types }) fresh ≡ false) where
  abbrev ctx : ℕ → Context
  ctx t = record { total = t; types = types }

  abbrev NameQ : Rule
  NameQ = NameR types fresh is_fresh

  abbrev ExprQ : Rule
  ExprQ = ExprR types fresh is_fresh

  abbrev TyQ : Rule
  TyQ = TyR types fresh is_fresh

  abbrev LevelQ : Rule
  LevelQ = LevelR types fresh is_fresh 10

  abbrev name_w : Word NameQ
  name_w = name_word types fresh is_fresh

  abbrev expr_w : Word ExprQ
  expr_w = expr_word types fresh is_fresh

  abbrev type_w : Word TyQ
  type_w = type_word types fresh is_fresh

  pub expr_read_good : (t room : ℕ) (ts : List Tok) → Good ExprQ ts (expr_at (ctx t) room ts)
  expr_read_good t room ts = (readers_good types fresh is_fresh t room).whole ts

  pub type_read_good : (t room : ℕ) (ts : List Tok) → Good TyQ ts (type_read (ctx t) room ts)
  type_read_good t room ts = (readers_good types fresh is_fresh t room).type ts

  pub level_read_good : (t room : ℕ) (ts : List Tok) → Good LevelQ ts (level_at (ctx t) room 10 ts)
  level_read_good t room ts = plain_level types fresh is_fresh 10 ts (level_at (ctx t) room 10 ts) ((readers_good types fresh is_fresh t room).level 10 ts)

  pub zero_expr : (after : List Tok) → ExprQ (number 0 ∷ after) after
  zero_expr after = level_expr types fresh is_fresh (number 0 ∷ after) after (unary_level types fresh is_fresh 10 (number 0 ∷ after) after (zero_unary types fresh is_fresh after))

  -- ---- initial values

  abbrev pub InitQ : Rule
  InitQ ts rest = (t : ℕ) → (i : InitT) × Init (ctx t) ts i rest

  abbrev pub InitsQ : Rule
  InitsQ ts rest = (t : ℕ) → (is : List InitT) × Inits (ctx t) ts is rest

  RestInitsQ : Rule
  RestInitsQ ts rest = (t : ℕ) (us : List Tok) (i : InitT) → Init (ctx t) us i ts → (is : List InitT) × Inits (ctx t) us is rest

  rest_inits : Repeats (Seq (TokR (mark m.Comma)) InitQ) RestInitsQ
  unfolding RestInitsQ
  rest_inits = record {
    ends = λ ts t us i e. (i ∷ [], d.last_init e);
    goes = λ ts mid rest s l t us i e. let b = s.2 t in let y = l t s.0 b.0 b.1 in (i ∷ y.0, d.more_inits (subst (λ (z : List Tok). Init (ctx t) us i z) s.1 e) y.1);
  }

  join_inits : Implies (Seq InitQ RestInitsQ) InitsQ
  unfolding RestInitsQ
  join_inits ts rest s t = let a = s.1 t in s.2 t ts a.0 a.1

  expr_init : Implies ExprQ InitQ
  expr_init ts rest e t = let x = e t in (OneI x.0, d.one x.1)

  pub init_word : Word InitQ
  init_word = widen_word ExprQ InitQ expr_init expr_w

  inits_word : Word InitsQ
  inits_word = record { tokens = init_word.tokens; takes = λ after p t. let a = init_word.takes after p t in (a.0 ∷ [], d.last_init a.1); plain = init_word.plain }

  BracedInitsR : Rule
  BracedInitsR = Seq (TokR (mark m.OpenBrace)) (Seq InitsQ ListEnd)

  braced_init : Implies BracedInitsR InitQ
  unfolding BracedInitsR
  braced_init ts rest s t = let q = s.2 in let x = q.1 t in rw (s.1) (_, d.list x.1 q.2)

  zero_inits : (after : List Tok) → InitsQ (number 0 ∷ after) after
  zero_inits after t = let x = zero_expr after t in (_, d.last_init (d.one x.1))

  brace_init_deep : (ts : List Tok) → Deep InitQ (mark m.OpenBrace ∷ ts) (suc (length ts))
  unfolding BracedInitsR
  brace_init_deep ts = first_deep InitQ (mark m.OpenBrace) ts (number 0 ∷ mark m.CloseBrace ∷ [])
      (λ after p. braced_init _ after (_, refl, (_, zero_inits (mark m.CloseBrace ∷ after), lists.brace)))

  expr_init_deep : (t : ℕ) (ts : List Tok) → begins_expr (ctx t) ts ≡ true → Deep InitQ ts (length ts)
  expr_init_deep t ts e = widen_fault (UnaryR types fresh is_fresh) InitQ (λ us vs u. expr_init us vs (level_expr types fresh is_fresh us vs (unary_level types fresh is_fresh 10 us vs u))) ts (TooDeep (length ts)) (unary_deep types fresh is_fresh t ts e)

  init_room : (t : ℕ) (ts : List Tok) (b : Bool) → at_open_brace ts ≡ b → (c : Bool) → begins_expr (ctx t) ts ≡ c → GoodFault InitQ ts (room_fault (b || c) ts)
  init_room t ts false e false f = first_wrong InitQ ts init_word
  init_room t ts false e true f = expr_init_deep t ts f
  init_room t [] true e c f = absurd cc
  init_room t (o ∷ ts) true e c f = rw (open_brace_is o e) (brace_init_deep ts)

  inner_good : (at ts : List Tok) (t : ℕ) (inner : Reader InitT) → ((us : List Tok) → Good InitQ us (inner us)) → TurnTakes (more_turn inner)
      → Good (Seq InitsQ ListEnd) ts (listed inner ts >>= λ is. end_list is.1 >>= λ rest. Ok (ListI (inits is.0) (span (ctx t) at rest), rest))
  inner_good at ts t inner h take = bind_good InitsQ ListEnd list_end_word ts (listed inner ts) (λ is. end_list is.1 >>= λ rest. Ok (ListI (inits is.0) (span (ctx t) at rest), rest))
      (listed_good InitQ RestInitsQ InitsQ rest_inits join_inits inner h take ts) (λ x e. mapped_tokens ListEnd (λ rest. ListI (inits x.0) (span (ctx t) at rest)) x.1 (end_list x.1) (end_list_good x.1))

  init_good_by : (t room : ℕ) (inner : Reader InitT) → ((us : List Tok) → Good InitQ us (inner us)) → TurnTakes (more_turn inner) → (ts : List Tok) (b : Bool) → at_open_brace ts ≡ b → Good InitQ ts (init_by (ctx t) room inner ts b)
  unfolding BracedInitsR
  init_good_by t room inner h take ts false e = widen ExprQ InitQ expr_init ts _ (mapped_good ExprQ (λ e. OneI e.0) ts (expr_at (ctx t) room ts) (expr_read_good t room ts))
  init_good_by t room inner h take [] true e = absurd cc
  init_good_by t room inner h take (o ∷ ts) true e = rw (open_brace_is o e) (widen BracedInitsR InitQ braced_init (mark m.OpenBrace ∷ ts) _
      (good_behind (TokR (mark m.OpenBrace)) (Seq InitsQ ListEnd) (mark m.OpenBrace ∷ ts) ts _ (token_frame (mark m.OpenBrace) ts) (inner_good (mark m.OpenBrace ∷ ts) ts t inner h take)))

  pub init_good : (t room : ℕ) (ts : List Tok) → Good InitQ ts (init_at (ctx t) room ts)
  unfolding init_at
  init_good t zero ts = init_room t ts (at_open_brace ts) refl (begins_expr (ctx t) ts) refl
  init_good t (suc room) ts = init_good_by t room (init_at (ctx t) room) (λ us. init_good t room us) (turns_of_inits (ctx t) room) ts (at_open_brace ts) refl

  -- ---- names with a type

  abbrev pub FieldQ : ℕ → TypeT → List Tok → VarT → List Tok → Type 0
  FieldQ t y ts v rest = Field (ctx t) y ts v rest

  abbrev pub VarQ : ℕ → TypeT → List Tok → VarT → List Tok → Type 0
  VarQ t y ts v rest = Var (ctx t) y ts v rest

  name_field : Implies NameQ (OneR FieldQ)
  name_field ts rest n t y = rw (n.1) (_, d.field n.2)

  pub field_good : (t : ℕ) (y : TypeT) (ts : List Tok) → Good (OneR FieldQ) ts (field (ctx t) y ts)
  field_good t y ts = widen NameQ (OneR FieldQ) name_field ts _ (mapped_good NameQ (λ n. bare_var (ctx t) y n.0 ts n.1) ts (name (ctx t) ts) (name_good types fresh is_fresh t ts))

  pub field_word : Word (OneR FieldQ)
  field_word = widen_word NameQ (OneR FieldQ) name_field name_w

  pub AssignInitR : Rule
  AssignInitR = Seq (TokR (mark m.Assign)) InitQ

  abbrev pub VarTailR : Rule
  VarTailR ts rest = (ts ≡ rest) ⊎ AssignInitR ts rest

  pub zero_tail : (after : List Tok) → VarTailR (mark m.Assign ∷ number 0 ∷ after) after
  unfolding AssignInitR
  zero_tail after = inr (_, refl, λ t. let e = zero_expr after t in (_, d.one e.1))

  var_tail_word : Word VarTailR
  var_tail_word = record { tokens = []; takes = λ after p. inl refl; plain = λ after p. p }

  pub named_var : (ts mid rest : List Tok) → NameQ ts mid → VarTailR mid rest → OneR VarQ ts rest
  unfolding AssignInitR
  named_var ts mid rest n (inl e) t y = rw (n.1, e) (_, d.plain_var (d.field n.2))
  named_var ts mid rest n (inr s) t y = let i = s.2 t in rw (n.1, s.1) (_, d.set_var n.2 i.1)

  abbrev with_init : Context → TypeT → List ℕ → List Tok → Got InitT → Result (Got VarT) Fault
  with_init c y n at i = Ok (record { ty = y; name = n; init = Some i.0; span = span c at i.1 }, i.1)

  var_tail_good : (t room : ℕ) (y : TypeT) (at : List Tok) (n : List ℕ) (ts : List Tok) (b : Bool) → at_assign ts ≡ b → Good VarTailR ts (var_by (ctx t) room y at (n, ts) b)
  unfolding AssignInitR
  var_tail_good t room y at n ts false e = record { part = []; is = refl; any = λ after w. inl refl }
  var_tail_good t room y at n [] true e = absurd cc
  var_tail_good t room y at n (o ∷ ts) true e = rw (assign_is o e) (widen (Seq (TokR (mark m.Assign)) InitQ) VarTailR (λ us vs s. inr s) (mark m.Assign ∷ ts) _ (good_behind (TokR (mark m.Assign)) InitQ (mark m.Assign ∷ ts) ts _ (token_frame (mark m.Assign) ts)
      (set_good (init_at (ctx t) room ts) (init_good t room ts))))
    where
      set_good : (x : Result (Got InitT) Fault) → Good InitQ ts x → Good InitQ ts (x >>= with_init (ctx t) y n at)
      set_good (Ok x) h = h
      set_good (Err f) h = h

  pub var_good : (t room : ℕ) (y : TypeT) (ts : List Tok) → Good (OneR VarQ) ts (var (ctx t) room y ts)
  var_good t room y ts = widen (Seq NameQ VarTailR) (OneR VarQ) (λ us rest s. named_var us s.0 rest s.1 s.2) ts (var (ctx t) room y ts)
      (bind_good NameQ VarTailR var_tail_word ts (name (ctx t) ts) (λ n. var_by (ctx t) room y ts n (at_assign n.1)) (name_good types fresh is_fresh t ts) (λ x e. var_tail_good t room y ts x.0 x.1 (at_assign x.1) refl))

  pub var_word : Word (OneR VarQ)
  var_word = widen_word (OneR FieldQ) (OneR VarQ) (λ us vs f t y. let x = f t y in (x.0, d.plain_var x.1)) field_word

  -- ---- lists of names with a type

  abbrev pub VarsQ : Rule
  VarsQ ts rest = (t : ℕ) → (vs : List VarT) × Vars (ctx t) ts vs rest

  abbrev SepVarsR : Rule
  SepVarsR = SomeR VarQ

  abbrev SepFieldsR : Rule
  SepFieldsR = SomeR FieldQ

  sep_vars_word : Word SepVarsR
  sep_vars_word = some_word VarQ var_word

  sep_fields_word : Word SepFieldsR
  sep_fields_word = some_word FieldQ field_word

  sep_vars_good : (t room : ℕ) (y : TypeT) (ts : List Tok) → Good SepVarsR ts (separated (var (ctx t) room y) ts)
  sep_vars_good t room y ts = separated_good (OneR VarQ) (RestR VarQ) SepVarsR (rest_repeat VarQ) (rest_join VarQ) (var (ctx t) room y) (λ us. var_good t room y us) (turns_of_vars (ctx t) room y) ts

  sep_fields_good : (t : ℕ) (y : TypeT) (ts : List Tok) → Good SepFieldsR ts (separated (field (ctx t) y) ts)
  sep_fields_good t y ts = separated_good (OneR FieldQ) (RestR FieldQ) SepFieldsR (rest_repeat FieldQ) (rest_join FieldQ) (field (ctx t) y) (λ us. field_good t y us) (turns_of_fields (ctx t) y) ts

  typed_vars : Implies (Seq TyQ SepVarsR) VarsQ
  typed_vars ts rest s t = let y = s.1 t in let x = s.2 t y.0 in (x.0, d.vars y.1 x.1)

  pub vars_word : Word VarsQ
  vars_word = widen_word (Seq TyQ SepVarsR) VarsQ typed_vars (seq_word TyQ SepVarsR type_w sep_vars_word)

  pub vars_deep : (ts : List Tok) → Deep TyQ ts (length ts) → Deep VarsQ ts (length ts)
  vars_deep ts h = widen_fault (Seq TyQ SepVarsR) VarsQ typed_vars ts (TooDeep (length ts)) (fault_front TyQ SepVarsR ts (TooDeep (length ts)) sep_vars_word h)

  pub vars_good : (t room : ℕ) (ts : List Tok) → Good VarsQ ts (vars_at (ctx t) room ts)
  unfolding vars_at
  vars_good t zero ts = type_room types fresh is_fresh VarsQ vars_word vars_deep t ts
  vars_good t (suc room) ts = widen (Seq TyQ SepVarsR) VarsQ typed_vars ts _ (bind_good TyQ SepVarsR sep_vars_word ts (type_read (ctx t) room ts) (λ y. separated (var (ctx t) room y.0) y.1) (type_read_good t room ts) (λ x e. sep_vars_good t room x.0 x.1))

  -- ---- members

  abbrev pub MemberQ : Rule
  MemberQ ts rest = (t : ℕ) → (vs : List VarT) × Member (ctx t) ts vs rest

  abbrev FieldsSemiR : Rule
  FieldsSemiR = Seq SepFieldsR (TokR (mark m.Semicolon))

  fields_semi_word : Word FieldsSemiR
  fields_semi_word = seq_word SepFieldsR (TokR (mark m.Semicolon)) sep_fields_word semicolon_word

  typed_member : Implies (Seq TyQ FieldsSemiR) MemberQ
  typed_member ts rest s t = let q = s.2 in let y = s.1 t in let x = q.1 t y.0 in (x.0, d.member y.1 (subst (λ (z : List Tok). Separated (FieldQ t y.0) s.0 x.0 z) q.2 x.1))

  pub member_word : Word MemberQ
  member_word = widen_word (Seq TyQ FieldsSemiR) MemberQ typed_member (seq_word TyQ FieldsSemiR type_w fields_semi_word)

  member_deep : (ts : List Tok) → Deep TyQ ts (length ts) → Deep MemberQ ts (length ts)
  member_deep ts h = widen_fault (Seq TyQ FieldsSemiR) MemberQ typed_member ts (TooDeep (length ts)) (fault_front TyQ FieldsSemiR ts (TooDeep (length ts)) fields_semi_word h)

  fields_semi_good : (t : ℕ) (y : TypeT) (ts : List Tok) → Good FieldsSemiR ts (separated (field (ctx t) y) ts >>= λ vs. semicolon vs.1 >>= λ rest. Ok (vs.0, rest))
  fields_semi_good t y ts = bind_good SepFieldsR (TokR (mark m.Semicolon)) semicolon_word ts (separated (field (ctx t) y) ts) (λ vs. semicolon vs.1 >>= λ rest. Ok (vs.0, rest)) (sep_fields_good t y ts)
      (λ x e. mapped_tokens (TokR (mark m.Semicolon)) (λ rest. x.0) x.1 (semicolon x.1) (semicolon_good x.1))

  pub member_good : (t room : ℕ) (ts : List Tok) → Good MemberQ ts (member_at (ctx t) room ts)
  unfolding member_at
  member_good t zero ts = type_room types fresh is_fresh MemberQ member_word member_deep t ts
  member_good t (suc room) ts = widen (Seq TyQ FieldsSemiR) MemberQ typed_member ts _ (bind_good TyQ FieldsSemiR fields_semi_word ts (type_read (ctx t) room ts) (λ y. separated (field (ctx t) y.0) y.1 >>= λ vs. semicolon vs.1 >>= λ rest. Ok (vs.0, rest))
      (type_read_good t room ts) (λ x e. fields_semi_good t x.0 x.1))

  abbrev pub MembersQ : Rule
  MembersQ ts rest = (t : ℕ) → (vs : List VarT) × Members (ctx t) ts vs rest

  -- members behind some
  RestMembersQ : Rule
  RestMembersQ ts rest = (t : ℕ) (us : List Tok) (vs : List VarT) → Member (ctx t) us vs ts → (ws : List VarT) × Members (ctx t) us ws rest

  rest_members : Repeats MemberQ RestMembersQ
  unfolding RestMembersQ
  rest_members = record {
    ends = λ ts t us vs e. (vs, d.last_member e);
    goes = λ ts mid rest s l t us vs e. let b = s t in let y = l t ts b.0 b.1 in (vs ++ y.0, d.more_members e y.1);
  }

  join_members : Implies (Seq MemberQ RestMembersQ) MembersQ
  unfolding RestMembersQ
  join_members ts rest s t = let a = s.1 t in s.2 t ts a.0 a.1

  members_turn_good : (t room : ℕ) (vs : List VarT) (ts : List Tok) (b : Bool) → GoodTurn MemberQ ts (members_by (ctx t) room vs ts b)
  members_turn_good t room vs ts true = tt
  members_turn_good t room vs ts false = taken (member_at (ctx t) room ts) (member_good t room ts)
    where
      taken : (x : Result (Got (List VarT)) Fault) → Good MemberQ ts x → GoodTurn MemberQ ts (x >>= λ us. Ok (Some (vs ++ us.0, us.1)))
      taken (Ok x) h = h
      taken (Err f) h = h

  pub members_good : (t room : ℕ) (ts : List Tok) → Good MembersQ ts (members_at (ctx t) room ts)
  members_good t room ts = widen (Seq MemberQ RestMembersQ) MembersQ join_members ts (members_at (ctx t) room ts) (bind_good MemberQ RestMembersQ (repeats_word MemberQ RestMembersQ rest_members) ts (member_at (ctx t) room ts)
      (λ vs. loop (members_turn (ctx t) room) vs.0 vs.1) (member_good t room ts) (λ x e. loop_good MemberQ RestMembersQ rest_members (members_turn (ctx t) room) (turns_of_members (ctx t) room) (λ vs us. members_turn_good t room vs us (at_close_brace us)) x.0 x.1))

  pub members_word : Word MembersQ
  members_word = widen_word MemberQ MembersQ (λ us vs m t. let x = m t in (x.0, d.last_member x.1)) member_word

  -- ---- parameters

  abbrev ParamQ : ℕ → Bool → List Tok → VarT → List Tok → Type 0
  ParamQ t b ts v rest = Param (ctx t) ts v rest

  typed_param : Implies (Seq TyQ (OneR FieldQ)) (OneR ParamQ)
  typed_param ts rest s t b = let y = s.1 t in let x = s.2 t y.0 in (x.0, d.param y.1 x.1)

  param_word : Word (OneR ParamQ)
  param_word = widen_word (Seq TyQ (OneR FieldQ)) (OneR ParamQ) typed_param (seq_word TyQ (OneR FieldQ) type_w field_word)

  param_deep : (ts : List Tok) → Deep TyQ ts (length ts) → Deep (OneR ParamQ) ts (length ts)
  param_deep ts h = widen_fault (Seq TyQ (OneR FieldQ)) (OneR ParamQ) typed_param ts (TooDeep (length ts)) (fault_front TyQ (OneR FieldQ) ts (TooDeep (length ts)) field_word h)

  param_good : (t room : ℕ) (ts : List Tok) → Good (OneR ParamQ) ts (param_at (ctx t) room ts)
  unfolding param_at
  param_good t zero ts = type_room types fresh is_fresh (OneR ParamQ) param_word param_deep t ts
  param_good t (suc room) ts = widen (Seq TyQ (OneR FieldQ)) (OneR ParamQ) typed_param ts _ (bind_good TyQ (OneR FieldQ) field_word ts (type_read (ctx t) room ts) (λ y. field (ctx t) y.0 y.1) (type_read_good t room ts) (λ x e. field_good t x.0 x.1))

  abbrev pub ParamsQ : Rule
  ParamsQ ts rest = (t : ℕ) → (vs : List VarT) × Params (ctx t) ts vs rest

  some_params_rule : Implies (SomeR ParamQ) ParamsQ
  some_params_rule ts rest s t = let x = s t true in (x.0, d.some_params x.1)

  params_good_by : (t room : ℕ) (ts : List Tok) (b void : Bool) → (void ≡ true → at_void_word ts ≡ true) → Good ParamsQ ts (params_by (ctx t) room ts b void)
  params_good_by t room ts true void e = record { part = []; is = refl; any = λ after w v. ([], d.no_params) }
  params_good_by t room [] false true e = let bad : false ≡ true = e refl in absurd cc
  params_good_by t room (o ∷ ts) false true e = rw (void_word_is o (e refl)) (record { part = keyword key.Void ∷ []; is = refl; any = λ after w v. ([], d.void_params) })
  params_good_by t room ts false false e = widen (SomeR ParamQ) ParamsQ some_params_rule ts _ (separated_good (OneR ParamQ) (RestR ParamQ) (SomeR ParamQ) (rest_repeat ParamQ) (rest_join ParamQ) (param_at (ctx t) room) (λ us. param_good t room us) (turns_of_params (ctx t) room) ts)

  void_first : (ts : List Tok) → at_void ts ≡ true → at_void_word ts ≡ true
  void_first ts e = by (at_void_word ts) refl e
    where
      by : (b : Bool) → at_void_word ts ≡ b → (b && at_close_paren (behind ts)) ≡ true → at_void_word ts ≡ true
      by true is f = is
      by false is f = absurd cc

  pub params_good : (t room : ℕ) (ts : List Tok) → Good ParamsQ ts (params_at (ctx t) room ts)
  params_good t room ts = params_good_by t room ts (at_close_paren ts) (at_void ts) (void_first ts)

  pub params_word : Word ParamsQ
  params_word = record { tokens = []; takes = λ after p t. ([], d.no_params); plain = λ after p. p }
