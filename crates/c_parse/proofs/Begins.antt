-- What is read of expressions and types goes on, and what is at fault there can be completed.
use Rattle.std.proofs.Common.{◌≡◌, ℕ, zero, suc, Bool, true, false, cond, eqb, List, [], ◌∷◌, ◌++◌, length, Option, Some, None, Result, Ok, Err, refl, sym, ap, subst, ◌∙◌, arith, ◌⊎◌, inl, inr}
use Rattle.std.specs.Prelude.{nat_lt, ◌||◌}
use Rattle.std.proofs.lemmas.Bool.{eqb-true}
use Rattle.c_tree.specs.declared.operator.UnOp.{UnOp}
use Rattle.c_tree.specs.declared.operator.StepOp.{StepOp}
use Rattle.c_tree.specs.declared.operator.BinOp.{BinOp}
use Rattle.c_tree.specs.Tree.{ExprT, ParenE, UnaryE, BinaryE, AssignE, StepE, IndexE, MemberE, ArrowE, CallE, CastE, SizeOfE, TypeT, IntY, BoolY, VoidY, NamedY, PointerY, ArrayY}
use Rattle.c_tree.specs.View.{exprs}
use Rattle.c_tree.specs.Depth.{expr_depth, type_depth}
use Rattle.c_lex.specs.declared.token.Punct.TheVariants as m
use Rattle.c_parse.specs.declared.class.Key.TheVariants as key
use Rattle.c_parse.specs.declared.fault.Fault.{Fault}
use Rattle.c_parse.specs.declared.fault.Fault.TheVariants.{TooDeep}
use Rattle.c_parse.specs.declared.lead.Start.{Start}
use Rattle.c_parse.specs.declared.lead.Start.TheVariants as start
use Rattle.c_parse.specs.declared.lead.Lead.{Lead}
use Rattle.c_parse.specs.declared.lead.Lead.TheVariants as lead
use Rattle.c_parse.specs.declared.lead.Suffix.{Suffix}
use Rattle.c_parse.specs.declared.lead.Suffix.TheVariants as suffix
use Rattle.c_parse.specs.declared.lead.TypeLead.{TypeLead}
use Rattle.c_parse.specs.declared.lead.TypeMark.{TypeMark}
use Rattle.c_parse.specs.Tok.{Tok, keyword, refused, word, number, character, text, mark}
use Rattle.c_parse.specs.Scope.{Context, is_type, span}
use Rattle.c_parse.specs.Marks.{prefix, step_before, step_behind, binary, assigner}
use Rattle.c_parse.specs.Grammar as g
use Rattle.c_parse.specs.Grammar.{NoBracket, Base, Ty, Run, Expr, Level, Tail, Unary, Suffixes, Primary, Exprs}
use Rattle.c_parse.specs.inner.Reader.{◌>>=◌, Got, bad, deep, room_fault, goes_on, repeat, loop, behind, at_open_bracket, at_open_paren, open_paren, at_close_paren, close_paren, close_bracket, at_comma, at_star, name}
use Rattle.c_parse.specs.inner.Leads.{type_at, begins_type, type_mark_at, start_at, is_some_type, is_some_start, is_some_lead, begins_expr, lead_at, suffix_at}
use Rattle.c_parse.specs.inner.Reading.{Readers, run_more, run_with, type_mark_by, type_mark_turn, base_by, type_with, exprs_by, exprs_turn, exprs_with, arguments_by, arguments_with, named_by, primary_by, primary_with, suffix_by, is_some_suffix, suffix_turn_by, suffix_turn, postfix_with, unary_by, unary_with, of_level, operator_at, operator_by, operator_turn, level_with, is_unary, assigner_at, assigner_behind, assign_by, whole_with, readers}
use Rattle.c_parse.proofs.Told as told
use Rattle.c_parse.proofs.Told.{StartIs, start_is, LeadIs, lead_is, SuffixIs, suffix_is, TypeIs, type_is, TypeMarkIs, type_mark_is}
use Rattle.c_parse.proofs.Single.{no_bracket, open_paren_is, close_paren_is, open_bracket_is, comma_is, star_is}
use Rattle.c_parse.proofs.Shrinking.{turns_of_types, turns_of_exprs, turns_of_suffixes, turns_of_operators}
use Rattle.c_parse.proofs.Completion.{Rule, Frame, Deep, GoodFault, Good, GoodTokens, GoodTurn, Word, Seq, Implies, widen_fault, widen_frame, widen, good_behind, fault_behind, frame_seq, fault_front, bind_good, bind_good_tokens, seq_word, first_wrong, first_deep, Repeats, repeats_word, TurnTakes, repeat_good, loop_good, above_good, above_turn_good}
use Rattle.c_parse.proofs.OneToken.{fits_no_bracket, TokR, close_bracket_good, close_bracket_word, close_paren_good, close_paren_word, open_paren_good, token_frame, token_word}

-- the rules under these names of types, of which fresh is none
module _ (types : List (List ℕ)) (fresh : List ℕ) (is_fresh : is_type (record { total = 0; types = types }) fresh ≡ false) where
  abbrev pub context_of : ℕ → Context
  context_of t = record { total = t; types = types }

  abbrev pub NameR : Rule
  NameR ts rest = (n : List ℕ) × (ts ≡ word n ∷ rest) × (is_type (context_of 0) n ≡ false)

  pub name_word : Word NameR
  name_word = record { tokens = word fresh ∷ []; takes = λ after p. (fresh, refl, is_fresh); plain = λ after p. (refl, refl) }

  name_frame : (n : List ℕ) (ts : List Tok) → is_type (context_of 0) n ≡ false → Frame NameR (word n ∷ ts) ts
  name_frame n ts e = record { part = word n ∷ []; is = refl; any = λ after w. (n, refl, e) }

  named_good : (t : ℕ) (n : List ℕ) (ts : List Tok) (b : Bool) → is_type (context_of t) n ≡ b → Good NameR (word n ∷ ts) (cond (cond b false true) (Ok (n, ts)) (bad (word n ∷ ts)))
  named_good t n ts true e = first_wrong NameR (word n ∷ ts) name_word
  named_good t n ts false e = name_frame n ts e

  pub name_good : (t : ℕ) (ts : List Tok) → Good NameR ts (name (context_of t) ts)
  name_good t [] = first_wrong NameR [] name_word
  name_good t (keyword k ∷ ts) = first_wrong NameR (keyword k ∷ ts) name_word
  name_good t (refused n ∷ ts) = first_wrong NameR (refused n ∷ ts) name_word
  name_good t (word n ∷ ts) = named_good t n ts (is_type (context_of t) n) refl
  name_good t (number n ∷ ts) = first_wrong NameR (number n ∷ ts) name_word
  name_good t (character n ∷ ts) = first_wrong NameR (character n ∷ ts) name_word
  name_good t (text n ∷ ts) = first_wrong NameR (text n ∷ ts) name_word
  name_good t (mark p ∷ ts) = first_wrong NameR (mark p ∷ ts) name_word

  -- ---- the rules of the grammar, for some tree each

  abbrev pub ExprR : Rule
  ExprR ts rest = (t : ℕ) → (e : ExprT) × Expr (context_of t) ts e rest

  abbrev pub LevelR : ℕ → Rule
  LevelR k ts rest = (t : ℕ) → (e : ExprT) × Level (context_of t) k ts e rest

  abbrev pub UnaryR : Rule
  UnaryR ts rest = (t : ℕ) → (e : ExprT) × Unary (context_of t) ts e rest

  abbrev pub PrimaryR : Rule
  PrimaryR ts rest = (t : ℕ) → (e : ExprT) × Primary (context_of t) ts e rest

  abbrev pub SuffixesR : Rule
  SuffixesR ts rest = (t : ℕ) (at : List Tok) (a : ExprT) → (e : ExprT) × Suffixes (context_of t) at a ts e rest

  abbrev pub TailR : ℕ → Rule
  TailR k ts rest = (t : ℕ) (at : List Tok) (a : ExprT) → (e : ExprT) × Tail (context_of t) k at a ts e rest

  abbrev pub ExprsR : Rule
  ExprsR ts rest = (t : ℕ) → (es : List ExprT) × Exprs (context_of t) ts es rest

  abbrev pub TyR : Rule
  TyR ts rest = (t : ℕ) → (y : TypeT) × Ty (context_of t) ts y rest

  abbrev pub MarksR : Rule
  MarksR ts rest = (t : ℕ) (a : TypeT) → (y : TypeT) × g.Marks (context_of t) a ts y rest

  -- a whole run of brackets
  abbrev pub RunR : Rule
  RunR ts rest = ((t : ℕ) (a : TypeT) → (b : TypeT) × Run (context_of t) a ts b rest) × (at_open_bracket rest ≡ false)

  pub unary_level : (k : ℕ) (ts rest : List Tok) → UnaryR ts rest → LevelR k ts rest
  unary_level zero ts rest u t = let x = u t in (x.0, g.unary x.1)
  unary_level (suc k) ts rest u t = let x = unary_level k ts rest u t in (x.0, g.level x.1 g.ended)

  pub level_expr : (ts rest : List Tok) → LevelR 10 ts rest → ExprR ts rest
  level_expr ts rest l t = let x = l t in (x.0, g.plain x.1)

  pub zero_unary : (after : List Tok) → UnaryR (number 0 ∷ after) after
  zero_unary after t = (_, g.postfix (g.valued refl) g.bare)

  pub unary_word : Word UnaryR
  unary_word = record { tokens = number 0 ∷ []; takes = λ after p. zero_unary after; plain = λ after p. (refl, refl) }

  pub level_word : (k : ℕ) → Word (LevelR k)
  level_word k = record { tokens = number 0 ∷ []; takes = λ after p. unary_level k (number 0 ∷ after) after (zero_unary after); plain = λ after p. (refl, refl) }

  pub expr_word : Word ExprR
  expr_word = record { tokens = number 0 ∷ []; takes = λ after p. level_expr (number 0 ∷ after) after (unary_level 10 (number 0 ∷ after) after (zero_unary after)); plain = λ after p. (refl, refl) }

  pub paren_deep : (ts : List Tok) → Deep UnaryR (mark m.OpenParen ∷ ts) (suc (length ts))
  paren_deep ts = first_deep UnaryR (mark m.OpenParen) ts (number 0 ∷ mark m.CloseParen ∷ [])
      (λ after p v. let x = level_expr _ _ (unary_level 10 _ _ (zero_unary (mark m.CloseParen ∷ after))) v in (_, g.postfix (g.paren x.1) g.bare))

  pub int_type : (after : List Tok) → TyR (keyword key.Int ∷ after) after
  int_type after t = (IntY, g.type g.int g.unmarked)

  pub type_word : Word TyR
  type_word = record { tokens = keyword key.Int ∷ []; takes = λ after p. int_type after; plain = λ after p. (refl, refl) }

  -- ---- the readers at one less room

  abbrev pub GoodLevel : ℕ → List Tok → Result (Got ExprT) Fault → Type 0
  GoodLevel k ts (Ok x) = Frame (LevelR k) ts x.1 × (is_unary x.0 ≡ true → Frame UnaryR ts x.1)
  GoodLevel k ts (Err e) = GoodFault (LevelR k) ts e

  pub record GoodReaders (t : ℕ) (r : Readers) : Type 0 where
    pub level : (k : ℕ) (ts : List Tok) → GoodLevel k ts (r.level k ts)
    pub whole : (ts : List Tok) → Good ExprR ts (r.whole ts)
    pub type : (ts : List Tok) → Good TyR ts (r.type ts)
    pub run : (a : TypeT) (ts : List Tok) → Good RunR (mark m.OpenBracket ∷ ts) (r.run a (mark m.OpenBracket ∷ ts))
    pub types_take : (room : ℕ) → TurnTakes (type_mark_turn r room)
    pub exprs_take : TurnTakes (exprs_turn r)
    pub suffixes_take : (room : ℕ) (at : List Tok) → TurnTakes (suffix_turn (context_of t) r room at)
    pub operators_take : (room k : ℕ) (at : List Tok) → TurnTakes (operator_turn (context_of t) r room k at)

  pub plain_level : (k : ℕ) (ts : List Tok) (r : Result (Got ExprT) Fault) → GoodLevel k ts r → Good (LevelR k) ts r
  plain_level k ts (Ok x) g = g.0
  plain_level k ts (Err e) g = g

  unary_good_level : (ts : List Tok) (r : Result (Got ExprT) Fault) → Good UnaryR ts r → GoodLevel zero ts r
  unary_good_level ts (Ok x) g = (widen_frame UnaryR (LevelR zero) (unary_level zero) ts x.1 g, λ e. g)
  unary_good_level ts (Err e) g = widen_fault UnaryR (LevelR zero) (unary_level zero) ts e g

  zero_level_unary : (ts rest : List Tok) → LevelR zero ts rest → UnaryR ts rest
  zero_level_unary ts rest l t = of (l t)
    where
      inside : {c : Context} {us vs : List Tok} {e : ExprT} → Level c zero us e vs → Unary c us e vs
      inside (g.unary u) = u

      of : (e : ExprT) × Level (context_of t) zero ts e rest → (e : ExprT) × Unary (context_of t) ts e rest
      of x = (x.0, inside x.1)

  abbrev MoreR : Rule
  MoreR ts rest = ((ts ≡ rest) × (at_open_bracket rest ≡ false)) ⊎ RunR ts rest

  more_word : Word MoreR
  more_word = record { tokens = []; takes = λ after p. inl (refl, p.1); plain = λ after p. p }

  abbrev SizedR : Rule
  SizedR = Seq (LevelR 10) (Seq (TokR (mark m.CloseBracket)) MoreR)

  sized_word : Word SizedR
  sized_word = seq_word (LevelR 10) (Seq (TokR (mark m.CloseBracket)) MoreR) (level_word 10) (seq_word (TokR (mark m.CloseBracket)) MoreR close_bracket_word more_word)

  bracket_run : (ts mid end rest : List Tok) → LevelR 10 ts mid → mid ≡ mark m.CloseBracket ∷ end → MoreR end rest → RunR (mark m.OpenBracket ∷ ts) rest
  bracket_run ts mid end rest l e (inl s) = ((λ t a. let x = l t in (ArrayY a x.0, g.bracket (subst (λ (z : List Tok). Level (context_of t) 10 ts x.0 z) (e ∙ ap (λ (z : List Tok). mark m.CloseBracket ∷ z) s.0) x.1))), s.1)
  bracket_run ts mid end rest l e (inr s) = ((λ t a. let x = l t in let y = s.0 t a in (ArrayY y.0 x.0, g.brackets (subst (λ (z : List Tok). Level (context_of t) 10 ts x.0 z) e x.1) y.1)), s.1)

  sized_run : Implies (Seq (TokR (mark m.OpenBracket)) SizedR) RunR
  sized_run ts rest s = rw (s.1) (bracket_run s.0 s.2.0 s.2.2.0 rest s.2.1 s.2.2.1 s.2.2.2)

  -- stars and runs of brackets
  MarkR : Rule
  MarkR ts rest = (ts ≡ mark m.Star ∷ rest) ⊎ RunR ts rest

  star_marks : (ts mid rest : List Tok) → ts ≡ mark m.Star ∷ mid → MarksR mid rest → MarksR ts rest
  star_marks ts mid rest e l t a = let x = l t (PointerY a) in (x.0, rw e (g.pointer x.1))

  run_marks : (ts mid rest : List Tok) → RunR ts mid → MarksR mid rest → MarksR ts rest
  run_marks ts mid rest s l t a = let b = s.0 t a in let x = l t b.0 in (x.0, g.array b.1 (no_bracket mid s.1) x.1)

  marks_repeat : Repeats MarkR MarksR
  unfolding MarkR
  marks_repeat = record { ends = λ ts t a. (a, g.unmarked); goes = λ ts mid rest h l. join ts mid rest h l }
    where
      join : (ts mid rest : List Tok) → (ts ≡ mark m.Star ∷ mid) ⊎ RunR ts mid → MarksR mid rest → MarksR ts rest
      join ts mid rest (inl e) l = star_marks ts mid rest e l
      join ts mid rest (inr s) l = run_marks ts mid rest s l

  run_deep : (ts : List Tok) → Deep RunR (mark m.OpenBracket ∷ ts) (suc (length ts))
  run_deep ts = first_deep RunR (mark m.OpenBracket) ts (number 0 ∷ mark m.CloseBracket ∷ [])
      (λ after p. sized_run (mark m.OpenBracket ∷ number 0 ∷ mark m.CloseBracket ∷ after) after (_, refl, (_, unary_level 10 _ _ (zero_unary (mark m.CloseBracket ∷ after)), (_, refl, inl (refl, p.1)))))

  module _ (t : ℕ) (r : Readers) (all : GoodReaders t r) where
    more_good : (a : TypeT) (e : ExprT) (ts : List Tok) (b : Bool) → at_open_bracket ts ≡ b → Good MoreR ts (run_more r a e ts b)
    more_good a e ts false h = record { part = []; is = refl; any = λ after w. inl (refl, fits_no_bracket ts after h w) }
    more_good a e [] true h = absurd cc
    more_good a e (o ∷ ts) true h = rw (open_bracket_is o h) (widen RunR MoreR (λ us vs x. inr x) (mark m.OpenBracket ∷ ts) (r.run a (mark m.OpenBracket ∷ ts) >>= λ b. Ok (ArrayY b.0 e, b.1)) (kept (r.run a (mark m.OpenBracket ∷ ts)) (all.run a ts)))
      where
        kept : (x : Result (Got TypeT) Fault) → Good RunR (mark m.OpenBracket ∷ ts) x → Good RunR (mark m.OpenBracket ∷ ts) (x >>= λ b. Ok (ArrayY b.0 e, b.1))
        kept (Ok x) g = g
        kept (Err f) g = g

    closed_more_good : (a : TypeT) (e : ExprT) (ts : List Tok) → Good (Seq (TokR (mark m.CloseBracket)) MoreR) ts (close_bracket ts >>= λ mid. run_more r a e mid (at_open_bracket mid))
    closed_more_good a e ts = bind_good_tokens (TokR (mark m.CloseBracket)) MoreR more_word ts (close_bracket ts) (λ mid. run_more r a e mid (at_open_bracket mid)) (close_bracket_good ts) (λ mid. more_good a e mid (at_open_bracket mid) refl)

    sized_good : (a : TypeT) (ts : List Tok) → Good SizedR ts (r.level 10 ts >>= λ e. close_bracket e.1 >>= λ mid. run_more r a e.0 mid (at_open_bracket mid))
    sized_good a ts = bind_good (LevelR 10) (Seq (TokR (mark m.CloseBracket)) MoreR) (seq_word (TokR (mark m.CloseBracket)) MoreR close_bracket_word more_word) ts (r.level 10 ts) (λ e. close_bracket e.1 >>= λ mid. run_more r a e.0 mid (at_open_bracket mid))
        (plain_level 10 ts (r.level 10 ts) (all.level 10 ts)) (λ x e. closed_more_good a x.0 x.1)

    pub run_good : (room : ℕ) (a : TypeT) (ts : List Tok) → Good RunR (mark m.OpenBracket ∷ ts) (run_with r room a (mark m.OpenBracket ∷ ts))
    run_good room a ts = above_good RunR (type_depth a) room (mark m.OpenBracket ∷ ts) _
        (widen (Seq (TokR (mark m.OpenBracket)) SizedR) RunR sized_run (mark m.OpenBracket ∷ ts) _ (good_behind (TokR (mark m.OpenBracket)) SizedR (mark m.OpenBracket ∷ ts) ts _ (token_frame (mark m.OpenBracket) ts) (sized_good a ts)))
        (run_deep ts)

    mark_good : (room : ℕ) (a : TypeT) (ts : List Tok) (l : TypeMark) → TypeMarkIs ts l → GoodTurn MarkR ts (type_mark_by r room a ts l)
    unfolding MarkR
    mark_good room a _ _ (told.pointer {ts = ts}) = above_turn_good MarkR (type_depth a) room (mark m.Star ∷ ts) (Ok (Some (PointerY a, ts)))
        (record { part = mark m.Star ∷ []; is = refl; any = λ after w. inl refl }) (first_deep MarkR (mark m.Star) ts [] (λ after p. inl refl))
    mark_good room a _ _ (told.bracket {ts = ts}) = taken (run_with r room a (mark m.OpenBracket ∷ ts)) (run_good room a ts)
      where
        taken : (x : Result (Got TypeT) Fault) → Good RunR (mark m.OpenBracket ∷ ts) x → GoodTurn MarkR (mark m.OpenBracket ∷ ts) (x >>= λ b. Ok (Some b))
        taken (Ok x) g = widen_frame RunR MarkR (λ us vs z. inr z) (mark m.OpenBracket ∷ ts) x.1 g
        taken (Err f) g = widen_fault RunR MarkR (λ us vs z. inr z) (mark m.OpenBracket ∷ ts) f g
    mark_good room a ts _ told.no_mark = tt

    marks_good : (room : ℕ) (a : TypeT) (ts : List Tok) → Good MarksR ts (loop (type_mark_turn r room) a ts)
    marks_good room a ts = loop_good MarkR MarksR marks_repeat (type_mark_turn r room) (all.types_take room) (λ b us. mark_good room b us (type_mark_at us) (type_mark_is us)) a ts

    -- a type from its first word on
    HeadR : Rule
    HeadR ts rest = (o : Tok) × (ts ≡ o ∷ rest) × ((v : ℕ) (us : List Tok) → (a : TypeT) × Base (context_of v) (o ∷ us) a us)

    head_type : Implies (Seq HeadR MarksR) TyR
    unfolding HeadR
    head_type ts rest s v = let h = s.1 in let b = h.2 v s.0 in let x = s.2 v b.0 in (x.0, rw (h.1) (g.type b.1 x.1))

    head_good : (room : ℕ) (o : Tok) (ts : List Tok) (a : TypeT) → ((v : ℕ) (us : List Tok) → (b : TypeT) × Base (context_of v) (o ∷ us) b us) → Good TyR (o ∷ ts) (loop (type_mark_turn r room) a ts)
    unfolding HeadR
    head_good room o ts a h = widen (Seq HeadR MarksR) TyR head_type (o ∷ ts) (loop (type_mark_turn r room) a ts)
        (good_behind HeadR MarksR (o ∷ ts) ts (loop (type_mark_turn r room) a ts) (record { part = o ∷ []; is = refl; any = λ after w. (o, refl, h) }) (marks_good room a ts))

    -- `void` stands before a star
    StarMarksR : Rule
    StarMarksR ts rest = (us : List Tok) × (ts ≡ mark m.Star ∷ us) × MarksR us rest

    star_good : (room : ℕ) (a : TypeT) (ts : List Tok) → Good StarMarksR (mark m.Star ∷ ts) (loop (type_mark_turn r room) a (mark m.Star ∷ ts))
    unfolding StarMarksR repeat
    star_good room a ts = by (nat_lt (type_depth a) room)
      where
        by : (b : Bool) → Good StarMarksR (mark m.Star ∷ ts) ((cond b (Ok (Some (PointerY a, ts))) (deep (mark m.Star ∷ ts))) >>= goes_on (repeat (type_mark_turn r room) (length (mark m.Star ∷ ts))) a (mark m.Star ∷ ts))
        by true = widen (Seq (TokR (mark m.Star)) MarksR) StarMarksR (λ us rest s. s) (mark m.Star ∷ ts) _ (good_behind (TokR (mark m.Star)) MarksR (mark m.Star ∷ ts) ts _ (token_frame (mark m.Star) ts)
            (repeat_good MarkR MarksR marks_repeat (type_mark_turn r room) (all.types_take room) (λ b us. mark_good room b us (type_mark_at us) (type_mark_is us)) (length (mark m.Star ∷ ts)) (PointerY a) ts (omega arith)))
        by false = first_deep StarMarksR (mark m.Star) ts [] (λ after p. (after, refl, λ v b. (b, g.unmarked)))

    void_type : Implies (Seq (TokR (keyword key.Void)) StarMarksR) TyR
    unfolding StarMarksR
    void_type ts rest s v = let x = s.2.2 v (PointerY VoidY) in (x.0, rw (s.1, s.2.1) (g.type g.void (g.pointer x.1)))

    abbrev void_base : List Tok → Bool → Result (Got TypeT) Fault
    void_base ts b = cond b (Ok (VoidY, ts)) (bad ts)

    void_good : (room : ℕ) (ts : List Tok) (b : Bool) → at_star ts ≡ b → Good TyR (keyword key.Void ∷ ts) (void_base ts b >>= λ a. loop (type_mark_turn r room) a.0 a.1)
    void_good room [] true e = absurd cc
    void_good room (o ∷ ts) true e = rw (star_is o e) (widen (Seq (TokR (keyword key.Void)) StarMarksR) TyR void_type (keyword key.Void ∷ mark m.Star ∷ ts) _
        (good_behind (TokR (keyword key.Void)) StarMarksR (keyword key.Void ∷ mark m.Star ∷ ts) (mark m.Star ∷ ts) _ (token_frame (keyword key.Void) (mark m.Star ∷ ts)) (star_good room VoidY ts)))
    void_good room ts false e = record {
      pre = keyword key.Void ∷ [];
      wrong = ts;
      end = mark m.Star ∷ [];
      is = refl;
      size = refl;
      any = λ after p v. (PointerY VoidY, g.type g.void (g.pointer g.unmarked));
      fits = λ after p. inl (refl, refl);
    }

    type_good_by : (room : ℕ) (ts : List Tok) (l : TypeLead) → TypeIs (context_of t) ts l → Good TyR ts (base_by ts l >>= λ a. loop (type_mark_turn r room) a.0 a.1)
    type_good_by room _ _ (told.int {ts = ts}) = head_good room (keyword key.Int) ts IntY (λ v us. (IntY, g.int))
    type_good_by room _ _ (told.bool {ts = ts}) = head_good room (keyword key.Bool) ts BoolY (λ v us. (BoolY, g.bool))
    type_good_by room _ _ (told.named {n = n} {ts = ts} e) = head_good room (word n) ts (NamedY n) (λ v us. (NamedY n, g.named e))
    type_good_by room _ _ (told.void {ts = ts}) = void_good room ts (at_star ts) refl
    type_good_by room ts _ told.no_type = first_wrong TyR ts type_word

    pub type_good : (room : ℕ) (ts : List Tok) → Good TyR ts (type_with (context_of t) r room ts)
    type_good room ts = type_good_by room ts (type_at (context_of t) ts) (type_is (context_of t) ts)

    -- ---- expressions parted by commas

    CommaExprR : Rule
    CommaExprR = Seq (TokR (mark m.Comma)) ExprR

    -- those behind the first one
    RestExprsR : Rule
    RestExprsR ts rest = (t : ℕ) (us : List Tok) (e : ExprT) → Expr (context_of t) us e ts → (es : List ExprT) × Exprs (context_of t) us es rest

    rest_exprs : Repeats CommaExprR RestExprsR
    unfolding CommaExprR RestExprsR
    rest_exprs = record {
      ends = λ ts v us e d. (e ∷ [], g.last d);
      goes = λ ts mid rest s l v us e d. let f = s.2 v in let x = l v s.0 f.0 f.1 in (e ∷ x.0, g.more (rw (sym s.1) d) x.1);
    }

    comma_word : Word (TokR (mark m.Comma))
    comma_word = token_word (mark m.Comma) (λ after. (refl, refl))

    exprs_good_by : (es : List ExprT) (ts : List Tok) (b : Bool) → at_comma ts ≡ b → GoodTurn CommaExprR ts (exprs_by r es ts b)
    unfolding CommaExprR
    exprs_good_by es ts false e = tt
    exprs_good_by es [] true e = absurd cc
    exprs_good_by es (o ∷ ts) true e = rw (comma_is o e) (taken (r.whole ts) (good_behind (TokR (mark m.Comma)) ExprR (mark m.Comma ∷ ts) ts (r.whole ts) (token_frame (mark m.Comma) ts) (all.whole ts)))
      where
        taken : (x : Result (Got ExprT) Fault) → Good (Seq (TokR (mark m.Comma)) ExprR) (mark m.Comma ∷ ts) x → GoodTurn (Seq (TokR (mark m.Comma)) ExprR) (mark m.Comma ∷ ts) (x >>= λ e. Ok (Some (es ++ e.0 ∷ [], e.1)))
        taken (Ok x) h = h
        taken (Err f) h = h

    more_exprs_good : (es : List ExprT) (ts : List Tok) → Good RestExprsR ts (loop (exprs_turn r) es ts)
    more_exprs_good es ts = loop_good CommaExprR RestExprsR rest_exprs (exprs_turn r) all.exprs_take (λ es us. exprs_good_by es us (at_comma us) refl) es ts

    all_exprs : Implies (Seq ExprR RestExprsR) ExprsR
    unfolding RestExprsR
    all_exprs ts rest s v = let x = s.1 v in s.2 v ts x.0 x.1

    exprs_good : (ts : List Tok) → Good ExprsR ts (exprs_with r ts)
    exprs_good ts = widen (Seq ExprR RestExprsR) ExprsR all_exprs ts (exprs_with r ts) (bind_good ExprR RestExprsR (repeats_word CommaExprR RestExprsR rest_exprs) ts (r.whole ts) (λ e. loop (exprs_turn r) (e.0 ∷ []) e.1) (all.whole ts) (λ x e. more_exprs_good (x.0 ∷ []) x.1))

    exprs_word : Word ExprsR
    exprs_word = record { tokens = number 0 ∷ []; takes = λ after p v. let x = level_expr _ _ (unary_level 10 _ _ (zero_unary after)) v in (x.0 ∷ [], g.last x.1); plain = λ after p. (refl, refl) }

    -- up to and with the parenthesis that closes them
    ArgumentsR : Rule
    ArgumentsR ts rest = (ts ≡ mark m.CloseParen ∷ rest) ⊎ Seq ExprsR (TokR (mark m.CloseParen)) ts rest

    arguments_word : Word ArgumentsR
    unfolding ArgumentsR
    arguments_word = record { tokens = mark m.CloseParen ∷ []; takes = λ after p. inl refl; plain = λ after p. (refl, refl) }

    closing_good : {A : Type 0} (x : A) (ts : List Tok) → Good (TokR (mark m.CloseParen)) ts (close_paren ts >>= λ rest. Ok (x, rest))
    closing_good x ts = kept (close_paren ts) (close_paren_good ts)
      where
        kept : (c : Result (List Tok) Fault) → GoodTokens (TokR (mark m.CloseParen)) ts c → Good (TokR (mark m.CloseParen)) ts (c >>= λ rest. Ok (x, rest))
        kept (Ok rest) h = h
        kept (Err f) h = h

    arguments_good_by : (ts : List Tok) (b : Bool) → at_close_paren ts ≡ b → Good ArgumentsR ts (arguments_by r ts b)
    unfolding ArgumentsR
    arguments_good_by [] true e = absurd cc
    arguments_good_by (o ∷ ts) true e = rw (close_paren_is o e) (record { part = mark m.CloseParen ∷ []; is = refl; any = λ after w. inl refl })
    arguments_good_by ts false e = widen (Seq ExprsR (TokR (mark m.CloseParen))) ArgumentsR (λ us rest s. inr s) ts (arguments_by r ts false)
        (bind_good ExprsR (TokR (mark m.CloseParen)) close_paren_word ts (exprs_with r ts) (λ es. close_paren es.1 >>= λ rest. Ok (es.0, rest)) (exprs_good ts) (λ x e. closing_good x.0 x.1))

    arguments_good : (ts : List Tok) → Good ArgumentsR ts (arguments_with r ts)
    arguments_good ts = arguments_good_by ts (at_close_paren ts) refl

    -- ---- names, calls and values

    abbrev ok_expr : ExprT → List Tok → Result (Got ExprT) Fault
    ok_expr e ts = Ok (e, ts)

    call_primary : (n : List ℕ) → is_type (context_of 0) n ≡ false → (us ts rest : List Tok) → us ≡ word n ∷ mark m.OpenParen ∷ ts → ArgumentsR ts rest → PrimaryR us rest
    unfolding ArgumentsR
    call_primary n e us ts rest h (inl f) v = rw (h, f) (_, g.call_bare e)
    call_primary n e us ts rest h (inr s) v = let x = s.1 v in rw h (_, g.call e (subst (λ (z : List Tok). Exprs (context_of v) ts x.0 z) s.2 x.1))

    calls : (n : List ℕ) → is_type (context_of 0) n ≡ false → Implies (Seq (TokR (word n)) (Seq (TokR (mark m.OpenParen)) ArgumentsR)) PrimaryR
    calls n e ts rest s = call_primary n e ts s.2.0 rest (s.1 ∙ ap (λ (z : List Tok). word n ∷ z) s.2.1) s.2.2

    called_good : (n : List ℕ) (ts : List Tok) → is_type (context_of 0) n ≡ false → (x : Result (Got (List ExprT)) Fault) → Good ArgumentsR ts x
        → Good PrimaryR (word n ∷ mark m.OpenParen ∷ ts) (x >>= λ es. Ok (CallE n (exprs es.0) (span (context_of t) (word n ∷ mark m.OpenParen ∷ ts) es.1), es.1))
    called_good n ts e (Ok x) h = widen_frame (Seq (TokR (word n)) (Seq (TokR (mark m.OpenParen)) ArgumentsR)) PrimaryR (calls n e) (word n ∷ mark m.OpenParen ∷ ts) x.1
        (frame_seq (TokR (word n)) (Seq (TokR (mark m.OpenParen)) ArgumentsR) _ (mark m.OpenParen ∷ ts) x.1 (token_frame (word n) (mark m.OpenParen ∷ ts)) (frame_seq (TokR (mark m.OpenParen)) ArgumentsR _ ts x.1 (token_frame (mark m.OpenParen) ts) h))
    called_good n ts e (Err f) h = widen_fault (Seq (TokR (word n)) (Seq (TokR (mark m.OpenParen)) ArgumentsR)) PrimaryR (calls n e) (word n ∷ mark m.OpenParen ∷ ts) f
        (fault_behind (TokR (word n)) (Seq (TokR (mark m.OpenParen)) ArgumentsR) _ (mark m.OpenParen ∷ ts) f (token_frame (word n) (mark m.OpenParen ∷ ts)) (fault_behind (TokR (mark m.OpenParen)) ArgumentsR _ ts f (token_frame (mark m.OpenParen) ts) h))

    named_good_by : (n : List ℕ) (ts : List Tok) (b : Bool) → is_type (context_of 0) n ≡ false → at_open_paren ts ≡ b → Good PrimaryR (word n ∷ ts) (named_by (context_of t) r (word n ∷ ts) b)
    named_good_by n ts false e h = record { part = word n ∷ []; is = refl; any = λ after w v. (_, g.name e) }
    named_good_by n [] true e h = absurd cc
    named_good_by n (o ∷ ts) true e h = rw (open_paren_is o h) (called_good n ts e (arguments_with r ts) (arguments_good ts))

    ParenR : Rule
    ParenR = Seq (TokR (mark m.OpenParen)) (Seq ExprR (TokR (mark m.CloseParen)))

    paren_primary : Implies ParenR PrimaryR
    unfolding ParenR
    paren_primary ts rest s v = let q = s.2 in let x = q.1 v in rw (s.1) (_, g.paren (subst (λ (z : List Tok). Expr (context_of v) s.0 x.0 z) q.2 x.1))

    enclosed_good : (at ts : List Tok) (e : ExprT) → Good (TokR (mark m.CloseParen)) ts (close_paren ts >>= λ rest. Ok (ParenE e (span (context_of t) at rest), rest))
    enclosed_good at ts e = kept (close_paren ts) (close_paren_good ts)
      where
        kept : (c : Result (List Tok) Fault) → GoodTokens (TokR (mark m.CloseParen)) ts c → Good (TokR (mark m.CloseParen)) ts (c >>= λ rest. Ok (ParenE e (span (context_of t) at rest), rest))
        kept (Ok rest) h = h
        kept (Err f) h = h

    paren_good : (ts : List Tok) → Good PrimaryR (mark m.OpenParen ∷ ts) (primary_by (context_of t) r (mark m.OpenParen ∷ ts) lead.Paren)
    unfolding ParenR
    paren_good ts = widen ParenR PrimaryR paren_primary (mark m.OpenParen ∷ ts) _ (good_behind (TokR (mark m.OpenParen)) (Seq ExprR (TokR (mark m.CloseParen))) (mark m.OpenParen ∷ ts) ts _ (token_frame (mark m.OpenParen) ts)
        (bind_good ExprR (TokR (mark m.CloseParen)) close_paren_word ts (r.whole ts) (λ e. close_paren e.1 >>= λ rest. Ok (ParenE e.0 (span (context_of t) (mark m.OpenParen ∷ ts) rest), rest)) (all.whole ts) (λ x e. enclosed_good (mark m.OpenParen ∷ ts) x.1 x.0)))

    primary_word : Word PrimaryR
    primary_word = record { tokens = number 0 ∷ []; takes = λ after p v. (_, g.valued refl); plain = λ after p. (refl, refl) }

    primary_good_by : (ts : List Tok) (l : Lead) → LeadIs (context_of t) ts l → Good PrimaryR ts (primary_by (context_of t) r ts l)
    primary_good_by _ _ (told.name {n = n} {ts = ts} e) = named_good_by n ts (at_open_paren ts) e refl
    primary_good_by _ _ (told.valued {o = o} {n = n} {ts = ts} e) = record { part = o ∷ []; is = refl; any = λ after w v. (_, g.valued e) }
    primary_good_by _ _ (told.quoted {t = q} {ts = ts}) = record { part = text q ∷ []; is = refl; any = λ after w v. (_, g.text_) }
    primary_good_by _ _ (told.null {ts = ts}) = record { part = keyword key.Null ∷ []; is = refl; any = λ after w v. (_, g.null) }
    primary_good_by _ _ (told.paren {ts = ts}) = paren_good ts
    primary_good_by ts _ told.no_lead = first_wrong PrimaryR ts primary_word

    primary_good : (ts : List Tok) → Good PrimaryR ts (primary_with (context_of t) r ts)
    primary_good ts = primary_good_by ts (lead_at (context_of t) ts) (lead_is (context_of t) ts)

    -- ---- suffixes

    -- one suffix behind any expression, before any further ones
    SuffixR : Rule
    SuffixR ts mid = (v : ℕ) (at : List Tok) (a : ExprT) (rest : List Tok) (e : (b : ExprT) → (x : ExprT) × Suffixes (context_of v) at b mid x rest) → (x : ExprT) × Suffixes (context_of v) at a ts x rest

    suffixes_repeat : Repeats SuffixR SuffixesR
    unfolding SuffixR
    suffixes_repeat = record { ends = λ ts v at a. (a, g.bare); goes = λ ts mid rest s l v at a. s v at a rest (λ b. l v at b) }

    IndexR : Rule
    IndexR = Seq (TokR (mark m.OpenBracket)) (Seq ExprR (TokR (mark m.CloseBracket)))

    index_suffix : Implies IndexR SuffixR
    unfolding IndexR SuffixR
    index_suffix ts mid s v at a rest l = let q = s.2 in let x = q.1 v in let y = l (IndexE a x.0 (span (context_of v) at mid)) in rw (s.1) (y.0, g.index (subst (λ (z : List Tok). Expr (context_of v) s.0 x.0 z) q.2 x.1) y.1)

    indexed_good : (at ts : List Tok) (a i : ExprT) → Good (TokR (mark m.CloseBracket)) ts (close_bracket ts >>= λ rest. Ok (IndexE a i (span (context_of t) at rest), rest))
    indexed_good at ts a i = kept (close_bracket ts) (close_bracket_good ts)
      where
        kept : (c : Result (List Tok) Fault) → GoodTokens (TokR (mark m.CloseBracket)) ts c → Good (TokR (mark m.CloseBracket)) ts (c >>= λ rest. Ok (IndexE a i (span (context_of t) at rest), rest))
        kept (Ok rest) h = h
        kept (Err f) h = h

    index_good : (at : List Tok) (a : ExprT) (ts : List Tok) → Good SuffixR (mark m.OpenBracket ∷ ts) (suffix_by (context_of t) r at a (mark m.OpenBracket ∷ ts) suffix.Index)
    unfolding IndexR
    index_good at a ts = widen IndexR SuffixR index_suffix (mark m.OpenBracket ∷ ts) _ (good_behind (TokR (mark m.OpenBracket)) (Seq ExprR (TokR (mark m.CloseBracket))) (mark m.OpenBracket ∷ ts) ts _ (token_frame (mark m.OpenBracket) ts)
        (bind_good ExprR (TokR (mark m.CloseBracket)) close_bracket_word ts (r.whole ts) (λ i. close_bracket i.1 >>= λ rest. Ok (IndexE a i.0 (span (context_of t) at rest), rest)) (all.whole ts) (λ x e. indexed_good at x.1 a x.0)))

    member_suffix : Implies (Seq (TokR (mark m.Dot)) NameR) SuffixR
    unfolding SuffixR
    member_suffix ts mid s v at a rest l = let n = s.2 in let y = l (MemberE a n.0 (span (context_of v) at mid)) in (y.0, rw (s.1, n.1) (g.member n.2 y.1))

    arrow_suffix : Implies (Seq (TokR (mark m.Arrow)) NameR) SuffixR
    unfolding SuffixR
    arrow_suffix ts mid s v at a rest l = let n = s.2 in let y = l (ArrowE a n.0 (span (context_of v) at mid)) in (y.0, rw (s.1, n.1) (g.arrow n.2 y.1))

    member_good : (at : List Tok) (a : ExprT) (ts : List Tok) (x : Result (Got (List ℕ)) Fault) → Good NameR ts x → Good SuffixR (mark m.Dot ∷ ts) (x >>= λ n. Ok (MemberE a n.0 (span (context_of t) at n.1), n.1))
    member_good at a ts (Ok x) h = widen_frame (Seq (TokR (mark m.Dot)) NameR) SuffixR member_suffix (mark m.Dot ∷ ts) x.1 (frame_seq (TokR (mark m.Dot)) NameR _ ts x.1 (token_frame (mark m.Dot) ts) h)
    member_good at a ts (Err f) h = widen_fault (Seq (TokR (mark m.Dot)) NameR) SuffixR member_suffix (mark m.Dot ∷ ts) f (fault_behind (TokR (mark m.Dot)) NameR _ ts f (token_frame (mark m.Dot) ts) h)

    arrow_good : (at : List Tok) (a : ExprT) (ts : List Tok) (x : Result (Got (List ℕ)) Fault) → Good NameR ts x → Good SuffixR (mark m.Arrow ∷ ts) (x >>= λ n. Ok (ArrowE a n.0 (span (context_of t) at n.1), n.1))
    arrow_good at a ts (Ok x) h = widen_frame (Seq (TokR (mark m.Arrow)) NameR) SuffixR arrow_suffix (mark m.Arrow ∷ ts) x.1 (frame_seq (TokR (mark m.Arrow)) NameR _ ts x.1 (token_frame (mark m.Arrow) ts) h)
    arrow_good at a ts (Err f) h = widen_fault (Seq (TokR (mark m.Arrow)) NameR) SuffixR arrow_suffix (mark m.Arrow ∷ ts) f (fault_behind (TokR (mark m.Arrow)) NameR _ ts f (token_frame (mark m.Arrow) ts) h)

    stepped_suffix : (o : Tok) (op : StepOp) (ts mid : List Tok) → step_behind o ≡ Some op → ts ≡ o ∷ mid → SuffixR ts mid
    unfolding SuffixR
    stepped_suffix o op ts mid e h v at a rest l = let y = l (StepE op a (span (context_of v) at mid)) in (y.0, rw h (g.stepped e y.1))

    indexing : (after : List Tok) → IndexR (mark m.OpenBracket ∷ number 0 ∷ mark m.CloseBracket ∷ after) after
    unfolding IndexR
    indexing after = (_, refl, (_, level_expr _ _ (unary_level 10 _ _ (zero_unary (mark m.CloseBracket ∷ after))), refl))

    -- a suffix goes on, or can be completed from its first token on
    suffix_good_by : (room : ℕ) (at : List Tok) (a : ExprT) (ts : List Tok) (l : Suffix) → SuffixIs ts l → is_some_suffix l ≡ true → Good SuffixR ts (suffix_by (context_of t) r at a ts l) × Deep SuffixR ts (length ts)
    suffix_good_by room at a _ _ (told.index {ts = ts}) e = (
      index_good at a ts,
      first_deep SuffixR (mark m.OpenBracket) ts (number 0 ∷ mark m.CloseBracket ∷ [])
          (λ after p. index_suffix _ after (indexing after)),
    )
    suffix_good_by room at a _ _ (told.member {ts = ts}) e = (member_good at a ts (name (context_of t) ts) (name_good t ts), first_deep SuffixR (mark m.Dot) ts (word fresh ∷ []) (λ after p. member_suffix _ after (_, refl, (fresh, refl, is_fresh))))
    suffix_good_by room at a _ _ (told.arrow {ts = ts}) e = (arrow_good at a ts (name (context_of t) ts) (name_good t ts), first_deep SuffixR (mark m.Arrow) ts (word fresh ∷ []) (λ after p. arrow_suffix _ after (_, refl, (fresh, refl, is_fresh))))
    suffix_good_by room at a _ _ (told.stepped {o = o} {op = op} {ts = ts} h) e = (record { part = o ∷ []; is = refl; any = λ after w. stepped_suffix o op (o ∷ after) after h refl }, first_deep SuffixR o ts [] (λ after p. stepped_suffix o op (o ∷ after) after h refl))
    suffix_good_by room at a ts _ told.no_suffix e = absurd cc

    suffix_turn_good : (room : ℕ) (at : List Tok) (a : ExprT) (ts : List Tok) (b : Bool) → is_some_suffix (suffix_at ts) ≡ b → GoodTurn SuffixR ts (suffix_turn_by (context_of t) r room at a ts b)
    suffix_turn_good room at a ts false e = tt
    suffix_turn_good room at a ts true e =
        let both = suffix_good_by room at a ts (suffix_at ts) (suffix_is ts) e in
        above_turn_good SuffixR (expr_depth a) room ts _ (taken (suffix_by (context_of t) r at a ts (suffix_at ts)) both.0) both.1
      where
        taken : (x : Result (Got ExprT) Fault) → Good SuffixR ts x → GoodTurn SuffixR ts (x >>= λ y. Ok (Some y))
        taken (Ok x) h = h
        taken (Err f) h = h

    suffixes_good : (room : ℕ) (at : List Tok) (a : ExprT) (ts : List Tok) → Good SuffixesR ts (loop (suffix_turn (context_of t) r room at) a ts)
    suffixes_good room at a ts = loop_good SuffixR SuffixesR suffixes_repeat (suffix_turn (context_of t) r room at) (all.suffixes_take room at) (λ b us. suffix_turn_good room at b us (is_some_suffix (suffix_at us)) refl) a ts

    postfix_unary : Implies (Seq PrimaryR SuffixesR) UnaryR
    postfix_unary ts rest s v = let p = s.1 v in let x = s.2 v ts p.0 in (x.0, g.postfix p.1 x.1)

    postfix_good : (room : ℕ) (ts : List Tok) → Good UnaryR ts (postfix_with (context_of t) r room ts)
    postfix_good room ts = widen (Seq PrimaryR SuffixesR) UnaryR postfix_unary ts (postfix_with (context_of t) r room ts) (bind_good PrimaryR SuffixesR (repeats_word SuffixR SuffixesR suffixes_repeat) ts (primary_with (context_of t) r ts)
        (λ a. loop (suffix_turn (context_of t) r room ts) a.0 a.1) (primary_good ts) (λ x e. suffixes_good room ts x.0 x.1))

    -- ---- operators before their operand, casts and sizes

    operand_good : (ts : List Tok) → Good UnaryR ts (r.level zero ts)
    operand_good ts = widen (LevelR zero) UnaryR zero_level_unary ts (r.level zero ts) (plain_level zero ts (r.level zero ts) (all.level zero ts))

    operator_unary : (o : Tok) (op : UnOp) → prefix o ≡ Some op → Implies (Seq (TokR o) UnaryR) UnaryR
    operator_unary o op e ts rest s v = let x = s.2 v in rw (s.1) (_, g.operator e x.1)

    step_unary : (o : Tok) (op : StepOp) → step_before o ≡ Some op → Implies (Seq (TokR o) UnaryR) UnaryR
    step_unary o op e ts rest s v = let x = s.2 v in rw (s.1) (_, g.step e x.1)

    operator_good : (o : Tok) (op : UnOp) → prefix o ≡ Some op → (ts : List Tok) (x : Result (Got ExprT) Fault) → Good UnaryR ts x → Good UnaryR (o ∷ ts) (x >>= λ a. Ok (UnaryE op a.0 (span (context_of t) (o ∷ ts) a.1), a.1))
    operator_good o op e ts (Ok x) h = widen_frame (Seq (TokR o) UnaryR) UnaryR (operator_unary o op e) (o ∷ ts) x.1 (frame_seq (TokR o) UnaryR _ ts x.1 (token_frame o ts) h)
    operator_good o op e ts (Err f) h = widen_fault (Seq (TokR o) UnaryR) UnaryR (operator_unary o op e) (o ∷ ts) f (fault_behind (TokR o) UnaryR _ ts f (token_frame o ts) h)

    step_good : (o : Tok) (op : StepOp) → step_before o ≡ Some op → (ts : List Tok) (x : Result (Got ExprT) Fault) → Good UnaryR ts x → Good UnaryR (o ∷ ts) (x >>= λ a. Ok (StepE op a.0 (span (context_of t) (o ∷ ts) a.1), a.1))
    step_good o op e ts (Ok x) h = widen_frame (Seq (TokR o) UnaryR) UnaryR (step_unary o op e) (o ∷ ts) x.1 (frame_seq (TokR o) UnaryR _ ts x.1 (token_frame o ts) h)
    step_good o op e ts (Err f) h = widen_fault (Seq (TokR o) UnaryR) UnaryR (step_unary o op e) (o ∷ ts) f (fault_behind (TokR o) UnaryR _ ts f (token_frame o ts) h)

    CastR : Rule
    CastR = Seq (TokR (mark m.OpenParen)) (Seq TyR (Seq (TokR (mark m.CloseParen)) UnaryR))

    cast_unary : Implies CastR UnaryR
    unfolding CastR
    cast_unary ts rest s v = let q = s.2 in let y = q.1 v in let c = q.2 in let x = c.2 v in rw (s.1) (_, g.cast (subst (λ (z : List Tok). Ty (context_of v) s.0 y.0 z) c.1 y.1) x.1)

    cast_operand_good : (at ts : List Tok) (y : TypeT) → Good UnaryR ts (r.level zero ts >>= λ a. Ok (CastE y a.0 (span (context_of t) at a.1), a.1))
    cast_operand_good at ts y = kept (r.level zero ts) (operand_good ts)
      where
        kept : (c : Result (Got ExprT) Fault) → Good UnaryR ts c → Good UnaryR ts (c >>= λ a. Ok (CastE y a.0 (span (context_of t) at a.1), a.1))
        kept (Ok rest) h = h
        kept (Err f) h = h

    cast_good : (ts : List Tok) → Good UnaryR (mark m.OpenParen ∷ ts) (unary_by (context_of t) r 0 (mark m.OpenParen ∷ ts) start.Cast)
    unfolding CastR
    cast_good ts = widen CastR UnaryR cast_unary (mark m.OpenParen ∷ ts) _ (good_behind (TokR (mark m.OpenParen)) (Seq TyR (Seq (TokR (mark m.CloseParen)) UnaryR)) (mark m.OpenParen ∷ ts) ts _ (token_frame (mark m.OpenParen) ts)
        (bind_good TyR (Seq (TokR (mark m.CloseParen)) UnaryR) (seq_word (TokR (mark m.CloseParen)) UnaryR close_paren_word unary_word) ts (r.type ts) (λ y. close_paren y.1 >>= λ mid. r.level zero mid >>= λ a. Ok (CastE y.0 a.0 (span (context_of t) (mark m.OpenParen ∷ ts) a.1), a.1)) (all.type ts)
        (λ y e. bind_good_tokens (TokR (mark m.CloseParen)) UnaryR unary_word y.1 (close_paren y.1) (λ mid. r.level zero mid >>= λ a. Ok (CastE y.0 a.0 (span (context_of t) (mark m.OpenParen ∷ ts) a.1), a.1)) (close_paren_good y.1)
        (λ mid. cast_operand_good (mark m.OpenParen ∷ ts) mid y.0))))

    SizeR : Rule
    SizeR = Seq (TokR (keyword key.SizeOf)) (Seq (TokR (mark m.OpenParen)) (Seq TyR (TokR (mark m.CloseParen))))

    size_unary : Implies SizeR UnaryR
    unfolding SizeR
    size_unary ts rest s v = let p = s.2 in let q = p.2 in let y = q.1 v in rw (s.1, p.1) (_, g.size (subst (λ (z : List Tok). Ty (context_of v) p.0 y.0 z) q.2 y.1))

    size_closed_good : (at ts : List Tok) (y : TypeT) → Good (TokR (mark m.CloseParen)) ts (close_paren ts >>= λ rest. Ok (SizeOfE y (span (context_of t) at rest), rest))
    size_closed_good at ts y = kept (close_paren ts) (close_paren_good ts)
      where
        kept : (c : Result (List Tok) Fault) → GoodTokens (TokR (mark m.CloseParen)) ts c → Good (TokR (mark m.CloseParen)) ts (c >>= λ rest. Ok (SizeOfE y (span (context_of t) at rest), rest))
        kept (Ok rest) h = h
        kept (Err f) h = h

    size_good : (ts : List Tok) → Good UnaryR (keyword key.SizeOf ∷ ts) (unary_by (context_of t) r 0 (keyword key.SizeOf ∷ ts) start.Size)
    unfolding SizeR
    size_good ts = widen SizeR UnaryR size_unary (keyword key.SizeOf ∷ ts) _ (good_behind (TokR (keyword key.SizeOf)) (Seq (TokR (mark m.OpenParen)) (Seq TyR (TokR (mark m.CloseParen)))) (keyword key.SizeOf ∷ ts) ts _ (token_frame (keyword key.SizeOf) ts)
        (bind_good_tokens (TokR (mark m.OpenParen)) (Seq TyR (TokR (mark m.CloseParen))) (seq_word TyR (TokR (mark m.CloseParen)) type_word close_paren_word) ts (open_paren ts)
        (λ mid. r.type mid >>= λ y. close_paren y.1 >>= λ rest. Ok (SizeOfE y.0 (span (context_of t) (keyword key.SizeOf ∷ ts) rest), rest)) (open_paren_good ts)
        (λ mid. bind_good TyR (TokR (mark m.CloseParen)) close_paren_word mid (r.type mid) (λ y. close_paren y.1 >>= λ rest. Ok (SizeOfE y.0 (span (context_of t) (keyword key.SizeOf ∷ ts) rest), rest)) (all.type mid)
        (λ y e. size_closed_good (keyword key.SizeOf ∷ ts) y.1 y.0))))

    unary_good_by : (room : ℕ) (ts : List Tok) (l : Start) → StartIs (context_of t) ts l → Good UnaryR ts (unary_by (context_of t) r room ts l)
    unary_good_by room _ _ (told.operator {o = o} {ts = ts} {op = op} e) = operator_good o op e ts (r.level zero ts) (operand_good ts)
    unary_good_by room _ _ (told.step {o = o} {ts = ts} {op = op} e) = step_good o op e ts (r.level zero ts) (operand_good ts)
    unary_good_by room _ _ (told.cast {ts = ts} e) = cast_good ts
    unary_good_by room _ _ (told.size {ts = ts}) = size_good ts
    unary_good_by room ts _ told.other = postfix_good room ts

    unary_good : (room : ℕ) (ts : List Tok) → Good UnaryR ts (unary_with (context_of t) r room ts)
    unary_good room ts = unary_good_by room ts (start_at (context_of t) ts) (start_is (context_of t) ts)

    -- ---- operators between two operands

    of_level_is : (k : ℕ) (b : Option (ℕ × BinOp)) (op : BinOp) → of_level k b ≡ Some op → b ≡ Some (k, op)
    of_level_is k None op e = absurd cc
    of_level_is k (Some p) op e = by (eqb p.0 k) refl e
      where
        some : BinOp → Option BinOp
        some x = Some x

        in_some : Option BinOp → BinOp
        in_some (Some x) = x
        in_some None = op

        by : (b : Bool) → eqb p.0 k ≡ b → cond b (Some p.1) None ≡ Some op → Some p ≡ Some (k, op)
        by true is f = let same : p.1 ≡ op = ap in_some f in rw (← same, ← eqb-true _ _ is) refl
        by false is f = absurd cc

    OperatorR : ℕ → Rule
    OperatorR k ts rest = (o : Tok) × (op : BinOp) × (ts ≡ o ∷ rest) × (binary o ≡ Some (suc k, op))

    -- one operator and its right operand behind any expression, before any further ones
    OperatedR : ℕ → Rule
    OperatedR k ts mid = (v : ℕ) (at : List Tok) (a : ExprT) (rest : List Tok) → ((b : ExprT) → (x : ExprT) × Tail (context_of v) k at b mid x rest) → (x : ExprT) × Tail (context_of v) k at a ts x rest

    tail_repeat : (k : ℕ) → Repeats (OperatedR k) (TailR k)
    unfolding OperatedR
    tail_repeat k = record { ends = λ ts v at a. (a, g.ended); goes = λ ts mid rest s l v at a. s v at a rest (λ b. l v at b) }

    operated : (k : ℕ) → Implies (Seq (OperatorR k) (LevelR k)) (OperatedR k)
    unfolding OperatorR OperatedR
    operated k ts mid s v at a rest l = let o = s.1 in let b = s.2 v in let y = l (BinaryE o.1 a b.0 (span (context_of v) at mid)) in (y.0, rw (o.2) (g.operated o.3 b.1 y.1))

    right_good : (k : ℕ) (at : List Tok) (a : ExprT) (op : BinOp) (o : Tok) (ts : List Tok) → binary o ≡ Some (suc k, op) → (x : Result (Got ExprT) Fault) → Good (LevelR k) ts x
        → GoodTurn (OperatedR k) (o ∷ ts) (x >>= λ b. Ok (Some (BinaryE op a b.0 (span (context_of t) at b.1), b.1)))
    unfolding OperatorR
    right_good k at a op o ts e (Ok x) h = widen_frame (Seq (OperatorR k) (LevelR k)) (OperatedR k) (operated k) (o ∷ ts) x.1
        (frame_seq (OperatorR k) (LevelR k) _ ts x.1 (record { part = o ∷ []; is = refl; any = λ after w. (o, op, refl, e) }) h)
    right_good k at a op o ts e (Err f) h = widen_fault (Seq (OperatorR k) (LevelR k)) (OperatedR k) (operated k) (o ∷ ts) f
        (fault_behind (OperatorR k) (LevelR k) _ ts f (record { part = o ∷ []; is = refl; any = λ after w. (o, op, refl, e) }) h)

    operated_deep : (k : ℕ) (op : BinOp) (o : Tok) (ts : List Tok) → binary o ≡ Some (suc k, op) → Deep (OperatedR k) (o ∷ ts) (suc (length ts))
    unfolding OperatorR
    operated_deep k op o ts e = first_deep (OperatedR k) o ts (number 0 ∷ []) (λ after p. operated k _ after (_, (o, op, refl, e), unary_level k _ _ (zero_unary after)))

    operator_turn_good : (room k : ℕ) (at : List Tok) (a : ExprT) (ts : List Tok) (l : Option BinOp) → operator_at (suc k) ts ≡ l → GoodTurn (OperatedR k) ts (operator_by (context_of t) r room k at a ts l)
    operator_turn_good room k at a ts None e = tt
    operator_turn_good room k at a [] (Some op) e = absurd cc
    operator_turn_good room k at a (o ∷ ts) (Some op) e =
        let is = of_level_is (suc k) (binary o) op e in
        above_turn_good (OperatedR k) (expr_depth a) room (o ∷ ts) _ (right_good k at a op o ts is (r.level k ts) (plain_level k ts (r.level k ts) (all.level k ts))) (operated_deep k op o ts is)

    tail_good : (room k : ℕ) (at : List Tok) (a : ExprT) (ts : List Tok) → Good (TailR k) ts (loop (operator_turn (context_of t) r room k at) a ts)
    tail_good room k at a ts = loop_good (OperatedR k) (TailR k) (tail_repeat k) (operator_turn (context_of t) r room k at) (all.operators_take room k at) (λ b us. operator_turn_good room k at b us (operator_at (suc k) us) refl) a ts

    -- what an operator made is no unary expression
    abbrev Kept : ExprT → List Tok → Result (Got ExprT) Fault → Type 0
    Kept a ts (Ok x) = ((x.0 ≡ a) × (x.1 ≡ ts)) ⊎ (is_unary x.0 ≡ false)
    Kept a ts (Err f) = Unit {0}

    kept_further : (a b : ExprT) (ts us : List Tok) (x : Result (Got ExprT) Fault) → is_unary b ≡ false → Kept b us x → Kept a ts x
    kept_further a b ts us (Ok x) e (inl k) = inr (rw (k.0) e)
    kept_further a b ts us (Ok x) e (inr k) = inr k
    kept_further a b ts us (Err f) e k = tt

    operated_kept : (room k : ℕ) (at : List Tok) (n : ℕ) (a : ExprT) (ts : List Tok) (op : BinOp) → ((b : ExprT) (us : List Tok) → Kept b us (repeat (operator_turn (context_of t) r room k at) n b us)) → (x : Result (Got ExprT) Fault)
        → Kept a ts ((x >>= λ b. Ok (Some (BinaryE op a b.0 (span (context_of t) at b.1), b.1))) >>= goes_on (repeat (operator_turn (context_of t) r room k at) n) a ts)
    operated_kept room k at n a ts op again (Ok b) = kept_further a (BinaryE op a b.0 (span (context_of t) at b.1)) ts b.1 (repeat (operator_turn (context_of t) r room k at) n (BinaryE op a b.0 (span (context_of t) at b.1)) b.1) refl
        (again (BinaryE op a b.0 (span (context_of t) at b.1)) b.1)
    operated_kept room k at n a ts op again (Err f) = tt

    turn_kept : (room k : ℕ) (at : List Tok) (n : ℕ) (a : ExprT) (ts : List Tok) (l : Option BinOp) → ((b : ExprT) (us : List Tok) → Kept b us (repeat (operator_turn (context_of t) r room k at) n b us))
        → Kept a ts (operator_by (context_of t) r room k at a ts l >>= goes_on (repeat (operator_turn (context_of t) r room k at) n) a ts)
    turn_kept room k at n a ts None again = inl (refl, refl)
    turn_kept room k at n a ts (Some op) again = by (nat_lt (expr_depth a) room)
      where
        by : (b : Bool) → Kept a ts ((cond b (r.level k (behind ts) >>= λ b. Ok (Some (BinaryE op a b.0 (span (context_of t) at b.1), b.1))) (deep ts)) >>= goes_on (repeat (operator_turn (context_of t) r room k at) n) a ts)
        by true = operated_kept room k at n a ts op again (r.level k (behind ts))
        by false = tt

    repeat_kept : (room k : ℕ) (at : List Tok) (n : ℕ) (a : ExprT) (ts : List Tok) → Kept a ts (repeat (operator_turn (context_of t) r room k at) n a ts)
    unfolding repeat
    repeat_kept room k at zero a ts = tt
    repeat_kept room k at (suc n) a ts = turn_kept room k at n a ts (operator_at (suc k) ts) (λ b us. repeat_kept room k at n b us)

    level_tail : (k : ℕ) → Implies (Seq (LevelR k) (TailR k)) (LevelR (suc k))
    level_tail k ts rest s v = let a = s.1 v in let x = s.2 v ts a.0 in (x.0, g.level a.1 x.1)

    unary_kept : (k : ℕ) (ts : List Tok) (a x : Got ExprT) → (is_unary a.0 ≡ true → Frame UnaryR ts a.1) → ((x.0 ≡ a.0) × (x.1 ≡ a.1)) ⊎ (is_unary x.0 ≡ false) → is_unary x.0 ≡ true → Frame UnaryR ts x.1
    unary_kept k ts a x h (inl e) u = rw (e.1) (h (rw (← e.0) u))
    unary_kept k ts a x h (inr e) u = let bad : true ≡ false = sym u ∙ e in absurd cc

    tailed_good : (k : ℕ) (ts : List Tok) (a : Got ExprT) → Frame (LevelR k) ts a.1 × (is_unary a.0 ≡ true → Frame UnaryR ts a.1) → (x : Result (Got ExprT) Fault) → Good (TailR k) a.1 x → Kept a.0 a.1 x → GoodLevel (suc k) ts x
    tailed_good k ts a f (Ok x) h e = (widen_frame (Seq (LevelR k) (TailR k)) (LevelR (suc k)) (level_tail k) ts x.1 (frame_seq (LevelR k) (TailR k) ts a.1 x.1 f.0 h), unary_kept k ts a x f.1 e)
    tailed_good k ts a f (Err d) h e = widen_fault (Seq (LevelR k) (TailR k)) (LevelR (suc k)) (level_tail k) ts d (fault_behind (LevelR k) (TailR k) ts a.1 d f.0 h)

    next_level : (room k : ℕ) (ts : List Tok) (x : Result (Got ExprT) Fault) → GoodLevel k ts x → GoodLevel (suc k) ts (x >>= λ a. loop (operator_turn (context_of t) r room k ts) a.0 a.1)
    next_level room k ts (Ok a) h = tailed_good k ts a h (loop (operator_turn (context_of t) r room k ts) a.0 a.1) (tail_good room k ts a.0 a.1) (repeat_kept room k ts (suc (length a.1)) a.0 a.1)
    next_level room k ts (Err f) h = widen_fault (Seq (LevelR k) (TailR k)) (LevelR (suc k)) (level_tail k) ts f (fault_front (LevelR k) (TailR k) ts f (repeats_word (OperatedR k) (TailR k) (tail_repeat k)) h)

    pub level_good : (room k : ℕ) (ts : List Tok) → GoodLevel k ts (level_with (context_of t) r room k ts)
    unfolding level_with
    level_good room zero ts = unary_good_level ts (unary_with (context_of t) r room ts) (unary_good room ts)
    level_good room (suc k) ts = next_level room k ts (level_with (context_of t) r room k ts) (level_good room k ts)

    -- ---- assignments

    AssignR : Rule
    AssignR ts rest = (o : Tok) × (op : Option BinOp) × (ts ≡ o ∷ rest) × (assigner o ≡ Some op)

    AssignedR : Rule
    AssignedR = Seq UnaryR (Seq AssignR ExprR)

    assigned_expr : Implies AssignedR ExprR
    unfolding AssignedR AssignR
    assigned_expr ts rest s v = let a = s.1 v in let q = s.2 in let o = q.1 in let b = q.2 v in (_, g.assign (subst (λ (z : List Tok). Unary (context_of v) ts a.0 z) (o.2) a.1) o.3 b.1)

    assign_frame : (o : Tok) (op : Option BinOp) (ts : List Tok) → assigner o ≡ Some op → Frame AssignR (o ∷ ts) ts
    unfolding AssignR
    assign_frame o op ts e = record { part = o ∷ []; is = refl; any = λ after w. (o, op, refl, e) }

    assign_begun : (o : Tok) (op : Option BinOp) (ts : List Tok) → assigner o ≡ Some op → AssignR (o ∷ ts) ts
    unfolding AssignR
    assign_begun o op ts e = (o, op, refl, e)

    assign_value_good : (at : List Tok) (a : ExprT) (op : Option BinOp) (ts : List Tok) → Good ExprR ts (r.whole ts >>= λ b. Ok (AssignE op a b.0 (span (context_of t) at b.1), b.1))
    assign_value_good at a op ts = kept (r.whole ts) (all.whole ts)
      where
        kept : (c : Result (Got ExprT) Fault) → Good ExprR ts c → Good ExprR ts (c >>= λ b. Ok (AssignE op a b.0 (span (context_of t) at b.1), b.1))
        kept (Ok rest) h = h
        kept (Err f) h = h

    assigned_good : (room : ℕ) (at : List Tok) (a : ExprT) (o : Tok) (ts : List Tok) (op : Option BinOp) → assigner o ≡ Some op → Frame UnaryR at (o ∷ ts) → Good ExprR at (assign_by (context_of t) r room at a (o ∷ ts) (Some op))
    unfolding AssignedR
    assigned_good room at a o ts op e f = by (nat_lt (expr_depth a) room)
      where
        by : (b : Bool) → Good ExprR at (cond b (r.whole ts >>= λ b. Ok (AssignE op a b.0 (span (context_of t) at b.1), b.1)) (deep (o ∷ ts)))
        by true = widen AssignedR ExprR assigned_expr at (r.whole ts >>= λ b. Ok (AssignE op a b.0 (span (context_of t) at b.1), b.1))
            (good_behind UnaryR (Seq AssignR ExprR) at (o ∷ ts) _ f (good_behind AssignR ExprR (o ∷ ts) ts _ (assign_frame o op ts e) (assign_value_good at a op ts)))
        by false = widen_fault AssignedR ExprR assigned_expr at (TooDeep (suc (length ts))) (fault_behind UnaryR (Seq AssignR ExprR) at (o ∷ ts) (TooDeep (suc (length ts))) f
            (first_deep (Seq AssignR ExprR) o ts (number 0 ∷ []) (λ after p. (_, assign_begun o op (number 0 ∷ after) e, level_expr _ _ (unary_level 10 _ _ (zero_unary after))))))

    assign_good : (room : ℕ) (at : List Tok) (a : Got ExprT) → Frame (LevelR 10) at a.1 → (is_unary a.0 ≡ true → Frame UnaryR at a.1) → (u : Bool) → is_unary a.0 ≡ u → (ts : List Tok) → ts ≡ a.1
        → (l : Option (Option BinOp)) → cond u (assigner_at ts) None ≡ l → Good ExprR at (assign_by (context_of t) r room at a.0 ts l)
    assign_good room at a f h u e ts is None d = rw is (widen_frame (LevelR 10) ExprR level_expr at a.1 f)
    assign_good room at a f h false e ts is (Some op) d = absurd cc
    assign_good room at a f h true e [] is (Some op) d = absurd cc
    assign_good room at a f h true e (o ∷ ts) is (Some op) d = assigned_good room at a.0 o ts op d (rw is (h e))

    whole_good_by : (room : ℕ) (ts : List Tok) (x : Result (Got ExprT) Fault) → GoodLevel 10 ts x → Good ExprR ts (x >>= λ a. assign_by (context_of t) r room ts a.0 a.1 (assigner_behind a.0 a.1))
    whole_good_by room ts (Ok a) h = assign_good room ts a h.0 h.1 (is_unary a.0) refl a.1 refl (assigner_behind a.0 a.1) refl
    whole_good_by room ts (Err f) h = widen_fault (LevelR 10) ExprR level_expr ts f h

    pub whole_good : (room : ℕ) (ts : List Tok) → Good ExprR ts (whole_with (context_of t) r room ts)
    whole_good room ts = whole_good_by room ts (level_with (context_of t) r room 10 ts) (level_good room 10 ts)

  -- ---- the readers at every room

  unary_deep_by : (t : ℕ) (ts : List Tok) (l : Lead) → LeadIs (context_of t) ts l → is_some_lead l ≡ true → Deep UnaryR ts (length ts)
  unary_deep_by t _ _ (told.name {n = n} {ts = ts} e) h = first_deep UnaryR (word n) ts [] (λ after p v. (_, g.postfix (g.name e) g.bare))
  unary_deep_by t _ _ (told.valued {o = o} {n = n} {ts = ts} e) h = first_deep UnaryR o ts [] (λ after p v. (_, g.postfix (g.valued e) g.bare))
  unary_deep_by t _ _ (told.quoted {t = q} {ts = ts}) h = first_deep UnaryR (text q) ts [] (λ after p v. (_, g.postfix g.text_ g.bare))
  unary_deep_by t _ _ (told.null {ts = ts}) h = first_deep UnaryR (keyword key.Null) ts [] (λ after p v. (_, g.postfix g.null g.bare))
  unary_deep_by t _ _ (told.paren {ts = ts}) h = paren_deep ts
  unary_deep_by t ts _ told.no_lead h = absurd cc

  start_deep_by : (t : ℕ) (ts : List Tok) (l : Start) → StartIs (context_of t) ts l → (is_some_start l || is_some_lead (lead_at (context_of t) ts)) ≡ true → Deep UnaryR ts (length ts)
  start_deep_by t _ _ (told.operator {o = o} {ts = ts} {op = op} e) h = first_deep UnaryR o ts (number 0 ∷ []) (λ after p v. let x = zero_unary after v in (_, g.operator e x.1))
  start_deep_by t _ _ (told.step {o = o} {ts = ts} {op = op} e) h = first_deep UnaryR o ts (number 0 ∷ []) (λ after p v. let x = zero_unary after v in (_, g.step e x.1))
  start_deep_by t _ _ (told.cast {ts = ts} e) h = paren_deep ts
  start_deep_by t _ _ (told.size {ts = ts}) h = first_deep UnaryR (keyword key.SizeOf) ts (mark m.OpenParen ∷ keyword key.Int ∷ mark m.CloseParen ∷ []) (λ after p v. let y = int_type (mark m.CloseParen ∷ after) v in (_, g.size y.1))
  start_deep_by t ts _ told.other h = unary_deep_by t ts (lead_at (context_of t) ts) (lead_is (context_of t) ts) h

  pub unary_deep : (t : ℕ) (ts : List Tok) → begins_expr (context_of t) ts ≡ true → Deep UnaryR ts (length ts)
  unary_deep t ts e = start_deep_by t ts (start_at (context_of t) ts) (start_is (context_of t) ts) e

  pub expr_room : (P : Rule) → Word P → Implies UnaryR P → (t : ℕ) (ts : List Tok) → GoodFault P ts (room_fault (begins_expr (context_of t) ts) ts)
  expr_room P w h t ts = by (begins_expr (context_of t) ts) refl
    where
      by : (b : Bool) → begins_expr (context_of t) ts ≡ b → GoodFault P ts (room_fault b ts)
      by true e = widen_fault UnaryR P h ts (TooDeep (length ts)) (unary_deep t ts e)
      by false e = first_wrong P ts w

  type_deep_by : (t : ℕ) (ts : List Tok) (l : TypeLead) → TypeIs (context_of t) ts l → is_some_type l ≡ true → Deep TyR ts (length ts)
  type_deep_by t _ _ (told.int {ts = ts}) h = first_deep TyR (keyword key.Int) ts [] (λ after p v. (_, g.type g.int g.unmarked))
  type_deep_by t _ _ (told.bool {ts = ts}) h = first_deep TyR (keyword key.Bool) ts [] (λ after p v. (_, g.type g.bool g.unmarked))
  type_deep_by t _ _ (told.named {n = n} {ts = ts} e) h = first_deep TyR (word n) ts [] (λ after p v. (_, g.type (g.named e) g.unmarked))
  type_deep_by t _ _ (told.void {ts = ts}) h = first_deep TyR (keyword key.Void) ts (mark m.Star ∷ []) (λ after p v. (_, g.type g.void (g.pointer g.unmarked)))
  type_deep_by t ts _ told.no_type h = absurd cc

  pub type_deep : (t : ℕ) (ts : List Tok) → begins_type (context_of t) ts ≡ true → Deep TyR ts (length ts)
  type_deep t ts e = type_deep_by t ts (type_at (context_of t) ts) (type_is (context_of t) ts) e

  pub type_room : (P : Rule) → Word P → ((ts : List Tok) → Deep TyR ts (length ts) → Deep P ts (length ts)) → (t : ℕ) (ts : List Tok) → GoodFault P ts (room_fault (begins_type (context_of t) ts) ts)
  type_room P w h t ts = by (begins_type (context_of t) ts) refl
    where
      by : (b : Bool) → begins_type (context_of t) ts ≡ b → GoodFault P ts (room_fault b ts)
      by true e = h ts (type_deep t ts e)
      by false e = first_wrong P ts w

  pub unary_expr : Implies UnaryR ExprR
  unary_expr ts rest u = level_expr ts rest (unary_level 10 ts rest u)

  module _ (t : ℕ) where
    pub readers_good : (n : ℕ) → GoodReaders t (readers (context_of t) n)
    unfolding readers
    readers_good zero = record {
      level = λ k ts. expr_room (LevelR k) (level_word k) (unary_level k) t ts;
      whole = λ ts. expr_room ExprR expr_word unary_expr t ts;
      type = λ ts. type_room TyR type_word (λ us d. d) t ts;
      run = λ a ts. run_deep ts;
      types_take = turns_of_types (context_of t) zero;
      exprs_take = turns_of_exprs (context_of t) zero;
      suffixes_take = turns_of_suffixes (context_of t) zero;
      operators_take = turns_of_operators (context_of t) zero;
    }
    readers_good (suc n) = record {
      level = λ k ts. level_good t (readers (context_of t) n) (readers_good n) (suc n) k ts;
      whole = λ ts. whole_good t (readers (context_of t) n) (readers_good n) (suc n) ts;
      type = λ ts. type_good t (readers (context_of t) n) (readers_good n) (suc n) ts;
      run = λ a ts. run_good t (readers (context_of t) n) (readers_good n) (suc n) a ts;
      types_take = turns_of_types (context_of t) (suc n);
      exprs_take = turns_of_exprs (context_of t) (suc n);
      suffixes_take = turns_of_suffixes (context_of t) (suc n);
      operators_take = turns_of_operators (context_of t) (suc n);
    }
