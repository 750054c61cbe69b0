-- What is read of lists goes on, and what is at fault there can be completed.
use Rattle.std.proofs.Common.{◌≡◌, ℕ, Bool, true, false, cond, List, [], ◌∷◌, Result, Ok, Err, refl, ap, subst}
use Rattle.c_lex.specs.declared.token.Punct.TheVariants as m
use Rattle.c_parse.specs.declared.class.Key.TheVariants as key
use Rattle.c_parse.specs.declared.fault.Fault.{Fault}
use Rattle.c_parse.specs.Tok.{Tok, keyword, mark}
use Rattle.c_parse.specs.inner.Reader.{◌>>=◌, Got, Reader, loop, behind, at_comma}
use Rattle.c_parse.proofs.Single as single
use Rattle.c_parse.proofs.Single.{no_bracket, open_paren_is, close_paren_is, open_bracket_is, close_bracket_is, comma_is, star_is}
use Rattle.c_parse.proofs.Completion.{Rule, Good, GoodTokens, GoodTurn, Word, Seq, Implies, widen_fault, widen_frame, widen, good_behind, fault_behind, frame_seq, bind_good, Repeats, repeats_word, TurnTakes, loop_good}
use Rattle.c_parse.specs.Lists as lists
use Rattle.c_parse.specs.Lists.{Separated, ListEnd}
use Rattle.c_parse.specs.inner.ReadingLists.{pushed, comma_by, comma_turn, separated, more_turn, listed, brace_by, brace_turn, braced}
use Rattle.c_parse.specs.inner.Reader.{at_more, end_list, is_open_brace, open_brace, is_close_brace, at_close_brace, close_brace, is_semicolon, semicolon, is_colon, colon, is_while_word, while_word}
use Rattle.c_parse.proofs.OneToken.{TokR, token_frame, token_word, must_good}

-- ---- what repeats

pub mapped_good : {A B : Type 0} (P : Rule) (f : Got A → B) (ts : List Tok) (x : Result (Got A) Fault) → Good P ts x → Good P ts (x >>= λ got. Ok (f got, got.1))
mapped_good P f ts (Ok x) h = h
mapped_good P f ts (Err e) h = h

pub mapped_tokens : {B : Type 0} (P : Rule) (f : List Tok → B) (ts : List Tok) (x : Result (List Tok) Fault) → GoodTokens P ts x → Good P ts (x >>= λ rest. Ok (f rest, rest))
mapped_tokens P f ts (Ok x) h = h
mapped_tokens P f ts (Err e) h = h

comma_tok_word : Word (TokR (mark m.Comma))
comma_tok_word = token_word (mark m.Comma) (λ after. (refl, refl))

pushed_good : {A : Type 0} (P : Rule) (xs : List A) (ts : List Tok) (x : Result (Got A) Fault) → Good P ts x → GoodTurn P ts (x >>= pushed xs)
pushed_good P xs ts (Ok x) h = h
pushed_good P xs ts (Err e) h = h

behind_comma : {A : Type 0} (P : Rule) (read : Reader A) → ((ts : List Tok) → Good P ts (read ts)) → (xs : List A) (ts : List Tok) → GoodTurn (Seq (TokR (mark m.Comma)) P) (mark m.Comma ∷ ts) (read ts >>= pushed xs)
behind_comma P read h xs ts = pushed_good (Seq (TokR (mark m.Comma)) P) xs (mark m.Comma ∷ ts) (read ts) (good_behind (TokR (mark m.Comma)) P (mark m.Comma ∷ ts) ts (read ts) (token_frame (mark m.Comma) ts) (h ts))

comma_good : {A : Type 0} (P : Rule) (read : Reader A) → ((ts : List Tok) → Good P ts (read ts)) → (xs : List A) (ts : List Tok) (b : Bool) → (b ≡ true → at_comma ts ≡ true) → GoodTurn (Seq (TokR (mark m.Comma)) P) ts (comma_by read xs ts b)
comma_good P read h xs ts false e = tt
comma_good P read h xs [] true e = let bad : false ≡ true = e refl in absurd cc
comma_good P read h xs (o ∷ ts) true e = rw (comma_is o (e refl)) (behind_comma P read h xs ts)

more_comma : (ts : List Tok) → at_more ts ≡ true → at_comma ts ≡ true
more_comma ts e = by (at_comma ts) refl e
  where
    by : (b : Bool) → at_comma ts ≡ b → cond b (cond (at_close_brace (behind ts)) false true) false ≡ true → at_comma ts ≡ true
    by true is f = is
    by false is f = absurd cc

pub separated_good : {A : Type 0} (P M L : Rule) → Repeats (Seq (TokR (mark m.Comma)) P) M → Implies (Seq P M) L → (read : Reader A) → ((ts : List Tok) → Good P ts (read ts)) → TurnTakes (comma_turn read) → (ts : List Tok) → Good L ts (separated read ts)
separated_good P M L l join read h take ts = widen (Seq P M) L join ts (separated read ts) (bind_good P M (repeats_word (Seq (TokR (mark m.Comma)) P) M l) ts (read ts) (λ x. loop (comma_turn read) (x.0 ∷ []) x.1) (h ts)
    (λ x e. loop_good (Seq (TokR (mark m.Comma)) P) M l (comma_turn read) take (λ xs us. comma_good P read h xs us (at_comma us) (λ d. d)) (x.0 ∷ []) x.1))

pub listed_good : {A : Type 0} (P M L : Rule) → Repeats (Seq (TokR (mark m.Comma)) P) M → Implies (Seq P M) L → (read : Reader A) → ((ts : List Tok) → Good P ts (read ts)) → TurnTakes (more_turn read) → (ts : List Tok) → Good L ts (listed read ts)
listed_good P M L l join read h take ts = widen (Seq P M) L join ts (listed read ts) (bind_good P M (repeats_word (Seq (TokR (mark m.Comma)) P) M l) ts (read ts) (λ x. loop (more_turn read) (x.0 ∷ []) x.1) (h ts)
    (λ x e. loop_good (Seq (TokR (mark m.Comma)) P) M l (more_turn read) take (λ xs us. comma_good P read h xs us (at_more us) (more_comma us)) (x.0 ∷ []) x.1))

brace_good : {A : Type 0} (P : Rule) (read : Reader A) → ((ts : List Tok) → Good P ts (read ts)) → (xs : List A) (ts : List Tok) (b : Bool) → GoodTurn P ts (brace_by read xs ts b)
brace_good P read h xs ts true = tt
brace_good P read h xs ts false = pushed_good P xs ts (read ts) (h ts)

pub braced_good : {A : Type 0} (P L : Rule) → Repeats P L → (read : Reader A) → ((ts : List Tok) → Good P ts (read ts)) → TurnTakes (brace_turn read) → (ts : List Tok) → Good L ts (braced read ts)
braced_good P L l read h take ts = loop_good P L l (brace_turn read) take (λ xs us. brace_good P read h xs us (at_close_brace us)) [] ts

-- ---- items parted by commas, of any kind

module _ {A X : Type 0} (Q : ℕ → X → List Tok → A → List Tok → Type 0) where
  abbrev pub OneR : Rule
  OneR ts rest = (t : ℕ) (x : X) → (a : A) × Q t x ts a rest

  abbrev pub SomeR : Rule
  SomeR ts rest = (t : ℕ) (x : X) → (xs : List A) × Separated (Q t x) ts xs rest

  abbrev pub RestR : Rule
  RestR ts rest = (t : ℕ) (x : X) (us : List Tok) (a : A) → Q t x us a ts → (xs : List A) × Separated (Q t x) us xs rest

  pub rest_repeat : Repeats (Seq (TokR (mark m.Comma)) OneR) RestR
  rest_repeat = record {
    ends = λ ts t x us a d. (a ∷ [], lists.last d);
    goes = λ ts mid rest s l t x us a d. let b = s.2 t x in let y = l t x s.0 b.0 b.1 in (a ∷ y.0, lists.more (subst (λ (z : List Tok). Q t x us a z) s.1 d) y.1);
  }

  pub rest_join : Implies (Seq OneR RestR) SomeR
  rest_join ts rest s t x = let a = s.1 t x in s.2 t x ts a.0 a.1

  pub some_word : Word OneR → Word SomeR
  some_word w = record { tokens = w.tokens; takes = λ after p t x. let a = w.takes after p t x in (a.0 ∷ [], lists.last a.1); plain = w.plain }

-- ---- tokens

pub open_brace_good : (ts : List Tok) → GoodTokens (TokR (mark m.OpenBrace)) ts (open_brace ts)
open_brace_good [] = must_good (mark m.OpenBrace) (λ after. (refl, refl)) [] false (λ e. absurd cc)
open_brace_good (o ∷ ts) = must_good (mark m.OpenBrace) (λ after. (refl, refl)) (o ∷ ts) (is_open_brace o) (λ e. ap (λ (z : Tok). z ∷ ts) (single.open_brace_is o e))

pub close_brace_good : (ts : List Tok) → GoodTokens (TokR (mark m.CloseBrace)) ts (close_brace ts)
close_brace_good [] = must_good (mark m.CloseBrace) (λ after. (refl, refl)) [] false (λ e. absurd cc)
close_brace_good (o ∷ ts) = must_good (mark m.CloseBrace) (λ after. (refl, refl)) (o ∷ ts) (is_close_brace o) (λ e. ap (λ (z : Tok). z ∷ ts) (single.close_brace_is o e))

pub semicolon_good : (ts : List Tok) → GoodTokens (TokR (mark m.Semicolon)) ts (semicolon ts)
semicolon_good [] = must_good (mark m.Semicolon) (λ after. (refl, refl)) [] false (λ e. absurd cc)
semicolon_good (o ∷ ts) = must_good (mark m.Semicolon) (λ after. (refl, refl)) (o ∷ ts) (is_semicolon o) (λ e. ap (λ (z : Tok). z ∷ ts) (single.semicolon_is o e))

pub colon_good : (ts : List Tok) → GoodTokens (TokR (mark m.Colon)) ts (colon ts)
colon_good [] = must_good (mark m.Colon) (λ after. (refl, refl)) [] false (λ e. absurd cc)
colon_good (o ∷ ts) = must_good (mark m.Colon) (λ after. (refl, refl)) (o ∷ ts) (is_colon o) (λ e. ap (λ (z : Tok). z ∷ ts) (single.colon_is o e))

pub while_word_good : (ts : List Tok) → GoodTokens (TokR (keyword key.While)) ts (while_word ts)
while_word_good [] = must_good (keyword key.While) (λ after. (refl, refl)) [] false (λ e. absurd cc)
while_word_good (o ∷ ts) = must_good (keyword key.While) (λ after. (refl, refl)) (o ∷ ts) (is_while_word o) (λ e. ap (λ (z : Tok). z ∷ ts) (single.while_word_is o e))

pub open_brace_word : Word (TokR (mark m.OpenBrace))
open_brace_word = token_word (mark m.OpenBrace) (λ after. (refl, refl))

pub close_brace_word : Word (TokR (mark m.CloseBrace))
close_brace_word = token_word (mark m.CloseBrace) (λ after. (refl, refl))

pub semicolon_word : Word (TokR (mark m.Semicolon))
semicolon_word = token_word (mark m.Semicolon) (λ after. (refl, refl))

pub colon_word : Word (TokR (mark m.Colon))
colon_word = token_word (mark m.Colon) (λ after. (refl, refl))

pub while_tok_word : Word (TokR (keyword key.While))
while_tok_word = token_word (keyword key.While) (λ after. (refl, refl))

pub list_end_word : Word ListEnd
list_end_word = record { tokens = mark m.CloseBrace ∷ []; takes = λ after p. lists.brace; plain = λ after p. (refl, refl) }

brace_end : (ts : List Tok) (x : Result (List Tok) Fault) → GoodTokens (TokR (mark m.CloseBrace)) ts x → GoodTokens ListEnd ts x
brace_end ts (Ok rest) h = widen_frame (TokR (mark m.CloseBrace)) ListEnd (λ us vs e. rw e lists.brace) ts rest h
brace_end ts (Err f) h = widen_fault (TokR (mark m.CloseBrace)) ListEnd (λ us vs e. rw e lists.brace) ts f h

comma_end : (ts : List Tok) (x : Result (List Tok) Fault) → GoodTokens (TokR (mark m.CloseBrace)) ts x → GoodTokens ListEnd (mark m.Comma ∷ ts) x
comma_end ts (Ok rest) h = widen_frame (Seq (TokR (mark m.Comma)) (TokR (mark m.CloseBrace))) ListEnd (λ us vs s. rw (s.1, s.2) lists.comma) (mark m.Comma ∷ ts) rest (frame_seq (TokR (mark m.Comma)) (TokR (mark m.CloseBrace)) _ ts rest (token_frame (mark m.Comma) ts) h)
comma_end ts (Err f) h = widen_fault (Seq (TokR (mark m.Comma)) (TokR (mark m.CloseBrace))) ListEnd (λ us vs s. rw (s.1, s.2) lists.comma) (mark m.Comma ∷ ts) f (fault_behind (TokR (mark m.Comma)) (TokR (mark m.CloseBrace)) _ ts f (token_frame (mark m.Comma) ts) h)

end_good_by : (ts : List Tok) (b : Bool) → at_comma ts ≡ b → GoodTokens ListEnd ts (cond b (close_brace (behind ts)) (close_brace ts))
end_good_by ts false e = brace_end ts (close_brace ts) (close_brace_good ts)
end_good_by [] true e = absurd cc
end_good_by (o ∷ ts) true e = rw (comma_is o e) (comma_end ts (close_brace ts) (close_brace_good ts))

pub end_list_good : (ts : List Tok) → GoodTokens ListEnd ts (end_list ts)
end_list_good ts = end_good_by ts (at_comma ts) refl
