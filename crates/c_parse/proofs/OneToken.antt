-- A token that must come next: reading it goes on, and what is at fault there can be completed.
use Rattle.std.proofs.Common.{◌≡◌, Bool, true, false, List, [], ◌∷◌, refl, ap, inl, inr}
use Rattle.c_lex.specs.declared.token.Punct.TheVariants as m
use Rattle.c_parse.specs.Tok.{Tok, mark}
use Rattle.c_parse.specs.inner.Reader.{behind, must, is_behind, at_open_bracket, is_open_paren, open_paren, is_close_paren, close_paren, is_close_bracket, close_bracket}
use Rattle.c_parse.proofs.Single.{open_paren_is, close_paren_is, close_bracket_is}
use Rattle.c_parse.proofs.Completion.{Rule, Plain, Fits, Frame, GoodTokens, Word, first_wrong}

abbrev pub TokR : Tok → Rule
TokR o ts rest = ts ≡ o ∷ rest

pub token_frame : (o : Tok) (ts : List Tok) → Frame (TokR o) (o ∷ ts) ts
token_frame o ts = record { part = o ∷ []; is = refl; any = λ after w. refl }

pub token_word : (o : Tok) → ((after : List Tok) → Plain (o ∷ after)) → Word (TokR o)
token_word o p = record { tokens = o ∷ []; takes = λ after q. refl; plain = λ after q. p after }

-- a test that tells the token
pub must_good : (o : Tok) → ((after : List Tok) → Plain (o ∷ after)) → (ts : List Tok) (b : Bool) → (b ≡ true → ts ≡ o ∷ behind ts) → GoodTokens (TokR o) ts (must (is_behind ts b) ts)
must_good o p ts true h = rw (h refl) (token_frame o (behind ts))
must_good o p ts false h = first_wrong (TokR o) ts (token_word o p)

told_by : (is : Tok → Bool) (o : Tok) → ((p : Tok) → is p ≡ true → p ≡ o) → (p : Tok) (ts : List Tok) → is p ≡ true → p ∷ ts ≡ o ∷ ts
told_by is o h p ts e = ap (λ (z : Tok). z ∷ ts) (h p e)

pub open_paren_good : (ts : List Tok) → GoodTokens (TokR (mark m.OpenParen)) ts (open_paren ts)
open_paren_good [] = must_good (mark m.OpenParen) (λ after. (refl, refl)) [] false (λ e. absurd cc)
open_paren_good (o ∷ ts) = must_good (mark m.OpenParen) (λ after. (refl, refl)) (o ∷ ts) (is_open_paren o) (told_by is_open_paren (mark m.OpenParen) open_paren_is o ts)

pub close_paren_good : (ts : List Tok) → GoodTokens (TokR (mark m.CloseParen)) ts (close_paren ts)
close_paren_good [] = must_good (mark m.CloseParen) (λ after. (refl, refl)) [] false (λ e. absurd cc)
close_paren_good (o ∷ ts) = must_good (mark m.CloseParen) (λ after. (refl, refl)) (o ∷ ts) (is_close_paren o) (told_by is_close_paren (mark m.CloseParen) close_paren_is o ts)

pub close_bracket_good : (ts : List Tok) → GoodTokens (TokR (mark m.CloseBracket)) ts (close_bracket ts)
close_bracket_good [] = must_good (mark m.CloseBracket) (λ after. (refl, refl)) [] false (λ e. absurd cc)
close_bracket_good (o ∷ ts) = must_good (mark m.CloseBracket) (λ after. (refl, refl)) (o ∷ ts) (is_close_bracket o) (told_by is_close_bracket (mark m.CloseBracket) close_bracket_is o ts)

pub close_paren_word : Word (TokR (mark m.CloseParen))
close_paren_word = token_word (mark m.CloseParen) (λ after. (refl, refl))

pub open_paren_word : Word (TokR (mark m.OpenParen))
open_paren_word = token_word (mark m.OpenParen) (λ after. (refl, refl))

pub close_bracket_word : Word (TokR (mark m.CloseBracket))
close_bracket_word = token_word (mark m.CloseBracket) (λ after. (refl, refl))

pub fits_no_bracket : (rest after : List Tok) → at_open_bracket rest ≡ false → Fits rest after → at_open_bracket after ≡ false
fits_no_bracket rest after e (inl p) = p.1
fits_no_bracket rest after e (inr s) = rw (s.other) (rw (s.one) at e)
