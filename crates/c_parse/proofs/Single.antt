-- What the tests of a single token tell of it.
use Rattle.std.proofs.Common.{◌≡◌, true, false, List, [], ◌∷◌, refl, ap}
use denote.Enum.Bare.{same_true}
use Rattle.c_lex.specs.contracts.token.Punct.{the_type}
use Rattle.c_lex.specs.declared.token.Punct.{Punct}
use Rattle.c_lex.specs.declared.token.Punct.TheVariants as m
use Rattle.c_parse.specs.declared.class.Key.TheVariants as key
use Rattle.c_parse.specs.Tok.{Tok, keyword, refused, word, number, character, text, mark}
use Rattle.c_parse.specs.Grammar.{NoBracket}
use Rattle.c_parse.specs.Statements.{NoElse}
use Rattle.c_parse.specs.inner.Reader.{is_mark, is_open_paren, is_close_paren, is_open_bracket, is_close_bracket, is_open_brace, is_close_brace, is_semicolon, is_comma, is_colon, is_assign, is_star, is_else_word, is_while_word, is_void_word, at_open_bracket, at_else_word}

pub mark_is : (p : Punct) (o : Tok) → is_mark p o ≡ true → o ≡ mark p
mark_is p (mark q) e = ap mark (same_true the_type tt q p e)
mark_is p (keyword k) e = absurd cc
mark_is p (refused n) e = absurd cc
mark_is p (word n) e = absurd cc
mark_is p (number n) e = absurd cc
mark_is p (character n) e = absurd cc
mark_is p (text t) e = absurd cc

pub open_paren_is : (o : Tok) → is_open_paren o ≡ true → o ≡ mark m.OpenParen
open_paren_is o e = mark_is m.OpenParen o e

pub close_paren_is : (o : Tok) → is_close_paren o ≡ true → o ≡ mark m.CloseParen
close_paren_is o e = mark_is m.CloseParen o e

pub open_bracket_is : (o : Tok) → is_open_bracket o ≡ true → o ≡ mark m.OpenBracket
open_bracket_is o e = mark_is m.OpenBracket o e

pub close_bracket_is : (o : Tok) → is_close_bracket o ≡ true → o ≡ mark m.CloseBracket
close_bracket_is o e = mark_is m.CloseBracket o e

pub open_brace_is : (o : Tok) → is_open_brace o ≡ true → o ≡ mark m.OpenBrace
open_brace_is o e = mark_is m.OpenBrace o e

pub close_brace_is : (o : Tok) → is_close_brace o ≡ true → o ≡ mark m.CloseBrace
close_brace_is o e = mark_is m.CloseBrace o e

pub semicolon_is : (o : Tok) → is_semicolon o ≡ true → o ≡ mark m.Semicolon
semicolon_is o e = mark_is m.Semicolon o e

pub comma_is : (o : Tok) → is_comma o ≡ true → o ≡ mark m.Comma
comma_is o e = mark_is m.Comma o e

pub colon_is : (o : Tok) → is_colon o ≡ true → o ≡ mark m.Colon
colon_is o e = mark_is m.Colon o e

pub assign_is : (o : Tok) → is_assign o ≡ true → o ≡ mark m.Assign
assign_is o e = mark_is m.Assign o e

pub star_is : (o : Tok) → is_star o ≡ true → o ≡ mark m.Star
star_is o e = mark_is m.Star o e

pub else_word_is : (o : Tok) → is_else_word o ≡ true → o ≡ keyword key.Else
else_word_is (refused n) e = absurd cc
else_word_is (word n) e = absurd cc
else_word_is (number n) e = absurd cc
else_word_is (character n) e = absurd cc
else_word_is (text t) e = absurd cc
else_word_is (mark p) e = absurd cc
else_word_is (keyword key.Int) e = absurd cc
else_word_is (keyword key.Bool) e = absurd cc
else_word_is (keyword key.Void) e = absurd cc
else_word_is (keyword key.Struct) e = absurd cc
else_word_is (keyword key.Union) e = absurd cc
else_word_is (keyword key.Enum) e = absurd cc
else_word_is (keyword key.Typedef) e = absurd cc
else_word_is (keyword key.If) e = absurd cc
else_word_is (keyword key.Else) e = refl
else_word_is (keyword key.While) e = absurd cc
else_word_is (keyword key.Do) e = absurd cc
else_word_is (keyword key.For) e = absurd cc
else_word_is (keyword key.Switch) e = absurd cc
else_word_is (keyword key.Case) e = absurd cc
else_word_is (keyword key.Default) e = absurd cc
else_word_is (keyword key.Return) e = absurd cc
else_word_is (keyword key.Break) e = absurd cc
else_word_is (keyword key.Continue) e = absurd cc
else_word_is (keyword key.SizeOf) e = absurd cc
else_word_is (keyword key.True) e = absurd cc
else_word_is (keyword key.False) e = absurd cc
else_word_is (keyword key.Null) e = absurd cc

pub while_word_is : (o : Tok) → is_while_word o ≡ true → o ≡ keyword key.While
while_word_is (refused n) e = absurd cc
while_word_is (word n) e = absurd cc
while_word_is (number n) e = absurd cc
while_word_is (character n) e = absurd cc
while_word_is (text t) e = absurd cc
while_word_is (mark p) e = absurd cc
while_word_is (keyword key.Int) e = absurd cc
while_word_is (keyword key.Bool) e = absurd cc
while_word_is (keyword key.Void) e = absurd cc
while_word_is (keyword key.Struct) e = absurd cc
while_word_is (keyword key.Union) e = absurd cc
while_word_is (keyword key.Enum) e = absurd cc
while_word_is (keyword key.Typedef) e = absurd cc
while_word_is (keyword key.If) e = absurd cc
while_word_is (keyword key.Else) e = absurd cc
while_word_is (keyword key.While) e = refl
while_word_is (keyword key.Do) e = absurd cc
while_word_is (keyword key.For) e = absurd cc
while_word_is (keyword key.Switch) e = absurd cc
while_word_is (keyword key.Case) e = absurd cc
while_word_is (keyword key.Default) e = absurd cc
while_word_is (keyword key.Return) e = absurd cc
while_word_is (keyword key.Break) e = absurd cc
while_word_is (keyword key.Continue) e = absurd cc
while_word_is (keyword key.SizeOf) e = absurd cc
while_word_is (keyword key.True) e = absurd cc
while_word_is (keyword key.False) e = absurd cc
while_word_is (keyword key.Null) e = absurd cc

pub void_word_is : (o : Tok) → is_void_word o ≡ true → o ≡ keyword key.Void
void_word_is (refused n) e = absurd cc
void_word_is (word n) e = absurd cc
void_word_is (number n) e = absurd cc
void_word_is (character n) e = absurd cc
void_word_is (text t) e = absurd cc
void_word_is (mark p) e = absurd cc
void_word_is (keyword key.Int) e = absurd cc
void_word_is (keyword key.Bool) e = absurd cc
void_word_is (keyword key.Void) e = refl
void_word_is (keyword key.Struct) e = absurd cc
void_word_is (keyword key.Union) e = absurd cc
void_word_is (keyword key.Enum) e = absurd cc
void_word_is (keyword key.Typedef) e = absurd cc
void_word_is (keyword key.If) e = absurd cc
void_word_is (keyword key.Else) e = absurd cc
void_word_is (keyword key.While) e = absurd cc
void_word_is (keyword key.Do) e = absurd cc
void_word_is (keyword key.For) e = absurd cc
void_word_is (keyword key.Switch) e = absurd cc
void_word_is (keyword key.Case) e = absurd cc
void_word_is (keyword key.Default) e = absurd cc
void_word_is (keyword key.Return) e = absurd cc
void_word_is (keyword key.Break) e = absurd cc
void_word_is (keyword key.Continue) e = absurd cc
void_word_is (keyword key.SizeOf) e = absurd cc
void_word_is (keyword key.True) e = absurd cc
void_word_is (keyword key.False) e = absurd cc
void_word_is (keyword key.Null) e = absurd cc

pub no_bracket : (ts : List Tok) → at_open_bracket ts ≡ false → NoBracket ts
no_bracket [] e = tt
no_bracket (keyword k ∷ ts) e = tt
no_bracket (refused n ∷ ts) e = tt
no_bracket (word n ∷ ts) e = tt
no_bracket (number n ∷ ts) e = tt
no_bracket (character n ∷ ts) e = tt
no_bracket (text t ∷ ts) e = tt
no_bracket (mark m.OpenBrace ∷ ts) e = tt
no_bracket (mark m.CloseBrace ∷ ts) e = tt
no_bracket (mark m.OpenParen ∷ ts) e = tt
no_bracket (mark m.CloseParen ∷ ts) e = tt
no_bracket (mark m.OpenBracket ∷ ts) e = absurd cc
no_bracket (mark m.CloseBracket ∷ ts) e = tt
no_bracket (mark m.Semicolon ∷ ts) e = tt
no_bracket (mark m.Comma ∷ ts) e = tt
no_bracket (mark m.Dot ∷ ts) e = tt
no_bracket (mark m.Arrow ∷ ts) e = tt
no_bracket (mark m.Question ∷ ts) e = tt
no_bracket (mark m.Colon ∷ ts) e = tt
no_bracket (mark m.Hash ∷ ts) e = tt
no_bracket (mark m.Assign ∷ ts) e = tt
no_bracket (mark m.PlusAssign ∷ ts) e = tt
no_bracket (mark m.MinusAssign ∷ ts) e = tt
no_bracket (mark m.StarAssign ∷ ts) e = tt
no_bracket (mark m.SlashAssign ∷ ts) e = tt
no_bracket (mark m.PercentAssign ∷ ts) e = tt
no_bracket (mark m.ShlAssign ∷ ts) e = tt
no_bracket (mark m.ShrAssign ∷ ts) e = tt
no_bracket (mark m.AndAssign ∷ ts) e = tt
no_bracket (mark m.OrAssign ∷ ts) e = tt
no_bracket (mark m.XorAssign ∷ ts) e = tt
no_bracket (mark m.OrOr ∷ ts) e = tt
no_bracket (mark m.AndAnd ∷ ts) e = tt
no_bracket (mark m.Or ∷ ts) e = tt
no_bracket (mark m.Xor ∷ ts) e = tt
no_bracket (mark m.And ∷ ts) e = tt
no_bracket (mark m.EqualEqual ∷ ts) e = tt
no_bracket (mark m.NotEqual ∷ ts) e = tt
no_bracket (mark m.Less ∷ ts) e = tt
no_bracket (mark m.LessEqual ∷ ts) e = tt
no_bracket (mark m.Greater ∷ ts) e = tt
no_bracket (mark m.GreaterEqual ∷ ts) e = tt
no_bracket (mark m.Shl ∷ ts) e = tt
no_bracket (mark m.Shr ∷ ts) e = tt
no_bracket (mark m.Plus ∷ ts) e = tt
no_bracket (mark m.Minus ∷ ts) e = tt
no_bracket (mark m.Star ∷ ts) e = tt
no_bracket (mark m.Slash ∷ ts) e = tt
no_bracket (mark m.Percent ∷ ts) e = tt
no_bracket (mark m.Bang ∷ ts) e = tt
no_bracket (mark m.Tilde ∷ ts) e = tt
no_bracket (mark m.PlusPlus ∷ ts) e = tt
no_bracket (mark m.MinusMinus ∷ ts) e = tt

pub no_else : (ts : List Tok) → at_else_word ts ≡ false → NoElse ts
no_else [] e = tt
no_else (refused n ∷ ts) e = tt
no_else (word n ∷ ts) e = tt
no_else (number n ∷ ts) e = tt
no_else (character n ∷ ts) e = tt
no_else (text t ∷ ts) e = tt
no_else (mark p ∷ ts) e = tt
no_else (keyword key.Int ∷ ts) e = tt
no_else (keyword key.Bool ∷ ts) e = tt
no_else (keyword key.Void ∷ ts) e = tt
no_else (keyword key.Struct ∷ ts) e = tt
no_else (keyword key.Union ∷ ts) e = tt
no_else (keyword key.Enum ∷ ts) e = tt
no_else (keyword key.Typedef ∷ ts) e = tt
no_else (keyword key.If ∷ ts) e = tt
no_else (keyword key.Else ∷ ts) e = absurd cc
no_else (keyword key.While ∷ ts) e = tt
no_else (keyword key.Do ∷ ts) e = tt
no_else (keyword key.For ∷ ts) e = tt
no_else (keyword key.Switch ∷ ts) e = tt
no_else (keyword key.Case ∷ ts) e = tt
no_else (keyword key.Default ∷ ts) e = tt
no_else (keyword key.Return ∷ ts) e = tt
no_else (keyword key.Break ∷ ts) e = tt
no_else (keyword key.Continue ∷ ts) e = tt
no_else (keyword key.SizeOf ∷ ts) e = tt
no_else (keyword key.True ∷ ts) e = tt
no_else (keyword key.False ∷ ts) e = tt
no_else (keyword key.Null ∷ ts) e = tt

-- ---- what a lead tells
