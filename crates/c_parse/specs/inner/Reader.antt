-- Reading from left to right: the parts of which the readers are made.
use Rattle.std.specs.Prelude.{ℕ, zero, suc, Bool, true, false, List, [], ◌∷◌, length, Option, Some, None, Result, Ok, Err, nat_lt, if◌then◌else◌}
use denote.Enum.Bare.{sameb}
use Rattle.c_lex.specs.contracts.token.Punct.{the_type}
use Rattle.c_lex.specs.declared.token.Punct.{Punct}
use Rattle.c_lex.specs.declared.token.Punct.TheVariants as m
use Rattle.c_parse.specs.declared.fault.Fault.{Fault}
use Rattle.c_parse.specs.declared.fault.Fault.TheVariants.{Syntax, TooDeep}
use Rattle.c_parse.specs.declared.class.Key.TheVariants as key
use Rattle.c_parse.specs.Tok.{Tok, keyword, word, text, mark}
use Rattle.c_parse.specs.Scope.{Context, is_type}

infixl 10 ◌>>=◌
abbrev pub ◌>>=◌ : {A B : Type 0} → Result A Fault → (A → Result B Fault) → Result B Fault
(Ok x) >>= f = f x
(Err e) >>= f = Err e

-- what is read, and the tokens behind it
abbrev pub Got : Type 0 → Type 0
Got A = A × List Tok

abbrev pub Reader : Type 0 → Type 0
Reader A = List Tok → Result (Got A) Fault

abbrev pub bad : {A : Type 0} → List Tok → Result A Fault
bad ts = Err (Syntax (length ts))

abbrev pub deep : {A : Type 0} → List Tok → Result A Fault
deep ts = Err (TooDeep (length ts))

-- what would begin here has no room, and something else does not belong here
abbrev pub room_fault : Bool → List Tok → Fault
room_fault true ts = TooDeep (length ts)
room_fault false ts = Syntax (length ts)

abbrev pub no_room : {A : Type 0} → Bool → List Tok → Result A Fault
no_room begins ts = Err (room_fault begins ts)

-- one tree more above a part of that depth
abbrev pub above : {A : Type 0} → ℕ → ℕ → List Tok → Result A Fault → Result A Fault
above depth room ts r = if nat_lt depth room then r else deep ts

-- One turn of a part that repeats: what stands so far and the tokens left, or None where it ends.
abbrev pub Turn : Type 0 → Type 0
Turn A = A → List Tok → Result (Option (Got A)) Fault

abbrev pub goes_on : {A : Type 0} → (A → Reader A) → A → List Tok → Option (Got A) → Result (Got A) Fault
goes_on again a ts None = Ok (a, ts)
goes_on again a ts (Some p) = again p.0 p.1

-- the count bounds the turns
unfoldable pub repeat : {A : Type 0} → Turn A → ℕ → A → Reader A
repeat turn zero a ts = deep ts
repeat turn (suc n) a ts = turn a ts >>= goes_on (repeat turn n) a ts

-- each turn takes a token at least
abbrev pub loop : {A : Type 0} → Turn A → A → Reader A
loop turn a ts = repeat turn (suc (length ts)) a ts

abbrev pub behind : List Tok → List Tok
behind [] = []
behind (o ∷ ts) = ts

-- the bytes of the word or text at the front
abbrev pub bytes_at : List Tok → List ℕ
bytes_at (word n ∷ ts) = n
bytes_at (text t ∷ ts) = t
bytes_at _ = []

abbrev pub is_behind : List Tok → Bool → Option (List Tok)
is_behind ts true = Some (behind ts)
is_behind ts false = None

abbrev pub must : Option (List Tok) → List Tok → Result (List Tok) Fault
must (Some rest) ts = Ok rest
must None ts = bad ts

-- the token is that mark
abbrev pub is_mark : Punct → Tok → Bool
is_mark p (mark q) = sameb the_type q p
is_mark p _ = false

abbrev pub at_mark : Punct → List Tok → Bool
at_mark p [] = false
at_mark p (o ∷ ts) = is_mark p o

abbrev pub is_open_paren : Tok → Bool
is_open_paren o = is_mark m.OpenParen o

abbrev pub at_open_paren : List Tok → Bool
at_open_paren ts = at_mark m.OpenParen ts

abbrev pub open_paren : List Tok → Result (List Tok) Fault
open_paren ts = must (is_behind ts (at_open_paren ts)) ts

abbrev pub is_close_paren : Tok → Bool
is_close_paren o = is_mark m.CloseParen o

abbrev pub at_close_paren : List Tok → Bool
at_close_paren ts = at_mark m.CloseParen ts

abbrev pub close_paren : List Tok → Result (List Tok) Fault
close_paren ts = must (is_behind ts (at_close_paren ts)) ts

abbrev pub is_open_bracket : Tok → Bool
is_open_bracket o = is_mark m.OpenBracket o

abbrev pub at_open_bracket : List Tok → Bool
at_open_bracket ts = at_mark m.OpenBracket ts

abbrev pub open_bracket : List Tok → Result (List Tok) Fault
open_bracket ts = must (is_behind ts (at_open_bracket ts)) ts

abbrev pub is_close_bracket : Tok → Bool
is_close_bracket o = is_mark m.CloseBracket o

abbrev pub at_close_bracket : List Tok → Bool
at_close_bracket ts = at_mark m.CloseBracket ts

abbrev pub close_bracket : List Tok → Result (List Tok) Fault
close_bracket ts = must (is_behind ts (at_close_bracket ts)) ts

abbrev pub is_open_brace : Tok → Bool
is_open_brace o = is_mark m.OpenBrace o

abbrev pub at_open_brace : List Tok → Bool
at_open_brace ts = at_mark m.OpenBrace ts

abbrev pub open_brace : List Tok → Result (List Tok) Fault
open_brace ts = must (is_behind ts (at_open_brace ts)) ts

abbrev pub is_close_brace : Tok → Bool
is_close_brace o = is_mark m.CloseBrace o

abbrev pub at_close_brace : List Tok → Bool
at_close_brace ts = at_mark m.CloseBrace ts

abbrev pub close_brace : List Tok → Result (List Tok) Fault
close_brace ts = must (is_behind ts (at_close_brace ts)) ts

abbrev pub is_semicolon : Tok → Bool
is_semicolon o = is_mark m.Semicolon o

abbrev pub at_semicolon : List Tok → Bool
at_semicolon ts = at_mark m.Semicolon ts

abbrev pub semicolon : List Tok → Result (List Tok) Fault
semicolon ts = must (is_behind ts (at_semicolon ts)) ts

abbrev pub is_comma : Tok → Bool
is_comma o = is_mark m.Comma o

abbrev pub at_comma : List Tok → Bool
at_comma ts = at_mark m.Comma ts

abbrev pub comma : List Tok → Result (List Tok) Fault
comma ts = must (is_behind ts (at_comma ts)) ts

abbrev pub is_colon : Tok → Bool
is_colon o = is_mark m.Colon o

abbrev pub at_colon : List Tok → Bool
at_colon ts = at_mark m.Colon ts

abbrev pub colon : List Tok → Result (List Tok) Fault
colon ts = must (is_behind ts (at_colon ts)) ts

abbrev pub is_assign : Tok → Bool
is_assign o = is_mark m.Assign o

abbrev pub at_assign : List Tok → Bool
at_assign ts = at_mark m.Assign ts

abbrev pub assign : List Tok → Result (List Tok) Fault
assign ts = must (is_behind ts (at_assign ts)) ts

abbrev pub is_star : Tok → Bool
is_star o = is_mark m.Star o

abbrev pub at_star : List Tok → Bool
at_star ts = at_mark m.Star ts

abbrev pub star : List Tok → Result (List Tok) Fault
star ts = must (is_behind ts (at_star ts)) ts

abbrev pub is_else_word : Tok → Bool
is_else_word (keyword key.Else) = true
is_else_word _ = false

abbrev pub at_else_word : List Tok → Bool
at_else_word [] = false
at_else_word (o ∷ ts) = is_else_word o

abbrev pub else_word : List Tok → Result (List Tok) Fault
else_word ts = must (is_behind ts (at_else_word ts)) ts

abbrev pub is_while_word : Tok → Bool
is_while_word (keyword key.While) = true
is_while_word _ = false

abbrev pub at_while_word : List Tok → Bool
at_while_word [] = false
at_while_word (o ∷ ts) = is_while_word o

abbrev pub while_word : List Tok → Result (List Tok) Fault
while_word ts = must (is_behind ts (at_while_word ts)) ts

abbrev pub is_void_word : Tok → Bool
is_void_word (keyword key.Void) = true
is_void_word _ = false

abbrev pub at_void_word : List Tok → Bool
at_void_word [] = false
at_void_word (o ∷ ts) = is_void_word o

abbrev pub void_word : List Tok → Result (List Tok) Fault
void_word ts = must (is_behind ts (at_void_word ts)) ts

-- a word that is no type's name
abbrev pub is_name : Context → Tok → Bool
is_name c (word n) = if is_type c n then false else true
is_name c _ = false

abbrev pub at_name : Context → List Tok → Bool
at_name c [] = false
at_name c (o ∷ ts) = is_name c o

abbrev pub name : Context → Reader (List ℕ)
name c ts = if at_name c ts then Ok (bytes_at ts, behind ts) else bad ts

-- any word
abbrev pub is_new : Tok → Bool
is_new (word n) = true
is_new _ = false

abbrev pub at_new : List Tok → Bool
at_new [] = false
at_new (o ∷ ts) = is_new o

abbrev pub new : Reader (List ℕ)
new ts = if at_new ts then Ok (bytes_at ts, behind ts) else bad ts

-- behind a comma, where something other than the closing brace follows it
abbrev pub at_more : List Tok → Bool
at_more ts = if at_comma ts then (if at_close_brace (behind ts) then false else true) else false

abbrev pub end_list : List Tok → Result (List Tok) Fault
end_list ts = if at_comma ts then close_brace (behind ts) else close_brace ts
