-- The lines of a file's tokens: each goes up to the next token that begins one.
use Rattle.std.specs.Prelude.{◌≡◌, List, [], ◌∷◌, Bool, true, false, ◌&&◌, if◌then◌else◌}
use Rattle.std.specs.List.{AllByRecursion}
use Rattle.c_lex.specs.declared.token.Kind.{Kind}
use Rattle.c_lex.specs.declared.token.Kind.TheVariants as k
use Rattle.c_lex.specs.declared.token.Punct.TheVariants as m
use Rattle.c_lex.specs.declared.token.Token.{Token}

-- a token before these lines: it stands on the first of them, unless that is begun by its own first token
abbrev pub begins : List Token → Bool
begins [] = false
begins (t ∷ ts) = t.first

abbrev pub before : Token → List (List Token) → List (List Token)
before t [] = (t ∷ []) ∷ []
before t (line ∷ lines) = if begins line then (t ∷ []) ∷ line ∷ lines else (t ∷ line) ∷ lines

unfoldable pub lines_of : List Token → List (List Token)
lines_of [] = []
lines_of (t ∷ ts) = before t (lines_of ts)

abbrev pub is_hash : Kind → Bool
is_hash (k.Punct m.Hash) = true
is_hash _ = false

-- a line that begins with `#` is a directive
abbrev pub begins_directive : Token → Bool
begins_directive t = t.first && is_hash t.kind

-- a line's tokens but its first do not begin a line
abbrev pub IsLine : List Token → Type 0
IsLine [] = ⊥
IsLine (t ∷ ts) = AllByRecursion (λ u. u.first ≡ false) ts
