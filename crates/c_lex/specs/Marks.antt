-- The marks, and the longest one at the front of a text.
use Rattle.std.specs.Prelude.{ℕ, zero, suc, List, [], ◌∷◌, length, take, codes, Option, Some, None, option_map, if◌then◌else◌, nat_lt}
use Rattle.std.specs.Str.{bytes_eq}
use Rattle.std.specs.Borrow.{Bor}
use Rattle.c_lex.specs.declared.token.Punct.{Punct}
use Rattle.c_lex.specs.declared.token.Punct.TheVariants as m

unfoldable pub marks : List (List ℕ × Punct)
marks =
    (codes "{", m.OpenBrace) ∷
    (codes "}", m.CloseBrace) ∷
    (codes "(", m.OpenParen) ∷
    (codes ")", m.CloseParen) ∷
    (codes "[", m.OpenBracket) ∷
    (codes "]", m.CloseBracket) ∷
    (codes ";", m.Semicolon) ∷
    (codes ",", m.Comma) ∷
    (codes ".", m.Dot) ∷
    (codes "->", m.Arrow) ∷
    (codes "?", m.Question) ∷
    (codes ":", m.Colon) ∷
    (codes "#", m.Hash) ∷
    (codes "=", m.Assign) ∷
    (codes "+=", m.PlusAssign) ∷
    (codes "-=", m.MinusAssign) ∷
    (codes "*=", m.StarAssign) ∷
    (codes "/=", m.SlashAssign) ∷
    (codes "%=", m.PercentAssign) ∷
    (codes "<<=", m.ShlAssign) ∷
    (codes ">>=", m.ShrAssign) ∷
    (codes "&=", m.AndAssign) ∷
    (codes "|=", m.OrAssign) ∷
    (codes "^=", m.XorAssign) ∷
    (codes "||", m.OrOr) ∷
    (codes "&&", m.AndAnd) ∷
    (codes "|", m.Or) ∷
    (codes "^", m.Xor) ∷
    (codes "&", m.And) ∷
    (codes "==", m.EqualEqual) ∷
    (codes "!=", m.NotEqual) ∷
    (codes "<", m.Less) ∷
    (codes "<=", m.LessEqual) ∷
    (codes ">", m.Greater) ∷
    (codes ">=", m.GreaterEqual) ∷
    (codes "<<", m.Shl) ∷
    (codes ">>", m.Shr) ∷
    (codes "+", m.Plus) ∷
    (codes "-", m.Minus) ∷
    (codes "*", m.Star) ∷
    (codes "/", m.Slash) ∷
    (codes "%", m.Percent) ∷
    (codes "!", m.Bang) ∷
    (codes "~", m.Tilde) ∷
    (codes "++", m.PlusPlus) ∷
    (codes "--", m.MinusMinus) ∷
    []

-- the mark of that spelling in a table
abbrev pub spelled_in : List ℕ → List (List ℕ × Punct) → Option Punct
spelled_in text [] = None
spelled_in text (e ∷ es) = if bytes_eq text e.0 then Some e.1 else spelled_in text es

unfoldable pub mark_of : List ℕ → Option Punct
mark_of text = spelled_in text marks

-- the mark of that length at the front
abbrev pub mark_of_len : ℕ → List ℕ → Option (ℕ × Punct)
mark_of_len n bytes = if nat_lt (length bytes) n then None else option_map (λ m. (n, m)) (mark_of (take n bytes))

abbrev pub or_else : Option (ℕ × Punct) → Option (ℕ × Punct) → Option (ℕ × Punct)
or_else (Some x) other = Some x
or_else None other = other

-- the longest of at most that length
unfoldable pub mark_up_to : ℕ → List ℕ → Option (ℕ × Punct)
mark_up_to zero bytes = None
mark_up_to (suc n) bytes = or_else (mark_of_len (suc n) bytes) (mark_up_to n bytes)

-- no mark has more than three bytes
unfoldable pub mark_at : List ℕ → Option (ℕ × Punct)
mark_at bytes = mark_up_to 3 bytes

-- an entry of the program's table
abbrev pub listed : Bor (List ℕ) × Punct → List ℕ × Punct
listed e = (e.0.now, e.1)
