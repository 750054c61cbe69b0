-- What the grammar sees of a token: keywords and refused words apart from other words.
use Rattle.std.specs.Prelude.{ℕ, List, [], ◌∷◌, codes, map, if◌then◌else◌}
use Rattle.std.specs.Str.{bytes_eq}
use Rattle.std.specs.Borrow.{Bor}
use Rattle.c_lex.specs.declared.token.Token.{Token}
use Rattle.c_lex.specs.declared.token.Kind.{Kind}
use Rattle.c_lex.specs.declared.token.Kind.TheVariants as k
use Rattle.c_lex.specs.declared.token.Punct.{Punct}
use Rattle.c_parse.specs.declared.class.Key.{Key}
use Rattle.c_parse.specs.declared.class.Key.TheVariants as key
use Rattle.c_parse.specs.declared.class.Class.{Class}
use Rattle.c_parse.specs.declared.class.Class.TheVariants as c

pub data Tok : Type 0 where
  keyword : Key → Tok
  -- with its number
  refused : ℕ → Tok
  -- any other word
  word : List ℕ → Tok
  number : ℕ → Tok
  character : ℕ → Tok
  text : List ℕ → Tok
  mark : Punct → Tok

-- the keywords, and the refused words with their numbers
unfoldable pub words : List (List ℕ × Class)
words =
    (codes "int", c.Key key.Int) ∷
    (codes "bool", c.Key key.Bool) ∷
    (codes "void", c.Key key.Void) ∷
    (codes "struct", c.Key key.Struct) ∷
    (codes "union", c.Key key.Union) ∷
    (codes "enum", c.Key key.Enum) ∷
    (codes "typedef", c.Key key.Typedef) ∷
    (codes "if", c.Key key.If) ∷
    (codes "else", c.Key key.Else) ∷
    (codes "while", c.Key key.While) ∷
    (codes "do", c.Key key.Do) ∷
    (codes "for", c.Key key.For) ∷
    (codes "switch", c.Key key.Switch) ∷
    (codes "case", c.Key key.Case) ∷
    (codes "default", c.Key key.Default) ∷
    (codes "return", c.Key key.Return) ∷
    (codes "break", c.Key key.Break) ∷
    (codes "continue", c.Key key.Continue) ∷
    (codes "sizeof", c.Key key.SizeOf) ∷
    (codes "true", c.Key key.True) ∷
    (codes "false", c.Key key.False) ∷
    (codes "NULL", c.Key key.Null) ∷
    (codes "float", c.Refused 1) ∷
    (codes "asm", c.Refused 2) ∷
    (codes "goto", c.Refused 3) ∷
    (codes "const", c.Refused 4) ∷
    (codes "static", c.Refused 5) ∷
    (codes "extern", c.Refused 6) ∷
    (codes "volatile", c.Refused 7) ∷
    (codes "char", c.Refused 8) ∷
    (codes "short", c.Refused 9) ∷
    (codes "long", c.Refused 10) ∷
    (codes "unsigned", c.Refused 11) ∷
    (codes "signed", c.Refused 12) ∷
    (codes "double", c.Refused 13) ∷
    (codes "embedded", c.Refused 14) ∷
    (codes "inline", c.Refused 15) ∷
    (codes "register", c.Refused 16) ∷
    []

-- what a table says of a word
abbrev pub class_in : List ℕ → List (List ℕ × Class) → Class
class_in w [] = c.Word
class_in w (e ∷ es) = if bytes_eq w e.0 then e.1 else class_in w es

unfoldable pub class_of : Kind → Class
class_of (k.Word w) = class_in w words
class_of (k.Number n) = c.Number n
class_of (k.Char n) = c.Char n
class_of (k.Text t) = c.Text
class_of (k.Punct p) = c.Mark p

-- the bytes of a word or a text
abbrev pub bytes_of : Kind → List ℕ
bytes_of (k.Word w) = w
bytes_of (k.Text t) = t
bytes_of _ = []

-- a token of that class and with those bytes
abbrev pub seen : Class → List ℕ → Tok
seen (c.Key w) bytes = keyword w
seen (c.Refused n) bytes = refused n
seen c.Word bytes = word bytes
seen (c.Number n) bytes = number n
seen (c.Char n) bytes = character n
seen c.Text bytes = text bytes
seen (c.Mark p) bytes = mark p

abbrev pub toks : List Token → List Tok
toks ts = map (λ t. seen (class_of t.kind) (bytes_of t.kind)) ts

-- an entry of the program's table
abbrev pub listed : Bor (List ℕ) × Class → List ℕ × Class
listed e = (e.0.now, e.1)
