-- A text as gaps and tokens.
use Rattle.std.specs.Prelude.{◌≡◌, ◌≢◌, ◌<◌, ℕ, ◌+◌, List, [], ◌∷◌, ◌++◌, length, take, drop, count_by, Bool, true, false, not, ◌||◌, ◌==◌, Result, Ok, Err}
use Rattle.std.specs.Str.{bytes_eq}
use Rattle.kit_base.specs.declared.failure.Failure.{Failure}
use Rattle.kit_base.specs.declared.failure.Failure.TheVariants as e
use Rattle.c_lex.specs.declared.token.Kind.{Kind}
use Rattle.c_lex.specs.declared.token.Token.{Token}
use Rattle.c_lex.specs.declared.place.Place.{Place}
use Rattle.c_lex.specs.declared.error.LexFault.{LexFault}
use Rattle.c_lex.specs.Gaps.{gap_len}
use Rattle.c_lex.specs.Spelling.{IsToken, reason_of}

-- lines count from 1, bytes from 0; what stands first in its file begins its line
abbrev pub opening : ℕ → Place
opening file = record { file = file; line = 1; byte = 0; first = true }

-- lines are parted by LF anywhere, but only an LF by itself lets the next token begin its line
abbrev pub past_gap : Place → List ℕ → Place
past_gap p gap = record { file = p.file; line = p.line + count_by (λ b. b == 10) gap; byte = p.byte + length gap; first = p.first || bytes_eq gap (10 ∷ []) }

abbrev pub past_token : Place → ℕ → Place
past_token p len = record { file = p.file; line = p.line; byte = p.byte + len; first = false }

abbrev pub token_of : Place → ℕ → Kind → Token
token_of p len kind = record { kind = kind; file = p.file; line = p.line; start = p.byte; end = p.byte + len; first = p.first }

-- the tokens, or the reason at the first place not reached
pub data Reading : Type 0 where
  found : List Token → Reading
  stuck : (code line byte : ℕ) → Reading

abbrev pub with_front : List Token → Reading → Reading
with_front ts (found more) = found (ts ++ more)
with_front ts (stuck code line byte) = stuck code line byte

-- the next token stands on the line of the one before it
abbrev pub goes_on : List Token → Bool
goes_on [] = false
goes_on (t ∷ ts) = not t.first

-- what the bytes from that place on read
pub data Lexes : Place → List ℕ → Reading → Type 0 where
  nothing : {p : Place} {bytes : List ℕ} {r : Reading} → bytes ≡ [] → r ≡ found [] → Lexes p bytes r
  gap : {p : Place} {bytes : List ℕ} {r : Reading} → 0 < gap_len bytes
      → Lexes (past_gap p (take (gap_len bytes) bytes)) (drop (gap_len bytes) bytes) r → Lexes p bytes r
  token : {p : Place} {bytes : List ℕ} {r : Reading} → gap_len bytes ≡ 0 → (text rest : List ℕ) (kind : Kind) (others : Reading)
      → bytes ≡ text ++ rest → IsToken text rest kind → Lexes (past_token p (length text)) rest others
      → r ≡ with_front (token_of p (length text) kind ∷ []) others → Lexes p bytes r
  none : {p : Place} {bytes : List ℕ} {r : Reading} → bytes ≢ [] → gap_len bytes ≡ 0
      → ((text rest : List ℕ) (kind : Kind) → bytes ≡ text ++ rest → IsToken text rest kind → ⊥)
      → r ≡ stuck (reason_of bytes) p.line p.byte → Lexes p bytes r

-- that file's text reads so
abbrev pub Reads : ℕ → List ℕ → Reading → Type 0
Reads file bytes r = Lexes (opening file) bytes r

-- the refusal tells the first place without a token, unless memory ran out
abbrev pub IsRefusal : ℕ → List ℕ → Failure LexFault → Type 0
IsRefusal file bytes (e.Cause x) = Reads file bytes (stuck x.code x.line x.byte)
IsRefusal file bytes e.Memory = Unit {0}

-- what was answered is that reading, unless memory ran out
abbrev pub Gives : Result (List Token) (Failure LexFault) → Reading → Type 0
Gives (Ok tokens) r = r ≡ found tokens
Gives (Err (e.Cause x)) r = r ≡ stuck x.code x.line x.byte
Gives (Err e.Memory) r = Unit {0}
