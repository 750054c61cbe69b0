-- Where tokens stand, and what a refusal says of its place.
use Rattle.std.specs.Prelude.{◌≡◌, ◌<◌, ◌≤◌, ℕ, ◌+◌, ◌-◌, ◌^◌, ◌==◌, List, ◌∷◌, length, take, drop, count_by, true, Some, None}
use Rattle.std.specs.Char.{is_ascii_digit}
use Rattle.c_lex.specs.declared.token.Token.{Token}
use Rattle.c_lex.specs.Bytes.{begins, is_quote, is_point}
use Rattle.c_lex.specs.Gaps.{close_at}
use Rattle.c_lex.specs.Numbers.{number_len, number_value}
use Rattle.c_lex.specs.Spelling.{is_stray, spelling_of}

-- the line of a byte: lines are parted by LF, wherever it stands, and count from 1
abbrev pub line_at : ℕ → List ℕ → ℕ
line_at byte bytes = 1 + count_by (λ b. b == 10) (take byte bytes)

-- the token is what the bytes from its start up to its end spell
pub record IsPlaced (bytes : List ℕ) (token : Token) : Type 0 where
  pub line : token.line ≡ line_at token.start bytes
  pub some : token.start < token.end
  pub within : token.end ≤ length bytes
  pub spelled : spelling_of (take (token.end - token.start) (drop token.start bytes)) ≡ Some token.kind

-- what stands at a place without a token, by the reason
pub data IsReason (bytes : List ℕ) (code : ℕ) : Type 0 where
  stray : code ≡ 10 → begins is_stray bytes ≡ true → IsReason bytes code
  quote : code ≡ 11 → begins is_quote bytes ≡ true → IsReason bytes code
  comment : code ≡ 12 → (rest : List ℕ) → bytes ≡ 47 ∷ 42 ∷ rest → close_at rest ≡ None → IsReason bytes code
  great : code ≡ 13 → begins is_ascii_digit bytes ≡ true → 2 ^ 32 ≤ number_value (take (number_len bytes) bytes) → IsReason bytes code
  point : code ≡ 14 → begins is_ascii_digit bytes ≡ true → begins is_point (drop (number_len bytes) bytes) ≡ true → IsReason bytes code

pub record IsRefused (bytes : List ℕ) (code line byte : ℕ) : Type 0 where
  pub counted : line ≡ line_at byte bytes
  pub within : byte < length bytes
  pub reason : IsReason (drop byte bytes) code
