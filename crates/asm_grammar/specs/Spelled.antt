-- How a line spells its tokens: the assembly page, "Lines". A text between quotes is spelled as in C (the language page).
use Rattle.std.specs.Prelude.{◌≡◌, ◌⊎◌, ℕ, List, [], ◌∷◌, ◌++◌, Bool, true, false, ◌||◌, ◌==◌, if◌then◌else◌, Option, Some, None, is_some}
use Rattle.std.specs.Char.{is_ascii_digit}
use Rattle.std.specs.List.{list_all}
use Rattle.asm_items.specs.Vocabulary.{is_word, is_word_byte, word_kind}
use Rattle.asm_reader.specs.declared.token.Token.{Token}
use Rattle.asm_reader.specs.declared.token.Token.TheVariants as t
use Rattle.asm_reader.specs.Numbers.{limited}
use Rattle.asm_reader.specs.Tokens.{begins, is_blank, kind_token}
use Rattle.c_lex.specs.Grammar.{IsDecimal, IsHexadecimal, IsContent}

-- decimal digits, or `0x` and hexadecimal digits
abbrev pub IsNumber : List ℕ → ℕ → Type 0
IsNumber text n = IsDecimal text n ⊎ IsHexadecimal text n

-- the marks but `-`
abbrev pub mark_of : ℕ → Option Token
mark_of b =
    if b == 58 then Some t.Colon
    else (if b == 44 then Some t.Comma
    else (if b == 91 then Some t.Open
    else (if b == 93 then Some t.Close
    else (if b == 43 then Some t.Plus
    else None))))

-- no letter, digit or `_` goes on with a word or a number
abbrev pub IsParted : List ℕ → Type 0
IsParted rest = begins is_word_byte rest ≡ false

-- The text spells the token where that stands behind it: a word, by what it stands for; a number, with a `-` directly before it or none, whose
-- magnitude is kept where it is below 2^32; a text between quotes; a mark; or a `-` that no digit follows.
pub data IsSpelled (text rest : List ℕ) (token : Token) : Type 0 where
  word : is_word text ≡ true → IsParted rest → token ≡ kind_token text (word_kind text) → IsSpelled text rest token
  number : (n : ℕ) → IsNumber text n → IsParted rest → token ≡ t.Number false (limited n) → IsSpelled text rest token
  negative : (digits : List ℕ) (n : ℕ) → text ≡ 45 ∷ digits → IsNumber digits n → IsParted rest → token ≡ t.Number true (limited n) → IsSpelled text rest token
  quoted : (inner content : List ℕ) → text ≡ 34 ∷ (inner ++ 34 ∷ []) → IsContent 34 inner content → token ≡ t.Text content → IsSpelled text rest token
  mark : (b : ℕ) → text ≡ b ∷ [] → mark_of b ≡ Some token → IsSpelled text rest token
  minus : text ≡ 45 ∷ [] → begins is_ascii_digit rest ≡ false → token ≡ t.Minus → IsSpelled text rest token

-- so far the bytes spell the content of a text, behind which its quote stands
pub record IsQuotedBy (bytes content after : List ℕ) : Type 0 where
  pub inner : List ℕ
  pub whole : bytes ≡ inner ++ 34 ∷ after
  pub spelled : IsContent 34 inner content

-- a digit, and then letters, digits and `_`, all together no number
pub record IsNoNumber (run : List ℕ) : Type 0 where
  pub first : begins is_ascii_digit run ≡ true
  pub all : list_all is_word_byte run ≡ true
  pub none : (n : ℕ) → IsNumber run n → ⊥

-- a blank, a comment or a token begins with the byte
abbrev pub begins_some : ℕ → Bool
begins_some b = is_word_byte b || (is_blank b || ((b == 59) || ((b == 34) || ((b == 45) || is_some (mark_of b)))))

-- The text is stray, it spells no token where one should stand: what a digit begins and is no number, with a `-` directly before it or none; a quote
-- that none ends, and all behind it; or a byte with which nothing begins.
pub data IsStray (text rest : List ℕ) : Type 0 where
  number : IsNoNumber text → IsParted rest → IsStray text rest
  negative : (run : List ℕ) → text ≡ 45 ∷ run → IsNoNumber run → IsParted rest → IsStray text rest
  quote : (bytes : List ℕ) → text ≡ 34 ∷ bytes → rest ≡ [] → ((content after : List ℕ) → IsQuotedBy bytes content after → ⊥) → IsStray text rest
  byte : (b : ℕ) → text ≡ b ∷ [] → begins_some b ≡ false → IsStray text rest

-- A line spells its tokens one behind another, with spaces and tabs between them; a comment, from `;` on, says nothing.
pub data IsLineText : List ℕ → List Token → Type 0 where
  ends : {line : List ℕ} {tokens : List Token} → line ≡ [] → tokens ≡ [] → IsLineText line tokens
  comment : {line : List ℕ} {tokens : List Token} (said : List ℕ) → line ≡ 59 ∷ said → tokens ≡ [] → IsLineText line tokens
  blank : {line : List ℕ} {tokens : List Token} (b : ℕ) (rest : List ℕ) → line ≡ b ∷ rest → is_blank b ≡ true → IsLineText rest tokens → IsLineText line tokens
  token : {line : List ℕ} {tokens : List Token} (text rest : List ℕ) (first : Token) (more : List Token) → line ≡ text ++ rest → tokens ≡ first ∷ more
      → IsSpelled text rest first → IsLineText rest more → IsLineText line tokens
  stray : {line : List ℕ} {tokens : List Token} (text rest : List ℕ) (more : List Token) → line ≡ text ++ rest → tokens ≡ t.Stray ∷ more
      → IsStray text rest → IsLineText rest more → IsLineText line tokens
