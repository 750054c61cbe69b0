-- The grammar of tokens and of gaps, as what each is spelled from. What is read is what is spelled so, both ways.
use Rattle.std.specs.Prelude.{◌≡◌, ◌≢◌, ◌⊎◌, ℕ, ◌<◌, ◌+◌, ◌*◌, ◌^◌, List, [], ◌∷◌, ◌++◌, Bool, true, false, not, ◌==◌, length, Some}
use Rattle.std.specs.Char.{is_ascii_digit, is_ascii_hexdigit}
use Rattle.std.specs.List.{list_all}
use Rattle.c_lex.specs.declared.token.Kind.{Kind}
use Rattle.c_lex.specs.declared.token.Kind.TheVariants as k
use Rattle.c_lex.specs.Bytes.{begins, is_letter, is_word_byte, is_blank}
use Rattle.kit_base.specs.Digits.{digit_value, value_in}
use Rattle.c_lex.specs.Marks.{mark_of}
use Rattle.quoted_text.specs.Quoted.{escaped}

-- a letter or `_`, then letters, digits and `_`
pub record IsWord (text : List ℕ) : Type 0 where
  pub letter : begins is_letter text ≡ true
  pub all : list_all is_word_byte text ≡ true

pub record IsDecimal (text : List ℕ) (n : ℕ) : Type 0 where
  pub some : begins is_ascii_digit text ≡ true
  pub all : list_all is_ascii_digit text ≡ true
  pub value : n ≡ value_in 10 text

-- `0x` and digits
pub record IsHexadecimal (text : List ℕ) (n : ℕ) : Type 0 where
  pub digits : List ℕ
  pub spelled : text ≡ 48 ∷ 120 ∷ digits
  pub some : begins is_ascii_hexdigit digits ≡ true
  pub all : list_all is_ascii_hexdigit digits ≡ true
  pub value : n ≡ value_in 16 digits

-- one byte between quotes of that kind: itself, an escape, or `\x` and two hexadecimal digits
pub data IsPiece (quote : ℕ) (text : List ℕ) (b : ℕ) : Type 0 where
  itself : b ≢ quote → b ≢ 10 → b ≢ 92 → text ≡ b ∷ [] → IsPiece quote text b
  escape : (c : ℕ) → escaped c ≡ Some b → text ≡ 92 ∷ c ∷ [] → IsPiece quote text b
  code : (high low : ℕ) → is_ascii_hexdigit high ≡ true → is_ascii_hexdigit low ≡ true → text ≡ 92 ∷ 120 ∷ high ∷ low ∷ []
      → b ≡ digit_value high * 16 + digit_value low → IsPiece quote text b

pub data IsContent (quote : ℕ) : List ℕ → List ℕ → Type 0 where
  nothing : {text content : List ℕ} → text ≡ [] → content ≡ [] → IsContent quote text content
  piece : {text content : List ℕ} (first rest : List ℕ) (b : ℕ) (bs : List ℕ) → text ≡ first ++ rest → content ≡ b ∷ bs
      → IsPiece quote first b → IsContent quote rest bs → IsContent quote text content

pub record IsQuoted (quote : ℕ) (text content : List ℕ) : Type 0 where
  pub inner : List ℕ
  pub whole : text ≡ quote ∷ (inner ++ quote ∷ [])
  pub spelled : IsContent quote inner content

-- all of the text spells the token
abbrev pub IsSpelling : List ℕ → Kind → Type 0
IsSpelling text (k.Word word) = (word ≡ text) × IsWord text
IsSpelling text (k.Number n) = (n < 2 ^ 32) × (IsDecimal text n ⊎ IsHexadecimal text n)
IsSpelling text (k.Char b) = IsQuoted 39 text (b ∷ [])
IsSpelling text (k.Text content) = IsQuoted 34 text content
IsSpelling text (k.Punct mark) = mark_of text ≡ Some mark

abbrev pub is_no_lf : ℕ → Bool
is_no_lf b = not (b == 10)

-- a blank, a backslash with the end of its line, a comment up to the end of its line, or up to the next `*/`
pub data IsGap (text rest : List ℕ) : Type 0 where
  blank : (b : ℕ) → is_blank b ≡ true → text ≡ b ∷ [] → IsGap text rest
  splice : text ≡ 92 ∷ 10 ∷ [] → IsGap text rest
  long_splice : text ≡ 92 ∷ 13 ∷ 10 ∷ [] → IsGap text rest
  line : (inner : List ℕ) → text ≡ 47 ∷ 47 ∷ inner → list_all is_no_lf inner ≡ true → begins is_no_lf rest ≡ false → IsGap text rest
  block : (inner : List ℕ) → text ≡ 47 ∷ 42 ∷ (inner ++ 42 ∷ 47 ∷ [])
      → ((before after : List ℕ) → inner ++ 42 ∷ 47 ∷ [] ≡ before ++ 42 ∷ 47 ∷ after → after ≡ []) → IsGap text rest

-- a gap of n bytes stands at the front
pub record BeginsGap (bytes : List ℕ) (n : ℕ) : Type 0 where
  pub text : List ℕ
  pub rest : List ℕ
  pub whole : bytes ≡ text ++ rest
  pub size : length text ≡ n
  pub is_gap : IsGap text rest
