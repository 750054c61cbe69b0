-- Which text spells which token, and why none stands at a place.
use Rattle.std.specs.Prelude.{◌≡◌, ℕ, ◌^◌, List, [], ◌∷◌, ◌++◌, length, take, Bool, true, ◌&&◌, ◌||◌, ◌==◌, not, nat_lt}
use Rattle.std.specs.Prelude.{if◌then◌else◌, Option, Some, None, IsSome, is_some, option_map}
use Rattle.std.specs.Char.{is_ascii_digit}
use Rattle.std.specs.List.{list_all}
use Rattle.c_lex.specs.declared.token.Kind.{Kind}
use Rattle.c_lex.specs.declared.token.Kind.TheVariants as k
use Rattle.c_lex.specs.declared.token.Punct.{Punct}
use Rattle.c_lex.specs.declared.token.Punct.TheVariants as m
use Rattle.quoted_text.specs.declared.quoted.Within.TheVariants as w
use Rattle.c_lex.specs.Bytes.{begins, is_letter, is_word_byte, is_quote, is_point, is_slash, opens_comment}
use Rattle.c_lex.specs.Numbers.{number_len, number_value}
use Rattle.c_lex.specs.Marks.{mark_of}
use Rattle.quoted_text.specs.Quoted.{Content, quoted_at}

-- letters, digits and `_`
unfoldable pub word_of : List ℕ → Option Kind
word_of text = if list_all is_word_byte text then Some (k.Word text) else None

-- at most 4,294,967,295
unfoldable pub number_of : List ℕ → Option Kind
number_of text = if (number_len text == length text) && nat_lt (number_value text) (2 ^ 32) then Some (k.Number (number_value text)) else None

-- a character is exactly one byte
abbrev pub char_of : List ℕ → Option Kind
char_of [] = None
char_of (b ∷ []) = Some (k.Char b)
char_of (b ∷ c ∷ bs) = None

-- what stands between quotes of that kind
abbrev pub content_kind : ℕ → List ℕ → Option Kind
content_kind quote content = if quote == 34 then Some (k.Text content) else char_of content

abbrev pub whole_content : ℕ → Content → Option Kind
whole_content quote None = None
whole_content quote (Some r) = if length r.1 == 0 then content_kind quote r.0 else None

unfoldable pub quoted_of : List ℕ → Option Kind
quoted_of [] = None
quoted_of (quote ∷ bs) = whole_content quote (quoted_at quote w.Plain bs)

-- the token that all of a text spells
unfoldable pub spelling_of : List ℕ → Option Kind
spelling_of text =
    if begins is_letter text then word_of text
    else (if begins is_ascii_digit text then number_of text
    else (if begins is_quote text then quoted_of text
    else option_map k.Punct (mark_of text)))

-- no slash opens a comment
abbrev pub is_mark_before : Punct → List ℕ → Bool
is_mark_before m.Slash rest = not (begins opens_comment rest)
is_mark_before _ rest = true

-- a number takes all the digits that follow, and no point follows it
abbrev pub ends_so : Kind → List ℕ → List ℕ → Bool
ends_so (k.Number n) text rest = (number_len (text ++ rest) == length text) && not (begins is_point rest)
ends_so (k.Punct m) text rest = is_mark_before m rest
ends_so _ text rest = true

-- the token that stands there before the rest, the longest spelling at its place
pub record IsToken (text rest : List ℕ) (kind : Kind) : Type 0 where
  pub spelled : spelling_of text ≡ Some kind
  pub ends : ends_so kind text rest ≡ true
  pub longest : (more after : List ℕ) → rest ≡ more ++ after → IsSome (spelling_of (text ++ more)) → more ≡ []

-- a byte that begins no token; each mark's first byte is a mark
abbrev pub is_stray : ℕ → Bool
is_stray b = not ((is_letter b || is_ascii_digit b) || (is_quote b || is_some (mark_of (b ∷ []))))

-- Why no token and no gap stands there, the lowest that fits: a byte that begins none; a text or a
-- character without its end on the line, or with a bad escape; a comment that is not closed; a number
-- that is too great; a number with a point behind it.
unfoldable pub reason_of : List ℕ → ℕ
reason_of bytes =
    if begins is_stray bytes then 10
    else (if begins is_quote bytes then 11
    else (if begins is_slash bytes then 12
    else (if not (nat_lt (number_value (take (number_len bytes) bytes)) (2 ^ 32)) then 13
    else 14)))
