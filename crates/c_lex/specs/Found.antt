-- The reading of a text as a function: the token that is found at a place, and what a whole text reads.
use Rattle.std.specs.Prelude.{ℕ, zero, suc, ◌-◌, ◌^◌, List, [], ◌∷◌, length, take, drop, take_while}
use Rattle.std.specs.Prelude.{◌&&◌, not, nat_lt, if◌then◌else◌, Option, Some, None, option_map}
use Rattle.std.specs.Char.{is_ascii_digit}
use Rattle.c_lex.specs.declared.token.Kind.{Kind}
use Rattle.c_lex.specs.declared.token.Kind.TheVariants as k
use Rattle.c_lex.specs.declared.token.Punct.{Punct}
use Rattle.quoted_text.specs.declared.quoted.Within.TheVariants as w
use Rattle.c_lex.specs.declared.place.Place.{Place}
use Rattle.c_lex.specs.Bytes.{begins, is_letter, is_word_byte, is_quote, is_point}
use Rattle.c_lex.specs.Gaps.{gap_len}
use Rattle.c_lex.specs.Numbers.{number_len, number_value}
use Rattle.c_lex.specs.Marks.{mark_at}
use Rattle.quoted_text.specs.Quoted.{Content, quoted_at}
use Rattle.c_lex.specs.Spelling.{content_kind, is_mark_before, reason_of}
use Rattle.c_lex.specs.Reading.{Reading, found, stuck, with_front, past_gap, past_token, token_of, opening}

-- a token and how many bytes it has
abbrev pub Found : Type 0
Found = Option (ℕ × Kind)

unfoldable pub word_found : List ℕ → Found
word_found bytes = let text = take_while is_word_byte bytes in Some (length text, k.Word text)

unfoldable pub number_found : List ℕ → Found
number_found bytes = let n = number_len bytes in let v = number_value (take n bytes) in
    if nat_lt v (2 ^ 32) && not (begins is_point (drop n bytes)) then Some (n, k.Number v) else None

abbrev pub content_found : ℕ → ℕ → Content → Found
content_found len quote None = None
content_found len quote (Some r) = option_map (λ kind. (len - length r.1, kind)) (content_kind quote r.0)

unfoldable pub quoted_found : List ℕ → Found
quoted_found [] = None
quoted_found (quote ∷ bs) = content_found (length (quote ∷ bs)) quote (quoted_at quote w.Plain bs)

abbrev pub mark_kept : List ℕ → Option (ℕ × Punct) → Found
mark_kept bytes None = None
mark_kept bytes (Some x) = if is_mark_before x.1 (drop x.0 bytes) then Some (x.0, k.Punct x.1) else None

-- the token at the front
unfoldable pub token_at : List ℕ → Found
token_at bytes =
    if begins is_letter bytes then word_found bytes
    else (if begins is_ascii_digit bytes then number_found bytes
    else (if begins is_quote bytes then quoted_found bytes
    else mark_kept bytes (mark_at bytes)))

abbrev pub by_token : Place → List ℕ → Found → (ℕ → Place → Reading) → Reading
by_token p bytes None more = stuck (reason_of bytes) p.line p.byte
by_token p bytes (Some x) more = with_front (token_of p x.0 x.1 ∷ []) (more (x.0 - 1) (past_token p x.0))

abbrev pub by_step : Place → List ℕ → (ℕ → Place → Reading) → Reading
by_step p bytes more =
    if nat_lt 0 (gap_len bytes) then more (gap_len bytes - 1) (past_gap p (take (gap_len bytes) bytes))
    else by_token p bytes (token_at bytes) more

-- so many bytes are passed over first
unfoldable pub reading_from : ℕ → Place → List ℕ → Reading
reading_from k p [] = found []
reading_from (suc k) p (b ∷ bs) = reading_from k p bs
reading_from zero p (b ∷ bs) = by_step p (b ∷ bs) (λ k p'. reading_from k p' bs)

-- what a text reads, as the file of that number
unfoldable pub reading_of : ℕ → List ℕ → Reading
reading_of file bytes = reading_from 0 (opening file) bytes
