-- The tokens of a line, the longest at each place.
use Rattle.std.specs.Prelude.{ℕ, zero, suc, ◌-◌, List, [], ◌∷◌, length, Bool, true, false, ◌||◌, ◌&&◌, ◌==◌, if◌then◌else◌, Option, Some, None}
use Rattle.std.specs.Char.{is_ascii_digit}
use Rattle.std.specs.List.{take_while}
use Rattle.asm_items.specs.declared.vocabulary.WordKind.{WordKind}
use Rattle.asm_items.specs.declared.vocabulary.WordKind.TheVariants as w
use Rattle.asm_items.specs.Vocabulary.{is_word_byte, word_kind}
use Rattle.asm_reader.specs.declared.token.Token.{Token}
use Rattle.asm_reader.specs.declared.token.Token.TheVariants as t
use Rattle.quoted_text.specs.declared.quoted.Within.TheVariants.{Plain}
use Rattle.asm_reader.specs.Numbers.{number_token}
use Rattle.quoted_text.specs.Quoted.{quoted_at}

-- a byte, where there is one, passes
abbrev pub begins : (ℕ → Bool) → List ℕ → Bool
begins p [] = false
begins p (b ∷ bs) = p b

-- what the word stands for
abbrev pub kind_token : List ℕ → WordKind → Token
kind_token word w.Float = t.Float
kind_token word (w.Operation o) = t.Operation o
kind_token word (w.Data d) = t.Data d
kind_token word (w.Register r) = t.Register r
kind_token word (w.Port p) = t.Port p
kind_token word w.Label = t.Label word

-- letters, digits and `_`: a number where a digit stands first, else a word
unfoldable pub run_token : List ℕ → Token
run_token run = if begins is_ascii_digit run then number_token false run else kind_token run (word_kind run)

unfoldable pub mark_token : ℕ → Token
mark_token b =
    if b == 58 then t.Colon
    else (if b == 44 then t.Comma
    else (if b == 91 then t.Open
    else (if b == 93 then t.Close
    else (if b == 43 then t.Plus
    else (if b == 45 then t.Minus
    else t.Stray)))))

-- a text, behind its first quote; where it does not end, nothing of the line is a token
abbrev pub text_token : List ℕ → Option (List ℕ × List ℕ) → Token × ℕ
text_token after None = (t.Stray, length after)
text_token after (Some text) = (t.Text text.0, length after - length text.1)

-- The token at the front of the text, and how many bytes it has after its first. Where none stands
-- there it is stray.
unfoldable pub token_at : List ℕ → Token × ℕ
token_at [] = (t.Stray, 0)
token_at (b ∷ bs) =
    if is_word_byte b then (run_token (take_while is_word_byte (b ∷ bs)), length (take_while is_word_byte bs))
    else (if (b == 45) && begins is_ascii_digit bs then (number_token true (take_while is_word_byte bs), length (take_while is_word_byte bs))
    else (if b == 34 then text_token bs (quoted_at 34 Plain bs)
    else (mark_token b, 0)))

abbrev pub is_blank : ℕ → Bool
is_blank b = (b == 32) || (b == 9)

-- so many bytes are passed over first; a comment begins with `;`
unfoldable pub tokens_from : ℕ → List ℕ → List Token
tokens_from k [] = []
tokens_from (suc k) (b ∷ bs) = tokens_from k bs
tokens_from zero (b ∷ bs) =
    if is_blank b then tokens_from 0 bs
    else (if b == 59 then []
    else (token_at (b ∷ bs)).0 ∷ tokens_from (token_at (b ∷ bs)).1 bs)

unfoldable pub tokens_of : List ℕ → List Token
tokens_of line = tokens_from 0 line
