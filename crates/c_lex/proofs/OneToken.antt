-- The token that is found is the one that stands there, and what stands there is found.
use Rattle.std.proofs.Common.{◌≡◌, ℕ, Bool, true, false, cond, List, ◌++◌, length, refl, ◌∙◌}
use Rattle.std.specs.Prelude.{Some}
use Rattle.std.specs.Char.{is_ascii_digit}
use Rattle.c_lex.specs.declared.token.Kind.{Kind}
use Rattle.c_lex.specs.Bytes.{begins, is_letter, is_quote}
use Rattle.c_lex.specs.Marks.{mark_at}
use Rattle.c_lex.specs.Spelling.{IsToken}
use Rattle.c_lex.specs.Found.{Found, word_found, number_found, quoted_found, mark_kept, token_at}
use Rattle.c_lex.proofs.Runs.{begins_append}
use Rattle.c_lex.proofs.Stands.{Stands, token_some}
use Rattle.c_lex.proofs.Words.{word_stands, word_complete}
use Rattle.c_lex.proofs.Numbers.{number_stands, number_complete}
use Rattle.c_lex.proofs.Quotes.{quoted_stands, quoted_complete}
use Rattle.c_lex.proofs.Signs.{sign_stands, sign_complete}

abbrev by_class : Bool → Bool → Bool → List ℕ → Found
by_class a b c bytes = cond a (word_found bytes) (cond b (number_found bytes) (cond c (quoted_found bytes) (mark_kept bytes (mark_at bytes))))

pub stands : (bytes : List ℕ) (len : ℕ) (kind : Kind) → token_at bytes ≡ Some (len, kind) → Stands bytes len kind
unfolding token_at
stands bytes len kind e = by (begins is_letter bytes) (begins is_ascii_digit bytes) (begins is_quote bytes) refl refl refl e
  where
    by : (a b c : Bool) → begins is_letter bytes ≡ a → begins is_ascii_digit bytes ≡ b → begins is_quote bytes ≡ c → by_class a b c bytes ≡ Some (len, kind) → Stands bytes len kind
    by true b c letter digit quote h = word_stands bytes len kind letter h
    by false true c letter digit quote h = number_stands bytes len kind (record { letter = letter; digit = digit }) h
    by false false true letter digit quote h = quoted_stands bytes len kind (record { letter = letter; digit = digit; quote = quote }) h
    by false false false letter digit quote h = sign_stands bytes len kind (record { letter = letter; digit = digit; quote = quote }) h

pub complete : (text rest : List ℕ) (kind : Kind) → IsToken text rest kind → token_at (text ++ rest) ≡ Some (length text, kind)
unfolding token_at
complete text rest kind t =
    let some = token_some text rest kind t in
    let class : token_at (text ++ rest) ≡ by_class (begins is_letter text) (begins is_ascii_digit text) (begins is_quote text) (text ++ rest) =
    rw (begins_append is_letter text rest some, begins_append is_ascii_digit text rest some, begins_append is_quote text rest some) refl in
    class ∙ by (begins is_letter text) (begins is_ascii_digit text) (begins is_quote text) refl refl refl
  where
    by : (a b c : Bool) → begins is_letter text ≡ a → begins is_ascii_digit text ≡ b → begins is_quote text ≡ c → by_class a b c (text ++ rest) ≡ Some (length text, kind)
    by true b c letter digit quote = word_complete text rest kind letter t
    by false true c letter digit quote = number_complete text rest kind (record { letter = letter; digit = digit }) t
    by false false true letter digit quote = quoted_complete text rest kind (record { letter = letter; digit = digit; quote = quote }) t
    by false false false letter digit quote = sign_complete text rest kind (record { letter = letter; digit = digit; quote = quote }) t
