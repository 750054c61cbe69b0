-- The codes of texts that are no lists of tokens are low, and listed.
use Rattle.std.proofs.Common.{◌≡◌, ◌≢◌, ℕ, ◌≤◌, List, [], ◌∷◌, ◌^◌, take, Bool, true, false, cond, not, ltb, sym, ◌∙◌, refl, arith, subst}
use Rattle.c_lex.specs.declared.token.Token.{Token}
use Rattle.c_lex.specs.declared.place.Place.{Place}
use Rattle.c_lex.specs.Bytes.{begins, is_quote, is_slash}
use Rattle.c_lex.specs.Numbers.{number_len, number_value}
use Rattle.c_lex.specs.Spelling.{reason_of, is_stray}
use Rattle.c_prep.specs.Codes.{is_reading_code}
use Rattle.c_lex.specs.Reading.{Reading, found, stuck, Lexes, nothing, gap, token, none, with_front}

low_of : (a b c d : Bool) → cond a 10 (cond b 11 (cond c 12 (cond d 13 14))) ≤ 14
low_of true b c d = omega arith
low_of false true c d = omega arith
low_of false false true d = omega arith
low_of false false false true = omega arith
low_of false false false false = omega arith

low_reason : (bytes : List ℕ) → reason_of bytes ≤ 14
unfolding reason_of
low_reason bytes = low_of (begins is_stray bytes) (begins is_quote bytes) (begins is_slash bytes) (not (ltb (number_value (take (number_len bytes) bytes)) (2 ^ 32)))

behind : (t : Token) (others : Reading) (code line byte : ℕ) → with_front (t ∷ []) others ≡ stuck code line byte → others ≡ stuck code line byte
behind t (found ts) code line byte h = absurd cc
behind t (stuck c l b) code line byte h = h

-- what holds of every reason holds of the code of a text
pub code_holds : (P : ℕ → Type 0) → ((bytes : List ℕ) → P (reason_of bytes)) → (p : Place) (bytes : List ℕ) (r : Reading) → Lexes p bytes r
    → (code line byte : ℕ) → r ≡ stuck code line byte → P code
code_holds P all p bytes r (nothing e f) code line byte h = absurd cc
code_holds P all p bytes r (gap some more) code line byte h = code_holds P all _ _ r more code line byte h
code_holds P all p bytes r (token no_gap text rest kind others whole is more f) code line byte h = code_holds P all _ _ others more code line byte (behind _ others code line byte (sym f ∙ h))
code_holds P all p bytes r (none some no_gap others f) code line byte h = let e : reason_of bytes ≡ code = cc in subst P e (all bytes)

pub not_missing : (p : Place) (bytes : List ℕ) (code line byte : ℕ) → Lexes p bytes (stuck code line byte) → code ≢ 21
not_missing p bytes code line byte lexes is = let low = code_holds (λ (n : ℕ). n ≤ 14) low_reason p bytes _ lexes code line byte refl in absurd (omega arith)

listed_of : (a b c d : Bool) → is_reading_code (cond a 10 (cond b 11 (cond c 12 (cond d 13 14)))) ≡ true
unfolding is_reading_code
listed_of true b c d = refl
listed_of false true c d = refl
listed_of false false true d = refl
listed_of false false false true = refl
listed_of false false false false = refl

listed_reason : (bytes : List ℕ) → is_reading_code (reason_of bytes) ≡ true
unfolding reason_of
listed_reason bytes = listed_of (begins is_stray bytes) (begins is_quote bytes) (begins is_slash bytes) (not (ltb (number_value (take (number_len bytes) bytes)) (2 ^ 32)))

pub text_code : (p : Place) (bytes : List ℕ) (code line byte : ℕ) → Lexes p bytes (stuck code line byte) → is_reading_code code ≡ true
text_code p bytes code line byte lexes = code_holds (λ (n : ℕ). is_reading_code n ≡ true) listed_reason p bytes _ lexes code line byte refl
