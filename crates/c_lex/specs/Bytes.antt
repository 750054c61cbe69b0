-- The classes of bytes.
use Rattle.std.specs.Prelude.{ℕ, List, [], ◌∷◌, Bool, false, ◌||◌, ◌==◌}
use Rattle.std.specs.Char.{is_ascii_digit, is_ascii_alphabetic}

-- a letter or `_`
abbrev pub is_letter : ℕ → Bool
is_letter b = is_ascii_alphabetic b || (b == 95)

abbrev pub is_word_byte : ℕ → Bool
is_word_byte b = is_letter b || is_ascii_digit b

-- space, tab, CR or LF
abbrev pub is_blank : ℕ → Bool
is_blank b = (b == 32) || ((b == 9) || ((b == 13) || (b == 10)))

-- the quote of a text, or that of a character
abbrev pub is_quote : ℕ → Bool
is_quote b = (b == 34) || (b == 39)

abbrev pub is_point : ℕ → Bool
is_point b = b == 46

abbrev pub is_slash : ℕ → Bool
is_slash b = b == 47

-- a slash or a star
abbrev pub opens_comment : ℕ → Bool
opens_comment b = (b == 47) || (b == 42)

-- a byte, where there is one, passes
abbrev pub begins : (ℕ → Bool) → List ℕ → Bool
begins p [] = false
begins p (b ∷ bs) = p b
