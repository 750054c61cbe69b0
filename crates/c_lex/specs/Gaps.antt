-- What stands between tokens: a blank, a backslash with the end of its line, a comment.
use Rattle.std.specs.Prelude.{ℕ, ◌+◌, List, [], ◌∷◌, length, take_while, Bool, false, ◌&&◌, ◌==◌, not, if◌then◌else◌, Option, Some, None, option_map}
use Rattle.c_lex.specs.Bytes.{begins, is_blank}

-- LF or CR LF behind a backslash
abbrev pub splice_len : List ℕ → ℕ
splice_len [] = 0
splice_len (c ∷ cs) = if c == 10 then 2 else (if (c == 13) && begins (λ b. b == 10) cs then 3 else 0)

abbrev pub closes : List ℕ → Bool
closes [] = false
closes (b ∷ bs) = (b == 42) && begins (λ b. b == 47) bs

-- how many bytes there are up to and with the next `*/`
unfoldable pub close_at : List ℕ → Option ℕ
close_at [] = None
close_at (b ∷ bs) = if closes (b ∷ bs) then Some 2 else option_map (λ n. n + 1) (close_at bs)

abbrev pub closed_len : Option ℕ → ℕ
closed_len None = 0
closed_len (Some n) = 2 + n

-- behind a slash: `/` and what stands before the next LF, or `*` and what stands up to the next `*/`
abbrev pub comment_len : List ℕ → ℕ
comment_len [] = 0
comment_len (c ∷ cs) = if c == 47 then 2 + length (take_while (λ b. not (b == 10)) cs) else (if c == 42 then closed_len (close_at cs) else 0)

-- how many bytes at the front are one gap; 0 where none stands there
unfoldable pub gap_len : List ℕ → ℕ
gap_len [] = 0
gap_len (b ∷ bs) = if is_blank b then 1 else (if b == 92 then splice_len bs else (if b == 47 then comment_len bs else 0))
