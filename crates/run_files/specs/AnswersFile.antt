-- The text of a list of port answers: each line writes a word, as a decimal or as `0x` with hexadecimal digits. Hold it against the kit's page on files.
use Rattle.std.specs.Prelude.{◌≡◌, ℕ, ◌+◌, ◌≤◌, ◌<◌, ◌^◌, List, [], ◌∷◌, ◌++◌, length, codes, true, ◌⊎◌}
use Rattle.std.specs.List.{list_all, AllByRecursion, AllZip}
use Rattle.line_text.specs.Lines.{lines_of}
use Rattle.kit_base.specs.Digits.{value_in}
use Rattle.line_text.specs.Numbers.{is_digit, is_hexadecimal_digit}

-- one digit, or more that do not begin with 0; the number that they write is below 2 ^ 32
pub record IsDecimal (line : List ℕ) (word : ℕ) : Type 0 where
  pub some : 1 ≤ length line
  pub digits : list_all is_digit line ≡ true
  pub no_needless_zero : (rest : List ℕ) → line ≡ 48 ∷ rest → rest ≡ []
  pub value : value_in 10 line ≡ word
  pub fits : word < 2 ^ 32

-- `0x`, then one hexadecimal digit or more; the number that they write is below 2 ^ 32
pub record IsHexadecimal (line : List ℕ) (word : ℕ) : Type 0 where
  pub text : List ℕ
  pub spelled : line ≡ codes "0x" ++ text
  pub some : 1 ≤ length text
  pub digits : list_all is_hexadecimal_digit text ≡ true
  pub value : value_in 16 text ≡ word
  pub fits : word < 2 ^ 32

abbrev pub IsAnswerLine : (line : List ℕ) → (word : ℕ) → Type 0
IsAnswerLine line word = IsDecimal line word ⊎ IsHexadecimal line word

-- one line for each answer, in their order
abbrev pub IsAnswersFile : (bytes words : List ℕ) → Type 0
IsAnswersFile bytes words = AllZip IsAnswerLine (lines_of bytes) words

-- the line of that number, from 1, is the first that writes no word
pub record IsFirstFaulty (bytes : List ℕ) (number : ℕ) : Type 0 where
  pub before : List (List ℕ)
  pub faulty : List ℕ
  pub others : List (List ℕ)
  pub lines : lines_of bytes ≡ before ++ faulty ∷ others
  pub number_is : number ≡ length before + 1
  pub fine : AllByRecursion (λ line. (word : ℕ) × IsAnswerLine line word) before
  pub none : (word : ℕ) → ¬ IsAnswerLine faulty word
