-- A list of port answers: one word per line, decimal or `0x` with hexadecimal digits.
use Rattle.std.specs.Prelude.{◌≡◌, ℕ, List, [], ◌∷◌, ◌++◌, drop, codes, nat_eq, Option, Some, None, Result, Ok, Err, Vec, if◌then◌else◌}
use Rattle.std.specs.declared.alloc.Global.{Global}
use Rattle.std.specs.List.{starts_with}
use Rattle.line_text.specs.Reading.{Step, Reading}
use Rattle.line_text.specs.Numbers.{decimal_word, hexadecimal_word}
use Rattle.run_files.specs.declared.answers.AnswerErr.{AnswerErr}
use Rattle.run_files.specs.declared.answers.AnswerErr.TheVariants as errors

-- the word of a line
unfoldable pub answer_of : List ℕ → Option ℕ
answer_of line = if starts_with nat_eq line (codes "0x") then hexadecimal_word (drop 2 line) else decimal_word line

abbrev pub with_answer : List ℕ → Option ℕ → Step (List ℕ)
with_answer words None = Err 111
with_answer words (Some word) = Ok (words ++ word ∷ [])

-- the words after a line
abbrev pub answer_step : List ℕ → List ℕ → Step (List ℕ)
answer_step words line = with_answer words (answer_of line)

-- the answer is what the lines give, or the first faulty line, unless memory ran out
abbrev pub ReadAs : Result (Vec ℕ Global) AnswerErr → Reading (List ℕ) → Type 0
ReadAs (Ok words) reading = reading ≡ Ok words.items
ReadAs (Err (errors.At line)) reading = reading ≡ Err (111, line)
ReadAs (Err errors.Memory) reading = Unit {0}
