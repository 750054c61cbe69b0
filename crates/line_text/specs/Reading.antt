-- A text read line by line, up to the first faulty line.
use Rattle.std.specs.Prelude.{◌≡◌, ℕ, ◌+◌, List, [], ◌∷◌, ◌++◌, length, Result, Ok, Err}
use Rattle.line_text.specs.declared.reader.LineErr.{LineErr}
use Rattle.line_text.specs.declared.reader.LineErr.TheVariants as l
use Rattle.line_text.specs.declared.reader.LinesErr.{LinesErr}
use Rattle.line_text.specs.declared.reader.LinesErr.TheVariants as e

-- the value after a line, or a code
abbrev pub Step : Type 0 → Type 0
Step S = Result S ℕ

abbrev pub Steps : {S : Type 0} → S → Result (Unit {0}) LineErr → Step S → Type 0
Steps new (Ok x) step = step ≡ Ok new
Steps new (Err (l.Code code)) step = step ≡ Err code
Steps new (Err l.Memory) step = Unit {0}

-- the error of a line, with the line's number
abbrev pub placed : LineErr → ℕ → LinesErr
placed l.Memory line = e.Memory
placed (l.Code code) line = e.At code line

-- a code and a line's number
abbrev pub Reading : Type 0 → Type 0
Reading S = Result S (ℕ × ℕ)

abbrev pub after : {S : Type 0} → ℕ → Step S → (S → Reading S) → Reading S
after number (Ok s) more = more s
after number (Err code) more = Err (code, number)

unfoldable pub read_from : {S : Type 0} → (S → List ℕ → Step S) → ℕ → S → List (List ℕ) → Reading S
read_from step number s [] = Ok s
read_from step number s (line ∷ lines) = after number (step s line) (λ s'. read_from step (number + 1) s' lines)

abbrev pub Reads : {S : Type 0} → S → Result (Unit {0}) LinesErr → Reading S → Type 0
Reads new (Ok x) reading = reading ≡ Ok new
Reads new (Err (e.At code line)) reading = reading ≡ Err (code, line)
Reads new (Err e.Memory) reading = Unit {0}

-- the value refuses the line of that number so
abbrev pub Refuses : {S : Type 0} → (S → List ℕ → Step S) → S → List ℕ → ℕ → LinesErr → Type 0
Refuses step s line number (e.At code at) = (step s line ≡ Err code) × (at ≡ number)
Refuses step s line number e.Memory = Unit {0}

-- What is left where a text was refused: the value is what the lines before one of them made of it, and refuses that one.
pub record Leaves {S : Type 0} (step : S → List ℕ → Step S) (old : S) (lines : List (List ℕ)) (new : S) (failure : LinesErr) : Type 0 where
  pub before : List (List ℕ)
  pub line : List ℕ
  pub after : List (List ℕ)
  pub whole : lines ≡ before ++ line ∷ after
  pub taken : read_from step 1 old before ≡ Ok new
  pub refused : Refuses step new line (length before + 1) failure
