-- The one code of a faulty list of answers.
use Rattle.std.proofs.Common.{◌≡◌, ℕ, ◌+◌, List, [], ◌∷◌, ◌++◌, ap, sym}
use Rattle.std.specs.Prelude.{Option, Some, None, Err}
use Rattle.line_text.specs.Reading.{Reading, read_from, after}
use Rattle.run_files.specs.Answers.{answer_of, answer_step, with_answer}

one_step : (words : List ℕ) (number code line : ℕ) (word : Option ℕ) (more : List ℕ → Reading (List ℕ))
    → ((next : List ℕ) → more next ≡ Err (code, line) → code ≡ 111)
    → after number (with_answer words word) more ≡ Err (code, line) → code ≡ 111
one_step words number code line None more later e = let same : (111, number) ≡ (code, line) = cc in sym (ap (λ (p : ℕ × ℕ). p.0) same)
one_step words number code line (Some word) more later e = later (words ++ word ∷ []) e

pub faulty_code : (words : List ℕ) (number code line : ℕ) (lines : List (List ℕ)) → read_from answer_step number words lines ≡ Err (code, line) → code ≡ 111
unfolding read_from
faulty_code words number code line [] e = cc
faulty_code words number code line (first ∷ lines) e =
    one_step words number code line (answer_of first) (λ next. read_from answer_step (number + 1) next lines)
    (λ next. faulty_code next (number + 1) code line lines) e
