use Rattle.std.proofs.Common.{◌≡◌, ℕ, ap, sym, ◌∙◌, List, []}
use Rattle.std.specs.Prelude.{Err}
use Rattle.line_text.specs.Lines.{lines_of}
use Rattle.line_text.specs.Reading.{read_from}
use Rattle.run_files.specs.Answers.{answer_step}
use Rattle.run_files.proofs.Codes.{faulty_code}
use Rattle.run_files.proofs.answers.answers_of.Goals as goal

pub returns-in-Err-At : goal.returns-in-Err-At
returns-in-Err-At c =
    let from_items : read_from answer_step 1 c.new.result.items (lines_of c.args.bytes.now) ≡ Err (c.in-Err-At.field-0-0, c.in-Err-At.line) =
    rw c.in-Err-At.field-0-is at c.in-Err-At.ensures.read in
    let read : read_from answer_step 1 [] (lines_of c.args.bytes.now) ≡ Err (c.in-Err-At.field-0-0, c.in-Err-At.line) =
    ap (λ (ws : List ℕ). read_from answer_step 1 ws (lines_of c.args.bytes.now)) (sym c.new.ensures.items) ∙ from_items in
    read ∙ ap (λ (k : ℕ). Err (k, c.in-Err-At.line)) (faulty_code [] 1 c.in-Err-At.field-0-0 c.in-Err-At.line (lines_of c.args.bytes.now) read)
