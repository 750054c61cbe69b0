-- What the reader of pads answers.
use Rattle.std.specs.Prelude.{◌≡◌, Result, Ok, Err}
use Rattle.line_text.specs.Reading.{Reading}
use Rattle.run_files.specs.Script.{Script}
use Rattle.run_files.specs.declared.pads.PadsErr.{PadsErr}
use Rattle.run_files.specs.declared.pads.PadsErr.TheVariants as errors

-- the script that the lines give, or the code of the first faulty line, unless memory ran out
abbrev pub ReadsPads : Result Script PadsErr → Reading Script → Type 0
ReadsPads (Ok s) reading = reading ≡ Ok s
ReadsPads (Err (errors.At code line)) reading = reading ≡ Err (code, line)
ReadsPads (Err errors.Memory) reading = Unit {0}
