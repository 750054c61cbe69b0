-- The script that the pads file `pads 0 0 0` tells.
use Rattle.std.proofs.Common.{ℕ, ◌≡◌, refl, sym, subst, ◌∙◌}
use Rattle.std.specs.Prelude.{Result, Ok, Err}
use Rattle.line_text.specs.Lines.{lines_of, lines_from, without_return}
use Rattle.line_text.specs.Reading.{read_from}
use Rattle.line_text.specs.Fields.{field_at}
use Rattle.line_text.specs.Numbers.{decimal_word}
use Rattle.run_files.specs.declared.pads.PadsErr.{PadsErr}
use Rattle.run_files.specs.declared.pads.PadsErr.TheVariants as errors
use Rattle.run_files.specs.PadsAnswer.{ReadsPads}
use Rattle.run_files.specs.PadsText.{header_of}
use Rattle.run_files.specs.PadsReading.{pads_of}
use Rattle.run_files.specs.Script.{Script}
use Rattle.kit_core.specs.Plain.{plain_pads, plain_pads_text}

pub plain_is_told : pads_of plain_pads_text ≡ Ok plain_pads
unfolding pads_of lines_of lines_from without_return read_from header_of field_at decimal_word
plain_is_told = refl

-- so the reader of pads files gives it, and refuses nothing

pub gives_plain : (r : Result Script PadsErr) (s : Script) → ReadsPads r (pads_of plain_pads_text) → r ≡ Ok s → s ≡ plain_pads
gives_plain r s h e =
    let read : pads_of plain_pads_text ≡ Ok s = subst (λ (x : Result Script PadsErr). ReadsPads x (pads_of plain_pads_text)) e h in
    let same : Ok s ≡ Ok plain_pads = sym read ∙ plain_is_told in cc

pub refuses_nothing : (r : Result Script PadsErr) (code line : ℕ) → ReadsPads r (pads_of plain_pads_text) → r ≡ Err (errors.At code line) → ⊥
refuses_nothing r code line h e =
    let refused = subst (λ (x : Result Script PadsErr). ReadsPads x (pads_of plain_pads_text)) e h in
    let both = sym plain_is_told ∙ refused in absurd cc
