use Rattle.std.proofs.Common.{◌∙◌, ap}
use Rattle.std.proofs.lemmas.Result.{IfOk-weaker}
use Rattle.kit_words.specs.declared.conversion.Conversion.TheVariants.{Assemble, Disassemble}
use Rattle.kit_words.specs.Forms.{Converts}
use Rattle.kit_words.specs.inner.CommandLine.{with_listed}
use Rattle.kit_words.proofs.command_line.with_converting.Goals as goal

pub returns : goal.returns
returns c = IfOk-weaker c.with_form-3.result _ _
    (λ m h. h ∙ ap (λ app. with_listed app (Converts Disassemble)) (c.in_ok-command-2.ensures ∙ ap (λ app. with_listed app (Converts Assemble)) c.in_ok-command.ensures))
    c.with_form-3.ensures
