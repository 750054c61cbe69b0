use Rattle.std.proofs.Common.{◌∙◌, ap}
use Rattle.std.proofs.lemmas.Result.{IfOk-weaker}
use Rattle.kit_words.specs.Forms.{Builds, Checks, Runs, Plays, Watches, TellsBounds, Traces, Generates}
use Rattle.kit_words.specs.inner.CommandLine.{with_converting, with_listed}
use Rattle.kit_words.proofs.command_line.command_line.Goals as goal

pub returns : goal.returns
returns c =
    let checks = c.in_ok-command-2.ensures ∙ ap (λ app. with_listed app Checks) (c.in_ok-command.ensures ∙ ap (λ app. with_listed app Builds) c.no_forms-command.ensures) in
    let runs = c.in_ok-command-4.ensures ∙ ap (λ app. with_listed app Runs) (c.in_ok-command-3.ensures ∙ ap with_converting checks) in
    let watches = c.in_ok-command-6.ensures ∙ ap (λ app. with_listed app Watches) (c.in_ok-command-5.ensures ∙ ap (λ app. with_listed app Plays) runs) in
    let bounds = c.in_ok-command-7.ensures ∙ ap (λ app. with_listed app TellsBounds) watches in
    IfOk-weaker c.with_form-8.result _ _
    (λ m h. h ∙ ap (λ app. with_listed app Generates) (c.in_ok-command-8.ensures ∙ ap (λ app. with_listed app Traces) bounds))
    c.with_form-8.ensures
