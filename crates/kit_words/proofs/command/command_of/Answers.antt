use Rattle.std.proofs.Common.{◌≡◌, ◌∙◌, rules, ap, sym, true, false}
use Rattle.std.specs.Prelude.{option_map}
use Rattle.std.proofs.lemmas.Result.{IfOk-weaker}
use Rattle.clap.specs.Simple.{app_of}
use Rattle.clap.specs.Faults.{is_simple_and_free}
use Rattle.clap.specs.Simple.{is_simple}
use Rattle.kit_words.specs.Command.{texts}
use Rattle.kit_words.specs.Parsed.{command_from}
use Rattle.kit_words.proofs.AllWords.{all_words}
use Rattle.kit_words.proofs.Parse.{command_found, command_refused, is_plain_app, is_simple_line, no_command}
use Rattle.kit_words.proofs.command.command_of.Goals as goal

pub returns-then-not-are_words : goal.returns-then-not-are_words
returns-then-not-are_words c =
    let failed : c.are_words.result ≡ false = search rules in
    sym (no_command (texts c.args.words.now) (all_words c.args.words.now ∙ sym c.are_words.ensures ∙ failed))

pub returns-in-Ok : goal.returns-in-Ok
returns-in-Ok c =
    let passed : c.are_words.result ≡ true = search rules in
    let line = c.in_ok-command_line.ensures in
    let all = all_words c.args.words.now ∙ sym c.are_words.ensures ∙ passed in
    c.command_in.ensures ∙ command_found (app_of c.in_ok-command_line.field-0) (texts c.args.words.now) _ line all
    (c.in-Ok.ensures.kinds (ap is_simple_and_free line ∙ is_plain_app)) ((c.in-Ok.ensures.matches (ap is_simple line ∙ is_simple_line)).1)

pub returns-in-Err : goal.returns-in-Err
returns-in-Err c =
    let passed : c.are_words.result ≡ true = search rules in
    let line = c.in_ok-command_line.ensures in
    let all = all_words c.args.words.now ∙ sym c.are_words.ensures ∙ passed in
    let kinds = c.in-Err.ensures.kinds (ap is_simple_and_free line ∙ is_plain_app) in
    IfOk-weaker c.refused.result _ _ (λ command h. ap (option_map command_from) h.0
    ∙ sym (command_refused (app_of c.in_ok-command_line.field-0) (texts c.args.words.now) c.in-Err.error line all kinds (λ memory. h.1 (c.kind.ensures ∙ memory)))) c.refused.ensures
