use Rattle.std.proofs.Common.{◌∙◌, ◌||◌, rules, ap₂}
use Rattle.clap.specs.Simple.{with_rule}
use Rattle.kit_words.proofs.Telling.{form_more}
use Rattle.kit_words.proofs.command_line.form.Goals as goal

pub loop-id-preserved : goal.loop-id-preserved
loop-id-preserved c = record {
  shape = c.in_ok-command.ensures.shape c.required.ensures.local ∙ ap₂ with_rule c.loop-id.invariant.shape c.required.ensures.rule
      ∙ form_more c.args.name.now c.args.arguments.now c.loop-id.id-index _ (search rules);
  local = c.in_ok-command.ensures.globals ∙ ap₂ (λ a b. a || b) c.loop-id.invariant.local c.required.ensures.local;
}
