use Rattle.std.proofs.Common.{◌≡◌, take, false}
use Rattle.clap.specs.Simple.{app_of}
use Rattle.clap.specs.declared.builder.command.Command.TheViews.{out-Command}
use Rattle.kit_words.specs.inner.CommandLine.{form_alone, texts_of}
use Rattle.kit_words.proofs.command_line.form.Given as goal

abbrev pub invariant-loop-id : goal.invariant-loop-id
invariant-loop-id l = record {
  shape : app_of l.command ≡ form_alone l.name (texts_of (take l.id-index l.arguments));
  local : (out-Command l.command).has_globals ≡ false;
}
