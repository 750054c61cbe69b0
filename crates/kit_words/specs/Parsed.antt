-- A command as the program holds it, with references into its words, and the command that it is.
use Rattle.std.specs.Option.{option_map}
use Rattle.kit_words.specs.declared.command.Command.TheVariants as parsed
use Rattle.kit_words.specs.declared.command.Command as declared
use Rattle.kit_words.specs.declared.command.RunWords as run
use Rattle.kit_words.specs.declared.command.WatchWords as watch
use Rattle.kit_words.specs.Command.{Command, RunWords, WatchWords, Build, Convert, Trace, Run, Play, Watch, Bounds, Check, Gen}

abbrev pub run_words_from : run.RunWords → RunWords
run_words_from words = record {
  cart = words.cart.now;
  pads = words.pads.now;
  frames = words.frames.now;
  samples = words.samples.now;
  count = words.count.now;
  card = option_map (λ word. word.now) words.card;
}

abbrev pub watch_words_from : watch.WatchWords → WatchWords
watch_words_from words = record {
  project = words.project.now;
  cart = words.cart.now;
  map_name = words.map.now;
  pads = words.pads.now;
  count = words.count.now;
  card = option_map (λ word. word.now) words.card;
}

abbrev pub command_from : declared.Command → Command
command_from (parsed.Build project cart map) = Build project.now cart.now map.now
command_from (parsed.Convert conversion source target) = Convert conversion source.now target.now
command_from (parsed.Trace cart answers card steps) = Trace cart.now answers.now (option_map (λ word. word.now) card) steps.now
command_from (parsed.Run words) = Run (run_words_from words)
command_from (parsed.Play project map_name words) = Play project.now map_name.now (run_words_from words)
command_from (parsed.Watch words) = Watch (watch_words_from words)
command_from (parsed.Bounds project cart map text) = Bounds project.now cart.now map.now text.now
command_from (parsed.Check project) = Check project.now
command_from (parsed.Gen number project cart map) = Gen number.now project.now cart.now map.now
