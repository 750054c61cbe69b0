-- The command `watch` apart from its build and its run: what it reads beside the project, and the line of its verdict.
use Rattle.std.specs.Prelude.{ℕ, Bool, List, [], ◌∷◌, ◌++◌, Result, codes}
use Rattle.std.specs.Fmt.{decimal}
use Rattle.kit_base.specs.Held.{Held}
use Rattle.kit_words.specs.Command.{WatchWords}
use Rattle.kit_tools.specs.Refusal.{Refusal}
use Rattle.kit_tools.specs.declared.verdict.Verdict.{Verdict}
use Rattle.kit_tools.specs.declared.verdict.Verdict.TheVariants as verdicts
use Rattle.kit_tools.specs.Running.{Settings, is_up_to, settings_up_to, IsReadToSetBy}

-- a run that is watched has 1 to 600 frames
abbrev pub is_watch_count : ℕ → Bool
is_watch_count count = is_up_to 600 count

abbrev pub watch_settings_due : WatchWords → Held → Result Settings Refusal
watch_settings_due words held = settings_up_to 600 words.pads words.card words.count held

-- a file that is read beside the project
abbrev pub IsReadToSetWatch : WatchWords → Held → List ℕ → Type 0
IsReadToSetWatch words held name = IsReadToSetBy words.pads words.card held name

-- the end of a line that names a line of a file
abbrev pub line_end : ℕ → List ℕ
line_end line = codes ":" ++ decimal line ++ 10 ∷ []

-- each line ends with LF
abbrev pub watch_line : Verdict → List ℕ
watch_line verdicts.Met = codes "met" ++ 10 ∷ []
watch_line (verdicts.Stray file line) = codes "stray at " ++ file ++ line_end line
watch_line (verdicts.Deep file line) = codes "deep at " ++ file ++ line_end line
