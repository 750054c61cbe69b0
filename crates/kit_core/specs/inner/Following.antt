-- What the parts of a watch answer and leave, each by itself. Only private functions cite this.
use Rattle.std.specs.Prelude.{ℕ, ◌≡◌, ◌≤◌, List, Result, Ok, Err}
use Rattle.kit_base.specs.Held.{Held}
use Rattle.kit_base.specs.declared.name.Memory.{Memory}
use Rattle.kit_base.specs.declared.failure.Failure.TheVariants as failures
use Rattle.cpu_core.specs.Space.{words_of}
use Rattle.v32_console.specs.Setup.{Setup}
use Rattle.run_core.specs.Stands.{RunStands}
use Rattle.build_core.specs.declared.error.BuildErr.{BuildErr}
use Rattle.build_core.specs.Build.{Builds}
use Rattle.build_core.specs.BuiltFrom.{IsBuiltFrom}
use Rattle.kit_tools.specs.Refusal.{Refusal}
use Rattle.kit_tools.specs.declared.shown.Shown.{Shown}
use Rattle.kit_tools.specs.declared.shown.Shown.TheVariants as shown
use Rattle.kit_tools.specs.declared.verdict.Verdict.{Verdict}
use Rattle.kit_core.specs.declared.following.Watchable.{Watchable}
use Rattle.kit_core.specs.declared.watching.Opened.{Opened}
use Rattle.kit_core.specs.inner.Checking.{TextBuilt}

-- what was built of the project's text is of the checked source, or why nothing was built
abbrev pub BuildsWatchable : Held → (text : List ℕ) → Result Watchable BuildErr → Type 0
BuildsWatchable m text (Ok w) = IsBuiltFrom m text w.checked w.built
BuildsWatchable m text (Err e) = Builds m text (Err e)

abbrev pub TextWatchable : (project text : List ℕ) → Held → Result Watchable Refusal → Type 0
TextWatchable project text held (Ok w) = IsBuiltFrom held text w.checked w.built
TextWatchable project text held (Err refusal) = TextBuilt project text held (Err refusal)

-- a run that stands at its beginning, of at most 600 frames, the sizes of the frames of calls, and the words of the card at that beginning
pub record IsOpened (u : Setup) (count : ℕ) (frames : List ℕ) (o : Opened) : Type 0 where
  pub run : RunStands u count o.run
  pub few : count ≤ 600
  pub frames_are : o.frames.sizes ≡ frames
  pub card_is : words_of o.card ≡ u.card

-- a verdict, or want of memory
abbrev pub shown_by : Result Verdict Memory → Result Shown Refusal
shown_by (Ok verdict) = Ok (shown.Watched verdict)
shown_by (Err e) = Err failures.Memory
