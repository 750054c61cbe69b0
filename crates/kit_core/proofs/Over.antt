-- What a command finds over a limit is a reason of its words.
use Rattle.std.proofs.Common.{ℕ, ◌≡◌, ◌⊎◌, ◌<◌, inl, inr, List, false}
use Rattle.std.specs.Prelude.{Option, Some, None, Result}
use Rattle.kit_base.specs.Held.{Held}
use Rattle.kit_base.specs.Counts.{Counts}
use Rattle.kit_words.specs.declared.conversion.Conversion.{Conversion}
use Rattle.kit_words.specs.Command.{Command, RunWords, WatchWords, Build, Convert, Trace, Run, Play, Watch, Bounds, Gen, command_of}
use Rattle.kit_words.specs.Number.{number_of}
use Rattle.kit_tools.specs.Refusal.{Refusal}
use Rattle.kit_tools.specs.declared.shown.Shown.{Shown}
use Rattle.kit_tools.specs.Causes.{HasCauses, HasCausesOr}
use Rattle.kit_tools.specs.Converting.{ConvertsLong}
use Rattle.kit_tools.specs.Running.{is_count}
use Rattle.kit_tools.specs.Watching.{is_watch_count}
use Rattle.kit_tools.proofs.Own.{wider_causes}
use Rattle.kit_core.specs.inner.Causes.{HasReasons, IsUsage}
use Rattle.kit_core.specs.Limits.{IsGenOver, IsLarge, IsOver}
use Rattle.kit_core.proofs.Reasons.{reasons}

pub not_none : (words : List (List ℕ)) (c : Command) (r : Result Shown Refusal) → command_of words ≡ Some c → command_of words ≡ None → IsUsage r
not_none words c r is none = cc

module _ (words : List (List ℕ)) (held : Option Held) (r : Result Shown Refusal) (before after : Counts) where
  wider : (O : Type 0) → (O → IsOver words held) → HasCausesOr O r before after → HasReasons words held r before after
  wider O over h = reasons words held r before after (wider_causes O (IsOver words held) r before after over h)

  pub check_over : HasCauses r before after → HasReasons words held r before after
  check_over h = wider ⊥ (λ never. absurd never) h

  pub convert_over : (conversion : Conversion) (source target : List ℕ) → command_of words ≡ Some (Convert conversion source target)
      → HasCausesOr (ConvertsLong conversion source held) r before after → HasReasons words held r before after
  convert_over conversion source target is h =
      wider (ConvertsLong conversion source held) (λ long. inl (record { conversion = conversion; source = source; target = target; named = is; long = long })) h

  pub build_over : (project cart map_name : List ℕ) → command_of words ≡ Some (Build project cart map_name)
      → HasCausesOr (IsLarge project held) r before after → HasReasons words held r before after
  build_over project cart map_name is h =
      wider (IsLarge project held) (λ large. inr (inl (record { project = project; cart = cart; map_name = map_name; named = is; large = large }))) h

  pub trace_over : (cart answers : List ℕ) (card : Option (List ℕ)) (steps : List ℕ) → command_of words ≡ Some (Trace cart answers card steps)
      → HasCausesOr (10000000 < number_of steps) r before after → HasReasons words held r before after
  trace_over cart answers card steps is h =
      wider (10000000 < number_of steps) (λ over. inr (inr (inl (record { cart = cart; answers = answers; card = card; steps = steps; named = is; over = over })))) h

  pub run_over : (run : RunWords) → command_of words ≡ Some (Run run)
      → HasCausesOr (is_count (number_of run.count) ≡ false) r before after → HasReasons words held r before after
  run_over run is h = wider (is_count (number_of run.count) ≡ false) (λ over. inr (inr (inr (inl (record { run = run; named = is; over = over }))))) h

  pub play_over : (project map_name : List ℕ) (run : RunWords) → command_of words ≡ Some (Play project map_name run)
      → HasCausesOr (IsLarge project held ⊎ (is_count (number_of run.count) ≡ false)) r before after → HasReasons words held r before after
  play_over project map_name run is h =
      wider (IsLarge project held ⊎ (is_count (number_of run.count) ≡ false))
      (λ over. inr (inr (inr (inr (inl (record { project = project; map_name = map_name; run = run; named = is; over = over })))))) h

  pub watch_over : (watch : WatchWords) → command_of words ≡ Some (Watch watch)
      → HasCausesOr (IsLarge watch.project held ⊎ (is_watch_count (number_of watch.count) ≡ false)) r before after → HasReasons words held r before after
  watch_over watch is h =
      wider (IsLarge watch.project held ⊎ (is_watch_count (number_of watch.count) ≡ false))
      (λ over. inr (inr (inr (inr (inr (inl (record { watch = watch; named = is; over = over }))))))) h

  pub gen_over : (number project cart map_name : List ℕ) → command_of words ≡ Some (Gen number project cart map_name)
      → HasCausesOr (IsGenOver number) r before after → HasReasons words held r before after
  gen_over number project cart map_name is h =
      wider (IsGenOver number) (λ over. inr (inr (inr (inr (inr (inr (inl (record { number = number; project = project; cart = cart; map_name = map_name; named = is; over = over })))))))) h

  pub bounds_over : (project cart map_name text_name : List ℕ) → command_of words ≡ Some (Bounds project cart map_name text_name)
      → HasCausesOr (IsLarge project held) r before after → HasReasons words held r before after
  bounds_over project cart map_name text_name is h =
      wider (IsLarge project held) (λ large. inr (inr (inr (inr (inr (inr (inr (record { project = project; cart = cart; map_name = map_name; text_name = text_name; named = is; large = large })))))))) h
