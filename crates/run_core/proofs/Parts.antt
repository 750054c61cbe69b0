-- Parts of a run that follow one another.
use Rattle.std.proofs.Common.{ℕ, ◌≡◌, List, [], ◌∷◌, ◌++◌, sym, ap, subst, ◌∙◌}
use Rattle.std.specs.Prelude.{Option, Result, Ok, Err}
use Rattle.kit_base.specs.Held.{Held}
use Rattle.kit_base.specs.Effects.{Effect, Appends, all_done, CutShort}
use Rattle.kit_base.proofs.Cuts.{all_done-append, cut_first, cut_second}
use Rattle.asset_pack.specs.Words.{words_text}
use Rattle.v32_console.specs.Setup.{Setup}
use Rattle.v32_console.specs.Moments.{Moment}
use Rattle.v32_console.specs.Frames.{screen_of, samples_of}
use Rattle.run_core.specs.declared.output.Output.{Output}
use Rattle.run_core.specs.declared.output.Unwritten.{Unwritten}
use Rattle.run_core.specs.Outputs.{Names, frame_outputs}
use Rattle.run_core.specs.Writing.{IsCut, Writes}

-- a part that was cut short is the last that was begun
pub cut_in_first : (names : Names) (output : Output) (es fs : List Effect) (before after : Option Held) → IsCut names output es before after → IsCut names output (es ++ fs) before after
cut_in_first names output es fs before after h = (h.0, (h.1.0, cut_first h.0 es fs before after h.1.1))

pub cut_in_second : (names : Names) (output : Output) (es fs : List Effect) (before middle after : Option Held) → middle ≡ all_done es before → IsCut names output fs middle after
    → IsCut names output (es ++ fs) before after
cut_in_second names output es fs before middle after e h =
    (h.0, (h.1.0, cut_second h.0 es fs before after (subst (λ (held : Option Held). CutShort h.0 fs held after) e h.1.1)))

pub all_done_both : (es fs : List Effect) (before middle after : Option Held) → middle ≡ all_done es before → after ≡ all_done fs middle → after ≡ all_done (es ++ fs) before
all_done_both es fs before middle after e f = f ∙ ap (all_done fs) e ∙ sym (all_done-append es fs before)

-- the last part
pub writes_last : {T : Type 0} (names : Names) (es fs : List Effect) (r : Result T Unwritten) (before middle after : Option Held) → middle ≡ all_done es before
    → Writes names fs r middle after → Writes names (es ++ fs) r before after
writes_last names es fs (Ok x) before middle after e h = all_done_both es fs before middle after e h
writes_last names es fs (Err r) before middle after e h = cut_in_second names r.output es fs before middle after e h

-- ---- the outputs of a frame

module _ (names : Names) (u : Setup) (m : Moment) (screen samples : List ℕ) (same : screen ≡ screen_of u m) where
  pub frame_cut_first : (output : Output) (before after : Option Held) → IsCut names output (Appends names.frames (words_text screen) ∷ []) before after
      → IsCut names output (frame_outputs names u m) before after
  frame_cut_first output before after h =
      cut_in_first names output (Appends names.frames (words_text (screen_of u m)) ∷ []) (Appends names.samples (words_text (samples_of u m)) ∷ []) before after
      (subst (λ (ws : List ℕ). IsCut names output (Appends names.frames (words_text ws) ∷ []) before after) same h)

  first_done : (before after : Option Held) → after ≡ all_done (Appends names.frames (words_text screen) ∷ []) before
      → after ≡ all_done (Appends names.frames (words_text (screen_of u m)) ∷ []) before
  first_done before after h = h ∙ ap (λ (ws : List ℕ). all_done (Appends names.frames (words_text ws) ∷ []) before) same

  pub frame_cut_second : (output : Output) (before middle after : Option Held) → samples ≡ samples_of u m → middle ≡ all_done (Appends names.frames (words_text screen) ∷ []) before
      → IsCut names output (Appends names.samples (words_text samples) ∷ []) middle after → IsCut names output (frame_outputs names u m) before after
  frame_cut_second output before middle after same' e h =
      cut_in_second names output (Appends names.frames (words_text (screen_of u m)) ∷ []) (Appends names.samples (words_text (samples_of u m)) ∷ []) before middle after
      (first_done before middle e) (subst (λ (ws : List ℕ). IsCut names output (Appends names.samples (words_text ws) ∷ []) middle after) same' h)

  pub frame_done : (before middle after : Option Held) → samples ≡ samples_of u m → middle ≡ all_done (Appends names.frames (words_text screen) ∷ []) before
      → after ≡ all_done (Appends names.samples (words_text samples) ∷ []) middle → after ≡ all_done (frame_outputs names u m) before
  frame_done before middle after same' e h =
      all_done_both (Appends names.frames (words_text (screen_of u m)) ∷ []) (Appends names.samples (words_text (samples_of u m)) ∷ []) before middle after
      (first_done before middle e) (h ∙ ap (λ (ws : List ℕ). all_done (Appends names.samples (words_text ws) ∷ []) middle) same')
