-- What the files hold after a run, and after one whose outputs were cut short.
use Rattle.std.specs.Prelude.{ℕ, ◌≡◌, ◌⊎◌, true, false, List, take, Option, Some, None}
use Rattle.std.specs.Str.{bytes_eq}
use Rattle.std.specs.FinMap.{get}
use Rattle.kit_base.specs.Held.{Held}
use Rattle.kit_base.specs.Effects.{all_done, CutShort}
use Rattle.v32_console.specs.Setup.{Setup}
use Rattle.run_core.specs.Outputs.{Names, last_moment, run_outputs}
use Rattle.output_laws.specs.Bytes.{card_bytes, frames_bytes, samples_bytes}

abbrev pub AreOther : List ℕ → List ℕ → Type 0
AreOther name other = bytes_eq name other ≡ false

-- the name is not that of the card's file
abbrev pub IsNoCard : List ℕ → Option (List ℕ) → Type 0
IsNoCard name None = Unit {0}
IsNoCard name (Some card) = AreOther name card

-- the frames, the samples and the card have files of their own
pub record AreApart (names : Names) : Type 0 where
  pub samples_frames : AreOther names.samples names.frames
  pub frames_samples : AreOther names.frames names.samples
  pub frames_card : IsNoCard names.frames names.card
  pub samples_card : IsNoCard names.samples names.card
  pub card_frames : (card : List ℕ) → names.card ≡ Some card → AreOther card names.frames
  pub card_samples : (card : List ℕ) → names.card ≡ Some card → AreOther card names.samples

-- the name is none of these
pub record IsNone (names : Names) (name : List ℕ) : Type 0 where
  pub frames : AreOther name names.frames
  pub samples : AreOther name names.samples
  pub card : IsNoCard name names.card

-- The files of frames and of samples hold their bytes; the card's file, where one is named, those of the card where one is connected, else what it
-- held; and every other file is as before.
pub record OutputsStand (names : Names) (u : Setup) (count : ℕ) (before after : Held) : Type 0 where
  pub frames : get after names.frames ≡ Some (frames_bytes u count)
  pub samples : get after names.samples ≡ Some (samples_bytes u count)
  pub card : (name : List ℕ) → names.card ≡ Some name → (last_moment u count).state.has_card ≡ true → get after name ≡ Some (card_bytes u count)
  pub no_card : (name : List ℕ) → names.card ≡ Some name → (last_moment u count).state.has_card ≡ false → get after name ≡ get before name
  pub others : (name : List ℕ) → IsNone names name → get after name ≡ get before name

-- a file is as before, or holds a front of the bytes that it was to hold
abbrev pub IsFrontOf : List ℕ → (before after : Option (List ℕ)) → Type 0
IsFrontOf whole before after = (after ≡ before) ⊎ ((k : ℕ) × (after ≡ Some (take k whole)))

-- each file of the run is as before or holds a front of its bytes, and every other file is as before
pub record FrontsStand (names : Names) (u : Setup) (count : ℕ) (before after : Held) : Type 0 where
  pub frames : IsFrontOf (frames_bytes u count) (get before names.frames) (get after names.frames)
  pub samples : IsFrontOf (samples_bytes u count) (get before names.samples) (get after names.samples)
  pub card : (name : List ℕ) → names.card ≡ Some name → IsFrontOf (card_bytes u count) (get before name) (get after name)
  pub others : (name : List ℕ) → IsNone names name → get after name ≡ get before name

-- where the outputs of a run are all done
abbrev pub OutputsAreTheirBytes : Type 0
OutputsAreTheirBytes = (names : Names) (u : Setup) (count : ℕ) (before after : Held) → AreApart names
    → Some after ≡ all_done (run_outputs names u count) (Some before) → OutputsStand names u count before after

-- where they were cut short at a refused call on the file of some name
abbrev pub CutOutputsAreFronts : Type 0
CutOutputsAreFronts = (names : Names) (u : Setup) (count : ℕ) (name : List ℕ) (before after : Held) → AreApart names
    → CutShort name (run_outputs names u count) (Some before) (Some after) → FrontsStand names u count before after
