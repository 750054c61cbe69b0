-- A whole run: the heads, the frames, and the card.
use Rattle.std.proofs.Common.{ℕ, ◌+◌, ◌≡◌, Bool, false, List, [], ◌++◌, refl, sym, ap, subst, ◌∙◌}
use Rattle.std.specs.Prelude.{Option, Some, None, Result, if◌then◌else◌}
use Rattle.kit_base.specs.Held.{Held}
use Rattle.kit_base.specs.Effects.{Effect, all_done, written_file}
use Rattle.asset_pack.specs.Words.{words_text}
use Rattle.v32_isa.specs.State.{State}
use Rattle.cpu_core.specs.Machine.{IsCard}
use Rattle.v32_console.specs.Setup.{Setup}
use Rattle.v32_console.specs.Moments.{opening_moment}
use Rattle.v32_console.specs.Frames.{frames_of}
use Rattle.v32_console.proofs.Lists.{tabulated}
use Rattle.run_core.specs.declared.output.Output.{Output}
use Rattle.run_core.specs.declared.output.Unwritten.{Unwritten}
use Rattle.run_core.specs.Outputs.{Names, heads, card_words, card_outputs, last_moment, run_outputs}
use Rattle.run_core.specs.Writing.{IsCut, Writes}
use Rattle.run_core.proofs.Parts.{cut_in_first, cut_in_second, writes_last}
use Rattle.run_core.proofs.Going.{outputs}

card_is : (s : State) (words : List ℕ) → IsCard s words → words ≡ card_words s
unfolding card_words
card_is s words h = tabulated 0x40000 (λ k. s.memory (0x30000000 + k)) words h.room h.words_are

card_written : (name : List ℕ) (s : State) (words : List ℕ) → IsCard s words → written_file name (words_text words) ≡ card_outputs (Some name) s
card_written name s words h =
    ap (λ (ws : List ℕ). written_file name (words_text ws)) (card_is s words h)
    ∙ sym (ap (λ (b : Bool). if b then written_file name (words_text (card_words s)) else []) h.connected)

pub writes_card : {T : Type 0} (names : Names) (named : Option (List ℕ)) (name : List ℕ) (s : State) (words : List ℕ) (r : Result T Unwritten) (before after : Option Held)
    → named ≡ Some name → IsCard s words → Writes names (written_file name (words_text words)) r before after → Writes names (card_outputs named s) r before after
writes_card names named name s words r before after e h w =
    subst (λ (o : Option (List ℕ)). Writes names (card_outputs o s) r before after) (sym e)
    (subst (λ (es : List Effect). Writes names es r before after) (card_written name s words h) w)

no_card : (named : Option (List ℕ)) (s : State) → s.has_card ≡ false → card_outputs named s ≡ []
no_card None s h = refl
no_card (Some name) s h = ap (λ (b : Bool). if b then written_file name (words_text (card_words s)) else []) h

-- no card is connected
pub nothing_written : (named : Option (List ℕ)) (s : State) (held : Option Held) → s.has_card ≡ false → held ≡ all_done (card_outputs named s) held
nothing_written named s held h = ap (λ (es : List Effect). all_done es held) (sym (no_card named s h))

module _ (names : Names) (u : Setup) (count : ℕ) (first : Option Held) where
  pub run_cut_heads : (output : Output) (after : Option Held) → IsCut names output (heads names) first after → IsCut names output (run_outputs names u count) first after
  unfolding run_outputs
  run_cut_heads output after h = cut_in_first names output (heads names) _ first after h

  pub run_cut_frames : (output : Output) (second after : Option Held) → second ≡ all_done (heads names) first
      → IsCut names output (outputs names u (frames_of count u (opening_moment u))) second after → IsCut names output (run_outputs names u count) first after
  unfolding run_outputs
  run_cut_frames output second after e h =
      cut_in_second names output (heads names) _ first second after e (cut_in_first names output (outputs names u (frames_of count u (opening_moment u))) _ second after h)

  pub run_writes_card : {T : Type 0} (r : Result T Unwritten) (second third after : Option Held) → second ≡ all_done (heads names) first
      → third ≡ all_done (outputs names u (frames_of count u (opening_moment u))) second → Writes names (card_outputs names.card (last_moment u count).state) r third after
      → Writes names (run_outputs names u count) r first after
  unfolding run_outputs
  run_writes_card r second third after e f w =
      let frames = outputs names u (frames_of count u (opening_moment u)) in
      let card = card_outputs names.card (last_moment u count).state in
      writes_last names (heads names) (frames ++ card) r first second after e (writes_last names frames card r second third after f w)
