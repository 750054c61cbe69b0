-- Equal setups run alike.
use Rattle.std.proofs.Common.{◌≡◌, ℕ, List, refl, ap, ◌∙◌}
use Rattle.std.specs.Prelude.{Option}
use Rattle.asset_pack.specs.Texts.{Image}
use Rattle.run_files.specs.Script.{Script}
use Rattle.v32_console.specs.Setup.{Setup, setup_of}
use Rattle.v32_console.specs.Moments.{console_at, opening_moment}
use Rattle.v32_console.specs.Frames.{frames_of, screen_of, samples_of}
use Rattle.v32_console.specs.Alike.{RunsAlike, SameSectionsRunAlike, TablesAreNothing}

setup : List ℕ → List Image → List (List ℕ) → Script → Option (List ℕ) → Setup
setup program textures sounds pads card = record { program = program; textures = textures; sounds = sounds; pads = pads; card = card }

alike : (u v : Setup) → u ≡ v → RunsAlike u v
alike u v e = record {
  moments = λ k. ap (λ (x : Setup). console_at x k) e;
  frames = λ count. ap (λ (x : Setup). frames_of count x (opening_moment x)) e;
  screens = λ m. ap (λ (x : Setup). screen_of x m) e;
  samples = λ m. ap (λ (x : Setup). samples_of x m) e;
}

pub same_sections : SameSectionsRunAlike
unfolding setup
same_sections a b h pads card =
    alike (setup_of a pads card) (setup_of b pads card)
    (ap (λ (program : List ℕ). setup program a.textures a.sounds pads card) h.program
    ∙ ap (λ (textures : List Image). setup b.program textures a.sounds pads card) h.textures
    ∙ ap (λ (sounds : List (List ℕ)). setup b.program b.textures sounds pads card) h.sounds)

pub tables : TablesAreNothing
tables cart table pads card = same_sections cart (record cart { table = table }) (record { program = refl; textures = refl; sounds = refl }) pads card
