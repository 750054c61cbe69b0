-- The texts of words files, textures and sounds, field by field: a signature of eight bytes, the
-- sizes, the words. Hold it against the console's guide to asset files.
use Rattle.std.specs.Prelude.{◌≡◌, ℕ, ◌≤◌, ◌*◌, List, ◌++◌, length, codes}
use Rattle.asset_pack.specs.Words.{word_text, words_text, AreWords}

-- a picture: its pixels stand by rows
pub record Image : Type 0 where
  pub width : ℕ
  pub height : ℕ
  pub pixels : List ℕ

abbrev pub IsSide : ℕ → Type 0
IsSide n = (1 ≤ n) × (n ≤ 1024)

pub record HasSides (t : Image) : Type 0 where
  pub wide : IsSide t.width
  pub high : IsSide t.height
  pub full : length t.pixels ≡ t.width * t.height

abbrev pub IsTexture : Image → Type 0
IsTexture t = HasSides t × AreWords t.pixels

abbrev pub HasSamples : List ℕ → Type 0
HasSamples samples = (1 ≤ length samples) × (length samples ≤ 33554432)

abbrev pub IsSound : List ℕ → Type 0
IsSound samples = HasSamples samples × AreWords samples

abbrev pub IsProgram : List ℕ → Type 0
IsProgram words = (length words ≤ 33554432) × AreWords words

unfoldable pub words_file_text : List ℕ → List ℕ
words_file_text words = codes "V32-VBIN" ++ word_text (length words) ++ words_text words

unfoldable pub texture_text : Image → List ℕ
texture_text t = codes "V32-VTEX" ++ word_text t.width ++ word_text t.height ++ words_text t.pixels

unfoldable pub sound_text : List ℕ → List ℕ
sound_text samples = codes "V32-VSND" ++ word_text (length samples) ++ words_text samples
