-- What is built of a checked source, and why it is not.
use Rattle.std.specs.Prelude.{ℕ, ◌≡◌, ◌<◌, List, Result, Ok, Err, codes}
use Rattle.kit_base.specs.Held.{Held}
use Rattle.cart_format.specs.Cartridge.{total}
use Rattle.c_tree.specs.View.{unit}
use Rattle.c_check.specs.View.{program}
use Rattle.project_text.specs.declared.project.Project.{Project}
use Rattle.project_text.specs.ProjectText.{IsProject}
use Rattle.build_core.specs.declared.building.Built.{Built}
use Rattle.build_core.specs.declared.checked.Checked.{Checked}
use Rattle.build_core.specs.declared.error.BuildErr.{BuildErr}
use Rattle.build_core.specs.declared.error.BuildErr.TheVariants as errors
use Rattle.build_core.specs.Due.{Assets, assets_of}
use Rattle.build_core.specs.Build.{HasImage, IsBuilt, cartridge_of}
use Rattle.build_core.specs.Starts.{starts_of}

-- The image is one of this checked source: of its program, its places and its starts.
pub record IsImageFrom (m : Held) (project : List ℕ) (c : Checked) (of : HasImage m project) : Type 0 where
  pub program_is : of.program ≡ program c.program
  pub places_are : of.parsed.places ≡ c.places
  pub starts_are : starts_of (unit of.parsed.unit) ≡ c.starts.items

-- It is built of the project, with an image of this source.
pub record IsBuiltFrom (m : Held) (project : List ℕ) (c : Checked) (b : Built) : Type 0 where
  pub built : IsBuilt m project b
  pub image_is : IsImageFrom m project c built.of

-- A texture or a sound is refused; or, with an image of this source, the cartridge has over 268,435,456 bytes.
pub data IsUnbuiltFrom (m : Held) (project : List ℕ) (c : Checked) (e : BuildErr) : Type 0 where
  no_assets : (parts : Project) → IsProject project parts → assets_of m parts ≡ Err e → IsUnbuiltFrom m project c e
  too_large : (of : HasImage m project) (a : Assets) → IsImageFrom m project c of → assets_of m of.parts ≡ Ok a
      → 268435456 < total (cartridge_of of.parts.title of.image a) → e ≡ errors.Limit (codes "cartridge") → IsUnbuiltFrom m project c e

-- The answer is one that is due, unless a call of the files failed or memory ran out.
abbrev pub BuildsFrom : Held → List ℕ → Checked → Result Built BuildErr → Type 0
BuildsFrom m project c (Ok b) = IsBuiltFrom m project c b
BuildsFrom m project c (Err errors.Memory) = Unit {0}
BuildsFrom m project c (Err (errors.Failed name)) = Unit {0}
BuildsFrom m project c (Err e) = IsUnbuiltFrom m project c e
