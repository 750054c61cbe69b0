-- What the parts of a build give for the files that are held. The order of the parts is that of the refusals.
use Rattle.std.specs.Prelude.{ℕ, List, [], ◌∷◌, Some, None, Result, Ok, Err, codes}
use Rattle.kit_base.specs.Held.{Held}
use Rattle.kit_base.specs.Outside.{due}
use Rattle.kit_base.specs.declared.outside.FileErr.{FileErr}
use Rattle.kit_base.specs.declared.outside.FileErr.TheVariants as file_errors
use Rattle.asset_pack.specs.declared.kind.Kind.TheVariants as kinds
use Rattle.asset_pack.specs.declared.error.AssetFault.{AssetFault}
use Rattle.asset_pack.specs.Texts.{Image}
use Rattle.asset_pack.specs.Reading.{texture_in, words_in}
use Rattle.project_text.specs.declared.error.ProjectErr.{ProjectErr}
use Rattle.project_text.specs.declared.error.ProjectErr.TheVariants as project_errors
use Rattle.project_text.specs.declared.project.Project.{Project}
use Rattle.build_core.specs.declared.error.BuildErr.{BuildErr}
use Rattle.build_core.specs.declared.error.BuildErr.TheVariants as errors

-- the first refusal decides
infixl 10 ◌>>=◌
abbrev pub ◌>>=◌ : {A B : Type 0} → Result A BuildErr → (A → Result B BuildErr) → Result B BuildErr
(Ok x) >>= f = f x
(Err e) >>= f = Err e

-- the project that the text spells, or 90 to 93 with the first faulty line
abbrev pub project_due : Result Project ProjectErr → Result Project BuildErr
project_due (Ok p) = Ok p
project_due (Err (project_errors.At code line)) = Err (errors.Bad code (codes "project") (Some line))
project_due (Err project_errors.Memory) = Err errors.Memory

-- the file's bytes, or the refusal that names the file
abbrev pub read_as : List ℕ → Result (List ℕ) FileErr → Result (List ℕ) BuildErr
read_as name (Ok bytes) = Ok bytes
read_as name (Err file_errors.Missing) = Err (errors.Missing name)
read_as name (Err file_errors.Failed) = Err (errors.Failed name)
read_as name (Err file_errors.TooLong) = Err (errors.Limit name)
read_as name (Err file_errors.Memory) = Err errors.Memory

abbrev pub read_of : Held → List ℕ → Result (List ℕ) BuildErr
read_of m name = read_as name (due m name)

-- the value of a file, or 70 to 73 with the file's name
abbrev pub asset_due : {X : Type 0} → List ℕ → Result X AssetFault → Result X BuildErr
asset_due name (Ok x) = Ok x
asset_due name (Err fault) = Err (errors.Bad fault.code name None)

unfoldable pub asset_of : {X : Type 0} → (List ℕ → Result X AssetFault) → Held → List ℕ → Result X BuildErr
asset_of value m name = do
  bytes ← read_of m name
  asset_due name (value bytes)

abbrev pub texture_of : Held → List ℕ → Result Image BuildErr
texture_of m name = asset_of texture_in m name

abbrev pub sound_of : Held → List ℕ → Result (List ℕ) BuildErr
sound_of m name = asset_of (words_in kinds.Sound) m name

-- one after another
unfoldable pub all_of : {X : Type 0} → (List ℕ → Result X BuildErr) → List (List ℕ) → Result (List X) BuildErr
all_of one [] = Ok []
all_of one (name ∷ names) = do
  first ← one name
  others ← all_of one names
  Ok (first ∷ others)

-- the textures and the sounds of a project
abbrev pub Assets : Type 0
Assets = List Image × List (List ℕ)

abbrev pub assets : List Image → List (List ℕ) → Assets
assets textures sounds = (textures, sounds)

unfoldable pub assets_of : Held → Project → Result Assets BuildErr
assets_of m p = do
  textures ← all_of (texture_of m) p.textures
  sounds ← all_of (sound_of m) p.sounds
  Ok (assets textures sounds)
