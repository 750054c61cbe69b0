-- Which refusals of a build can come, and why.
use Rattle.std.specs.Prelude.{ℕ, ◌≡◌, ◌≤◌, ◌<◌, ◌⊎◌, List, [], ◌∷◌, ◌++◌, length, Some, None, Result, Ok, Err, Contains, codes}
use Rattle.std.specs.List.{AllByRecursion}
use Rattle.kit_base.specs.Counts.{Counts, Rose}
use Rattle.kit_base.specs.SourceCodes.{HasSourceCause}
use Rattle.kit_base.specs.declared.failure.Failure.{Failure}
use Rattle.kit_base.specs.declared.failure.Failure.TheVariants as failures
use Rattle.asset_pack.specs.declared.error.AssetFault.{AssetFault}
use Rattle.asset_pack.specs.Texts.{Image, HasSides, HasSamples}
use Rattle.cart_format.specs.Cartridge.{Cartridge, total}
use Rattle.project_text.specs.declared.error.ProjectErr.{ProjectErr}
use Rattle.project_text.specs.declared.error.ProjectErr.TheVariants as project_errors
use Rattle.project_text.specs.declared.project.Project.{Project}
use Rattle.project_text.specs.ProjectText.{IsProject}
use Rattle.project_text.specs.Reading.{project_of}
use Rattle.c_types.specs.Programs.{ProgramT}
use Rattle.c_front.specs.declared.places.Places.{Places}
use Rattle.c_image.specs.Imaging.{ImageT, IsImageOf}
use Rattle.build_core.specs.declared.error.BuildErr.{BuildErr}
use Rattle.build_core.specs.declared.error.BuildErr.TheVariants as errors
use Rattle.build_core.specs.Checkable.{AreOfOneUnit}
use Rattle.build_core.specs.Due.{assets}
use Rattle.build_core.specs.Build.{cartridge_of}

-- the files of textures and sounds that the text names
abbrev pub assets_in : Result Project ProjectErr → List (List ℕ)
assets_in (Ok p) = p.textures ++ p.sounds
assets_in (Err e) = []

-- all files that it names
abbrev pub files_in : Result Project ProjectErr → List (List ℕ)
files_in (Ok p) = p.source ∷ (p.textures ++ p.sounds)
files_in (Err e) = []

abbrev pub assets_of : List ℕ → List (List ℕ)
assets_of project = assets_in (project_of project)

abbrev pub files_of : List ℕ → List (List ℕ)
files_of project = files_in (project_of project)

-- The refusals that can come: a listed code (`HasSourceCause`) at a place of a source; 90 to 93 at the first faulty line of the
-- project's text; 70 to 73 of a texture or a sound that it names; that a file that it names is missing; and those of
-- the files, of the cartridge's size and of memory.
abbrev pub CanCome : List ℕ → BuildErr → Type 0
CanCome project (errors.Missing name) = Contains (files_of project) name
CanCome project (errors.Bad code name (Some line)) = (name ≡ codes "project") × (project_of project ≡ Err (project_errors.At code line))
CanCome project (errors.Bad code name None) = (70 ≤ code) × (code ≤ 73) × Contains (assets_of project) name
CanCome project e = Unit {0}

-- a cartridge whose textures and sounds are within their own limits has over 268,435,456 bytes
pub record IsTooLarge (c : Cartridge) : Type 0 where
  pub sides : AllByRecursion HasSides c.textures
  pub samples : AllByRecursion HasSamples c.sounds
  pub large : 268435456 < total c

-- The cartridge of a project can be too large: with an image of the program of one unit and some textures and sounds, one for each that the project
-- names.
pub record CanBeTooLarge (project : List ℕ) : Type 0 where
  pub parts : Project
  pub project_is : IsProject project parts
  pub program : ProgramT
  pub places : Places
  pub starts : List ℕ
  pub of_unit : ∥ AreOfOneUnit program places starts ∥₁
  pub image : ImageT
  pub image_is : IsImageOf program places starts image
  pub textures : List Image
  pub sounds : List (List ℕ)
  pub each_texture : length textures ≡ length parts.textures
  pub each_sound : length sounds ≡ length parts.sounds
  pub large : IsTooLarge (cartridge_of parts.title image (assets textures sounds))

-- a refusal of the files comes only where its count rose, that of a size also where it was too large
abbrev pub Cause : {T : Type 0} → (List ℕ → Type 0) → Result T BuildErr → (before after : Counts) → Type 0
Cause TooLarge (Err (errors.Source code file line)) before after = HasSourceCause code before after
Cause TooLarge (Err (errors.Missing name)) before after = Rose before.misses after.misses
Cause TooLarge (Err (errors.Failed name)) before after = Rose before.faults after.faults
Cause TooLarge (Err (errors.Limit name)) before after = Rose before.overs after.overs ⊎ TooLarge name
Cause TooLarge r before after = Unit {0}

-- no count falls, and each refusal of the files has its cause
pub record HasCausesOr {T : Type 0} (TooLarge : List ℕ → Type 0) (r : Result T BuildErr) (before after : Counts) : Type 0 where
  pub faults_later : before.faults ≤ after.faults
  pub misses_later : before.misses ≤ after.misses
  pub overs_later : before.overs ≤ after.overs
  pub cause : Cause TooLarge r before after

-- what is too large is called the cartridge
abbrev pub IsCartridgeTooLarge : List ℕ → List ℕ → Type 0
IsCartridgeTooLarge project name = (name ≡ codes "cartridge") × CanBeTooLarge project

-- the causes of a build, and those of its reads
abbrev pub HasCauses : {T : Type 0} → List ℕ → Result T BuildErr → (before after : Counts) → Type 0
HasCauses project r before after = HasCausesOr (IsCartridgeTooLarge project) r before after

abbrev pub HasReadCauses : {T : Type 0} → Result T BuildErr → (before after : Counts) → Type 0
HasReadCauses r before after = HasCausesOr (λ name. ⊥) r before after

-- the refusals of reading a file, of a texture or a sound, of several, and of packing
abbrev pub IsOfReading : List ℕ → BuildErr → Type 0
IsOfReading file (errors.Missing name) = name ≡ file
IsOfReading file (errors.Failed name) = name ≡ file
IsOfReading file (errors.Limit name) = name ≡ file
IsOfReading file errors.Memory = Unit {0}
IsOfReading file e = ⊥

-- a refusal of what a file beside the sources says, or of memory
abbrev pub IsOfContent : BuildErr → Type 0
IsOfContent (errors.Source code file line) = ⊥
IsOfContent (errors.Missing name) = ⊥
IsOfContent (errors.Failed name) = ⊥
IsOfContent (errors.Limit name) = ⊥
IsOfContent e = Unit {0}

-- the codes of the tests of a texture or a sound
abbrev pub IsTested : AssetFault → Type 0
IsTested fault = (70 ≤ fault.code) × (fault.code ≤ 73)

abbrev pub IsOfTesting : Failure AssetFault → Type 0
IsOfTesting failures.Memory = Unit {0}
IsOfTesting (failures.Cause fault) = IsTested fault

abbrev pub IsOfAsset : List ℕ → BuildErr → Type 0
IsOfAsset file (errors.Bad code name None) = (70 ≤ code) × (code ≤ 73) × (name ≡ file)
IsOfAsset file e = IsOfReading file e

abbrev pub IsOfAssets : List (List ℕ) → BuildErr → Type 0
IsOfAssets files (errors.Source code file line) = ⊥
IsOfAssets files (errors.Bad code name (Some line)) = ⊥
IsOfAssets files (errors.Bad code name None) = (70 ≤ code) × (code ≤ 73) × Contains files name
IsOfAssets files (errors.Missing name) = Contains files name
IsOfAssets files (errors.Failed name) = Contains files name
IsOfAssets files (errors.Limit name) = Contains files name
IsOfAssets files errors.Memory = Unit {0}

-- The refusals of what is built of a checked source: of the textures and sounds that the project names, of the cartridge's size, and of memory.
abbrev pub IsOfBuilding : List ℕ → BuildErr → Type 0
IsOfBuilding project (errors.Source code file line) = ⊥
IsOfBuilding project (errors.Bad code name (Some line)) = ⊥
IsOfBuilding project (errors.Bad code name None) = (70 ≤ code) × (code ≤ 73) × Contains (assets_of project) name
IsOfBuilding project (errors.Missing name) = Contains (assets_of project) name
IsOfBuilding project (errors.Failed name) = Contains (assets_of project) name
IsOfBuilding project (errors.Limit name) = Contains (assets_of project) name ⊎ (name ≡ codes "cartridge")
IsOfBuilding project errors.Memory = Unit {0}

abbrev pub IsOfPacking : Cartridge → BuildErr → Type 0
IsOfPacking c (errors.Limit name) = (name ≡ codes "cartridge") × IsTooLarge c
IsOfPacking c errors.Memory = Unit {0}
IsOfPacking c e = ⊥
