-- At which file a read failed.
use Rattle.std.specs.Prelude.{ℕ, ◌≡◌, ◌⊎◌, List, [], ◌∷◌, Result, Ok, Err}
use Rattle.kit_base.specs.Held.{Held}
use Rattle.asset_pack.specs.Texts.{Image}
use Rattle.c_types.specs.Programs.{ProgramT}
use Rattle.c_front.specs.Over.{over}
use Rattle.c_front.specs.Reached.{IsReadFor}
use Rattle.project_text.specs.declared.project.Project.{Project}
use Rattle.project_text.specs.ProjectText.{IsProject}
use Rattle.build_core.specs.declared.error.BuildErr.{BuildErr}
use Rattle.build_core.specs.declared.error.BuildErr.TheVariants as errors
use Rattle.build_core.specs.Checked.{IsAccepted}
use Rattle.build_core.specs.Due.{all_of, sound_of, texture_of}

-- A file of that name is read to check the project: its source, or one that the source includes.
pub record IsReadToCheck (m : Held) (project name : List ℕ) : Type 0 where
  pub parts : Project
  pub project_is : IsProject project parts
  pub is_read : IsReadFor (over m) parts.source name

-- The files of these names are read in their order, and this is one of them: the first, or one behind it once the first was read and is of its
-- grammar.
unfoldable pub IsOneRead : {X : Type 0} → (one : List ℕ → Result X BuildErr) → (names : List (List ℕ)) → (name : List ℕ) → Type 0
IsOneRead one [] name = ⊥
IsOneRead {X = X} one (first ∷ names) name = (name ≡ first) ⊎ ((x : X) × (one first ≡ Ok x) × IsOneRead one names name)

-- A texture, or a sound once all textures were read and are of their grammar.
pub data IsAssetRead (m : Held) (parts : Project) (name : List ℕ) : Type 0 where
  reads_texture : IsOneRead (texture_of m) parts.textures name → IsAssetRead m parts name
  reads_sound : (textures : List Image) → all_of (texture_of m) parts.textures ≡ Ok textures → IsOneRead (sound_of m) parts.sounds name
      → IsAssetRead m parts name

-- A file of that name is read beside the project's source.
pub record IsReadBeside (m : Held) (project name : List ℕ) : Type 0 where
  pub parts : Project
  pub project_is : IsProject project parts
  pub is_read : IsAssetRead m parts name

-- A file of that name is read to build the project: its source, or one that the source includes; or one beside it, once the source has a program.
pub data IsReadToBuild (m : Held) (project name : List ℕ) : Type 0 where
  reads_source : IsReadToCheck m project name → IsReadToBuild m project name
  reads_beside : (p : ProgramT) → IsAccepted m project p → IsReadBeside m project name → IsReadToBuild m project name

-- where the system failed, it was at one of these files
abbrev pub FailsAt : {T : Type 0} → (List ℕ → Type 0) → Result T BuildErr → Type 0
FailsAt AreRead (Err (errors.Failed name)) = AreRead name
FailsAt AreRead _ = Unit {0}
