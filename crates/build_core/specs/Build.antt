-- What was built, and why a build is refused.
use Rattle.std.specs.Prelude.{ℕ, ◌≡◌, ◌<◌, List, length, Some, Result, Ok, Err, codes}
use Rattle.std.specs.List.{AllZip}
use Rattle.kit_base.specs.Held.{Held}
use Rattle.kit_base.specs.Outside.{due}
use Rattle.asset_pack.specs.declared.kind.Kind.TheVariants as kinds
use Rattle.asset_pack.specs.Words.{IsBytes}
use Rattle.asset_pack.specs.Texts.{Image, IsTexture, IsSound, texture_text, sound_text}
use Rattle.asset_pack.specs.Reading.{texture_in, words_in}
use Rattle.asm_items.specs.Written.{written}
use Rattle.asm_reader.specs.Reading.{read}
use Rattle.cart_format.specs.Cartridge.{Cartridge, IsCartridge, cart_text, total}
use Rattle.c_tree.specs.View.{unit}
use Rattle.c_types.specs.Programs.{ProgramT}
use Rattle.c_check.specs.Whole.{WellTyped}
use Rattle.c_front.specs.declared.unit.Parsed.{Parsed}
use Rattle.c_front.specs.Due.{IsUnit}
use Rattle.c_front.specs.Over.{over}
use Rattle.project_text.specs.declared.project.Project.{Project}
use Rattle.project_text.specs.ProjectText.{IsProject}
use Rattle.c_image.specs.Imaging.{ImageT, IsImageOf}
use Rattle.build_core.specs.declared.error.BuildErr.{BuildErr}
use Rattle.build_core.specs.declared.error.BuildErr.TheVariants as errors
use Rattle.build_core.specs.declared.building.Built.{Built}
use Rattle.build_core.specs.Due.{Assets, assets, assets_of}
use Rattle.build_core.specs.Checked.{HasProgram, IsRejected}
use Rattle.build_core.specs.Starts.{starts_of}

-- The file of that name is held and has that value: no test of its kind fails, and where it holds
-- bytes they are the texture's text.
pub record IsTextureFile (m : Held) (name : List ℕ) (texture : Image) : Type 0 where
  pub bytes : List ℕ
  pub held : due m name ≡ Ok bytes
  pub tested : texture_in bytes ≡ Ok texture
  pub spelled : IsBytes bytes → IsTexture texture × (bytes ≡ texture_text texture)

-- likewise a sound
pub record IsSoundFile (m : Held) (name : List ℕ) (samples : List ℕ) : Type 0 where
  pub bytes : List ℕ
  pub held : due m name ≡ Ok bytes
  pub tested : words_in kinds.Sound bytes ≡ Ok samples
  pub spelled : IsBytes bytes → IsSound samples × (bytes ≡ sound_text samples)

-- The project's text is of its grammar; its source stands, with the headers laid over the files, for tokens that are a well typed unit; and this is
-- an image of its program.
pub record HasImage (m : Held) (project : List ℕ) : Type 0 where
  pub parts : Project
  pub project_is : IsProject project parts
  pub parsed : Parsed
  pub is_unit : IsUnit (over m) parts.source parsed
  pub program : ProgramT
  pub typed : WellTyped (unit parsed.unit) program
  pub image : ImageT
  pub image_is : IsImageOf program parsed.places (starts_of (unit parsed.unit)) image

-- the cartridge of an image, of the second revision
abbrev pub cartridge_of : (title : List ℕ) → ImageT → Assets → Cartridge
cartridge_of title i a = record { title = title; program = i.words; textures = a.0; sounds = a.1; table = Some i.table }

-- What was built of a project's text, from the files that are held: a cartridge with the project's title, an image of its program, and the textures
-- and sounds in the project's order; the map and the items of this image; and how many tokens its source stands for, with all that it includes.
pub record IsBuilt (m : Held) (project : List ℕ) (b : Built) : Type 0 where
  pub of : HasImage m project
  pub textures : List Image
  pub textures_are : AllZip (IsTextureFile m) of.parts.textures textures
  pub sounds : List (List ℕ)
  pub sounds_are : AllZip (IsSoundFile m) of.parts.sounds sounds
  pub cartridge : IsCartridge (cartridge_of of.parts.title of.image (assets textures sounds))
  pub cart_is : b.cart ≡ cart_text (cartridge_of of.parts.title of.image (assets textures sounds))
  pub map_is : b.map ≡ of.image.map
  pub items_are : b.items ≡ of.image.items
  pub tokens_are : b.tokens ≡ length of.parsed.places.tokens

-- The input of a build is refused: the project's text or its source, as by a check; or, where they are accepted, a texture or a sound.
pub data HasNoParts (m : Held) (project : List ℕ) (e : BuildErr) : Type 0 where
  rejected : IsRejected m project e → HasNoParts m project e
  no_assets : (parts : Project) (p : ProgramT) → IsProject project parts → HasProgram m parts.source p → assets_of m parts ≡ Err e → HasNoParts m project e

-- So is its cartridge, where it has over 268,435,456 bytes.
pub data IsUnbuilt (m : Held) (project : List ℕ) (e : BuildErr) : Type 0 where
  no_parts : HasNoParts m project e → IsUnbuilt m project e
  too_large : (of : HasImage m project) (a : Assets) → assets_of m of.parts ≡ Ok a → 268435456 < total (cartridge_of of.parts.title of.image a)
      → e ≡ errors.Limit (codes "cartridge") → IsUnbuilt m project e

-- The answer is one that is due, unless a call of the files failed or memory ran out.
abbrev pub Builds : Held → List ℕ → Result Built BuildErr → Type 0
Builds m project (Ok b) = IsBuilt m project b
Builds m project (Err errors.Memory) = Unit {0}
Builds m project (Err (errors.Failed name)) = Unit {0}
Builds m project (Err e) = IsUnbuilt m project e

-- the written form of the items, the program's assembly text, reads as them
abbrev pub IsAsmText : Built → Type 0
IsAsmText b = read (written b.items) ≡ Ok b.items

-- the bytes are those of a cartridge, which is read from them again
abbrev pub IsCartText : List ℕ → Type 0
IsCartText bytes = (c : Cartridge) × IsCartridge c × (bytes ≡ cart_text c)
