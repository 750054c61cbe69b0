-- The value of a file by the places of its fields, where no test fails.
use Rattle.std.specs.Prelude.{ℕ, ◌*◌, List, take, drop, Option, Some, None, Result, Ok, Err}
use Rattle.asset_pack.specs.declared.kind.Kind.{Kind}
use Rattle.asset_pack.specs.declared.kind.Kind.TheVariants as kinds
use Rattle.asset_pack.specs.declared.error.AssetFault.{AssetFault}
use Rattle.asset_pack.specs.Words.{word_at, words_of}
use Rattle.asset_pack.specs.Texts.{Image}
use Rattle.asset_pack.specs.Tests.{head, count, size, front_fault, file_fault}

-- the value, where no test fails
abbrev pub unless : {A : Type 0} → Option AssetFault → A → Result A AssetFault
unless None x = Ok x
unless (Some e) x = Err e

-- the words behind the sizes
unfoldable pub body : Kind → List ℕ → List ℕ
body kind bytes = words_of (take (4 * count kind bytes) (drop (head kind) bytes))

abbrev pub texture_of : List ℕ → Image
texture_of bytes = record { width = word_at 8 bytes; height = word_at 12 bytes; pixels = body kinds.Texture bytes }

-- what stands at the front, and the bytes after it
unfoldable pub words_at : Kind → List ℕ → Result (List ℕ × List ℕ) AssetFault
words_at kind bytes = unless (front_fault kind bytes) (body kind bytes, drop (size kind bytes) bytes)

unfoldable pub texture_at : List ℕ → Result (Image × List ℕ) AssetFault
texture_at bytes = unless (front_fault kinds.Texture bytes) (texture_of bytes, drop (size kinds.Texture bytes) bytes)

-- what a whole file is
unfoldable pub words_in : Kind → List ℕ → Result (List ℕ) AssetFault
words_in kind bytes = unless (file_fault kind bytes) (body kind bytes)

unfoldable pub texture_in : List ℕ → Result Image AssetFault
texture_in bytes = unless (file_fault kinds.Texture bytes) (texture_of bytes)
