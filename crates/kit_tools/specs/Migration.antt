-- A cartridge in its second revision. (The page on files, cartridges and their line tables.)
use Rattle.std.specs.Prelude.{[], nat_lt, Option, Some, None, Result, Ok, Err, if◌then◌else◌, ℕ, ◌≡◌, ◌<◌, List, IfSome}
use Rattle.cart_format.specs.declared.row.LineTable.{LineTable}
use Rattle.cart_format.specs.Cartridge.{Cartridge, total}
use Rattle.kit_tools.specs.Refusal.{Refusal}
use Rattle.kit_tools.specs.declared.refusal.RefusalCause.TheVariants as refusals
use Rattle.kit_tools.specs.declared.refusal.DueRefusal.TheVariants as dues
use Rattle.kit_base.specs.Held.{Held}
use Rattle.kit_base.specs.declared.failure.Failure.TheVariants as failures
use Rattle.kit_tools.specs.Inputs.{cart_due}

abbrev pub table_or_empty : Option LineTable → LineTable
table_or_empty (Some table) = table
table_or_empty None = record { files = []; rows = [] }

-- the same title, program, textures and sounds, with the old line table or an empty one
abbrev pub in_second : Cartridge → Cartridge
in_second cart = record {
  title = cart.title;
  program = cart.program;
  textures = cart.textures;
  sounds = cart.sounds;
  table = Some (table_or_empty cart.table);
}

-- its file is not over the longest one
abbrev pub second_due : Cartridge → Result Cartridge Refusal
second_due cart = if nat_lt 268435456 (total (in_second cart)) then Err (failures.Cause (refusals.Due dues.LongCartridge)) else Ok (in_second cart)

-- the file's cartridge would be too long in its second revision
pub record IsLong (cart : List ℕ) (held : Option Held) : Type 0 where
  pub value : Cartridge
  pub read : IfSome held (λ m. cart_due cart m ≡ Ok value)
  pub over : 268435456 < total (in_second value)
