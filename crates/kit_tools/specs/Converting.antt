-- What is made of a file: a cartridge in its second revision, the words of an assembly text, the text of words.
use Rattle.std.specs.Prelude.{ℕ, List, Option, Some, None, Result, Ok, Err, ◌≡◌, []}
use Rattle.kit_base.specs.Held.{Held}
use Rattle.asset_pack.specs.declared.kind.Kind.TheVariants as kinds
use Rattle.asset_pack.specs.declared.error.AssetFault.{AssetFault}
use Rattle.asset_pack.specs.Reading.{words_in}
use Rattle.asset_pack.specs.Texts.{words_file_text}
use Rattle.asm_items.specs.declared.item.AsmItem.{AsmItem}
use Rattle.asm_items.specs.Disassembled.{disassembled}
use Rattle.asm_items.specs.Words.{words_of_items}
use Rattle.asm_items.specs.Written.{written}
use Rattle.asm_reader.specs.declared.error.AsmFault.{AsmFault}
use Rattle.asm_reader.specs.Reading.{read}
use Rattle.assembler.specs.Faults.{fault_of}
use Rattle.assembler.specs.Labels.{address_in}
use Rattle.assembler.specs.Placed.{labels_of}
use Rattle.cart_format.specs.Cartridge.{cart_text}
use Rattle.kit_words.specs.declared.conversion.Conversion.{Conversion}
use Rattle.kit_words.specs.declared.conversion.Conversion.TheVariants.{Migrate, Assemble, Disassemble}
use Rattle.kit_tools.specs.Refusal.{Refusal}
use Rattle.kit_tools.specs.declared.refusal.RefusalCause.TheVariants as refusals
use Rattle.kit_tools.specs.declared.refusal.DueRefusal.TheVariants as dues
use Rattle.kit_tools.specs.Inputs.{◌>>=◌, or_refused, bytes_due, cart_due}
use Rattle.kit_tools.specs.Migration.{second_due, IsLong}
use Rattle.kit_base.specs.Effects.{written_file}
use Rattle.kit_base.specs.declared.failure.Failure.TheVariants as failures
use Rattle.kit_tools.specs.Work.{Work}

-- the bytes of the cartridge in its second revision
abbrev pub migrated_due : List ℕ → Held → Result (List ℕ) Refusal
migrated_due cart held = do
  read ← cart_due cart held
  second ← second_due read
  Ok (cart_text second)

-- the refusal of a text that is no assembly, by its code and its first faulty line or item
abbrev pub no_assembly : List ℕ → AsmFault → Refusal
no_assembly text fault = failures.Cause (refusals.Due (dues.Bad fault.code text (Some fault.at)))

-- the words of the items, or the first faulty item
abbrev pub placed_unless : List ℕ → List AsmItem → Option AsmFault → Result (List ℕ) Refusal
placed_unless text items None = Ok (words_of_items (address_in (labels_of items)) items)
placed_unless text items (Some fault) = Err (no_assembly text fault)

-- the words of an assembly text of that name
abbrev pub text_words_due : List ℕ → (bytes : List ℕ) → Result (List ℕ) Refusal
text_words_due text bytes = do
  items ← or_refused (no_assembly text) (read bytes)
  placed_unless text items (fault_of items)

-- the words file of what the text's items are placed as
abbrev pub assembled_due : List ℕ → Held → Result (List ℕ) Refusal
assembled_due text held = do
  bytes ← bytes_due text held
  words ← text_words_due text bytes
  Ok (words_file_text words)

-- the refusal of a file that is no words file
abbrev pub no_words : List ℕ → AssetFault → Refusal
no_words name fault = failures.Cause (refusals.Due (dues.Bad fault.code name None))

-- the text of the items that the words are taken apart into
abbrev pub disassembled_due : List ℕ → Held → Result (List ℕ) Refusal
disassembled_due words held = do
  bytes ← bytes_due words held
  list ← or_refused (no_words words) (words_in kinds.Words bytes)
  Ok (written (disassembled list))

abbrev pub made_due : Conversion → List ℕ → Held → Result (List ℕ) Refusal
made_due Migrate cart held = migrated_due cart held
made_due Assemble text held = assembled_due text held
made_due Disassemble words held = disassembled_due words held

-- the bytes that are made of a file, created and then appended
abbrev pub convert_due : Conversion → (source target : List ℕ) → Held → Result Work Refusal
convert_due conversion source target held = do
  bytes ← made_due conversion source held
  Ok (record { effects = written_file target bytes; text = []; status = 0 })

-- a migration of such a file
pub record ConvertsLong (conversion : Conversion) (source : List ℕ) (held : Option Held) : Type 0 where
  pub is_migration : conversion ≡ Migrate
  pub long : IsLong source held
