-- The words of an assembly text, and why it has none.
use Rattle.std.specs.Prelude.{ℕ, ◌≡◌, ◌⊎◌, List, Some, None, Ok, Err}
use Rattle.asm_items.specs.declared.item.AsmItem.{AsmItem}
use Rattle.asm_items.specs.Words.{words_of_items}
use Rattle.asm_reader.specs.Reading.{read}
use Rattle.asm_reader.specs.declared.error.AsmFault.{AsmFault}
use Rattle.assembler.specs.Faults.{fault_of}
use Rattle.assembler.specs.Labels.{address_in}
use Rattle.assembler.specs.Placed.{labels_of}

-- The text reads as items without a fault, and these are their words, each label being its address.
pub record AreWordsOf (text words : List ℕ) : Type 0 where
  pub items : List AsmItem
  pub reads : read text ≡ Ok items
  pub faultless : fault_of items ≡ None
  pub words_are : words ≡ words_of_items (address_in (labels_of items)) items

-- The text does not read as items, with the code and the number of its first faulty line; or these have a fault, with the code and the number of the
-- first faulty item.
abbrev pub IsTextRefusal : List ℕ → AsmFault → Type 0
IsTextRefusal text fault = (read text ≡ Err fault) ⊎ ((items : List AsmItem) × (read text ≡ Ok items) × (fault_of items ≡ Some fault))
