-- Functions of a program stand in their order, each behind its label.
use Rattle.std.specs.Prelude.{ℕ, ◌≡◌, ◌≤◌, ◌+◌, List, [], ◌∷◌, ◌++◌}
use Rattle.v32_isa.specs.declared.instruction.Instr.{Instr}
use Rattle.asm_items.specs.declared.item.AsmItem.{AsmItem}
use Rattle.asm_items.specs.declared.item.AsmItem.TheVariants.{Label, Op}
use Rattle.asm_items.specs.Items.{Imm}
use Rattle.assembler.specs.Sizes.{total_size}
use Rattle.asm_laws.specs.Labelled.{label_of_function}
use Rattle.c_image.specs.Mapping.{Row}

abbrev pub AreLabels : List AsmItem → Type 0
AreLabels [] = Unit {0}
AreLabels (Label l ∷ items) = AreLabels items
AreLabels (_ ∷ items) = ⊥

-- The labels of functions of these names stand in this order. Behind each only labels stand before an instruction, and the label of the next function stands
-- behind that instruction.
abbrev pub LabelsInOrder : (names : List (List ℕ)) → List AsmItem → Type 0
LabelsInOrder [] items = Unit {0}
LabelsInOrder (name ∷ names) items =
    (before marks rest : List AsmItem) × (i : Instr Imm) × (items ≡ before ++ Label (label_of_function name) ∷ (marks ++ Op i ∷ rest))
    × AreLabels marks × LabelsInOrder names rest

-- ---- what a map tells of them

-- an instruction stands at that address, where the items are placed from 0x20000000 on
abbrev pub IsOfInstruction : List AsmItem → ℕ → Type 0
IsOfInstruction items address =
    (before after : List AsmItem) × (i : Instr Imm) × (items ≡ before ++ Op i ∷ after) × (address ≡ 0x20000000 + total_size before)

-- The addresses of rows rise, from one on, and each is that of an instruction.
abbrev pub RowsRise : List AsmItem → (least : ℕ) → List Row → Type 0
RowsRise items least [] = Unit {0}
RowsRise items least (row ∷ rows) = (least ≤ row.1) × IsOfInstruction items row.1 × RowsRise items (row.1 + 1) rows
