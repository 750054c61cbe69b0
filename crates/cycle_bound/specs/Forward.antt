-- Items that only go on: jumps to labels behind them, calls of what has a number.
use Rattle.std.specs.Prelude.{ℕ, ◌≡◌, List, [], ◌∷◌}
use Rattle.v32_isa.specs.declared.instruction.Plain.TheVariants.{RET}
use Rattle.v32_isa.specs.declared.instruction.Instr.TheVariants as instr
use Rattle.asm_items.specs.declared.item.AsmItem.{AsmItem}
use Rattle.asm_items.specs.declared.item.AsmItem.TheVariants.{Label, Op, Integer, Pointer}
use Rattle.asm_laws.specs.Labelled.{HasLabel}
use Rattle.asm_laws.specs.Numbers.{Kind, kind_of, behind}
use Rattle.asm_laws.specs.Numbers.Kind.{Goes, Jumps, Parts, Calls, Returns, Halts, Other}
use Rattle.asm_laws.specs.Longest.{IsLongest}

abbrev pub HasNumber : (items place : List AsmItem) → Type 0
HasNumber items p = (n : ℕ) × IsLongest items p n

-- an instruction before these items
abbrev pub StepsOn : (items : List AsmItem) → Kind → List AsmItem → Type 0
StepsOn items Goes is = Unit {0}
StepsOn items (Jumps l) is = HasLabel is l
StepsOn items (Parts l) is = HasLabel is l
StepsOn items (Calls l) is = HasNumber items (behind items l)
StepsOn items Returns is = Unit {0}
StepsOn items Halts is = Unit {0}
StepsOn items Other is = ⊥

abbrev pub GoesOn : (items : List AsmItem) → AsmItem → List AsmItem → Type 0
GoesOn items (Label name) is = Unit {0}
GoesOn items (Op i) is = StepsOn items (kind_of i) is
GoesOn items (Integer w) is = ⊥
GoesOn items (Pointer name) is = ⊥

abbrev pub AllGoOn : (items own : List AsmItem) → Type 0
AllGoOn items [] = Unit {0}
AllGoOn items (item ∷ is) = GoesOn items item is × AllGoOn items is

abbrev pub EndsInReturn : List AsmItem → Type 0
EndsInReturn [] = ⊥
EndsInReturn (item ∷ []) = item ≡ Op (instr.Plain RET)
EndsInReturn (item ∷ next ∷ is) = EndsInReturn (next ∷ is)
