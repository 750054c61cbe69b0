-- The classes of faulty lines, and what is put behind items.
use Rattle.std.specs.Prelude.{◌≡◌, ℕ, List, ◌++◌, Result, Ok, Err}
use Rattle.kit_base.specs.declared.failure.Failure.{Failure}
use Rattle.kit_base.specs.Gives.{Fails}
use Rattle.asm_items.specs.declared.item.AsmItem.{AsmItem}
use Rattle.asm_reader.specs.declared.fault.LineFault.{LineFault}
use Rattle.asm_reader.specs.declared.fault.LineFault.TheVariants.{BadLine, NoSuchForm, FloatInstruction, NumberTooLarge}

abbrev pub code_of : LineFault → ℕ
code_of BadLine = 60
code_of NoSuchForm = 61
code_of FloatInstruction = 62
code_of NumberTooLarge = 63

-- the first fault decides
infixl 10 ◌>>=◌
abbrev pub ◌>>=◌ : {A B : Type 0} → Result A LineFault → (A → Result B LineFault) → Result B LineFault
(Ok x) >>= f = f x
(Err fault) >>= f = Err fault

-- behind those items
abbrev pub onto : {X : Type 0} → List X → Result (List X) LineFault → Result (List X) LineFault
onto before (Ok xs) = Ok (before ++ xs)
onto before (Err fault) = Err fault

-- what was put behind the items is what is due
abbrev pub Puts : List AsmItem → List AsmItem → Result (Unit {0}) (Failure LineFault) → Result (List AsmItem) LineFault → Type 0
Puts before after (Ok done) due = onto before due ≡ Ok after
Puts before after (Err failure) due = Fails failure due
