-- How many instructions there are on the longest path from a place among items to the end of its function, those of called functions counted.
use Rattle.std.specs.Prelude.{ℕ, suc, ◌≡◌, ◌+◌, ◌≤◌, ◌⊎◌, List, [], ◌∷◌, bytes_eq, if◌then◌else◌}
use Rattle.either.specs.declared.Either.TheVariants.{Left, Right}
use Rattle.v32_isa.specs.declared.instruction.Plain.TheVariants.{HLT, WAIT, RET, MOVS, SETS}
use Rattle.v32_isa.specs.declared.instruction.Go.TheVariants.{JMP, CALL}
use Rattle.v32_isa.specs.declared.instruction.One.TheVariants.{PUSH, POP, CMPS, CIB, NOT, BNOT, ISGN, IABS}
use Rattle.v32_isa.specs.declared.instruction.Src.TheVariants as src
use Rattle.v32_isa.specs.declared.instruction.Instr.{Instr}
use Rattle.v32_isa.specs.declared.instruction.Instr.TheVariants as instr
use Rattle.v32_isa.specs.Table.{Fits}
use Rattle.asm_items.specs.declared.item.AsmItem.{AsmItem}
use Rattle.asm_items.specs.declared.item.AsmItem.TheVariants.{Label, Op, Integer, Pointer}
use Rattle.asm_items.specs.Items.{Imm, instr_with}
use Rattle.asm_items.specs.Words.{imm_word}

-- where an instruction goes on
pub data Kind : Type 0 where
  Goes : Kind
  Jumps : List ℕ → Kind
  Parts : List ℕ → Kind
  Calls : List ℕ → Kind
  Returns : Kind
  Halts : Kind
  Other : Kind

abbrev pub kind_of : Instr Imm → Kind
kind_of (instr.Plain HLT) = Halts
kind_of (instr.Plain WAIT) = Goes
kind_of (instr.Plain RET) = Returns
kind_of (instr.Plain MOVS) = Other
kind_of (instr.Plain SETS) = Other
kind_of (instr.Go JMP (src.Imm (Left w))) = Other
kind_of (instr.Go JMP (src.Imm (Right l))) = Jumps l
kind_of (instr.Go JMP (src.Reg r)) = Other
kind_of (instr.Go CALL (src.Imm (Left w))) = Other
kind_of (instr.Go CALL (src.Imm (Right l))) = Calls l
kind_of (instr.Go CALL (src.Reg r)) = Other
kind_of (instr.Branch b a (src.Imm (Left w))) = Other
kind_of (instr.Branch b a (src.Imm (Right l))) = Parts l
kind_of (instr.Branch b a (src.Reg r)) = Other
kind_of (instr.Two t a x) = Goes
kind_of (instr.One PUSH a) = Goes
kind_of (instr.One POP a) = Goes
kind_of (instr.One CMPS a) = Other
kind_of (instr.One CIB a) = Goes
kind_of (instr.One NOT a) = Goes
kind_of (instr.One BNOT a) = Goes
kind_of (instr.One ISGN a) = Goes
kind_of (instr.One IABS a) = Goes
kind_of (instr.Mov m) = Goes
kind_of (instr.Lea a b i) = Goes
kind_of (instr.In a p) = Goes
kind_of (instr.Out p x) = Goes

-- the items behind a label
abbrev pub behind : List AsmItem → List ℕ → List AsmItem
behind [] l = []
behind (Label name ∷ items) l = if bytes_eq l name then items else behind items l
behind (Op i ∷ items) l = behind items l
behind (Integer w ∷ items) l = behind items l
behind (Pointer name ∷ items) l = behind items l

-- the number of a place, which is what is left of the items
pub data Number (items : List AsmItem) : List AsmItem → ℕ → Type 0 where
  at_mark : (name : List ℕ) (rest : List AsmItem) (n : ℕ) → Number items rest n → Number items (Label name ∷ rest) n
  at_goes : (i : Instr Imm) (rest : List AsmItem) (n : ℕ) → kind_of i ≡ Goes → Number items rest n → Number items (Op i ∷ rest) (suc n)
  at_jump : (i : Instr Imm) (l : List ℕ) (rest : List AsmItem) (n : ℕ) → kind_of i ≡ Jumps l → Number items (behind items l) n
      → Number items (Op i ∷ rest) (suc n)
  at_parts : (i : Instr Imm) (l : List ℕ) (rest : List AsmItem) (m k n : ℕ) → kind_of i ≡ Parts l → Number items rest m
      → Number items (behind items l) k → m ≤ n → k ≤ n → (n ≡ m) ⊎ (n ≡ k) → Number items (Op i ∷ rest) (suc n)
  at_call : (i : Instr Imm) (l : List ℕ) (rest : List AsmItem) (m n : ℕ) → kind_of i ≡ Calls l → Number items (behind items l) m → Number items rest n
      → Number items (Op i ∷ rest) (suc (m + n))
  at_return : (i : Instr Imm) (rest : List AsmItem) → kind_of i ≡ Returns → Number items (Op i ∷ rest) 1
  at_halt : (i : Instr Imm) (rest : List AsmItem) → kind_of i ≡ Halts → Number items (Op i ∷ rest) 1

-- each instruction has its form
abbrev pub AllFit : (List ℕ → ℕ) → List AsmItem → Type 0
AllFit address [] = Unit {0}
AllFit address (Label name ∷ items) = AllFit address items
AllFit address (Op i ∷ items) = Fits (instr_with (imm_word address) i) × AllFit address items
AllFit address (Integer w ∷ items) = AllFit address items
AllFit address (Pointer name ∷ items) = AllFit address items
