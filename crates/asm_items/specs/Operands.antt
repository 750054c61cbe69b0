-- The operands of each instruction, as they are written (the assembly guide, sections on the instructions).
use Rattle.std.specs.Prelude.{ℕ, List, [], ◌∷◌, Some, None}
use Rattle.v32_isa.specs.declared.instruction.Src.{Src}
use Rattle.v32_isa.specs.declared.instruction.Src.TheVariants as src
use Rattle.v32_isa.specs.declared.instruction.Mov.{Mov}
use Rattle.v32_isa.specs.declared.instruction.Mov.TheVariants.{RegImm, RegReg, RegAt, RegAtReg, RegAtOff, AtReg, AtRegReg, AtOffReg}
use Rattle.v32_isa.specs.declared.instruction.Instr.{Instr}
use Rattle.v32_isa.specs.declared.instruction.Instr.TheVariants as instr
use Rattle.asm_items.specs.Items.{Imm}

-- `A`, `i`, `[B]`, `[i]`, `[B+i]`, and a port
pub data Operand : Type 0 where
  Register : ℕ → Operand
  Immediate : Imm → Operand
  AtRegister : ℕ → Operand
  AtImmediate : Imm → Operand
  AtOffset : ℕ → Imm → Operand
  AtPort : ℕ → Operand

abbrev pub src_operand : Src Imm → Operand
src_operand (src.Imm i) = Immediate i
src_operand (src.Reg b) = Register b

abbrev pub mov_operands : Mov Imm → List Operand
mov_operands (RegImm a i) = Register a ∷ Immediate i ∷ []
mov_operands (RegReg a b) = Register a ∷ Register b ∷ []
mov_operands (RegAt a i) = Register a ∷ AtImmediate i ∷ []
mov_operands (RegAtReg a b) = Register a ∷ AtRegister b ∷ []
mov_operands (RegAtOff a b i) = Register a ∷ AtOffset b i ∷ []
mov_operands (AtReg i b) = AtImmediate i ∷ Register b ∷ []
mov_operands (AtRegReg a b) = AtRegister a ∷ Register b ∷ []
mov_operands (AtOffReg a i b) = AtOffset a i ∷ Register b ∷ []

abbrev pub operands : Instr Imm → List Operand
operands (instr.Plain p) = []
operands (instr.Go g s) = src_operand s ∷ []
operands (instr.Branch b a s) = Register a ∷ src_operand s ∷ []
operands (instr.Two t a s) = Register a ∷ src_operand s ∷ []
operands (instr.One o a) = Register a ∷ []
operands (instr.Mov m) = mov_operands m
operands (instr.Lea a b None) = Register a ∷ AtRegister b ∷ []
operands (instr.Lea a b (Some i)) = Register a ∷ AtOffset b i ∷ []
operands (instr.In a p) = Register a ∷ AtPort p ∷ []
operands (instr.Out p s) = AtPort p ∷ src_operand s ∷ []
