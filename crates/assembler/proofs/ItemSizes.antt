-- The sizes of items.
use Rattle.std.proofs.Common.{◌≡◌, ℕ, cond, List, length, refl}
use Rattle.std.specs.Prelude.{Some, None, is_some}
use Rattle.v32_isa.specs.Table.{spelling}
use Rattle.v32_isa.specs.declared.instruction.Src.TheVariants as src
use Rattle.v32_isa.specs.declared.instruction.Mov.TheVariants.{RegImm, RegReg, RegAt, RegAtReg, RegAtOff, AtReg, AtRegReg, AtOffReg}
use Rattle.v32_isa.specs.declared.instruction.Instr.{Instr}
use Rattle.v32_isa.specs.declared.instruction.Instr.TheVariants as instr
use Rattle.asm_items.specs.Items.{Imm, instr_with}
use Rattle.asm_items.specs.Words.{imm_word}
use Rattle.assembler.specs.Naming.{immediate}

abbrev pub Sized : (List ℕ → ℕ) → Instr Imm → Type 0
Sized address i = length (spelling (instr_with (imm_word address) i)) ≡ cond (is_some (immediate i)) 2 1

-- a second word where there is an immediate
pub op_size : (address : List ℕ → ℕ) (i : Instr Imm) → Sized address i
op_size address (instr.Plain p) = refl
op_size address (instr.Go g (src.Imm i)) = refl
op_size address (instr.Go g (src.Reg b)) = refl
op_size address (instr.Branch t a (src.Imm i)) = refl
op_size address (instr.Branch t a (src.Reg b)) = refl
op_size address (instr.Two t a (src.Imm i)) = refl
op_size address (instr.Two t a (src.Reg b)) = refl
op_size address (instr.One o a) = refl
op_size address (instr.Mov (RegImm a i)) = refl
op_size address (instr.Mov (RegReg a b)) = refl
op_size address (instr.Mov (RegAt a i)) = refl
op_size address (instr.Mov (RegAtReg a b)) = refl
op_size address (instr.Mov (RegAtOff a b i)) = refl
op_size address (instr.Mov (AtReg i b)) = refl
op_size address (instr.Mov (AtRegReg a b)) = refl
op_size address (instr.Mov (AtOffReg a i b)) = refl
op_size address (instr.Lea a b None) = refl
op_size address (instr.Lea a b (Some i)) = refl
op_size address (instr.In a p) = refl
op_size address (instr.Out p (src.Imm i)) = refl
op_size address (instr.Out p (src.Reg b)) = refl
