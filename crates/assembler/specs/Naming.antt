-- The labels that items name.
use Rattle.std.specs.Prelude.{ℕ, List, Bool, true, Option, Some, None, option_and_then}
use Rattle.std.specs.Option.{option_map_or}
use Rattle.either.specs.Either.{right}
use Rattle.v32_isa.specs.declared.instruction.Src.{Src}
use Rattle.v32_isa.specs.declared.instruction.Src.TheVariants as src
use Rattle.v32_isa.specs.declared.instruction.Mov.{Mov}
use Rattle.v32_isa.specs.declared.instruction.Mov.TheVariants.{RegImm, RegReg, RegAt, RegAtReg, RegAtOff, AtReg, AtRegReg, AtOffReg}
use Rattle.v32_isa.specs.declared.instruction.Instr.{Instr}
use Rattle.v32_isa.specs.declared.instruction.Instr.TheVariants as instr
use Rattle.asm_items.specs.declared.item.AsmItem.{AsmItem}
use Rattle.asm_items.specs.declared.item.AsmItem.TheVariants.{Label, Op, Integer, Pointer}
use Rattle.assembler.specs.Labels.{has_label}

-- the immediate of an instruction, where it has one
abbrev pub src_immediate : {I : Type 0} → Src I → Option I
src_immediate (src.Imm i) = Some i
src_immediate (src.Reg b) = None

abbrev pub mov_immediate : {I : Type 0} → Mov I → Option I
mov_immediate (RegImm a i) = Some i
mov_immediate (RegReg a b) = None
mov_immediate (RegAt a i) = Some i
mov_immediate (RegAtReg a b) = None
mov_immediate (RegAtOff a b i) = Some i
mov_immediate (AtReg i b) = Some i
mov_immediate (AtRegReg a b) = None
mov_immediate (AtOffReg a i b) = Some i

abbrev pub immediate : {I : Type 0} → Instr I → Option I
immediate (instr.Plain p) = None
immediate (instr.Go g s) = src_immediate s
immediate (instr.Branch b a s) = src_immediate s
immediate (instr.Two t a s) = src_immediate s
immediate (instr.One o a) = None
immediate (instr.Mov m) = mov_immediate m
immediate (instr.Lea a b i) = i
immediate (instr.In a p) = None
immediate (instr.Out p s) = src_immediate s

-- the label whose address an item takes
abbrev pub named_in : AsmItem → Option (List ℕ)
named_in (Label name) = None
named_in (Op i) = option_and_then right (immediate i)
named_in (Integer w) = None
named_in (Pointer name) = Some name

-- it takes none, or one of these
abbrev pub is_known : List (List ℕ × ℕ) → AsmItem → Bool
is_known labels item = option_map_or (has_label labels) (named_in item) true
