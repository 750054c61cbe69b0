-- The opcodes of the table.
use Rattle.std.proofs.Common.{◌<◌, ◌≡◌, ℕ, Some, None, refl, arith}
use Rattle.v32_isa.specs.Table.{mov_row, row_of, plain_opcode, go_opcode, branch_opcode, two_opcode, one_opcode}
use Rattle.v32_isa.specs.Decoding.{operation_of}
use Rattle.v32_isa.specs.declared.instruction.Plain.{Plain}
use Rattle.v32_isa.specs.declared.instruction.Plain.TheVariants.{HLT, WAIT, RET, MOVS, SETS}
use Rattle.v32_isa.specs.declared.instruction.Go.{Go}
use Rattle.v32_isa.specs.declared.instruction.Go.TheVariants.{JMP, CALL}
use Rattle.v32_isa.specs.declared.instruction.Branch.{Branch}
use Rattle.v32_isa.specs.declared.instruction.Branch.TheVariants.{JT, JF}
use Rattle.v32_isa.specs.declared.instruction.Two.{Two}
use Rattle.v32_isa.specs.declared.instruction.Two.TheVariants.{IEQ, INE, IGT, IGE, ILT, ILE, AND, OR, XOR, SHL, IADD, ISUB, IMUL, IDIV, IMOD, IMIN, IMAX}
use Rattle.v32_isa.specs.declared.instruction.One.{One}
use Rattle.v32_isa.specs.declared.instruction.One.TheVariants.{PUSH, POP, CMPS, CIB, NOT, BNOT, ISGN, IABS}
use Rattle.v32_isa.specs.declared.instruction.Mov.{Mov}
use Rattle.v32_isa.specs.declared.instruction.Mov.TheVariants.{RegImm, RegReg, RegAt, RegAtReg, RegAtOff, AtReg, AtRegReg, AtOffReg}
use Rattle.v32_isa.specs.declared.instruction.Instr.{Instr}
use Rattle.v32_isa.specs.declared.instruction.Instr.TheVariants as instr
use Rattle.v32_isa.specs.declared.decoding.Operation.TheVariants as operation

-- each opcode is read as its operation
pub operation-plain : (p : Plain) → operation_of (plain_opcode p) ≡ Some (operation.Plain p)
operation-plain = elim [ HLT ↦ refl | WAIT ↦ refl | RET ↦ refl | MOVS ↦ refl | SETS ↦ refl ]

pub operation-go : (g : Go) → operation_of (go_opcode g) ≡ Some (operation.Go g)
operation-go = elim [ JMP ↦ refl | CALL ↦ refl ]

pub operation-branch : (b : Branch) → operation_of (branch_opcode b) ≡ Some (operation.Branch b)
operation-branch = elim [ JT ↦ refl | JF ↦ refl ]

pub operation-two : (t : Two) → operation_of (two_opcode t) ≡ Some (operation.Two t)
operation-two = elim [ IEQ ↦ refl | INE ↦ refl | IGT ↦ refl | IGE ↦ refl | ILT ↦ refl | ILE ↦ refl | AND ↦ refl | OR ↦ refl | XOR ↦ refl | SHL ↦ refl | IADD ↦ refl | ISUB ↦ refl | IMUL ↦ refl | IDIV ↦ refl | IMOD ↦ refl | IMIN ↦ refl | IMAX ↦ refl ]

pub operation-one : (o : One) → operation_of (one_opcode o) ≡ Some (operation.One o)
operation-one = elim [ PUSH ↦ refl | POP ↦ refl | CMPS ↦ refl | CIB ↦ refl | NOT ↦ refl | BNOT ↦ refl | ISGN ↦ refl | IABS ↦ refl ]

mov_fits : (m : Mov ℕ) → ((mov_row m).opcode < 64) × ((mov_row m).mode < 8)
mov_fits (RegImm a i) = omega arith
mov_fits (RegReg a b) = omega arith
mov_fits (RegAt a i) = omega arith
mov_fits (RegAtReg a b) = omega arith
mov_fits (RegAtOff a b i) = omega arith
mov_fits (AtReg i b) = omega arith
mov_fits (AtRegReg a b) = omega arith
mov_fits (AtOffReg a i b) = omega arith

plain_fits : (p : Plain) → plain_opcode p < 64
plain_fits = elim [ HLT ↦ omega arith | WAIT ↦ omega arith | RET ↦ omega arith | MOVS ↦ omega arith | SETS ↦ omega arith ]

go_fits : (g : Go) → go_opcode g < 64
go_fits = elim [ JMP ↦ omega arith | CALL ↦ omega arith ]

branch_fits : (b : Branch) → branch_opcode b < 64
branch_fits = elim [ JT ↦ omega arith | JF ↦ omega arith ]

two_fits : (t : Two) → two_opcode t < 64
two_fits = elim [ IEQ ↦ omega arith | INE ↦ omega arith | IGT ↦ omega arith | IGE ↦ omega arith | ILT ↦ omega arith | ILE ↦ omega arith | AND ↦ omega arith | OR ↦ omega arith | XOR ↦ omega arith | SHL ↦ omega arith | IADD ↦ omega arith | ISUB ↦ omega arith | IMUL ↦ omega arith | IDIV ↦ omega arith | IMOD ↦ omega arith | IMIN ↦ omega arith | IMAX ↦ omega arith ]

one_fits : (t : One) → one_opcode t < 64
one_fits = elim [ PUSH ↦ omega arith | POP ↦ omega arith | CMPS ↦ omega arith | CIB ↦ omega arith | NOT ↦ omega arith | BNOT ↦ omega arith | ISGN ↦ omega arith | IABS ↦ omega arith ]

-- the opcodes and modes of the table fit their fields
pub table_fits : (i : Instr ℕ) → ((row_of i).opcode < 64) × ((row_of i).mode < 8)
table_fits (instr.Plain p) = (plain_fits p, omega arith)
table_fits (instr.Go g s) = (go_fits g, omega arith)
table_fits (instr.Branch g a s) = (branch_fits g, omega arith)
table_fits (instr.Two t a s) = (two_fits t, omega arith)
table_fits (instr.One t a) = (one_fits t, omega arith)
table_fits (instr.Mov m) = mov_fits m
table_fits (instr.Lea a b None) = omega arith
table_fits (instr.Lea a b (Some i)) = omega arith
table_fits (instr.In a p) = omega arith
table_fits (instr.Out p s) = omega arith
