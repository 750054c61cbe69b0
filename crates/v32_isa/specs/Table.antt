-- The table of instruction forms: the words that spell each instruction (the system specification and the
-- assembly guide, sections on the instructions; the opcode numbers are this project's choice).
use Rattle.std.specs.Prelude.{ℕ, ◌≡◌, ◌<◌, List, ◌∷◌, ◌++◌, Option, Some, None, option_to_list}
use Rattle.v32_isa.specs.Fields.{word_of}
use Rattle.v32_isa.specs.declared.instruction.Plain.{Plain}
use Rattle.v32_isa.specs.declared.instruction.Plain.TheVariants.{HLT, WAIT, RET, MOVS, SETS}
use Rattle.v32_isa.specs.declared.instruction.Go.{Go}
use Rattle.v32_isa.specs.declared.instruction.Go.TheVariants.{JMP, CALL}
use Rattle.v32_isa.specs.declared.instruction.Branch.{Branch}
use Rattle.v32_isa.specs.declared.instruction.Branch.TheVariants.{JT, JF}
use Rattle.v32_isa.specs.declared.instruction.Two.{Two}
use Rattle.v32_isa.specs.declared.instruction.Two.TheVariants.{IEQ, INE, IGT, IGE, ILT, ILE, AND, OR, XOR, SHL, IADD, ISUB, IMUL, IDIV, IMOD, IMIN, IMAX}
use Rattle.v32_isa.specs.declared.instruction.One.{One}
use Rattle.v32_isa.specs.declared.instruction.One.TheVariants.{PUSH, POP, CMPS, CIB, NOT, BNOT, ISGN, IABS}
use Rattle.v32_isa.specs.declared.instruction.Src.{Src}
use Rattle.v32_isa.specs.declared.instruction.Src.TheVariants as src
use Rattle.v32_isa.specs.declared.instruction.Mov.{Mov}
use Rattle.v32_isa.specs.declared.instruction.Mov.TheVariants.{RegImm, RegReg, RegAt, RegAtReg, RegAtOff, AtReg, AtRegReg, AtOffReg}
use Rattle.v32_isa.specs.declared.instruction.Instr.{Instr}
use Rattle.v32_isa.specs.declared.instruction.Instr.TheVariants as instr

-- the opcodes
abbrev pub plain_opcode : Plain → ℕ
plain_opcode HLT = 0x00
plain_opcode WAIT = 0x01
plain_opcode RET = 0x04
plain_opcode MOVS = 0x19
plain_opcode SETS = 0x1A

abbrev pub go_opcode : Go → ℕ
go_opcode JMP = 0x02
go_opcode CALL = 0x03

abbrev pub branch_opcode : Branch → ℕ
branch_opcode JT = 0x05
branch_opcode JF = 0x06

abbrev pub two_opcode : Two → ℕ
two_opcode IEQ = 0x07
two_opcode INE = 0x08
two_opcode IGT = 0x09
two_opcode IGE = 0x0A
two_opcode ILT = 0x0B
two_opcode ILE = 0x0C
two_opcode AND = 0x21
two_opcode OR = 0x22
two_opcode XOR = 0x23
two_opcode SHL = 0x25
two_opcode IADD = 0x26
two_opcode ISUB = 0x27
two_opcode IMUL = 0x28
two_opcode IDIV = 0x29
two_opcode IMOD = 0x2A
two_opcode IMIN = 0x2C
two_opcode IMAX = 0x2D

abbrev pub one_opcode : One → ℕ
one_opcode PUSH = 0x15
one_opcode POP = 0x16
one_opcode CMPS = 0x1B
one_opcode CIB = 0x1E
one_opcode NOT = 0x20
one_opcode BNOT = 0x24
one_opcode ISGN = 0x2B
one_opcode IABS = 0x2E

-- the flag is set where an immediate word follows
abbrev pub flag_of : Option ℕ → ℕ
flag_of None = 0
flag_of (Some i) = 1

-- the parts of a form's words, with 0 for each field that the form does not use
pub record Row : Type 0 where
  pub opcode : ℕ
  pub one : ℕ
  pub two : ℕ
  pub mode : ℕ
  pub port : ℕ
  pub immediate : Option ℕ

abbrev pub row : ℕ → ℕ → ℕ → ℕ → ℕ → Option ℕ → Row
row o a b m p i = record { opcode = o; one = a; two = b; mode = m; port = p; immediate = i }

-- an operand is a register field or the immediate
abbrev pub src_register : Src ℕ → ℕ
src_register (src.Imm i) = 0
src_register (src.Reg b) = b

abbrev pub src_immediate : Src ℕ → Option ℕ
src_immediate (src.Imm i) = Some i
src_immediate (src.Reg b) = None

-- the forms of MOV differ in their mode
abbrev pub mov_row : Mov ℕ → Row
mov_row (RegImm a i) = row 0x13 a 0 0 0 (Some i)
mov_row (RegReg a b) = row 0x13 a b 1 0 None
mov_row (RegAt a i) = row 0x13 a 0 2 0 (Some i)
mov_row (RegAtReg a b) = row 0x13 a b 3 0 None
mov_row (RegAtOff a b i) = row 0x13 a b 4 0 (Some i)
mov_row (AtReg i b) = row 0x13 0 b 5 0 (Some i)
mov_row (AtRegReg a b) = row 0x13 a b 6 0 None
mov_row (AtOffReg a i b) = row 0x13 a b 7 0 (Some i)

-- one equation per form: opcode, register one, register two, mode, port, immediate. OUT has its source
-- register in register one
abbrev pub row_of : Instr ℕ → Row
row_of (instr.Plain p) = row (plain_opcode p) 0 0 0 0 None
row_of (instr.Go g s) = row (go_opcode g) (src_register s) 0 0 0 (src_immediate s)
row_of (instr.Branch b a s) = row (branch_opcode b) a (src_register s) 0 0 (src_immediate s)
row_of (instr.Two t a s) = row (two_opcode t) a (src_register s) 0 0 (src_immediate s)
row_of (instr.One o a) = row (one_opcode o) a 0 0 0 None
row_of (instr.Mov m) = mov_row m
row_of (instr.Lea a b None) = row 0x14 a b 3 0 None
row_of (instr.Lea a b (Some i)) = row 0x14 a b 4 0 (Some i)
row_of (instr.In a p) = row 0x17 a 0 0 p None
row_of (instr.Out p s) = row 0x18 (src_register s) 0 0 p (src_immediate s)

-- the words of a row
abbrev pub words_of : Row → List ℕ
words_of r = word_of r.opcode (flag_of r.immediate) r.one r.two r.mode r.port ∷ option_to_list r.immediate

-- the words that spell an instruction
abbrev pub spelling : Instr ℕ → List ℕ
spelling i = words_of (row_of i)

-- the numbers of its registers and of its port fit their fields
abbrev pub Fits : Instr ℕ → Type 0
Fits i = ((row_of i).one < 16) × ((row_of i).two < 16) × ((row_of i).port < 16384)

-- these words begin with the instruction's spelling
abbrev pub Begins : Instr ℕ → List ℕ → Type 0
Begins i words = Fits i × ((rest : List ℕ) × (words ≡ spelling i ++ rest))
