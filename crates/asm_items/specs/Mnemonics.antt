-- The mnemonics, and the names of registers (the assembly guide, sections on the instructions and on the registers).
use Rattle.std.specs.Prelude.{ℕ, List, codes, if◌then◌else◌, ◌==◌}
use Rattle.v32_isa.specs.declared.instruction.Plain.{Plain}
use Rattle.v32_isa.specs.declared.instruction.Plain.TheVariants.{HLT, WAIT, RET, MOVS, SETS}
use Rattle.v32_isa.specs.declared.instruction.Go.{Go}
use Rattle.v32_isa.specs.declared.instruction.Go.TheVariants.{JMP, CALL}
use Rattle.v32_isa.specs.declared.instruction.Branch.{Branch}
use Rattle.v32_isa.specs.declared.instruction.Branch.TheVariants.{JT, JF}
use Rattle.v32_isa.specs.declared.instruction.Two.{Two}
use Rattle.v32_isa.specs.declared.instruction.Two.TheVariants.{IEQ, INE, IGT, IGE, ILT, ILE, AND, OR, XOR, SHL, IADD, ISUB, IMUL, IDIV, IMOD, IMIN, IMAX}
use Rattle.v32_isa.specs.declared.instruction.One.{One}
use Rattle.v32_isa.specs.declared.instruction.One.TheVariants.{PUSH, POP, CMPS, CIB, NOT, BNOT, ISGN, IABS}
use Rattle.v32_isa.specs.declared.instruction.Instr.{Instr}
use Rattle.v32_isa.specs.declared.instruction.Instr.TheVariants as instr
use Rattle.asm_items.specs.declared.vocabulary.Operation.{Operation}
use Rattle.asm_items.specs.declared.vocabulary.Operation.TheVariants as o

abbrev pub plain_name : Plain → List ℕ
plain_name HLT = codes "HLT"
plain_name WAIT = codes "WAIT"
plain_name RET = codes "RET"
plain_name MOVS = codes "MOVS"
plain_name SETS = codes "SETS"

abbrev pub go_name : Go → List ℕ
go_name JMP = codes "JMP"
go_name CALL = codes "CALL"

abbrev pub branch_name : Branch → List ℕ
branch_name JT = codes "JT"
branch_name JF = codes "JF"

abbrev pub two_name : Two → List ℕ
two_name IEQ = codes "IEQ"
two_name INE = codes "INE"
two_name IGT = codes "IGT"
two_name IGE = codes "IGE"
two_name ILT = codes "ILT"
two_name ILE = codes "ILE"
two_name AND = codes "AND"
two_name OR = codes "OR"
two_name XOR = codes "XOR"
two_name SHL = codes "SHL"
two_name IADD = codes "IADD"
two_name ISUB = codes "ISUB"
two_name IMUL = codes "IMUL"
two_name IDIV = codes "IDIV"
two_name IMOD = codes "IMOD"
two_name IMIN = codes "IMIN"
two_name IMAX = codes "IMAX"

abbrev pub one_name : One → List ℕ
one_name PUSH = codes "PUSH"
one_name POP = codes "POP"
one_name CMPS = codes "CMPS"
one_name CIB = codes "CIB"
one_name NOT = codes "NOT"
one_name BNOT = codes "BNOT"
one_name ISGN = codes "ISGN"
one_name IABS = codes "IABS"

abbrev pub operation_name : Operation → List ℕ
operation_name (o.Plain p) = plain_name p
operation_name (o.Go g) = go_name g
operation_name (o.Branch b) = branch_name b
operation_name (o.Two t) = two_name t
operation_name (o.One one) = one_name one
operation_name o.Mov = codes "MOV"
operation_name o.Lea = codes "LEA"
operation_name o.In = codes "IN"
operation_name o.Out = codes "OUT"

abbrev pub mnemonic : {I : Type 0} → Instr I → List ℕ
mnemonic (instr.Plain p) = plain_name p
mnemonic (instr.Go g s) = go_name g
mnemonic (instr.Branch b a s) = branch_name b
mnemonic (instr.Two t a s) = two_name t
mnemonic (instr.One o a) = one_name o
mnemonic (instr.Mov m) = operation_name o.Mov
mnemonic (instr.Lea a b i) = operation_name o.Lea
mnemonic (instr.In a p) = operation_name o.In
mnemonic (instr.Out p s) = operation_name o.Out

-- registers 11 to 15 have names of their own
abbrev pub register_name : ℕ → List ℕ
register_name r =
    if r == 0 then codes "R0"
    else (if r == 1 then codes "R1"
    else (if r == 2 then codes "R2"
    else (if r == 3 then codes "R3"
    else (if r == 4 then codes "R4"
    else (if r == 5 then codes "R5"
    else (if r == 6 then codes "R6"
    else (if r == 7 then codes "R7"
    else (if r == 8 then codes "R8"
    else (if r == 9 then codes "R9"
    else (if r == 10 then codes "R10"
    else (if r == 11 then codes "CR"
    else (if r == 12 then codes "SR"
    else (if r == 13 then codes "DR"
    else (if r == 14 then codes "BP"
    else codes "SP"))))))))))))))
