-- Decoding as a plain program: the fields of a word, read back as an instruction. That it is the inverse
-- of the table of forms is a law.
use Rattle.std.specs.Prelude.{ℕ, ◌/◌, ◌%◌, ◌^◌, ◌==◌, ◌&&◌, Option, Some, None, if◌then◌else◌, List, [], ◌∷◌, find, option_and_then}
use Rattle.v32_isa.specs.Table.{Row, row, plain_opcode, go_opcode, branch_opcode, two_opcode, one_opcode}
use Rattle.v32_isa.specs.declared.instruction.Plain.TheVariants.{HLT, WAIT, RET, MOVS, SETS}
use Rattle.v32_isa.specs.declared.instruction.Go.TheVariants.{JMP, CALL}
use Rattle.v32_isa.specs.declared.instruction.Branch.TheVariants.{JT, JF}
use Rattle.v32_isa.specs.declared.instruction.Two.TheVariants.{IEQ, INE, IGT, IGE, ILT, ILE, AND, OR, XOR, SHL, IADD, ISUB, IMUL, IDIV, IMOD, IMIN, IMAX}
use Rattle.v32_isa.specs.declared.instruction.One.TheVariants.{PUSH, POP, CMPS, CIB, NOT, BNOT, ISGN, IABS}
use Rattle.v32_isa.specs.declared.instruction.Src.TheVariants as src
use Rattle.v32_isa.specs.declared.instruction.Mov.TheVariants.{RegImm, RegReg, RegAt, RegAtReg, RegAtOff, AtReg, AtRegReg, AtOffReg}
use Rattle.v32_isa.specs.declared.instruction.Instr.{Instr}
use Rattle.v32_isa.specs.declared.instruction.Instr.TheVariants as instr
use Rattle.v32_isa.specs.declared.decoding.Operation.{Operation}
use Rattle.v32_isa.specs.declared.decoding.Operation.TheVariants as operation

-- every operation, in the order of the opcodes
abbrev pub operations : List Operation
operations =
    operation.Plain HLT ∷ operation.Plain WAIT ∷ operation.Go JMP ∷ operation.Go CALL ∷ operation.Plain RET ∷ operation.Branch JT ∷ operation.Branch JF ∷
    operation.Two IEQ ∷ operation.Two INE ∷ operation.Two IGT ∷ operation.Two IGE ∷ operation.Two ILT ∷ operation.Two ILE ∷
    operation.Mov ∷ operation.Lea ∷ operation.One PUSH ∷ operation.One POP ∷ operation.In ∷ operation.Out ∷ operation.Plain MOVS
    ∷ operation.Plain SETS ∷ operation.One CMPS ∷
    operation.One CIB ∷
    operation.One NOT ∷ operation.Two AND ∷ operation.Two OR ∷ operation.Two XOR ∷ operation.One BNOT ∷ operation.Two SHL ∷
    operation.Two IADD ∷ operation.Two ISUB ∷ operation.Two IMUL ∷ operation.Two IDIV ∷ operation.Two IMOD ∷ operation.One ISGN ∷ operation.Two IMIN
    ∷ operation.Two IMAX ∷ operation.One IABS ∷ []

abbrev pub operation_opcode : Operation → ℕ
operation_opcode (operation.Plain p) = plain_opcode p
operation_opcode (operation.Go g) = go_opcode g
operation_opcode (operation.Branch b) = branch_opcode b
operation_opcode (operation.Two t) = two_opcode t
operation_opcode (operation.One o) = one_opcode o
operation_opcode operation.Mov = 0x13
operation_opcode operation.Lea = 0x14
operation_opcode operation.In = 0x17
operation_opcode operation.Out = 0x18

-- the operation of an opcode
abbrev pub operation_of : ℕ → Option Operation
operation_of o = find (λ k. operation_opcode k == o) operations

-- the form of MOV with these registers, mode and immediate; a register field that it does not use is 0
abbrev pub mov_at : ℕ → ℕ → ℕ → Option ℕ → Option (Instr ℕ)
mov_at a b m None =
    if m == 1 then Some (instr.Mov (RegReg a b))
    else (if m == 3 then Some (instr.Mov (RegAtReg a b))
    else (if m == 6 then Some (instr.Mov (AtRegReg a b))
    else None))
mov_at a b m (Some i) =
    if m == 0 then (if b == 0 then Some (instr.Mov (RegImm a i)) else None)
    else (if m == 2 then (if b == 0 then Some (instr.Mov (RegAt a i)) else None)
    else (if m == 4 then Some (instr.Mov (RegAtOff a b i))
    else (if m == 5 then (if a == 0 then Some (instr.Mov (AtReg i b)) else None)
    else (if m == 7 then Some (instr.Mov (AtOffReg a i b))
    else None))))

-- the instruction of an operation, register one, register two, mode, port and immediate; the fields that
-- its form does not use are 0
abbrev pub instr_of : Operation → ℕ → ℕ → ℕ → ℕ → Option ℕ → Option (Instr ℕ)
instr_of (operation.Plain p) a b m q None = if a == 0 && b == 0 && m == 0 && q == 0 then Some (instr.Plain p) else None
instr_of (operation.Plain p) a b m q (Some i) = None
instr_of (operation.One o) a b m q None = if b == 0 && m == 0 && q == 0 then Some (instr.One o a) else None
instr_of (operation.One o) a b m q (Some i) = None
instr_of (operation.Go g) a b m q None = if b == 0 && m == 0 && q == 0 then Some (instr.Go g (src.Reg a)) else None
instr_of (operation.Go g) a b m q (Some i) = if a == 0 && b == 0 && m == 0 && q == 0 then Some (instr.Go g (src.Imm i)) else None
instr_of (operation.Branch t) a b m q None = if m == 0 && q == 0 then Some (instr.Branch t a (src.Reg b)) else None
instr_of (operation.Branch t) a b m q (Some i) = if b == 0 && m == 0 && q == 0 then Some (instr.Branch t a (src.Imm i)) else None
instr_of (operation.Two t) a b m q None = if m == 0 && q == 0 then Some (instr.Two t a (src.Reg b)) else None
instr_of (operation.Two t) a b m q (Some i) = if b == 0 && m == 0 && q == 0 then Some (instr.Two t a (src.Imm i)) else None
instr_of operation.Mov a b m q i = if q == 0 then mov_at a b m i else None
instr_of operation.Lea a b m q None = if m == 3 && q == 0 then Some (instr.Lea a b None) else None
instr_of operation.Lea a b m q (Some i) = if m == 4 && q == 0 then Some (instr.Lea a b (Some i)) else None
instr_of operation.In a b m q None = if b == 0 && m == 0 then Some (instr.In a q) else None
instr_of operation.In a b m q (Some i) = None
instr_of operation.Out a b m q None = if b == 0 && m == 0 then Some (instr.Out q (src.Reg a)) else None
instr_of operation.Out a b m q (Some i) = if a == 0 && b == 0 && m == 0 then Some (instr.Out q (src.Imm i)) else None

-- the instruction of a row of the table
unfoldable pub reads : Row → Option (Instr ℕ)
reads r = option_and_then (λ k. instr_of k r.one r.two r.mode r.port r.immediate) (operation_of r.opcode)

-- the instruction of a word's fields, with the word after it: the immediate where the flag is set
unfoldable pub read_of : ℕ → ℕ → ℕ → ℕ → ℕ → ℕ → Option ℕ → Option (Instr ℕ)
read_of o f a b m p second =
    if f == 0 then reads (row o a b m p None)
    else option_and_then (λ i. reads (row o a b m p (Some i))) second

-- the instruction that a word begins, with the word after it
unfoldable pub decoded : ℕ → Option ℕ → Option (Instr ℕ)
decoded first second =
    read_of (first / 2 ^ 26) (first / 2 ^ 25 % 2) (first / 2 ^ 21 % 16) (first / 2 ^ 17 % 16) (first / 2 ^ 14 % 8) (first % 2 ^ 14) second
