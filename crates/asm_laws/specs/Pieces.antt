-- Registers of places, operators that can be turned round, and loads through a register into it.
use Rattle.std.specs.Prelude.{ℕ, ◌%◌, ◌==◌, ◌&&◌, cond, Bool, false, Option, Some, None}
use Rattle.v32_isa.specs.declared.instruction.Two.{Two as TwoOf}
use Rattle.v32_isa.specs.declared.instruction.Two.TheVariants.{IEQ, INE, IGT, IGE, ILT, ILE, AND, OR, XOR, IADD, IMUL}
use Rattle.mid_code.specs.declared.placed.Where.{Where}
use Rattle.mid_code.specs.declared.placed.Where.TheVariants.{Reg, Slot}
use Rattle.mid_code.specs.Code.{NodesT, Do, LoadO}

-- a number as that of a register
abbrev pub register : ℕ → ℕ
register r = r % 16

-- whether a place is a register of this number
abbrev pub is_in : Where → ℕ → Bool
is_in (Reg q) r = register q == r
is_in (Slot k) r = false

-- the operator that makes the same of its two words the other way round, where there is one
abbrev pub turned : TwoOf → Option TwoOf
turned IEQ = Some IEQ
turned INE = Some INE
turned IGT = Some ILT
turned IGE = Some ILE
turned ILT = Some IGT
turned ILE = Some IGE
turned AND = Some AND
turned OR = Some OR
turned XOR = Some XOR
turned IADD = Some IADD
turned IMUL = Some IMUL
turned _ = None

-- the register of the other word, where a target and just one of two words stand in register r
abbrev pub other_word : ℕ → (target first second : Where) → Option ℕ
other_word r (Reg t) (Reg a) (Reg b) = cond (register t == r)
    (cond (register a == r) (cond (register b == r) None (Some (register b))) (cond (register b == r) (Some (register a)) None)) None
other_word r _ _ _ = None

-- whether a load comes first that takes its address from register r and puts the word there
abbrev pub loads_there : ℕ → NodesT Where → Bool
loads_there r (Do (LoadO (Reg t) (Reg p)) c) = (register t == r) && (register p == r)
loads_there r _ = false
