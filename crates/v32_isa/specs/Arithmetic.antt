-- What the instructions compute (the assembly guide, sections on comparison, logic and integer arithmetic).
use Rattle.std.specs.Prelude.{ℕ, ◌-◌, ◌^◌, ◌==◌, Option, Some, None, if◌then◌else◌, not, bit_and, bit_or, bit_xor}
use Rattle.kit_base.specs.Word.{add, sub, mul, quotient, remainder, shifted, bool_word, below, smaller, larger, negated, magnitude}
use Rattle.v32_isa.specs.declared.instruction.One.{One}
use Rattle.v32_isa.specs.declared.instruction.One.TheVariants.{PUSH, POP, CMPS, CIB, NOT, BNOT, ISGN, IABS}
use Rattle.v32_isa.specs.declared.instruction.Two.{Two}
use Rattle.v32_isa.specs.declared.instruction.Two.TheVariants.{IEQ, INE, IGT, IGE, ILT, ILE, AND, OR, XOR, SHL, IADD, ISUB, IMUL, IDIV, IMOD, IMIN, IMAX}

-- the word of a register's word x and an operand's word y; none at a division by 0. Order is signed
abbrev pub two_of : Two → ℕ → ℕ → Option ℕ
two_of IEQ x y = Some (bool_word (x == y))
two_of INE x y = Some (bool_word (not (x == y)))
two_of IGT x y = Some (bool_word (below y x))
two_of IGE x y = Some (bool_word (not (below x y)))
two_of ILT x y = Some (bool_word (below x y))
two_of ILE x y = Some (bool_word (not (below y x)))
two_of AND x y = Some (bit_and x y)
two_of OR x y = Some (bit_or x y)
two_of XOR x y = Some (bit_xor x y)
two_of SHL x y = Some (shifted x y)
two_of IADD x y = Some (add x y)
two_of ISUB x y = Some (sub x y)
two_of IMUL x y = Some (mul x y)
two_of IDIV x y = if y == 0 then None else Some (quotient x y)
two_of IMOD x y = if y == 0 then None else Some (remainder x y)
two_of IMIN x y = Some (smaller x y)
two_of IMAX x y = Some (larger x y)

-- the word of a register's word x; none for the three that work on memory
abbrev pub one_of : One → ℕ → Option ℕ
one_of PUSH x = None
one_of POP x = None
one_of CMPS x = None
one_of CIB x = Some (bool_word (not (x == 0)))
one_of NOT x = Some (2 ^ 32 - 1 - x)
one_of BNOT x = Some (bool_word (x == 0))
one_of ISGN x = Some (negated x)
one_of IABS x = Some (magnitude x)
