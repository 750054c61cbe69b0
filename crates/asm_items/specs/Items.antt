-- Immediates of assembly text: words, or labels that stand for addresses.
use Rattle.std.specs.Prelude.{ℕ, List}
use Rattle.either.specs.declared.Either.{Either}
use Rattle.either.specs.declared.Either.TheVariants.{Left}
use Rattle.v32_isa.specs.declared.instruction.Src.{Src}
use Rattle.v32_isa.specs.declared.instruction.Src.TheVariants as src
use Rattle.v32_isa.specs.declared.instruction.Mov.{Mov}
use Rattle.v32_isa.specs.declared.instruction.Mov.TheVariants.{RegImm, RegReg, RegAt, RegAtReg, RegAtOff, AtReg, AtRegReg, AtOffReg}
use Rattle.v32_isa.specs.declared.instruction.Instr.{Instr}
use Rattle.v32_isa.specs.declared.instruction.Instr.TheVariants as instr
use Rattle.std.specs.Prelude.{Some, None}

abbrev pub Imm : Type 0
Imm = Either ℕ (List ℕ)

-- the instruction with f of each of its immediates
abbrev pub src_with : {I J : Type 0} → (I → J) → Src I → Src J
src_with f (src.Imm i) = src.Imm (f i)
src_with f (src.Reg b) = src.Reg b

abbrev pub mov_with : {I J : Type 0} → (I → J) → Mov I → Mov J
mov_with f (RegImm a i) = RegImm a (f i)
mov_with f (RegReg a b) = RegReg a b
mov_with f (RegAt a i) = RegAt a (f i)
mov_with f (RegAtReg a b) = RegAtReg a b
mov_with f (RegAtOff a b i) = RegAtOff a b (f i)
mov_with f (AtReg i b) = AtReg (f i) b
mov_with f (AtRegReg a b) = AtRegReg a b
mov_with f (AtOffReg a i b) = AtOffReg a (f i) b

abbrev pub instr_with : {I J : Type 0} → (I → J) → Instr I → Instr J
instr_with f (instr.Plain p) = instr.Plain p
instr_with f (instr.Go g s) = instr.Go g (src_with f s)
instr_with f (instr.Branch b a s) = instr.Branch b a (src_with f s)
instr_with f (instr.Two t a s) = instr.Two t a (src_with f s)
instr_with f (instr.One o a) = instr.One o a
instr_with f (instr.Mov m) = instr.Mov (mov_with f m)
instr_with f (instr.Lea a b None) = instr.Lea a b None
instr_with f (instr.Lea a b (Some i)) = instr.Lea a b (Some (f i))
instr_with f (instr.In a p) = instr.In a p
instr_with f (instr.Out p s) = instr.Out p (src_with f s)

-- an instruction's immediates as words of a text
abbrev pub literal : ℕ → Imm
literal w = Left w
