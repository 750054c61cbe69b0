-- Where tests and results stand among the words of a program.
use Rattle.std.specs.Prelude.{ℕ, List, ◌⊎◌}
use Rattle.v32_isa.specs.declared.instruction.Branch.TheVariants.{JT, JF}
use Rattle.v32_isa.specs.declared.instruction.Src.TheVariants as src
use Rattle.v32_isa.specs.declared.instruction.Instr.TheVariants as instr
use Rattle.mid_code.specs.declared.placed.Where.{Where}
use Rattle.asm_laws.specs.Placing.{Line}
use Rattle.asm_laws.specs.Operations.{Frame, hand, brings}
use Rattle.asm_laws.specs.Standing.{Stand}

-- A test of a place goes on at an address where its word is 0, else at another: one of them is the next one, and the other is jumped to.
abbrev pub Tests : List ℕ → (List ℕ → ℕ) → Frame → ℕ → Where → ℕ → ℕ → Type 0
Tests words address F pc p to next = (q : ℕ) × Stand words address pc (brings F p 9) q
    × (Line words q (instr.Branch JF (hand p 9) (src.Imm to)) next ⊎ Line words q (instr.Branch JT (hand p 9) (src.Imm next)) to)
