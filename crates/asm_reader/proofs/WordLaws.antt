-- The words of the written form stand for what they are the names of.
use Rattle.std.proofs.Common.{◌≡◌, ℕ, zero, suc, ◌<◌, refl, arith}
use Rattle.v32_isa.specs.declared.instruction.Plain.TheVariants.{HLT, WAIT, RET, MOVS, SETS}
use Rattle.v32_isa.specs.declared.instruction.Go.TheVariants.{JMP, CALL}
use Rattle.v32_isa.specs.declared.instruction.Branch.TheVariants.{JT, JF}
use Rattle.v32_isa.specs.declared.instruction.Two.TheVariants.{IEQ, INE, IGT, IGE, ILT, ILE, AND, OR, XOR, SHL, IADD, ISUB, IMUL, IDIV, IMOD, IMIN, IMAX}
use Rattle.v32_isa.specs.declared.instruction.One.TheVariants.{PUSH, POP, CMPS, CIB, NOT, BNOT, ISGN, IABS}
use Rattle.v32_isa.specs.declared.instruction.Instr.{Instr}
use Rattle.v32_isa.specs.declared.instruction.Instr.TheVariants as instr
use Rattle.asm_items.specs.declared.vocabulary.WordKind.TheVariants as w
use Rattle.asm_items.specs.Mnemonics.{mnemonic, register_name}
use Rattle.asm_items.specs.Vocabulary.{is_spelled, registers, vocabulary, word_kind}
use Rattle.asm_reader.specs.Grammar.{operation_of}

pub mnemonics_stand : {I : Type 0} (i : Instr I) → word_kind (mnemonic i) ≡ w.Operation (operation_of i)
unfolding word_kind vocabulary is_spelled
mnemonics_stand (instr.Plain HLT) = refl
mnemonics_stand (instr.Plain WAIT) = refl
mnemonics_stand (instr.Plain RET) = refl
mnemonics_stand (instr.Plain MOVS) = refl
mnemonics_stand (instr.Plain SETS) = refl
mnemonics_stand (instr.Go JMP src) = refl
mnemonics_stand (instr.Go CALL src) = refl
mnemonics_stand (instr.Branch JT a src) = refl
mnemonics_stand (instr.Branch JF a src) = refl
mnemonics_stand (instr.Two IEQ a src) = refl
mnemonics_stand (instr.Two INE a src) = refl
mnemonics_stand (instr.Two IGT a src) = refl
mnemonics_stand (instr.Two IGE a src) = refl
mnemonics_stand (instr.Two ILT a src) = refl
mnemonics_stand (instr.Two ILE a src) = refl
mnemonics_stand (instr.Two AND a src) = refl
mnemonics_stand (instr.Two OR a src) = refl
mnemonics_stand (instr.Two XOR a src) = refl
mnemonics_stand (instr.Two SHL a src) = refl
mnemonics_stand (instr.Two IADD a src) = refl
mnemonics_stand (instr.Two ISUB a src) = refl
mnemonics_stand (instr.Two IMUL a src) = refl
mnemonics_stand (instr.Two IDIV a src) = refl
mnemonics_stand (instr.Two IMOD a src) = refl
mnemonics_stand (instr.Two IMIN a src) = refl
mnemonics_stand (instr.Two IMAX a src) = refl
mnemonics_stand (instr.One PUSH a) = refl
mnemonics_stand (instr.One POP a) = refl
mnemonics_stand (instr.One CMPS a) = refl
mnemonics_stand (instr.One CIB a) = refl
mnemonics_stand (instr.One NOT a) = refl
mnemonics_stand (instr.One BNOT a) = refl
mnemonics_stand (instr.One ISGN a) = refl
mnemonics_stand (instr.One IABS a) = refl
mnemonics_stand (instr.Mov m) = refl
mnemonics_stand (instr.Lea a b i) = refl
mnemonics_stand (instr.In a p) = refl
mnemonics_stand (instr.Out p src) = refl

pub registers_stand : (r : ℕ) → r < 16 → word_kind (register_name r) ≡ w.Register r
unfolding word_kind vocabulary registers is_spelled
registers_stand zero below = refl
registers_stand (suc zero) below = refl
registers_stand (suc (suc zero)) below = refl
registers_stand (suc (suc (suc zero))) below = refl
registers_stand (suc (suc (suc (suc zero)))) below = refl
registers_stand (suc (suc (suc (suc (suc zero))))) below = refl
registers_stand (suc (suc (suc (suc (suc (suc zero)))))) below = refl
registers_stand (suc (suc (suc (suc (suc (suc (suc zero))))))) below = refl
registers_stand (suc (suc (suc (suc (suc (suc (suc (suc zero)))))))) below = refl
registers_stand (suc (suc (suc (suc (suc (suc (suc (suc (suc zero))))))))) below = refl
registers_stand (suc (suc (suc (suc (suc (suc (suc (suc (suc (suc zero)))))))))) below = refl
registers_stand (suc (suc (suc (suc (suc (suc (suc (suc (suc (suc (suc zero))))))))))) below = refl
registers_stand (suc (suc (suc (suc (suc (suc (suc (suc (suc (suc (suc (suc zero)))))))))))) below = refl
registers_stand (suc (suc (suc (suc (suc (suc (suc (suc (suc (suc (suc (suc (suc zero))))))))))))) below = refl
registers_stand (suc (suc (suc (suc (suc (suc (suc (suc (suc (suc (suc (suc (suc (suc zero)))))))))))))) below = refl
registers_stand (suc (suc (suc (suc (suc (suc (suc (suc (suc (suc (suc (suc (suc (suc (suc zero))))))))))))))) below = refl
registers_stand (suc (suc (suc (suc (suc (suc (suc (suc (suc (suc (suc (suc (suc (suc (suc (suc r)))))))))))))))) below = absurd (omega arith)
