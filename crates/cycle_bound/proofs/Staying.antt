-- Nested runs of a program keep the calls of its functions within their bounds.
use Rattle.std.proofs.Common.{◌≡◌, ℕ, ◌≤◌, List, [], ◌∷◌, map, length, Option, Some, None, arith}
use Rattle.std.specs.List.{All, AllZip}
use Rattle.std.proofs.lemmas.List.Elements.{All-head, All-tail}
use Rattle.v32_isa.specs.declared.instruction.Src.TheVariants as src
use Rattle.v32_isa.specs.declared.instruction.Mov.{Mov}
use Rattle.v32_isa.specs.declared.instruction.Mov.TheVariants.{RegImm, RegReg, RegAt, RegAtReg, RegAtOff, AtReg, AtRegReg, AtOffReg}
use Rattle.v32_isa.specs.declared.instruction.Instr.{Instr}
use Rattle.v32_isa.specs.declared.instruction.Instr.TheVariants as instr
use Rattle.v32_isa.specs.Table.{Fits}
use Rattle.v32_isa.specs.Calls.{IsNested}
use Rattle.asm_items.specs.declared.item.AsmItem.{AsmItem}
use Rattle.asm_items.specs.declared.item.AsmItem.TheVariants.{Label, Op, Integer, Pointer}
use Rattle.asm_items.specs.Items.{Imm, instr_with}
use Rattle.asm_items.specs.Operands.{Operand, Register, Immediate, AtRegister, AtImmediate, AtOffset, AtPort, operands, mov_operands}
use Rattle.asm_items.specs.Words.{imm_word}
use Rattle.asm_reader.specs.Readable.{IsArgument, IsReadable, AreReadable}
use Rattle.assembler.specs.Faults.{fault_of}
use Rattle.assembler.specs.Labels.{address_in}
use Rattle.assembler.specs.Placed.{Placed}
use Rattle.obj_mem.specs.Runs.{Meaning}
use Rattle.mid_code.specs.Agrees.{AgreesWithin}
use Rattle.asm_laws.specs.Labelled.{label_of_function}
use Rattle.asm_laws.specs.Numbers.{AllFit}
use Rattle.asm_laws.proofs.Bounded.{calls_bounded}
use Rattle.cycle_bound.specs.declared.bound.Bound.{Bound}
use Rattle.cycle_bound.specs.declared.bound.Bound.TheVariants.{Most, Over, Unbounded}
use Rattle.cycle_bound.specs.Told.{IsBoundOf}
use Rattle.cycle_bound.specs.Staying.{HoldsFor, StayWithin}

-- ---- items that text can spell have the forms of the table

module _ (address : List ℕ → ℕ) where
  abbrev Has : Instr Imm → Type 0
  Has i = Fits (instr_with (imm_word address) i)

  first : (o : Operand) (os : List Operand) → All IsArgument (o ∷ os) → IsArgument o
  first o os h = All-head IsArgument o os h

  second : (o p : Operand) (os : List Operand) → All IsArgument (o ∷ p ∷ os) → IsArgument p
  second o p os h = All-head IsArgument p os (All-tail IsArgument o (p ∷ os) h)

  has_mov : (m : Mov Imm) → All IsArgument (mov_operands m) → Has (instr.Mov m)
  has_mov (RegImm a i) h = (first (Register a) (Immediate i ∷ []) h, omega arith, omega arith)
  has_mov (RegReg a b) h = (first (Register a) (Register b ∷ []) h, second (Register a) (Register b) [] h, omega arith)
  has_mov (RegAt a i) h = (first (Register a) (AtImmediate i ∷ []) h, omega arith, omega arith)
  has_mov (RegAtReg a b) h = (first (Register a) (AtRegister b ∷ []) h, second (Register a) (AtRegister b) [] h, omega arith)
  has_mov (RegAtOff a b i) h = (first (Register a) (AtOffset b i ∷ []) h, (second (Register a) (AtOffset b i) [] h).0, omega arith)
  has_mov (AtReg i b) h = (omega arith, second (AtImmediate i) (Register b) [] h, omega arith)
  has_mov (AtRegReg a b) h = (first (AtRegister a) (Register b ∷ []) h, second (AtRegister a) (Register b) [] h, omega arith)
  has_mov (AtOffReg a i b) h = ((first (AtOffset a i) (Register b ∷ []) h).0, second (AtOffset a i) (Register b) [] h, omega arith)

  has : (i : Instr Imm) → All IsArgument (operands i) → Has i
  has (instr.Plain p) h = (omega arith, omega arith, omega arith)
  has (instr.Go g (src.Imm i)) h = (omega arith, omega arith, omega arith)
  has (instr.Go g (src.Reg b)) h = (first (Register b) [] h, omega arith, omega arith)
  has (instr.Branch b a (src.Imm i)) h = (first (Register a) (Immediate i ∷ []) h, omega arith, omega arith)
  has (instr.Branch b a (src.Reg r)) h = (first (Register a) (Register r ∷ []) h, second (Register a) (Register r) [] h, omega arith)
  has (instr.Two t a (src.Imm i)) h = (first (Register a) (Immediate i ∷ []) h, omega arith, omega arith)
  has (instr.Two t a (src.Reg r)) h = (first (Register a) (Register r ∷ []) h, second (Register a) (Register r) [] h, omega arith)
  has (instr.One o a) h = (first (Register a) [] h, omega arith, omega arith)
  has (instr.Mov m) h = has_mov m h
  has (instr.Lea a b None) h = (first (Register a) (AtRegister b ∷ []) h, second (Register a) (AtRegister b) [] h, omega arith)
  has (instr.Lea a b (Some i)) h = (first (Register a) (AtOffset b i ∷ []) h, (second (Register a) (AtOffset b i) [] h).0, omega arith)
  has (instr.In a p) h = (first (Register a) (AtPort p ∷ []) h, omega arith, second (Register a) (AtPort p) [] h)
  has (instr.Out p (src.Imm i)) h = (omega arith, omega arith, first (AtPort p) (Immediate i ∷ []) h)
  has (instr.Out p (src.Reg b)) h = (second (AtPort p) (Register b) [] h, omega arith, first (AtPort p) (Register b ∷ []) h)

  all_fit : (items : List AsmItem) → AreReadable items → AllFit address items
  all_fit [] h = tt
  all_fit (Label name ∷ items) h = all_fit items (All-tail IsReadable (Label name) items h)
  all_fit (Op i ∷ items) h = (has i (All-head IsReadable (Op i) items h), all_fit items (All-tail IsReadable (Op i) items h))
  all_fit (Integer w ∷ items) h = all_fit items (All-tail IsReadable (Integer w) items h)
  all_fit (Pointer name ∷ items) h = all_fit items (All-tail IsReadable (Pointer name) items h)

-- ---- calls

module _ (items : List AsmItem) (words : List ℕ) (labels : List (List ℕ × ℕ)) (ok : fault_of items ≡ None) (readable : AreReadable items) (placed : Placed items words labels) (few : length words ≤ 33554432) where
  abbrev at : List ℕ → ℕ
  at name = address_in labels (label_of_function name)

  module _ (answers : List ℕ) (card : Option (List ℕ)) (steps : ℕ) (nested : IsNested words answers card steps) where
    holds : (name : List ℕ) (b : Bound) → IsBoundOf items name b → HoldsFor words answers card steps (at name) b
    unfolding IsBoundOf
    holds name (Most n) h = calls_bounded items words labels ok placed (omega (arith, few)) (all_fit (address_in labels) items readable) answers card steps (label_of_function name) n h.0 nested
    holds name Over h = tt
    holds name Unbounded h = tt

    all_hold : (names : List (List ℕ)) (bs : List Bound) → AllZip (IsBoundOf items) names bs → AllZip (HoldsFor words answers card steps) (map at names) bs
    all_hold [] [] h = tt
    all_hold [] (b ∷ bs) h = absurd h
    all_hold (name ∷ names) [] h = absurd h
    all_hold (name ∷ names) (b ∷ bs) h = (holds name b h.0, all_hold names bs h.1)

  pub stay_within : (times : ℕ) (globals : List ℕ) (meaning : Meaning) → AgreesWithin times globals meaning words → (names : List (List ℕ)) (bs : List Bound) → AllZip (IsBoundOf items) names bs
      → StayWithin globals meaning words (map at names) bs
  stay_within times globals meaning agrees names bs exact n answers card is_card =
      let a = agrees n answers card is_card in
      (a.0, a.1, all_hold answers card a.0 a.3 names bs exact)
