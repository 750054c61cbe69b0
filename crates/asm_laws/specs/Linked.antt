-- A whole program among its words.
use Rattle.std.specs.Prelude.{◌≡◌, ℕ, List, [], length, Option, None, is_some, Bool, false}
use Rattle.v32_isa.specs.declared.instruction.Plain.TheVariants.{HLT}
use Rattle.v32_isa.specs.declared.instruction.Instr.TheVariants as instr
use Rattle.v32_isa.specs.Runs.{opening_memory}
use Rattle.obj_mem.specs.declared.cell.Cell.TheVariants.{Unwritten}
use Rattle.obj_mem.specs.Objects.{opening_objects}
use Rattle.obj_mem.specs.Runs.{opening_store}
use Rattle.asm_laws.specs.Placing.{Line, At}
use Rattle.asm_laws.specs.Addresses.{Addr}
use Rattle.mid_code.specs.Placed.{PlacedT}
use Rattle.asm_laws.specs.Operations.{Whole}
use Rattle.asm_laws.specs.Holds.{Setting, Fits, Ctx, HoldsAt, depth_of}
use Rattle.asm_laws.specs.Calling.{Callable, CallAt, FunctionAt, shapes}

-- where a program begins
abbrev pub first_context : (S : Setting) → ℕ → Option (List ℕ) → Ctx
first_context S boot card = record {
  fn = boot;
  base = 0x400000;
  first = length (opening_objects S.code.globals S.code.literals card);
  keep = λ a. false;
  old = λ a. 0;
  seen = opening_objects S.code.globals S.code.literals card;
  spot = S.fixed;
}

abbrev pub first_words : Setting → Option (List ℕ) → Addr
first_words S card = record { regs = λ r. 0; memory = opening_memory S.console.words card; base = 0x400000; top = 0x400000 }

-- The start has a number, and so has what is left of it when main is called, which has no slots. The start's code, the call of main and the halt
-- stand among the words, and the functions do; RAM, the words of literals and the card hold the objects at the opening.
pub record Linked (S : Setting) (card : Option (List ℕ)) (boot rest : ℕ) : Type 1 where
  pub fits : Fits S
  pub functions : (g : ℕ) → Callable S g → FunctionAt S g
  pub has_card : S.console.has_card ≡ is_some card
  pub opening : S.enters boot ≡ 0x20000000
  pub start : At (shapes S) boot [] (S.enters boot) S.code.start.body (S.leaves boot)
  pub rest_as : S.called_as rest ≡ S.called_as boot
  pub boot_as : S.called_as boot ≡ None
  pub boot_depth : depth_of S boot ≡ 0
  pub rest_depth : depth_of S rest ≡ 0
  pub rest_registers : (S.whole.frames rest).registers ≡ (S.whole.frames boot).registers
  pub rest_size : (S.whole.frames rest).size ≡ 0
  pub rest_slots : (k : ℕ) → S.has_slot rest k → ⊥
  pub after : ℕ
  pub calls_main : CallAt S rest (S.leaves boot) None S.code.main [] after
  pub last : ℕ
  pub halt : Line S.console.words after (instr.Plain HLT) last
  pub opens : (answers : List ℕ) → HoldsAt S (first_context S boot card) (opening_store S.code.globals S.code.literals answers card)
      (λ q. Unwritten) S.fixed (first_words S card)

-- where a program stands, but for its words and card
pub record Plan : Type 1 where
  pub placed : PlacedT
  pub whole : Whole
  pub address : List ℕ → ℕ
  pub has_slot : (function number : ℕ) → Type 0
  pub called_as : ℕ → Option ℕ
  pub locals : ℕ → List ℕ
  pub enters : ℕ → ℕ
  pub leaves : ℕ → ℕ
  pub fixed : ℕ → ℕ
  pub fixed_count : ℕ

abbrev pub setting : Plan → (words : List ℕ) → (has_card : Bool) → Setting
setting A words has_card = record {
  console = record { words = words; has_card = has_card };
  code = A.placed.code;
  frames = A.placed.frames;
  whole = A.whole;
  address = A.address;
  has_slot = A.has_slot;
  called_as = A.called_as;
  locals = A.locals;
  enters = A.enters;
  leaves = A.leaves;
  fixed = A.fixed;
  fixed_count = A.fixed_count;
}
