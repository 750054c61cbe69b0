-- What `emit` promises: assembly items of placed code.
use Rattle.std.specs.Prelude.{ℕ, ◌≡◌, ◌≤◌, ◌+◌, List, [], ◌∷◌, ◌++◌, length, sum_by, slice_get, Some, None, true}
use Rattle.std.specs.List.{AllByRecursion, list_all}
use Rattle.either.specs.declared.Either.TheVariants.{Right}
use Rattle.v32_isa.specs.declared.instruction.Plain.TheVariants.{RET, MOVS, SETS}
use Rattle.v32_isa.specs.declared.instruction.Go.TheVariants.{JMP, CALL}
use Rattle.v32_isa.specs.declared.instruction.One.TheVariants.{CMPS}
use Rattle.v32_isa.specs.declared.instruction.Src.TheVariants.{Imm}
use Rattle.v32_isa.specs.declared.instruction.Instr.TheVariants as instr
use Rattle.asm_items.specs.declared.item.AsmItem.{AsmItem}
use Rattle.asm_items.specs.declared.item.AsmItem.TheVariants.{Label, Op, Integer, Pointer}
use Rattle.asm_items.specs.Vocabulary.{is_word}
use Rattle.asm_reader.specs.Readable.{AreReadable}
use Rattle.assembler.specs.Placed as asm
use Rattle.assembler.specs.Faults.{fault_of}
use Rattle.assembler.specs.Sizes.{total_size}
use Rattle.mid_code.specs.declared.placed.Where.{Where}
use Rattle.mid_code.specs.Code.{NodesT, FunctionT}
use Rattle.mid_code.specs.Placed.{PlacedT}
use Rattle.mid_code.specs.Invariants.{AreDifferent}
use Rattle.mid_code.specs.Runs.{placed_runs, weight}
use Rattle.mid_code.specs.Agrees.{AgreesWithin}
use Rattle.mid_code.specs.Calls.{loops, CallsTo}
use Rattle.asm_laws.specs.Labelled.{label_of_function, HasLabel}
use Rattle.asm_laws.specs.Tables.{addresses}

abbrev pub literal_words : PlacedT → ℕ
literal_words x = sum_by (λ text. length text + 1) x.code.literals

-- ---- what is asked

-- Each function has a name, which is a word, no two have the same, and there is room for the words.
pub record CanBeEmitted (x : PlacedT) (names : List (List ℕ)) : Type 0 where
  pub named : length names ≡ length x.code.functions
  pub differ : AreDifferent names
  pub words : list_all is_word names ≡ true
  pub room : weight x.code + literal_words x + 64 ≤ 33554432

-- ---- the items of functions

abbrev pub HasInstruction : List AsmItem → Type 0
HasInstruction [] = ⊥
HasInstruction (Op i ∷ items) = Unit {0}
HasInstruction (_ ∷ items) = HasInstruction items

-- a label or an instruction, and no datum
abbrev pub IsCode : AsmItem → Type 0
IsCode (Label l) = Unit {0}
IsCode (Op i) = Unit {0}
IsCode (Integer w) = ⊥
IsCode (Pointer l) = ⊥

-- labels and words, as literals are
abbrev pub AreData : List AsmItem → Type 0
AreData [] = Unit {0}
AreData (Op i ∷ items) = ⊥
AreData (_ ∷ items) = AreData items

-- the label of a function that the body calls
abbrev pub IsCalled : (names : List (List ℕ)) → NodesT Where → List ℕ → Type 0
IsCalled names body label = (f : ℕ) × (name : List ℕ) × (slice_get names f ≡ Some name) × (label ≡ label_of_function name) × CallsTo f body

-- An item before these goes on to one of them: a jump goes to a label among them, a call to that of a function that the body calls. It is no
-- word, and moves no block.
abbrev pub GoesOn : (names : List (List ℕ)) → NodesT Where → AsmItem → List AsmItem → Type 0
GoesOn names body (Label l) items = Unit {0}
GoesOn names body (Integer w) items = ⊥
GoesOn names body (Pointer l) items = ⊥
GoesOn names body (Op (instr.Plain MOVS)) items = ⊥
GoesOn names body (Op (instr.Plain SETS)) items = ⊥
GoesOn names body (Op (instr.One CMPS r)) items = ⊥
GoesOn names body (Op (instr.Go JMP (Imm (Right l)))) items = HasLabel items l
GoesOn names body (Op (instr.Go CALL (Imm (Right l)))) items = IsCalled names body l
GoesOn names body (Op (instr.Go o source)) items = ⊥
GoesOn names body (Op (instr.Branch o r (Imm (Right l)))) items = HasLabel items l
GoesOn names body (Op (instr.Branch o r source)) items = ⊥
GoesOn names body (Op _) items = Unit {0}

abbrev pub AllGoOn : (names : List (List ℕ)) → NodesT Where → List AsmItem → Type 0
AllGoOn names body [] = Unit {0}
AllGoOn names body (item ∷ items) = GoesOn names body item items × AllGoOn names body items

-- The items of a function: no datum stands among them, and they end with its return. Where it has no loop, each goes on.
pub record AreItemsOf (names : List (List ℕ)) (f : FunctionT Where) (items : List AsmItem) : Type 0 where
  pub some : HasInstruction items
  pub code : AllByRecursion IsCode items
  pub ends : (before : List AsmItem) × (items ≡ before ++ Op (instr.Plain RET) ∷ [])
  pub straight : loops f.body ≡ 0 → AllGoOn names f.body items

-- The functions stand in their order, each behind its label, and behind the last there are only literals.
abbrev pub AreFunctions : (names left : List (List ℕ)) → List (FunctionT Where) → List AsmItem → Type 0
AreFunctions names [] [] items = AreData items
AreFunctions names (name ∷ left) (f ∷ fs) items =
    (own rest : List AsmItem) × (items ≡ Label (label_of_function name) ∷ own ++ rest) × AreItemsOf names f own × AreFunctions names left fs rest
AreFunctions names _ _ items = ⊥

-- ---- the items of a program

pub record IsEmitted (x : PlacedT) (names : List (List ℕ)) (items : List AsmItem) : Type 0 where
  -- labels are distinct and all there, and the words are not too many
  pub faultless : fault_of items ≡ None
  -- they can be written as text
  pub readable : AreReadable items
  -- the words that the items are placed as do what the code means, each global at the sum of the sizes before it
  pub agrees : (words : List ℕ) (labels : List (List ℕ × ℕ)) → asm.Placed items words labels
      → AgreesWithin 1 (addresses 0 x.code.globals) (placed_runs x) words
  pub functions : (start rest : List AsmItem) × (items ≡ start ++ rest) × AreFunctions names names x.code.functions rest
  pub small : total_size items ≤ weight x.code + literal_words x + 64
