-- One turn of the walks that make nodes of items.
use Rattle.std.proofs.Common.{◌≡◌, ℕ, ◌+◌, List, [], ◌∷◌, length, refl, sym, ◌∙◌}
use Rattle.std.specs.Prelude.{option_map}
use Rattle.either.specs.declared.Either.TheVariants.{Left, Right}
use Rattle.v32_isa.specs.declared.instruction.Go.{Go}
use Rattle.v32_isa.specs.declared.instruction.Go.TheVariants.{JMP, CALL}
use Rattle.v32_isa.specs.declared.instruction.Branch.{Branch}
use Rattle.v32_isa.specs.declared.instruction.Plain.{Plain}
use Rattle.v32_isa.specs.declared.instruction.Plain.TheVariants.{HLT, WAIT, RET, MOVS, SETS}
use Rattle.v32_isa.specs.declared.instruction.One.{One}
use Rattle.v32_isa.specs.declared.instruction.One.TheVariants.{PUSH, POP, CMPS, CIB, NOT, BNOT, ISGN, IABS}
use Rattle.v32_isa.specs.declared.instruction.Src.{Src}
use Rattle.v32_isa.specs.declared.instruction.Src.TheVariants as src
use Rattle.v32_isa.specs.declared.instruction.Instr.TheVariants as instr
use Rattle.asm_items.specs.Items.{Imm}
use Rattle.asm_items.specs.declared.item.AsmItem.{AsmItem}
use Rattle.assembler.specs.Faults.{label_in}
use Rattle.assembler.specs.inner.Survey.{with_item}
use Rattle.asm_laws.specs.Numbers.{kind_of}
use Rattle.cycle_bound.specs.inner.Places.{kind_node, go_node, branch_node, label_of, gathered}

pub gone : (p : List ℕ → ℕ) (g : Go) (s : Src Imm) → go_node g (option_map p (label_of s)) ≡ kind_node p (kind_of (instr.Go g s))
gone p JMP (src.Imm (Left w)) = refl
gone p JMP (src.Imm (Right l)) = refl
gone p JMP (src.Reg r) = refl
gone p CALL (src.Imm (Left w)) = refl
gone p CALL (src.Imm (Right l)) = refl
gone p CALL (src.Reg r) = refl

pub parted : (p : List ℕ → ℕ) (b : Branch) (a : ℕ) (s : Src Imm) → branch_node (option_map p (label_of s)) ≡ kind_node p (kind_of (instr.Branch b a s))
parted p b a (src.Imm (Left w)) = refl
parted p b a (src.Imm (Right l)) = refl
parted p b a (src.Reg r) = refl

pub plain : (p q : List ℕ → ℕ) (x : Plain) → kind_node p (kind_of (instr.Plain x)) ≡ kind_node q (kind_of (instr.Plain x))
plain p q HLT = refl
plain p q WAIT = refl
plain p q RET = refl
plain p q MOVS = refl
plain p q SETS = refl

pub one : (p q : List ℕ → ℕ) (x : One) (a b : ℕ) → kind_node p (kind_of (instr.One x a)) ≡ kind_node q (kind_of (instr.One x b))
one p q PUSH a b = refl
one p q POP a b = refl
one p q CMPS a b = refl
one p q CIB a b = refl
one p q NOT a b = refl
one p q BNOT a b = refl
one p q ISGN a b = refl
one p q IABS a b = refl

module _ (rest after : List AsmItem) (item : AsmItem) (place : ℕ) (labels new total : List (List ℕ × ℕ)) where
  pub gather_on : rest ≡ item ∷ after → new ≡ with_item labels (label_in item) (place + 1) → gathered place labels rest ≡ total → gathered (place + 1) new after ≡ total
  unfolding gathered
  gather_on whole new_is so_far =
      let e : gathered place labels rest ≡ gathered (place + 1) new after = rw (whole, new_is) refl in
      sym e ∙ so_far

pub gather_done : (rest : List AsmItem) (place : ℕ) (labels total : List (List ℕ × ℕ)) → length rest ≡ 0 → gathered place labels rest ≡ total → labels ≡ total
unfolding gathered
gather_done [] place labels total empty so_far = so_far
gather_done (item ∷ rest) place labels total empty so_far = absurd cc
