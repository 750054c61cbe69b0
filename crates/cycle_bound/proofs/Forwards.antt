-- Items that only go on have a number.
use Rattle.std.proofs.Common.{◌≡◌, ℕ, suc, ◌+◌, inl, inr, List, [], ◌∷◌, ◌++◌, None, refl, sym, ap, subst, ◌∙◌, append_assoc}
use Rattle.std.specs.Prelude.{max}
use Rattle.v32_isa.specs.declared.instruction.Plain.TheVariants.{RET}
use Rattle.v32_isa.specs.declared.instruction.Instr.{Instr}
use Rattle.v32_isa.specs.declared.instruction.Instr.TheVariants as instr
use Rattle.asm_items.specs.declared.item.AsmItem.{AsmItem}
use Rattle.asm_items.specs.declared.item.AsmItem.TheVariants.{Label, Op, Integer, Pointer}
use Rattle.asm_items.specs.Items.{Imm}
use Rattle.assembler.specs.Faults.{fault_of}
use Rattle.asm_laws.specs.Labelled.{HasLabel}
use Rattle.asm_laws.specs.Numbers.{Kind, kind_of, behind, Number}
use Rattle.asm_laws.specs.Numbers.Kind.{Goes, Jumps, Parts, Calls, Returns, Halts, Other}
use Rattle.asm_laws.specs.Numbers.Number.{at_mark, at_goes, at_jump, at_parts, at_call, at_return, at_halt}
use Rattle.asm_laws.proofs.Deciding.{longest_behind, number_is_longest}
use Rattle.cycle_bound.specs.Forward.{HasNumber, StepsOn, GoesOn, AllGoOn, EndsInReturn}
use Rattle.cycle_bound.proofs.Once.{behind_one}
use Rattle.cycle_bound.proofs.Sound.{max_is, first_most, second_most}

module _ (all : List AsmItem) (ok : fault_of all ≡ None) (rest : List AsmItem) where
  abbrev Worked : List AsmItem → Type 0
  Worked p = (n : ℕ) × Number all p n

  -- a place of the items has a number, and so do the places behind their labels
  abbrev AllNumbered : List AsmItem → Type 0
  AllNumbered own = Worked (own ++ rest) × ((l : List ℕ) → HasLabel own l → Worked (behind all l))

  of_kind : (i : Instr Imm) (k : Kind) (is : List AsmItem) → kind_of i ≡ k → StepsOn all k is → AllNumbered is → Worked (Op i ∷ (is ++ rest))
  of_kind i Goes is k g h = (suc h.0.0, at_goes i (is ++ rest) h.0.0 k h.0.1)
  of_kind i (Jumps l) is k g h = let x = h.1 l g in (suc x.0, at_jump i l (is ++ rest) x.0 k x.1)
  of_kind i (Parts l) is k g h = let x = h.1 l g in (suc (max h.0.0 x.0), at_parts i l (is ++ rest) h.0.0 x.0 (max h.0.0 x.0) k h.0.1 x.1 (first_most h.0.0 x.0) (second_most h.0.0 x.0) (max_is h.0.0 x.0))
  of_kind i (Calls l) is k g h = (suc (g.0 + h.0.0), at_call i l (is ++ rest) g.0 h.0.0 k (longest_behind all l g.0 g.1) h.0.1)
  of_kind i Returns is k g h = (1, at_return i (is ++ rest) k)
  of_kind i Halts is k g h = (1, at_halt i (is ++ rest) k)
  of_kind i Other is k g h = absurd g

  one : (x : AsmItem) (is before : List AsmItem) → all ≡ before ++ x ∷ (is ++ rest) → GoesOn all x is → AllNumbered is → AllNumbered (x ∷ is)
  one (Label name) is before e g h = (
    (h.0.0, at_mark name (is ++ rest) h.0.0 h.0.1),
    λ l x. elim x [
      | inl s ↦ subst Worked (sym (ap (behind all) s ∙ behind_one all before (is ++ rest) name ok e)) h.0
      | inr x' ↦ h.1 l x'
    ],
  )
  one (Op i) is before e g h = (of_kind i (kind_of i) is refl g h, h.1)
  one (Integer w) is before e g h = absurd g
  one (Pointer name) is before e g h = absurd g

  last : (x : AsmItem) → x ≡ Op (instr.Plain RET) → AllNumbered (x ∷ [])
  last x e = subst (λ y. AllNumbered (y ∷ [])) (sym e) ((1, at_return (instr.Plain RET) rest refl), λ l m. absurd m)

  numbered : (own before : List AsmItem) → all ≡ before ++ (own ++ rest) → EndsInReturn own → AllGoOn all own → AllNumbered own
  numbered [] before e end g = absurd end
  numbered (x ∷ []) before e end g = last x end
  numbered (x ∷ y ∷ is) before e end g = one x (y ∷ is) before e g.0 (numbered (y ∷ is) (before ++ x ∷ []) (e ∙ sym (append_assoc before (x ∷ []) ((y ∷ is) ++ rest))) end g.1)

  pub has_number : (own before : List AsmItem) → all ≡ before ++ (own ++ rest) → EndsInReturn own → AllGoOn all own → HasNumber all (own ++ rest)
  has_number own before e end g = let x = (numbered own before e end g).0 in (x.0, number_is_longest all (own ++ rest) x.0 x.1)
