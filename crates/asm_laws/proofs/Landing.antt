-- Where one instruction goes, by its kind.
use Rattle.std.proofs.Common.{ℕ, ◌≡◌, ◌⊎◌, inl, inr, Bool, true, false, cond, List, [], ◌∷◌, Option, Some, None, refl, sym, ap, ◌∙◌, subst}
use Rattle.std.specs.Prelude.{◌==◌}
use Rattle.either.specs.declared.Either.TheVariants.{Left, Right}
use Rattle.kit_base.specs.Word.{add}
use Rattle.v32_isa.specs.declared.instruction.Plain.TheVariants.{HLT, WAIT, RET, MOVS, SETS}
use Rattle.v32_isa.specs.declared.instruction.Go.TheVariants.{JMP, CALL}
use Rattle.v32_isa.specs.declared.instruction.Branch.{Branch}
use Rattle.v32_isa.specs.declared.instruction.Branch.TheVariants.{JT, JF}
use Rattle.v32_isa.specs.declared.instruction.One.TheVariants.{PUSH, POP, CMPS, CIB, NOT, BNOT, ISGN, IABS}
use Rattle.v32_isa.specs.declared.instruction.Src.TheVariants as src
use Rattle.v32_isa.specs.declared.instruction.Mov.TheVariants.{RegImm, RegReg, RegAt, RegAtReg, RegAtOff, AtReg, AtRegReg, AtOffReg}
use Rattle.v32_isa.specs.declared.instruction.Instr.{Instr}
use Rattle.v32_isa.specs.declared.instruction.Instr.TheVariants as instr
use Rattle.v32_isa.specs.declared.stepped.Stepped.{Stepped}
use Rattle.v32_isa.specs.declared.stepped.Stepped.TheVariants.{Went, Waited, Halted, Starved, Fault, Undecodable}
use Rattle.v32_isa.specs.Ports.{is_readable, is_writable}
use Rattle.v32_isa.specs.State.{State, sp, register_of, with_register, going_to, is_writable_at, stored, word_at}
use Rattle.v32_isa.specs.Machine.{Effect, value_of, reading, storing, taking, act_go, act, next_of, fetched, effect_decoded, effect_fetched, effect_of}
use Rattle.v32_isa.specs.Decoding.{decoded}
use Rattle.v32_isa.specs.Machine.Effect.{Ends, Asks, Tells}
use Rattle.v32_isa.specs.Calls.{turn_of, turn_decoded, turn_fetched, turn, goes_on, next_effect}
use Rattle.v32_isa.specs.Calls.Turn.{Enters, Other}
use Rattle.asm_items.specs.Items.{Imm, src_with, instr_with}
use Rattle.asm_items.specs.Words.{imm_word}
use Rattle.asm_laws.specs.Numbers.{kind_of}
use Rattle.asm_laws.specs.Numbers.Kind.{Goes, Jumps, Parts, Calls, Returns, Halts}

-- where an effect goes on, it is at this address
abbrev LandsAt : ℕ → Effect → Type 0
LandsAt next (Ends Went t) = t.counter ≡ next
LandsAt next (Ends Waited t) = t.counter ≡ next
LandsAt next (Ends Halted t) = Unit {0}
LandsAt next (Ends Starved t) = Unit {0}
LandsAt next (Ends (Fault k) t) = Unit {0}
LandsAt next (Ends (Undecodable k) t) = Unit {0}
LandsAt next (Asks a p n t) = n ≡ next
LandsAt next (Tells p w n t) = n ≡ next

pub record Lands (next : ℕ) (e : Effect) : Type 0 where
  pub holds : LandsAt next e

went : (next : ℕ) (rs : List ℕ) (m : ℕ → ℕ) (n : ℕ) (b : Bool) → Lands next (Ends Went (record { counter = next; registers = rs; memory = m; program_length = n; has_card = b }))
went next rs m n b = record { holds = refl }

waited : (next : ℕ) (rs : List ℕ) (m : ℕ → ℕ) (n : ℕ) (b : Bool) → Lands next (Ends Waited (record { counter = next; registers = rs; memory = m; program_length = n; has_card = b }))
waited next rs m n b = record { holds = refl }

failed : (next k : ℕ) (t : State) → Lands next (Ends (Fault k) t)
failed next k t = record { holds = tt }

choosing : (next : ℕ) (b : Bool) (e f : Effect) → Lands next e → Lands next f → Lands next (cond b e f)
choosing next true e f h k = h
choosing next false e f h k = k

from_reading : (next : ℕ) (o : Option ℕ) (s : State) (go : ℕ → Effect) → ((word : ℕ) → Lands next (go word)) → Lands next (reading o s go)
from_reading next None s go h = failed next 0 s
from_reading next (Some word) s go h = h word

from_storing : (next : ℕ) (s : State) (address word : ℕ) (go : State → Effect) → ((m : ℕ → ℕ) → Lands next (go (record s { memory = m }))) → Lands next (storing s address word go)
from_storing next s address word go h = choosing next (is_writable_at s address) _ _ (h (stored s address word).memory) (failed next 1 s)

from_taking : (next r : ℕ) (o : Option ℕ) (s : State) → Lands next (taking r o next s)
from_taking next r None s = failed next 6 s
from_taking next r (Some word) s = record { holds = refl }

ruleset landing = (from_reading, from_storing, from_taking, choosing, went, waited, failed)

abbrev counter_of : ℕ → Option (State × List ℕ) → ℕ
counter_of n None = n
counter_of n (Some m) = m.0.counter

lands_goes_on : (how : Stepped) (next : ℕ) (u t : State) (xs ys : List ℕ) → LandsAt next (Ends how u) → goes_on how u xs ≡ Some (t, ys) → t.counter ≡ next
lands_goes_on Went next u t xs ys h e = ap (counter_of 0) (sym e) ∙ h
lands_goes_on Waited next u t xs ys h e = ap (counter_of 0) (sym e) ∙ h
lands_goes_on Halted next u t xs ys h e = absurd cc
lands_goes_on Starved next u t xs ys h e = absurd cc
lands_goes_on (Fault k) next u t xs ys h e = absurd cc
lands_goes_on (Undecodable k) next u t xs ys h e = absurd cc

pub lands_next : (e : Effect) (next : ℕ) (t : State) (xs ys : List ℕ) → Lands next e → next_effect e xs ≡ Some (t, ys) → t.counter ≡ next
lands_next (Ends how u) next t xs ys h e = lands_goes_on how next u t xs ys h.holds e
lands_next (Asks a p n u) next t [] ys h e = absurd cc
lands_next (Asks a p n u) next t (x ∷ xs) ys h e = ap (counter_of 0) (sym e) ∙ h.holds
lands_next (Tells p w n u) next t xs ys h e = ap (counter_of 0) (sym e) ∙ h.holds

module _ (address : List ℕ → ℕ) where
  abbrev with : Instr Imm → Instr ℕ
  with i = instr_with (imm_word address) i

  pub goes_lands : (i : Instr Imm) (next : ℕ) (s : State) → kind_of i ≡ Goes → Lands next (act (with i) next s) × (turn_of (with i) next s ≡ Other)
  unfolding act
  goes_lands (instr.Plain WAIT) next s k = (record { holds = refl }, refl)
  goes_lands (instr.Two t a x) next s k = (search landing, refl)
  goes_lands (instr.One PUSH a) next s k = (search landing, refl)
  goes_lands (instr.One POP a) next s k = (search landing, refl)
  goes_lands (instr.One CIB a) next s k = (search landing, refl)
  goes_lands (instr.One NOT a) next s k = (search landing, refl)
  goes_lands (instr.One BNOT a) next s k = (search landing, refl)
  goes_lands (instr.One ISGN a) next s k = (search landing, refl)
  goes_lands (instr.One IABS a) next s k = (search landing, refl)
  goes_lands (instr.Mov (RegImm a i)) next s k = (search landing, refl)
  goes_lands (instr.Mov (RegReg a b)) next s k = (search landing, refl)
  goes_lands (instr.Mov (RegAt a i)) next s k = (search landing, refl)
  goes_lands (instr.Mov (RegAtReg a b)) next s k = (search landing, refl)
  goes_lands (instr.Mov (RegAtOff a b i)) next s k = (search landing, refl)
  goes_lands (instr.Mov (AtReg i b)) next s k = (search landing, refl)
  goes_lands (instr.Mov (AtRegReg a b)) next s k = (search landing, refl)
  goes_lands (instr.Mov (AtOffReg a i b)) next s k = (search landing, refl)
  goes_lands (instr.Lea a b None) next s k = (search landing, refl)
  goes_lands (instr.Lea a b (Some i)) next s k = (search landing, refl)
  goes_lands (instr.In a p) next s k = (choosing next (is_readable p) (Asks a p next s) (Ends (Fault 2) s) (record { holds = refl }) (failed next 2 s), refl)
  goes_lands (instr.Out p x) next s k = (choosing next (is_writable p) (Tells p (value_of s (src_with (imm_word address) x)) next s) (Ends (Fault 3) s) (record { holds = refl }) (failed next 3 s), refl)
  goes_lands (instr.Plain HLT) next s k = absurd cc
  goes_lands (instr.Plain RET) next s k = absurd cc
  goes_lands (instr.Plain MOVS) next s k = absurd cc
  goes_lands (instr.Plain SETS) next s k = absurd cc
  goes_lands (instr.One CMPS a) next s k = absurd cc
  goes_lands (instr.Go JMP (src.Imm (Left w))) next s k = absurd cc
  goes_lands (instr.Go JMP (src.Imm (Right l))) next s k = absurd cc
  goes_lands (instr.Go JMP (src.Reg r)) next s k = absurd cc
  goes_lands (instr.Go CALL (src.Imm (Left w))) next s k = absurd cc
  goes_lands (instr.Go CALL (src.Imm (Right l))) next s k = absurd cc
  goes_lands (instr.Go CALL (src.Reg r)) next s k = absurd cc
  goes_lands (instr.Branch b a (src.Imm (Left w))) next s k = absurd cc
  goes_lands (instr.Branch b a (src.Imm (Right l))) next s k = absurd cc
  goes_lands (instr.Branch b a (src.Reg r)) next s k = absurd cc

  -- the instructions of the other kinds
  pub jump_is : (i : Instr Imm) (l : List ℕ) → kind_of i ≡ Jumps l → i ≡ instr.Go JMP (src.Imm (Right l))
  jump_is (instr.Go JMP (src.Imm (Right m))) l k = cc
  jump_is (instr.Plain HLT) l k = absurd cc
  jump_is (instr.Plain WAIT) l k = absurd cc
  jump_is (instr.Plain RET) l k = absurd cc
  jump_is (instr.Plain MOVS) l k = absurd cc
  jump_is (instr.Plain SETS) l k = absurd cc
  jump_is (instr.Go JMP (src.Imm (Left w))) l k = absurd cc
  jump_is (instr.Go JMP (src.Reg r)) l k = absurd cc
  jump_is (instr.Go CALL (src.Imm (Left w))) l k = absurd cc
  jump_is (instr.Go CALL (src.Imm (Right m))) l k = absurd cc
  jump_is (instr.Go CALL (src.Reg r)) l k = absurd cc
  jump_is (instr.Branch b a (src.Imm (Left w))) l k = absurd cc
  jump_is (instr.Branch b a (src.Imm (Right m))) l k = absurd cc
  jump_is (instr.Branch b a (src.Reg r)) l k = absurd cc
  jump_is (instr.Two t a x) l k = absurd cc
  jump_is (instr.One PUSH a) l k = absurd cc
  jump_is (instr.One POP a) l k = absurd cc
  jump_is (instr.One CMPS a) l k = absurd cc
  jump_is (instr.One CIB a) l k = absurd cc
  jump_is (instr.One NOT a) l k = absurd cc
  jump_is (instr.One BNOT a) l k = absurd cc
  jump_is (instr.One ISGN a) l k = absurd cc
  jump_is (instr.One IABS a) l k = absurd cc
  jump_is (instr.Mov m) l k = absurd cc
  jump_is (instr.Lea a b i) l k = absurd cc
  jump_is (instr.In a p) l k = absurd cc
  jump_is (instr.Out p x) l k = absurd cc

  pub call_is : (i : Instr Imm) (l : List ℕ) → kind_of i ≡ Calls l → i ≡ instr.Go CALL (src.Imm (Right l))
  call_is (instr.Go CALL (src.Imm (Right m))) l k = cc
  call_is (instr.Plain HLT) l k = absurd cc
  call_is (instr.Plain WAIT) l k = absurd cc
  call_is (instr.Plain RET) l k = absurd cc
  call_is (instr.Plain MOVS) l k = absurd cc
  call_is (instr.Plain SETS) l k = absurd cc
  call_is (instr.Go JMP (src.Imm (Left w))) l k = absurd cc
  call_is (instr.Go JMP (src.Imm (Right m))) l k = absurd cc
  call_is (instr.Go JMP (src.Reg r)) l k = absurd cc
  call_is (instr.Go CALL (src.Imm (Left w))) l k = absurd cc
  call_is (instr.Go CALL (src.Reg r)) l k = absurd cc
  call_is (instr.Branch b a (src.Imm (Left w))) l k = absurd cc
  call_is (instr.Branch b a (src.Imm (Right m))) l k = absurd cc
  call_is (instr.Branch b a (src.Reg r)) l k = absurd cc
  call_is (instr.Two t a x) l k = absurd cc
  call_is (instr.One PUSH a) l k = absurd cc
  call_is (instr.One POP a) l k = absurd cc
  call_is (instr.One CMPS a) l k = absurd cc
  call_is (instr.One CIB a) l k = absurd cc
  call_is (instr.One NOT a) l k = absurd cc
  call_is (instr.One BNOT a) l k = absurd cc
  call_is (instr.One ISGN a) l k = absurd cc
  call_is (instr.One IABS a) l k = absurd cc
  call_is (instr.Mov m) l k = absurd cc
  call_is (instr.Lea a b i) l k = absurd cc
  call_is (instr.In a p) l k = absurd cc
  call_is (instr.Out p x) l k = absurd cc

  pub parts_is : (i : Instr Imm) (l : List ℕ) → kind_of i ≡ Parts l → (b : Branch) × (a : ℕ) × (i ≡ instr.Branch b a (src.Imm (Right l)))
  parts_is (instr.Branch b a (src.Imm (Right m))) l k = (b, a, cc)
  parts_is (instr.Plain HLT) l k = absurd cc
  parts_is (instr.Plain WAIT) l k = absurd cc
  parts_is (instr.Plain RET) l k = absurd cc
  parts_is (instr.Plain MOVS) l k = absurd cc
  parts_is (instr.Plain SETS) l k = absurd cc
  parts_is (instr.Go JMP (src.Imm (Left w))) l k = absurd cc
  parts_is (instr.Go JMP (src.Imm (Right m))) l k = absurd cc
  parts_is (instr.Go JMP (src.Reg r)) l k = absurd cc
  parts_is (instr.Go CALL (src.Imm (Left w))) l k = absurd cc
  parts_is (instr.Go CALL (src.Imm (Right m))) l k = absurd cc
  parts_is (instr.Go CALL (src.Reg r)) l k = absurd cc
  parts_is (instr.Branch b a (src.Imm (Left w))) l k = absurd cc
  parts_is (instr.Branch b a (src.Reg r)) l k = absurd cc
  parts_is (instr.Two t a x) l k = absurd cc
  parts_is (instr.One PUSH a) l k = absurd cc
  parts_is (instr.One POP a) l k = absurd cc
  parts_is (instr.One CMPS a) l k = absurd cc
  parts_is (instr.One CIB a) l k = absurd cc
  parts_is (instr.One NOT a) l k = absurd cc
  parts_is (instr.One BNOT a) l k = absurd cc
  parts_is (instr.One ISGN a) l k = absurd cc
  parts_is (instr.One IABS a) l k = absurd cc
  parts_is (instr.Mov m) l k = absurd cc
  parts_is (instr.Lea a b i) l k = absurd cc
  parts_is (instr.In a p) l k = absurd cc
  parts_is (instr.Out p x) l k = absurd cc

  pub return_is : (i : Instr Imm) → kind_of i ≡ Returns → i ≡ instr.Plain RET
  return_is (instr.Plain RET) k = refl
  return_is (instr.Plain HLT) k = absurd cc
  return_is (instr.Plain WAIT) k = absurd cc
  return_is (instr.Plain MOVS) k = absurd cc
  return_is (instr.Plain SETS) k = absurd cc
  return_is (instr.Go JMP (src.Imm (Left w))) k = absurd cc
  return_is (instr.Go JMP (src.Imm (Right m))) k = absurd cc
  return_is (instr.Go JMP (src.Reg r)) k = absurd cc
  return_is (instr.Go CALL (src.Imm (Left w))) k = absurd cc
  return_is (instr.Go CALL (src.Imm (Right m))) k = absurd cc
  return_is (instr.Go CALL (src.Reg r)) k = absurd cc
  return_is (instr.Branch b a (src.Imm (Left w))) k = absurd cc
  return_is (instr.Branch b a (src.Imm (Right m))) k = absurd cc
  return_is (instr.Branch b a (src.Reg r)) k = absurd cc
  return_is (instr.Two t a x) k = absurd cc
  return_is (instr.One PUSH a) k = absurd cc
  return_is (instr.One POP a) k = absurd cc
  return_is (instr.One CMPS a) k = absurd cc
  return_is (instr.One CIB a) k = absurd cc
  return_is (instr.One NOT a) k = absurd cc
  return_is (instr.One BNOT a) k = absurd cc
  return_is (instr.One ISGN a) k = absurd cc
  return_is (instr.One IABS a) k = absurd cc
  return_is (instr.Mov m) k = absurd cc
  return_is (instr.Lea a b i) k = absurd cc
  return_is (instr.In a p) k = absurd cc
  return_is (instr.Out p x) k = absurd cc

  pub halt_is : (i : Instr Imm) → kind_of i ≡ Halts → i ≡ instr.Plain HLT
  halt_is (instr.Plain HLT) k = refl
  halt_is (instr.Plain WAIT) k = absurd cc
  halt_is (instr.Plain RET) k = absurd cc
  halt_is (instr.Plain MOVS) k = absurd cc
  halt_is (instr.Plain SETS) k = absurd cc
  halt_is (instr.Go JMP (src.Imm (Left w))) k = absurd cc
  halt_is (instr.Go JMP (src.Imm (Right m))) k = absurd cc
  halt_is (instr.Go JMP (src.Reg r)) k = absurd cc
  halt_is (instr.Go CALL (src.Imm (Left w))) k = absurd cc
  halt_is (instr.Go CALL (src.Imm (Right m))) k = absurd cc
  halt_is (instr.Go CALL (src.Reg r)) k = absurd cc
  halt_is (instr.Branch b a (src.Imm (Left w))) k = absurd cc
  halt_is (instr.Branch b a (src.Imm (Right m))) k = absurd cc
  halt_is (instr.Branch b a (src.Reg r)) k = absurd cc
  halt_is (instr.Two t a x) k = absurd cc
  halt_is (instr.One PUSH a) k = absurd cc
  halt_is (instr.One POP a) k = absurd cc
  halt_is (instr.One CMPS a) k = absurd cc
  halt_is (instr.One CIB a) k = absurd cc
  halt_is (instr.One NOT a) k = absurd cc
  halt_is (instr.One BNOT a) k = absurd cc
  halt_is (instr.One ISGN a) k = absurd cc
  halt_is (instr.One IABS a) k = absurd cc
  halt_is (instr.Mov m) k = absurd cc
  halt_is (instr.Lea a b i) k = absurd cc
  halt_is (instr.In a p) k = absurd cc
  halt_is (instr.Out p x) k = absurd cc

  either : (b : Bool) (x y : ℕ) → (cond b x y ≡ x) ⊎ (cond b x y ≡ y)
  either true x y = inl refl
  either false x y = inr refl

  pub jump_lands : (i : Instr Imm) (l : List ℕ) (next : ℕ) (s : State) → kind_of i ≡ Jumps l → Lands (address l) (act (with i) next s) × (turn_of (with i) next s ≡ Other)
  unfolding act
  jump_lands i l next s k = subst (λ x. Lands (address l) (act (with x) next s) × (turn_of (with x) next s ≡ Other)) (sym (jump_is i l k)) (record { holds = refl }, refl)

  pub parts_lands : (i : Instr Imm) (l : List ℕ) (next : ℕ) (s : State) → kind_of i ≡ Parts l → (q : ℕ) × Lands q (act (with i) next s) × ((q ≡ next) ⊎ (q ≡ address l)) × (turn_of (with i) next s ≡ Other)
  unfolding act
  parts_lands i l next s k =
      let r = parts_is i l k in
      subst (λ x. (q : ℕ) × Lands q (act (with x) next s) × ((q ≡ next) ⊎ (q ≡ address l)) × (turn_of (with x) next s ≡ Other)) (sym r.2) (go r.0 r.1)
    where
      go : (b : Branch) (a : ℕ) → (q : ℕ) × Lands q (act (instr.Branch b a (src.Imm (address l))) next s) × ((q ≡ next) ⊎ (q ≡ address l)) × (Other ≡ Other)
      go JT a = (cond (register_of s a == 0) next (address l), record { holds = refl }, either (register_of s a == 0) next (address l), refl)
      go JF a = (cond (register_of s a == 0) (address l) next, record { holds = refl }, turned (either (register_of s a == 0) (address l) next), refl)
        where
          turned : {q : ℕ} → (q ≡ address l) ⊎ (q ≡ next) → (q ≡ next) ⊎ (q ≡ address l)
          turned (inl x) = inr x
          turned (inr x) = inl x

  pub call_lands : (i : Instr Imm) (l : List ℕ) (next : ℕ) (s : State) → kind_of i ≡ Calls l → Lands (address l) (act (with i) next s) × (turn_of (with i) next s ≡ Enters (address l) next)
  unfolding act
  call_lands i l next s k = subst (λ x. Lands (address l) (act (with x) next s) × (turn_of (with x) next s ≡ Enters (address l) next)) (sym (call_is i l k)) (search landing, refl)

pub ret_lands : (s t : State) (next : ℕ) (xs ys : List ℕ) → next_effect (act (instr.Plain RET) next s) xs ≡ Some (t, ys) → word_at s (register_of s sp) ≡ Some t.counter
unfolding act
ret_lands s t next xs ys e = go (word_at s (register_of s sp)) e
  where
    go : (o : Option ℕ) → next_effect (reading o s (λ word. Ends Went (going_to word (with_register sp (add (register_of s sp) 1) s)))) xs ≡ Some (t, ys) → o ≡ Some t.counter
    go None e = absurd cc
    go (Some w) e = ap (λ o. Some (counter_of w o)) e

pub halt_none : (s : State) (next : ℕ) (xs : List ℕ) → next_effect (act (instr.Plain HLT) next s) xs ≡ None
unfolding act
halt_none s next xs = refl

-- a CALL, of whatever words it is read
enters_act : (i : Instr ℕ) (next to back : ℕ) (s : State) → turn_of i next s ≡ Enters to back → Lands to (act i next s)
unfolding act
enters_act (instr.Go CALL x) next to back s e =
    let same : value_of s x ≡ to = cc in
    subst (λ q. Lands q (act_go CALL x next s)) same (search landing)
enters_act (instr.Plain HLT) next to back s e = absurd cc
enters_act (instr.Plain WAIT) next to back s e = absurd cc
enters_act (instr.Plain RET) next to back s e = absurd cc
enters_act (instr.Plain MOVS) next to back s e = absurd cc
enters_act (instr.Plain SETS) next to back s e = absurd cc
enters_act (instr.Go JMP x) next to back s e = absurd cc
enters_act (instr.Branch b a x) next to back s e = absurd cc
enters_act (instr.Two t a x) next to back s e = absurd cc
enters_act (instr.One o a) next to back s e = absurd cc
enters_act (instr.Mov m) next to back s e = absurd cc
enters_act (instr.Lea a b i) next to back s e = absurd cc
enters_act (instr.In a p) next to back s e = absurd cc
enters_act (instr.Out p x) next to back s e = absurd cc

enters_decoded : (s : State) (second : Option ℕ) (o : Option (Instr ℕ)) (to back : ℕ) → turn_decoded s second o ≡ Enters to back → Lands to (effect_decoded s second o)
enters_decoded s second None to back e = absurd cc
enters_decoded s second (Some i) to back e = enters_act i (next_of s second) to back s e

enters_fetched : (s : State) (o : Option (ℕ × Option ℕ)) (to back : ℕ) → turn_fetched s o ≡ Enters to back → Lands to (effect_fetched s o)
enters_fetched s None to back e = absurd cc
enters_fetched s (Some words) to back e = enters_decoded s words.1 (decoded words.0 words.1) to back e

pub enters_lands : (s : State) (to back : ℕ) → turn s ≡ Enters to back → Lands to (effect_of s)
unfolding turn effect_of
enters_lands s to back e = enters_fetched s (fetched s) to back e
