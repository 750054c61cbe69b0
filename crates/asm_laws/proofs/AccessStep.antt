-- A load or a store behind an instruction that brings a word out of a slot, where there is one, is followed by the machine.
use Rattle.std.proofs.Common.{◌≡◌, ℕ, ◌<◌, false, List, [], ◌∷◌, ◌++◌, Some, refl, ap, ◌∙◌, subst, arith}
use Rattle.std.specs.Prelude.{get_or}
use Rattle.either.specs.declared.Either.TheVariants.{Left}
use Rattle.kit_base.specs.Word.{add}
use Rattle.v32_isa.specs.declared.instruction.Mov.TheVariants.{RegAtOff, AtOffReg}
use Rattle.v32_isa.specs.declared.instruction.Instr.TheVariants as instr
use Rattle.v32_isa.specs.State.{State, register_of}
use Rattle.asm_items.specs.declared.item.AsmItem.{AsmItem}
use Rattle.asm_items.specs.declared.item.AsmItem.TheVariants as item
use Rattle.mid_code.specs.declared.placed.Where.{Where}
use Rattle.mid_code.specs.declared.placed.Where.TheVariants.{Reg, Slot}
use Rattle.asm_laws.specs.Pieces.{register}
use Rattle.asm_laws.specs.Spare.{in_slots}
use Rattle.asm_laws.specs.declared.access.Base.{Base}
use Rattle.asm_laws.specs.declared.access.Base.TheVariants.{Local, Place}
use Rattle.asm_laws.specs.declared.access.Transfer.{Transfer}
use Rattle.asm_laws.specs.declared.access.Transfer.TheVariants.{Load, Store}
use Rattle.asm_laws.specs.Accesses.{takes_two}
use Rattle.asm_laws.specs.Operations.{Frame, hand, local_word, before_it, access_item}
use Rattle.asm_laws.specs.Standing.{Stand}
use Rattle.asm_laws.specs.Addresses.{Addr, Console, readable, writable, word_of, local_address, Room, Good, Does, loaded, saved, Held, Follows}
use Rattle.asm_laws.proofs.Stepping.{line_effect, line_turn}
use Rattle.asm_laws.proofs.Hands.{hand_fits, brings_at}
use Rattle.asm_laws.proofs.OperationsStep.{later}
use Rattle.asm_laws.proofs.UsedStep.{brought_parts, read_last, off_goes, off_fails, write_last, beyond_goes, beyond_fails, loaded_follows, stored_follows}

-- the address that is accessed, and what is done there
abbrev pub accessed_at : Frame → Base → ℕ → Addr → ℕ
accessed_at F (Local k) n a = add (local_address F k a) n
accessed_at F (Place p) n a = add (word_of F p a) n

abbrev pub access_does : Console → Frame → Transfer → (address : ℕ) → List ℕ → Addr → Does
access_does C F (Load v) q xs a = loaded (readable C q) F (Reg v) (a.memory q) xs a
access_does C F (Store y) q xs a = saved (writable C q) q (word_of F y a) xs a

abbrev pub GoodBase : Frame → Base → Type 0
GoodBase F (Local k) = get_or F.locals k 0 < F.size
GoodBase F (Place p) = Good F p

abbrev pub GoodTransfer : Frame → Transfer → Type 0
GoodTransfer F (Load v) = v < 9
GoodTransfer F (Store y) = Good F y

none_in : (p y : Where) → takes_two (Place p) (Store y) ≡ false → in_slots (Some p) y ≡ false
none_in (Reg q) (Reg r) e = refl
none_in (Reg q) (Slot j) e = refl
none_in (Slot k) (Reg r) e = refl
none_in (Slot k) (Slot j) e = absurd cc

module _ (C : Console) (address : List ℕ → ℕ) (F : Frame) (a : Addr) (room : Room F a) where
  abbrev Here : ℕ → List AsmItem → ℕ → Type 0
  Here = Stand C.words address

  -- from the stack's top
  sums_on : (x y z : ℕ) → add x (add y z) ≡ add (add x y) z
  sums_on x y z = omega arith

  local_is : (k : ℕ) (s : State) → get_or F.locals k 0 < F.size → Held C a s → add (register_of s 15) (local_word F k) ≡ local_address F k a
  local_is k s good h = omega (arith, room.low, room.high, room.top, h.top)

  from_top : (k n : ℕ) (s : State) → get_or F.locals k 0 < F.size → Held C a s → add (register_of s 15) (add (local_word F k) n) ≡ add (local_address F k a) n
  from_top k n s good h = sums_on (register_of s 15) (local_word F k) n ∙ ap (λ z. add z n) (local_is k s good h)

  load_local : (k n v : ℕ) (s : State) (xs : List ℕ) (pc p : ℕ) → get_or F.locals k 0 < F.size → v < 9 → Held C a s → s.counter ≡ pc → Here pc (item.Op (instr.Mov (RegAtOff (register v) 15 (Left (add (local_word F k) n)))) ∷ []) p →
      Follows C 8 s xs p a (access_does C F (Load v) (add (local_address F k a) n) xs a)
  load_local k n v s xs pc p good lt h e st =
      let w = add (local_word F k) n in
      let i = instr.Mov (RegAtOff (register v) 15 w) in
      let x = register_of s 15 in
      subst (λ q. Follows C 8 s xs p a (loaded (readable C q) F (Reg v) (a.memory q) xs a)) (from_top k n s good h)
      (read_last C address F a room v (add x w) 8 i s xs st.0 p lt h (line_effect C a s pc i st.0 h e st.1 (omega arith, omega arith, omega arith)) (line_turn C a s pc i st.0 h e st.1 (omega arith, omega arith, omega arith)) st.2
      (λ y z. off_goes C address F a room (register v) 15 w x y st.0 s refl z) (λ z. off_fails C address F a room (register v) 15 w x st.0 s refl z) (omega arith))

  store_local : (k n : ℕ) (y : Where) (s : State) (xs : List ℕ) (pc p : ℕ) → get_or F.locals k 0 < F.size → Good F y → Held C a s → s.counter ≡ pc → Here pc (before_it (access_item F (Local k) n (Store y)).0 ++ item.Op (access_item F (Local k) n (Store y)).1 ∷ []) p →
      Follows C 8 s xs p a (access_does C F (Store y) (add (local_address F k a) n) xs a)
  store_local k n y s xs pc p good gy h e st =
      let w = add (local_word F k) n in
      let i = instr.Mov (AtOffReg 15 w (hand y 10)) in
      let v = word_of F y a in
      let d = brought_parts C address F a room y 10 (item.Op (instr.Mov (AtOffReg 15 (Left (add (local_word F k) n)) (hand y 10))) ∷ []) pc p st in
      let f = brings_at C F address a s xs pc d.0 y 10 room gy (omega arith) (omega arith) h e d.1 in
      let u = f.to in
      let l = d.2 in
      let x = register_of u 15 in
      subst (λ q. Follows C 8 s xs p a (saved (writable C q) q v xs a)) (from_top k n u good f.held)
      (later C f.steps 7 8 s u xs p a (saved (writable C (add x w)) (add x w) v xs a) f.by (let n = f.few in omega (arith, n))
      (write_last C address F a room (add x w) v 7 i u xs l.0 p f.held (line_effect C a u d.0 i l.0 f.held f.at l.1 (omega arith, hand_fits y 10 (omega arith), omega arith)) (line_turn C a u d.0 i l.0 f.held f.at l.1 (omega arith, hand_fits y 10 (omega arith), omega arith)) l.2
      (λ z. beyond_goes C address F a room (hand y 10) 15 w x v l.0 u refl f.is z) (λ z. beyond_fails C address F a room (hand y 10) 15 w x l.0 u refl z) (omega arith)))

  pub access_follows : (b : Base) (n : ℕ) (x : Transfer) (s : State) (xs : List ℕ) (pc p : ℕ) → GoodBase F b → GoodTransfer F x → takes_two b x ≡ false → Held C a s → s.counter ≡ pc → Here pc (before_it (access_item F b n x).0 ++ item.Op (access_item F b n x).1 ∷ []) p →
      Follows C 8 s xs p a (access_does C F x (accessed_at F b n a) xs a)
  access_follows (Local k) n (Load v) s xs pc p good gx apart h e st = load_local k n v s xs pc p good gx h e st
  access_follows (Local k) n (Store y) s xs pc p good gx apart h e st = store_local k n y s xs pc p good gx h e st
  access_follows (Place q) n (Load v) s xs pc p good gx apart h e st = loaded_follows C address F a room [] v (Some q) n s xs pc p gx (good, tt) h e st
  access_follows (Place q) n (Store y) s xs pc p good gx apart h e st = stored_follows C address F a room [] (Some q) y n s xs pc p (good, tt) gx (none_in q y apart) h e st
