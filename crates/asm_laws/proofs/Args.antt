-- The arguments of a call, in slots and registers.
use Rattle.std.proofs.Common.{◌≡◌, ◌≢◌, ℕ, ◌+◌, ◌<◌, ◌≤◌, ◌⊎◌, inl, inr, Bool, true, false, List, [], ◌∷◌, length, refl, sym, ap, ◌∙◌, subst, arith}
use Rattle.std.specs.Prelude.{map, cond, eqb, ◌==◌}
use Rattle.obj_mem.specs.declared.cell.Cell.{Cell}
use Rattle.obj_mem.specs.Stores.{Store}
use Rattle.mid_code.specs.declared.placed.Where.{Where}
use Rattle.mid_code.specs.declared.placed.Where.TheVariants.{Reg, Slot}
use Rattle.mid_code.specs.States.{registers_and_slots, received}
use Rattle.mid_code.specs.Invariants.{AllOf, DifferFrom, AreDifferent}
use Rattle.asm_laws.specs.Operations.{Frame}
use Rattle.asm_laws.specs.Addresses.{Addr, word_of, store}
use Rattle.asm_laws.specs.inner.Links.{new_slot, all_passed, arrived}
use Rattle.asm_laws.proofs.Stepping.{same_or_not, written_same, written_other}
use Rattle.asm_laws.specs.Holds.{Setting, sizes, slot_offset, Named, Fits, Ctx, Stands, HoldsAt, depth_of}
use Rattle.asm_laws.proofs.First.{word_stands}
use Rattle.asm_laws.specs.Calling.{Callable}
use Rattle.asm_laws.proofs.Frames.{top_of, low_write}

module _ (S : Setting) (fits : Fits S) (κ : Ctx) (s : Store) (cells : Where → Cell) (place : ℕ → ℕ) (f : ℕ) (c : Callable S f) (dk : depth_of S κ.fn ≡ (S.whole.frames κ.fn).size) (room : (sizes S).globals + (S.whole.frames f).size + 2 ≤ top_of S κ) where
  abbrev F : Frame
  F = S.whole.frames κ.fn

  abbrev G : Frame
  G = S.whole.frames f

  abbrev N : ℕ
  N = length s.objects

  top_is : (a : Addr) → HoldsAt S κ s cells place a → a.top ≡ top_of S κ
  top_is a h = omega (arith, h.stack.top_is)

  -- ---- arguments in slots

  slot_under : (k : ℕ) → S.has_slot f k → slot_offset S f k < G.size
  slot_under k has = fits.slot_in f k has

  passed_holds : (a : Addr) (j v : ℕ) → S.has_slot f j → HoldsAt S κ s cells place a → HoldsAt S κ s cells place (store (new_slot G j a) v a)
  passed_holds a j v has h = let t = top_is a h in let u = slot_under j has in low_write S fits κ s cells place a (new_slot G j a) v (omega (arith, t, u, room)) (omega (arith, t, u, room)) dk h

  new_apart : (a : Addr) (i j : ℕ) → HoldsAt S κ s cells place a → S.has_slot f i → S.has_slot f j → i ≢ j → new_slot G i a ≢ new_slot G j a
  new_apart a i j h hi hj n e = let t = top_is a h in n (fits.slot_apart f i j hi hj (omega (arith, t, e, slot_under i hi, slot_under j hj, room)))

  later_keeps : (ps args : List Where) (a : Addr) (j : ℕ) → AllOf (Named S f) ps → DifferFrom (Slot j) ps → S.has_slot f j → HoldsAt S κ s cells place a → (all_passed F G ps args a).memory (new_slot G j a) ≡ a.memory (new_slot G j a)
  later_keeps [] args a j named differ has h = refl
  later_keeps (p ∷ ps) [] a j named differ has h = refl
  later_keeps (Reg r ∷ ps) (x ∷ args) a j named differ has h = later_keeps ps args a j named.1 differ.1 has h
  later_keeps (Slot i ∷ ps) (x ∷ args) a j named differ has h =
      later_keeps ps args (store (new_slot G i a) (word_of F x a) a) j named.1 differ.1 has (passed_holds a i (word_of F x a) named.0 h)
      ∙ written_other a.memory (new_slot G i a) (word_of F x a) (new_slot G j a) (new_apart a j i h has named.0 (λ e. differ.0 (ap Slot e)))

  pub all_passed_holds : (ps args : List Where) (a : Addr) → AllOf (Named S f) ps → HoldsAt S κ s cells place a → HoldsAt S κ s cells place (all_passed F G ps args a)
  all_passed_holds [] args a named h = h
  all_passed_holds (p ∷ ps) [] a named h = h
  all_passed_holds (Reg r ∷ ps) (x ∷ args) a named h = all_passed_holds ps args a named.1 h
  all_passed_holds (Slot i ∷ ps) (x ∷ args) a named h = all_passed_holds ps args (store (new_slot G i a) (word_of F x a) a) named.1 (passed_holds a i (word_of F x a) named.0 h)

  pub slots_passed : (ps args : List Where) (a : Addr) → AllOf (Named S f) ps → AreDifferent ps → AllOf (Named S κ.fn) args → HoldsAt S κ s cells place a → (k : ℕ) → S.has_slot f k → Stands N place (received registers_and_slots ps (map cells args) (Slot k)) ((all_passed F G ps args a).memory (new_slot G k a))
  slots_passed [] args a named differ good h k has = tt
  slots_passed (p ∷ ps) [] a named differ good h k has = tt
  slots_passed (Reg r ∷ ps) (x ∷ args) a named differ good h k has = slots_passed ps args a named.1 differ.1 good.1 h k has
  slots_passed (Slot j ∷ ps) (x ∷ args) a named differ good h k has = go (same_or_not k j) (λ z. slots_passed ps args (store (new_slot G j a) (word_of F x a) a) named.1 differ.1 good.1 (passed_holds a j (word_of F x a) named.0 h) k has)
    where
      go : ((k ≡ j) × ((k == j) ≡ true)) ⊎ ((k ≢ j) × ((k == j) ≡ false)) → (Unit {0} → Stands N place (received registers_and_slots ps (map cells args) (Slot k)) ((all_passed F G ps args (store (new_slot G j a) (word_of F x a) a)).memory (new_slot G k a))) → Stands N place (cond (eqb k j) (cells x) (received registers_and_slots ps (map cells args) (Slot k))) ((all_passed F G ps args (store (new_slot G j a) (word_of F x a) a)).memory (new_slot G k a))
      go (inl e) more =
          let v = word_of F x a in
          let a1 = store (new_slot G j a) v a in
          let w : (all_passed F G ps args a1).memory (new_slot G k a) ≡ v =
          ap (λ i. (all_passed F G ps args a1).memory (new_slot G i a)) e.0 ∙ later_keeps ps args a1 j named.1 differ.0 named.0 (passed_holds a j v named.0 h) ∙ written_same a.memory (new_slot G j a) v (new_slot G j a) refl in
          subst (λ b. Stands N place (cond b (cells x) (received registers_and_slots ps (map cells args) (Slot k))) ((all_passed F G ps args a1).memory (new_slot G k a))) (sym e.1) (subst (λ z. Stands N place (cells x) z) (sym w) (word_stands S fits κ s cells place a x good.0 h))
      go (inr e) more = subst (λ b. Stands N place (cond b (cells x) (received registers_and_slots ps (map cells args) (Slot k))) ((all_passed F G ps args (store (new_slot G j a) (word_of F x a) a)).memory (new_slot G k a))) (sym e.1) (more tt)

  -- ---- arguments in registers

  pub regs_arrived : (ps args : List Where) (a : Addr) → AllOf (Named S κ.fn) args → HoldsAt S κ s cells place a → (q : ℕ) → Stands N place (received registers_and_slots ps (map cells args) (Reg q)) (arrived F ps args a q)
  regs_arrived [] args a good h q = tt
  regs_arrived (p ∷ ps) [] a good h q = tt
  regs_arrived (Slot k ∷ ps) (x ∷ args) a good h q = regs_arrived ps args a good.1 h q
  regs_arrived (Reg r ∷ ps) (x ∷ args) a good h q = go (same_or_not q r) (regs_arrived ps args a good.1 h q)
    where
      Both : Bool → Type 0
      Both b = Stands N place (cond b (cells x) (received registers_and_slots ps (map cells args) (Reg q))) (cond b (word_of F x a) (arrived F ps args a q))

      go : ((q ≡ r) × ((q == r) ≡ true)) ⊎ ((q ≢ r) × ((q == r) ≡ false)) → Stands N place (received registers_and_slots ps (map cells args) (Reg q)) (arrived F ps args a q) → Both (q == r)
      go (inl e) more = subst Both (sym e.1) (word_stands S fits κ s cells place a x good.0 h)
      go (inr e) more = subst Both (sym e.1) more
