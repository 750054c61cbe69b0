-- Writes that keep what registers and memory hold.
use Rattle.std.proofs.Common.{◌≡◌, ◌≢◌, ℕ, ◌+◌, ◌-◌, ◌<◌, ◌≤◌, ◌⊎◌, inl, inr, true, false, List, [], ◌∷◌, length, sym, ap, ◌∙◌, subst, arith}
use Rattle.std.specs.Prelude.{cond, ◌==◌}
use Rattle.kit_base.specs.Word.{add}
use Rattle.v32_isa.specs.State.{written}
use Rattle.obj_mem.specs.declared.cell.Cell.{Cell}
use Rattle.obj_mem.specs.declared.cell.Cell.TheVariants.{Unwritten, Num, Ptr, Null}
use Rattle.obj_mem.specs.declared.cell.ObjectKind.{ObjectKind}
use Rattle.obj_mem.specs.declared.cell.ObjectKind.TheVariants as kind
use Rattle.obj_mem.specs.Objects.{object_at, cell_at, extent}
use Rattle.obj_mem.specs.Stores.{Store}
use Rattle.mid_code.specs.declared.placed.Where.{Where}
use Rattle.mid_code.specs.declared.placed.Where.TheVariants.{Reg, Slot}
use Rattle.mid_code.specs.States.{registers_and_slots}
use Rattle.mid_code.specs.States as states
use Rattle.asm_laws.specs.Operations.{Frame}
use Rattle.asm_laws.specs.Addresses.{Addr, Console, slot_address, word_of, store, put, Room, Good}
use Rattle.asm_laws.proofs.Stepping.{same_or_not, written_same, written_other}
use Rattle.asm_laws.specs.Holds.{Setting, slot_offset, local_words, Named, Fits, Ctx, slot_place, Lives, wide, Stands, CardAs, Ranges, HoldsAt}
use Rattle.asm_laws.proofs.Lists.{below_or_not}

-- more objects, at the same places
pub stands_more : (n n' : ℕ) (place place' : ℕ → ℕ) (c : Cell) (v : ℕ) → n ≤ n' → ((o : ℕ) → o < n → place' o ≡ place o) → Stands n place c v → Stands n' place' c v
stands_more n n' place place' Unwritten v le same r = tt
stands_more n n' place place' (Num x) v le same r = r
stands_more n n' place place' (Ptr o i) v le same r = (omega (arith, r.0, le), r.1 ∙ ap (λ p. add p i) (sym (same o r.0)), r.2)
stands_more n n' place place' Null v le same r = r

-- a cell of an object is one of its words
pub cell_in : (C : Console) (k : ObjectKind) (cs : List Cell) (l : ℕ) (i : ℕ) → CardAs C k cs → i < length cs → i < extent (record { kind = k; lives = true; cells = cs })
cell_in C kind.Global cs l i c lt = lt
cell_in C kind.Local cs l i c lt = lt
cell_in C kind.Literal cs l i c lt = lt
cell_in C kind.Card [] l i c lt = absurd (omega arith)
cell_in C kind.Card (d ∷ cs) l i c lt = omega (arith, c.1, lt)

module _ (S : Setting) (fits : Fits S) where
  abbrev Of : Ctx → Frame
  Of κ = S.whole.frames κ.fn

  pub good : (κ : Ctx) (t : Where) → Named S κ.fn t → Good (Of κ) t
  good κ (Reg r) n = n
  good κ (Slot k) n = fits.slot_in κ.fn k n

  pub room : (κ : Ctx) (s : Store) (cells : Where → Cell) (place : ℕ → ℕ) (a : Addr) → HoldsAt S κ s cells place a → Room (Of κ) a
  room κ s cells place a h = record { top = h.stack.top_is ∙ sym h.stack.base_is; low = omega (arith, h.stack.low, h.stack.base_is); high = omega (arith, h.stack.high, h.stack.base_is) }

  pub slot_is : (κ : Ctx) (s : Store) (cells : Where → Cell) (place : ℕ → ℕ) (a : Addr) (k : ℕ) → S.has_slot κ.fn k → HoldsAt S κ s cells place a → slot_address (Of κ) k a ≡ slot_place S κ k
  slot_is κ s cells place a k has h = ap (λ b. b - ((Of κ).size - slot_offset S κ.fn k)) h.stack.base_is

  pub word_stands : (κ : Ctx) (s : Store) (cells : Where → Cell) (place : ℕ → ℕ) (a : Addr) (t : Where) → Named S κ.fn t → HoldsAt S κ s cells place a → Stands (length s.objects) place (cells t) (word_of (Of κ) t a)
  word_stands κ s cells place a (Reg r) n h = h.temps.in_regs r n
  word_stands κ s cells place a (Slot k) n h = subst (λ q. Stands (length s.objects) place (cells (Slot k)) (a.memory q)) (sym (slot_is κ s cells place a k n h)) (h.temps.in_slots k n)

  -- a word of an object is a word of a cell
  pub cell_wide : (κ : Ctx) (s : Store) (place : ℕ → ℕ) (o i : ℕ) → Ranges S κ s.objects place s.locals → Lives s.objects o → i < length (object_at s.objects o).cells → i < wide s.objects o
  cell_wide κ s place o i r l lt = cell_in S.console (object_at s.objects o).kind (object_at s.objects o).cells 0 i (r.cards o l) lt

  -- no object that lives covers a slot
  pub slot_free : (κ : Ctx) (s : Store) (cells : Where → Cell) (place : ℕ → ℕ) (a : Addr) (k o i : ℕ) → HoldsAt S κ s cells place a → S.has_slot κ.fn k → Lives s.objects o → i < wide s.objects o → place o + i ≢ slot_place S κ k
  slot_free κ s cells place a k o i h has l lt e = go (below_or_not o κ.first)
    where
      si : slot_offset S κ.fn k < (S.whole.frames κ.fn).size
      si = fits.slot_in κ.fn k has

      go : (o < κ.first) ⊎ (κ.first ≤ o) → ⊥
      go (inl x) = elim (h.ranges.outer o i x l lt) [ inl y ↦ omega (arith, e, y, si, h.stack.low) | inr y ↦ omega (arith, e, y, si, h.stack.low) ]
      go (inr x) =
          let m = h.ranges.mine o x l in
          let q = h.ranges.local m.0 o m.1 m.2 in
          let w = h.ranges.local_wide m.0 o m.1 m.2 l in
          let b : m.0 < length (S.locals κ.fn) = omega (arith, m.1, h.stack.locals_are) in
          let li = fits.local_in κ.fn m.0 b in
          let j : i < local_words S κ.fn m.0 = omega (arith, w, lt) in
          fits.slot_local κ.fn k m.0 i has b j (omega (arith, e, q.2, si, li, j, h.stack.low))

  -- a cell into a place
  pub set_target : (κ : Ctx) (s : Store) (cells : Where → Cell) (place : ℕ → ℕ) (a : Addr) (t : Where) (c : Cell) (v : ℕ) → Named S κ.fn t → HoldsAt S κ s cells place a → Stands (length s.objects) place c v → HoldsAt S κ s (states.put registers_and_slots cells t c) place (put (Of κ) t v a)
  set_target κ s cells place a (Reg r) c v n h rep = record {
    temps = record {
      in_regs = λ q lt. go q lt (same_or_not q r);
      in_slots = h.temps.in_slots;
    };
    ranges = h.ranges;
    objects = h.objects;
    kept = h.kept;
    stack = h.stack;
  }
    where
      N : ℕ
      N = length s.objects

      go : (q : ℕ) → q < 9 → ((q ≡ r) × ((q == r) ≡ true)) ⊎ ((q ≢ r) × ((q == r) ≡ false)) → Stands (length s.objects) place (states.put registers_and_slots cells (Reg r) c (Reg q)) (written a.regs r v q)
      go q lt (inl x) = subst (λ b. Stands (length s.objects) place (cond b c (cells (Reg q))) (written a.regs r v q)) (sym x.1) (subst (λ y. Stands (length s.objects) place c y) (sym (written_same a.regs r v q x.0)) rep)
      go q lt (inr x) = subst (λ b. Stands (length s.objects) place (cond b c (cells (Reg q))) (written a.regs r v q)) (sym x.1) (subst (λ y. Stands (length s.objects) place (cells (Reg q)) y) (sym (written_other a.regs r v q x.0)) (h.temps.in_regs q lt))
  set_target κ s cells place a (Slot k) c v n h rep = subst (λ p. HoldsAt S κ s (states.put registers_and_slots cells (Slot k) c) place (store p v a)) (sym (slot_is κ s cells place a k n h)) (record {
    temps = record {
      in_regs = h.temps.in_regs;
      in_slots = λ q has. go q has (same_or_not q k);
    };
    ranges = h.ranges;
    objects = record { at = λ o i l lt. subst (λ y. Stands (length s.objects) place (cell_at (object_at s.objects o) i) y) (sym (written_other a.memory (slot_place S κ k) v (place o + i) (slot_free κ s cells place a k o i h n l (cell_wide κ s place o i h.ranges l lt)))) (h.objects.at o i l lt); lives = h.objects.lives };
    kept = record {
      fixed = h.kept.fixed;
      same = λ b e. let up = h.kept.above b e in let ne : b ≢ slot_place S κ k = omega (arith, up, fits.slot_in κ.fn k n, h.stack.low) in written_other a.memory (slot_place S κ k) v b ne ∙ h.kept.same b e;
      above = h.kept.above;
    };
    stack = h.stack;
  })
    where
      other : (q : ℕ) → S.has_slot κ.fn q → q ≢ k → slot_place S κ q ≢ slot_place S κ k
      other q has ne e = ne (fits.slot_apart κ.fn q k has n (omega (arith, e, fits.slot_in κ.fn q has, fits.slot_in κ.fn k n, h.stack.low)))

      go : (q : ℕ) → S.has_slot κ.fn q → ((q ≡ k) × ((q == k) ≡ true)) ⊎ ((q ≢ k) × ((q == k) ≡ false)) → Stands (length s.objects) place (states.put registers_and_slots cells (Slot k) c (Slot q)) (written a.memory (slot_place S κ k) v (slot_place S κ q))
      go q has (inl x) = subst (λ b. Stands (length s.objects) place (cond b c (cells (Slot q))) (written a.memory (slot_place S κ k) v (slot_place S κ q))) (sym x.1) (subst (λ y. Stands (length s.objects) place c y) (sym (written_same a.memory (slot_place S κ k) v (slot_place S κ q) (ap (slot_place S κ) x.0))) rep)
      go q has (inr x) = subst (λ b. Stands (length s.objects) place (cond b c (cells (Slot q))) (written a.memory (slot_place S κ k) v (slot_place S κ q))) (sym x.1) (subst (λ y. Stands (length s.objects) place (cells (Slot q)) y) (sym (written_other a.memory (slot_place S κ k) v (slot_place S κ q) (other q has x.0))) (h.temps.in_slots q has))
