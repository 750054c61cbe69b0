-- Calls: a new frame below, and the way back.
use Rattle.std.proofs.Common.{◌≡◌, ◌≢◌, ℕ, ◌+◌, ◌-◌, ◌<◌, ◌≤◌, ◌⊎◌, inl, inr, List, length, None, refl, sym, ap, ◌∙◌, subst, arith}
use Rattle.std.proofs.lemmas.List.{length-replicate}
use Rattle.obj_mem.specs.declared.cell.Cell.{Cell}
use Rattle.obj_mem.specs.Objects.{ObjectT, object_at, cell_at, end_from}
use Rattle.obj_mem.specs.Stores.{Store, entered, returned_to}
use Rattle.mid_code.specs.declared.placed.Where.{Where}
use Rattle.mid_code.specs.declared.placed.Where.TheVariants.{Slot}
use Rattle.mid_code.specs.States.{registers_and_slots, received, after_call}
use Rattle.asm_laws.specs.Addresses.{Addr, store}
use Rattle.asm_laws.proofs.Stepping.{written_other}
use Rattle.asm_laws.specs.Holds.{Setting, sizes, local_offset, local_words, Fits, Ctx, slot_place, Lives, wide, Stands, InRegion, Temps, Cells, HoldsAt, depth_of}
use Rattle.asm_laws.specs.Calling.{Callable}
use Rattle.asm_laws.proofs.Lists.{below_or_not, lives_below, length_end_from, end_from_lives, end_from_living, nones}
use Rattle.asm_laws.proofs.First.{stands_more, cell_wide, slot_free}
use Rattle.asm_laws.proofs.Change.{not_false, same_was, cells_less, Alike}
use Rattle.asm_laws.proofs.Covered.{uncovered, uncovered_from, uncovered_not, uncovered_yes}

-- the top of the stack in a call
abbrev pub top_of : Setting → Ctx → ℕ
top_of S κ = κ.base - depth_of S κ.fn

-- the end of the frame of a function that is called
abbrev pub below : Setting → Ctx → ℕ → ℕ
below S κ f = top_of S κ - 1

abbrev pub inner : Setting → Ctx → ℕ → List ObjectT → (ℕ → ℕ) → (ℕ → ℕ) → Ctx
inner S κ f os place memory = record {
  fn = f;
  base = below S κ f;
  first = length os;
  keep = uncovered (below S κ f) os place;
  old = memory;
  seen = os;
  spot = place;
}

module _ (S : Setting) (fits : Fits S) where
  -- where the words of objects are not
  pub low_free : (κ : Ctx) (s : Store) (cells : Where → Cell) (place : ℕ → ℕ) (a : Addr) (o i : ℕ) → HoldsAt S κ s cells place a → Lives s.objects o → i < wide s.objects o → (place o + i < (sizes S).globals) ⊎ (top_of S κ ≤ place o + i)
  low_free κ s cells place a o i h l lt = elim (below_or_not o κ.first) [
    | inl b ↦ elim (h.ranges.outer o i b l lt) [ inl x ↦ inl x | inr x ↦ inr (omega (arith, x)) ]
    | inr b ↦
        let m = h.ranges.mine o b l in
        let q = h.ranges.local m.0 o m.1 m.2 in
        let w = h.ranges.local_wide m.0 o m.1 m.2 l in
        let mb : m.0 < length (S.locals κ.fn) = omega (arith, m.1, h.stack.locals_are) in
        let f = fits.local_in κ.fn m.0 mb in
        let d = fits.depth_is κ.fn m.0 mb in
        let i' : i < local_words S κ.fn m.0 = omega (arith, lt, w) in
        inr (omega (arith, q.2, f, d, i', h.stack.low))
  ]

  -- a write between the globals and the top of the stack
  pub low_write : (κ : Ctx) (s : Store) (cells : Where → Cell) (place : ℕ → ℕ) (a : Addr) (x v : ℕ) → (sizes S).globals ≤ x → x < top_of S κ → depth_of S κ.fn ≡ (S.whole.frames κ.fn).size → HoldsAt S κ s cells place a → HoldsAt S κ s cells place (store x v a)
  low_write κ s cells place a x v lo hi d h = record {
    temps = record {
      in_regs = h.temps.in_regs;
      in_slots = λ k has. let sk = fits.slot_in κ.fn k has in let n : slot_place S κ k ≢ x = λ e. omega (arith, sk, d, hi, e, h.stack.low) in subst (λ z. Stands (length s.objects) place (cells (Slot k)) z) (sym (written_other a.memory x v (slot_place S κ k) n)) (h.temps.in_slots k has);
    };
    ranges = h.ranges;
    objects = record { at = λ o i l lt. let w = cell_wide S fits κ s place o i h.ranges l lt in let n : place o + i ≢ x = λ e. elim (low_free κ s cells place a o i h l w) [ inl y ↦ omega (arith, y, e, lo) | inr y ↦ omega (arith, y, e, hi) ] in subst (λ z. Stands (length s.objects) place (cell_at (object_at s.objects o) i) z) (sym (written_other a.memory x v (place o + i) n)) (h.objects.at o i l lt); lives = h.objects.lives };
    kept = record {
      fixed = h.kept.fixed;
      same = λ b e. let up = h.kept.above b e in let n : b ≢ x = λ q. omega (arith, up, q, hi) in written_other a.memory x v b n ∙ h.kept.same b e;
      above = h.kept.above;
    };
    stack = h.stack;
  }

  pub room_of : (κ : Ctx) (s : Store) (cells : Where → Cell) (place : ℕ → ℕ) (a : Addr) (f : ℕ) → Callable S f → HoldsAt S κ s cells place a → s.used + ((sizes S).frame f + 2) + (sizes S).globals ≤ 4194304 → (sizes S).globals + (S.whole.frames f).size + 2 ≤ top_of S κ
  room_of κ s cells place a f c h le = let d = fits.depth_in κ.fn in omega (arith, h.stack.used_is, h.stack.low, h.stack.high, c.frame, le, d)

  pub enter_holds : (κ : Ctx) (s : Store) (cells : Where → Cell) (place : ℕ → ℕ) (a b : Addr) (f : ℕ) (params : List Where) (args : List Cell) → Callable S f → HoldsAt S κ s cells place a → depth_of S κ.fn ≡ (S.whole.frames κ.fn).size → s.used + ((sizes S).frame f + 2) + (sizes S).globals ≤ 4194304 → b.memory ≡ a.memory → b.base ≡ below S κ f → b.top + (S.whole.frames f).size ≡ below S κ f →
      Temps S (inner S κ f s.objects place a.memory) (length s.objects) place (received registers_and_slots params args) b.regs b.memory → HoldsAt S (inner S κ f s.objects place a.memory) (entered (sizes S) f s) (received registers_and_slots params args) place b
  enter_holds κ s cells place a b f params args c h dk fit em eb et temps =
      let room = room_of κ s cells place a f c h fit in
      let high : below S κ f ≤ 0x400000 = omega (arith, h.stack.high) in
      record {
        temps = temps;
        ranges = record {
          inside = h.ranges.inside;
          ends = h.ranges.ends;
          cards = h.ranges.cards;
          apart = h.ranges.apart;
          outer = λ o i q l lt. elim (low_free κ s cells place a o i h l lt) [ inl x ↦ inl x | inr x ↦ inr (omega (arith, x)) ];
          mine = λ o q l. let z = lives_below s.objects o l in absurd (omega (arith, q, z));
          local = λ k o lt e. absurd (nones (length ((sizes S).locals f)) k o e);
          local_wide = λ k o lt e l. absurd (nones (length ((sizes S).locals f)) k o e);
          first_in = omega arith;
          old_lives = λ o q l. (l, refl);
          old_place = λ o q. refl;
          kept_apart = λ o i l lt. uncovered_not (below S κ f) s.objects place o i l lt;
        };
        objects = record { at = λ o i l lt. subst (λ m. Stands (length s.objects) place (cell_at (object_at s.objects o) i) (m (place o + i))) (sym em) (h.objects.at o i l lt); lives = h.objects.lives };
        kept = record {
          fixed = λ o q. let g = h.kept.fixed o q in (omega (arith, g.0, h.ranges.first_in), h.ranges.old_place o g.0 ∙ g.1);
          same = λ q e. ap (λ m. m q) em;
          above = λ q e. uncovered_from (below S κ f) s.objects place q e;
        };
        stack = record {
          called_as = sym c.called_as;
          locals_are = length-replicate (length ((sizes S).locals f)) None ∙ ap length (sym (fits.locals_are f f c.called_as));
          base_is = eb;
          top_is = omega (arith, et, c.depth);
          low = omega (arith, room);
          high = high;
          used_is = omega (arith, h.stack.used_is, room, h.stack.low, c.frame, c.depth, dk);
        };
      }

  -- words at the new frame's end and above that no object covers stay
  stays : (κ : Ctx) (s v : Store) (cells' : Where → Cell) (place memory place' : ℕ → ℕ) (b : Addr) (f q : ℕ) → HoldsAt S (inner S κ f s.objects place memory) v cells' place' b → below S κ f ≤ q → ((o i : ℕ) → Lives s.objects o → i < wide s.objects o → q ≢ place o + i) → b.memory q ≡ memory q
  stays κ s v cells' place memory place' b f q h' le free = h'.kept.same q (uncovered_yes (below S κ f) s.objects place q le free)

  -- the words of the link
  pub link_stays : (κ : Ctx) (s v : Store) (cells cells' : Where → Cell) (place memory place' : ℕ → ℕ) (a b : Addr) (f q : ℕ) → HoldsAt S κ s cells place a → HoldsAt S (inner S κ f s.objects place memory) v cells' place' b → (sizes S).globals ≤ q → below S κ f ≤ q → q < top_of S κ → b.memory q ≡ memory q
  link_stays κ s v cells cells' place memory place' a b f q h h' g le hi = stays κ s v cells' place memory place' b f q h' le (λ o i l lt e. elim (low_free κ s cells place a o i h l lt) [ inl x ↦ omega (arith, x, e, g) | inr x ↦ omega (arith, x, e, hi) ])

  pub back_holds : (κ : Ctx) (s v : Store) (cells cells' : Where → Cell) (place place' : ℕ → ℕ) (a b c : Addr) (f : ℕ) → HoldsAt S κ s cells place a → depth_of S κ.fn ≡ (S.whole.frames κ.fn).size → HoldsAt S (inner S κ f s.objects place a.memory) v cells' place' b → c.memory ≡ b.memory → c.base ≡ κ.base → c.top + depth_of S κ.fn ≡ κ.base → HoldsAt S κ (returned_to s v) (after_call registers_and_slots cells) place' c
  back_holds κ s v cells cells' place place' a b c f h dk h' em eb et = record {
    temps = record {
      in_regs = λ r lt. tt;
      in_slots = λ k has.
          let sk = fits.slot_in κ.fn k has in
          let e = stays κ s v cells' place a.memory place' b f (slot_place S κ k) h' (omega (arith, sk, dk, h.stack.low)) (λ o i l lt e. slot_free S fits κ s cells place a k o i h has l lt (sym e)) in
          subst (λ z. Stands (length (end_from (length s.objects) v.objects)) place' (cells (Slot k)) z) (sym (ap (λ m. m (slot_place S κ k)) em ∙ e))
          (stands_more (length s.objects) (length (end_from (length s.objects) v.objects)) place place' (cells (Slot k)) (a.memory (slot_place S κ k)) (omega (arith, h'.ranges.first_in, length_end_from (length s.objects) v.objects)) (λ o lt. h'.ranges.old_place o lt) (h.temps.in_slots k has));
    };
    ranges = record {
      inside = λ o i l lt. let x = was o l in subst (λ k. InRegion S.console k (place' o + i)) (sym x.1.kind) (h'.ranges.inside o i x.0 (subst (λ n. i < n) x.1.wide lt));
      ends = λ o l. let x = was o l in let e = h'.ranges.ends o x.0 in omega (arith, e, x.1.wide);
      cards = λ o l. (was o l).1.card;
      apart = λ o p i j l m lt lt' e. let x = was o l in let y = was p m in h'.ranges.apart o p i j x.0 y.0 (subst (λ n. i < n) x.1.wide lt) (subst (λ n. j < n) y.1.wide lt') e;
      outer = λ o i q l lt. let z = older o l in subst (λ y. (y + i < (sizes S).globals) ⊎ (κ.base ≤ y + i)) (sym z.2) (h.ranges.outer o i q z.1 (subst (λ n. i < n) z.3 lt));
      mine = λ o q l. h.ranges.mine o q (older o l).1;
      local = λ k o lt e. let q = h.ranges.local k o lt e in (q.0, omega (arith, q.1, h'.ranges.first_in, length_end_from (length s.objects) v.objects), ap (λ z. z + ((S.whole.frames κ.fn).size - local_offset S κ.fn k)) (h'.ranges.old_place o q.1) ∙ q.2);
      local_wide = λ k o lt e l. let z = older o l in z.3 ∙ h.ranges.local_wide k o lt e z.1;
      first_in = omega (arith, h.ranges.first_in, h'.ranges.first_in, length_end_from (length s.objects) v.objects);
      old_lives = λ o q l. let z = older o l in let y = h.ranges.old_lives o q z.1 in (y.0, z.3 ∙ y.1);
      old_place = λ o q. h'.ranges.old_place o (omega (arith, q, h.ranges.first_in)) ∙ h.ranges.old_place o q;
      kept_apart = λ o i l lt. let z = older o l in ap (λ y. κ.keep (y + i)) z.2 ∙ h.ranges.kept_apart o i z.1 (subst (λ n. i < n) z.3 lt);
    };
    objects = subst (λ m. Cells (end_from (length s.objects) v.objects) place' m) (sym em) (cells_less S fits v.objects (end_from (length s.objects) v.objects) place' b.memory (length_end_from (length s.objects) v.objects) (λ o l. (end_from_lives (length s.objects) v.objects o l).1) (λ o i lt. end_from_living (length s.objects) v.objects o i h'.objects.lives lt) h'.objects);
    kept = record {
      fixed = h.kept.fixed;
      same = λ q e. let up = h.kept.above q e in ap (λ m. m q) em ∙ stays κ s v cells' place a.memory place' b f q h' (omega (arith, up)) (λ o i l lt z. not_false (κ.keep q) e (ap κ.keep z ∙ h.ranges.kept_apart o i l lt)) ∙ h.kept.same q e;
      above = h.kept.above;
    };
    stack = record { called_as = h.stack.called_as; locals_are = h.stack.locals_are; base_is = eb; top_is = et; low = h.stack.low; high = h.stack.high; used_is = h.stack.used_is };
  }
    where
      was : (o : ℕ) → Lives (end_from (length s.objects) v.objects) o → Lives v.objects o × Alike S.console (object_at (end_from (length s.objects) v.objects) o) (object_at v.objects o)
      was o l = same_was S fits (inner S κ f s.objects place a.memory) v.objects (end_from (length s.objects) v.objects) place' v.locals h'.ranges (λ p m. (end_from_lives (length s.objects) v.objects p m).1) o l

      older : (o : ℕ) → Lives (end_from (length s.objects) v.objects) o → (o < length s.objects) × Lives s.objects o × (place' o ≡ place o) × (wide (end_from (length s.objects) v.objects) o ≡ wide s.objects o)
      older o l =
          let x = was o l in
          let b : o < length s.objects = (end_from_lives (length s.objects) v.objects o l).0 in
          let y = h'.ranges.old_lives o b x.0 in
          (b, y.0, h'.ranges.old_place o b, x.1.wide ∙ y.1)
