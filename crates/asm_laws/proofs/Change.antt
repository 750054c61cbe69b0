-- Objects that change: a store, an end, a new local.
use Rattle.std.proofs.Common.{◌≡◌, ◌≢◌, ℕ, zero, suc, ◌+◌, ◌<◌, ◌≤◌, ◌⊎◌, inl, inr, Bool, true, false, List, [], ◌∷◌, length, Option, refl, sym, ap, ◌∙◌, subst, arith}
use Rattle.std.specs.Prelude.{get_or, set, cond, ◌==◌}
use Rattle.std.proofs.lemmas.List.{length-set, get_or-set_same, get_or-set_other}
use Rattle.v32_isa.specs.State.{written}
use Rattle.obj_mem.specs.declared.cell.Cell.{Cell}
use Rattle.obj_mem.specs.declared.cell.Cell.TheVariants.{Unwritten}
use Rattle.obj_mem.specs.declared.cell.ObjectKind.{ObjectKind}
use Rattle.obj_mem.specs.declared.cell.ObjectKind.TheVariants as kind
use Rattle.obj_mem.specs.Objects.{ObjectT, object_at, cell_at, with_cell, extent, is_card, card_words}
use Rattle.obj_mem.specs.Stores.{Store, with_objects, end_local}
use Rattle.mid_code.specs.declared.placed.Where.{Where}
use Rattle.mid_code.specs.declared.placed.Where.TheVariants.{Reg, Slot}
use Rattle.asm_laws.specs.Addresses.{Addr, Console, store}
use Rattle.asm_laws.proofs.Stepping.{same_or_not, written_same, written_other}
use Rattle.asm_laws.specs.Holds.{Setting, Fits, Ctx, slot_place, Lives, Stands, InRegion, CardAs, Temps, Ranges, Cells, HoldsAt}
use Rattle.asm_laws.proofs.Lists.{lives_below, object_same, object_other, length_end_local, end_local_lives, end_local_living}
use Rattle.asm_laws.proofs.First.{stands_more, cell_wide, slot_free}

-- what is said of an object but its cells
pub record Alike (C : Console) (x y : ObjectT) : Type 0 where
  pub kind : x.kind ≡ y.kind
  pub wide : extent x ≡ extent y
  pub card : CardAs C x.kind x.cells

pub not_false : (b : Bool) → b ≡ true → b ≡ false → ⊥
not_false b e f = let g : true ≡ false = sym e ∙ f in cc

pub to_false : (b : Bool) → (b ≡ true → ⊥) → b ≡ false
to_false true h = absurd (h refl)
to_false false h = refl

pub alike_same : (C : Console) (x y : ObjectT) → x ≡ y → CardAs C y.kind y.cells → Alike C x y
alike_same C x y e c = record { kind = ap (λ z. z.kind) e; wide = ap extent e; card = subst (λ z. CardAs C z.kind z.cells) (sym e) c }

-- fewer objects live, as wide as before
pub ranges_less : (S : Setting) (κ : Ctx) (os os' : List ObjectT) (place : ℕ → ℕ) (locals : List (Option ℕ)) → length os' ≡ length os → ((o : ℕ) → Lives os' o → Lives os o × Alike S.console (object_at os' o) (object_at os o)) → Ranges S κ os place locals → Ranges S κ os' place locals
ranges_less S κ os os' place locals len was r = record {
  inside = λ o i l lt. let x = was o l in subst (λ k. InRegion S.console k (place o + i)) (sym x.1.kind) (r.inside o i x.0 (subst (λ n. i < n) x.1.wide lt));
  ends = λ o l. let x = was o l in let e = r.ends o x.0 in omega (arith, e, x.1.wide);
  cards = λ o l. (was o l).1.card;
  apart = λ o p i j l m lt lt' e. let x = was o l in let y = was p m in r.apart o p i j x.0 y.0 (subst (λ n. i < n) x.1.wide lt) (subst (λ n. j < n) y.1.wide lt') e;
  outer = λ o i b l lt. let x = was o l in r.outer o i b x.0 (subst (λ n. i < n) x.1.wide lt);
  mine = λ o b l. r.mine o b (was o l).0;
  local = λ k o lt e. let x = r.local k o lt e in (x.0, omega (arith, x.1, len), x.2);
  local_wide = λ k o lt e l. let x = was o l in x.1.wide ∙ r.local_wide k o lt e x.0;
  first_in = omega (arith, r.first_in, len);
  old_lives = λ o b l. let x = was o l in let y = r.old_lives o b x.0 in (y.0, x.1.wide ∙ y.1);
  old_place = r.old_place;
  kept_apart = λ o i l lt. let x = was o l in r.kept_apart o i x.0 (subst (λ n. i < n) x.1.wide lt);
}

pub temps_more : (S : Setting) (κ : Ctx) (n n' : ℕ) (place place' : ℕ → ℕ) (cells : Where → Cell) (regs memory : ℕ → ℕ) → n ≤ n' → ((o : ℕ) → o < n → place' o ≡ place o) → Temps S κ n place cells regs memory → Temps S κ n' place' cells regs memory
temps_more S κ n n' place place' cells regs memory le same t = record {
  in_regs = λ r lt. stands_more n n' place place' (cells (Reg r)) (regs r) le same (t.in_regs r lt);
  in_slots = λ k has. stands_more n n' place place' (cells (Slot k)) (memory (slot_place S κ k)) le same (t.in_slots k has);
}

-- ---- a store

abbrev pub stored : List ObjectT → ℕ → ℕ → Cell → List ObjectT
stored os o i c = set os o (with_cell (object_at os o) i c)

extent_set : (k : ObjectKind) (l : Bool) (cs : List Cell) (i : ℕ) (c : Cell) → extent (record { kind = k; lives = l; cells = set cs i c }) ≡ extent (record { kind = k; lives = l; cells = cs })
extent_set k l cs i c = ap (λ n. cond (is_card k) card_words n) (length-set cs i c)

card_set : (C : Console) (k : ObjectKind) (cs : List Cell) (i : ℕ) (c : Cell) → CardAs C k cs → CardAs C k (set cs i c)
card_set C kind.Global cs i c h = tt
card_set C kind.Local cs i c h = tt
card_set C kind.Literal cs i c h = tt
card_set C kind.Card [] i c h = h
card_set C kind.Card (d ∷ cs) zero c h = h
card_set C kind.Card (d ∷ cs) (suc i) c h = (h.0, ap suc (length-set cs i c) ∙ h.1)

stored_was : (C : Console) (os : List ObjectT) (o i : ℕ) (c : Cell) → ((p : ℕ) → Lives os p → CardAs C (object_at os p).kind (object_at os p).cells) → Lives os o → (p : ℕ) → Lives (stored os o i c) p → Lives os p × Alike C (object_at (stored os o i c) p) (object_at os p)
stored_was C os o i c cards l p k = elim (same_or_not p o) [
  | inl x ↦
      let y = object_at os o in
      let e : object_at (stored os o i c) p ≡ with_cell y i c = object_same os o p (with_cell y i c) x.0 (lives_below os o l) in
      let q : object_at os p ≡ y = ap (object_at os) x.0 in
      let same : Alike C (with_cell y i c) y = record { kind = refl; wide = extent_set y.kind y.lives y.cells i c; card = card_set C y.kind y.cells i c (cards o l) } in
      (ap (λ z. z.lives) q ∙ l, subst (λ z. Alike C z (object_at os p)) (sym e) (subst (λ z. Alike C (with_cell y i c) z) (sym q) same))
  | inr x ↦ let e = object_other os o p (with_cell (object_at os o) i c) x.0 in let w : Lives os p = sym (ap (λ z. z.lives) e) ∙ k in (w, alike_same C (object_at (stored os o i c) p) (object_at os p) e (cards p w))
]

stored_cells : (os : List ObjectT) (place memory : ℕ → ℕ) (o i v : ℕ) (c : Cell) → Lives os o → i < length (object_at os o).cells → ((p : ℕ) → Lives (stored os o i c) p → Lives os p) →
    ((p j : ℕ) → Lives os p → j < length (object_at os p).cells → place p + j ≡ place o + i → p ≡ o) → Stands (length os) place c v → Cells os place memory → Cells (stored os o i c) place (written memory (place o + i) v)
stored_cells os place memory o i v c l lt was apart rep cs = record { at = λ p j k kt. stands_more (length os) (length (stored os o i c)) place place (cell_at (object_at (stored os o i c) p) j) (written memory (place o + i) v (place p + j)) (omega (arith, length-set os o (with_cell (object_at os o) i c))) (λ q b. refl) (go p j k kt (same_or_not p o) (same_or_not j i)); lives = λ p j kt. living p j kt (same_or_not p o) }
  where
    here : (p : ℕ) → p ≡ o → object_at (stored os o i c) p ≡ with_cell (object_at os o) i c
    here p e = object_same os o p (with_cell (object_at os o) i c) e (lives_below os o l)

    there : (p : ℕ) → p ≢ o → object_at (stored os o i c) p ≡ object_at os p
    there p n = object_other os o p (with_cell (object_at os o) i c) n

    still : (p j : ℕ) → Lives os p → j < length (object_at os p).cells → place p + j ≢ place o + i → cell_at (object_at (stored os o i c) p) j ≡ cell_at (object_at os p) j → Stands (length os) place (cell_at (object_at (stored os o i c) p) j) (written memory (place o + i) v (place p + j))
    still p j k kt n e = subst (λ z. Stands (length os) place z (written memory (place o + i) v (place p + j))) (sym e) (subst (λ z. Stands (length os) place (cell_at (object_at os p) j) z) (sym (written_other memory (place o + i) v (place p + j) n)) (cs.at p j k kt))

    living : (p j : ℕ) → j < length (object_at (stored os o i c) p).cells → ((p ≡ o) × ((p == o) ≡ true)) ⊎ ((p ≢ o) × ((p == o) ≡ false)) → Lives (stored os o i c) p
    living p j kt (inl x) = ap (λ y. y.lives) (here p x.0) ∙ l
    living p j kt (inr x) = ap (λ y. y.lives) (there p x.0) ∙ cs.lives p j (subst (λ y. j < length y.cells) (there p x.0) kt)

    size : (p : ℕ) → p ≡ o → length (object_at (stored os o i c) p).cells ≡ length (object_at os p).cells
    size p e = ap (λ y. length y.cells) (here p e) ∙ length-set (object_at os o).cells i c ∙ ap (λ q. length (object_at os q).cells) (sym e)

    go : (p j : ℕ) → Lives (stored os o i c) p → j < length (object_at (stored os o i c) p).cells → ((p ≡ o) × ((p == o) ≡ true)) ⊎ ((p ≢ o) × ((p == o) ≡ false)) → ((j ≡ i) × ((j == i) ≡ true)) ⊎ ((j ≢ i) × ((j == i) ≡ false)) → Stands (length os) place (cell_at (object_at (stored os o i c) p) j) (written memory (place o + i) v (place p + j))
    go p j k kt (inl x) (inl z) =
        let e : cell_at (object_at (stored os o i c) p) j ≡ c = ap (λ y. cell_at y j) (here p x.0) ∙ ap (λ q. get_or (set (object_at os o).cells i c) q Unwritten) z.0 ∙ get_or-set_same (object_at os o).cells i c Unwritten lt in
        let m : place p + j ≡ place o + i = ap (λ q. place q + j) x.0 ∙ ap (λ q. place o + q) z.0 in
        subst (λ q. Stands (length os) place q (written memory (place o + i) v (place p + j))) (sym e) (subst (λ q. Stands (length os) place c q) (sym (written_same memory (place o + i) v (place p + j) m)) rep)
    go p j k kt (inl x) (inr z) =
        let ex = ap place x.0 in
        still p j (was p k) (subst (λ n. j < n) (size p x.0) kt) (λ e. z.0 (omega (arith, e, ex))) (ap (λ y. cell_at y j) (here p x.0) ∙ get_or-set_other (object_at os o).cells i j c Unwritten z.0 ∙ ap (λ q. cell_at (object_at os q) j) (sym x.0))
    go p j k kt (inr x) z =
        let w = was p k in
        let kt' : j < length (object_at os p).cells = subst (λ y. j < length y.cells) (there p x.0) kt in
        still p j w kt' (λ e. x.0 (apart p j w kt' e)) (ap (λ y. cell_at y j) (there p x.0))

module _ (S : Setting) (fits : Fits S) where
  pub store_holds : (κ : Ctx) (s : Store) (cells : Where → Cell) (place : ℕ → ℕ) (a : Addr) (o i v : ℕ) (c : Cell) → HoldsAt S κ s cells place a → Lives s.objects o → i < length (object_at s.objects o).cells → Stands (length s.objects) place c v → HoldsAt S κ (with_objects (stored s.objects o i c) s) cells place (store (place o + i) v a)
  store_holds κ s cells place a o i v c h l lt rep =
      let os = s.objects in
      let wi = cell_wide S fits κ s place o i h.ranges l lt in
      let was = stored_was S.console os o i c h.ranges.cards l in
      record {
        temps = temps_more S κ (length os) (length (stored os o i c)) place place cells a.regs (written a.memory (place o + i) v) (omega (arith, length-set os o (with_cell (object_at os o) i c))) (λ q b. refl) (record {
          in_regs = h.temps.in_regs;
          in_slots = λ k has. let n : slot_place S κ k ≢ place o + i = λ e. slot_free S fits κ s cells place a k o i h has l wi (sym e) in subst (λ z. Stands (length os) place (cells (Slot k)) z) (sym (written_other a.memory (place o + i) v (slot_place S κ k) n)) (h.temps.in_slots k has);
        });
        ranges = ranges_less S κ os (stored os o i c) place s.locals (length-set os o (with_cell (object_at os o) i c)) was h.ranges;
        objects = stored_cells os place a.memory o i v c l lt (λ p k. (was p k).0) (λ p j k kt e. h.ranges.apart p o j i k l (cell_wide S fits κ s place p j h.ranges k kt) wi e) rep h.objects;
        kept = record {
          fixed = h.kept.fixed;
          same = λ b e. written_other a.memory (place o + i) v b (λ x. not_false (κ.keep b) e (ap κ.keep x ∙ h.ranges.kept_apart o i l wi)) ∙ h.kept.same b e;
          above = h.kept.above;
        };
        stack = h.stack;
      }

  -- ---- an end

  pub cells_less : (os os' : List ObjectT) (place memory : ℕ → ℕ) → length os' ≡ length os → ((o : ℕ) → Lives os' o → object_at os' o ≡ object_at os o) → ((o i : ℕ) → i < length (object_at os' o).cells → Lives os' o) → Cells os place memory → Cells os' place memory
  cells_less os os' place memory len same living cs = record {
    lives = living;
    at = λ o i l lt.
        let e = same o l in
        let w : Lives os o = sym (ap (λ z. z.lives) e) ∙ l in
        stands_more (length os) (length os') place place (cell_at (object_at os' o) i) (memory (place o + i)) (omega (arith, len)) (λ q b. refl) (subst (λ z. Stands (length os) place (cell_at z i) (memory (place o + i))) (sym e) (cs.at o i w (subst (λ z. i < length z.cells) e lt)));
  }

  pub same_was : (κ : Ctx) (os os' : List ObjectT) (place : ℕ → ℕ) (locals : List (Option ℕ)) → Ranges S κ os place locals → ((o : ℕ) → Lives os' o → object_at os' o ≡ object_at os o) → (o : ℕ) → Lives os' o → Lives os o × Alike S.console (object_at os' o) (object_at os o)
  same_was κ os os' place locals r same o l =
      let e = same o l in
      let w : Lives os o = sym (ap (λ z. z.lives) e) ∙ l in
      (w, alike_same S.console (object_at os' o) (object_at os o) e (r.cards o w))

  pub close_holds : (κ : Ctx) (s : Store) (cells : Where → Cell) (place : ℕ → ℕ) (a : Addr) (q : Option ℕ) → HoldsAt S κ s cells place a → HoldsAt S κ (with_objects (end_local q s.objects) s) cells place a
  close_holds κ s cells place a q h =
      let os = s.objects in
      let os' = end_local q os in
      let same : (o : ℕ) → Lives os' o → object_at os' o ≡ object_at os o = λ o l. (end_local_lives q os o l).0 in
      record {
        temps = temps_more S κ (length os) (length os') place place cells a.regs a.memory (omega (arith, length_end_local q os)) (λ o b. refl) h.temps;
        ranges = ranges_less S κ os os' place s.locals (length_end_local q os) (same_was κ os os' place s.locals h.ranges same) h.ranges;
        objects = cells_less os os' place a.memory (length_end_local q os) same (λ o i lt. end_local_living q os o i h.objects.lives lt) h.objects;
        kept = h.kept;
        stack = h.stack;
      }
