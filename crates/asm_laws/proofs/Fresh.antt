-- A local that is made.
use Rattle.std.proofs.Common.{◌≡◌, ◌≢◌, ℕ, ◌+◌, ◌-◌, ◌<◌, ◌≤◌, ◌⊎◌, inl, inr, true, false, List, [], ◌∷◌, ◌++◌, length, Option, Some, None, refl, sym, ap, ◌∙◌, subst, arith, length-append}
use Rattle.std.specs.Prelude.{get_or, set, ◌==◌}
use Rattle.std.proofs.lemmas.List.{length-set, length-replicate, get_or_past}
use Rattle.v32_isa.specs.State.{written}
use Rattle.obj_mem.specs.declared.cell.ObjectKind.TheVariants as kind
use Rattle.obj_mem.specs.Objects.{ObjectT, ended, object, unwritten, object_at, cell_at, extent, made}
use Rattle.obj_mem.specs.Stores.{Store, local_object, end_local, words_here, fresh}
use Rattle.mid_code.specs.declared.placed.Where.{Where}
use Rattle.obj_mem.specs.declared.cell.Cell.{Cell}
use Rattle.asm_laws.specs.Addresses.{Addr}
use Rattle.asm_laws.proofs.Stepping.{same_or_not, written_same, written_other}
use Rattle.asm_laws.specs.Holds.{Setting, sizes, local_offset, local_words, Fits, Ctx, Lives, wide, Stands, InRegion, CardAs, Ranges, Cells, HoldsAt}
use Rattle.asm_laws.proofs.Lists.{below_or_not, lives_below, object_old, object_new, length_end_local, end_local_lives, end_local_living, local_same, local_other, unwritten_cells}
use Rattle.asm_laws.proofs.First.{stands_more}
use Rattle.asm_laws.proofs.Change.{to_false, ranges_less, same_was, cells_less, temps_more}

-- an object of so many words
abbrev pub local_of : ℕ → ObjectT
local_of n = object kind.Local (unwritten n)

-- no local that lives, but that one, shares a word with a local
abbrev pub Clear : (S : Setting) → Ctx → List ObjectT → List (Option ℕ) → ℕ → Type 0
Clear S κ os locals k = (j o i h : ℕ) → j < length (S.locals κ.fn) → Lives os o → local_object locals j ≡ Some o → i < local_words S κ.fn j → h < local_words S κ.fn k → local_offset S κ.fn j + i ≡ local_offset S κ.fn k + h → j ≡ k

module _ (S : Setting) (fits : Fits S) where
  -- where the words of a local stand
  abbrev pub local_place : Ctx → ℕ → ℕ
  local_place κ k = κ.base - ((S.whole.frames κ.fn).size - local_offset S κ.fn k)

  -- one more object, a local that does not live
  made_ranges : (κ : Ctx) (os : List ObjectT) (place : ℕ → ℕ) (locals : List (Option ℕ)) (k N : ℕ) → N ≡ length os → k < length locals → length locals ≡ length (S.locals κ.fn) → (sizes S).globals + (S.whole.frames κ.fn).size ≤ κ.base → κ.base ≤ 0x400000 →
      ((p : ℕ) → Lives os p → local_object locals k ≢ Some p) → ((b : ℕ) → κ.keep b ≡ true → κ.base ≤ b) → Clear S κ os locals k → Ranges S κ os place locals → Ranges S κ (os ++ local_of (local_words S κ.fn k) ∷ []) (written place N (local_place κ k)) (set locals k (Some N))
  made_ranges κ os place locals k N en lk ln low top free above clear r = record {
    inside = λ o i l lt. elim (old_or_new o l) [
      | inl x ↦ subst (λ p. InRegion S.console (object_at (os ++ local_of (local_words S κ.fn k) ∷ []) o).kind (p + i)) (sym (old_place o x.0)) (subst (λ y. InRegion S.console y.kind (place o + i)) (sym (old_obj o x.0)) (r.inside o i x.1 (subst (λ n. i < n) (old_wide o x.0) lt)))
      | inr x ↦ let s = new_wide o x in subst (λ p. InRegion S.console (object_at (os ++ local_of (local_words S κ.fn k) ∷ []) o).kind (p + i)) (sym (new_place o x)) (subst (λ y. InRegion S.console y.kind (local_place κ k + i)) (sym (new_obj o x)) (omega (arith, s, lt, f, low, top)))
    ];
    ends = λ o l. elim (old_or_new o l) [
      | inl x ↦ let e = r.ends o x.1 in omega (arith, e, old_place o x.0, old_wide o x.0)
      | inr x ↦ omega (arith, new_place o x, new_wide o x, f, low, top)
    ];
    cards = λ o l. elim (old_or_new o l) [
      | inl x ↦ subst (λ y. CardAs S.console y.kind y.cells) (sym (old_obj o x.0)) (r.cards o x.1)
      | inr x ↦ subst (λ y. CardAs S.console y.kind y.cells) (sym (new_obj o x)) tt
    ];
    apart = λ o p i j l m lt lt' e. go o p i j l m lt lt' e (old_or_new o l) (old_or_new p m);
    outer = λ o i b l lt. let b' : o < N = omega (arith, b, en, r.first_in) in let e = old_place o b' in subst (λ z. (z + i < (sizes S).globals) ⊎ (κ.base ≤ z + i)) (sym e) (r.outer o i b (old_lives o b' l) (subst (λ n. i < n) (old_wide o b') lt));
    mine = λ o b l. elim (old_or_new o l) [
      | inl x ↦ let m = r.mine o b x.1 in let n : m.0 ≢ k = λ e. free o x.1 (ap (local_object locals) (sym e) ∙ m.2) in (m.0, omega (arith, m.1, length-set locals k (Some N)), local_other locals k m.0 N n ∙ m.2)
      | inr x ↦ (k, omega (arith, lk, length-set locals k (Some N)), local_same locals k k N refl lk ∙ ap Some (sym x))
    ];
    local = λ q o lt e. local_at q o (omega (arith, lt, length-set locals k (Some N))) e (same_or_not q k);
    local_wide = λ q o lt e l. local_size q o (omega (arith, lt, length-set locals k (Some N))) e l (same_or_not q k);
    first_in = omega (arith, r.first_in, length-append os (local_of (local_words S κ.fn k) ∷ []));
    old_lives = λ o b l. let b' : o < N = omega (arith, b, en, r.first_in) in let y = r.old_lives o b (old_lives o b' l) in (y.0, old_wide o b' ∙ y.1);
    old_place = λ o b. old_place o (omega (arith, b, en, r.first_in)) ∙ r.old_place o b;
    kept_apart = λ o i l lt. elim (old_or_new o l) [
      | inl x ↦ ap (λ z. κ.keep (z + i)) (old_place o x.0) ∙ r.kept_apart o i x.1 (subst (λ n. i < n) (old_wide o x.0) lt)
      | inr x ↦ let s = new_wide o x in to_false (κ.keep (written place N (local_place κ k) o + i)) (λ t. let u = above (written place N (local_place κ k) o + i) t in omega (arith, new_place o x, s, f, lt, u, low, top))
    ];
  }
    where
      f : local_offset S κ.fn k + local_words S κ.fn k ≤ (S.whole.frames κ.fn).size
      f = fits.local_in κ.fn k (omega (arith, lk, ln))

      old_place : (o : ℕ) → o < N → written place N (local_place κ k) o ≡ place o
      old_place o b = written_other place N (local_place κ k) o (omega (arith, b))

      new_place : (o : ℕ) → o ≡ N → written place N (local_place κ k) o ≡ local_place κ k
      new_place o e = written_same place N (local_place κ k) o e

      old_obj : (o : ℕ) → o < N → object_at (os ++ local_of (local_words S κ.fn k) ∷ []) o ≡ object_at os o
      old_obj o b = object_old os (local_of (local_words S κ.fn k)) o (omega (arith, b, en))

      new_obj : (o : ℕ) → o ≡ N → object_at (os ++ local_of (local_words S κ.fn k) ∷ []) o ≡ local_of (local_words S κ.fn k)
      new_obj o e = object_new os (local_of (local_words S κ.fn k)) o (e ∙ en)

      old_wide : (o : ℕ) → o < N → wide (os ++ local_of (local_words S κ.fn k) ∷ []) o ≡ wide os o
      old_wide o b = ap extent (old_obj o b)

      new_wide : (o : ℕ) → o ≡ N → wide (os ++ local_of (local_words S κ.fn k) ∷ []) o ≡ local_words S κ.fn k
      new_wide o e = ap extent (new_obj o e) ∙ length-replicate (local_words S κ.fn k) _

      old_lives : (o : ℕ) → o < N → Lives (os ++ local_of (local_words S κ.fn k) ∷ []) o → Lives os o
      old_lives o b l = sym (ap (λ y. y.lives) (old_obj o b)) ∙ l

      old_or_new : (o : ℕ) → Lives (os ++ local_of (local_words S κ.fn k) ∷ []) o → ((o < N) × Lives os o) ⊎ (o ≡ N)
      old_or_new o l = elim (below_or_not o N) [
        | inl b ↦ inl (b, old_lives o b l)
        | inr b ↦ let c = lives_below (os ++ local_of (local_words S κ.fn k) ∷ []) o l in inr (omega (arith, b, en, c, length-append os (local_of (local_words S κ.fn k) ∷ [])))
      ]

      -- a word of an old object is none of the new one
      cross : (o p i j : ℕ) → Lives os o → i < wide os o → j < local_words S κ.fn k → place o + i ≢ local_place κ k + j
      cross o p i j l lt lt' e = elim (below_or_not o κ.first) [
        | inl b ↦ elim (r.outer o i b l lt) [ inl z ↦ omega (arith, e, z, f, lt', low) | inr z ↦ omega (arith, e, z, f, lt', low) ]
        | inr b ↦
            let m = r.mine o b l in
            let q = r.local m.0 o m.1 m.2 in
            let w = r.local_wide m.0 o m.1 m.2 l in
            let mb : m.0 < length (S.locals κ.fn) = omega (arith, m.1, ln) in
            let g = fits.local_in κ.fn m.0 mb in
            let i' : i < local_words S κ.fn m.0 = omega (arith, lt, w) in
            let s : m.0 ≡ k = clear m.0 o i j mb l m.2 i' lt' (omega (arith, e, q.2, f, g, i', lt', low)) in
            free o l (ap (local_object locals) (sym s) ∙ m.2)
      ]

      go : (o p i j : ℕ) → Lives (os ++ local_of (local_words S κ.fn k) ∷ []) o → Lives (os ++ local_of (local_words S κ.fn k) ∷ []) p → i < wide (os ++ local_of (local_words S κ.fn k) ∷ []) o → j < wide (os ++ local_of (local_words S κ.fn k) ∷ []) p → written place N (local_place κ k) o + i ≡ written place N (local_place κ k) p + j → ((o < N) × Lives os o) ⊎ (o ≡ N) → ((p < N) × Lives os p) ⊎ (p ≡ N) → o ≡ p
      go o p i j l m lt lt' e (inl x) (inl y) = r.apart o p i j x.1 y.1 (subst (λ n. i < n) (old_wide o x.0) lt) (subst (λ n. j < n) (old_wide p y.0) lt') (omega (arith, e, old_place o x.0, old_place p y.0))
      go o p i j l m lt lt' e (inl x) (inr y) = absurd (cross o p i j x.1 (subst (λ n. i < n) (old_wide o x.0) lt) (subst (λ n. j < n) (new_wide p y) lt') (omega (arith, e, old_place o x.0, new_place p y)))
      go o p i j l m lt lt' e (inr x) (inl y) = absurd (cross p o j i y.1 (subst (λ n. j < n) (old_wide p y.0) lt') (subst (λ n. i < n) (new_wide o x) lt) (omega (arith, e, old_place p y.0, new_place o x)))
      go o p i j l m lt lt' e (inr x) (inr y) = x ∙ sym y

      new_number : (q o : ℕ) → local_object (set locals k (Some N)) q ≡ Some o → q ≡ k → o ≡ N
      new_number q o e x = let s : Some N ≡ Some o = sym (local_same locals k q N x lk) ∙ e in cc

      local_at : (q o : ℕ) → q < length locals → local_object (set locals k (Some N)) q ≡ Some o → ((q ≡ k) × ((q == k) ≡ true)) ⊎ ((q ≢ k) × ((q == k) ≡ false)) → (κ.first ≤ o) × (o < length (os ++ local_of (local_words S κ.fn k) ∷ [])) × (written place N (local_place κ k) o + ((S.whole.frames κ.fn).size - local_offset S κ.fn q) ≡ κ.base)
      local_at q o lt e (inl x) =
          let n = new_number q o e x.0 in
          let here : local_place κ k + ((S.whole.frames κ.fn).size - local_offset S κ.fn k) ≡ κ.base = omega (arith, f, low) in
          (omega (arith, n, en, r.first_in), omega (arith, n, en, length-append os (local_of (local_words S κ.fn k) ∷ [])), ap (λ z. z + ((S.whole.frames κ.fn).size - local_offset S κ.fn q)) (new_place o n) ∙ ap (λ z. local_place κ k + ((S.whole.frames κ.fn).size - local_offset S κ.fn z)) x.0 ∙ here)
      local_at q o lt e (inr x) =
          let g = r.local q o lt (sym (local_other locals k q N x.0) ∙ e) in
          let b : o < N = omega (arith, g.1, en) in
          (g.0, omega (arith, g.1, length-append os (local_of (local_words S κ.fn k) ∷ [])), ap (λ z. z + ((S.whole.frames κ.fn).size - local_offset S κ.fn q)) (old_place o b) ∙ g.2)

      local_size : (q o : ℕ) → q < length locals → local_object (set locals k (Some N)) q ≡ Some o → Lives (os ++ local_of (local_words S κ.fn k) ∷ []) o → ((q ≡ k) × ((q == k) ≡ true)) ⊎ ((q ≢ k) × ((q == k) ≡ false)) → wide (os ++ local_of (local_words S κ.fn k) ∷ []) o ≡ local_words S κ.fn q
      local_size q o lt e l (inl x) = new_wide o (new_number q o e x.0) ∙ ap (local_words S κ.fn) (sym x.0)
      local_size q o lt e l (inr x) =
          let e' = sym (local_other locals k q N x.0) ∙ e in
          let g = r.local q o lt e' in
          let b : o < N = omega (arith, g.1, en) in
          old_wide o b ∙ r.local_wide q o lt e' (old_lives o b l)

  made_cells : (os : List ObjectT) (place memory : ℕ → ℕ) (n N at : ℕ) → N ≡ length os → Cells os place memory → Cells (os ++ local_of n ∷ []) (written place N at) memory
  made_cells os place memory n N at en cs = record { at = λ o i l lt. go o i l lt (below_or_not o N); lives = λ o i lt. living o i lt (below_or_not o N) }
    where
      living : (o i : ℕ) → i < length (object_at (os ++ local_of n ∷ []) o).cells → (o < N) ⊎ (N ≤ o) → Lives (os ++ local_of n ∷ []) o
      living o i lt (inl b) = let s = object_old os (local_of n) o (omega (arith, b, en)) in ap (λ y. y.lives) s ∙ cs.lives o i (subst (λ y. i < length y.cells) s lt)
      living o i lt (inr b) = elim (below_or_not o (length (os ++ local_of n ∷ []))) [
        | inl q ↦ ap (λ y. y.lives) (object_new os (local_of n) o (omega (arith, b, en, length-append os (local_of n ∷ []), q)))
        | inr q ↦ let e = ap (λ y. length y.cells) (get_or_past (os ++ local_of n ∷ []) o ended q) in absurd (omega (arith, lt, e))
      ]

      go : (o i : ℕ) → Lives (os ++ local_of n ∷ []) o → i < length (object_at (os ++ local_of n ∷ []) o).cells → (o < N) ⊎ (N ≤ o) → Stands (length (os ++ local_of n ∷ [])) (written place N at) (cell_at (object_at (os ++ local_of n ∷ []) o) i) (memory (written place N at o + i))
      go o i l lt (inl b) =
          let s = object_old os (local_of n) o (omega (arith, b, en)) in
          let x = cs.at o i (sym (ap (λ y. y.lives) s) ∙ l) (subst (λ y. i < length y.cells) s lt) in
          let y = subst (λ z. Stands (length os) place (cell_at z i) (memory (place o + i))) (sym s) x in
          let z = subst (λ p. Stands (length os) place (cell_at (object_at (os ++ local_of n ∷ []) o) i) (memory (p + i))) (sym (written_other place N at o (omega (arith, b)))) y in
          stands_more (length os) (length (os ++ local_of n ∷ [])) place (written place N at) (cell_at (object_at (os ++ local_of n ∷ []) o) i) (memory (written place N at o + i)) (omega (arith, length-append os (local_of n ∷ []))) (λ q c. written_other place N at q (omega (arith, c, en))) z
      go o i l lt (inr b) =
          let c = lives_below (os ++ local_of n ∷ []) o l in
          let e : o ≡ length os = omega (arith, b, en, length-append os (local_of n ∷ []), c) in
          let s = ap (λ y. cell_at y i) (object_new os (local_of n) o e) ∙ unwritten_cells n i in
          subst (λ q. Stands (length (os ++ local_of n ∷ [])) (written place N at) q (memory (written place N at o + i))) (sym s) tt

  words_are : (κ : Ctx) (k : ℕ) (function : Option ℕ) → function ≡ S.called_as κ.fn → k < length (S.locals κ.fn) → words_here (sizes S) function k ≡ local_words S κ.fn k
  words_are κ k None e lt = let n = ap length (fits.locals_none κ.fn (sym e)) in absurd (omega (arith, n, lt))
  words_are κ k (Some g) e lt = ap (λ l. get_or l k 0) (sym (fits.locals_are κ.fn g (sym e)))

  pub fresh_holds : (κ : Ctx) (s : Store) (cells : Where → Cell) (place : ℕ → ℕ) (a : Addr) (k : ℕ) → k < length (S.locals κ.fn) → Clear S κ s.objects s.locals k → HoldsAt S κ s cells place a → HoldsAt S κ (fresh (sizes S) k s) cells (written place (length s.objects) (local_place κ k)) a
  fresh_holds κ s cells place a k lk clear h = subst (λ n. HoldsAt S κ (record s { objects = made (end_local (local_object s.locals k) s.objects) kind.Local (unwritten n); locals = set s.locals k (Some (length s.objects)) }) cells (written place (length s.objects) (local_place κ k)) a) (sym (words_are κ k s.function h.stack.called_as lk)) (record {
    temps = temps_more S κ (length s.objects) (length ((end_local (local_object s.locals k) s.objects) ++ local_of (local_words S κ.fn k) ∷ [])) place (written place (length s.objects) (local_place κ k)) cells a.regs a.memory (omega (arith, len, length-append (end_local (local_object s.locals k) s.objects) (local_of (local_words S κ.fn k) ∷ []))) (λ o b. written_other place (length s.objects) (local_place κ k) o (omega (arith, b))) h.temps;
    ranges = made_ranges κ (end_local (local_object s.locals k) s.objects) place s.locals k (length s.objects) (sym len) (omega (arith, lk, h.stack.locals_are)) h.stack.locals_are h.stack.low h.stack.high (λ p l. (end_local_lives (local_object s.locals k) s.objects p l).1) h.kept.above (λ j o i q lj l e li lq z. clear j o i q lj (sym (ap (λ y. y.lives) (same o l)) ∙ l) e li lq z)
        (ranges_less S κ s.objects (end_local (local_object s.locals k) s.objects) place s.locals len (same_was S fits κ s.objects (end_local (local_object s.locals k) s.objects) place s.locals h.ranges same) h.ranges);
    objects = made_cells (end_local (local_object s.locals k) s.objects) place a.memory (local_words S κ.fn k) (length s.objects) (local_place κ k) (sym len) (cells_less S fits s.objects (end_local (local_object s.locals k) s.objects) place a.memory len same (λ o i lt. end_local_living (local_object s.locals k) s.objects o i h.objects.lives lt) h.objects);
    kept = h.kept;
    stack = record {
      called_as = h.stack.called_as;
      locals_are = length-set s.locals k (Some (length s.objects)) ∙ h.stack.locals_are;
      base_is = h.stack.base_is;
      top_is = h.stack.top_is;
      low = h.stack.low;
      high = h.stack.high;
      used_is = h.stack.used_is;
    };
  })
    where
      len : length (end_local (local_object s.locals k) s.objects) ≡ length s.objects
      len = length_end_local (local_object s.locals k) s.objects

      same : (o : ℕ) → Lives (end_local (local_object s.locals k) s.objects) o → object_at (end_local (local_object s.locals k) s.objects) o ≡ object_at s.objects o
      same o l = (end_local_lives (local_object s.locals k) s.objects o l).0
