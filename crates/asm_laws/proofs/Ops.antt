-- Each operation but a call does to objects what it does to the words that hold them.
use Rattle.std.proofs.Common.{◌≡◌, ◌≢◌, ℕ, ◌+◌, ◌<◌, ◌≤◌, ◌⊎◌, inl, inr, Bool, true, false, List, [], ◌∷◌, ◌++◌, length, Option, Some, None, refl, sym, ap, ◌∙◌, subst, arith, append-nil}
use Rattle.std.specs.Prelude.{get_or, set, cond, ltb, leb, eqb, ◌&&◌, not, ◌==◌, Ok, Err}
use Rattle.std.proofs.lemmas.Bool.{leb-true, eq-eqb, eqb-true}
use Rattle.kit_base.specs.Word.{add, sub, bool_word}
use Rattle.kit_base.specs.declared.event.Event.TheVariants as event
use Rattle.v32_isa.specs.declared.instruction.One.{One}
use Rattle.v32_isa.specs.declared.instruction.Two.{Two}
use Rattle.v32_isa.specs.declared.instruction.Two.TheVariants.{IEQ, INE, IGT, IGE, ILT, ILE}
use Rattle.v32_isa.specs.Arithmetic.{one_of, two_of}
use Rattle.v32_isa.specs.State.{written}
use Rattle.v32_isa.specs.Runs as machine
use Rattle.obj_mem.specs.declared.cell.Cell.{Cell}
use Rattle.obj_mem.specs.declared.cell.Cell.TheVariants.{Unwritten, Num, Ptr, Null}
use Rattle.obj_mem.specs.declared.cell.ObjectKind.TheVariants as kind
use Rattle.obj_mem.specs.declared.access.Access.TheVariants.{ReadOnly}
use Rattle.obj_mem.specs.declared.refusal.Refusal.TheVariants.{Strays, Faults}
use Rattle.obj_mem.specs.Objects.{ObjectT, object_at, cell_at, extent, card_words, also_writable, is_literal, unless_refused, with_cell}
use Rattle.obj_mem.specs.Stores.{with_objects, with_answers, local_object}
use Rattle.obj_mem.specs.Worlds.{on_store}
use Rattle.obj_mem.specs.Queries.{Answer, offsets, then_ask, answer_if, truth, word_or_fault, read, write, accessed, refused, first_cell, is_inside, is_within, equal_pointers, equal_by_object}
use Rattle.obj_mem.specs.Queries as queries
use Rattle.obj_mem.specs.Runs.{Fault}
use Rattle.mid_code.specs.declared.placed.Where.{Where}
use Rattle.mid_code.specs.Code.{OpT, ConstO, NullO, MoveO, OneO, TwoO, GlobalO, LocalO, LiteralO, CardO, StepO, ApartO, PtrTestO, LoadO, StoreO, FreshO, EndO, InO, OutO, WaitO, HaltO}
use Rattle.mid_code.specs.Meaning.{Did, On, Ends}
use Rattle.mid_code.specs.States.{State, registers_and_slots, put_in, in_world, to, to_objects, input, output, one_word, two_words, word_or_stray, stepped, distance, pointers_tested, acted}
use Rattle.mid_code.specs.States as states
use Rattle.mid_code.specs.Invariants.{IsTest}
use Rattle.asm_laws.specs.Operations.{Frame}
use Rattle.asm_laws.specs.Names.{literal_label}
use Rattle.asm_laws.specs.Addresses.{Addr, Does, Console, readable, writable, word_of, local_address, store, put, computed, loaded, saved, asked, does, IsPlainOne}
use Rattle.asm_laws.specs.Addresses as words
use Rattle.asm_laws.proofs.Stepping.{same_or_not}
use Rattle.asm_laws.specs.Holds.{Setting, local_offset, sizes, Named, Fits, Ctx, Lives, wide, Stands, InRegion, CardAs, HoldsAt}
use Rattle.asm_laws.specs.Acting.{DoesAs, Fitting}
use Rattle.asm_laws.proofs.First.{word_stands, set_target, cell_wide}
use Rattle.asm_laws.proofs.Change.{store_holds, close_holds}
use Rattle.asm_laws.proofs.Fresh.{local_place, fresh_holds}
use Rattle.asm_laws.proofs.Words.{Accessing, inside, missing, outside, dead, below_not, accessing, readable_in, writable_in, literal_refused, no_card_read, no_card_written, add_small, add_more, add_bound, add_zero, sub_same}
use Rattle.asm_laws.proofs.Pointers.{tested_alike, equal_alike}

module _ (S : Setting) (fits : Fits S) (κ : Ctx) (s : State Where) (place : ℕ → ℕ) (a : Addr) (h : HoldsAt S κ s.world.store s.cells place a) where
  abbrev os : List ObjectT
  os = s.world.store.objects

  abbrev xs : List ℕ
  xs = s.world.store.answers

  abbrev F : Frame
  F = S.whole.frames κ.fn

  abbrev k : states.Places Where
  k = registers_and_slots

  abbrev As : Did (State Where) → Does → Type 0
  As d e = DoesAs S κ s a d e

  -- a cell goes to a place
  keeps : (t : Where) (c : Cell) (v : ℕ) → Named S κ.fn t → Stands (length os) place c v → As (On (put_in k t c s)) (words.Goes [] xs (put F t v a))
  keeps t c v n rep = record {
    holds = record { place = place; at = set_target S fits κ s.world.store s.cells place a t c v n h rep };
    answers = refl;
    events = sym (append-nil s.world.events);
    work = refl;
  }

  fault : (i : ℕ) → As (Ends (Fault i) s) (words.Ends (machine.Fault i))
  fault i = record { same = refl; holds = record { place = place; at = h }; events = refl; work = refl }

  word_or_fault_at : (t : Where) (r : Option ℕ) → Named S κ.fn t → As (to k t (word_or_fault r) s) (computed F t r xs a)
  word_or_fault_at t None n = fault 6
  word_or_fault_at t (Some v) n = keeps t (Num v) v n refl

  word_or_stray_at : (t : Where) (r : Option ℕ) → Named S κ.fn t → As (to k t (word_or_stray r) s) (computed F t r xs a)
  word_or_stray_at t None n = (refl, refl)
  word_or_stray_at t (Some v) n = keeps t (Num v) v n refl

  one_at : (o : One) (t : Where) (c : Cell) (v : ℕ) → Named S κ.fn t → Stands (length os) place c v → As (to k t (one_word o c) s) (computed F t (one_of o v) xs a)
  one_at o t Unwritten v n r = (refl, refl)
  one_at o t (Num x) v n r = subst (λ y. As (to k t (one_word o (Num x)) s) (computed F t (one_of o y) xs a)) (sym r) (word_or_stray_at t (one_of o x) n)
  one_at o t (Ptr p i) v n r = (refl, refl)
  one_at o t Null v n r = (refl, refl)

  two_at : (o : Two) (t : Where) (c d : Cell) (v w : ℕ) → Named S κ.fn t → Stands (length os) place c v → Stands (length os) place d w → As (to k t (two_words o c d) s) (computed F t (two_of o v w) xs a)
  two_at o t Unwritten d v w n r q = (refl, refl)
  two_at o t (Ptr p i) d v w n r q = (refl, refl)
  two_at o t Null d v w n r q = (refl, refl)
  two_at o t (Num x) Unwritten v w n r q = (refl, refl)
  two_at o t (Num x) (Ptr p i) v w n r q = (refl, refl)
  two_at o t (Num x) Null v w n r q = (refl, refl)
  two_at o t (Num x) (Num y) v w n r q = subst (λ z. As (to k t (two_words o (Num x) (Num y)) s) (computed F t (two_of o z w) xs a)) (sym r) (subst (λ z. As (to k t (two_words o (Num x) (Num y)) s) (computed F t (two_of o x z) xs a)) (sym q) (word_or_fault_at t (two_of o x y) n))

  -- an object that lives through the whole run
  fixed_at : (o v : ℕ) → o < S.fixed_count → v ≡ S.fixed o → Stands (length os) place (Ptr o 0) v
  fixed_at o v lt e =
      let f = h.kept.fixed o lt in
      let p : place o ≡ S.fixed o = h.ranges.old_place o f.0 ∙ f.1 in
      let small = fits.fixed_small o lt in
      (omega (arith, f.0, h.ranges.first_in), e ∙ sym p ∙ add_zero (place o) (omega (arith, p, small)), omega arith)

  local_at : (t : Where) (j : ℕ) (q : Option ℕ) → Named S κ.fn t → j < length (S.locals κ.fn) → local_offset S κ.fn j < (S.whole.frames κ.fn).size → local_object s.world.store.locals j ≡ q → As (to k t (first_cell q) s) (words.Goes [] xs (put F t (local_address F j a) a))
  local_at t j None n lt some e = (refl, refl)
  local_at t j (Some o) n lt some e =
      let l = h.ranges.local j o (omega (arith, lt, h.stack.locals_are)) e in
      let f = fits.local_in κ.fn j lt in
      let b : a.base ≡ κ.base = h.stack.base_is in
      let p : local_address F j a ≡ place o = omega (arith, l.2, f, b, h.stack.low) in
      keeps t (Ptr o 0) (local_address F j a) n (l.1, p ∙ add_zero (place o) (omega (arith, l.2, h.stack.high)), omega arith)

  step_at : (t : Where) (c d : Cell) (v w : ℕ) → Named S κ.fn t → Stands (length os) place c v → Stands (length os) place d w → As (to k t (stepped c d) s) (words.Goes [] xs (put F t (add v w) a))
  step_at t c Unwritten v w n r q = (refl, refl)
  step_at t c (Ptr p i) v w n r q = (refl, refl)
  step_at t c Null v w n r q = (refl, refl)
  step_at t Unwritten (Num x) v w n r q = (refl, refl)
  step_at t (Num y) (Num x) v w n r q = (refl, refl)
  step_at t Null (Num x) v w n r q = (refl, refl)
  step_at t (Ptr o i) (Num x) v w n r q =
      let e : add v w ≡ add (place o) (add i x) = ap (λ z. add z w) r.1 ∙ ap (λ z. add (add (place o) i) z) q ∙ add_more (place o) i x in
      keeps t (Ptr o (add i x)) (add v w) n (r.0, e, add_bound i x)

  -- pointers within one object
  abbrev Within : ℕ → ℕ → ℕ → ℕ → Type 0
  Within o i p j = (o ≡ p) × (place o + i ≤ 0x40000000) × (place o + j ≤ 0x40000000)

  within_or : (o i p j : ℕ) → ((eqb o p && (is_within os o i && is_within os o j)) ≡ true × Within o i p j) ⊎ ((eqb o p && (is_within os o i && is_within os o j)) ≡ false)
  within_or o i p j = go (eqb o p) refl ((object_at os o).lives) refl (leb i (wide os o)) refl (leb j (wide os o)) refl
    where
      go : (b : Bool) → eqb o p ≡ b → (l : Bool) → (object_at os o).lives ≡ l → (x : Bool) → leb i (wide os o) ≡ x → (y : Bool) → leb j (wide os o) ≡ y → ((eqb o p && (is_within os o i && is_within os o j)) ≡ true × Within o i p j) ⊎ ((eqb o p && (is_within os o i && is_within os o j)) ≡ false)
      go true e true l true x true y =
          let z = h.ranges.ends o l in
          let li = leb-true i (wide os o) x in
          let lj = leb-true j (wide os o) y in
          inl (rw (e, l, x, y) refl, (eqb-true o p e, omega (arith, z, li), omega (arith, z, lj)))
      go true e true l true x false y = inr (rw (e, l, x, y) refl)
      go true e true l false x y f = inr (rw (e, l, x) refl)
      go true e false l x f y g = inr (rw (e, l) refl)
      go false e l f x g y z = inr (rw e refl)

  apart_at : (t : Where) (c d : Cell) (v w : ℕ) → Named S κ.fn t → Stands (length os) place c v → Stands (length os) place d w → As (to k t (distance os c d) s) (words.Goes [] xs (put F t (sub v w) a))
  apart_at t Unwritten d v w n r q = (refl, refl)
  apart_at t (Num x) d v w n r q = (refl, refl)
  apart_at t Null d v w n r q = (refl, refl)
  apart_at t (Ptr o i) Unwritten v w n r q = (refl, refl)
  apart_at t (Ptr o i) (Num x) v w n r q = (refl, refl)
  apart_at t (Ptr o i) Null v w n r q = (refl, refl)
  apart_at t (Ptr o i) (Ptr p j) v w n r q = elim (within_or o i p j) [
    | inl b ↦
        let e : sub v w ≡ sub i j = ap (λ z. sub z w) r.1 ∙ ap (λ z. sub (add (place o) i) z) (q.1 ∙ ap (λ z. add (place z) j) (sym b.1.0)) ∙ sub_same (place o) i j (omega (arith, b.1.1)) (omega (arith, b.1.2)) in
        subst (λ z. As (to k t (then_ask (then_ask (answer_if {A = ℕ × ℕ} z (i, j)) (λ at. Ok (sub at.0 at.1))) (λ x. Ok (Num x))) s) (words.Goes [] xs (put F t (sub v w) a))) (sym b.0) (keeps t (Num (sub i j)) (sub v w) n e)
    | inr b ↦ subst (λ z. As (to k t (then_ask (then_ask (answer_if {A = ℕ × ℕ} z (i, j)) (λ at. Ok (sub at.0 at.1))) (λ x. Ok (Num x))) s) (words.Goes [] xs (put F t (sub v w) a))) (sym b) (refl, refl)
  ]

  -- the order of two pointers
  order_at : (o : Two) (t : Where) (c d : Cell) (v w : ℕ) → IsTest o → Named S κ.fn t → Stands (length os) place c v → Stands (length os) place d w → As (to k t (then_ask (offsets os c d) (λ at. word_or_fault (two_of o at.0 at.1))) s) (computed F t (two_of o v w) xs a)
  order_at o t Unwritten d v w ok n r q = (refl, refl)
  order_at o t (Num x) d v w ok n r q = (refl, refl)
  order_at o t Null d v w ok n r q = (refl, refl)
  order_at o t (Ptr x i) Unwritten v w ok n r q = (refl, refl)
  order_at o t (Ptr x i) (Num y) v w ok n r q = (refl, refl)
  order_at o t (Ptr x i) Null v w ok n r q = (refl, refl)
  order_at o t (Ptr x i) (Ptr p j) v w ok n r q = elim (within_or x i p j) [
    | inl b ↦
        let e : two_of o v w ≡ two_of o i j = ap (λ z. two_of o z w) r.1 ∙ ap (λ z. two_of o (add (place x) i) z) (q.1 ∙ ap (λ z. add (place z) j) (sym b.1.0)) ∙ tested_alike o (place x) i j ok b.1.1 b.1.2 in
        subst (λ z. As (to k t (then_ask (answer_if {A = ℕ × ℕ} z (i, j)) (λ at. word_or_fault (two_of o at.0 at.1))) s) (computed F t (two_of o v w) xs a)) (sym b.0) (subst (λ z. As (to k t (word_or_fault (two_of o i j)) s) (computed F t z xs a)) (sym e) (word_or_fault_at t (two_of o i j) n))
    | inr b ↦ subst (λ z. As (to k t (then_ask (answer_if {A = ℕ × ℕ} z (i, j)) (λ at. word_or_fault (two_of o at.0 at.1))) s) (computed F t (two_of o v w) xs a)) (sym b) (refl, refl)
  ]

  -- whether two pointers are equal
  abbrev EqualAs : Answer Bool → Bool → Type 0
  EqualAs (Ok b) x = b ≡ x
  EqualAs (Err Strays) x = Unit {0}
  EqualAs (Err (Faults number)) x = ⊥

  inside_or : (o i : ℕ) → ((is_inside os o i ≡ true) × Lives os o × (i < wide os o)) ⊎ (is_inside os o i ≡ false)
  inside_or o i = go ((object_at os o).lives) refl (below_not i (wide os o))
    where
      go : (l : Bool) → (object_at os o).lives ≡ l → ((i < wide os o) × (ltb i (wide os o) ≡ true)) ⊎ (ltb i (wide os o) ≡ false) → ((is_inside os o i ≡ true) × Lives os o × (i < wide os o)) ⊎ (is_inside os o i ≡ false)
      go true e (inl b) = inl (rw (e, b.1) refl, e, b.0)
      go true e (inr b) = inr (rw (e, b) refl)
      go false e b = inr (rw e refl)

  null_differs : (o i v : ℕ) → Lives os o → i < wide os o → v ≡ add (place o) i → v ≢ 0xFFFFFFFF
  null_differs o i v l lt e n = let z = h.ranges.ends o l in omega (arith, z, lt, e, n)

  not_equal : (v w : ℕ) → v ≢ w → (v == w) ≡ false
  not_equal v w n = elim (same_or_not v w) [ inl x ↦ absurd (n x.0) | inr x ↦ x.1 ]

  both_and : (x y : Bool) → x ≡ true → y ≡ true → (x && y) ≡ true
  both_and true y e f = f
  both_and false y e f = cc

  first_not : (x y : Bool) → x ≡ false → (x && y) ≡ false
  first_not false y e = refl
  first_not true y e = cc

  second_not : (x y : Bool) → x ≡ true → y ≡ false → (x && y) ≡ false
  second_not true y e f = f
  second_not false y e f = refl

  equal_at : (c d : Cell) (v w : ℕ) → Stands (length os) place c v → Stands (length os) place d w → EqualAs (equal_pointers os c d) (v == w)
  equal_at Unwritten d v w r q = tt
  equal_at (Num x) d v w r q = tt
  equal_at Null Unwritten v w r q = tt
  equal_at Null (Num x) v w r q = tt
  equal_at Null Null v w r q = sym (eq-eqb v w (r ∙ sym q))
  equal_at Null (Ptr p j) v w r q = elim (inside_or p j) [
    | inl b ↦ subst (λ z. EqualAs (answer_if z false) (v == w)) (sym b.0) (sym (not_equal v w (λ e. null_differs p j w b.1 b.2 q.1 (sym e ∙ r))))
    | inr b ↦ subst (λ z. EqualAs (answer_if z false) (v == w)) (sym b) tt
  ]
  equal_at (Ptr o i) Unwritten v w r q = tt
  equal_at (Ptr o i) (Num x) v w r q = tt
  equal_at (Ptr o i) Null v w r q = elim (inside_or o i) [
    | inl b ↦ subst (λ z. EqualAs (answer_if z false) (v == w)) (sym b.0) (sym (not_equal v w (λ e. null_differs o i v b.1 b.2 r.1 (e ∙ q))))
    | inr b ↦ subst (λ z. EqualAs (answer_if z false) (v == w)) (sym b) tt
  ]
  equal_at (Ptr o i) (Ptr p j) v w r q = elim (same_or_not o p) [
    | inl x ↦ subst (λ z. EqualAs (equal_by_object os z o i p j) (v == w)) (sym x.1)
        (sym (equal_alike (place o) i j r.2 q.2) ∙ ap (λ z. add (place o) i == z) (ap (λ z. add (place z) j) x.0 ∙ sym q.1) ∙ ap (λ z. z == w) (sym r.1))
    | inr x ↦ subst (λ z. EqualAs (equal_by_object os z o i p j) (v == w)) (sym x.1) (elim (inside_or o i) [
      | inl b ↦ elim (inside_or p j) [
        | inl c ↦ subst (λ z. EqualAs (answer_if z false) (v == w)) (sym (both_and (is_inside os o i) (is_inside os p j) b.0 c.0))
            (sym (not_equal v w (λ e. let zo = h.ranges.ends o b.1 in let zp = h.ranges.ends p c.1 in x.0 (h.ranges.apart o p i j b.1 c.1 b.2 c.2 (omega (arith, e, r.1, q.1, zo, zp, b.2, c.2))))))
        | inr c ↦ subst (λ z. EqualAs (answer_if z false) (v == w)) (sym (second_not (is_inside os o i) (is_inside os p j) b.0 c)) tt
      ]
      | inr b ↦ subst (λ z. EqualAs (answer_if z false) (v == w)) (sym (first_not (is_inside os o i) (is_inside os p j) b)) tt
    ])
  ]

  truth_at : (t : Where) (f : Bool → Bool) (r : Answer Bool) (x : Bool) → Named S κ.fn t → EqualAs r x → As (to k t (then_ask r (λ b. Ok (truth (f b)))) s) (computed F t (Some (bool_word (f x))) xs a)
  truth_at t f (Ok b) x n e = keeps t (Num (bool_word (f b))) (bool_word (f x)) n (ap (λ z. bool_word (f z)) (sym e))
  truth_at t f (Err Strays) x n e = (refl, refl)
  truth_at t f (Err (Faults number)) x n e = absurd e

  test_at : (o : Two) (t : Where) (c d : Cell) (v w : ℕ) → IsTest o → Named S κ.fn t → Stands (length os) place c v → Stands (length os) place d w → As (to k t (pointers_tested o os c d) s) (computed F t (two_of o v w) xs a)
  test_at IEQ t c d v w ok n r q = truth_at t (λ b. b) (equal_pointers os c d) (v == w) n (equal_at c d v w r q)
  test_at INE t c d v w ok n r q = truth_at t not (equal_pointers os c d) (v == w) n (equal_at c d v w r q)
  test_at IGT t c d v w ok n r q = order_at IGT t c d v w ok n r q
  test_at IGE t c d v w ok n r q = order_at IGE t c d v w ok n r q
  test_at ILT t c d v w ok n r q = order_at ILT t c d v w ok n r q
  test_at ILE t c d v w ok n r q = order_at ILE t c d v w ok n r q
  test_at _ t c d v w ok n r q = absurd ok

  -- ---- through a pointer

  abbrev X : ℕ → ObjectT
  X o = object_at os o

  -- the address of a cell
  cell_address : (o i v : ℕ) → Lives os o → i < wide os o → v ≡ add (place o) i → v ≡ place o + i
  cell_address o i v l lt e = let z = h.ranges.ends o l in e ∙ add_small (place o) i (omega (arith, z, lt))

  card_wide : (o : ℕ) → (X o).kind ≡ kind.Card → wide os o ≡ card_words
  card_wide o e = ap (λ q. extent (record { kind = q; lives = (X o).lives; cells = (X o).cells })) e

  no_card : (o : ℕ) → Lives os o → (X o).kind ≡ kind.Card → (X o).cells ≡ [] → S.console.has_card ≡ false
  no_card o l ek ec = subst (λ c. CardAs S.console kind.Card c) ec (subst (λ q. CardAs S.console q (X o).cells) ek (h.ranges.cards o l))

  card_address : (o i : ℕ) → Lives os o → (X o).kind ≡ kind.Card → i < card_words → 0x30000000 ≤ place o + i
  card_address o i l ek lt = (subst (λ q. InRegion S.console q (place o + i)) ek (h.ranges.inside o i l (omega (arith, lt, card_wide o ek)))).0

  load_at : (t : Where) (c : Cell) (v : ℕ) → Named S κ.fn t → Stands (length os) place c v → As (to k t (read os c) s) (loaded (readable S.console v) F t (a.memory v) xs a)
  load_at t Unwritten v n r = (refl, refl)
  load_at t (Num x) v n r = (refl, refl)
  load_at t Null v n r = (refl, refl)
  load_at t (Ptr o i) v n r = go (accessing (X o).kind (X o).lives (X o).cells i)
    where
      go : Accessing (X o).kind (X o).lives (X o).cells i → As (to k t (read os (Ptr o i)) s) (loaded (readable S.console v) F t (a.memory v) xs a)
      go (inside l lt e) =
          let w = cell_wide S fits κ s.world.store place o i h.ranges l lt in
          let p = cell_address o i v l w r.1 in
          let b = readable_in S.console (X o).kind (X o).cells v i fits.short (h.ranges.cards o l) lt (subst (λ z. InRegion S.console (X o).kind z) (sym p) (h.ranges.inside o i l w)) in
          subst (λ z. As (to k t (accessed 0 i (unless_refused z (cell_at (X o) i))) s) (loaded (readable S.console v) F t (a.memory v) xs a)) (sym e)
          (subst (λ z. As (to k t (Ok (cell_at (X o) i)) s) (loaded z F t (a.memory v) xs a)) (sym b) (keeps t (cell_at (X o) i) (a.memory v) n (subst (λ z. Stands (length os) place (cell_at (X o) i) (a.memory z)) (sym p) (h.objects.at o i l lt))))
      go (missing l ek ec e) =
          subst (λ z. As (to k t (accessed 0 i (unless_refused z (cell_at (X o) i))) s) (loaded (readable S.console v) F t (a.memory v) xs a)) (sym e) (elim (below_not i card_words) [
            | inl b ↦
                let p = cell_address o i v l (omega (arith, b.0, card_wide o ek)) r.1 in
                let f = no_card_read S.console v fits.short (no_card o l ek ec) (let q = card_address o i l ek b.0 in omega (arith, p, q)) in
                subst (λ z. As (to k t (Err (cond z (Faults 0) Strays)) s) (loaded (readable S.console v) F t (a.memory v) xs a)) (sym b.1) (subst (λ z. As (Ends (Fault 0) s) (loaded z F t (a.memory v) xs a)) (sym f) (fault 0))
            | inr b ↦ subst (λ z. As (to k t (Err (cond z (Faults 0) Strays)) s) (loaded (readable S.console v) F t (a.memory v) xs a)) (sym b) (refl, refl)
          ])
      go (outside e) = subst (λ z. As (to k t (accessed 0 i (unless_refused z (cell_at (X o) i))) s) (loaded (readable S.console v) F t (a.memory v) xs a)) (sym e) (refl, refl)
      go (dead e) = subst (λ z. As (to k t (accessed 0 i (unless_refused z (cell_at (X o) i))) s) (loaded (readable S.console v) F t (a.memory v) xs a)) (sym e) (refl, refl)

  store_at : (c d : Cell) (v w : ℕ) → Stands (length os) place c v → Stands (length os) place d w → As (to_objects (write os c d) s) (saved (writable S.console v) v w xs a)
  store_at Unwritten d v w r q = (refl, refl)
  store_at (Num x) d v w r q = (refl, refl)
  store_at Null d v w r q = (refl, refl)
  store_at (Ptr o i) d v w r q = go (accessing (X o).kind (X o).lives (X o).cells i)
    where
      go : Accessing (X o).kind (X o).lives (X o).cells i → As (to_objects (write os (Ptr o i) d) s) (saved (writable S.console v) v w xs a)
      go (inside l lt e) =
          let wi = cell_wide S fits κ s.world.store place o i h.ranges l lt in
          let p = cell_address o i v l wi r.1 in
          let at = subst (λ z. InRegion S.console (X o).kind z) (sym p) (h.ranges.inside o i l wi) in
          subst (λ z. As (to_objects (accessed 1 i (unless_refused (also_writable (X o).kind z) (set os o (with_cell (X o) i d)))) s) (saved (writable S.console v) v w xs a)) (sym e) (allowed (is_literal (X o).kind) refl l lt p at)
        where
          allowed : (b : Bool) → is_literal (X o).kind ≡ b → Lives os o → i < length (X o).cells → v ≡ place o + i → InRegion S.console (X o).kind v → As (to_objects (accessed 1 i (unless_refused (also_writable (X o).kind None) (set os o (with_cell (X o) i d)))) s) (saved (writable S.console v) v w xs a)
          allowed true eb l lt p at =
              let f = literal_refused S.console (X o).kind v fits.short eb at in
              subst (λ z. As (to_objects (accessed 1 i (unless_refused (cond z (Some ReadOnly) None) (set os o (with_cell (X o) i d)))) s) (saved (writable S.console v) v w xs a)) (sym eb) (subst (λ z. As (Ends (Fault 1) s) (saved z v w xs a)) (sym f) (fault 1))
          allowed false eb l lt p at =
              let b = writable_in S.console (X o).kind (X o).cells v i (h.ranges.cards o l) lt eb at in
              subst (λ z. As (to_objects (accessed 1 i (unless_refused (cond z (Some ReadOnly) None) (set os o (with_cell (X o) i d)))) s) (saved (writable S.console v) v w xs a)) (sym eb) (subst (λ z. As (On (in_world (on_store (with_objects (set os o (with_cell (X o) i d))) s.world) s)) (saved z v w xs a)) (sym b) (record {
                holds = record { place = place; at = subst (λ z. HoldsAt S κ (with_objects (set os o (with_cell (X o) i d)) s.world.store) s.cells place (store z w a)) (sym p) (store_holds S fits κ s.world.store s.cells place a o i w d h l lt q) };
                answers = refl;
                events = sym (append-nil s.world.events);
                work = refl;
              }))
      go (missing l ek ec e) =
          subst (λ z. As (to_objects (accessed 1 i (unless_refused (also_writable (X o).kind z) (set os o (with_cell (X o) i d)))) s) (saved (writable S.console v) v w xs a)) (sym e) (elim (below_not i card_words) [
            | inl b ↦
                let p = cell_address o i v l (omega (arith, b.0, card_wide o ek)) r.1 in
                let f = no_card_written S.console v (no_card o l ek ec) (let q = card_address o i l ek b.0 in omega (arith, p, q)) in
                subst (λ z. As (to_objects (Err (cond z (Faults 1) Strays)) s) (saved (writable S.console v) v w xs a)) (sym b.1) (subst (λ z. As (Ends (Fault 1) s) (saved z v w xs a)) (sym f) (fault 1))
            | inr b ↦ subst (λ z. As (to_objects (Err (cond z (Faults 1) Strays)) s) (saved (writable S.console v) v w xs a)) (sym b) (refl, refl)
          ])
      go (outside e) = subst (λ z. As (to_objects (accessed 1 i (unless_refused (also_writable (X o).kind z) (set os o (with_cell (X o) i d)))) s) (saved (writable S.console v) v w xs a)) (sym e) (refl, refl)
      go (dead e) = subst (λ z. As (to_objects (accessed 1 i (unless_refused (also_writable (X o).kind z) (set os o (with_cell (X o) i d)))) s) (saved (writable S.console v) v w xs a)) (sym e) (refl, refl)

  -- ---- ports

  out_at : (port : ℕ) (c : Cell) (v : ℕ) → Stands (length os) place c v → As (output port (queries.word_of c) s) (words.Goes (event.Out port v ∷ []) xs a)
  out_at port Unwritten v r = (refl, refl)
  out_at port (Ptr o i) v r = (refl, refl)
  out_at port Null v r = (refl, refl)
  out_at port (Num x) v r = record { holds = record { place = place; at = h }; answers = refl; events = ap (λ z. s.world.events ++ event.Out port z ∷ []) (sym r); work = refl }

  with_fewer : (cells : Where → Cell) (b : Addr) (rest : List ℕ) → HoldsAt S κ s.world.store cells place b → HoldsAt S κ (with_answers rest s.world.store) cells place b
  with_fewer cells b rest g = record { temps = g.temps; ranges = g.ranges; objects = g.objects; kept = g.kept; stack = g.stack }

  in_at : (t : Where) (port : ℕ) (ys : List ℕ) → Named S κ.fn t → As (input k t port ys s) (asked F t port ys a)
  in_at t port [] n = record { same = refl; holds = record { place = place; at = h }; events = refl; work = refl }
  in_at t port (x ∷ rest) n = record {
    holds = record { place = place; at = with_fewer (states.put k s.cells t (Num x)) (put F t x a) rest (set_target S fits κ s.world.store s.cells place a t (Num x) x n h refl) };
    answers = refl;
    events = refl;
    work = refl;
  }

  stands : (t : Where) → Named S κ.fn t → Stands (length os) place (s.cells t) (word_of F t a)
  stands t n = word_stands S fits κ s.world.store s.cells place a t n h

  -- every operation but a call
  pub acts : (o : OpT Where) → Fitting S κ.fn o → As (acted k (sizes S) o s) (does S.console S.address S.whole F o xs a)
  unfolding does
  acts (ConstO t n) g = keeps t (Num n) n g refl
  acts (NullO t) g = keeps t Null 0xFFFFFFFF g refl
  acts (MoveO t p) g = keeps t (s.cells p) (word_of F p a) g.0 (stands p g.1)
  acts (OneO o t p) g = one_at o t (s.cells p) (word_of F p a) g.1 (stands p g.2)
  acts (TwoO o t p q) g = two_at o t (s.cells p) (s.cells q) (word_of F p a) (word_of F q a) g.0 (stands p g.1) (stands q g.2)
  acts (GlobalO t j) g = let f = fits.globals_at j g.1 in keeps t (Ptr j 0) (get_or S.whole.globals j 0) g.0 (fixed_at j (get_or S.whole.globals j 0) f.0 f.1)
  acts (LocalO t j) g = local_at t j (local_object s.world.store.locals j) g.0 g.1 g.2 refl
  acts (LiteralO t j) g = let f = fits.literals_at j g.1 in keeps t (Ptr (length S.code.globals + j) 0) (S.address (literal_label j)) g.0 (fixed_at (length S.code.globals + j) (S.address (literal_label j)) f.0 f.1)
  acts (CardO t) g = let f = fits.card_at in keeps t (Ptr (length S.code.globals + length S.code.literals) 0) 0x30000000 g (fixed_at (length S.code.globals + length S.code.literals) 0x30000000 f.0 (sym f.1))
  acts (StepO t p q) g = step_at t (s.cells p) (s.cells q) (word_of F p a) (word_of F q a) g.0 (stands p g.1) (stands q g.2)
  acts (ApartO t p q) g = apart_at t (s.cells p) (s.cells q) (word_of F p a) (word_of F q a) g.0 (stands p g.1) (stands q g.2)
  acts (PtrTestO o t p q) g = test_at o t (s.cells p) (s.cells q) (word_of F p a) (word_of F q a) g.0 g.1 (stands p g.2) (stands q g.3)
  acts (LoadO t p) g = load_at t (s.cells p) (word_of F p a) g.0 (stands p g.1)
  acts (StoreO p q) g = store_at (s.cells p) (s.cells q) (word_of F p a) (word_of F q a) (stands p g.0) (stands q g.1)
  acts (FreshO j) g = record { holds = record { place = written place (length os) (local_place S fits κ j); at = fresh_holds S fits κ s.world.store s.cells place a j g (λ q o i y lq l e li lj z. fits.local_apart κ.fn q j i y lq g li lj z) h }; answers = refl; events = sym (append-nil s.world.events); work = refl }
  acts (EndO j) g = record { holds = record { place = place; at = close_holds S fits κ s.world.store s.cells place a (local_object s.world.store.locals j) h }; answers = refl; events = sym (append-nil s.world.events); work = refl }
  acts (InO t port) g = in_at t port xs g.0
  acts (OutO port p) g = out_at port (s.cells p) (word_of F p a) (stands p g.0)
  acts WaitO g = record { holds = record { place = place; at = h }; answers = refl; events = refl; work = refl }
  acts HaltO g = record { same = refl; holds = record { place = place; at = h }; events = refl; work = refl }
