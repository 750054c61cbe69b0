-- Structures that are values: mid code follows what reads and drops them.
use Rattle.std.proofs.Common.{◌≡◌, ℕ, ◌+◌, ◌*◌, ◌-◌, ◌<◌, ◌≤◌, ◌^◌, Bool, true, false, [], ◌∷◌, length, refl, sym, ap, ◌∙◌, subst, arith, if◌then◌else◌}
use Rattle.std.proofs.lemmas.Bool.{false≢true}
use Rattle.c_tree.specs.declared.span.Span.{Span}
use Rattle.c_types.specs.Types.{Ty, VoidY, IntY, BoolY, EnumY, StructY, UnionY, PointerY, ArrayY}
use Rattle.c_types.specs.Typed.{TExprT}
use Rattle.c_types.specs.Sizes.{words_of}
use Rattle.c_exprs.specs.Nodes.{is_place}
use Rattle.obj_mem.specs.declared.cell.Cell.{Cell}
use Rattle.obj_mem.specs.declared.cell.Cell.TheVariants.{Ptr}
use Rattle.obj_mem.specs.Stores.{words_here, next_object}
use Rattle.obj_mem.specs.Worlds.{World}
use Rattle.c_meaning.specs.Kinds.{type_of, span_of}
use Rattle.c_types.specs.Kinds.{is_structure}
use Rattle.c_meaning.specs.Outcomes.{Val, Value, Place, NoValue, Stops}
use Rattle.c_meaning.specs.Cells.{structure_read, fetched}
use Rattle.c_meaning.specs.Expressions.{value_of, evaluated}
use Rattle.mid_code.specs.Code.{NodesT}
use Rattle.mid_code.specs.Meaning.{Res}
use Rattle.mid_code.specs.States.{sizes_of}
use Rattle.lower_trees.specs.Shape.{Shape, shape_in, words}
use Rattle.lower_trees.specs.Parts as part
use Rattle.lower_trees.specs.Pieces.{coded}
use Rattle.lower_trees.specs.Expressions.{low, value}
use Rattle.lower_trees.specs.Expressions as low
use Rattle.lower_trees.specs.Counts.{sizes, read_sizes, value_sizes}
use Rattle.mid_lower.proofs.Grows.{Mid}
use Rattle.mid_lower.proofs.Words.{in_words}
use Rattle.mid_lower.proofs.Fits.{Site}
use Rattle.mid_lower.proofs.Following.{Side, mk, Goal, goal, Fit, Now, Kept, SimV, Way, scratch, base_of, at_free, kept_wider, M}
use Rattle.mid_lower.proofs.Room.{Room, room_first, room_second, join_length}
use Rattle.mid_lower.proofs.Values.{Follow}
use Rattle.mid_lower.proofs.StructureValues.{structure_copied}
use Rattle.mid_lower.proofs.Taken.{Taken, taken_of}

-- what a structure's value leaves of its work
abbrev pub structure_goal : (t n : ℕ) → World → Side → Goal
structure_goal t n w x = record { at = t; first = n; skip = 0; temps = x.temps; less = 64 * w.work + 20; from = x.work; ends = 20; base = base_of w x }

-- Mid code follows an expression whose value is a structure: a pointer to an object that nothing else has. The locals before `hi` may be in use.
abbrev pub SimS : Goal → (Mid → Res Mid) → (hi : ℕ) → Val → Res Mid → Type 0
SimS γ k hi (Value c w) q = (o : ℕ) × (j : ℕ) × (c ≡ Ptr o j) × (x : Side) × (q ≡ k (mk w x)) × Taken γ 0 hi o w x × (x.temps γ.at ≡ c)
SimS γ k hi (Place p w) q = ⊥
SimS γ k hi (NoValue w) q = (x : Side) × (q ≡ k (mk w x)) × Now γ 0 w x
SimS γ k hi (Stops f w) q = Kept γ f w q

plus_zero : (k : ℕ) → k + 0 ≡ k
plus_zero k = omega arith

module _ (S : Site) where
  abbrev R : NodesT ℕ → Mid → Res Mid
  R = M S

  abbrev h : Shape
  h = shape_in S.s

  abbrev pub FollowValue : TExprT → Type 0
  FollowValue e = (t n m : ℕ) (c : NodesT ℕ) (w : World) (x : Side) → scratch ≤ t → t < n → Fit w x → Room S (base_of w x) m (value_sizes h e) → SimS (structure_goal t n w x) (R c) (m + length (value_sizes h e)) (value_of S.s S.bound e (evaluated S.s S.bound S.prev e w)) (R (coded (value h e (low h e) t n m) c) (mk w x))

  -- the value of a place
  module _ (e : TExprT) (sim : Follow S e) (t n m : ℕ) (c : NodesT ℕ) (w : World) (x : Side) (st : scratch ≤ t) (tn : t < n) (fit : Fit w x) where
    abbrev γ : Goal
    γ = structure_goal t n w x

    -- with nothing left
    abbrev γ0 : Goal
    γ0 = record γ { less = 64 * w.work; ends = 0 }

    start : (wa : World) (xa : Side) → Now (goal true t n w x) 0 wa xa → Now γ0 52 wa xa
    start wa xa h = record { stays = h.stays; below = λ j a b c. h.below j a (omega (arith, b)) c; cost = omega (arith, h.cost) }

    more : (hi o : ℕ) (v : World) (y : Side) → Taken γ0 28 hi o v y → Taken γ 0 hi o v y
    more hi o v y h = record { fit = h.fit; same_function = h.same_function; same_own = h.same_own; later = h.later; over = h.over; most = h.most; long = h.long; keep = h.keep; there = h.there; mine = h.mine; below = h.below; cost = omega (arith, h.cost) }

    copied_value : (size k hi : ℕ) (span : Span) (p : Cell) (wa : World) (xa : Side) → Now (goal true t n w x) 0 wa xa → xa.temps t ≡ p → size ≤ 2 ^ 32 → k + 1 ≤ hi → Room S (base_of w x) k (size ∷ []) → SimS γ (R c) hi (structure_read span S.bound size p wa) (R (coded (part.structure_read size k t) c) (mk wa xa))
    copied_value size k hi span p wa xa ha at few le room =
        let h0 = start wa xa ha in
        let i : ℕ = k - length w.store.locals in
        let free = room.free in
        let fits = room.fits in
        let eo = ha.stays.same_own in
        let ef = ha.stays.same_floor in
        let el = ha.stays.long in
        let σ : Way γ0 = record { R = Val; stop = Stops; T = SimS γ (R c) hi; stops = λ f v q a. kept_wider γ γ0 (omega arith) f v q a } in
        let here : k ≡ length wa.store.locals + i = omega (arith, free, eo) in
        let words_there : words_here (sizes_of S.code S.frames) wa.store.function k ≡ size = subst (λ f. words_here (sizes_of S.code S.frames) f k ≡ size) (sym ha.stays.same_function) (subst (λ q. words_here (sizes_of S.code S.frames) w.store.function q ≡ size) (plus_zero k) (room.words 0 (omega arith))) in
        let unused : xa.floor ≤ i = omega (arith, free, ef) in
        let there : i < length xa.extra = omega (arith, free, fits, el) in
        structure_copied S γ0 σ 0 t k i size span wa xa c h0 (at_free γ0) (omega (arith, st)) here words_there few unused there p at (λ v. Value (next_object wa.store) v)
        (λ v y hy ey rest. (length wa.store.objects, 0, refl, y, refl, more hi (length wa.store.objects) v y (taken_of γ0 52 28 hi i size wa xa v y h0 unused there (omega (arith, le, free)) hy), ey))

    by_place : (size k hi : ℕ) → size ≤ 2 ^ 32 → k + 1 ≤ hi → Room S (base_of w x) k (size ∷ []) → ((span : Span) (p : Cell) (wa : World) → fetched S.s S.bound (type_of e) span p wa ≡ structure_read span S.bound size p wa) → (r : Val) (q : Res Mid) → SimV (goal true t n w x) (R (coded (part.structure_read size k t) c)) true r q → SimS γ (R c) hi (value_of S.s S.bound e r) q
    by_place size k hi few le room is (Place p wa) q a =
        subst (λ z. SimS γ (R c) hi z q) (sym (is (span_of e) p wa))
        (subst (SimS γ (R c) hi (structure_read (span_of e) S.bound size p wa)) (sym a.2) (copied_value size k hi (span_of e) p wa a.1 a.3 a.4 few le room))
    by_place size k hi few le room is (Value p wa) q a = absurd (false≢true (sym a.0))
    by_place size k hi few le room is (NoValue wa) q a = absurd (false≢true (sym a.0))
    by_place size k hi few le room is (Stops f wa) q a = kept_wider γ (goal true t n w x) (omega arith) f wa q a

  -- a structure or union that stands at a place is read
  pub reads : (e : TExprT) → Follow S e → is_place e ≡ true → is_structure (type_of e) ≡ true → FollowValue e
  reads e sim place structure t n m c w x st tn fit room =
      let size : ℕ = words h (type_of e) in
      let k : ℕ = m + length (sizes h e) in
      let hi : ℕ = m + length (value_sizes h e) in
      let l = join_length (sizes h e) (read_sizes h (is_place e) (type_of e)) in
      let one : read_sizes h (is_place e) (type_of e) ≡ size ∷ [] = ap (λ b. read_sizes h b (type_of e)) place ∙ ap (λ b. if b then size ∷ [] else []) structure in
      let length_one : length (read_sizes h (is_place e) (type_of e)) ≡ 1 = ap (λ zs. length zs) one in
      let few : size < 2 ^ 32 = in_words (words_of h.layouts (type_of e)) in
      let last = subst (λ zs. Room S (base_of w x) k zs) one (room_second S (base_of w x) m (sizes h e) (read_sizes h (is_place e) (type_of e)) room) in
      let inner = room_first S (base_of w x) m (sizes h e) (read_sizes h (is_place e) (type_of e)) room in
      let c1 : NodesT ℕ = coded (part.structure_read size k t) c in
      subst (λ d. SimS (structure_goal t n w x) (R c) hi (value_of S.s S.bound e (evaluated S.s S.bound S.prev e w)) (R d (mk w x))) (sym (code_is (is_place e) (type_of e) k (low h e) t n m c place structure))
      (by_place e sim t n m c w x st tn fit size k hi (omega (arith, few)) (omega (arith, l, length_one)) last (fetched_is (type_of e) structure) (evaluated S.s S.bound S.prev e w) (R (coded (low h e t n m) c1) (mk w x))
      (subst (λ b. SimV (goal b t n w x) (R c1) b (evaluated S.s S.bound S.prev e w) (R (coded (low h e t n m) c1) (mk w x))) place (sim t n m c1 w x st tn fit inner)))
    where
      code_is : (b : Bool) (ty : Ty) (k : ℕ) (place : low.Low) (t n m : ℕ) (c : NodesT ℕ) → b ≡ true → is_structure ty ≡ true → coded (low.value_of h b ty k place t n m) c ≡ coded (place t n m) (coded (part.structure_read (words h ty) k t) c)
      code_is true (StructY i) k place t n m c eb et = refl
      code_is true (UnionY i) k place t n m c eb et = refl
      code_is true VoidY k place t n m c eb et = absurd (false≢true et)
      code_is true IntY k place t n m c eb et = absurd (false≢true et)
      code_is true BoolY k place t n m c eb et = absurd (false≢true et)
      code_is true (EnumY i) k place t n m c eb et = absurd (false≢true et)
      code_is true (PointerY i) k place t n m c eb et = absurd (false≢true et)
      code_is true (ArrayY of len) k place t n m c eb et = absurd (false≢true et)
      code_is false ty k place t n m c eb et = absurd (false≢true eb)

      fetched_is : (ty : Ty) → is_structure ty ≡ true → (span : Span) (p : Cell) (wa : World) → fetched S.s S.bound ty span p wa ≡ structure_read span S.bound (words h ty) p wa
      fetched_is (StructY i) et span p wa = refl
      fetched_is (UnionY i) et span p wa = refl
      fetched_is VoidY et span p wa = absurd (false≢true et)
      fetched_is IntY et span p wa = absurd (false≢true et)
      fetched_is BoolY et span p wa = absurd (false≢true et)
      fetched_is (EnumY i) et span p wa = absurd (false≢true et)
      fetched_is (PointerY i) et span p wa = absurd (false≢true et)
      fetched_is (ArrayY of len) et span p wa = absurd (false≢true et)
