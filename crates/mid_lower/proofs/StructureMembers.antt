-- Members of structures that are values and stand at no place.
use Rattle.std.proofs.Common.{◌≡◌, ℕ, ◌+◌, ◌%◌, ◌^◌, ◌<◌, ◌≤◌, true, false, eqb, [], ◌∷◌, length, refl, sym, ap, ◌∙◌, subst, arith, if◌then◌else◌}
use Rattle.c_tree.specs.declared.span.Span.{Span}
use Rattle.c_types.specs.Types.{Ty}
use Rattle.c_types.specs.Typed.{TExprT}
use Rattle.c_exprs.specs.Nodes.{is_place}
use Rattle.obj_mem.specs.declared.cell.Cell.{Cell}
use Rattle.obj_mem.specs.declared.cell.Cell.TheVariants.{Num, Ptr}
use Rattle.obj_mem.specs.Queries.{further}
use Rattle.obj_mem.specs.Worlds.{World, on_store, spend}
use Rattle.c_meaning.specs.Kinds.{type_of}
use Rattle.c_types.specs.Kinds.{is_structure}
use Rattle.c_meaning.specs.Outcomes.{Val, Value, Place, NoValue, Stops, asked}
use Rattle.c_meaning.specs.Cells.{end_temporary}
use Rattle.c_meaning.specs.Operators.{read_as}
use Rattle.c_meaning.specs.Expressions as src
use Rattle.c_meaning.specs.Expressions.{value_of, evaluated}
use Rattle.mid_code.specs.Code.{ConstO, StepO, LoadO, NodesT, Do}
use Rattle.mid_code.specs.Meaning.{Res}
use Rattle.mid_code.specs.inner.Passing.{Prefix}
use Rattle.mid_code.specs.States.{temporaries, to, spent}
use Rattle.lower_trees.specs.Shape.{Shape, shape_in}
use Rattle.lower_trees.specs.Parts as part
use Rattle.lower_trees.specs.Pieces.{coded}
use Rattle.lower_trees.specs.Expressions.{low, value}
use Rattle.lower_trees.specs.Expressions as low
use Rattle.lower_trees.specs.Counts.{sizes, read_sizes, value_sizes}
use Rattle.mid_lower.proofs.Grows.{Mid, Grows}
use Rattle.mid_lower.proofs.Fits.{Site}
use Rattle.mid_lower.proofs.Following.{events_of, less_now, SimV, Side, mk, Goal, goal, Fit, Now, Way, Free, scratch, base_of, spare, at_free, above_free, eqb_more, kept_wider, M, M_grows, sets}
use Rattle.mid_lower.proofs.Instructions.{step_eq}
use Rattle.mid_lower.proofs.Room.{Room, room_first, join_length}
use Rattle.mid_lower.proofs.Storing.{loads}
use Rattle.mid_lower.proofs.OperatorForms.{begin_value}
use Rattle.mid_lower.proofs.StructureValues.{anew, back_to}
use Rattle.mid_lower.proofs.Taken.{Taken, taken_less, taken_here, taken_on, taken_left}
use Rattle.mid_lower.proofs.Structures.{structure_goal, SimS, FollowValue}
use Rattle.mid_lower.proofs.StructureUses.{taken_then, begin_structure}

module _ (S : Site) where
  abbrev R : NodesT ℕ → Mid → Res Mid
  R = M S

  abbrev R_grows : (c : NodesT ℕ) (t : Mid) → Grows t (R c t)
  R_grows = M_grows S

  abbrev h : Shape
  h = shape_in S.s

  abbrev tick : World → World
  tick w = spend 1 w

  -- mid code follows a structure's value that stands at no place
  abbrev pub FollowStructure : TExprT → Type 0
  FollowStructure e = (t n m : ℕ) (c : NodesT ℕ) (w : World) (x : Side) → scratch ≤ t → t < n → Fit w x → Room S (base_of w x) m (sizes h e) → SimS (structure_goal t n w x) (R c) (m + length (sizes h e)) (evaluated S.s S.bound S.prev e w) (R (coded (low h e t n m) c) (mk w x))

  -- it is the value
  pub of_structure : (e : TExprT) → is_place e ≡ false → FollowStructure e → FollowValue S e
  of_structure e place sim t n m c w x st tn fit room =
      let hi : ℕ = m + length (sizes h e) in
      let hv : ℕ = m + length (value_sizes h e) in
      let l = join_length (sizes h e) (read_sizes h (is_place e) (type_of e)) in
      subst (λ d. SimS (structure_goal t n w x) (R c) hv (value_of S.s S.bound e (evaluated S.s S.bound S.prev e w)) (R d (mk w x))) (ap (λ b. coded (low.value_of h b (type_of e) hi (low h e) t n m) c) (sym place))
      (by hi hv (omega (arith, l)) (evaluated S.s S.bound S.prev e w) (R (coded (low h e t n m) c) (mk w x)) (sim t n m c w x st tn fit (room_first S (base_of w x) m (sizes h e) (read_sizes h (is_place e) (type_of e)) room)))
    where
      by : (hi hv : ℕ) → hi ≤ hv → (r : Val) (q : Res Mid) → SimS (structure_goal t n w x) (R c) hi r q → SimS (structure_goal t n w x) (R c) hv (value_of S.s S.bound e r) q
      by hi hv le (Value d v) q a = (a.0, a.1, a.2, a.3, a.4, taken_less (structure_goal t n w x) 0 0 hi hv (a.0 ∷ []) v a.3 (omega arith) le a.5, a.6)
      by hi hv le (Place p v) q a = absurd a
      by hi hv le (NoValue v) q a = a
      by hi hv le (Stops f v) q a = a

  -- a pointer so many words into a structure's value
  module _ (γ : Goal) (s t n hi o j offset : ℕ) (w : World) (x : Side) (c : NodesT ℕ) (h0 : Taken γ (s + 16) hi o w x) (free : Free γ t) (ne : eqb n t ≡ false) (at : x.temps n ≡ Ptr o j) where
    abbrev γ1 : Goal
    γ1 = anew γ w x

    pub moved_into : {A : Type 0} (T : A → Res Mid → Type 0) (r : A) → ((y : Side) → Now γ1 s w y → y.temps t ≡ further (Ptr o j) offset → T r (R c (mk w y))) → T r (R (coded (part.moved_by t n offset) c) (mk w x))
    moved_into T r f =
        sets S T γ1 (s + 8) w x t (Num offset) (ConstO t offset) (Do (StepO t n t) c) (spare γ1 (s + 16) (s + 8 + 8) w x (omega arith) (taken_here γ (s + 16) hi (o ∷ []) w x h0)) free refl r (λ y hy ey rest.
        sets S T γ1 s w y t (further (Ptr o j) offset) (StepO t n t) c hy free (ap (λ q. to temporaries t q (spent 8 (mk w y))) (step_eq (Ptr o j) (Num offset) (y.temps n) (y.temps t) (rest n ne ∙ at) ey)) r (λ z hz ez rest2. f z hz ez))

  -- a structure within it
  pub member_structure : (ty : Ty) (e : TExprT) → FollowStructure e → is_structure ty ≡ true → (span : Span) (offset t n m : ℕ) (c : NodesT ℕ) (w : World) (y : Side) → scratch ≤ t → t < n → Fit w y → Room S (base_of w y) m (sizes h e)
      → SimS (structure_goal t n w y) (R c) (m + length (sizes h e)) (src.member_at ty e span offset (evaluated S.s S.bound S.prev e (tick w))) (R (coded (low h e n (n + 1) m) (coded (part.moved_by t n offset) (coded (low.member_of false ty t) c))) (mk w y))
  member_structure ty e sim structure span offset t n m c w y st tn u room =
      subst (λ b. SimS (structure_goal t n w y) (R c) (m + length (sizes h e)) (src.member_at ty e span offset (evaluated S.s S.bound S.prev e (tick w))) (R (coded (low h e n (n + 1) m) (coded (part.moved_by t n offset) (if b then c else Do (LoadO t t) c))) (mk w y))) (sym structure)
      (by (evaluated S.s S.bound S.prev e (tick w)) (R (coded (low h e n (n + 1) m) (coded (part.moved_by t n offset) c)) (mk w y)) (sim n (n + 1) m (coded (part.moved_by t n offset) c) (tick w) y (omega (arith, st, tn)) (omega arith) u room))
    where
      by : (r : Val) (q : Res Mid) → SimS (structure_goal n (n + 1) (tick w) y) (R (coded (part.moved_by t n offset) c)) (m + length (sizes h e)) r q → SimS (structure_goal t n w y) (R c) (m + length (sizes h e)) (src.member_at ty e span offset r) q
      by (Value d wa) q a =
          let g = structure_goal t n w y in
          let hi : ℕ = m + length (sizes h e) in
          let k = taken_then g 44 n (n + 1) hi a.0 (tick w) y wa a.3 (begin_structure S t n w y u) (above_free g n (omega arith)) (omega arith) a.5 in
          let into : Cell = further (Ptr a.0 a.1) offset in
          subst (λ b. SimS g (R c) hi (if b then Value (further d offset) wa else asked Stops span wa (read_as ty wa.store.objects (further d offset)) (λ z. Value z (on_store (end_temporary (further d offset)) wa))) q) (sym structure)
          (subst (λ z. SimS g (R c) hi (Value (further z offset) wa) q) (sym a.2)
          (subst (SimS g (R c) hi (Value into wa)) (sym a.4)
          (moved_into g 48 t n hi a.0 a.1 offset wa a.3 c (as_64 g hi a.0 wa a.3 k) (at_free g) (eqb_more n t tn) (a.6 ∙ a.2) (SimS g (R c) hi) (Value into wa)
          (λ z hz ez. (a.0, (a.1 + offset) % 2 ^ 32, refl, z, refl, taken_less g 48 0 hi hi (a.0 ∷ []) wa z (omega arith) (omega arith) (taken_on g 64 48 hi (a.0 ∷ []) wa a.3 wa z k hz), ez)))))
        where
          as_64 : (g : Goal) (hi o : ℕ) (wa : World) (xa : Side) → Taken g (44 + 20) hi o wa xa → Taken g (48 + 16) hi o wa xa
          as_64 g hi o wa xa k = k
      by (Place p wa) q a = absurd a
      by (NoValue wa) q a = subst (λ z. Prefix wa.events (events_of z)) (sym a.1) (R_grows (coded (part.moved_by t n offset) c) (mk wa a.0))
      by (Stops f wa) q a = kept_wider (structure_goal t n w y) (structure_goal n (n + 1) (tick w) y) (omega arith) f wa q a

  -- a cell of it, after which it ends
  pub member_cell : (ty : Ty) (e : TExprT) → FollowStructure e → is_structure ty ≡ false → (span : Span) (offset t n m : ℕ) (c : NodesT ℕ) (w : World) (y : Side) → scratch ≤ t → t < n → Fit w y → Room S (base_of w y) m (sizes h e)
      → SimV (goal false t n w y) (R c) false (src.member_at ty e span offset (evaluated S.s S.bound S.prev e (tick w))) (R (coded (low h e n (n + 1) m) (coded (part.moved_by t n offset) (coded (low.member_of false ty t) c))) (mk w y))
  member_cell ty e sim scalar span offset t n m c w y st tn u room =
      subst (λ b. SimV (goal false t n w y) (R c) false (src.member_at ty e span offset (evaluated S.s S.bound S.prev e (tick w))) (R (coded (low h e n (n + 1) m) (coded (part.moved_by t n offset) (if b then c else Do (LoadO t t) c))) (mk w y))) (sym scalar)
      (by (evaluated S.s S.bound S.prev e (tick w)) (R (coded (low h e n (n + 1) m) (coded (part.moved_by t n offset) (Do (LoadO t t) c))) (mk w y)) (sim n (n + 1) m (coded (part.moved_by t n offset) (Do (LoadO t t) c)) (tick w) y (omega (arith, st, tn)) (omega arith) u room))
    where
      by : (r : Val) (q : Res Mid) → SimS (structure_goal n (n + 1) (tick w) y) (R (coded (part.moved_by t n offset) (Do (LoadO t t) c))) (m + length (sizes h e)) r q → SimV (goal false t n w y) (R c) false (src.member_at ty e span offset r) q
      by (Value d wa) q a =
          let g = goal false t n w y in
          let hi : ℕ = m + length (sizes h e) in
          let k = taken_then g 36 n (n + 1) hi a.0 (tick w) y wa a.3 (begin_value S t n w y u) (above_free g n (omega arith)) (omega arith) a.5 in
          let into : Cell = further (Ptr a.0 a.1) offset in
          let g1 : Goal = anew g wa a.3 in
          let σ : Way g1 = record { R = Val; stop = Stops; T = SimV g (R c) false; stops = λ f v z i. kept_wider g g1 (omega arith) f v z i } in
          let r : Val = asked Stops span wa (read_as ty wa.store.objects into) (λ z. Value z (on_store (end_temporary into) wa)) in
          subst (λ b. SimV g (R c) false (if b then Value (further d offset) wa else asked Stops span wa (read_as ty wa.store.objects (further d offset)) (λ z. Value z (on_store (end_temporary (further d offset)) wa))) q) (sym scalar)
          (subst (λ z. SimV g (R c) false (asked Stops span wa (read_as ty wa.store.objects (further z offset)) (λ v. Value v (on_store (end_temporary (further z offset)) wa))) q) (sym a.2)
          (subst (SimV g (R c) false r) (sym a.4)
          (moved_into g 40 t n hi a.0 a.1 offset wa a.3 (Do (LoadO t t) c) (as_56 g hi a.0 wa a.3 k) (at_free g) (eqb_more n t tn) (a.6 ∙ a.2) (SimV g (R c) false) r
          (λ z hz ez. loads S g1 σ span wa 32 z ty t t into c (as_40 g1 wa z hz) (at_free g) ez (λ v. Value v (on_store (end_temporary into) wa))
          (λ v b hb eb rest. (refl, back_to g.base.floor b, refl, less_now g 32 (on_store (end_temporary into) wa) (back_to g.base.floor b) (taken_left g 32 hi a.0 ((a.1 + offset) % 2 ^ 32) wa b (taken_on g 56 32 hi (a.0 ∷ []) wa a.3 wa b k hb)), eb))))))
        where
          as_56 : (g : Goal) (hi o : ℕ) (wa : World) (xa : Side) → Taken g (36 + 20) hi o wa xa → Taken g (40 + 16) hi o wa xa
          as_56 g hi o wa xa k = k

          as_40 : (g : Goal) (wa : World) (xa : Side) → Now g 40 wa xa → Now g (32 + 8) wa xa
          as_40 g wa xa k = k
      by (Place p wa) q a = absurd a
      by (NoValue wa) q a = subst (λ z. Prefix wa.events (events_of z)) (sym a.1) (R_grows (coded (part.moved_by t n offset) (Do (LoadO t t) c)) (mk wa a.0))
      by (Stops f wa) q a = kept_wider (goal false t n w y) (structure_goal n (n + 1) (tick w) y) (omega arith) f wa q a
