-- Structures that are values are used: assigned, and dropped.
use Rattle.std.proofs.Common.{◌≡◌, ℕ, ◌+◌, ◌<◌, ◌≤◌, ◌^◌, Bool, true, false, [], ◌∷◌, ◌++◌, length, Some, None, Ok, refl, sym, ◌∙◌, subst, arith, if◌then◌else◌}
use Rattle.std.proofs.lemmas.Bool.{false≢true}
use Rattle.c_tree.specs.declared.span.Span.{Span}
use Rattle.c_types.specs.Types.{Ty, VoidY, IntY, BoolY, EnumY, StructY, UnionY, PointerY, ArrayY}
use Rattle.c_types.specs.Typed.{TExprT}
use Rattle.c_types.specs.Sizes.{words_of}
use Rattle.c_exprs.specs.Nodes.{is_place}
use Rattle.obj_mem.specs.declared.cell.Cell.{Cell}
use Rattle.obj_mem.specs.declared.cell.Cell.TheVariants.{Ptr}
use Rattle.obj_mem.specs.Stores.{with_objects}
use Rattle.obj_mem.specs.Queries.{write}
use Rattle.obj_mem.specs.Worlds.{World, on_store, spend}
use Rattle.c_meaning.specs.declared.end.End.{End}
use Rattle.c_meaning.specs.declared.end.End.TheVariants.{Stray}
use Rattle.c_meaning.specs.Kinds.{type_of, span_of}
use Rattle.c_types.specs.Kinds.{is_structure}
use Rattle.c_meaning.specs.Outcomes.{Val, Value, Place, NoValue, Stops, asked, Through, CutOff, then_value, then_place, then_went}
use Rattle.c_meaning.specs.Cells.{end_temporary, stored, cells_set}
use Rattle.c_meaning.specs.Operators.{converted}
use Rattle.c_meaning.specs.Expressions as src
use Rattle.c_meaning.specs.Expressions.{value_of, dropped, dropped_value, evaluated}
use Rattle.mid_code.specs.Code.{StoreO, NodesT, Do}
use Rattle.mid_code.specs.Meaning.{Res}
use Rattle.mid_code.specs.inner.Passing.{Prefix}
use Rattle.lower_trees.specs.Shape.{Shape, shape_in, words}
use Rattle.lower_trees.specs.Flags.{is_flag}
use Rattle.lower_trees.specs.Parts as part
use Rattle.lower_trees.specs.Pieces.{coded}
use Rattle.lower_trees.specs.Expressions.{low, value}
use Rattle.lower_trees.specs.Expressions as low
use Rattle.lower_trees.specs.Counts.{sizes, value_sizes}
use Rattle.mid_lower.proofs.Grows.{Mid, Grows}
use Rattle.mid_lower.proofs.Words.{in_words}
use Rattle.mid_lower.proofs.Lives.{later_then}
use Rattle.mid_lower.proofs.Fits.{Site}
use Rattle.mid_lower.proofs.Following.{events_of, Side, mk, Goal, goal, Fit, Now, Kept, SimV, Way, Free, Before, scratch, base_of, restay, stays_here, stays_then, value_now, at_free, above_free, eqb_more, kept_wider, M, M_grows}
use Rattle.mid_lower.proofs.Room.{Room, room_at, room_first, room_second}
use Rattle.mid_lower.proofs.Values.{Follow}
use Rattle.mid_lower.proofs.CellLoops.{copies_between}
use Rattle.mid_lower.proofs.StructureValues.{anew, back_to}
use Rattle.mid_lower.proofs.Taken.{Taken, taken_less, taken_here, taken_on, taken_left}
use Rattle.mid_lower.proofs.Structures.{structure_goal, SimS, FollowValue}

-- what a part has taken, in the whole
pub taken_then : (γ : Goal) (s t n hi o : ℕ) (w : World) (x : Side) (wa : World) (xa : Side) → Now γ s w x → Free γ t → γ.first ≤ n → Taken (structure_goal t n w x) 0 hi o wa xa → Taken γ (s + 20) hi o wa xa
taken_then γ s t n hi o w x wa xa h free le p =
    let fl = h.stays.same_floor in
    let eo = h.stays.same_own in
    let over = p.over in
    let most = p.most in
    record {
      fit = p.fit;
      same_function = p.same_function ∙ h.stays.same_function;
      same_own = p.same_own ∙ h.stays.same_own;
      later = later_then γ.base.objects w.store.objects wa.store.objects h.stays.later p.later;
      over = omega (arith, fl, over);
      most = omega (arith, eo, most);
      long = p.long ∙ h.stays.long;
      keep = λ i lt. p.keep i (omega (arith, lt, fl)) ∙ h.stays.keep i lt;
      there = p.there;
      mine = λ i g lt. p.mine i (omega (arith, g, fl)) lt;
      below = λ j c d e. p.below j (omega (arith, c)) (omega (arith, d, le)) (free j c d e) ∙ h.below j c d e;
      cost = omega (arith, h.cost, p.cost);
    }

-- what follows a structure's value in t
abbrev pub UsesTaken : (γ : Goal) (σ : Way γ) → (s t n hi : ℕ) → Side → (Mid → Res Mid) → (Cell → World → σ.R) → Type 0
UsesTaken γ σ s t n hi x ka go = (o j : ℕ) (wa : World) (xa : Side) → Taken γ s hi o wa xa → xa.temps t ≡ Ptr o j → Before t n x xa → σ.T (go (Ptr o j) wa) (ka (mk wa xa))

module _ (γ : Goal) (σ : Way γ) (s t n hi : ℕ) (w : World) (x : Side) (ka : Mid → Res Mid) (h : Now γ s w x) (free : Free γ t) (le : γ.first ≤ n) (g : (q : Mid) → Grows q (ka q)) where
  -- a structure's value that is used
  pub value_then : (span : Span) (r : Val) (q : Res Mid) → SimS (structure_goal t n w x) ka hi r q → (go : Cell → World → σ.R) → UsesTaken γ σ (s + 20) t n hi x ka go → σ.T (then_value σ.stop span r go) q
  value_then span (Value c wa) q a go f =
      subst (λ z. σ.T (go z wa) q) (sym a.2) (subst (σ.T (go (Ptr a.0 a.1) wa)) (sym a.4)
      (f a.0 a.1 wa a.3 (taken_then γ s t n hi a.0 w x wa a.3 h free le a.5) (a.6 ∙ a.2) (λ j d e ne. a.5.below j (omega (arith, d)) e ne)))
  value_then span (Place p wa) q a go f = absurd a
  value_then span (NoValue wa) q a go f = σ.stops (Stray span) wa q (subst (λ z. Prefix wa.events (events_of z)) (sym a.1) (g (mk wa a.0)))
  value_then span (Stops e wa) q a go f = σ.stops e wa q (kept_wider γ (structure_goal t n w x) (omega (arith, h.cost)) e wa q a)

  -- and one that is dropped
  pub value_dropped : (e : TExprT) → is_structure (type_of e) ≡ true → (r : Val) (q : Res Mid) → SimS (structure_goal t n w x) ka hi r q → (go : World → σ.R) → ((wa : World) (xa : Side) → Now γ (s + 20) wa xa → σ.T (go wa) (ka (mk wa xa))) → σ.T (dropped_value σ.stop e r go) q
  value_dropped e structure (Value c wa) q a go f =
      subst (λ b. σ.T (go (on_store (λ u. if b then end_temporary c u else u) wa)) q) (sym structure)
      (subst (λ z. σ.T (go (on_store (end_temporary z) wa)) q) (sym a.2) (subst (σ.T (go (on_store (end_temporary (Ptr a.0 a.1)) wa))) (sym a.4)
      (f (on_store (end_temporary (Ptr a.0 a.1)) wa) (back_to γ.base.floor a.3) (taken_left γ (s + 20) hi a.0 a.1 wa a.3 (taken_then γ s t n hi a.0 w x wa a.3 h free le a.5)))))
  value_dropped e structure (Place p wa) q a go f = absurd a
  value_dropped e structure (NoValue wa) q a go f =
      subst (σ.T (go wa)) (sym a.1) (f wa a.0 (no_value wa a.0 a.2))
    where
      no_value : (wa : World) (xa : Side) → Now (structure_goal t n w x) 0 wa xa → Now γ (s + 20) wa xa
      no_value wa xa p = record { stays = stays_then γ.base w x wa xa h.stays p.stays; below = λ j c d e. p.below j (omega (arith, c)) (omega (arith, d, le)) (free j c d e) ∙ h.below j c d e; cost = omega (arith, h.cost, p.cost) }
  value_dropped e structure (Stops i wa) q a go f = σ.stops i wa q (kept_wider γ (structure_goal t n w x) (omega (arith, h.cost)) i wa q a)

-- a place that is used
place_then : (γ : Goal) (T : Val → Res Mid → Type 0) → ((f : End) (w : World) (m : Res Mid) → Kept γ f w m → T (Stops f w) m) → (s a n : ℕ) (w : World) (x : Side) (ka : Mid → Res Mid) → Now γ s w x → Free γ a → γ.first ≤ n → ((t : Mid) → Grows t (ka t)) → (pb : Bool) (span : Span) (r : Val) (m : Res Mid) → SimV (goal pb a n w x) ka pb r m → (go : Cell → World → Val)
    → ((v : Cell) (wa : World) (xa : Side) → Now γ (s + 52) wa xa → xa.temps a ≡ v → Before a n x xa → T (go v wa) (ka (mk wa xa))) → T (then_place span r go) m
place_then γ T stops s a n w x ka h free le g true span (Place q wa) m p go f = subst (T (go q wa)) (sym p.2) (f q wa p.1 (value_now γ s a n true w wa x p.1 h free le p.3) p.4 (λ j d e ne. p.3.below j (omega (arith, d)) e ne))
place_then γ T stops s a n w x ka h free le g false span (Place q wa) m p go f = absurd (false≢true p.0)
place_then γ T stops s a n w x ka h free le g pb span (Value c wa) m p go f = stops (Stray span) wa m (subst (λ q. Prefix wa.events (events_of q)) (sym p.2) (g (mk wa p.1)))
place_then γ T stops s a n w x ka h free le g pb span (NoValue wa) m p go f = stops (Stray span) wa m (subst (λ q. Prefix wa.events (events_of q)) (sym p.2) (g (mk wa p.1)))
place_then γ T stops s a n w x ka h free le g true span (Stops f wa) m p go _ = stops f wa m (kept_wider γ (goal true a n w x) (omega (arith, h.cost)) f wa m p)
place_then γ T stops s a n w x ka h free le g false span (Stops f wa) m p go _ = stops f wa m (kept_wider γ (goal false a n w x) (omega (arith, h.cost)) f wa m p)

module _ (S : Site) where
  abbrev R : NodesT ℕ → Mid → Res Mid
  R = M S

  abbrev R_grows : (c : NodesT ℕ) (t : Mid) → Grows t (R c t)
  R_grows = M_grows S

  abbrev h : Shape
  h = shape_in S.s

  abbrev tick : World → World
  tick w = spend 1 w

  pub begin_structure : (t n : ℕ) (w : World) (x : Side) → Fit w x → Now (structure_goal t n w x) 44 (tick w) x
  begin_structure t n w x u = record { stays = restay (base_of w x) w x (tick w) x refl refl refl refl (stays_here w x u); below = λ j sc lt ne. refl; cost = omega arith }

  -- a structure's value stays as it is
  pub kept_structure : (ty : Ty) (c : Cell) → is_structure ty ≡ true → converted ty c ≡ Ok c
  kept_structure (StructY i) c e = refl
  kept_structure (UnionY i) c e = refl
  kept_structure VoidY c e = refl
  kept_structure IntY c e = refl
  kept_structure BoolY c e = absurd (false≢true e)
  kept_structure (EnumY i) c e = refl
  kept_structure (PointerY i) c e = refl
  kept_structure (ArrayY of len) c e = refl

  pub same_code : (ty : Ty) (known : Bool) (t : ℕ) (c : NodesT ℕ) → is_structure ty ≡ true → coded (part.converted ty known t) c ≡ c
  same_code (StructY i) known t c e = refl
  same_code (UnionY i) known t c e = refl
  same_code VoidY known t c e = refl
  same_code IntY known t c e = refl
  same_code BoolY known t c e = absurd (false≢true e)
  same_code (EnumY i) known t c e = refl
  same_code (PointerY i) known t c e = refl
  same_code (ArrayY of len) known t c e = refl

  -- a structure's value in t is stored at the place in p, and is still there
  module _ (γ : Goal) (s t n p hi o j : ℕ) (e : TExprT) (known : Bool) (span : Span) (place : Cell) (w : World) (x : Side) (c : NodesT ℕ) (h0 : Taken γ (s + 32) hi o w x) (structure : is_structure (type_of e) ≡ true) (five : 5 ≤ t) (five_p : 5 ≤ p) (at : x.temps t ≡ Ptr o j) (there : x.temps p ≡ place) where
    abbrev γ1 : Goal
    γ1 = anew γ w x

    pub structure_stored : (T : Val → Res Mid → Type 0) → ((f : End) (u : World) (m : Res Mid) → Kept γ f u m → T (Stops f u) m)
        → ((v : World) (y : Side) → Taken γ (s + 16) hi o v y → y.temps t ≡ Ptr o j → ((i : ℕ) → 5 ≤ i → y.temps i ≡ x.temps i) → T (Value (Ptr o j) v) (R c (mk v y)))
        → T (src.assigned S.s S.bound e span place (Ptr o j) w) (R (coded (part.converted (type_of e) known t) (coded (part.stored h (type_of e) p t) c)) (mk w x))
    structure_stored T stops f =
        let size : ℕ = words h (type_of e) in
        let σ : Way γ1 = record { R = Val; stop = Stops; T = T; stops = λ i u m q. stops i u m (kept_wider γ γ1 (omega arith) i u m q) } in
        let few : size < 2 ^ 32 = in_words (words_of h.layouts (type_of e)) in
        subst (λ d. T (src.assigned S.s S.bound e span place (Ptr o j) w) (R d (mk w x))) (sym (same_code (type_of e) known t (coded (part.stored h (type_of e) p t) c) structure))
        (subst (λ q. T (asked Stops span w q (λ z. then_went Stops (stored S.s S.bound 0 (type_of e) (span_of e) place z w) (λ u. Value z u))) (R (coded (part.stored h (type_of e) p t) c) (mk w x))) (sym (kept_structure (type_of e) (Ptr o j) structure))
        (subst (λ b. T (then_went Stops (if b then cells_set (span_of e) (0 + 1) S.bound size (Some (Ptr o j)) place w else asked CutOff (span_of e) (spend 0 w) (write w.store.objects place (Ptr o j)) (λ os. Through (on_store (with_objects os) (spend 0 w)))) (λ u. Value (Ptr o j) u)) (R (if b then coded (part.copied_between size t p) c else Do (StoreO p t) c) (mk w x))) (sym structure)
        (copies_between S γ1 (span_of e) 1 (omega arith) σ s size (omega (arith, few)) t p (Ptr o j) place w x c (taken_here γ (s + 32) hi (o ∷ []) w x h0) five five_p at there (λ u. Value (Ptr o j) u) (λ v u hu others.
        f v u (taken_on γ (s + 32) (s + 16) hi (o ∷ []) w x v u h0 hu) (others t five ∙ at) others))))

  -- the assignment of a structure, whose value is that structure
  pub assign_structure : (a b : TExprT) → Follow S a → FollowValue S b → is_structure (type_of a) ≡ true → (span : Span) (t n m hi : ℕ) (c : NodesT ℕ) (w : World) (y : Side) → scratch ≤ t → t < n → Fit w y → Room S (base_of w y) m (sizes h a ++ value_sizes h b) → m + length (sizes h a) + length (value_sizes h b) ≤ hi
      → SimS (structure_goal t n w y) (R c) hi (src.assign S.s S.bound None a b span (evaluated S.s S.bound S.prev a (tick w)) (evaluated S.s S.bound S.prev b)) (R (coded (low.assign h None a b (low.low h a) (low.low h b) t n m) c) (mk w y))
  assign_structure a b sima simb structure span t n m hi c w y st tn u room most =
      let γ = structure_goal t n w y in
      let T : Val → Res Mid → Type 0 = SimS γ (R c) hi in
      let n2 : ℕ = low.behind_place a n + 2 in
      let m2 : ℕ = m + length (sizes h a) in
      let hb : ℕ = m2 + length (value_sizes h b) in
      let c1 : NodesT ℕ = coded (part.converted (type_of a) (is_flag b) t) (coded (part.stored h (type_of a) n t) c) in
      let c0 : NodesT ℕ = coded (low.value h b (low.low h b) t n2 m2) c1 in
      place_then γ T (λ f v q k. k) 44 n (n + 1) (tick w) y (R c0) (begin_structure t n w y u) (above_free γ n (omega arith)) (omega arith) (R_grows c0) (is_place a) span (evaluated S.s S.bound S.prev a (tick w)) (R (coded (low.low h a n (n + 1) m) c0) (mk w y))
      (sima n (n + 1) m c0 (tick w) y (omega (arith, st, tn)) (omega arith) u (room_first S (base_of w y) m (sizes h a) (value_sizes h b) room))
      (λ p wa. src.with_value Stops S.s S.bound b (evaluated S.s S.bound S.prev b wa) (λ d wb. src.assigned S.s S.bound a span p d wb))
      (λ p wa xa ha at below.
      value_then γ (record { R = Val; stop = Stops; T = T; stops = λ f v q k. k }) 96 t n2 hb wa xa (R c1) ha (at_free γ) (omega arith) (R_grows c1) (span_of b) (value_of S.s S.bound b (evaluated S.s S.bound S.prev b wa)) (R c0 (mk wa xa))
      (simb t n2 m2 c1 wa xa st (omega (arith, tn)) ha.stays.fit (room_at S γ.base m2 (value_sizes h b) wa xa (room_second S (base_of w y) m (sizes h a) (value_sizes h b) room) ha.stays))
      (λ d wb. src.assigned S.s S.bound a span p d wb)
      (λ o j wb xb hx at2 below2.
      structure_stored γ 84 t n2 n hb o j a (is_flag b) span p wb xb c (more γ hb o wb xb hx) structure (omega (arith, st)) (omega (arith, st, tn)) at2 (below2 n (omega (arith, st, tn)) (omega arith) (eqb_more n t tn) ∙ at) T (λ f v q k. k)
      (λ v z hz at3 keep. (o, j, refl, z, refl, taken_less γ 100 0 hb hi (o ∷ []) v z (omega arith) (omega (arith, most)) (same γ hb o v z hz), at3))))
    where
      more : (γ : Goal) (hi o : ℕ) (w : World) (x : Side) → Taken γ (96 + 20) hi o w x → Taken γ (84 + 32) hi o w x
      more γ hi o w x h = h

      same : (γ : Goal) (hi o : ℕ) (w : World) (x : Side) → Taken γ (84 + 16) hi o w x → Taken γ 100 hi o w x
      same γ hi o w x h = h
