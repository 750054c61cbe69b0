-- Calls whose value is a word, of functions without a result, and calls whose value is a structure: mid code follows them.
use Rattle.std.proofs.Common.{◌≡◌, ℕ, ◌+◌, ◌*◌, ◌-◌, ◌<◌, ◌≤◌, Bool, true, false, List, [], ◌∷◌, ◌++◌, length, slice_get, Option, Some, None, refl, sym, ap, ◌∙◌, subst, arith, if◌then◌else◌}
use Rattle.std.proofs.lemmas.Bool.{false≢true}
use Rattle.std.proofs.lemmas.List.{append-nil}
use Rattle.std.specs.Option.{option_map_or}
use Rattle.c_tree.specs.declared.span.Span.{Span}
use Rattle.c_types.specs.Types.{VoidY}
use Rattle.c_types.specs.Typed.{TExprTs}
use Rattle.c_types.specs.Programs.{TFunctionT}
use Rattle.obj_mem.specs.Objects.{end_object}
use Rattle.obj_mem.specs.declared.cell.Cell.{Cell}
use Rattle.obj_mem.specs.declared.cell.Cell.TheVariants.{Unwritten, Ptr}
use Rattle.obj_mem.specs.Stores.{has_room, entered, returned_to, next_object, with_objects, with_temporary, words_here}
use Rattle.obj_mem.specs.Worlds.{World, on_store}
use Rattle.c_types.specs.Kinds.{is_structure, is_void}
use Rattle.c_meaning.specs.Outcomes.{Val, Value, NoValue, Body}
use Rattle.c_meaning.specs.Setting.{words}
use Rattle.c_meaning.specs.Expressions as src
use Rattle.mid_code.specs.Code.{FreshO, LocalO, NodesT, Do, Call}
use Rattle.mid_code.specs.Meaning as res
use Rattle.mid_code.specs.Meaning.{Res, did, then_next, ask, call_weight}
use Rattle.mid_code.specs.States.{temporaries, sizes_of, function_at, to, spent}
use Rattle.lower_trees.specs.Shape.{Shape, shape_in, params_of, result_of}
use Rattle.lower_trees.specs.Expressions as low
use Rattle.lower_trees.specs.Pieces.{coded}
use Rattle.lower_trees.specs.Expressions.{spots}
use Rattle.mid_lower.proofs.Grows.{Mid, Grows}
use Rattle.mid_lower.proofs.Fits.{Site}
use Rattle.mid_lower.proofs.Giving.{GivesNone, GivesWord, GivesAt, Given, giving}
use Rattle.mid_lower.proofs.Room.{Room}
use Rattle.mid_lower.proofs.Following.{Side, mk, Goal, goal, base_of, Now, SimV, put_at, at_free, spare, sets, M, M_grows, L}
use Rattle.mid_lower.proofs.StructureValues.{anew, with_value, taken, back_to, taken_is, taken_now, cell_there}
use Rattle.mid_lower.proofs.Taken.{TakenAll, taken_here, taken_of, taken_more, taken_ended, none_left}
use Rattle.mid_lower.proofs.Structures.{structure_goal, SimS}
use Rattle.mid_lower.proofs.Arguments.{Holds, holds_length, holds_still, passed, with_ended, released_is, passed_ended}
use Rattle.mid_lower.proofs.Calling.{the_none, after, target_of, BodiesFollow, came, back_at, asks}

module _ (S : Site) where
  abbrev R : NodesT ℕ → Mid → Res Mid
  R = M S

  abbrev R_grows : (c : NodesT ℕ) (t : Mid) → Grows t (R c t)
  R_grows = M_grows S

  abbrev h : Shape
  h = shape_in S.s

  -- ---- a word, or none

  module _ (t n : ℕ) (w0 : World) (y0 : Side) (c : NodesT ℕ) (f : ℕ) (g : TFunctionT) (scalar : is_structure g.gives ≡ false) (span : Span) (bs : List ℕ) (vs : List Cell) (hi s : ℕ) (w : World) (x : Side) (cw : ℕ) (costs : cw + 24 + 16 * length vs ≤ s) (h0 : TakenAll (goal false t n w0 y0) s hi (passed g.params vs) w x) where
    abbrev γ : Goal
    γ = goal false t n w0 y0

    abbrev T : Val → Res Mid → Type 0
    T = SimV γ (R c) false

    -- back in the caller
    abbrev back : World → World
    back w2 = back_at S γ T (λ e v q k. k) (omega arith) c f g span vs Unwritten bs s hi (passed g.params vs) w x cw costs h0 w2

    abbrev returns : Bool → Side → Cell → Side
    returns b x2 v = came S γ T (λ e v q k. k) (omega arith) c f g span vs Unwritten bs s hi (passed g.params vs) w x cw costs h0 b x2 v

    -- and the structures that were passed have ended
    used : (w2 : World) (y : Side) → TakenAll γ 0 hi (passed g.params vs) (back w2) y → Now γ 0 (on_store (with_ended (passed g.params vs)) (back w2)) (back_to γ.base.floor y)
    used w2 y k = none_left γ 0 hi (on_store (with_ended (passed g.params vs)) (back w2)) y (passed_ended γ 0 hi (passed g.params vs) [] (back w2) y (subst (λ ts. TakenAll γ 0 hi ts (back w2) y) (sym (append-nil (passed g.params vs))) k))

    without : (b : Bool) (w2 : World) (x2 : Side) (v : Cell) (q : Res Mid) → q ≡ R c (mk (back w2) (returns b x2 v)) → TakenAll γ 0 hi (passed g.params vs) (back w2) (returns b x2 v) → T (NoValue (on_store (src.back_without g.params vs Unwritten w.store) w2)) q
    without b w2 x2 v q e k =
        subst (λ u. T (NoValue (record w2 { store = u })) q) (sym (released_is g.params vs (returned_to w.store w2.store)))
        (refl, back_to γ.base.floor (returns b x2 v), e, used w2 (returns b x2 v) k)

    word_at : (b : Bool) (d : Cell) (x2 : Side) → Given (if b then GivesNone else GivesWord) d x2 → after b x.temps t x2.given t ≡ d
    word_at true d x2 k = absurd k
    word_at false d x2 k = put_at x.temps t x2.given ∙ k

    with : (b : Bool) → is_void g.gives ≡ b → (d : Cell) (w2 : World) (x2 : Side) (q : Res Mid) → Given (giving g.gives Unwritten) d x2 → q ≡ R c (mk (back w2) (returns b x2 x2.given)) → TakenAll γ 0 hi (passed g.params vs) (back w2) (returns b x2 x2.given) → T (Value d (on_store (src.back_with g.params vs w.store) w2)) q
    with b void d w2 x2 q a e k =
        let word : Given (if b then GivesNone else GivesWord) d x2 = subst (λ z. Given (if z then GivesNone else GivesWord) d x2) void (subst (λ z. Given (if z then GivesAt Unwritten else if is_void g.gives then GivesNone else GivesWord) d x2) scalar a) in
        subst (λ u. T (Value d (record w2 { store = u })) q) (sym (released_is g.params vs (returned_to w.store w2.store)))
        (refl, back_to γ.base.floor (returns b x2 x2.given), e, used w2 (returns b x2 x2.given) k, word_at b d x2 word)

    pub value_asks : BodiesFollow S → Holds bs vs x.temps → slice_get S.s.functions f ≡ Some g → (k : ℕ)
        → SimV γ (R c) false (src.if_bound k w (λ u. src.if_room (has_room S.s.sizes f u.store) span u (λ v. src.call_done g.params vs Unwritten span v.store (S.prev (Body f vs Unwritten) (on_store (entered S.s.sizes f) v)))))
        (then_next (ask k (mk w (record x { work = x.work + cw })) (λ u. did ((L S).enter f bs u) (λ v. res.call_done (L S).none ((L S).back (target_of (is_void g.gives) t) u) (S.prev' (function_at S.code f).body v)))) (R c))
    value_asks bodies holds e k =
        asks S γ T (λ e v q k. k) (omega arith) c f g span vs Unwritten bs s hi (passed g.params vs) w x cw costs h0 (is_void g.gives) (without (is_void g.gives)) (with (is_void g.gives) refl) bodies k
        (subst (λ b. Holds bs (if b then Unwritten ∷ vs else vs) x.temps) (sym scalar) holds) e

  pub called_value : BodiesFollow S → (t n m hi : ℕ) (w0 : World) (y0 : Side) (c : NodesT ℕ) (f : ℕ) (span : Span) (bs : List ℕ) (vs : List Cell) (w : World) (x : Side) → is_structure (result_of h f) ≡ false → TakenAll (goal false t n w0 y0) (36 + 20 * length vs) hi (passed (params_of h f) vs) w x → Holds bs vs x.temps
      → SimV (goal false t n w0 y0) (R c) false (src.call S.s S.bound S.prev f vs span w) (R (coded (low.called (result_of h f) f m t bs) c) (mk w x))
  called_value bodies t n m hi w0 y0 c f span bs vs w x = by (slice_get S.s.functions f) refl
    where
      γ : Goal
      γ = goal false t n w0 y0

      by : (o : Option TFunctionT) → slice_get S.s.functions f ≡ o → is_structure (option_map_or (λ g. g.gives) o VoidY) ≡ false → TakenAll (goal false t n w0 y0) (36 + 20 * length vs) hi (passed (option_map_or (λ g. g.params) o []) vs) w x → Holds bs vs x.temps
          → SimV (goal false t n w0 y0) (R c) false (src.call_of S.s S.bound S.prev f o vs span w) (R (coded (low.called (option_map_or (λ g. g.gives) o VoidY) f m t bs) c) (mk w x))
      by None e scalar h0 holds = R_grows (coded (low.called VoidY f m t bs) c) (mk w x)
      by (Some g) e scalar h0 holds =
          let long = holds_length bs vs x.temps holds in
          subst (λ b. SimV (goal false t n w0 y0) (R c) false (src.enter S.s S.bound S.prev f g vs (if b then next_object w.store else Unwritten) span (on_store (λ u. if b then with_temporary (words S.s g.gives) u else u) w)) (R (if b then Do (FreshO m) (Do (LocalO t m) (Call the_none f ((if b then t ∷ [] else []) ++ bs) c)) else Call (target_of (is_void g.gives) t) f ((if b then t ∷ [] else []) ++ bs) c) (mk w x))) (sym scalar)
          (value_asks t n w0 y0 c f g scalar span bs vs hi (36 + 20 * length vs) w x (call_weight bs) (omega (arith, long)) h0 bodies holds e S.bound)

  -- ---- a structure

  module _ (t n : ℕ) (w0 : World) (y0 : Side) (c : NodesT ℕ) (f : ℕ) (g : TFunctionT) (structure : is_structure g.gives ≡ true) (span : Span) (o : ℕ) (ps : List ℕ) (vs : List Cell) (hi s : ℕ) (w : World) (x : Side) (cw : ℕ) (costs : cw + 24 + 16 * length vs ≤ s) (h0 : TakenAll (structure_goal t n w0 y0) s hi (passed g.params vs ++ o ∷ []) w x) (at : x.temps t ≡ Ptr o 0) where
    abbrev δ : Goal
    δ = structure_goal t n w0 y0

    abbrev V : Val → Res Mid → Type 0
    V = SimS δ (R c) hi

    abbrev all : List ℕ
    all = passed g.params vs ++ o ∷ []

    abbrev place : Cell
    place = Ptr o 0

    -- back in the caller
    abbrev home : World → World
    home w2 = back_at S δ V (λ e v q k. k) (omega arith) c f g span vs place ps s hi all w x cw costs h0 w2

    abbrev comes : Side → Cell → Side
    comes x2 v = came S δ V (λ e v q k. k) (omega arith) c f g span vs place ps s hi all w x cw costs h0 true x2 v

    -- no value: the place of the result ends too
    nothing : (w2 : World) (x2 : Side) (v : Cell) (q : Res Mid) → q ≡ R c (mk (home w2) (comes x2 v)) → TakenAll δ 0 hi all (home w2) (comes x2 v) → V (NoValue (on_store (src.back_without g.params vs place w.store) w2)) q
    nothing w2 x2 v q e k =
        let wo : World = on_store (λ u. with_objects (end_object u.objects o) u) (home w2) in
        let y : Side = comes x2 v in
        subst (λ u. V (NoValue (record w2 { store = u })) q) (sym (released_is g.params vs wo.store))
        (back_to δ.base.floor y, e, none_left δ 0 hi (on_store (with_ended (passed g.params vs)) wo) y (passed_ended δ 0 hi (passed g.params vs) [] wo y (taken_ended δ 0 hi (passed g.params vs) o [] (home w2) y k)))

    given : (d : Cell) (w2 : World) (x2 : Side) (q : Res Mid) → Given (giving g.gives place) d x2 → q ≡ R c (mk (home w2) (comes x2 x2.given)) → TakenAll δ 0 hi all (home w2) (comes x2 x2.given) → V (Value d (on_store (src.back_with g.params vs w.store) w2)) q
    given d w2 x2 q a e k =
        let same : d ≡ place = subst (λ z. Given (if z then GivesAt place else if is_void g.gives then GivesNone else GivesWord) d x2) structure a in
        let y : Side = comes x2 x2.given in
        subst (λ u. V (Value d (record w2 { store = u })) q) (sym (released_is g.params vs (returned_to w.store w2.store)))
        (o, 0, same, y, e, passed_ended δ 0 hi (passed g.params vs) (o ∷ []) (home w2) y k, at ∙ sym same)

    pub structure_asks : BodiesFollow S → Holds ps (place ∷ vs) x.temps → slice_get S.s.functions f ≡ Some g → (k : ℕ)
        → V (src.if_bound k w (λ u. src.if_room (has_room S.s.sizes f u.store) span u (λ v. src.call_done g.params vs place span v.store (S.prev (Body f vs place) (on_store (entered S.s.sizes f) v)))))
        (then_next (ask k (mk w (record x { work = x.work + cw })) (λ u. did ((L S).enter f ps u) (λ v. res.call_done (L S).none ((L S).back the_none u) (S.prev' (function_at S.code f).body v)))) (R c))
    structure_asks bodies holds e k =
        asks S δ V (λ e v q k. k) (omega arith) c f g span vs place ps s hi all w x cw costs h0 true nothing given bodies k
        (subst (λ b. Holds ps (if b then place ∷ vs else vs) x.temps) (sym structure) holds) e

  -- the place of the result is made, and handed in front of the arguments
  pub called_structure : BodiesFollow S → (t n m : ℕ) (w0 : World) (y0 : Side) (c : NodesT ℕ) (f : ℕ) (span : Span) (xs : TExprTs) (vs : List Cell) (w : World) (x : Side) → t < n → is_structure (result_of h f) ≡ true → Room S (base_of w0 y0) m (words S.s (result_of h f) ∷ []) → TakenAll (structure_goal t n w0 y0) (44 + 20 * length vs) m (passed (params_of h f) vs) w x → Holds (spots xs n) vs x.temps
      → SimS (structure_goal t n w0 y0) (R c) (m + 1) (src.call S.s S.bound S.prev f vs span w) (R (coded (low.called (result_of h f) f m t (spots xs n)) c) (mk w x))
  called_structure bodies t n m w0 y0 c f span xs vs w x tn = by (slice_get S.s.functions f) refl
    where
      γ : Goal
      γ = structure_goal t n w0 y0

      by : (o : Option TFunctionT) → slice_get S.s.functions f ≡ o → is_structure (option_map_or (λ g. g.gives) o VoidY) ≡ true → Room S (base_of w0 y0) m (words S.s (option_map_or (λ g. g.gives) o VoidY) ∷ []) → TakenAll (structure_goal t n w0 y0) (44 + 20 * length vs) m (passed (option_map_or (λ g. g.params) o []) vs) w x → Holds (spots xs n) vs x.temps
          → SimS (structure_goal t n w0 y0) (R c) (m + 1) (src.call_of S.s S.bound S.prev f o vs span w) (R (coded (low.called (option_map_or (λ g. g.gives) o VoidY) f m t (spots xs n)) c) (mk w x))
      by None e structure room h0 holds = absurd (false≢true structure)
      by (Some g) e structure room h0 holds =
          let g0 = structure_goal t n w0 y0 in
          let bs : List ℕ = spots xs n in
          let size : ℕ = words S.s g.gives in
          let i : ℕ = m - length w.store.locals in
          let ts : List ℕ = passed g.params vs in
          let s : ℕ = 36 + 20 * length vs in
          let free = room.free in
          let fits = room.fits in
          let own = h0.same_own in
          let most = h0.most in
          let el = h0.long in
          let here : m ≡ length w.store.locals + i = omega (arith, free, own) in
          let unused : x.floor ≤ i = omega (arith, most, own) in
          let there : i < length x.extra = omega (arith, free, fits, own, el) in
          let words_there : words_here (sizes_of S.code S.frames) w.store.function m ≡ size = subst (λ k. words_here (sizes_of S.code S.frames) k m ≡ size) (sym h0.same_function) (subst (λ q. words_here (sizes_of S.code S.frames) w0.store.function q ≡ size) (plus_zero m) (room.words 0 (omega arith))) in
          let w1 : World = with_value size w in
          let x1 : Side = taken i size w x in
          let long = holds_length bs vs x.temps holds in
          let call : NodesT ℕ = Call the_none f (t ∷ bs) c in
          let start = taken_here g0 (44 + 20 * length vs) m ts w x h0 in
          let r : Val = src.enter S.s S.bound S.prev f g vs (next_object w.store) span w1 in
          let γ1 : Goal = anew g0 w1 x1 in
          subst (λ b. SimS g0 (R c) (m + 1) (src.enter S.s S.bound S.prev f g vs (if b then next_object w.store else Unwritten) span (on_store (λ u. if b then with_temporary (words S.s g.gives) u else u) w)) (R (if b then Do (FreshO m) (Do (LocalO t m) (Call the_none f ((if b then t ∷ [] else []) ++ bs) c)) else Call (target_of (is_void g.gives) t) f ((if b then t ∷ [] else []) ++ bs) c) (mk w x))) (sym structure)
          (subst (SimS g0 (R c) (m + 1) r) (sym (taken_is S i size m (Do (LocalO t m) call) w x h0.fit here words_there unused))
          (sets S (SimS g0 (R c) (m + 1)) γ1 s w1 x1 t (next_object w.store) (LocalO t m) call (eight γ1 w1 x1 (taken_now (anew g0 w x) (44 + 20 * length vs) i size w x start unused)) (at_free γ1) (ap (λ q. to temporaries t q (spent 8 (mk w1 x1))) (cell_there (anew g0 w x) (44 + 20 * length vs) m i size w x w1 x1 here there (taken_now (anew g0 w x) (44 + 20 * length vs) i size w x start unused))) r (λ y hy ey rest.
          structure_asks t n w0 y0 c f g structure span (length w.store.objects) (t ∷ bs) vs (m + 1) s w1 y (call_weight (t ∷ bs)) (omega (arith, long))
          (taken_more g0 (44 + 20 * length vs) s m (m + 1) ts (length w.store.objects ∷ []) w x w1 y h0
          (taken_of (anew g0 w x) (44 + 20 * length vs) s (m + 1) i size w x w1 y start unused there (omega (arith, here, own)) hy)) ey bodies (ey, holds_still xs vs t n x.temps y.temps tn rest holds) e S.bound)))
        where
          plus_zero : (k : ℕ) → k + 0 ≡ k
          plus_zero k = omega arith

          eight : (γ : Goal) (w : World) (x : Side) → Now γ (44 + 20 * length vs) w x → Now γ (36 + 20 * length vs + 8) w x
          eight γ w x k = spare γ (44 + 20 * length vs) (36 + 20 * length vs + 8) w x (omega arith) k
