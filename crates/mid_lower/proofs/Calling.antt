-- Calls: mid code follows them, where it follows the bodies of functions with one less of the bound.
use Rattle.std.proofs.Common.{◌≡◌, ℕ, zero, suc, ◌+◌, ◌*◌, ◌≤◌, Bool, true, false, eqb, leb, List, [], ◌∷◌, ◌++◌, length, sum, replicate, get_or, slice_get, Option, Some, None, refl, sym, ap, ◌∙◌, subst, arith, if◌then◌else◌}
use Rattle.c_tree.specs.declared.span.Span.{Span}
use Rattle.c_types.specs.Programs.{TFunctionT}
use Rattle.obj_mem.specs.Objects.{end_from}
use Rattle.obj_mem.specs.declared.cell.Cell.{Cell}
use Rattle.obj_mem.specs.declared.cell.Cell.TheVariants.{Unwritten}
use Rattle.obj_mem.specs.Stores.{has_room, entered, returned_to}
use Rattle.obj_mem.specs.Worlds.{World, on_store}
use Rattle.c_meaning.specs.declared.end.End.{End}
use Rattle.c_meaning.specs.declared.end.End.TheVariants.{Stray, Deep, OutOfBound}
use Rattle.c_meaning.specs.Runs.{ending}
use Rattle.c_meaning.specs.Outcomes.{Val, Value, NoValue, Stops, Done, Goes, Breaks, Continues, Returns, Ended, Body}
use Rattle.c_meaning.specs.Expressions.{call_done}
use Rattle.c_meaning.specs.Expressions as src
use Rattle.mid_code.specs.Code.{NodesT}
use Rattle.mid_code.specs.Meaning as res
use Rattle.mid_code.specs.Meaning.{Res, Over, did, then_next, ask}
use Rattle.mid_code.specs.States.{temporaries, received, begun, sizes_of, function_at, if_room}
use Rattle.mid_code.specs.inner.Passing.{Prefix}
use Rattle.mid_lower.proofs.Grows.{Mid, Grows, more, then_grows, done_grows}
use Rattle.mid_lower.proofs.Under.{Under, under_length, under_from}
use Rattle.mid_lower.proofs.Lives.{later_then, later_from}
use Rattle.mid_lower.proofs.Fits.{Site}
use Rattle.mid_lower.proofs.Giving.{Giving, Given, giving, handed}
use Rattle.mid_lower.proofs.Following.{Side, mk, Goal, base_of, stays_here, stays_later, Out, Kept, events_of, putting, put_other, stopped, kept_wider, kept_through, M, M_grows, L}
use Rattle.mid_lower.proofs.Taken.{TakenAll, taken_on}
use Rattle.mid_lower.proofs.Arguments.{Holds, holds_map}

abbrev pub the_none : Option ℕ
the_none = None

-- locals that are not made
abbrev pub unmade : List ℕ → List (Option ℕ)
unmade sizes = replicate (length sizes) the_none

unmade_all : (a b : List ℕ) → unmade (a ++ b) ≡ unmade a ++ unmade b
unmade_all [] b = refl
unmade_all (x ∷ a) b = ap (λ l. the_none ∷ l) (unmade_all a b)

-- ---- what is done with one less of the bound

-- a body that comes to an outcome; what it returns is what its function gives
abbrev pub SimF : Giving → Goal → Done → Res Mid → Type 0
SimF b γ (Goes w) m = (x : Side) × (m ≡ res.Next (mk w x)) × Out γ w x
SimF b γ (Breaks w) m = Prefix w.events (events_of m)
SimF b γ (Continues w) m = Prefix w.events (events_of m)
SimF b γ (Returns None w) m = (x : Side) × (m ≡ res.Returns (mk w x)) × Out γ w x
SimF b γ (Returns (Some c) w) m = (x : Side) × (m ≡ res.Returns (mk w x)) × Out γ w x × Given b c x
SimF b γ (Ended f w) m = Kept γ f w m

-- a body may do with 8, and 16 for each parameter, more
abbrev pub body_goal : List Cell → World → Side → Goal
body_goal vs w x = record { at = 0; first = 0; skip = 2; temps = x.temps; less = 64 * w.work; from = x.work + 16 * length vs + 8; ends = 16; base = base_of w x }

-- the target of a call takes the result, where there is one
abbrev pub after : (void : Bool) → (ℕ → Cell) → (t : ℕ) → Cell → ℕ → Cell
after true f t v = f
after false f t v = putting f t v

abbrev pub target_of : (void : Bool) → (t : ℕ) → Option ℕ
target_of b t = if b then None else Some t

module _ (S : Site) where
  abbrev R : NodesT ℕ → Mid → Res Mid
  R = M S

  abbrev R_grows : (c : NodesT ℕ) (t : Mid) → Grows t (R c t)
  R_grows = M_grows S

  -- the side of a call that begins, to which these cells are handed
  abbrev pub at_entry : ℕ → (handed : List Cell) → Side → Side
  at_entry f us x = record { objs = x.objs; work = x.work + 16; temps = received temporaries (function_at S.code f).params us; given = Unwritten; extra = unmade (S.fits.more f); floor = 0 }

  -- the functions' bodies follow
  abbrev pub BodiesFollow : Type 0
  BodiesFollow =
      (f : ℕ) (g : TFunctionT) → slice_get S.s.functions f ≡ Some g → (vs : List Cell) (r : Cell) (w : World) (x : Side) → Under w.store.objects x.objs
      → SimF (giving g.gives r) (body_goal vs (on_store (entered S.s.sizes f) w) (at_entry f (handed g.gives r vs) x)) (S.prev (Body f vs r) (on_store (entered S.s.sizes f) w)) (S.prev' (function_at S.code f).body (mk (on_store (entered S.s.sizes f) w) (at_entry f (handed g.gives r vs) x)))

  room_is : (f : ℕ) (w : World) (x : Side) → has_room (sizes_of S.code S.frames) f (mk w x).world.store ≡ has_room S.s.sizes f w.store
  room_is f w x = ap (λ u. leb (w.store.used + (u + 2) + sum S.code.globals) 4194304) (S.fits.frame f) ∙ ap (λ u. leb (w.store.used + (S.s.sizes.frame f + 2) + u) 4194304) S.fits.globals

  begins : (f : ℕ) (bs : List ℕ) (vs : List Cell) (w : World) (x : Side) → Holds bs vs x.temps → begun temporaries (sizes_of S.code S.frames) (function_at S.code f).params f bs (mk w x) ≡ mk (on_store (entered S.s.sizes f) w) (at_entry f vs x)
  begins f bs vs w x k =
      ap (λ us. with_all us (unmade (function_at S.code f).locals) (get_or S.frames f 0)) (holds_map bs vs x.temps k)
      ∙ ap (λ l. with_all vs l (get_or S.frames f 0)) (ap unmade (S.fits.locals f) ∙ unmade_all (S.s.sizes.locals f) (S.fits.more f))
      ∙ ap (λ u. with_all vs (unmade (S.s.sizes.locals f) ++ unmade (S.fits.more f)) u) (S.fits.frame f)
    where
      with_all : List Cell → List (Option ℕ) → ℕ → Mid
      with_all us l u = record {
        world = record { store = record w.store { objects = x.objs; locals = l; function = Some f; used = w.store.used + (u + 2) }; events = w.events; work = x.work + 16 };
        cells = received temporaries (function_at S.code f).params us;
        given = Unwritten;
      }

  -- A call, with what is handed and the structures that were taken. What follows a call without a value, and one with a value, is told here.
  module _ (γ : Goal) (T : Val → Res Mid → Type 0) (stops : (e : End) (v : World) (q : Res Mid) → Kept γ e v q → T (Stops e v) q) (ends : 16 ≤ γ.ends) (c : NodesT ℕ) (f : ℕ) (g : TFunctionT) (span : Span) (vs : List Cell) (r : Cell) (ps : List ℕ) (s hi : ℕ) (ts : List ℕ) (w : World) (x : Side) (cw : ℕ) (costs : cw + 24 + 16 * length vs ≤ s) (h0 : TakenAll γ s hi ts w x) where
    abbrev w1 : World
    w1 = on_store (entered S.s.sizes f) w

    -- where the call has been counted
    abbrev xc : Side
    xc = record x { work = x.work + cw }

    abbrev x1 : Side
    x1 = at_entry f (handed g.gives r vs) xc

    abbrev γ1 : Goal
    γ1 = body_goal vs w1 x1

    -- back in the caller
    abbrev pub back_at : World → World
    back_at w2 = on_store (returned_to w.store) w2

    abbrev pub came : (void : Bool) → Side → Cell → Side
    came b x2 v = record { objs = end_from (length x.objs) x2.objs; work = x2.work; temps = after b x.temps γ.at v; given = x.given; extra = x.extra; floor = x.floor }

    came_temps : (b : Bool) (v : Cell) (j : ℕ) → eqb j γ.at ≡ false → after b x.temps γ.at v j ≡ x.temps j
    came_temps true v j ne = refl
    came_temps false v j ne = put_other x.temps γ.at j v ne

    came_taken : (b : Bool) (w2 : World) (x2 : Side) (v : Cell) → Out γ1 w2 x2 → TakenAll γ 0 hi ts (back_at w2) (came b x2 v)
    came_taken b w2 x2 v out = taken_on γ s 0 hi ts w x (back_at w2) (came b x2 v) h0 (record {
      stays = stays_later (base_of w x) w x (back_at w2) (came b x2 v) refl refl refl refl
          (subst (λ k. Under (end_from (length w.store.objects) w2.store.objects) (end_from k x2.objs)) (sym (under_length w.store.objects x.objs h0.fit.under)) (under_from (length w.store.objects) w2.store.objects x2.objs out.under))
          (later_then w.store.objects w2.store.objects (end_from (length w.store.objects) w2.store.objects) out.later (later_from (length w.store.objects) w2.store.objects)) (stays_here w x h0.fit);
      below = λ j sc lt ne. came_temps b v j ne ∙ h0.below j sc lt ne;
      cost = omega (arith, h0.cost, out.cost, costs);
    })

    abbrev back_done : Bool → Res Mid → Res Mid
    back_done b q = then_next (res.call_done (L S).none ((L S).back (target_of b γ.at) (mk w xc)) q) (R c)

    back_more : (b : Bool) (q : Res Mid) → Prefix (events_of q) (events_of (back_done b q))
    back_more b q = more _ _ _ (done_grows S.code S.frames (target_of b γ.at) (mk w xc) q) (then_grows (res.call_done (L S).none ((L S).back (target_of b γ.at) (mk w xc)) q) (R c) (R_grows c))

    back_next : (b : Bool) (w2 : World) (x2 : Side) → back_done b (res.Next (mk w2 x2)) ≡ R c (mk (back_at w2) (came b x2 Unwritten))
    back_next true w2 x2 = refl
    back_next false w2 x2 = refl

    back_returns : (b : Bool) (w2 : World) (x2 : Side) → back_done b (res.Returns (mk w2 x2)) ≡ R c (mk (back_at w2) (came b x2 x2.given))
    back_returns true w2 x2 = refl
    back_returns false w2 x2 = refl

    abbrev pub Without : (void : Bool) → Type 0
    Without b = (w2 : World) (x2 : Side) (v : Cell) (q : Res Mid) → q ≡ R c (mk (back_at w2) (came b x2 v)) → TakenAll γ 0 hi ts (back_at w2) (came b x2 v) → T (NoValue (on_store (src.back_without g.params vs r w.store) w2)) q

    abbrev pub With : (void : Bool) → Type 0
    With b = (d : Cell) (w2 : World) (x2 : Side) (q : Res Mid) → Given (giving g.gives r) d x2 → q ≡ R c (mk (back_at w2) (came b x2 x2.given)) → TakenAll γ 0 hi ts (back_at w2) (came b x2 x2.given) → T (Value d (on_store (src.back_with g.params vs w.store) w2)) q

    module _ (b : Bool) (without : Without b) (with : With b) where
      backs : (d : Done) (q : Res Mid) → SimF (giving g.gives r) γ1 d q → T (call_done g.params vs r span w.store d) (back_done b q)
      backs (Goes w2) q a = without w2 a.0 Unwritten (back_done b q) (ap (back_done b) a.1 ∙ back_next b w2 a.0) (came_taken b w2 a.0 Unwritten a.2)
      backs (Returns None w2) q a = without w2 a.0 (a.0).given (back_done b q) (ap (back_done b) a.1 ∙ back_returns b w2 a.0) (came_taken b w2 a.0 (a.0).given a.2)
      backs (Returns (Some d) w2) q a = with d w2 a.0 (back_done b q) a.3 (ap (back_done b) a.1 ∙ back_returns b w2 a.0) (came_taken b w2 a.0 (a.0).given a.2)
      backs (Breaks w2) q a = stops (Stray span) w2 (back_done b q) (more _ _ _ a (back_more b q))
      backs (Continues w2) q a = stops (Stray span) w2 (back_done b q) (more _ _ _ a (back_more b q))
      backs (Ended e w2) q a =
          stops e w2 (back_done b q)
          (kept_wider γ γ1 (omega (arith, h0.cost, costs, ends)) e w2 (back_done b q)
          (kept_through γ1 e w2 q (back_done b) (λ i u. refl) (back_more b) a))

      over : (e : End) (q : Res Mid) → q ≡ Over (ending e) (mk w xc) → T (Stops e w) q
      over e q is = stops e w q (stopped γ e w xc q (record { under = h0.fit.under; cost = omega (arith, h0.cost, costs) }) is)

      module _ (bodies : BodiesFollow) where
        rooms : (room : Bool) → Holds ps (handed g.gives r vs) x.temps → slice_get S.s.functions f ≡ Some g
            → T (src.if_room room span w (λ v. call_done g.params vs r span v.store (S.prev (Body f vs r) (on_store (entered S.s.sizes f) v))))
            (then_next (did (if_room room (mk w xc) (begun temporaries (sizes_of S.code S.frames) (function_at S.code f).params f ps (mk w xc))) (λ v. res.call_done (L S).none ((L S).back (target_of b γ.at) (mk w xc)) (S.prev' (function_at S.code f).body v))) (R c))
        rooms true holds eg =
            subst (λ u. T (call_done g.params vs r span w.store (S.prev (Body f vs r) w1)) (back_done b (S.prev' (function_at S.code f).body u))) (sym (begins f ps (handed g.gives r vs) w xc holds))
            (backs (S.prev (Body f vs r) w1) (S.prev' (function_at S.code f).body (mk w1 x1)) (bodies f g eg vs r w xc h0.fit.under))
        rooms false holds eg = over (Deep span) _ refl

        pub asks : (k : ℕ) → Holds ps (handed g.gives r vs) x.temps → slice_get S.s.functions f ≡ Some g
            → T (src.if_bound k w (λ u. src.if_room (has_room S.s.sizes f u.store) span u (λ v. call_done g.params vs r span v.store (S.prev (Body f vs r) (on_store (entered S.s.sizes f) v)))))
            (then_next (ask k (mk w xc) (λ u. did ((L S).enter f ps u) (λ v. res.call_done (L S).none ((L S).back (target_of b γ.at) u) (S.prev' (function_at S.code f).body v)))) (R c))
        asks zero holds eg = over OutOfBound _ refl
        asks (suc k) holds eg =
            subst (λ room. T (src.if_room (has_room S.s.sizes f w.store) span w (λ v. call_done g.params vs r span v.store (S.prev (Body f vs r) (on_store (entered S.s.sizes f) v)))) (then_next (did (if_room room (mk w xc) (begun temporaries (sizes_of S.code S.frames) (function_at S.code f).params f ps (mk w xc))) (λ v. res.call_done (L S).none ((L S).back (target_of b γ.at) (mk w xc)) (S.prev' (function_at S.code f).body v))) (R c))) (sym (room_is f w xc))
            (rooms (has_room S.s.sizes f w.store) holds eg)
