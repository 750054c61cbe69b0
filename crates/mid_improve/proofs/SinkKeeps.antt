-- What the parts of the pass keep that puts addresses and known words where they are used.
use Rattle.std.proofs.Common.{◌≡◌, ℕ, Bool, true, false, not, cond, List, [], ◌∷◌, ◌++◌, map, Option, Some, None, refl, sym, ap, ◌∙◌, subst}
use Rattle.obj_mem.specs.declared.cell.Cell.{Cell}
use Rattle.obj_mem.specs.declared.cell.Cell.TheVariants.{Unwritten}
use Rattle.obj_mem.specs.Stores.{Sizes, has_room, entered, returned_to}
use Rattle.obj_mem.specs.Worlds.{on_store, spend}
use Rattle.obj_mem.specs.Runs.{Ending, Halted, Fault, Starved, Stray, Deep, OutOfBound}
use Rattle.mid_code.specs.Code.{OpT, CodeT}
use Rattle.mid_code.specs.Meaning.{Did, On, Ends, Next, Over, Lang, did}
use Rattle.mid_code.specs.States.{State, temporaries, received, cell_of, word_tested, begun, if_room, back, entry_weight, over_worlds, sizes_of, function_at}
use Rattle.mid_code.specs.inner.Passing.{then_act, acts, Prefix, state_of, did_state, Pass, Like, Kept, CallAlike, DidAlike, TestAlike, Keeps}
use Rattle.mid_code.proofs.More.{further, act_more, enter_more, back_more}
use Rattle.mid_improve.specs.declared.sinking.Walk.{Walk}
use Rattle.mid_improve.specs.inner.Sinking.{is_free, Held, held_ops, is_apart, stops, goes_on, ops_alone, held_alone, ops_at, held_behind}
use Rattle.mid_improve.proofs.SweepKeeps.{test_same}
use Rattle.mid_improve.proofs.SinkPass.{less_same, less_spend, less_store, held_weight, Agree, spent_agrees, put_agrees, waits, sinking}
use Rattle.mid_improve.proofs.Tabled.{both}
use Rattle.mid_improve.proofs.SinkOps.{none_apart, alike, done, hold}

then_here : (d : Did (State ℕ)) → then_act d (λ s. On s) ≡ d
then_here (On s) = refl
then_here (Ends f s) = refl

module _ (W : Walk) (x y : CodeT ℕ) (frames : List ℕ) (sizes : sizes_of y frames ≡ sizes_of x frames) (params : (h : ℕ) → (function_at y h).params ≡ (function_at x h).params) where
  abbrev L : Lang ℕ
  L = over_worlds temporaries x frames

  abbrev L' : Lang ℕ
  L' = over_worlds temporaries y frames

  abbrev PP : Pass L L'
  PP = sinking W x y frames

  abbrev z : Sizes
  z = sizes_of x frames

  abbrev z' : Sizes
  z' = sizes_of y frames

  -- ---- operations

  -- what is done behind an operation that ended the run is not done
  late_kept : (p : OpT ℕ) (e : Ending) (s t : State ℕ) (d : Did (State ℕ)) → Kept PP e s (did (then_act d (λ u. On u)) (λ u. Next u)) → Kept PP e s (did (then_act d (λ u. then_act (L'.act p u) (λ v. On v))) (λ u. Next u))
  late_kept p Halted s t (On u) k = absurd (no_next k.1)
    where
      no_next : Next u ≡ Over Halted k.0 → ⊥
      no_next q = cc
  late_kept p Halted s t (Ends g u) k = k
  late_kept p (Fault n) s t (On u) k = absurd (no_next k.1)
    where
      no_next : Next u ≡ Over (Fault n) k.0 → ⊥
      no_next q = cc
  late_kept p (Fault n) s t (Ends g u) k = k
  late_kept p Starved s t (On u) k = absurd (no_next k.1)
    where
      no_next : Next u ≡ Over Starved k.0 → ⊥
      no_next q = cc
  late_kept p Starved s t (Ends g u) k = k
  late_kept p OutOfBound s t (On u) k = absurd (no_next k.1)
    where
      no_next : Next u ≡ Over OutOfBound k.0 → ⊥
      no_next q = cc
  late_kept p OutOfBound s t (Ends g u) k = k
  late_kept p Deep s t (On u) k = absurd (no_next k.1)
    where
      no_next : Next u ≡ Over Deep k.0 → ⊥
      no_next q = cc
  late_kept p Deep s t (Ends g u) k = k
  late_kept p Stray s t (On u) k = further s.world.events u.world.events (state_of (did (then_act (L'.act p u) (λ v. On v)) (λ v. Next v))).world.events k (more (L'.act p u) (act_more temporaries y frames p u))
    where
      more : (d : Did (State ℕ)) → Prefix u.world.events (did_state d).world.events → Prefix u.world.events (state_of (did (then_act d (λ v. On v)) (λ v. Next v))).world.events
      more (On v) q = q
      more (Ends g v) q = q
  late_kept p Stray s t (Ends g u) k = k

  -- an operation, and behind it the one that was held back
  late : (f : Option ℕ) (p o : OpT ℕ) (t : State ℕ) (d : Did (State ℕ)) → DidAlike PP f (Some p) d (acts L' (o ∷ []) t) → DidAlike PP f None d (acts L' (o ∷ p ∷ []) t)
  late f p o t (On s) k =
      let e = done W x y frames sizes p s k.0 k.2 in
      (e.0, go (L'.act o t) k.1 e.1, e.2)
    where
      go : (d' : Did (State ℕ)) → then_act d' (λ u. On u) ≡ On k.0 → (L'.act p k.0 ≡ On (done W x y frames sizes p s k.0 k.2).0) → then_act d' (λ u. then_act (L'.act p u) (λ v. On v)) ≡ On (done W x y frames sizes p s k.0 k.2).0
      go (On u) q r = (let w : u ≡ k.0 = cc in subst (λ v. then_act (L'.act p v) (λ a. On a) ≡ On (done W x y frames sizes p s k.0 k.2).0) (sym w) (then_here (L'.act p k.0) ∙ r))
      go (Ends g u) q r = absurd cc
  late f p o t (Ends e s) k = late_kept p e s t (L'.act o t) k

  -- where none is held back before it
  abbrev Anew : Held → Option ℕ → OpT ℕ → Bool → State ℕ → State ℕ → Type 0
  Anew b f o l s t = DidAlike PP f (cond l None (held_alone W b o)) (L.act o s) (acts L' (ops_alone W b o ++ cond l (held_ops (held_alone W b o)) []) t)

  held_free : (h : Held) (f : Option ℕ) (o : OpT ℕ) (s t : State ℕ) (b l : Bool) → is_free W h o ≡ b → Agree None s t → DidAlike PP f (cond l None (cond b (Some o) None)) (L.act o s) (acts L' (cond b [] (o ∷ []) ++ cond l (held_ops (cond b (Some o) None)) []) t)
  held_free h f o s t true true e A = alike W x y frames sizes f None s t A o (none_apart o)
  held_free h f o s t true false e A = hold W x y frames sizes f o s t (waits W h o e) A
  held_free h f o s t false true e A = alike W x y frames sizes f None s t A o (none_apart o)
  held_free h f o s t false false e A = alike W x y frames sizes f None s t A o (none_apart o)

  anew : (b : Held) (f : Option ℕ) (o : OpT ℕ) (s t : State ℕ) (l : Bool) → Agree None s t → Anew b f o l s t
  anew b f o s t l A = held_free b f o s t (is_free W b o) l refl A

  -- the one that was held back is done, and then what is done at an operation
  before : (f : Option ℕ) (p o : OpT ℕ) (s t : State ℕ) (l : Bool) → Agree (Some p) s t
      → DidAlike PP f (cond l None (held_alone W (Some p) o)) (L.act o s) (acts L' (p ∷ (ops_alone W (Some p) o ++ cond l (held_ops (held_alone W (Some p) o)) [])) t)
  before f p o s t l A =
      let e = done W x y frames sizes p s t A in
      subst (λ d. DidAlike PP f (cond l None (held_alone W (Some p) o)) (L.act o s) (then_act d (acts L' (ops_alone W (Some p) o ++ cond l (held_ops (held_alone W (Some p) o)) [])))) (sym e.1) (anew (Some p) f o s e.0 l e.2)

  held_on : (f : Option ℕ) (p o : OpT ℕ) (s t : State ℕ) (b l : Bool) → goes_on W (Some p) o ≡ b → Agree (Some p) s t
      → DidAlike PP f (cond l None (cond b (Some p) (held_alone W (Some p) o))) (L.act o s) (acts L' (cond b (o ∷ []) (p ∷ ops_alone W (Some p) o) ++ cond l (held_ops (cond b (Some p) (held_alone W (Some p) o))) []) t)
  held_on f p o s t true true e A = late f p o t (L.act o s) (alike W x y frames sizes f (Some p) s t A o (both (is_apart (Some p) o) (not (stops W (Some p) o)) e).0)
  held_on f p o s t true false e A = alike W x y frames sizes f (Some p) s t A o (both (is_apart (Some p) o) (not (stops W (Some p) o)) e).0
  held_on f p o s t false l e A = before f p o s t l A

  each : (f : Option ℕ) (h : Held) (o : OpT ℕ) (s t : State ℕ) (l : Bool) → Agree h s t → DidAlike PP f (cond l None (held_behind W h o)) (L.act o s) (acts L' (ops_at W h o ++ cond l (held_ops (held_behind W h o)) []) t)
  each f None o s t l A = anew None f o s t l A
  each f (Some p) o s t l A = held_on f p o s t (goes_on W (Some p) o) l refl A

  op_kept : (f : Option ℕ) (h k : Held) (o : OpT ℕ) (ps : List (OpT ℕ)) (s t : State ℕ) → PP.op f h o ps k → Agree h s t → DidAlike PP f k (L.act o s) (acts L' ps t)
  op_kept f h k o ps s t c A =
      subst (λ j. DidAlike PP f j (L.act o s) (acts L' ps t)) (sym c.2)
      (subst (λ qs. DidAlike PP f (cond c.0 None (held_behind W h o)) (L.act o s) (acts L' qs t)) (sym c.1) (each f h o s t c.0 A))

  -- ---- calls

  all_cells : (s t : State ℕ) → Agree None s t → (qs : List ℕ) → map s.cells qs ≡ map t.cells qs
  all_cells s t A [] = refl
  all_cells s t A (q ∷ qs) = let e = A.cells q refl in let f = all_cells s t A qs in λ i. e i ∷ f i

  module _ (f : Option ℕ) (s t : State ℕ) (A : Agree None s t) where
    room_same : (h : ℕ) → has_room z' h t.world.store ≡ has_room z h s.world.store
    room_same h = let e = A.worlds.store in λ j. has_room (sizes j) h (e j)

    module _ (h : ℕ) (args : List ℕ) where
      abbrev s0 : State ℕ
      s0 = begun temporaries z (function_at x h).params h args s

      abbrev t0 : State ℕ
      t0 = begun temporaries z' (function_at y h).params h args t

      begins : Agree None s0 t0
      begins = record {
        worlds = less_store 0 (spend entry_weight s.world) (spend entry_weight t.world) (entered z h) (entered z' h) (sym (ap (λ u. entered u h) sizes)) (less_spend 0 s.world t.world entry_weight A.worlds);
        given = refl;
        cells = λ r n. (let p = sym (params h) in let c = all_cells s t A args in λ j. received temporaries (p j) (c j) r);
        held = tt;
      }

    module _ (v w : State ℕ) (B : Agree None v w) where
      abbrev s1 : State ℕ
      s1 = record { world = on_store (returned_to s.world.store) v.world; cells = s.cells; given = s.given }

      abbrev t1 : State ℕ
      t1 = record { world = on_store (returned_to t.world.store) w.world; cells = t.cells; given = t.given }

      back_there : Agree None s1 t1
      back_there = record {
        worlds = record { store = (let a = A.worlds.store in let b = B.worlds.store in λ j. returned_to (a j) (b j)); events = B.worlds.events; work = B.worlds.work };
        given = A.given;
        cells = A.cells;
        held = tt;
      }

      returns : (u : Option ℕ) → Agree None (back temporaries u s v) (back temporaries u t w)
      returns None = back_there
      returns (Some q) = put_agrees None s1 t1 back_there q v.given w.given refl B.given

    module _ (u : Option ℕ) (h : ℕ) (args : List ℕ) where
      abbrev begun_here : State ℕ
      begun_here = begun temporaries z (function_at x h).params h args s

      abbrev begun_there : State ℕ
      begun_there = begun temporaries z' (function_at y h).params h args t

      entered_alike : (b b' : Bool) → b' ≡ b → CallAlike PP f None u u h s t (if_room b s begun_here) (if_room b' t begun_there)
      entered_alike true b' e = record {
        inner = Some h;
        fn_is = refl;
        s0' = begun_there;
        enters = ap (λ b. if_room b t begun_there) e;
        alike = begins h args;
        back = λ v w B. returns v w B u;
      }
      entered_alike false b' e = (t, ap (λ b. did (if_room b t begun_there) (λ w. Next w)) e, less_same 0 s.world t.world A.worlds)

      calls : CallAlike PP f None u u h s t (L.enter h args s) (L'.enter h args t)
      calls = entered_alike (has_room z h s.world.store) (has_room z' h t.world.store) (room_same h)

  call_kept : (f : Option ℕ) (i k : Held) (t u : Option ℕ) (h : ℕ) (args brgs : List ℕ) (s s' : State ℕ) → PP.call f i t h args u brgs k → Agree i s s' → CallAlike PP f k t u h s s' (L.enter h args s) (L'.enter h brgs s')
  call_kept f i k t u h args brgs s s' c A =
      subst (λ j. CallAlike PP f j t u h s s' (L.enter h args s) (L'.enter h brgs s')) (sym c.3)
      (subst (λ v. CallAlike PP f None t v h s s' (L.enter h args s) (L'.enter h brgs s')) (sym c.0)
      (subst (λ cs. CallAlike PP f None t t h s s' (L.enter h args s) (L'.enter h cs s')) (sym c.1) (calls f s s' (subst (λ j. Agree j s s') c.2 A) t h args)))

  -- ---- what the parts keep

  given_agrees : (s t : State ℕ) (c d : Cell) → c ≡ d → Agree None s t → Agree None (record s { given = c }) (record t { given = d })
  given_agrees s t c d e A = record { worlds = A.worlds; given = e; cells = A.cells; held = tt }

  gives_same : (a : Option ℕ) (s t : State ℕ) → Agree None s t → cell_of s.cells a ≡ cell_of t.cells a
  gives_same None s t A = refl
  gives_same (Some q) s t A = A.cells q refl

  module _ (bodies : (h : ℕ) → Like PP (Some h) [] None (function_at x h).body (function_at y h).body None) where
    pub keeps : Keeps L L' PP
    keeps = record {
      events = λ f h s t A. sym A.worlds.events;
      given = λ f s t A. sym A.worlds.events;
      out = λ f h s t A. less_same (held_weight h) s.world t.world A.worlds;
      weaker_same = λ i. refl;
      weaker = λ f i j s t h A. subst (λ k. Agree k s t) h A;
      ticks = λ f h n s t A. spent_agrees h s t A n;
      op = λ f h k o ps s t c A. op_kept f h k o ps s t c A;
      test = λ f h a b s t c A. subst (λ q. TestAlike (word_tested (s.cells a)) (word_tested (t.cells q))) (sym c.0) (test_same (s.cells a) (t.cells a) ((subst (λ j. Agree j s t) c.1 A).cells a refl));
      give = λ f h a b s t c A. let B = subst (λ j. Agree j s t) c.1 A in given_agrees s t (cell_of s.cells a) (cell_of t.cells b) (gives_same a s t B ∙ sym (ap (cell_of t.cells) c.0)) B;
      none = λ f s t A. given_agrees s t Unwritten Unwritten refl A;
      call = λ f i k t u h args brgs s s' c A. call_kept f i k t u h args brgs s s' c A;
      bodies = bodies;
      act_more = λ o t. act_more temporaries y frames o t;
      enter_more = λ h args t. enter_more temporaries y frames h args t;
      back_more = λ u t v. back_more temporaries y frames u t v;
      give_more = λ w t. refl;
      none_more = λ t. refl;
      tick_more = λ n t. refl;
    }
