-- Calls, and what the parts of the pass keep.
use Rattle.std.proofs.Common.{◌≡◌, ℕ, suc, ◌+◌, ◌<◌, ◌⊎◌, inl, inr, Bool, true, false, leb, List, [], ◌∷◌, map, length, sum, Option, Some, None, refl, sym, ap, ◌∙◌, subst, arith, replicate}
use Rattle.obj_mem.specs.declared.cell.Cell.{Cell}
use Rattle.obj_mem.specs.declared.cell.Cell.TheVariants.{Unwritten}
use Rattle.obj_mem.specs.Objects.{object_at, cell_at, end_from}
use Rattle.obj_mem.specs.Stores.{Sizes, local_object, has_room, returned_to, ram_words}
use Rattle.obj_mem.specs.Worlds.{on_store}
use Rattle.mid_code.specs.Code.{CodeT, maybe}
use Rattle.mid_code.specs.Meaning.{Next, Lang, did}
use Rattle.mid_code.specs.States.{State, temporaries, received, cell_of, word_tested, begun, if_room, back, over_worlds, sizes_of, function_at}
use Rattle.mid_code.specs.inner.Passing.{acts, Pass, Like, CallAlike, DidAlike, TestAlike, Keeps}
use Rattle.mid_code.specs.inner.Alike.{Known, AllKnown}
use Rattle.mid_code.proofs.Values.{test_known}
use Rattle.mid_code.proofs.More.{act_more, enter_more, back_more}
use Rattle.mid_scalars.specs.inner.Named.{Away, Here, name_at, IsHere, LocalKnown, Begun}
use Rattle.mid_scalars.proofs.Names.{name_split, end_length}
use Rattle.mid_scalars.proofs.Growing.{later_away, later_here, later_known, inner, core_enter, as_before, core_back}
use Rattle.mid_scalars.proofs.Promoted.{received_known, no_local, none_count, none_some}
use Rattle.mid_replace.specs.inner.Facts.{Fact, Plain, Plan, with_target, Follows}
use Rattle.mid_replace.specs.inner.Held.{Holds, Fits, Alive, Given, AllNamed, AllPlain, replacing}
use Rattle.mid_replace.proofs.Spare.{Kept as KeptNames, tells_kept, tells_weaker, weaker_same}
use Rattle.mid_replace.proofs.Working.{now_kept, timed, follow, set_alive}
use Rattle.mid_replace.proofs.Each.{each, plain_known}

module _ (X : Option ℕ → Plan) (x y : CodeT ℕ) (frames : List ℕ) (F : Fits X x y frames) where
  abbrev L : Lang ℕ
  L = over_worlds temporaries x frames

  abbrev L' : Lang ℕ
  L' = over_worlds temporaries y frames

  abbrev PP : Pass L L'
  PP = replacing X x y frames

  abbrev z : Sizes
  z = sizes_of x frames

  abbrev z' : Sizes
  z' = sizes_of y frames

  abbrev opened : ℕ
  opened = suc (length x.globals + length x.literals)

  abbrev M : Begun → (ℕ → Fact) → State ℕ → State ℕ → Type 0
  M κ i s t = Alive X x y frames κ i s t

  module _ (κ : Begun) (i : ℕ → Fact) (s t : State ℕ) (A : M κ i s t) where
    room_same : (g : ℕ) → has_room z' g t.world.store ≡ has_room z g s.world.store
    room_same g = ap (λ n. leb (n + (z'.frame g + 2) + z'.globals) ram_words) A.used ∙ ap (λ n. leb (s.world.store.used + (z'.frame g + 2) + n) ram_words) (ap sum F.globals)

    args_known : (args : List ℕ) → AllPlain i args → AllNamed (X κ.fn) args → AllKnown (IsHere A.names) (map s.cells args) (map t.cells args)
    args_known [] h n = tt
    args_known (a ∷ args) h n = (plain_known X x y frames F κ i s t A a n.0 h.0, args_known args h.1 n.1)

    abbrev caller : ℕ → Begun
    caller g = inner A.names s.world.store.objects t.world.store.objects g

    abbrev s0 : ℕ → List ℕ → State ℕ
    s0 g args = begun temporaries z (function_at x g).params g args s

    abbrev t0 : ℕ → List ℕ → State ℕ
    t0 g args = begun temporaries z' (function_at y g).params g args t

    begins : (g : ℕ) (args : List ℕ) → AllPlain i args → AllNamed (X κ.fn) args → M (caller g) (X (Some g)).base (s0 g args) (t0 g args)
    begins g args own named = record {
      names = A.names;
      core = core_enter opened κ A.names s.world.store.objects t.world.store.objects A.core g;
      answers = A.answers;
      events = A.events;
      work = let h = A.work in omega (arith, h);
      fn = refl;
      fn' = refl;
      used = ap (λ n. n + (z'.frame g + 2)) A.used;
      count = none_count (length (z.locals g));
      count' = none_count (length (z'.locals g)) ∙ ap length (F.locals g);
      known = λ q lt. tells_weaker A.names (s0 g args).world Plain ((X (Some g)).base q) ((s0 g args).cells q) ((t0 g args).cells q) (F.base (Some g) q) (subst (λ ps. Known (IsHere A.names) (received temporaries (function_at x g).params (map s.cells args) q) (received temporaries ps (map t.cells args) q)) (sym (F.params g)) (received_known (IsHere A.names) (function_at x g).params (map s.cells args) (map t.cells args) q (args_known args own named)));
      hidden = λ k o h e. absurd (none_some o (sym (no_local (length (z.locals g)) k) ∙ e));
      spare = λ k p h e. absurd (none_some p (sym (no_local (length (z'.locals g)) k) ∙ e));
      holds = λ k o h e l. absurd (none_some o (sym (no_local (length (z.locals g)) k) ∙ e));
      locals = λ k lt h. subst (λ l. LocalKnown A.names l (local_object (replicate (length (z'.locals g)) None) k)) (sym (no_local (length (z.locals g)) k)) (no_local (length (z'.locals g)) k);
    }

    module _ (g : ℕ) (v v' : State ℕ) (j : ℕ → Fact) (D : Alive X x y frames (caller g) j v v') where
      before : (o k : ℕ) → name_at A.names o ≡ Away k → object_at (end_from (length s.world.store.objects) v.world.store.objects) o ≡ object_at s.world.store.objects o
      before o k h = as_before opened κ A.names s.world.store.objects t.world.store.objects A.core g D.names v.world.store.objects v'.world.store.objects D.core o k h

      still_known : (l l' : Option ℕ) → LocalKnown A.names l l' → LocalKnown D.names l l'
      still_known None l' h = h
      still_known (Some o) l' h = (h.0, later_here A.names D.names (length t.world.store.objects) o h.0 D.core.later h.1, h.2)

      abbrev s1 : State ℕ
      s1 = record { world = on_store (returned_to s.world.store) v.world; cells = s.cells; given = s.given }

      abbrev t1 : State ℕ
      t1 = record { world = on_store (returned_to t.world.store) v'.world; cells = t.cells; given = t.given }

      kept : KeptNames A.names D.names s.world s1.world
      kept o k e = (later_away A.names D.names (length t.world.store.objects) o k D.core.later e, λ l. (ap (λ w. w.lives) (sym (before o k e)) ∙ l, λ h. h))

      spare : (k p : ℕ) → (X κ.fn).held k ≡ true → local_object t.world.store.locals k ≡ Some p → (p < length (end_from (length t.world.store.objects) v'.world.store.objects)) × ((o : ℕ) → IsHere D.names o p → ⊥)
      spare k p h e =
          let S = A.spare k p h e in
          let a = end_length (length t.world.store.objects) v'.world.store.objects in
          let b = D.core.base_in in
          (omega (arith, S.0, a, b), λ o w. none o (name_split A.names D.core.later.rest o p (subst (λ ns. name_at ns o ≡ Here p) D.core.later.is w)) S)
        where
          none : (o : ℕ) → (name_at A.names o ≡ Here p) ⊎ ((q : ℕ) × (o ≡ length A.names + q) × (name_at D.core.later.rest q ≡ Here p)) → (p < length t.world.store.objects) × ((q : ℕ) → IsHere A.names q p → ⊥) → ⊥
          none o (inl w) S = S.1 o w
          none o (inr w) S = let c = D.core.later.above w.0 p w.2 in omega (arith, c, S.0)

      holds : (k o : ℕ) → (X κ.fn).held k ≡ true → local_object s.world.store.locals k ≡ Some o → (object_at (end_from (length s.world.store.objects) v.world.store.objects) o).lives ≡ true
          → Holds D.names ((X κ.fn).size k) (object_at (end_from (length s.world.store.objects) v.world.store.objects) o) (λ w. t.cells ((X κ.fn).variable k w))
      holds k o h e l =
          let w = before o k (A.hidden k o h e).0 in
          let u = A.holds k o h e (ap (λ r. r.lives) (sym w) ∙ l) in
          subst (λ r. Holds D.names ((X κ.fn).size k) r (λ c. t.cells ((X κ.fn).variable k c))) (sym w) (record { kind = u.kind; long = u.long; cell = λ c m. later_known A.names D.names (length t.world.store.objects) (cell_at (object_at s.world.store.objects o) c) (t.cells ((X κ.fn).variable k c)) D.core.later (u.cell c m) })

      abbrev comes_back : M κ i s1 t1
      comes_back = record {
        names = D.names;
        core = core_back opened κ A.names s.world.store.objects t.world.store.objects A.core g D.names v.world.store.objects v'.world.store.objects D.core;
        answers = D.answers;
        events = D.events;
        work = D.work;
        fn = A.fn;
        fn' = A.fn';
        used = A.used;
        count = A.count;
        count' = A.count';
        known = λ q lt. tells_kept A.names D.names s.world s1.world (i q) (s.cells q) (t.cells q) (λ h. later_known A.names D.names (length t.world.store.objects) (s.cells q) (t.cells q) D.core.later h) kept (A.known q lt);
        hidden = λ k o h e. (let w = A.hidden k o h e in (later_away A.names D.names (length t.world.store.objects) o k D.core.later w.0, w.1));
        spare = spare;
        holds = holds;
        locals = λ k lt h. still_known (local_object s.world.store.locals k) (local_object t.world.store.locals k) (A.locals k lt h);
      }

    returns : (g : ℕ) (v v' : State ℕ) (D : Given X x y frames (caller g) v v') (q : Option ℕ) (k : ℕ → Fact) → AllNamed (X κ.fn) (maybe q) → Follows (with_target q Plain i) k → M κ k (back temporaries q s v) (back temporaries q t v')
    returns g v v' D None k n f = follow X x y frames F κ i _ _ (comes_back g v v' (X (Some g)).base D.alive) k f
    returns g v v' D (Some q) k n f = follow X x y frames F κ (with_target (Some q) Plain i) _ _ (set_alive X x y frames F κ i (s1 g v v' (X (Some g)).base D.alive) (t1 g v v' (X (Some g)).base D.alive) (comes_back g v v' (X (Some g)).base D.alive) q Plain v.given v'.given n.0 D.result) k f

    calls : (q : Option ℕ) (g : ℕ) (args : List ℕ) (k : ℕ → Fact) → AllPlain i args → AllNamed (X κ.fn) args → AllNamed (X κ.fn) (maybe q) → Follows (with_target q Plain i) k → (b b' : Bool) → b' ≡ b → CallAlike PP κ k q q g s t (if_room b s (s0 g args)) (if_room b' t (t0 g args))
    calls q g args k own named n f true b' e = record {
      inner = caller g;
      fn_is = refl;
      s0' = t0 g args;
      enters = ap (λ b. if_room b t (t0 g args)) e;
      alike = begins g args own named;
      back = λ v v' d. returns g v v' d q k n f;
    }
    calls q g args k own named n f false b' e = (t, ap (λ b. did (if_room b t (t0 g args)) (λ w. Next w)) e, record { events = A.events; work = A.work })

    gives : (a : Option ℕ) → AllPlain i (maybe a) → AllNamed (X κ.fn) (maybe a) → Known (IsHere A.names) (cell_of s.cells a) (cell_of t.cells a)
    gives None h n = tt
    gives (Some a) h n = plain_known X x y frames F κ i s t A a n.0 h.0

    with_given : (c d : Cell) → Follows i (X κ.fn).base → Known (IsHere A.names) c d → Given X x y frames κ (record s { given = c }) (record t { given = d })
    with_given c d f h = record {
      alive = record {
        names = A.names;
        core = A.core;
        answers = A.answers;
        events = A.events;
        work = A.work;
        fn = A.fn;
        fn' = A.fn';
        used = A.used;
        count = A.count;
        count' = A.count';
        known = λ q lt. tells_weaker A.names s.world (i q) ((X κ.fn).base q) (s.cells q) (t.cells q) (f q) (A.known q lt);
        hidden = A.hidden;
        spare = A.spare;
        holds = A.holds;
        locals = A.locals;
      };
      result = h;
    }

  module _ (bodies : (g : ℕ) → Like PP (Some g) [] (X (Some g)).base (function_at x g).body (function_at y g).body (X (Some g)).base) where
    pub keeps : Keeps L L' PP
    keeps = record {
      events = λ κ i s t m. sym m.events;
      given = λ κ s t d. sym d.alive.events;
      out = λ κ i s t m. now_kept X x y frames F κ i s t m;
      weaker_same = λ i q. weaker_same (i q);
      weaker = λ κ i j s t h m. follow X x y frames F κ i s t m j h;
      ticks = λ κ i n s t m. timed X x y frames F κ i s t m n n (omega arith);
      op = λ κ i k o p s t h m. subst (λ w. DidAlike PP κ k (L.act o s) (acts L' w t)) (sym h.0) (each X x y frames F κ i s t m o k h.1 h.2 h.3 h.4);
      test = λ κ i a b s t h m. subst (λ w. TestAlike (word_tested (s.cells a)) (word_tested (t.cells w))) (sym h.0) (test_known (IsHere m.names) (s.cells a) (t.cells a) (plain_known X x y frames F κ i s t m a h.2 h.1));
      give = λ κ i a b s t h m. subst (λ w. Given X x y frames κ (L.give a s) (L'.give w t)) (sym h.0) (with_given κ i s t m (cell_of s.cells a) (cell_of t.cells a) h.3 (gives κ i s t m a h.1 h.2));
      none = λ κ s t m. with_given κ (X κ.fn).base s t m Unwritten Unwritten (λ q. weaker_same ((X κ.fn).base q)) tt;
      call = λ κ i k q u g args brgs s t h m. subst (λ w. CallAlike PP κ k q w g s t (L.enter g args s) (L'.enter g brgs t)) (sym h.0) (subst (λ w. CallAlike PP κ k q q g s t (L.enter g args s) (L'.enter g w t)) (sym h.1) (calls κ i s t m q g args k h.2 h.3 h.4 h.5 (has_room z g s.world.store) (has_room z' g t.world.store) (room_same κ i s t m g)));
      bodies = bodies;
      act_more = λ o t. act_more temporaries y frames o t;
      enter_more = λ g args t. enter_more temporaries y frames g args t;
      back_more = λ u t v. back_more temporaries y frames u t v;
      give_more = λ w t. refl;
      none_more = λ t. refl;
      tick_more = λ n t. refl;
    }
