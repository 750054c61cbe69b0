-- Calls, and the pass over a whole program: promoted code keeps the runs, and does no more work.
use Rattle.std.proofs.Common.{◌≡◌, ℕ, zero, suc, ◌+◌, ◌<◌, Bool, true, false, ◌||◌, cond, eqb, leb, List, [], ◌∷◌, map, length, sum, Option, Some, None, refl, sym, ap, ◌∙◌, subst, arith, replicate}
use Rattle.std.proofs.lemmas.Bool.{eqb-true, eq-eqb}
use Rattle.obj_mem.specs.declared.cell.Cell.{Cell}
use Rattle.obj_mem.specs.declared.cell.Cell.TheVariants.{Unwritten}
use Rattle.obj_mem.specs.Objects.{object_at, cell_at, end_from}
use Rattle.obj_mem.specs.Stores.{Sizes, local_object, has_room, returned_to, ram_words}
use Rattle.obj_mem.specs.Worlds.{on_store}
use Rattle.mid_code.specs.Code.{NodesT, Stop, Do, Call, Choose, Block, Loop, Leave, Again, Return, CodeT, maybe}
use Rattle.mid_code.specs.Meaning.{Next, Lang, did}
use Rattle.mid_code.specs.Live.{is_among}
use Rattle.mid_code.specs.States.{State, temporaries, received, cell_of, word_tested, begun, if_room, back, over_worlds, sizes_of, function_at}
use Rattle.mid_code.specs.inner.Passing.{acts, Pass, Points, end_at, begin_at, Like, CallAlike, DidAlike, TestAlike, Keeps}
use Rattle.mid_code.specs.inner.Alike.{Known, AllKnown}
use Rattle.mid_code.proofs.Values.{test_known}
use Rattle.mid_code.proofs.More.{act_more, enter_more, back_more}
use Rattle.mid_scalars.specs.inner.Plan.{Address, Plan, promoted_op, promoted_nodes, AllOwn, GoodNodes}
use Rattle.mid_scalars.specs.inner.Named.{Away, name_at, IsHere, Points as Addresses, LocalKnown, Begun, Holds, count_of, Fits, Alive, Given, promoting}
use Rattle.mid_scalars.proofs.Growing.{later_away, later_here, later_known, inner, core_enter, as_before, core_back, points_more}
use Rattle.mid_scalars.proofs.Working.{known_cond, true_false, own_address, now_kept, timed, set_alive}
use Rattle.mid_scalars.proofs.Each.{each}

-- ---- arguments

pub received_known : (N : ℕ → ℕ → Type 0) (ps : List ℕ) (cs ds : List Cell) (q : ℕ) → AllKnown N cs ds → Known N (received temporaries ps cs q) (received temporaries ps ds q)
received_known N [] cs ds q h = tt
received_known N (p ∷ ps) [] ds q h = tt
received_known N (p ∷ ps) (c ∷ cs) [] q h = absurd h
received_known N (p ∷ ps) (c ∷ cs) (d ∷ ds) q h = known_cond N (eqb q p) c d (received temporaries ps cs q) (received temporaries ps ds q) h.0 (received_known N ps cs ds q h.1)

none_received : (ps : List ℕ) (cs : List Cell) (q : ℕ) → is_among ps q ≡ false → received temporaries ps cs q ≡ Unwritten
none_received [] cs q e = refl
none_received (p ∷ ps) [] q e = refl
none_received (p ∷ ps) (c ∷ cs) q e = go (none_received ps cs q) (eqb p q) (eqb q p) refl refl e
  where
    go : (is_among ps q ≡ false → received temporaries ps cs q ≡ Unwritten) → (a b : Bool) → eqb p q ≡ a → eqb q p ≡ b → (a || is_among ps q) ≡ false → cond (eqb q p) c (received temporaries ps cs q) ≡ Unwritten
    go r true b f g h = absurd (true_false h)
    go r false true f g h = absurd (true_false (sym (eq-eqb p q (sym (eqb-true q p g))) ∙ f))
    go r false false f g h = ap (λ w. cond w c (received temporaries ps cs q)) g ∙ r h

pub no_local : (n k : ℕ) → local_object (replicate n None) k ≡ None
no_local zero k = refl
no_local (suc n) zero = refl
no_local (suc n) (suc k) = no_local n k

pub none_count : (n : ℕ) → length (replicate {A = Option ℕ} n None) ≡ n
none_count zero = refl
none_count (suc n) = ap suc (none_count n)

pub none_some : (o : ℕ) → None ≡ Some o → ⊥
none_some o e = cc

module _ (X : Plan) (x y : CodeT ℕ) (frames : List ℕ) (F : Fits X x y frames) where
  abbrev L : Lang ℕ
  L = over_worlds temporaries x frames

  abbrev L' : Lang ℕ
  L' = over_worlds temporaries y frames

  abbrev PP : Pass L L'
  PP = promoting X x y frames

  abbrev z : Sizes
  z = sizes_of x frames

  abbrev z' : Sizes
  z' = sizes_of y frames

  abbrev opened : ℕ
  opened = suc (length x.globals + length x.literals)

  abbrev M : Begun → State ℕ → State ℕ → Type 0
  M κ s t = Alive X x y frames κ s t

  module _ (κ : Begun) (s t : State ℕ) (A : M κ s t) where
    room_same : (g : ℕ) → has_room z' g t.world.store ≡ has_room z g s.world.store
    room_same g = ap (λ n. leb (n + (z'.frame g + 2) + z'.globals) ram_words) A.used ∙ ap (λ n. leb (s.world.store.used + (z'.frame g + 2) + n) ram_words) (ap sum F.globals)

    args_known : (args : List ℕ) → AllOwn X κ.fn args → AllKnown (IsHere A.names) (map s.cells args) (map t.cells args)
    args_known [] h = tt
    args_known (a ∷ args) h = (A.own a h.0, args_known args h.1)

    abbrev caller : ℕ → Begun
    caller g = inner A.names s.world.store.objects t.world.store.objects g

    abbrev s0 : ℕ → List ℕ → State ℕ
    s0 g args = begun temporaries z (function_at x g).params g args s

    abbrev t0 : ℕ → List ℕ → State ℕ
    t0 g args = begun temporaries z' (function_at y g).params g args t

    unwritten_address : (g q : ℕ) (cs : List Cell) (k : ℕ) → X.kind (Some g) q ≡ Address k → received temporaries (function_at x g).params cs q ≡ Unwritten
    unwritten_address g q cs k h = none_received (function_at x g).params cs q (go (is_among (function_at x g).params q) refl)
      where
        go : (b : Bool) → is_among (function_at x g).params q ≡ b → is_among (function_at x g).params q ≡ false
        go true e = absurd (own_address k (sym (F.params_own g q e) ∙ h))
        go false e = e

    begins : (g : ℕ) (args : List ℕ) → AllOwn X κ.fn args → M (caller g) (s0 g args) (t0 g args)
    begins g args own = record {
      names = A.names;
      core = core_enter opened κ A.names s.world.store.objects t.world.store.objects A.core g;
      answers = A.answers;
      events = A.events;
      work = let h = A.work in omega (arith, h);
      fn = refl;
      fn' = refl;
      used = ap (λ n. n + (z'.frame g + 2)) A.used;
      count = none_count (length (z.locals g));
      count' = none_count (length (z'.locals g));
      own = λ q h. subst (λ ps. Known (IsHere A.names) (received temporaries (function_at x g).params (map s.cells args) q) (received temporaries ps (map t.cells args) q)) (sym (F.params g)) (received_known (IsHere A.names) (function_at x g).params (map s.cells args) (map t.cells args) q (args_known args own));
      address = λ q k h. subst (λ c. Addresses A.names (s0 g args).world k c) (sym (unwritten_address g q (map s.cells args) k h)) tt;
      hidden = λ k o h e. absurd (none_some o (sym (no_local (length (z.locals g)) k) ∙ e));
      variable = λ k o h e l. absurd (none_some o (sym (no_local (length (z.locals g)) k) ∙ e));
      locals = λ k lt h. subst (λ l. LocalKnown A.names l (local_object (replicate (length (z'.locals g)) None) (X.moved (Some g) k))) (sym (no_local (length (z.locals g)) k)) (no_local (length (z'.locals g)) (X.moved (Some g) k));
    }

    module _ (g : ℕ) (v v' : State ℕ) (D : Alive X x y frames (caller g) v v') where
      before : (o k : ℕ) → name_at A.names o ≡ Away k → object_at (end_from (length s.world.store.objects) v.world.store.objects) o ≡ object_at s.world.store.objects o
      before o k h = as_before opened κ A.names s.world.store.objects t.world.store.objects A.core g D.names v.world.store.objects v'.world.store.objects D.core o k h

      still_known : (l l' : Option ℕ) → LocalKnown A.names l l' → LocalKnown D.names l l'
      still_known None l' h = h
      still_known (Some o) l' h = (h.0, later_here A.names D.names (length t.world.store.objects) o h.0 D.core.later h.1, h.2)

      abbrev s1 : State ℕ
      s1 = record { world = on_store (returned_to s.world.store) v.world; cells = s.cells; given = s.given }

      abbrev t1 : State ℕ
      t1 = record { world = on_store (returned_to t.world.store) v'.world; cells = t.cells; given = t.given }

      abbrev comes_back : M κ s1 t1
      comes_back = record {
        names = D.names;
        core = core_back opened κ A.names s.world.store.objects t.world.store.objects A.core g D.names v.world.store.objects v'.world.store.objects D.core;
        answers = D.answers;
        events = D.events;
        work = D.work;
        fn = A.fn;
        fn' = A.fn';
        used = A.used;
        count = A.count;
        count' = A.count';
        own = λ q h. later_known A.names D.names (length t.world.store.objects) (s.cells q) (t.cells q) D.core.later (A.own q h);
        address = λ q k h. points_more A.names D.names s.world s1.world k (s.cells q) (λ o e. later_away A.names D.names (length t.world.store.objects) o k D.core.later e) (λ o e l. ap (λ w. w.lives) (sym (before o k e)) ∙ l) refl (A.address q k h);
        hidden = λ k o h e. let w = A.hidden k o h e in (later_away A.names D.names (length t.world.store.objects) o k D.core.later w.0, w.1);
        variable = λ k o h e l. let w = before o k (A.hidden k o h e).0 in let u = A.variable k o h e (ap (λ r. r.lives) (sym w) ∙ l) in subst (λ r. Holds D.names r (t.cells (X.variable κ.fn k))) (sym w) (record { kind = u.kind; long = u.long; cell = later_known A.names D.names (length t.world.store.objects) (cell_at (object_at s.world.store.objects o) 0) (t.cells (X.variable κ.fn k)) D.core.later u.cell });
        locals = λ k lt h. still_known (local_object s.world.store.locals k) (local_object t.world.store.locals (X.moved κ.fn k)) (A.locals k lt h);
      }

      returns : (q : Option ℕ) → AllOwn X κ.fn (maybe q) → Known (IsHere D.names) v.given v'.given → M κ (back temporaries q s v) (back temporaries q t v')
      returns None h r = comes_back
      returns (Some q) h r = set_alive X x y frames F κ s1 t1 comes_back q v.given v'.given h.0 r

    calls : (q : Option ℕ) (g : ℕ) (args : List ℕ) → AllOwn X κ.fn (maybe q) → AllOwn X κ.fn args → (b b' : Bool) → b' ≡ b → CallAlike PP κ tt q q g s t (if_room b s (s0 g args)) (if_room b' t (t0 g args))
    calls q g args k own true b' e = record {
      inner = caller g;
      fn_is = refl;
      s0' = t0 g args;
      enters = ap (λ b. if_room b t (t0 g args)) e;
      alike = begins g args own;
      back = λ v v' d. returns g v v' d.alive q k d.result;
    }
    calls q g args k own false b' e = (t, ap (λ b. did (if_room b t (t0 g args)) (λ w. Next w)) e, record { events = A.events; work = A.work })

    gives : (a : Option ℕ) → AllOwn X κ.fn (maybe a) → Known (IsHere A.names) (cell_of s.cells a) (cell_of t.cells a)
    gives None h = tt
    gives (Some a) h = A.own a h.0

    with_given : (c d : Cell) → Known (IsHere A.names) c d → Given X x y frames κ (record s { given = c }) (record t { given = d })
    with_given c d h = record {
      alive = record { names = A.names; core = A.core; answers = A.answers; events = A.events; work = A.work; fn = A.fn; fn' = A.fn'; used = A.used; count = A.count; count' = A.count'; own = A.own; address = A.address; hidden = A.hidden; variable = A.variable; locals = A.locals };
      result = h;
    }

  module _ (bodies : (g : ℕ) → Like PP (Some g) [] tt (function_at x g).body (function_at y g).body tt) where
    pub keeps : Keeps L L' PP
    keeps = record {
      events = λ κ i s t m. sym m.events;
      given = λ κ s t d. sym d.alive.events;
      out = λ κ i s t m. now_kept X x y frames F κ s t m;
      weaker_same = λ i. tt;
      weaker = λ κ i j s t h m. m;
      ticks = λ κ i n s t m. timed X x y frames F κ s t m n n (omega arith);
      op = λ κ i k o p s t h m. subst (λ w. DidAlike PP κ tt (L.act o s) (acts L' w t)) (sym h.0) (each X x y frames F κ s t m o h.1);
      test = λ κ i a b s t h m. subst (λ w. TestAlike (word_tested (s.cells a)) (word_tested (t.cells w))) (sym h.0) (test_known (IsHere m.names) (s.cells a) (t.cells a) (m.own a h.1));
      give = λ κ i a b s t h m. subst (λ w. Given X x y frames κ (L.give a s) (L'.give w t)) (sym h.0) (with_given κ s t m (cell_of s.cells a) (cell_of t.cells a) (gives κ s t m a h.1));
      none = λ κ s t m. with_given κ s t m Unwritten Unwritten tt;
      call = λ κ i k q u g args brgs s t h m. subst (λ w. CallAlike PP κ tt q w g s t (L.enter g args s) (L'.enter g brgs t)) (sym h.0) (subst (λ w. CallAlike PP κ tt q q g s t (L.enter g args s) (L'.enter g w t)) (sym h.1) (calls κ s t m q g args h.2 h.3 (has_room z g s.world.store) (has_room z' g t.world.store) (room_same κ s t m g)));
      bodies = bodies;
      act_more = λ o t. act_more temporaries y frames o t;
      enter_more = λ g args t. enter_more temporaries y frames g args t;
      back_more = λ u t v. back_more temporaries y frames u t v;
      give_more = λ w t. refl;
      none_more = λ t. refl;
      tick_more = λ n t. refl;
    }

  -- ---- code that is promoted is alike

  end_in : (ls : List (Points (Unit {0}))) (k : ℕ) → k < length ls → end_at ls k tt
  end_in [] k lt = absurd (omega (arith, lt))
  end_in (l ∷ ls) zero lt = refl
  end_in (l ∷ ls) (suc k) lt = end_in ls k (omega (arith, lt))

  begin_in : (ls : List (Points (Unit {0}))) (k : ℕ) → k < length ls → begin_at ls k tt
  begin_in [] k lt = absurd (omega (arith, lt))
  begin_in (l ∷ ls) zero lt = refl
  begin_in (l ∷ ls) (suc k) lt = begin_in ls k (omega (arith, lt))

  pub like : (f : Option ℕ) (ls : List (Points (Unit {0}))) (c : NodesT ℕ) → GoodNodes X (length x.globals) (length x.literals) f (count_of z f) (length ls) c → Like PP f ls tt c (promoted_nodes X f c) tt
  like f ls Stop g = (refl, refl)
  like f ls (Do o c) g = (promoted_op X f o, promoted_nodes X f c, tt, refl, (refl, g.0), like f ls c g.1)
  like f ls (Call t h args c) g = (t, args, promoted_nodes X f c, tt, refl, refl, (refl, refl, g.0, g.1), like f ls c g.2)
  like f ls (Choose p a b c) g = (p, promoted_nodes X f a, promoted_nodes X f b, promoted_nodes X f c, tt, refl, (refl, g.0), tt, tt, tt, tt, like f ls a g.1, like f ls b g.2, like f ls c g.3)
  like f ls (Block b c) g = (promoted_nodes X f b, promoted_nodes X f c, tt, tt, refl, like f (record { begins = tt; ends = tt } ∷ ls) b g.0, like f ls c g.1)
  like f ls (Loop b c) g = (promoted_nodes X f b, promoted_nodes X f c, tt, tt, refl, tt, like f (record { begins = tt; ends = tt } ∷ ls) b g.0, like f ls c g.1)
  like f ls (Leave k c) g = (promoted_nodes X f c, tt, refl, end_in ls k g.0, tt)
  like f ls (Again k c) g = (promoted_nodes X f c, tt, refl, begin_in ls k g.0, tt)
  like f ls (Return p c) g = (p, promoted_nodes X f c, refl, (refl, g.0))
