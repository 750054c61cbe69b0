-- Loads, stores, port operations: each operation keeps the states alike.
use Rattle.std.proofs.Common.{◌≡◌, ℕ, suc, ◌+◌, ◌<◌, ◌⊎◌, inl, inr, Bool, true, false, cond, ltb, List, [], ◌∷◌, ◌++◌, length, set, get_or, Option, Some, None, Ok, Err, refl, sym, ap, ◌∙◌, subst, arith}
use Rattle.kit_base.specs.declared.event.Event.TheVariants as event
use Rattle.obj_mem.specs.declared.cell.Cell.{Cell}
use Rattle.obj_mem.specs.declared.cell.Cell.TheVariants.{Unwritten, Num, Ptr, Null}
use Rattle.obj_mem.specs.declared.cell.ObjectKind.TheVariants.{Local}
use Rattle.obj_mem.specs.declared.access.Access.{Access}
use Rattle.obj_mem.specs.declared.access.Access.TheVariants.{Outside, Dead, ReadOnly, NoCard}
use Rattle.obj_mem.specs.declared.refusal.Refusal.TheVariants.{Strays, Faults}
use Rattle.obj_mem.specs.Objects.{ObjectT, object_at, cell_at, with_cell, is_missing_card, is_literal, read_refused, write_refused, unless_refused, also_writable}
use Rattle.obj_mem.specs.Stores.{Sizes, with_objects, local_object, end_local, fresh, end_one}
use Rattle.obj_mem.specs.Worlds.{on_store, spend, happened, answered}
use Rattle.obj_mem.specs.Queries.{Answer, word_of, read, write, first_cell, accessed}
use Rattle.obj_mem.specs.Runs.{Fault, Stray}
use Rattle.mid_code.specs.Code.{OpT, ConstO, NullO, MoveO, OneO, TwoO, GlobalO, LocalO, LiteralO, CardO, StepO, ApartO, PtrTestO, LoadO, StoreO, FreshO, EndO, InO, OutO, WaitO, HaltO, CodeT}
use Rattle.mid_code.specs.Meaning.{On, Ends, Next, Lang, did}
use Rattle.mid_code.specs.States.{State, temporaries, put, put_in, one_word, two_words, stepped, distance, pointers_tested, to, in_world, to_objects, input, output, spent, over_worlds, sizes_of}
use Rattle.mid_code.specs.inner.Passing.{acts, Pass, Kept, DidAlike}
use Rattle.mid_code.specs.inner.Alike.{Known, Memory, Answered, Same}
use Rattle.mid_code.proofs.Values.{word_known, one_known, two_known, stepped_known, read_known, distance_known, tested_known, Wrote, write_ok, write_err, write_alike, set_length, twin_written}
use Rattle.mid_scalars.specs.inner.Plan.{Kind, Own, Address, Variable, Plan, by_kind, promoted_op, IsAddress, Takes, GoodOp}
use Rattle.mid_scalars.specs.inner.Named.{name_at, IsHere, Points, LocalKnown, Begun, Holds, count_of, Fits, Alive, KeptStates, promoting}
use Rattle.mid_scalars.proofs.Names.{decide, set_at, set_off, close_length, closed_dead, away_in, away_same, away_not_here, memory}
use Rattle.mid_scalars.proofs.Growing.{core_set, core_hide, points_more}
use Rattle.mid_scalars.proofs.Working.{put_off, put_on, own_variable, variable_same, some_same, then_on, kinds_off, now_kept, stray, timed, timed_left, asked, set_alive, address_alive, objects_alive, end_away, end_both, new_away, new_here}

-- ---- the object of a promoted local

pub plain_read : (o : ObjectT) → o.lives ≡ true → o.kind ≡ Local → length o.cells ≡ 1 → read_refused o 0 ≡ None
plain_read o a b c =
    ap (λ l. cond l (cond (is_missing_card o.kind o.cells) (Some NoCard) (cond (ltb 0 (length o.cells)) None (Some Outside))) (Some Dead)) a
    ∙ ap (λ k. cond (is_missing_card k o.cells) (Some NoCard) (cond (ltb 0 (length o.cells)) None (Some Outside))) b
    ∙ ap (λ n. cond (ltb 0 n) None (Some Outside)) c

pub dead_read : (o : ObjectT) (i : ℕ) → o.lives ≡ false → read_refused o i ≡ Some Dead
dead_read o i a = ap (λ l. cond l (cond (is_missing_card o.kind o.cells) (Some NoCard) (cond (ltb i (length o.cells)) None (Some Outside))) (Some Dead)) a

pub plain_write : (o : ObjectT) → o.lives ≡ true → o.kind ≡ Local → length o.cells ≡ 1 → write_refused o 0 ≡ None
plain_write o a b c = ap (also_writable o.kind) (plain_read o a b c) ∙ ap (λ k. cond (is_literal k) (Some ReadOnly) None) b

pub dead_write : (o : ObjectT) (i : ℕ) → o.lives ≡ false → write_refused o i ≡ Some Dead
dead_write o i a = ap (also_writable o.kind) (dead_read o i a)

pub lives_written : (o : ObjectT) (i : ℕ) → write_refused o i ≡ None → o.lives ≡ true
lives_written o i e = go o.lives refl
  where
    no : Some Dead ≡ None → ⊥
    no f = cc

    go : (b : Bool) → o.lives ≡ b → o.lives ≡ true
    go true f = f
    go false f = absurd (no (sym (dead_write o i f) ∙ e))

set_first : (cs : List Cell) (c : Cell) → length cs ≡ 1 → get_or (set cs 0 c) 0 Unwritten ≡ c
set_first [] c e = absurd (omega (arith, e))
set_first (d ∷ cs) c e = refl

module _ (X : Plan) (x y : CodeT ℕ) (frames : List ℕ) (F : Fits X x y frames) where
  abbrev L' : Lang ℕ
  L' = over_worlds temporaries y frames

  abbrev PP : Pass (over_worlds temporaries x frames) L'
  PP = promoting X x y frames

  abbrev z : Sizes
  z = sizes_of x frames

  abbrev z' : Sizes
  z' = sizes_of y frames

  abbrev opened : ℕ
  opened = suc (length x.globals + length x.literals)

  abbrev M : Begun → State ℕ → State ℕ → Type 0
  M κ s t = Alive X x y frames κ s t

  module _ (κ : Begun) (s t : State ℕ) (A : M κ s t) where
    abbrev N : ℕ → ℕ → Type 0
    N = IsHere A.names

    abbrev xs : List ObjectT
    xs = s.world.store.objects

    abbrev ys : List ObjectT
    ys = t.world.store.objects

    mem : Memory N xs ys
    mem = memory A.names xs ys A.core.mem

    abbrev A8 : M κ (spent 8 s) (spent 8 t)
    A8 = timed X x y frames F κ s t A 8 8 (omega arith)

    K8 : KeptStates x (spent 8 s) (spent 8 t)
    K8 = now_kept X x y frames F κ (spent 8 s) (spent 8 t) A8

    strays : (ps : List (OpT ℕ)) (n : ℕ) → Kept PP Stray (spent n s) (did (acts L' ps t) (λ q. Next q))
    strays = stray X x y frames F κ s t A

    -- what sets a temporary of its own
    sets : (q : ℕ) → X.kind κ.fn q ≡ Own → (a b : Answer Cell) → Answered (Known N) a b → (o : OpT ℕ) → L'.act o t ≡ to temporaries q b (spent 8 t) → DidAlike PP κ tt (to temporaries q a (spent 8 s)) (acts L' (o ∷ []) t)
    sets q e (Ok c) b h o f =
        let g : acts L' (o ∷ []) t ≡ On (put_in temporaries q h.0 (spent 8 t)) = then_on (L'.act o t) ∙ f ∙ ap (λ w. to temporaries q w (spent 8 t)) h.1 in
        (put_in temporaries q h.0 (spent 8 t), g, set_alive X x y frames F κ (spent 8 s) (spent 8 t) A8 q c h.0 e h.2)
    sets q e (Err Strays) b h o f = strays (o ∷ []) 8
    sets q e (Err (Faults k)) b h o f =
        let g : acts L' (o ∷ []) t ≡ Ends (Fault k) (spent 8 t) = then_on (L'.act o t) ∙ f ∙ ap (λ w. to temporaries q w (spent 8 t)) h in
        (spent 8 t, ap (λ d. did d (λ w. Next w)) g, K8)

    -- an address of a promoted local is dropped
    local_away : (q k : ℕ) → X.kind κ.fn q ≡ Address k → X.promoted κ.fn k ≡ true → (l : Option ℕ) → local_object s.world.store.locals k ≡ l → DidAlike PP κ tt (to temporaries q (first_cell l) (spent 8 s)) (On t)
    local_away q k e p None h = strays [] 8
    local_away q k e p (Some o) h = (t, refl, address_alive X x y frames F κ (spent 8 s) t (timed_left X x y frames F κ s t A 8) q k o e p h)

    -- what is read there is the cell of the promoted local
    variable_read : (k : ℕ) → X.promoted κ.fn k ≡ true → (c : Cell) → Points A.names s.world k c → Answered (Known N) (read xs c) (Ok (t.cells (X.variable κ.fn k)))
    variable_read k p Unwritten h = tt
    variable_read k p (Num n) h = absurd h
    variable_read k p Null h = absurd h
    variable_read k p (Ptr o i) h = at (object_at xs o).lives refl
      where
        at : (b : Bool) → (object_at xs o).lives ≡ b → Answered (Known (IsHere A.names)) (accessed 0 i (unless_refused (read_refused (object_at xs o) i) (cell_at (object_at xs o) i))) (Ok (t.cells (X.variable κ.fn k)))
        at true e =
            let H = A.variable k o p (h.2 e) e in
            let r : read_refused (object_at xs o) i ≡ None = ap (read_refused (object_at xs o)) h.0 ∙ plain_read (object_at xs o) e H.kind H.long in
            subst (λ w. Answered (Known (IsHere A.names)) (accessed 0 i (unless_refused w (cell_at (object_at xs o) i))) (Ok (t.cells (X.variable κ.fn k)))) (sym r) (t.cells (X.variable κ.fn k), refl, subst (λ j. Known (IsHere A.names) (cell_at (object_at xs o) j) (t.cells (X.variable κ.fn k))) (sym h.0) H.cell)
        at false e = subst (λ w. Answered (Known (IsHere A.names)) (accessed 0 i (unless_refused w (cell_at (object_at xs o) i))) (Ok (t.cells (X.variable κ.fn k)))) (sym (dead_read (object_at xs o) i e)) tt

    no_fault : (k : ℕ) → X.promoted κ.fn k ≡ true → (c v : Cell) (n : ℕ) → Points A.names s.world k c → write xs c v ≡ Err (Faults n) → ⊥
    no_fault k p Unwritten v n h e = cc
    no_fault k p (Num w) v n h e = absurd h
    no_fault k p Null v n h e = absurd h
    no_fault k p (Ptr o i) v n h e = at (object_at xs o).lives refl
      where
        go : (r : Option Access) → write_refused (object_at xs o) i ≡ r → accessed 1 i (unless_refused r (set xs o (with_cell (object_at xs o) i v))) ≡ Err (Faults n)
        go r f = ap (λ w. accessed 1 i (unless_refused w (set xs o (with_cell (object_at xs o) i v)))) (sym f) ∙ e

        at : (b : Bool) → (object_at xs o).lives ≡ b → ⊥
        at true f = let H = A.variable k o p (h.2 f) f in no1 (go None (ap (write_refused (object_at xs o)) h.0 ∙ plain_write (object_at xs o) f H.kind H.long))
          where
            no1 : accessed 1 i (unless_refused None (set xs o (with_cell (object_at xs o) i v))) ≡ Err (Faults n) → ⊥
            no1 g = cc
        at false f = no2 (go (Some Dead) (dead_write (object_at xs o) i f))
          where
            no2 : accessed 1 i (unless_refused (Some Dead) (set xs o (with_cell (object_at xs o) i v))) ≡ Err (Faults n) → ⊥
            no2 g = cc

    -- ---- stores

    store_own : (p a : ℕ) → X.kind κ.fn p ≡ Own → X.kind κ.fn a ≡ Own → (r : Answer (List ObjectT)) → write xs (s.cells p) (s.cells a) ≡ r → DidAlike PP κ tt (to_objects r (spent 8 s)) (acts L' (StoreO p a ∷ []) t)
    store_own p a kp ka (Ok zs) e =
        let W = write_ok xs (s.cells p) (s.cells a) zs e in
        let g = write_alike N xs ys zs mem (s.cells p) (t.cells p) (s.cells a) (t.cells a) (A.own p kp) W in
        let c1 = with_cell (object_at xs W.o) W.i (s.cells a) in
        let c2 = with_cell (object_at ys g.0) W.i (t.cells a) in
        let c = core_set opened κ A.names xs ys A.core W.o g.0 c1 c2 g.1 (twin_written N (object_at xs W.o) (object_at ys g.0) W.i (s.cells a) (t.cells a) (A.core.mem.twin W.o g.0 g.1) (A.own a ka)) in
        let m = objects_alive X x y frames F κ (spent 8 s) (spent 8 t) A8 (set xs W.o c1) (set ys g.0 c2) c (λ o k h. set_off xs W.o o c1 (λ f. away_not_here A.names o W.o k g.0 h g.1 (sym f))) in
        (in_world (on_store (with_objects (set ys g.0 c2)) (spend 8 t.world)) t, then_on (L'.act (StoreO p a) t) ∙ ap (λ q. to_objects q (spent 8 t)) g.2, subst (λ l. M κ (in_world (on_store (with_objects l) (spend 8 s.world)) s) (in_world (on_store (with_objects (set ys g.0 c2)) (spend 8 t.world)) t)) (sym W.is) m)
    store_own p a kp ka (Err Strays) e = strays (StoreO p a ∷ []) 8
    store_own p a kp ka (Err (Faults n)) e =
        let g = write_err N xs ys mem (s.cells p) (t.cells p) (s.cells a) (t.cells a) (Faults n) (A.own p kp) e n refl in
        (spent 8 t, ap (λ d. did d (λ w. Next w)) (then_on (L'.act (StoreO p a) t) ∙ ap (λ q. to_objects q (spent 8 t)) g), K8)

    module _ (p a k : ℕ) (kp : X.kind κ.fn p ≡ Address k) (ka : X.kind κ.fn a ≡ Own) (zs : List ObjectT) (W : Wrote xs (s.cells p) (s.cells a) zs) where
      kk : X.promoted κ.fn k ≡ true
      kk = F.address_is κ.fn p k kp

      abbrev c1 : ObjectT
      c1 = with_cell (object_at xs W.o) W.i (s.cells a)

      at : Points A.names s.world k (Ptr W.o W.i)
      at = subst (λ c. Points A.names s.world k c) W.at (A.address p k kp)

      lives : (object_at xs W.o).lives ≡ true
      lives = lives_written (object_at xs W.o) W.i W.may

      mine : local_object s.world.store.locals k ≡ Some W.o
      mine = at.2 lives

      still : (o : ℕ) → (object_at (set xs W.o c1) o).lives ≡ true → (W.o ≡ o) ⊎ (W.o ≡ o → ⊥) → (object_at xs o).lives ≡ true
      still o l (inl f) = subst (λ w. (object_at xs w).lives ≡ true) f lives
      still o l (inr f) = ap (λ w. w.lives) (sym (set_off xs W.o o c1 f)) ∙ l

      new_is : object_at (set xs W.o c1) W.o ≡ c1
      new_is = set_at xs W.o c1 (subst (λ l. W.o < l) A.core.mem.long (away_in A.names W.o k at.1))

      holds : Holds A.names c1 (t.cells a)
      holds =
          let g = A.variable k W.o kk mine lives in
          record {
            kind = g.kind;
            long = set_length (object_at xs W.o).cells W.i (s.cells a) ∙ g.long;
            cell = subst (λ i. Known N (get_or (set (object_at xs W.o).cells i (s.cells a)) 0 Unwritten) (t.cells a)) (sym at.0) (subst (λ c. Known N c (t.cells a)) (sym (set_first (object_at xs W.o).cells (s.cells a) g.long)) (A.own a ka));
          }

      held : (j o : ℕ) → X.promoted κ.fn j ≡ true → local_object s.world.store.locals j ≡ Some o → (object_at (set xs W.o c1) o).lives ≡ true → (W.o ≡ o) ⊎ (W.o ≡ o → ⊥) → Holds A.names (object_at (set xs W.o c1) o) (put temporaries t.cells (X.variable κ.fn k) (t.cells a) (X.variable κ.fn j))
      held j o h l v (inl f) =
          let e : j ≡ k = away_same j k (sym (A.hidden j o h l).0 ∙ ap (name_at A.names) (sym f) ∙ at.1) in
          let b : put temporaries t.cells (X.variable κ.fn k) (t.cells a) (X.variable κ.fn j) ≡ t.cells a = ap (λ w. put temporaries t.cells (X.variable κ.fn k) (t.cells a) (X.variable κ.fn w)) e ∙ put_on t.cells (X.variable κ.fn k) (t.cells a) in
          subst (λ u. Holds A.names u (put temporaries t.cells (X.variable κ.fn k) (t.cells a) (X.variable κ.fn j))) (sym (ap (object_at (set xs W.o c1)) (sym f) ∙ new_is)) (subst (λ c. Holds A.names c1 c) (sym b) holds)
      held j o h l v (inr f) =
          let n : X.variable κ.fn j ≡ X.variable κ.fn k → ⊥ = λ e. f (some_same W.o o (sym mine ∙ ap (local_object s.world.store.locals) (sym (variable_same j k (sym (F.variable_is κ.fn j h) ∙ ap (X.kind κ.fn) e ∙ F.variable_is κ.fn k kk))) ∙ l)) in
          let b = set_off xs W.o o c1 f in
          subst (λ u. Holds A.names u (put temporaries t.cells (X.variable κ.fn k) (t.cells a) (X.variable κ.fn j))) (sym b) (subst (λ c. Holds A.names (object_at xs o) c) (sym (put_off t.cells (X.variable κ.fn k) (t.cells a) (X.variable κ.fn j) n)) (A.variable j o h l (ap (λ u. u.lives) (sym b) ∙ v)))

      stored : M κ (in_world (on_store (with_objects zs) (spend 8 s.world)) s) (put_in temporaries (X.variable κ.fn k) (t.cells a) (spent 8 t))
      stored = subst (λ l. M κ (in_world (on_store (with_objects l) (spend 8 s.world)) s) (put_in temporaries (X.variable κ.fn k) (t.cells a) (spent 8 t))) (sym W.is) (record {
        names = A.names;
        core = core_hide opened κ A.names xs ys A.core W.o k c1 at.1 (A.hidden k W.o kk mine).1;
        answers = A.answers;
        events = A.events;
        work = A8.work;
        fn = A.fn;
        fn' = A.fn';
        used = A.used;
        count = A.count;
        count' = A.count';
        own = λ r f. subst (λ w. Known N (s.cells r) w) (sym (put_off t.cells (X.variable κ.fn k) (t.cells a) r (kinds_off X x y frames F κ.fn r (X.variable κ.fn k) f (F.variable_is κ.fn k kk) (own_variable k)))) (A.own r f);
        address = λ q j f. points_more A.names A.names s.world (on_store (with_objects (set xs W.o c1)) (spend 8 s.world)) j (s.cells q) (λ o h. h) (λ o h l. still o l (decide W.o o)) refl (A.address q j f);
        hidden = A.hidden;
        variable = λ j o h l v. held j o h l v (decide W.o o);
        locals = A.locals;
      })

    store_variable : (p a k : ℕ) → X.kind κ.fn p ≡ Address k → X.kind κ.fn a ≡ Own → (r : Answer (List ObjectT)) → write xs (s.cells p) (s.cells a) ≡ r → DidAlike PP κ tt (to_objects r (spent 8 s)) (acts L' (MoveO (X.variable κ.fn k) a ∷ []) t)
    store_variable p a k kp ka (Ok zs) e = (put_in temporaries (X.variable κ.fn k) (t.cells a) (spent 8 t), refl, stored p a k kp ka zs (write_ok xs (s.cells p) (s.cells a) zs e))
    store_variable p a k kp ka (Err Strays) e = strays (MoveO (X.variable κ.fn k) a ∷ []) 8
    store_variable p a k kp ka (Err (Faults n)) e = absurd (no_fault k (F.address_is κ.fn p k kp) (s.cells p) (s.cells a) n (A.address p k kp) e)

    -- ---- ports

    outs : (port a : ℕ) (r r' : Answer ℕ) → Answered {A = ℕ} {B = ℕ} Same r r' → word_of (t.cells a) ≡ r' → DidAlike PP κ tt (output port r (spent 8 s)) (acts L' (OutO port a ∷ []) t)
    outs port a (Ok c) r' h e =
        let g : acts L' (OutO port a ∷ []) t ≡ On (in_world (happened (event.Out port c) (spend 8 t.world)) t) = then_on (L'.act (OutO port a) t) ∙ ap (λ l. output port l (spent 8 t)) (e ∙ h.1 ∙ ap Ok h.2) in
        (in_world (happened (event.Out port c) (spend 8 t.world)) t, g, asked X x y frames F κ (spent 8 s) (spent 8 t) A8 s.world.store.answers t.world.store.answers (s.world.events ++ event.Out port c ∷ []) (t.world.events ++ event.Out port c ∷ []) A.answers (ap (λ l. l ++ event.Out port c ∷ []) A.events))
    outs port a (Err Strays) r' h e = strays (OutO port a ∷ []) 8
    outs port a (Err (Faults n)) r' h e =
        let g : acts L' (OutO port a ∷ []) t ≡ Ends (Fault n) (spent 8 t) = then_on (L'.act (OutO port a) t) ∙ ap (λ l. output port l (spent 8 t)) (e ∙ h) in
        (spent 8 t, ap (λ d. did d (λ w. Next w)) g, K8)

    ins : (q port : ℕ) → X.kind κ.fn q ≡ Own → (bs : List ℕ) → s.world.store.answers ≡ bs → DidAlike PP κ tt (input temporaries q port bs (spent 8 s)) (acts L' (InO q port ∷ []) t)
    ins q port k [] e = (spent 8 t, ap (λ d. did d (λ w. Next w)) (then_on (L'.act (InO q port) t) ∙ ap (λ l. input temporaries q port l (spent 8 t)) (A.answers ∙ e)), K8)
    ins q port k (c ∷ bs) e =
        let m : M κ (in_world (answered port c bs (spend 8 s.world)) s) (in_world (answered port c bs (spend 8 t.world)) t) = asked X x y frames F κ (spent 8 s) (spent 8 t) A8 bs bs (s.world.events ++ event.In port c ∷ []) (t.world.events ++ event.In port c ∷ []) refl (ap (λ l. l ++ event.In port c ∷ []) A.events) in
        (put_in temporaries q (Num c) (in_world (answered port c bs (spend 8 t.world)) t), then_on (L'.act (InO q port) t) ∙ ap (λ l. input temporaries q port l (spent 8 t)) (A.answers ∙ e), set_alive X x y frames F κ (in_world (answered port c bs (spend 8 s.world)) s) (in_world (answered port c bs (spend 8 t.world)) t) m q (Num c) (Num c) k refl)

    -- ---- locals

    local_known : (l m : Option ℕ) → LocalKnown A.names l m → Answered (Known N) (first_cell l) (first_cell m)
    local_known None m h = tt
    local_known (Some o) m h = (Ptr h.0 0, ap first_cell h.2, (h.0, h.1, refl))

    locals_op : (q k : ℕ) (b : Bool) → k < count_of z κ.fn → X.promoted κ.fn k ≡ b → Takes X κ.fn q k b → DidAlike PP κ tt (to temporaries q (first_cell (local_object s.world.store.locals k)) (spent 8 s)) (acts L' (cond b [] (LocalO q (X.moved κ.fn k) ∷ [])) t)
    locals_op q k true lt p h = local_away q k h p (local_object s.world.store.locals k) refl
    locals_op q k false lt p h = sets q h (first_cell (local_object s.world.store.locals k)) (first_cell (local_object t.world.store.locals (X.moved κ.fn k))) (local_known (local_object s.world.store.locals k) (local_object t.world.store.locals (X.moved κ.fn k)) (A.locals k lt p)) (LocalO q (X.moved κ.fn k)) refl

    loads : (q p : ℕ) (b : Kind) → X.kind κ.fn p ≡ b → X.kind κ.fn q ≡ Own → IsAddress X κ.fn b → DidAlike PP κ tt (to temporaries q (read xs (s.cells p)) (spent 8 s)) (acts L' (by_kind b (LoadO q p ∷ []) (λ k. MoveO q (X.variable κ.fn k) ∷ [])) t)
    loads q p Own e h g = sets q h (read xs (s.cells p)) (read ys (t.cells p)) (read_known N xs ys mem (s.cells p) (t.cells p) (A.own p e)) (LoadO q p) refl
    loads q p (Address k) e h g = sets q h (read xs (s.cells p)) (Ok (t.cells (X.variable κ.fn k))) (variable_read k g (s.cells p) (A.address p k e)) (MoveO q (X.variable κ.fn k)) refl
    loads q p (Variable k) e h g = absurd g

    stores : (p a : ℕ) (b : Kind) → X.kind κ.fn p ≡ b → X.kind κ.fn a ≡ Own → IsAddress X κ.fn b → DidAlike PP κ tt (to_objects (write xs (s.cells p) (s.cells a)) (spent 8 s)) (acts L' (by_kind b (StoreO p a ∷ []) (λ k. MoveO (X.variable κ.fn k) a ∷ [])) t)
    stores p a Own e h g = store_own p a e h (write xs (s.cells p) (s.cells a)) refl
    stores p a (Address k) e h g = store_variable p a k e h (write xs (s.cells p) (s.cells a)) refl
    stores p a (Variable k) e h g = absurd g

    closed : (l : Option ℕ) (os : List ObjectT) (o : ℕ) → l ≡ Some o → (object_at (end_local l os) o).lives ≡ false
    closed l os o e = subst (λ w. (object_at (end_local w os) o).lives ≡ false) (sym e) (closed_dead o os)

    freshes : (k : ℕ) (b : Bool) → k < count_of z κ.fn → X.promoted κ.fn k ≡ b → DidAlike PP κ tt (On (in_world (on_store (fresh z k) (spend 0 s.world)) s)) (acts L' (cond b [] (FreshO (X.moved κ.fn k) ∷ [])) t)
    freshes k true lt p =
        let c = end_away X x y frames F κ (spent 0 s) t (timed_left X x y frames F κ s t A 0) k p in
        (t, refl, new_away X x y frames F κ (in_world (on_store (end_one k) (spend 0 s.world)) s) t c k (length xs) p (sym (close_length (local_object s.world.store.locals k) xs)) (λ o e. closed (local_object s.world.store.locals k) xs o e))
    freshes k false lt p =
        let c = end_both X x y frames F κ (spent 0 s) (spent 0 t) (timed X x y frames F κ s t A 0 0 (omega arith)) k lt p in
        (in_world (on_store (fresh z' (X.moved κ.fn k)) (spend 0 t.world)) t, refl, new_here X x y frames F κ (in_world (on_store (end_one k) (spend 0 s.world)) s) (in_world (on_store (end_one (X.moved κ.fn k)) (spend 0 t.world)) t) c k (length xs) (length ys) lt p (sym (close_length (local_object s.world.store.locals k) xs)) (sym (close_length (local_object t.world.store.locals (X.moved κ.fn k)) ys)))

    ends : (k : ℕ) (b : Bool) → k < count_of z κ.fn → X.promoted κ.fn k ≡ b → DidAlike PP κ tt (On (in_world (on_store (end_one k) (spend 0 s.world)) s)) (acts L' (cond b [] (EndO (X.moved κ.fn k) ∷ [])) t)
    ends k true lt p = (t, refl, end_away X x y frames F κ (spent 0 s) t (timed_left X x y frames F κ s t A 0) k p)
    ends k false lt p = (in_world (on_store (end_one (X.moved κ.fn k)) (spend 0 t.world)) t, refl, end_both X x y frames F κ (spent 0 s) (spent 0 t) (timed X x y frames F κ s t A 0 0 (omega arith)) k lt p)

    card_known : Answered (Known N) (Ok (Ptr z.card 0)) (Ok (Ptr z'.card 0))
    card_known = (Ptr z'.card 0, refl, (z.card, A.core.fixed z.card (omega arith), ap (λ l. Ptr (length l + length y.literals) 0) F.globals ∙ ap (λ l. Ptr (length x.globals + length l) 0) F.literals))

    literal_known : (k : ℕ) → k < length x.literals → Answered (Known N) (Ok (Ptr (z.first_literal + k) 0)) (Ok (Ptr (z'.first_literal + k) 0))
    literal_known k lt = (Ptr (z'.first_literal + k) 0, refl, (z.first_literal + k, A.core.fixed (z.first_literal + k) (omega (arith, lt)), ap (λ l. Ptr (length l + k) 0) F.globals))

    -- every operation
    pub each : (o : OpT ℕ) → GoodOp X (length x.globals) (length x.literals) κ.fn (count_of z κ.fn) o → DidAlike PP κ tt ((over_worlds temporaries x frames).act o s) (acts L' (promoted_op X κ.fn o) t)
    each (ConstO q n) g = sets q g.0.0 (Ok (Num n)) (Ok (Num n)) (Num n, refl, refl) (ConstO q n) refl
    each (NullO q) g = sets q g.0.0 (Ok Null) (Ok Null) (Null, refl, refl) (NullO q) refl
    each (MoveO q a) g = sets q g.0.0 (Ok (s.cells a)) (Ok (t.cells a)) (t.cells a, refl, A.own a g.1.0) (MoveO q a) refl
    each (OneO o q a) g = sets q g.0.0 (one_word o (s.cells a)) (one_word o (t.cells a)) (one_known N o (s.cells a) (t.cells a) (A.own a g.1.0)) (OneO o q a) refl
    each (TwoO o q a b) g = sets q g.0.0 (two_words o (s.cells a) (s.cells b)) (two_words o (t.cells a) (t.cells b)) (two_known N o (s.cells a) (s.cells b) (t.cells a) (t.cells b) (A.own a g.1.0) (A.own b g.1.1.0)) (TwoO o q a b) refl
    each (GlobalO q k) g = sets q g.0 (Ok (Ptr k 0)) (Ok (Ptr k 0)) (Ptr k 0, refl, (k, A.core.fixed k (let h = g.1 in omega (arith, h)), refl)) (GlobalO q k) refl
    each (LocalO q k) g = locals_op q k (X.promoted κ.fn k) g.0 refl g.1
    each (LiteralO q k) g = sets q g.0 (Ok (Ptr (z.first_literal + k) 0)) (Ok (Ptr (z'.first_literal + k) 0)) (literal_known k g.1) (LiteralO q k) refl
    each (CardO q) g = sets q g.0.0 (Ok (Ptr z.card 0)) (Ok (Ptr z'.card 0)) card_known (CardO q) refl
    each (StepO q a b) g = sets q g.0.0 (stepped (s.cells a) (s.cells b)) (stepped (t.cells a) (t.cells b)) (stepped_known N (s.cells a) (t.cells a) (s.cells b) (t.cells b) (A.own a g.1.0) (A.own b g.1.1.0)) (StepO q a b) refl
    each (ApartO q a b) g = sets q g.0.0 (distance xs (s.cells a) (s.cells b)) (distance ys (t.cells a) (t.cells b)) (distance_known N xs ys mem (s.cells a) (s.cells b) (t.cells a) (t.cells b) (A.own a g.1.0) (A.own b g.1.1.0)) (ApartO q a b) refl
    each (PtrTestO o q a b) g = sets q g.0.0 (pointers_tested o xs (s.cells a) (s.cells b)) (pointers_tested o ys (t.cells a) (t.cells b)) (tested_known N xs ys mem o (s.cells a) (s.cells b) (t.cells a) (t.cells b) (A.own a g.1.0) (A.own b g.1.1.0)) (PtrTestO o q a b) refl
    each (LoadO q p) g = loads q p (X.kind κ.fn p) refl g.0 g.1
    each (StoreO p a) g = stores p a (X.kind κ.fn p) refl g.0 g.1
    each (FreshO k) g = freshes k (X.promoted κ.fn k) g refl
    each (EndO k) g = ends k (X.promoted κ.fn k) g refl
    each (InO q port) g = ins q port g.0.0 s.world.store.answers refl
    each (OutO port a) g = outs port a (word_of (s.cells a)) (word_of (t.cells a)) (word_known N (s.cells a) (t.cells a) (A.own a g.1.0)) refl
    each WaitO g = (in_world (happened event.Wait (spend 8 t.world)) t, refl, asked X x y frames F κ (spent 8 s) (spent 8 t) A8 s.world.store.answers t.world.store.answers (s.world.events ++ event.Wait ∷ []) (t.world.events ++ event.Wait ∷ []) A.answers (ap (λ l. l ++ event.Wait ∷ []) A.events))
    each HaltO g = (spent 8 t, refl, K8)
