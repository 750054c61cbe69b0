-- Each operation keeps the states alike.
use Rattle.std.proofs.Common.{◌≡◌, ℕ, zero, suc, ◌+◌, ◌<◌, ◌⊎◌, inl, inr, Bool, true, false, cond, ltb, List, [], ◌∷◌, ◌++◌, length, set, get_or, Option, Some, None, Ok, Err, refl, sym, ap, ◌∙◌, subst, arith}
use Rattle.std.proofs.lemmas.Bool.{lt-ltb}
use Rattle.kit_base.specs.Word.{add}
use Rattle.kit_base.specs.declared.event.Event.TheVariants as event
use Rattle.obj_mem.specs.declared.cell.Cell.{Cell}
use Rattle.obj_mem.specs.declared.cell.Cell.TheVariants.{Unwritten, Num, Ptr, Null}
use Rattle.obj_mem.specs.declared.cell.ObjectKind.TheVariants.{Local}
use Rattle.obj_mem.specs.declared.access.Access.{Access}
use Rattle.obj_mem.specs.declared.access.Access.TheVariants.{Outside, Dead, ReadOnly, NoCard}
use Rattle.obj_mem.specs.declared.refusal.Refusal.TheVariants.{Strays, Faults}
use Rattle.obj_mem.specs.Objects.{ObjectT, object_at, cell_at, with_cell, is_missing_card, is_literal, read_refused, write_refused, unless_refused, also_writable}
use Rattle.obj_mem.specs.Stores.{Sizes, with_objects, local_object, end_local, fresh, end_one}
use Rattle.obj_mem.specs.Worlds.{on_store, spend, happened, answered}
use Rattle.obj_mem.specs.Queries.{Answer, word_of, read, write, first_cell, accessed}
use Rattle.obj_mem.specs.Runs.{Fault, Stray}
use Rattle.mid_code.specs.Code.{OpT, ConstO, NullO, MoveO, OneO, TwoO, GlobalO, LocalO, LiteralO, CardO, StepO, ApartO, PtrTestO, LoadO, StoreO, FreshO, EndO, InO, OutO, WaitO, HaltO, CodeT, maybe, uses, target}
use Rattle.mid_code.specs.Meaning.{Did, On, Ends, Next, Lang, did}
use Rattle.mid_code.specs.States.{State, temporaries, put, put_in, one_word, two_words, stepped, distance, pointers_tested, to, in_world, to_objects, input, output, spent, over_worlds, sizes_of}
use Rattle.mid_code.specs.inner.Passing.{acts, Pass, Kept, DidAlike}
use Rattle.mid_code.specs.inner.Alike.{Known, Memory, Answered, Same}
use Rattle.mid_code.proofs.Values.{word_known, one_known, two_known, stepped_known, read_known, distance_known, tested_known, Wrote, write_ok, write_err, write_alike, set_length, twin_written}
use Rattle.mid_scalars.specs.inner.Named.{name_at, IsHere, LocalKnown, Begun, count_of, KeptStates}
use Rattle.mid_scalars.proofs.Names.{decide, set_at, set_off, close_length, closed_dead, away_in, away_same, away_not_here, memory}
use Rattle.mid_scalars.proofs.Growing.{core_set, core_hide}
use Rattle.mid_scalars.proofs.Working.{put_off, put_on, some_same, then_on}
use Rattle.mid_scalars.proofs.Each.{dead_read, dead_write, lives_written}
use Rattle.mid_replace.specs.inner.Facts.{Fact, Plain, Word, Place, Any, Plan, Weaker, IsPlain, step_fact, with_target, facts_behind, Follows, if_plain, by_place, replaced_op, IsAccess, IsStep, IsFine}
use Rattle.mid_replace.specs.inner.Held.{Points, Tells, Holds, Fits, Alive, AllNamed, replacing}
use Rattle.mid_replace.proofs.Spare.{tells_kept, tells_weaker}
use Rattle.mid_replace.proofs.Working.{now_kept, stray, timed, timed_left, follow, asked, set_alive, set_left, objects_alive, end_held, end_both, new_held, new_here}

-- ---- the object of a local that is held

open_read : (o : ObjectT) (i : ℕ) → o.lives ≡ true → o.kind ≡ Local → i < length o.cells → read_refused o i ≡ None
open_read o i a b lt =
    ap (λ l. cond l (cond (is_missing_card o.kind o.cells) (Some NoCard) (cond (ltb i (length o.cells)) None (Some Outside))) (Some Dead)) a
    ∙ ap (λ k. cond (is_missing_card k o.cells) (Some NoCard) (cond (ltb i (length o.cells)) None (Some Outside))) b
    ∙ ap (λ n. cond n None (Some Outside)) (lt-ltb i (length o.cells) lt)

open_write : (o : ObjectT) (i : ℕ) → o.lives ≡ true → o.kind ≡ Local → i < length o.cells → write_refused o i ≡ None
open_write o i a b lt = ap (also_writable o.kind) (open_read o i a b lt) ∙ ap (λ k. cond (is_literal k) (Some ReadOnly) None) b

set_word : (cs : List Cell) (i : ℕ) (c : Cell) → i < length cs → get_or (set cs i c) i Unwritten ≡ c
set_word [] i c lt = absurd (omega (arith, lt))
set_word (d ∷ cs) zero c lt = refl
set_word (d ∷ cs) (suc i) c lt = set_word cs i c (omega (arith, lt))

set_other : (cs : List Cell) (i j : ℕ) (c : Cell) → (i ≡ j → ⊥) → get_or (set cs i c) j Unwritten ≡ get_or cs j Unwritten
set_other [] i j c n = refl
set_other (d ∷ cs) zero zero c n = absurd (n refl)
set_other (d ∷ cs) zero (suc j) c n = refl
set_other (d ∷ cs) (suc i) zero c n = refl
set_other (d ∷ cs) (suc i) (suc j) c n = set_other cs i j c (λ e. n (ap suc e))

pub plain_weaker : (u : Fact) → IsPlain u → Weaker u Plain
plain_weaker Plain h = tt
plain_weaker (Word n) h = tt
plain_weaker (Place k w) h = absurd h
plain_weaker Any h = absurd h

-- a step never faults
step_no_fault : (p c : Cell) (n : ℕ) → stepped p c ≡ Err (Faults n) → ⊥
step_no_fault p Unwritten n e = cc
step_no_fault p (Ptr o i) n e = cc
step_no_fault p Null n e = cc
step_no_fault Unwritten (Num m) n e = cc
step_no_fault (Num k) (Num m) n e = cc
step_no_fault (Ptr o i) (Num m) n e = cc
step_no_fault Null (Num m) n e = cc

first_no_fault : (l : Option ℕ) (n : ℕ) → first_cell l ≡ Err (Faults n) → ⊥
first_no_fault None n e = cc
first_no_fault (Some o) n e = cc

abbrev answer : Cell → Answer Cell
answer c = Ok c

ok_same : (c d : Cell) → answer c ≡ answer d → c ≡ d
ok_same c d e = cc

ok_no_fault : (c : Cell) (n : ℕ) → answer c ≡ Err (Faults n) → ⊥
ok_no_fault c n e = cc

module _ (X : Option ℕ → Plan) (x y : CodeT ℕ) (frames : List ℕ) (F : Fits X x y frames) where
  abbrev L' : Lang ℕ
  L' = over_worlds temporaries y frames

  abbrev PP : Pass (over_worlds temporaries x frames) L'
  PP = replacing X x y frames

  abbrev z : Sizes
  z = sizes_of x frames

  abbrev z' : Sizes
  z' = sizes_of y frames

  abbrev opened : ℕ
  opened = suc (length x.globals + length x.literals)

  abbrev M : Begun → (ℕ → Fact) → State ℕ → State ℕ → Type 0
  M κ i s t = Alive X x y frames κ i s t

  pub follow_did : (κ : Begun) (i k : ℕ → Fact) (d : Did (State ℕ)) (e : Did (State ℕ)) → Follows i k → DidAlike PP κ i d e → DidAlike PP κ k d e
  follow_did κ i k (On s) e f h = (h.0, h.1, follow X x y frames F κ i s h.0 h.2 k f)
  follow_did κ i k (Ends g s) e f h = h

  module _ (κ : Begun) (i : ℕ → Fact) (s t : State ℕ) (A : M κ i s t) where
    abbrev P : Plan
    P = X κ.fn

    abbrev N : ℕ → ℕ → Type 0
    N = IsHere A.names

    abbrev xs : List ObjectT
    xs = s.world.store.objects

    abbrev ys : List ObjectT
    ys = t.world.store.objects

    abbrev T : Fact → Cell → Cell → Type 0
    T u c d = Tells A.names s.world u c d

    mem : Memory N xs ys
    mem = memory A.names xs ys A.core.mem

    abbrev A8 : M κ i (spent 8 s) (spent 8 t)
    A8 = timed X x y frames F κ i s t A 8 8 (omega arith)

    K8 : KeptStates x (spent 8 s) (spent 8 t)
    K8 = now_kept X x y frames F κ i (spent 8 s) (spent 8 t) A8

    strays : (ps : List (OpT ℕ)) (n : ℕ) → Kept PP Stray (spent n s) (did (acts L' ps t) (λ q. Next q))
    strays = stray X x y frames F κ i s t A

    told : (q : ℕ) (u : Fact) → q < P.temps → i q ≡ u → T u (s.cells q) (t.cells q)
    told q u lt e = subst (λ v. T v (s.cells q) (t.cells q)) e (A.known q lt)

    pub plain_known : (q : ℕ) → q < P.temps → IsPlain (i q) → Known N (s.cells q) (t.cells q)
    plain_known q lt h = tells_weaker A.names s.world (i q) Plain (s.cells q) (t.cells q) (plain_weaker (i q) h) (A.known q lt)

    -- what sets a temporary on both sides
    sets : (q : ℕ) (u : Fact) → q < P.temps → (a b : Answer Cell) → Answered (T u) a b → (o : OpT ℕ) → L'.act o t ≡ to temporaries q b (spent 8 t)
        → DidAlike PP κ (with_target (Some q) u i) (to temporaries q a (spent 8 s)) (acts L' (o ∷ []) t)
    sets q u lt (Ok c) b h o f =
        let g : acts L' (o ∷ []) t ≡ On (put_in temporaries q h.0 (spent 8 t)) = then_on (L'.act o t) ∙ f ∙ ap (λ w. to temporaries q w (spent 8 t)) h.1 in
        (put_in temporaries q h.0 (spent 8 t), g, set_alive X x y frames F κ i (spent 8 s) (spent 8 t) A8 q u c h.0 lt h.2)
    sets q u lt (Err Strays) b h o f = strays (o ∷ []) 8
    sets q u lt (Err (Faults k)) b h o f =
        let g : acts L' (o ∷ []) t ≡ Ends (Fault k) (spent 8 t) = then_on (L'.act o t) ∙ f ∙ ap (λ w. to temporaries q w (spent 8 t)) h in
        (spent 8 t, ap (λ d. did d (λ w. Next w)) g, K8)

    -- what is set on the first side alone
    drops : (q : ℕ) (u : Fact) (a : Answer Cell) → ((c : Cell) → a ≡ Ok c → T u c (t.cells q)) → ((n : ℕ) → a ≡ Err (Faults n) → ⊥)
        → DidAlike PP κ (with_target (Some q) u i) (to temporaries q a (spent 8 s)) (acts L' [] t)
    drops q u (Ok c) h f = (t, refl, set_left X x y frames F κ i (spent 8 s) t (timed_left X x y frames F κ i s t A 8) q u c (h c refl))
    drops q u (Err Strays) h f = strays [] 8
    drops q u (Err (Faults n)) h f = absurd (f n refl)

    -- ---- moves, steps, addresses

    moves : (q a : ℕ) → q < P.temps → a < P.temps → (u : Fact) → i a ≡ u → DidAlike PP κ (with_target (Some q) u i) (to temporaries q (Ok (s.cells a)) (spent 8 s)) (acts L' (if_plain u (MoveO q a)) t)
    moves q a lt la Plain e = sets q Plain lt (Ok (s.cells a)) (Ok (t.cells a)) (t.cells a, refl, told a Plain la e) (MoveO q a) refl
    moves q a lt la (Word n) e = sets q (Word n) lt (Ok (s.cells a)) (Ok (t.cells a)) (t.cells a, refl, told a (Word n) la e) (MoveO q a) refl
    moves q a lt la (Place k w) e = drops q (Place k w) (Ok (s.cells a)) (λ c h. subst (λ v. Points A.names s.world k w v) (ok_same (s.cells a) c h) (told a (Place k w) la e)) (ok_no_fault (s.cells a))
    moves q a lt la Any e = drops q Any (Ok (s.cells a)) (λ c h. tt) (ok_no_fault (s.cells a))

    stepped_place : (k w m : ℕ) (p n c : Cell) → Points A.names s.world k w p → n ≡ Num m → stepped p n ≡ Ok c → Points A.names s.world k (add w m) c
    stepped_place k w m Unwritten n c h e f = absurd (no (sym (ap (stepped Unwritten) e) ∙ f))
      where
        no : stepped Unwritten (Num m) ≡ Ok c → ⊥
        no g = cc
    stepped_place k w m (Num v) n c h e f = absurd h
    stepped_place k w m Null n c h e f = absurd h
    stepped_place k w m (Ptr o j) n c h e f =
        let g : Ptr o (add j m) ≡ c = ok_same (Ptr o (add j m)) c (sym (ap (stepped (Ptr o j)) e) ∙ f) in
        subst (λ v. Points A.names s.world k (add w m) v) g (ap (λ v. add v m) h.0, h.1, h.2)

    steps_plainly : (q p n : ℕ) → q < P.temps → p < P.temps → n < P.temps → IsPlain (i p) → IsPlain (i n) → DidAlike PP κ (with_target (Some q) Plain i) (to temporaries q (stepped (s.cells p) (s.cells n)) (spent 8 s)) (acts L' (StepO q p n ∷ []) t)
    steps_plainly q p n lt lp ln hp hn = sets q Plain lt (stepped (s.cells p) (s.cells n)) (stepped (t.cells p) (t.cells n)) (stepped_known N (s.cells p) (t.cells p) (s.cells n) (t.cells n) (plain_known p lp hp) (plain_known n ln hn)) (StepO q p n) refl

    drops_step : (q p n : ℕ) → DidAlike PP κ (with_target (Some q) Any i) (to temporaries q (stepped (s.cells p) (s.cells n)) (spent 8 s)) (acts L' [] t)
    drops_step q p n = drops q Any (stepped (s.cells p) (s.cells n)) (λ c h. tt) (step_no_fault (s.cells p) (s.cells n))

    steps : (q p n : ℕ) → q < P.temps → p < P.temps → n < P.temps → (u v : Fact) → i p ≡ u → i n ≡ v → IsStep u v
        → DidAlike PP κ (with_target (Some q) (step_fact u v) i) (to temporaries q (stepped (s.cells p) (s.cells n)) (spent 8 s)) (acts L' (if_plain (step_fact u v) (StepO q p n)) t)
    steps q p n lt lp ln Plain v e f g = steps_plainly q p n lt lp ln (subst IsPlain (sym e) tt) (subst IsPlain (sym f) g)
    steps q p n lt lp ln (Word m) v e f g = steps_plainly q p n lt lp ln (subst IsPlain (sym e) tt) (subst IsPlain (sym f) g)
    steps q p n lt lp ln (Place k w) (Word m) e f g = drops q (Place k (add w m)) (stepped (s.cells p) (s.cells n)) (λ c h. stepped_place k w m (s.cells p) (s.cells n) c (told p (Place k w) lp e) (told n (Word m) ln f).0 h) (step_no_fault (s.cells p) (s.cells n))
    steps q p n lt lp ln (Place k w) Plain e f g = drops_step q p n
    steps q p n lt lp ln (Place k w) (Place j v) e f g = drops_step q p n
    steps q p n lt lp ln (Place k w) Any e f g = drops_step q p n
    steps q p n lt lp ln Any v e f g = drops_step q p n

    local_away : (k : ℕ) → P.held k ≡ true → (l : Option ℕ) → local_object s.world.store.locals k ≡ l → (c : Cell) → first_cell l ≡ Ok c → Points A.names s.world k 0 c
    local_away k p None h c e = absurd (no e)
      where
        no : first_cell None ≡ Ok c → ⊥
        no g = cc
    local_away k p (Some o) h c e = subst (λ v. Points A.names s.world k 0 v) (ok_same (Ptr o 0) c e) (refl, (A.hidden k o p h).0, λ _. h)

    local_known : (l m : Option ℕ) → LocalKnown A.names l m → Answered (Known N) (first_cell l) (first_cell m)
    local_known None m h = tt
    local_known (Some o) m h = (Ptr h.0 0, ap first_cell h.2, (h.0, h.1, refl))

    locals_op : (q k : ℕ) → q < P.temps → k < count_of z κ.fn → (b : Bool) → P.held k ≡ b → DidAlike PP κ (with_target (Some q) (cond b (Place k 0) Plain) i) (to temporaries q (first_cell (local_object s.world.store.locals k)) (spent 8 s)) (acts L' (cond b [] (LocalO q k ∷ [])) t)
    locals_op q k lt lk true p = drops q (Place k 0) (first_cell (local_object s.world.store.locals k)) (λ c h. local_away k p (local_object s.world.store.locals k) refl c h) (first_no_fault (local_object s.world.store.locals k))
    locals_op q k lt lk false p = sets q Plain lt (first_cell (local_object s.world.store.locals k)) (first_cell (local_object t.world.store.locals k)) (local_known (local_object s.world.store.locals k) (local_object t.world.store.locals k) (A.locals k lk p)) (LocalO q k) refl

    -- ---- loads

    word_read : (k w : ℕ) → P.held k ≡ true → w < P.size k → (c : Cell) → Points A.names s.world k w c → Answered (Known N) (read xs c) (Ok (t.cells (P.variable k w)))
    word_read k w p lt Unwritten h = tt
    word_read k w p lt (Num n) h = absurd h
    word_read k w p lt Null h = absurd h
    word_read k w p lt (Ptr o j) h = at (object_at xs o).lives refl
      where
        at : (b : Bool) → (object_at xs o).lives ≡ b → Answered (Known (IsHere A.names)) (accessed 0 j (unless_refused (read_refused (object_at xs o) j) (cell_at (object_at xs o) j))) (Ok (t.cells (P.variable k w)))
        at true e =
            let H = A.holds k o p (h.2 e) e in
            let r : read_refused (object_at xs o) j ≡ None = ap (read_refused (object_at xs o)) h.0 ∙ open_read (object_at xs o) w e H.kind (subst (λ n. w < n) (sym H.long) lt) in
            subst (λ v. Answered (Known (IsHere A.names)) (accessed 0 j (unless_refused v (cell_at (object_at xs o) j))) (Ok (t.cells (P.variable k w)))) (sym r) (t.cells (P.variable k w), refl, subst (λ v. Known (IsHere A.names) (cell_at (object_at xs o) v) (t.cells (P.variable k w))) (sym h.0) (H.cell w lt))
        at false e = subst (λ v. Answered (Known (IsHere A.names)) (accessed 0 j (unless_refused v (cell_at (object_at xs o) j))) (Ok (t.cells (P.variable k w)))) (sym (dead_read (object_at xs o) j e)) tt

    loads_plainly : (q p : ℕ) → q < P.temps → p < P.temps → IsPlain (i p) → DidAlike PP κ (with_target (Some q) Plain i) (to temporaries q (read xs (s.cells p)) (spent 8 s)) (acts L' (LoadO q p ∷ []) t)
    loads_plainly q p lt lp h = sets q Plain lt (read xs (s.cells p)) (read ys (t.cells p)) (read_known N xs ys mem (s.cells p) (t.cells p) (plain_known p lp h)) (LoadO q p) refl

    loads : (q p : ℕ) → q < P.temps → p < P.temps → (u : Fact) → i p ≡ u → IsAccess P u → DidAlike PP κ (with_target (Some q) Plain i) (to temporaries q (read xs (s.cells p)) (spent 8 s)) (acts L' (by_place u (LoadO q p ∷ []) (λ k w. MoveO q (P.variable k w) ∷ [])) t)
    loads q p lt lp Plain e g = loads_plainly q p lt lp (subst IsPlain (sym e) tt)
    loads q p lt lp (Word n) e g = loads_plainly q p lt lp (subst IsPlain (sym e) tt)
    loads q p lt lp (Place k w) e g = sets q Plain lt (read xs (s.cells p)) (Ok (t.cells (P.variable k w))) (word_read k w g.0 g.1 (s.cells p) (told p (Place k w) lp e)) (MoveO q (P.variable k w)) refl
    loads q p lt lp Any e g = absurd g

    -- ---- stores

    no_fault : (k w : ℕ) → P.held k ≡ true → w < P.size k → (c v : Cell) (n : ℕ) → Points A.names s.world k w c → write xs c v ≡ Err (Faults n) → ⊥
    no_fault k w p lt Unwritten v n h e = cc
    no_fault k w p lt (Num m) v n h e = absurd h
    no_fault k w p lt Null v n h e = absurd h
    no_fault k w p lt (Ptr o j) v n h e = at (object_at xs o).lives refl
      where
        go : (r : Option Access) → write_refused (object_at xs o) j ≡ r → accessed 1 j (unless_refused r (set xs o (with_cell (object_at xs o) j v))) ≡ Err (Faults n)
        go r f = ap (λ q. accessed 1 j (unless_refused q (set xs o (with_cell (object_at xs o) j v)))) (sym f) ∙ e

        at : (b : Bool) → (object_at xs o).lives ≡ b → ⊥
        at true f = let H = A.holds k o p (h.2 f) f in no1 (go None (ap (write_refused (object_at xs o)) h.0 ∙ open_write (object_at xs o) w f H.kind (subst (λ m. w < m) (sym H.long) lt)))
          where
            no1 : accessed 1 j (unless_refused None (set xs o (with_cell (object_at xs o) j v))) ≡ Err (Faults n) → ⊥
            no1 g = cc
        at false f = no2 (go (Some Dead) (dead_write (object_at xs o) j f))
          where
            no2 : accessed 1 j (unless_refused (Some Dead) (set xs o (with_cell (object_at xs o) j v))) ≡ Err (Faults n) → ⊥
            no2 g = cc

    store_own : (p a : ℕ) → Known N (s.cells p) (t.cells p) → Known N (s.cells a) (t.cells a) → (r : Answer (List ObjectT)) → write xs (s.cells p) (s.cells a) ≡ r → DidAlike PP κ i (to_objects r (spent 8 s)) (acts L' (StoreO p a ∷ []) t)
    store_own p a kp ka (Ok zs) e =
        let W = write_ok xs (s.cells p) (s.cells a) zs e in
        let g = write_alike N xs ys zs mem (s.cells p) (t.cells p) (s.cells a) (t.cells a) kp W in
        let c1 = with_cell (object_at xs W.o) W.i (s.cells a) in
        let c2 = with_cell (object_at ys g.0) W.i (t.cells a) in
        let c = core_set opened κ A.names xs ys A.core W.o g.0 c1 c2 g.1 (twin_written N (object_at xs W.o) (object_at ys g.0) W.i (s.cells a) (t.cells a) (A.core.mem.twin W.o g.0 g.1) ka) in
        let m = objects_alive X x y frames F κ i (spent 8 s) (spent 8 t) A8 (set xs W.o c1) (set ys g.0 c2) c (set_length ys g.0 c2) (λ o k h. set_off xs W.o o c1 (λ f. away_not_here A.names o W.o k g.0 h g.1 (sym f))) in
        (in_world (on_store (with_objects (set ys g.0 c2)) (spend 8 t.world)) t, then_on (L'.act (StoreO p a) t) ∙ ap (λ q. to_objects q (spent 8 t)) g.2, subst (λ l. M κ i (in_world (on_store (with_objects l) (spend 8 s.world)) s) (in_world (on_store (with_objects (set ys g.0 c2)) (spend 8 t.world)) t)) (sym W.is) m)
    store_own p a kp ka (Err Strays) e = strays (StoreO p a ∷ []) 8
    store_own p a kp ka (Err (Faults n)) e =
        let g = write_err N xs ys mem (s.cells p) (t.cells p) (s.cells a) (t.cells a) (Faults n) kp e n refl in
        (spent 8 t, ap (λ d. did d (λ w. Next w)) (then_on (L'.act (StoreO p a) t) ∙ ap (λ q. to_objects q (spent 8 t)) g), K8)

    module _ (p a k w : ℕ) (kk : P.held k ≡ true) (lw : w < P.size k) (kp : Points A.names s.world k w (s.cells p)) (ka : Known N (s.cells a) (t.cells a)) (zs : List ObjectT) (W : Wrote xs (s.cells p) (s.cells a) zs) where
      abbrev c1 : ObjectT
      c1 = with_cell (object_at xs W.o) W.i (s.cells a)

      at : Points A.names s.world k w (Ptr W.o W.i)
      at = subst (λ c. Points A.names s.world k w c) W.at kp

      lives : (object_at xs W.o).lives ≡ true
      lives = lives_written (object_at xs W.o) W.i W.may

      mine : local_object s.world.store.locals k ≡ Some W.o
      mine = at.2 lives

      still : (o : ℕ) → (object_at (set xs W.o c1) o).lives ≡ true → (W.o ≡ o) ⊎ (W.o ≡ o → ⊥) → (object_at xs o).lives ≡ true
      still o l (inl f) = subst (λ q. (object_at xs q).lives ≡ true) f lives
      still o l (inr f) = ap (λ q. q.lives) (sym (set_off xs W.o o c1 f)) ∙ l

      new_is : object_at (set xs W.o c1) W.o ≡ c1
      new_is = set_at xs W.o c1 (subst (λ l. W.o < l) A.core.mem.long (away_in A.names W.o k at.1))

      abbrev cells : ℕ → Cell
      cells = put temporaries t.cells (P.variable k w) (t.cells a)

      long : length (object_at xs W.o).cells ≡ P.size k
      long = (A.holds k W.o kk mine lives).long

      word : (v : ℕ) → v < P.size k → (W.i ≡ v) ⊎ (W.i ≡ v → ⊥) → Known N (get_or (set (object_at xs W.o).cells W.i (s.cells a)) v Unwritten) (cells (P.variable k v))
      word v lv (inl f) =
          let b : cells (P.variable k v) ≡ t.cells a = ap (λ q. cells (P.variable k q)) (sym f ∙ at.0) ∙ put_on t.cells (P.variable k w) (t.cells a) in
          let c : get_or (set (object_at xs W.o).cells W.i (s.cells a)) v Unwritten ≡ s.cells a = ap (λ q. get_or (set (object_at xs W.o).cells W.i (s.cells a)) q Unwritten) (sym f) ∙ set_word (object_at xs W.o).cells W.i (s.cells a) (subst (λ n. W.i < n) (sym long) (subst (λ n. n < P.size k) (sym at.0) lw)) in
          subst (λ q. Known N q (cells (P.variable k v))) (sym c) (subst (λ q. Known N (s.cells a) q) (sym b) ka)
      word v lv (inr f) =
          let n : P.variable k v ≡ P.variable k w → ⊥ = λ e. f (at.0 ∙ sym (F.apart κ.fn k k v w kk kk lv lw e).1) in
          subst (λ q. Known N q (cells (P.variable k v))) (sym (set_other (object_at xs W.o).cells W.i v (s.cells a) f)) (subst (λ q. Known N (cell_at (object_at xs W.o) v) q) (sym (put_off t.cells (P.variable k w) (t.cells a) (P.variable k v) n)) ((A.holds k W.o kk mine lives).cell v lv))

      held : (j o : ℕ) → P.held j ≡ true → local_object s.world.store.locals j ≡ Some o → (object_at (set xs W.o c1) o).lives ≡ true → (W.o ≡ o) ⊎ (W.o ≡ o → ⊥) → Holds A.names (P.size j) (object_at (set xs W.o c1) o) (λ v. cells (P.variable j v))
      held j o h l v (inl f) =
          let e : k ≡ j = sym (away_same j k (sym (A.hidden j o h l).0 ∙ ap (name_at A.names) (sym f) ∙ at.1)) in
          subst (λ q. Holds A.names (P.size q) (object_at (set xs W.o c1) o) (λ u. cells (P.variable q u))) e (subst (λ u. Holds A.names (P.size k) u (λ q. cells (P.variable k q))) (sym (ap (object_at (set xs W.o c1)) (sym f) ∙ new_is)) (record {
            kind = (A.holds k W.o kk mine lives).kind;
            long = set_length (object_at xs W.o).cells W.i (s.cells a) ∙ long;
            cell = λ u lu. word u lu (decide W.i u);
          }))
      held j o h l v (inr f) =
          let b = set_off xs W.o o c1 f in
          let H = A.holds j o h l (ap (λ u. u.lives) (sym b) ∙ v) in
          let n : (u : ℕ) → u < P.size j → P.variable j u ≡ P.variable k w → ⊥ = λ u lu e. f (some_same W.o o (sym mine ∙ ap (local_object s.world.store.locals) (sym (F.apart κ.fn j k u w h kk lu lw e).0) ∙ l)) in
          subst (λ u. Holds A.names (P.size j) u (λ q. cells (P.variable j q))) (sym b) (record { kind = H.kind; long = H.long; cell = λ u lu. subst (λ q. Known N (cell_at (object_at xs o) u) q) (sym (put_off t.cells (P.variable k w) (t.cells a) (P.variable j u) (n u lu))) (H.cell u lu) })

      below : (q : ℕ) → q < P.temps → q ≡ P.variable k w → ⊥
      below q lt e = let g = F.above κ.fn k w kk lw in omega (arith, lt, e, g)

      stored : M κ i (in_world (on_store (with_objects zs) (spend 8 s.world)) s) (put_in temporaries (P.variable k w) (t.cells a) (spent 8 t))
      stored = subst (λ l. M κ i (in_world (on_store (with_objects l) (spend 8 s.world)) s) (put_in temporaries (P.variable k w) (t.cells a) (spent 8 t))) (sym W.is) (record {
        names = A.names;
        core = core_hide opened κ A.names xs ys A.core W.o k c1 at.1 (A.hidden k W.o kk mine).1;
        answers = A.answers;
        events = A.events;
        work = A8.work;
        fn = A.fn;
        fn' = A.fn';
        used = A.used;
        count = A.count;
        count' = A.count';
        known = λ q lt. subst (λ d. Tells A.names (on_store (with_objects (set xs W.o c1)) (spend 8 s.world)) (i q) (s.cells q) d) (sym (put_off t.cells (P.variable k w) (t.cells a) q (below q lt))) (tells_kept A.names A.names s.world (on_store (with_objects (set xs W.o c1)) (spend 8 s.world)) (i q) (s.cells q) (t.cells q) (λ h. h) (λ o j h. (h, λ l. (still o l (decide W.o o), λ g. g))) (A.known q lt));
        hidden = A.hidden;
        spare = A.spare;
        holds = λ j o h l v. held j o h l v (decide W.o o);
        locals = A.locals;
      })

    store_word : (p a k w : ℕ) → P.held k ≡ true → w < P.size k → Points A.names s.world k w (s.cells p) → Known N (s.cells a) (t.cells a) → (r : Answer (List ObjectT)) → write xs (s.cells p) (s.cells a) ≡ r → DidAlike PP κ i (to_objects r (spent 8 s)) (acts L' (MoveO (P.variable k w) a ∷ []) t)
    store_word p a k w kk lw kp ka (Ok zs) e = (put_in temporaries (P.variable k w) (t.cells a) (spent 8 t), refl, stored p a k w kk lw kp ka zs (write_ok xs (s.cells p) (s.cells a) zs e))
    store_word p a k w kk lw kp ka (Err Strays) e = strays (MoveO (P.variable k w) a ∷ []) 8
    store_word p a k w kk lw kp ka (Err (Faults n)) e = absurd (no_fault k w kk lw (s.cells p) (s.cells a) n kp e)

    stores : (p a : ℕ) → p < P.temps → a < P.temps → IsPlain (i a) → (u : Fact) → i p ≡ u → IsAccess P u → DidAlike PP κ i (to_objects (write xs (s.cells p) (s.cells a)) (spent 8 s)) (acts L' (by_place u (StoreO p a ∷ []) (λ k w. MoveO (P.variable k w) a ∷ [])) t)
    stores p a lp la ha Plain e g = store_own p a (plain_known p lp (subst IsPlain (sym e) tt)) (plain_known a la ha) (write xs (s.cells p) (s.cells a)) refl
    stores p a lp la ha (Word n) e g = store_own p a (plain_known p lp (subst IsPlain (sym e) tt)) (plain_known a la ha) (write xs (s.cells p) (s.cells a)) refl
    stores p a lp la ha (Place k w) e g = store_word p a k w g.0 g.1 (told p (Place k w) lp e) (plain_known a la ha) (write xs (s.cells p) (s.cells a)) refl
    stores p a lp la ha Any e g = absurd g

    -- ---- ports

    outs : (port a : ℕ) (r r' : Answer ℕ) → Answered {A = ℕ} {B = ℕ} Same r r' → word_of (t.cells a) ≡ r' → DidAlike PP κ i (output port r (spent 8 s)) (acts L' (OutO port a ∷ []) t)
    outs port a (Ok c) r' h e =
        let g : acts L' (OutO port a ∷ []) t ≡ On (in_world (happened (event.Out port c) (spend 8 t.world)) t) = then_on (L'.act (OutO port a) t) ∙ ap (λ l. output port l (spent 8 t)) (e ∙ h.1 ∙ ap Ok h.2) in
        (in_world (happened (event.Out port c) (spend 8 t.world)) t, g, asked X x y frames F κ i (spent 8 s) (spent 8 t) A8 s.world.store.answers t.world.store.answers (s.world.events ++ event.Out port c ∷ []) (t.world.events ++ event.Out port c ∷ []) A.answers (ap (λ l. l ++ event.Out port c ∷ []) A.events))
    outs port a (Err Strays) r' h e = strays (OutO port a ∷ []) 8
    outs port a (Err (Faults n)) r' h e =
        let g : acts L' (OutO port a ∷ []) t ≡ Ends (Fault n) (spent 8 t) = then_on (L'.act (OutO port a) t) ∙ ap (λ l. output port l (spent 8 t)) (e ∙ h) in
        (spent 8 t, ap (λ d. did d (λ w. Next w)) g, K8)

    ins : (q port : ℕ) → q < P.temps → (bs : List ℕ) → s.world.store.answers ≡ bs → DidAlike PP κ (with_target (Some q) Plain i) (input temporaries q port bs (spent 8 s)) (acts L' (InO q port ∷ []) t)
    ins q port lt [] e = (spent 8 t, ap (λ d. did d (λ w. Next w)) (then_on (L'.act (InO q port) t) ∙ ap (λ l. input temporaries q port l (spent 8 t)) (A.answers ∙ e)), K8)
    ins q port lt (c ∷ bs) e =
        let m : M κ i (in_world (answered port c bs (spend 8 s.world)) s) (in_world (answered port c bs (spend 8 t.world)) t) = asked X x y frames F κ i (spent 8 s) (spent 8 t) A8 bs bs (s.world.events ++ event.In port c ∷ []) (t.world.events ++ event.In port c ∷ []) refl (ap (λ l. l ++ event.In port c ∷ []) A.events) in
        (put_in temporaries q (Num c) (in_world (answered port c bs (spend 8 t.world)) t), then_on (L'.act (InO q port) t) ∙ ap (λ l. input temporaries q port l (spent 8 t)) (A.answers ∙ e), set_alive X x y frames F κ i (in_world (answered port c bs (spend 8 s.world)) s) (in_world (answered port c bs (spend 8 t.world)) t) m q Plain (Num c) (Num c) lt refl)

    -- ---- locals

    closed : (l : Option ℕ) (os : List ObjectT) (o : ℕ) → l ≡ Some o → (object_at (end_local l os) o).lives ≡ false
    closed l os o e = subst (λ w. (object_at (end_local w os) o).lives ≡ false) (sym e) (closed_dead o os)

    freshes : (k : ℕ) → k < count_of z κ.fn → (b : Bool) → P.held k ≡ b → DidAlike PP κ i (On (in_world (on_store (fresh z k) (spend 0 s.world)) s)) (acts L' (FreshO k ∷ []) t)
    freshes k lt true p =
        let c = end_held X x y frames F κ i (spent 0 s) (spent 0 t) (timed X x y frames F κ i s t A 0 0 (omega arith)) k p in
        (in_world (on_store (fresh z' k) (spend 0 t.world)) t, refl, new_held X x y frames F κ i (in_world (on_store (end_one k) (spend 0 s.world)) s) (in_world (on_store (end_one k) (spend 0 t.world)) t) c k (length xs) (length ys) p (sym (close_length (local_object s.world.store.locals k) xs)) (sym (close_length (local_object t.world.store.locals k) ys)) (λ o e. closed (local_object s.world.store.locals k) xs o e))
    freshes k lt false p =
        let c = end_both X x y frames F κ i (spent 0 s) (spent 0 t) (timed X x y frames F κ i s t A 0 0 (omega arith)) k lt p in
        (in_world (on_store (fresh z' k) (spend 0 t.world)) t, refl, new_here X x y frames F κ i (in_world (on_store (end_one k) (spend 0 s.world)) s) (in_world (on_store (end_one k) (spend 0 t.world)) t) c k (length xs) (length ys) lt p (sym (close_length (local_object s.world.store.locals k) xs)) (sym (close_length (local_object t.world.store.locals k) ys)))

    ends : (k : ℕ) → k < count_of z κ.fn → (b : Bool) → P.held k ≡ b → DidAlike PP κ i (On (in_world (on_store (end_one k) (spend 0 s.world)) s)) (acts L' (EndO k ∷ []) t)
    ends k lt true p = (in_world (on_store (end_one k) (spend 0 t.world)) t, refl, end_held X x y frames F κ i (spent 0 s) (spent 0 t) (timed X x y frames F κ i s t A 0 0 (omega arith)) k p)
    ends k lt false p = (in_world (on_store (end_one k) (spend 0 t.world)) t, refl, end_both X x y frames F κ i (spent 0 s) (spent 0 t) (timed X x y frames F κ i s t A 0 0 (omega arith)) k lt p)

    card_known : Answered (Known N) (Ok (Ptr z.card 0)) (Ok (Ptr z'.card 0))
    card_known = (Ptr z'.card 0, refl, (z.card, A.core.fixed z.card (omega arith), ap (λ l. Ptr (length l + length y.literals) 0) F.globals ∙ ap (λ l. Ptr (length x.globals + length l) 0) F.literals))

    literal_known : (k : ℕ) → k < length x.literals → Answered (Known N) (Ok (Ptr (z.first_literal + k) 0)) (Ok (Ptr (z'.first_literal + k) 0))
    literal_known k lt = (Ptr (z'.first_literal + k) 0, refl, (z.first_literal + k, A.core.fixed (z.first_literal + k) (omega (arith, lt)), ap (λ l. Ptr (length l + k) 0) F.globals))

    -- every operation, with the facts behind it
    behind : (o : OpT ℕ) → IsFine P (length x.globals) (length x.literals) (count_of z κ.fn) i o → AllNamed P (uses o) → AllNamed P (maybe (target o))
        → DidAlike PP κ (facts_behind P i o) ((over_worlds temporaries x frames).act o s) (acts L' (replaced_op P i o) t)
    behind (ConstO q n) g u m = sets q (Word n) m.0 (Ok (Num n)) (Ok (Num n)) (Num n, refl, (refl, refl)) (ConstO q n) refl
    behind (NullO q) g u m = sets q Plain m.0 (Ok Null) (Ok Null) (Null, refl, refl) (NullO q) refl
    behind (MoveO q a) g u m = moves q a m.0 u.0 (i a) refl
    behind (OneO o q a) g u m = sets q Plain m.0 (one_word o (s.cells a)) (one_word o (t.cells a)) (one_known N o (s.cells a) (t.cells a) (plain_known a u.0 g)) (OneO o q a) refl
    behind (TwoO o q a b) g u m = sets q Plain m.0 (two_words o (s.cells a) (s.cells b)) (two_words o (t.cells a) (t.cells b)) (two_known N o (s.cells a) (s.cells b) (t.cells a) (t.cells b) (plain_known a u.0 g.0) (plain_known b u.1.0 g.1)) (TwoO o q a b) refl
    behind (GlobalO q k) g u m = sets q Plain m.0 (Ok (Ptr k 0)) (Ok (Ptr k 0)) (Ptr k 0, refl, (k, A.core.fixed k (omega (arith, g)), refl)) (GlobalO q k) refl
    behind (LocalO q k) g u m = locals_op q k m.0 g (P.held k) refl
    behind (LiteralO q k) g u m = sets q Plain m.0 (Ok (Ptr (z.first_literal + k) 0)) (Ok (Ptr (z'.first_literal + k) 0)) (literal_known k g) (LiteralO q k) refl
    behind (CardO q) g u m = sets q Plain m.0 (Ok (Ptr z.card 0)) (Ok (Ptr z'.card 0)) card_known (CardO q) refl
    behind (StepO q p n) g u m = steps q p n m.0 u.0 u.1.0 (i p) (i n) refl refl g
    behind (ApartO q a b) g u m = sets q Plain m.0 (distance xs (s.cells a) (s.cells b)) (distance ys (t.cells a) (t.cells b)) (distance_known N xs ys mem (s.cells a) (s.cells b) (t.cells a) (t.cells b) (plain_known a u.0 g.0) (plain_known b u.1.0 g.1)) (ApartO q a b) refl
    behind (PtrTestO o q a b) g u m = sets q Plain m.0 (pointers_tested o xs (s.cells a) (s.cells b)) (pointers_tested o ys (t.cells a) (t.cells b)) (tested_known N xs ys mem o (s.cells a) (s.cells b) (t.cells a) (t.cells b) (plain_known a u.0 g.0) (plain_known b u.1.0 g.1)) (PtrTestO o q a b) refl
    behind (LoadO q p) g u m = loads q p m.0 u.0 (i p) refl g
    behind (StoreO p a) g u m = stores p a u.0 u.1.0 g.1 (i p) refl g.0
    behind (FreshO k) g u m = freshes k g (P.held k) refl
    behind (EndO k) g u m = ends k g (P.held k) refl
    behind (InO q port) g u m = ins q port m.0 s.world.store.answers refl
    behind (OutO port a) g u m = outs port a (word_of (s.cells a)) (word_of (t.cells a)) (word_known N (s.cells a) (t.cells a) (plain_known a u.0 g)) refl
    behind WaitO g u m = (in_world (happened event.Wait (spend 8 t.world)) t, refl, asked X x y frames F κ i (spent 8 s) (spent 8 t) A8 s.world.store.answers t.world.store.answers (s.world.events ++ event.Wait ∷ []) (t.world.events ++ event.Wait ∷ []) A.answers (ap (λ l. l ++ event.Wait ∷ []) A.events))
    behind HaltO g u m = (spent 8 t, refl, K8)

    pub each : (o : OpT ℕ) (k : ℕ → Fact) → IsFine P (length x.globals) (length x.literals) (count_of z κ.fn) i o → AllNamed P (uses o) → AllNamed P (maybe (target o)) → Follows (facts_behind P i o) k
        → DidAlike PP κ k ((over_worlds temporaries x frames).act o s) (acts L' (replaced_op P i o) t)
    each o k g u m f = follow_did κ (facts_behind P i o) k ((over_worlds temporaries x frames).act o s) (acts L' (replaced_op P i o) t) f (behind o g u m)
