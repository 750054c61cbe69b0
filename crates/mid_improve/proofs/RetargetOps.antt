-- Each operation does the same where its target lands elsewhere, and so does the move that goes the other way.
use Rattle.std.proofs.Common.{◌≡◌, ℕ, ◌+◌, List, [], ◌∷◌, Option, Some, None, Ok, Err, refl, sym, ap, ◌∙◌, subst}
use Rattle.kit_base.specs.declared.event.Event.TheVariants as event
use Rattle.obj_mem.specs.declared.cell.Cell.{Cell}
use Rattle.obj_mem.specs.declared.cell.Cell.TheVariants.{Num, Ptr, Null}
use Rattle.obj_mem.specs.declared.refusal.Refusal.TheVariants.{Strays, Faults}
use Rattle.obj_mem.specs.Objects.{ObjectT}
use Rattle.obj_mem.specs.Stores.{Sizes, with_objects, with_answers, local_object, fresh, end_one}
use Rattle.obj_mem.specs.Worlds.{World, on_store, spend, happened, answered}
use Rattle.obj_mem.specs.Queries.{Answer, word_of, read, write, first_cell}
use Rattle.obj_mem.specs.Runs.{Halted}
use Rattle.mid_code.specs.Code.{OpT, ConstO, NullO, MoveO, OneO, TwoO, GlobalO, LocalO, LiteralO, CardO, StepO, ApartO, PtrTestO, LoadO, StoreO, FreshO, EndO, InO, OutO, WaitO, HaltO, CodeT, target}
use Rattle.mid_code.specs.Meaning.{Did, On, Ends, Lang}
use Rattle.mid_code.specs.States.{State, temporaries, put_in, one_word, two_words, stepped, distance, pointers_tested, to, in_world, to_objects, input, output, spent, over_worlds, sizes_of}
use Rattle.mid_code.specs.inner.Passing.{acts, Prefix, Pass, DidAlike}
use Rattle.mid_code.proofs.More.{all_of}
use Rattle.mid_improve.specs.inner.Retarget.{Turn, op_to}
use Rattle.mid_improve.proofs.SweepPass.{SameWorlds, worlds_spend, worlds_store, worlds_happened}
use Rattle.mid_improve.proofs.SweepOps.{then_on}
use Rattle.mid_improve.proofs.RetargetPass.{Agree, world_agrees, spent_agrees, LandsAt, Lands, put_lands, move_agrees, Turns, lands, turns, retargeting}

module _ (x y : CodeT ℕ) (frames : List ℕ) (sizes : sizes_of y frames ≡ sizes_of x frames) where
  abbrev L : Lang ℕ
  L = over_worlds temporaries x frames

  abbrev L' : Lang ℕ
  L' = over_worlds temporaries y frames

  abbrev PP : Pass L L'
  PP = retargeting x y frames

  abbrev z : Sizes
  z = sizes_of x frames

  abbrev z' : Sizes
  z' = sizes_of y frames

  module _ (f : Option ℕ) (s t : State ℕ) (A : Agree None s t) where
    abbrev Goes : Turn → Did (State ℕ) → Did (State ℕ) → Type 0
    Goes k d d' = DidAlike PP f k d d'

    same_events : Prefix s.world.events t.world.events
    same_events = subst (Prefix s.world.events) (sym A.worlds.events) (all_of s.world.events)

    spent_same : (n : ℕ) → SameWorlds (spend n s.world) (spend n t.world)
    spent_same n = worlds_spend s.world t.world n A.worlds

    one : (o : OpT ℕ) (k : Turn) (d d' : Did (State ℕ)) → L'.act o t ≡ d' → Goes k d d' → Goes k d (acts L' (o ∷ []) t)
    one o k d d' e g = subst (Goes k d) (sym (then_on (L'.act o t) ∙ e)) g

    -- a target takes what is answered
    answer : (q u n : ℕ) (k : Turn) (a : Answer Cell) → LandsAt q u k → Goes k (to temporaries q a (spent n s)) (to temporaries u a (spent n t))
    answer q u n k (Ok c) l = (put_in temporaries u c (spent n t), refl, put_lands (spent n s) (spent n t) (spent_agrees None s t A n) q u k c c l refl)
    answer q u n k (Err Strays) l = same_events
    answer q u n k (Err (Faults m)) l = (spent n t, refl, spent_same n)

    takes_it : (q u : ℕ) (k : Turn) (o : OpT ℕ) (a b : Answer Cell) → LandsAt q u k → a ≡ b → L'.act o t ≡ to temporaries u b (spent 8 t) → Goes k (to temporaries q a (spent 8 s)) (acts L' (o ∷ []) t)
    takes_it q u k o a b l e g =
        one o k (to temporaries q a (spent 8 s)) (to temporaries u b (spent 8 t)) g
        (subst (λ c. Goes k (to temporaries q a (spent 8 s)) (to temporaries u c (spent 8 t))) e (answer q u 8 k a l))

    world_goes : (k : Turn) (v w : World) → k ≡ None → SameWorlds v w → Goes k (On (in_world v s)) (On (in_world w t))
    world_goes k v w e b = subst (λ j. Goes j (On (in_world v s)) (On (in_world w t))) (sym e) (in_world w t, refl, world_agrees None s t A v w b)

    object : (k : Turn) (a : Answer (List ObjectT)) → k ≡ None → Goes k (to_objects a (spent 8 s)) (to_objects a (spent 8 t))
    object k (Ok os) e = world_goes k (on_store (with_objects os) (spend 8 s.world)) (on_store (with_objects os) (spend 8 t.world)) e (worlds_store (spend 8 s.world) (spend 8 t.world) (with_objects os) (with_objects os) refl (spent_same 8))
    object k (Err Strays) e = same_events
    object k (Err (Faults m)) e = (spent 8 t, refl, spent_same 8)

    objects : (k : Turn) (a b : Answer (List ObjectT)) → k ≡ None → a ≡ b → Goes k (to_objects a (spent 8 s)) (to_objects b (spent 8 t))
    objects k a b n e = subst (λ c. Goes k (to_objects a (spent 8 s)) (to_objects c (spent 8 t))) e (object k a n)

    asked : (q u port : ℕ) (k : Turn) (words : List ℕ) → LandsAt q u k → Goes k (input temporaries q port words (spent 8 s)) (input temporaries u port words (spent 8 t))
    asked q u port k [] l = (spent 8 t, refl, spent_same 8)
    asked q u port k (a ∷ words) l =
        let v = answered port a words (spend 8 s.world) in
        let w = answered port a words (spend 8 t.world) in
        let b : SameWorlds v w = worlds_happened (on_store (with_answers words) (spend 8 s.world)) (on_store (with_answers words) (spend 8 t.world)) (event.In port a) (worlds_store (spend 8 s.world) (spend 8 t.world) (with_answers words) (with_answers words) refl (spent_same 8)) in
        (put_in temporaries u (Num a) (in_world w t), refl, put_lands (in_world v s) (in_world w t) (world_agrees None s t A v w b) q u k (Num a) (Num a) l refl)

    put_out : (k : Turn) (port : ℕ) (a : Answer ℕ) → k ≡ None → Goes k (output port a (spent 8 s)) (output port a (spent 8 t))
    put_out k port (Ok a) e = world_goes k (happened (event.Out port a) (spend 8 s.world)) (happened (event.Out port a) (spend 8 t.world)) e (worlds_happened (spend 8 s.world) (spend 8 t.world) (event.Out port a) (spent_same 8))
    put_out k port (Err Strays) e = same_events
    put_out k port (Err (Faults m)) e = (spent 8 t, refl, spent_same 8)

    abbrev xs : List ObjectT
    xs = s.world.store.objects

    abbrev ys : List ObjectT
    ys = t.world.store.objects

    same_objects : xs ≡ ys
    same_objects = sym (ap (λ u. u.objects) A.worlds.store)

    same : (a : ℕ) → s.cells a ≡ t.cells a
    same a = A.cells a refl

    abbrev Does : OpT ℕ → OpT ℕ → Turn → Type 0
    Does o p k = Goes k (L.act o s) (acts L' (p ∷ []) t)

    does : (o : OpT ℕ) (u : Option ℕ) (k : Turn) → Lands (target o) u k → Does o (op_to u o) k
    does (ConstO q n) None k l = absurd l
    does (ConstO q n) (Some u) k l = takes_it q u k (ConstO u n) (Ok (Num n)) (Ok (Num n)) l refl refl
    does (NullO q) None k l = absurd l
    does (NullO q) (Some u) k l = takes_it q u k (NullO u) (Ok Null) (Ok Null) l refl refl
    does (MoveO q a) None k l = absurd l
    does (MoveO q a) (Some u) k l = takes_it q u k (MoveO u a) (Ok (s.cells a)) (Ok (t.cells a)) l (ap Ok (same a)) refl
    does (OneO o q a) None k l = absurd l
    does (OneO o q a) (Some u) k l = takes_it q u k (OneO o u a) (one_word o (s.cells a)) (one_word o (t.cells a)) l (ap (one_word o) (same a)) refl
    does (TwoO o q a b) None k l = absurd l
    does (TwoO o q a b) (Some u) k l = let c = same a in let d = same b in takes_it q u k (TwoO o u a b) (two_words o (s.cells a) (s.cells b)) (two_words o (t.cells a) (t.cells b)) l (λ j. two_words o (c j) (d j)) refl
    does (GlobalO q n) None k l = absurd l
    does (GlobalO q n) (Some u) k l = takes_it q u k (GlobalO u n) (Ok (Ptr n 0)) (Ok (Ptr n 0)) l refl refl
    does (LocalO q n) None k l = absurd l
    does (LocalO q n) (Some u) k l = takes_it q u k (LocalO u n) (first_cell (local_object s.world.store.locals n)) (first_cell (local_object t.world.store.locals n)) l (sym (ap (λ w. first_cell (local_object w.locals n)) A.worlds.store)) refl
    does (LiteralO q n) None k l = absurd l
    does (LiteralO q n) (Some u) k l = takes_it q u k (LiteralO u n) (Ok (Ptr (z.first_literal + n) 0)) (Ok (Ptr (z'.first_literal + n) 0)) l (sym (ap (λ w. Ok (Ptr (w.first_literal + n) 0)) sizes)) refl
    does (CardO q) None k l = absurd l
    does (CardO q) (Some u) k l = takes_it q u k (CardO u) (Ok (Ptr z.card 0)) (Ok (Ptr z'.card 0)) l (sym (ap (λ w. Ok (Ptr w.card 0)) sizes)) refl
    does (StepO q a b) None k l = absurd l
    does (StepO q a b) (Some u) k l = let c = same a in let d = same b in takes_it q u k (StepO u a b) (stepped (s.cells a) (s.cells b)) (stepped (t.cells a) (t.cells b)) l (λ j. stepped (c j) (d j)) refl
    does (ApartO q a b) None k l = absurd l
    does (ApartO q a b) (Some u) k l = let c = same a in let d = same b in let e = same_objects in takes_it q u k (ApartO u a b) (distance xs (s.cells a) (s.cells b)) (distance ys (t.cells a) (t.cells b)) l (λ j. distance (e j) (c j) (d j)) refl
    does (PtrTestO o q a b) None k l = absurd l
    does (PtrTestO o q a b) (Some u) k l = let c = same a in let d = same b in let e = same_objects in takes_it q u k (PtrTestO o u a b) (pointers_tested o xs (s.cells a) (s.cells b)) (pointers_tested o ys (t.cells a) (t.cells b)) l (λ j. pointers_tested o (e j) (c j) (d j)) refl
    does (LoadO q p) None k l = absurd l
    does (LoadO q p) (Some u) k l = let c = same p in let e = same_objects in takes_it q u k (LoadO u p) (read xs (s.cells p)) (read ys (t.cells p)) l (λ j. read (e j) (c j)) refl
    does (StoreO p a) None k l = let c = same p in let d = same a in let e = same_objects in one (StoreO p a) k (to_objects (write xs (s.cells p) (s.cells a)) (spent 8 s)) (to_objects (write ys (t.cells p) (t.cells a)) (spent 8 t)) refl (objects k (write xs (s.cells p) (s.cells a)) (write ys (t.cells p) (t.cells a)) l (λ j. write (e j) (c j) (d j)))
    does (StoreO p a) (Some u) k l = absurd l
    does (FreshO n) None k l = one (FreshO n) k (On (in_world (on_store (fresh z n) (spend 0 s.world)) s)) (On (in_world (on_store (fresh z' n) (spend 0 t.world)) t)) refl (world_goes k (on_store (fresh z n) (spend 0 s.world)) (on_store (fresh z' n) (spend 0 t.world)) l (worlds_store (spend 0 s.world) (spend 0 t.world) (fresh z n) (fresh z' n) (sym (ap (λ w. fresh w n) sizes)) (spent_same 0)))
    does (FreshO n) (Some u) k l = absurd l
    does (EndO n) None k l = one (EndO n) k (On (in_world (on_store (end_one n) (spend 0 s.world)) s)) (On (in_world (on_store (end_one n) (spend 0 t.world)) t)) refl (world_goes k (on_store (end_one n) (spend 0 s.world)) (on_store (end_one n) (spend 0 t.world)) l (worlds_store (spend 0 s.world) (spend 0 t.world) (end_one n) (end_one n) refl (spent_same 0)))
    does (EndO n) (Some u) k l = absurd l
    does (InO q port) None k l = absurd l
    does (InO q port) (Some u) k l = one (InO u port) k (input temporaries q port s.world.store.answers (spent 8 s)) (input temporaries u port s.world.store.answers (spent 8 t)) (ap (λ w. input temporaries u port w.answers (spent 8 t)) A.worlds.store) (asked q u port k s.world.store.answers l)
    does (OutO port a) None k l = one (OutO port a) k (output port (word_of (s.cells a)) (spent 8 s)) (output port (word_of (s.cells a)) (spent 8 t)) (ap (λ c. output port (word_of c) (spent 8 t)) (sym (same a))) (put_out k port (word_of (s.cells a)) l)
    does (OutO port a) (Some u) k l = absurd l
    does WaitO None k l = one WaitO k (On (in_world (happened event.Wait (spend 8 s.world)) s)) (On (in_world (happened event.Wait (spend 8 t.world)) t)) refl (world_goes k (happened event.Wait (spend 8 s.world)) (happened event.Wait (spend 8 t.world)) l (worlds_happened (spend 8 s.world) (spend 8 t.world) event.Wait (spent_same 8)))
    does WaitO (Some u) k l = absurd l
    does HaltO None k l = one HaltO k (Ends Halted (spent 8 s)) (Ends Halted (spent 8 t)) refl (spent 8 t, refl, spent_same 8)
    does HaltO (Some u) k l = absurd l

  -- the move, and the one that goes the other way
  module _ (f : Option ℕ) (q u : ℕ) (s t : State ℕ) (A : Agree (Some (q, u)) s t) where
    moves : DidAlike PP f None (L.act (MoveO u q) s) (acts L' (MoveO q u ∷ []) t)
    moves = (put_in temporaries q (t.cells u) (spent 8 t), refl, move_agrees (spent 8 s) (spent 8 t) q u (spent_agrees (Some (q, u)) s t A 8))

  pub each : (f : Option ℕ) (h k : Turn) (o : OpT ℕ) (ps : List (OpT ℕ)) (s t : State ℕ) → Turns h o ps k → Agree h s t → DidAlike PP f k (L.act o s) (acts L' ps t)
  each f h k o ps s t (lands n u e l) A = subst (λ qs. DidAlike PP f k (L.act o s) (acts L' qs t)) (sym e) (does f s t (subst (λ j. Agree j s t) n A) o u k l)
  each f h k o ps s t (turns q u n m e c) A =
      subst (λ j. DidAlike PP f j (L.act o s) (acts L' ps t)) (sym c)
      (subst (λ qs. DidAlike PP f None (L.act o s) (acts L' qs t)) (sym e)
      (subst (λ p. DidAlike PP f None (L.act p s) (acts L' (MoveO q u ∷ []) t)) (sym m) (moves f q u s t (subst (λ j. Agree j s t) n A))))
