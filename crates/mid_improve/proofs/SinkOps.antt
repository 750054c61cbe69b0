-- Each operation does the same while another one is held back, and so where that is done at last.
use Rattle.std.proofs.Common.{◌≡◌, ℕ, ◌+◌, Bool, true, false, not, ◌&&◌, eqb, List, [], ◌∷◌, Option, Some, None, Ok, Err, refl, sym, ap, ◌∙◌, subst, arith}
use Rattle.std.proofs.lemmas.Bool.{false≢true, eqb-true}
use Rattle.std.specs.List.{list_all}
use Rattle.kit_base.specs.declared.event.Event.TheVariants as event
use Rattle.obj_mem.specs.declared.cell.Cell.{Cell}
use Rattle.obj_mem.specs.declared.cell.Cell.TheVariants.{Num, Ptr, Null}
use Rattle.obj_mem.specs.declared.refusal.Refusal.TheVariants.{Strays, Faults}
use Rattle.obj_mem.specs.Objects.{ObjectT}
use Rattle.obj_mem.specs.Stores.{Sizes, with_objects, with_answers, local_object, fresh, end_one}
use Rattle.obj_mem.specs.Worlds.{World, on_store, spend, happened, answered}
use Rattle.obj_mem.specs.Queries.{Answer, word_of, read, write, first_cell}
use Rattle.obj_mem.specs.Runs.{Halted}
use Rattle.mid_code.specs.Code.{OpT, ConstO, NullO, MoveO, OneO, TwoO, GlobalO, LocalO, LiteralO, CardO, StepO, ApartO, PtrTestO, LoadO, StoreO, FreshO, EndO, InO, OutO, WaitO, HaltO, CodeT, uses, target, maybe}
use Rattle.mid_code.specs.Meaning.{Did, On, Ends, Lang}
use Rattle.mid_code.specs.States.{State, temporaries, put, put_in, one_word, two_words, stepped, distance, pointers_tested, to, in_world, to_objects, input, output, spent, over_worlds, sizes_of}
use Rattle.mid_code.specs.inner.Passing.{acts, Prefix, Pass, DidAlike}
use Rattle.mid_code.proofs.More.{all_of}
use Rattle.mid_improve.specs.declared.sinking.Walk.{Walk}
use Rattle.mid_improve.specs.inner.Sinking.{Held, hides, fixes, is_apart}
use Rattle.mid_improve.proofs.Tabled.{both}
use Rattle.mid_improve.proofs.SweepPass.{SameWorlds, put_off}
use Rattle.mid_improve.proofs.SweepOps.{then_on}
use Rattle.mid_improve.proofs.SinkPass.{LessWorlds, put_on, less_same, less_spend, less_store, less_happened, held_weight, Holds, Agree, world_agrees, spent_agrees, put_agrees, Waits, sinking}

off : (x : Bool) → not x ≡ true → x ≡ false
off true e = absurd (false≢true e)
off false e = refl

-- nothing is hidden where none is held
all_there : (qs : List ℕ) → list_all (λ q. not (hides None q)) qs ≡ true
all_there [] = refl
all_there (q ∷ qs) = all_there qs

all_open : (qs : List ℕ) → list_all (λ q. not (fixes None q)) qs ≡ true
all_open [] = refl
all_open (q ∷ qs) = all_open qs

pub none_apart : (o : OpT ℕ) → is_apart None o ≡ true
none_apart o = λ i. all_there (uses o) i && all_open (maybe (target o)) i

-- an address is made or the run strays
no_fault : (c d : Cell) (m : ℕ) → stepped c d ≡ Err (Faults m) → ⊥
no_fault (Ptr o i) (Num n) m e = cc
no_fault _ (Num n) m e = cc
no_fault _ _ m e = cc

module _ (W : Walk) (x y : CodeT ℕ) (frames : List ℕ) (sizes : sizes_of y frames ≡ sizes_of x frames) where
  abbrev L : Lang ℕ
  L = over_worlds temporaries x frames

  abbrev L' : Lang ℕ
  L' = over_worlds temporaries y frames

  abbrev PP : Pass L L'
  PP = sinking W x y frames

  abbrev z : Sizes
  z = sizes_of x frames

  abbrev z' : Sizes
  z' = sizes_of y frames

  module _ (f : Option ℕ) (h : Held) (s t : State ℕ) (A : Agree h s t) where
    abbrev Goes : Did (State ℕ) → Did (State ℕ) → Type 0
    Goes d d' = DidAlike PP f h d d'

    same_events : Prefix s.world.events t.world.events
    same_events = subst (Prefix s.world.events) (sym A.worlds.events) (all_of s.world.events)

    spent_less : (n : ℕ) → LessWorlds (held_weight h) (spend n s.world) (spend n t.world)
    spent_less n = less_spend (held_weight h) s.world t.world n A.worlds

    spent_same : (n : ℕ) → SameWorlds (spend n s.world) (spend n t.world)
    spent_same n = less_same (held_weight h) (spend n s.world) (spend n t.world) (spent_less n)

    one : (o : OpT ℕ) (d d' : Did (State ℕ)) → L'.act o t ≡ d' → Goes d d' → Goes d (acts L' (o ∷ []) t)
    one o d d' e k = subst (Goes d) (sym (then_on (L'.act o t) ∙ e)) k

    -- a target takes what is answered
    answer : (q n : ℕ) (a : Answer Cell) → fixes h q ≡ false → Goes (to temporaries q a (spent n s)) (to temporaries q a (spent n t))
    answer q n (Ok c) o = (put_in temporaries q c (spent n t), refl, put_agrees h (spent n s) (spent n t) (spent_agrees h s t A n) q c c o refl)
    answer q n (Err Strays) o = same_events
    answer q n (Err (Faults m)) o = (spent n t, refl, spent_same n)

    takes_it : (q : ℕ) (o : OpT ℕ) (a b : Answer Cell) → list_all (λ q. not (fixes h q)) (q ∷ []) ≡ true → a ≡ b → L'.act o t ≡ to temporaries q b (spent 8 t) → Goes (to temporaries q a (spent 8 s)) (acts L' (o ∷ []) t)
    takes_it q o a b there e k =
        one o (to temporaries q a (spent 8 s)) (to temporaries q b (spent 8 t)) k
        (subst (λ c. Goes (to temporaries q a (spent 8 s)) (to temporaries q c (spent 8 t))) e (answer q 8 a (off (fixes h q) (both (not (fixes h q)) true there).0)))

    world_goes : (v w : World) → LessWorlds (held_weight h) v w → Goes (On (in_world v s)) (On (in_world w t))
    world_goes v w k = (in_world w t, refl, world_agrees h s t A v w k)

    object : (a : Answer (List ObjectT)) → Goes (to_objects a (spent 8 s)) (to_objects a (spent 8 t))
    object (Ok os) = world_goes (on_store (with_objects os) (spend 8 s.world)) (on_store (with_objects os) (spend 8 t.world)) (less_store (held_weight h) (spend 8 s.world) (spend 8 t.world) (with_objects os) (with_objects os) refl (spent_less 8))
    object (Err Strays) = same_events
    object (Err (Faults m)) = (spent 8 t, refl, spent_same 8)

    objects : (a b : Answer (List ObjectT)) → a ≡ b → Goes (to_objects a (spent 8 s)) (to_objects b (spent 8 t))
    objects a b e = subst (λ c. Goes (to_objects a (spent 8 s)) (to_objects c (spent 8 t))) e (object a)

    asked : (q port : ℕ) (words : List ℕ) → fixes h q ≡ false → Goes (input temporaries q port words (spent 8 s)) (input temporaries q port words (spent 8 t))
    asked q port [] o = (spent 8 t, refl, spent_same 8)
    asked q port (a ∷ words) o =
        let v = answered port a words (spend 8 s.world) in
        let w = answered port a words (spend 8 t.world) in
        let k : LessWorlds (held_weight h) v w = less_happened (held_weight h) (on_store (with_answers words) (spend 8 s.world)) (on_store (with_answers words) (spend 8 t.world)) (event.In port a) (less_store (held_weight h) (spend 8 s.world) (spend 8 t.world) (with_answers words) (with_answers words) refl (spent_less 8)) in
        (put_in temporaries q (Num a) (in_world w t), refl, put_agrees h (in_world v s) (in_world w t) (world_agrees h s t A v w k) q (Num a) (Num a) o refl)

    put_out : (port : ℕ) (a : Answer ℕ) → Goes (output port a (spent 8 s)) (output port a (spent 8 t))
    put_out port (Ok a) = world_goes (happened (event.Out port a) (spend 8 s.world)) (happened (event.Out port a) (spend 8 t.world)) (less_happened (held_weight h) (spend 8 s.world) (spend 8 t.world) (event.Out port a) (spent_less 8))
    put_out port (Err Strays) = same_events
    put_out port (Err (Faults m)) = (spent 8 t, refl, spent_same 8)

    abbrev xs : List ObjectT
    xs = s.world.store.objects

    abbrev ys : List ObjectT
    ys = t.world.store.objects

    same_objects : ys ≡ xs
    same_objects = ap (λ u. u.objects) A.worlds.store

    abbrev There : List ℕ → Type 0
    There qs = list_all (λ q. not (hides h q)) qs ≡ true

    abbrev Open : List ℕ → Type 0
    Open qs = list_all (λ q. not (fixes h q)) qs ≡ true

    first : (a : ℕ) (qs : List ℕ) → There (a ∷ qs) → s.cells a ≡ t.cells a
    first a qs e = A.cells a (off (hides h a) (both (not (hides h a)) (list_all (λ q. not (hides h q)) qs) e).0)

    second : (a b : ℕ) → There (a ∷ b ∷ []) → s.cells b ≡ t.cells b
    second a b e = first b [] (both (not (hides h a)) (list_all (λ q. not (hides h q)) (b ∷ [])) e).1

    does : (o : OpT ℕ) → There (uses o) → Open (maybe (target o)) → Goes (L.act o s) (acts L' (o ∷ []) t)
    does (ConstO q n) u v = takes_it q (ConstO q n) (Ok (Num n)) (Ok (Num n)) v refl refl
    does (NullO q) u v = takes_it q (NullO q) (Ok Null) (Ok Null) v refl refl
    does (MoveO q a) u v = takes_it q (MoveO q a) (Ok (s.cells a)) (Ok (t.cells a)) v (ap Ok (first a [] u)) refl
    does (OneO o q a) u v = takes_it q (OneO o q a) (one_word o (s.cells a)) (one_word o (t.cells a)) v (ap (one_word o) (first a [] u)) refl
    does (TwoO o q a b) u v = let c = first a (b ∷ []) u in let d = second a b u in takes_it q (TwoO o q a b) (two_words o (s.cells a) (s.cells b)) (two_words o (t.cells a) (t.cells b)) v (λ j. two_words o (c j) (d j)) refl
    does (GlobalO q n) u v = takes_it q (GlobalO q n) (Ok (Ptr n 0)) (Ok (Ptr n 0)) v refl refl
    does (LocalO q n) u v = takes_it q (LocalO q n) (first_cell (local_object s.world.store.locals n)) (first_cell (local_object t.world.store.locals n)) v (sym (ap (λ u. first_cell (local_object u.locals n)) A.worlds.store)) refl
    does (LiteralO q n) u v = takes_it q (LiteralO q n) (Ok (Ptr (z.first_literal + n) 0)) (Ok (Ptr (z'.first_literal + n) 0)) v (sym (ap (λ u. Ok (Ptr (u.first_literal + n) 0)) sizes)) refl
    does (CardO q) u v = takes_it q (CardO q) (Ok (Ptr z.card 0)) (Ok (Ptr z'.card 0)) v (sym (ap (λ u. Ok (Ptr u.card 0)) sizes)) refl
    does (StepO q a b) u v = let c = first a (b ∷ []) u in let d = second a b u in takes_it q (StepO q a b) (stepped (s.cells a) (s.cells b)) (stepped (t.cells a) (t.cells b)) v (λ j. stepped (c j) (d j)) refl
    does (ApartO q a b) u v = let c = first a (b ∷ []) u in let d = second a b u in let e = sym same_objects in takes_it q (ApartO q a b) (distance xs (s.cells a) (s.cells b)) (distance ys (t.cells a) (t.cells b)) v (λ j. distance (e j) (c j) (d j)) refl
    does (PtrTestO o q a b) u v = let c = first a (b ∷ []) u in let d = second a b u in let e = sym same_objects in takes_it q (PtrTestO o q a b) (pointers_tested o xs (s.cells a) (s.cells b)) (pointers_tested o ys (t.cells a) (t.cells b)) v (λ j. pointers_tested o (e j) (c j) (d j)) refl
    does (LoadO q p) u v = let c = first p [] u in let e = sym same_objects in takes_it q (LoadO q p) (read xs (s.cells p)) (read ys (t.cells p)) v (λ j. read (e j) (c j)) refl
    does (StoreO p a) u v = let c = first p (a ∷ []) u in let d = second p a u in let e = sym same_objects in one (StoreO p a) (to_objects (write xs (s.cells p) (s.cells a)) (spent 8 s)) (to_objects (write ys (t.cells p) (t.cells a)) (spent 8 t)) refl (objects (write xs (s.cells p) (s.cells a)) (write ys (t.cells p) (t.cells a)) (λ j. write (e j) (c j) (d j)))
    does (FreshO n) u v = one (FreshO n) (On (in_world (on_store (fresh z n) (spend 0 s.world)) s)) (On (in_world (on_store (fresh z' n) (spend 0 t.world)) t)) refl (world_goes (on_store (fresh z n) (spend 0 s.world)) (on_store (fresh z' n) (spend 0 t.world)) (less_store (held_weight h) (spend 0 s.world) (spend 0 t.world) (fresh z n) (fresh z' n) (sym (ap (λ u. fresh u n) sizes)) (spent_less 0)))
    does (EndO n) u v = one (EndO n) (On (in_world (on_store (end_one n) (spend 0 s.world)) s)) (On (in_world (on_store (end_one n) (spend 0 t.world)) t)) refl (world_goes (on_store (end_one n) (spend 0 s.world)) (on_store (end_one n) (spend 0 t.world)) (less_store (held_weight h) (spend 0 s.world) (spend 0 t.world) (end_one n) (end_one n) refl (spent_less 0)))
    does (InO q port) u v = one (InO q port) (input temporaries q port s.world.store.answers (spent 8 s)) (input temporaries q port s.world.store.answers (spent 8 t)) (ap (λ u. input temporaries q port u.answers (spent 8 t)) A.worlds.store) (asked q port s.world.store.answers (off (fixes h q) (both (not (fixes h q)) true v).0))
    does (OutO port a) u v = one (OutO port a) (output port (word_of (s.cells a)) (spent 8 s)) (output port (word_of (s.cells a)) (spent 8 t)) (ap (λ c. output port (word_of c) (spent 8 t)) (sym (first a [] u))) (put_out port (word_of (s.cells a)))
    does WaitO u v = one WaitO (On (in_world (happened event.Wait (spend 8 s.world)) s)) (On (in_world (happened event.Wait (spend 8 t.world)) t)) refl (world_goes (happened event.Wait (spend 8 s.world)) (happened event.Wait (spend 8 t.world)) (less_happened (held_weight h) (spend 8 s.world) (spend 8 t.world) event.Wait (spent_less 8)))
    does HaltO u v = one HaltO (Ends Halted (spent 8 s)) (Ends Halted (spent 8 t)) refl (spent 8 t, refl, spent_same 8)

    -- an operation that is apart from the one held back
    pub alike : (o : OpT ℕ) → is_apart h o ≡ true → Goes (L.act o s) (acts L' (o ∷ []) t)
    alike o e = let b = both (list_all (λ q. not (hides h q)) (uses o)) (list_all (λ q. not (fixes h q)) (maybe (target o))) e in does o b.0 b.1

  -- ---- an operation is held back, and done

  abbrev pub Done : OpT ℕ → State ℕ → State ℕ → Type 0
  Done p s t = (u : State ℕ) × (L'.act p t ≡ On u) × Agree None s u

  done_by : (s t : State ℕ) (q : ℕ) (c : Cell) → LessWorlds 8 s.world t.world → s.given ≡ t.given → ((r : ℕ) → eqb r q ≡ false → s.cells r ≡ t.cells r) → s.cells q ≡ c → Agree None s (put_in temporaries q c (spent 8 t))
  done_by s t q c w g cells e = record {
    worlds = record { store = w.store; events = w.events; work = let k = w.work in omega (arith, k) };
    given = g;
    cells = λ r n. go r (eqb r q) refl;
    held = tt;
  }
    where
      go : (r : ℕ) (b : Bool) → eqb r q ≡ b → s.cells r ≡ put temporaries t.cells q c r
      go r true f = ap s.cells (eqb-true r q f) ∙ e ∙ sym (put_on t.cells q c) ∙ ap (put temporaries t.cells q c) (sym (eqb-true r q f))
      go r false f = cells r f ∙ sym (put_off t.cells q c r f)

  pub done : (p : OpT ℕ) (s t : State ℕ) → Agree (Some p) s t → Done p s t
  done (ConstO q n) s t A = (put_in temporaries q (Num n) (spent 8 t), refl, done_by s t q (Num n) A.worlds A.given (λ r n. A.cells r n) A.held)
  done (GlobalO q n) s t A = (put_in temporaries q (Ptr n 0) (spent 8 t), refl, done_by s t q (Ptr n 0) A.worlds A.given (λ r n. A.cells r n) A.held)
  done (StepO q p n) s t A =
      let k = A.held in
      let pointer = sym (A.cells p k.0) in
      let words = sym (A.cells n k.1) in
      let made : stepped (t.cells p) (t.cells n) ≡ Ok (s.cells q) = (λ i. stepped (pointer i) (words i)) ∙ k.2 in
      (put_in temporaries q (s.cells q) (spent 8 t), ap (λ a. to temporaries q a (spent 8 t)) made, done_by s t q (s.cells q) A.worlds A.given (λ r n. A.cells r n) refl)
  done _ s t A = absurd A.held

  -- it is held back
  hold_by : (s t : State ℕ) (q : ℕ) (c : Cell) (h : Held) → held_weight h ≡ 8 → ((r : ℕ) → hides h r ≡ false → eqb r q ≡ false) → (put temporaries s.cells q c q ≡ c → Holds h (put temporaries s.cells q c)) → Agree None s t → Agree h (put_in temporaries q c (spent 8 s)) t
  hold_by s t q c h w apart k A = record {
    worlds = record { store = A.worlds.store; events = A.worlds.events; work = let e = A.worlds.work in omega (arith, e, w) };
    given = A.given;
    cells = λ r n. put_off s.cells q c r (apart r n) ∙ A.cells r refl;
    held = k (put_on s.cells q c);
  }

  -- an address is held back where it is made; where the run strays the second one may go on
  hold_made : (f : Option ℕ) (s t : State ℕ) (q p n : ℕ) → eqb p q ≡ false → eqb n q ≡ false → Agree None s t → (a : Answer Cell) → stepped (s.cells p) (s.cells n) ≡ a
      → DidAlike PP f (Some (StepO q p n)) (to temporaries q a (spent 8 s)) (On t)
  hold_made f s t q p n u v A (Ok c) e =
      (t, refl, hold_by s t q c (Some (StepO q p n)) refl (λ r m. m) (λ m. (u, v, (λ i. stepped (put_off s.cells q c p u i) (put_off s.cells q c n v i)) ∙ e ∙ ap Ok (sym m))) A)
  hold_made f s t q p n u v A (Err Strays) e = same_events f None s t A
  hold_made f s t q p n u v A (Err (Faults m)) e = absurd (no_fault (s.cells p) (s.cells n) m e)

  pub hold : (f : Option ℕ) (o : OpT ℕ) (s t : State ℕ) → Waits o → Agree None s t → DidAlike PP f (Some o) (L.act o s) (On t)
  hold f (ConstO q n) s t e A = (t, refl, hold_by s t q (Num n) (Some (ConstO q n)) refl (λ r m. m) (λ m. m) A)
  hold f (GlobalO q n) s t e A = (t, refl, hold_by s t q (Ptr n 0) (Some (GlobalO q n)) refl (λ r m. m) (λ m. m) A)
  hold f (StepO q p n) s t e A = hold_made f s t q p n e.0 e.1 A (stepped (s.cells p) (s.cells n)) refl
  hold f _ s t e A = absurd e
