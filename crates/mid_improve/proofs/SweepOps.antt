-- Each operation that stays does the same before and after the sweep; one that is taken out does nothing but put something into its target.
use Rattle.std.proofs.Common.{◌≡◌, ℕ, ◌+◌, Bool, true, false, not, List, [], ◌∷◌, Option, Some, None, Ok, Err, refl, sym, ap, ◌∙◌, subst}
use Rattle.std.proofs.lemmas.Bool.{false≢true, true≢false}
use Rattle.kit_base.specs.declared.event.Event.TheVariants as event
use Rattle.obj_mem.specs.declared.cell.Cell.{Cell}
use Rattle.obj_mem.specs.declared.cell.Cell.TheVariants.{Unwritten, Num, Ptr, Null}
use Rattle.obj_mem.specs.declared.refusal.Refusal.TheVariants.{Strays, Faults}
use Rattle.obj_mem.specs.Objects.{ObjectT}
use Rattle.obj_mem.specs.Stores.{Sizes, with_objects, with_answers, local_object, fresh, end_one}
use Rattle.obj_mem.specs.Worlds.{World, on_store, spend, happened, answered}
use Rattle.obj_mem.specs.Queries.{Answer, word_of, word_or_fault, read, write, first_cell}
use Rattle.obj_mem.specs.Runs.{Halted}
use Rattle.v32_isa.specs.declared.instruction.One.{One}
use Rattle.v32_isa.specs.declared.instruction.Two.{Two}
use Rattle.v32_isa.specs.declared.instruction.Two.TheVariants.{IEQ, INE, IGT, IGE, ILT, ILE, AND, OR, XOR, SHL, IADD, ISUB, IMUL, IDIV, IMOD, IMIN, IMAX}
use Rattle.v32_isa.specs.Arithmetic.{one_of, two_of}
use Rattle.mid_code.specs.Code.{OpT, ConstO, NullO, MoveO, OneO, TwoO, GlobalO, LocalO, LiteralO, CardO, StepO, ApartO, PtrTestO, LoadO, StoreO, FreshO, EndO, InO, OutO, WaitO, HaltO, CodeT, uses, target}
use Rattle.mid_code.specs.Meaning.{Did, On, Ends, Lang}
use Rattle.mid_code.specs.States.{State, temporaries, put_in, one_word, two_words, word_or_stray, stepped, distance, pointers_tested, to, in_world, to_objects, input, output, spent, over_worlds, sizes_of}
use Rattle.mid_code.specs.inner.Passing.{then_act, acts, Prefix, Pass, DidAlike}
use Rattle.mid_code.proofs.More.{all_of}
use Rattle.mid_fold.specs.Lasting.{divides}
use Rattle.mid_improve.specs.Settled.{only_puts}
use Rattle.mid_improve.specs.inner.Wanted.{Set}
use Rattle.mid_improve.proofs.SweepPass.{SameWorlds, worlds_spend, worlds_store, worlds_happened, Agree, Less, Through, Uses, less_agrees, world_agrees, spent_agrees, put_agrees, dead_agrees, Sweeps, stays, goes, sweeping}

pub then_on : (d : Did (State ℕ)) → then_act d (λ s. On s) ≡ d
then_on (On s) = refl
then_on (Ends f s) = refl

-- an answer that is no fault
abbrev NoFault : Answer Cell → Type 0
NoFault (Ok c) = Unit {0}
NoFault (Err Strays) = Unit {0}
NoFault (Err (Faults m)) = ⊥

stray_fine : (r : Option ℕ) → NoFault (word_or_stray r)
stray_fine None = tt
stray_fine (Some w) = tt

one_fine : (o : One) (c : Cell) → NoFault (one_word o c)
one_fine o Unwritten = tt
one_fine o (Num w) = stray_fine (one_of o w)
one_fine o (Ptr a b) = tt
one_fine o Null = tt

-- only a division or remainder may fault
words_fine : (o : Two) (v w : ℕ) → divides o ≡ false → NoFault (word_or_fault (two_of o v w))
words_fine IEQ v w e = tt
words_fine INE v w e = tt
words_fine IGT v w e = tt
words_fine IGE v w e = tt
words_fine ILT v w e = tt
words_fine ILE v w e = tt
words_fine AND v w e = tt
words_fine OR v w e = tt
words_fine XOR v w e = tt
words_fine SHL v w e = tt
words_fine IADD v w e = tt
words_fine ISUB v w e = tt
words_fine IMUL v w e = tt
words_fine IDIV v w e = absurd (true≢false e)
words_fine IMOD v w e = absurd (true≢false e)
words_fine IMIN v w e = tt
words_fine IMAX v w e = tt

two_fine : (o : Two) (c d : Cell) → divides o ≡ false → NoFault (two_words o c d)
two_fine o Unwritten d e = tt
two_fine o (Num v) Unwritten e = tt
two_fine o (Num v) (Num w) e = words_fine o v w e
two_fine o (Num v) (Ptr a b) e = tt
two_fine o (Num v) Null e = tt
two_fine o (Ptr a b) d e = tt
two_fine o Null d e = tt

first_fine : (r : Option ℕ) → NoFault (first_cell r)
first_fine None = tt
first_fine (Some o) = tt

off : (b : Bool) → not b ≡ true → b ≡ false
off true e = absurd (false≢true e)
off false e = refl

module _ (x y : CodeT ℕ) (frames : List ℕ) (sizes : sizes_of y frames ≡ sizes_of x frames) where
  abbrev L : Lang ℕ
  L = over_worlds temporaries x frames

  abbrev L' : Lang ℕ
  L' = over_worlds temporaries y frames

  abbrev PP : Pass L L'
  PP = sweeping x y frames

  abbrev z : Sizes
  z = sizes_of x frames

  abbrev z' : Sizes
  z' = sizes_of y frames

  module _ (f : Option ℕ) (i : Set) (s t : State ℕ) (A : Agree i s t) where
    same_events : Prefix s.world.events t.world.events
    same_events = subst (Prefix s.world.events) (sym A.worlds.events) (all_of s.world.events)

    spent_same : (n : ℕ) → SameWorlds (spend n s.world) (spend n t.world)
    spent_same n = worlds_spend s.world t.world n A.worlds

    -- ---- what stays

    module _ (k : Set) where
      abbrev Goes : Did (State ℕ) → Did (State ℕ) → Type 0
      Goes d d' = DidAlike PP f k d d'

      one : (o : OpT ℕ) (d d' : Did (State ℕ)) → L'.act o t ≡ d' → Goes d d' → Goes d (acts L' (o ∷ []) t)
      one o d d' e h = subst (Goes d) (sym (then_on (L'.act o t) ∙ e)) h

      -- a target takes what is answered
      answer : (q n : ℕ) (a : Answer Cell) → Through i (Some q) k → Goes (to temporaries q a (spent n s)) (to temporaries q a (spent n t))
      answer q n (Ok c) o = (put_in temporaries q c (spent n t), refl, put_agrees i (spent n s) (spent n t) (spent_agrees i s t A n) k q c c o refl)
      answer q n (Err Strays) o = same_events
      answer q n (Err (Faults m)) o = (spent n t, refl, spent_same n)

      takes_it : (q : ℕ) (o : OpT ℕ) (a b : Answer Cell) → Through i (Some q) k → a ≡ b → L'.act o t ≡ to temporaries q b (spent 8 t) → Goes (to temporaries q a (spent 8 s)) (acts L' (o ∷ []) t)
      takes_it q o a b there e h =
          one o (to temporaries q a (spent 8 s)) (to temporaries q b (spent 8 t)) h
          (subst (λ c. Goes (to temporaries q a (spent 8 s)) (to temporaries q c (spent 8 t))) e (answer q 8 a there))

      world_goes : (v w : World) → Through i None k → SameWorlds v w → Goes (On (in_world v s)) (On (in_world w t))
      world_goes v w h b = (in_world w t, refl, less_agrees i k (in_world v s) (in_world w t) (λ r n. h r refl n) (world_agrees i s t A v w b))

      object : (a : Answer (List ObjectT)) → Through i None k → Goes (to_objects a (spent 8 s)) (to_objects a (spent 8 t))
      object (Ok os) h = world_goes (on_store (with_objects os) (spend 8 s.world)) (on_store (with_objects os) (spend 8 t.world)) h (worlds_store (spend 8 s.world) (spend 8 t.world) (with_objects os) (with_objects os) refl (spent_same 8))
      object (Err Strays) h = same_events
      object (Err (Faults m)) h = (spent 8 t, refl, spent_same 8)

      objects : (a b : Answer (List ObjectT)) → Through i None k → a ≡ b → Goes (to_objects a (spent 8 s)) (to_objects b (spent 8 t))
      objects a b h e = subst (λ c. Goes (to_objects a (spent 8 s)) (to_objects c (spent 8 t))) e (object a h)

      asked : (q port : ℕ) (words : List ℕ) → Through i (Some q) k → Goes (input temporaries q port words (spent 8 s)) (input temporaries q port words (spent 8 t))
      asked q port [] o = (spent 8 t, refl, spent_same 8)
      asked q port (a ∷ words) o =
          let v = answered port a words (spend 8 s.world) in
          let w = answered port a words (spend 8 t.world) in
          let h : SameWorlds v w = worlds_happened (on_store (with_answers words) (spend 8 s.world)) (on_store (with_answers words) (spend 8 t.world)) (event.In port a) (worlds_store (spend 8 s.world) (spend 8 t.world) (with_answers words) (with_answers words) refl (spent_same 8)) in
          (put_in temporaries q (Num a) (in_world w t), refl, put_agrees i (in_world v s) (in_world w t) (world_agrees i s t A v w h) k q (Num a) (Num a) o refl)

      put_out : (port : ℕ) (a : Answer ℕ) → Through i None k → Goes (output port a (spent 8 s)) (output port a (spent 8 t))
      put_out port (Ok a) h = world_goes (happened (event.Out port a) (spend 8 s.world)) (happened (event.Out port a) (spend 8 t.world)) h (worlds_happened (spend 8 s.world) (spend 8 t.world) (event.Out port a) (spent_same 8))
      put_out port (Err Strays) h = same_events
      put_out port (Err (Faults m)) h = (spent 8 t, refl, spent_same 8)

      abbrev xs : List ObjectT
      xs = s.world.store.objects

      abbrev ys : List ObjectT
      ys = t.world.store.objects

      same_objects : ys ≡ xs
      same_objects = ap (λ u. u.objects) A.worlds.store

      does : (o : OpT ℕ) → Uses i (uses o) → Through i (target o) k → Goes (L.act o s) (acts L' (o ∷ []) t)
      does (ConstO q n) u v = takes_it q (ConstO q n) (Ok (Num n)) (Ok (Num n)) v refl refl
      does (NullO q) u v = takes_it q (NullO q) (Ok Null) (Ok Null) v refl refl
      does (MoveO q a) u v = takes_it q (MoveO q a) (Ok (s.cells a)) (Ok (t.cells a)) v (ap Ok (A.cells a u.0)) refl
      does (OneO o q a) u v = takes_it q (OneO o q a) (one_word o (s.cells a)) (one_word o (t.cells a)) v (ap (one_word o) (A.cells a u.0)) refl
      does (TwoO o q a b) u v = let c = A.cells a u.0 in let d = A.cells b u.1.0 in takes_it q (TwoO o q a b) (two_words o (s.cells a) (s.cells b)) (two_words o (t.cells a) (t.cells b)) v (λ j. two_words o (c j) (d j)) refl
      does (GlobalO q n) u v = takes_it q (GlobalO q n) (Ok (Ptr n 0)) (Ok (Ptr n 0)) v refl refl
      does (LocalO q n) u v = takes_it q (LocalO q n) (first_cell (local_object s.world.store.locals n)) (first_cell (local_object t.world.store.locals n)) v (sym (ap (λ u. first_cell (local_object u.locals n)) A.worlds.store)) refl
      does (LiteralO q n) u v = takes_it q (LiteralO q n) (Ok (Ptr (z.first_literal + n) 0)) (Ok (Ptr (z'.first_literal + n) 0)) v (sym (ap (λ u. Ok (Ptr (u.first_literal + n) 0)) sizes)) refl
      does (CardO q) u v = takes_it q (CardO q) (Ok (Ptr z.card 0)) (Ok (Ptr z'.card 0)) v (sym (ap (λ u. Ok (Ptr u.card 0)) sizes)) refl
      does (StepO q a b) u v = let c = A.cells a u.0 in let d = A.cells b u.1.0 in takes_it q (StepO q a b) (stepped (s.cells a) (s.cells b)) (stepped (t.cells a) (t.cells b)) v (λ j. stepped (c j) (d j)) refl
      does (ApartO q a b) u v = let c = A.cells a u.0 in let d = A.cells b u.1.0 in let e = sym same_objects in takes_it q (ApartO q a b) (distance xs (s.cells a) (s.cells b)) (distance ys (t.cells a) (t.cells b)) v (λ j. distance (e j) (c j) (d j)) refl
      does (PtrTestO o q a b) u v = let c = A.cells a u.0 in let d = A.cells b u.1.0 in let e = sym same_objects in takes_it q (PtrTestO o q a b) (pointers_tested o xs (s.cells a) (s.cells b)) (pointers_tested o ys (t.cells a) (t.cells b)) v (λ j. pointers_tested o (e j) (c j) (d j)) refl
      does (LoadO q p) u v = let c = A.cells p u.0 in let e = sym same_objects in takes_it q (LoadO q p) (read xs (s.cells p)) (read ys (t.cells p)) v (λ j. read (e j) (c j)) refl
      does (StoreO p a) u v = let c = A.cells p u.0 in let d = A.cells a u.1.0 in let e = sym same_objects in one (StoreO p a) (to_objects (write xs (s.cells p) (s.cells a)) (spent 8 s)) (to_objects (write ys (t.cells p) (t.cells a)) (spent 8 t)) refl (objects (write xs (s.cells p) (s.cells a)) (write ys (t.cells p) (t.cells a)) v (λ j. write (e j) (c j) (d j)))
      does (FreshO n) u v = one (FreshO n) (On (in_world (on_store (fresh z n) (spend 0 s.world)) s)) (On (in_world (on_store (fresh z' n) (spend 0 t.world)) t)) refl (world_goes (on_store (fresh z n) (spend 0 s.world)) (on_store (fresh z' n) (spend 0 t.world)) v (worlds_store (spend 0 s.world) (spend 0 t.world) (fresh z n) (fresh z' n) (sym (ap (λ u. fresh u n) sizes)) (spent_same 0)))
      does (EndO n) u v = one (EndO n) (On (in_world (on_store (end_one n) (spend 0 s.world)) s)) (On (in_world (on_store (end_one n) (spend 0 t.world)) t)) refl (world_goes (on_store (end_one n) (spend 0 s.world)) (on_store (end_one n) (spend 0 t.world)) v (worlds_store (spend 0 s.world) (spend 0 t.world) (end_one n) (end_one n) refl (spent_same 0)))
      does (InO q port) u v = one (InO q port) (input temporaries q port s.world.store.answers (spent 8 s)) (input temporaries q port s.world.store.answers (spent 8 t)) (ap (λ u. input temporaries q port u.answers (spent 8 t)) A.worlds.store) (asked q port s.world.store.answers v)
      does (OutO port a) u v = one (OutO port a) (output port (word_of (s.cells a)) (spent 8 s)) (output port (word_of (s.cells a)) (spent 8 t)) (ap (λ c. output port (word_of c) (spent 8 t)) (sym (A.cells a u.0))) (put_out port (word_of (s.cells a)) v)
      does WaitO u v = one WaitO (On (in_world (happened event.Wait (spend 8 s.world)) s)) (On (in_world (happened event.Wait (spend 8 t.world)) t)) refl (world_goes (happened event.Wait (spend 8 s.world)) (happened event.Wait (spend 8 t.world)) v (worlds_happened (spend 8 s.world) (spend 8 t.world) event.Wait (spent_same 8)))
      does HaltO u v = one HaltO (Ends Halted (spent 8 s)) (Ends Halted (spent 8 t)) refl (spent 8 t, refl, spent_same 8)

    -- ---- what is taken out

    module _ (k : Set) (less : Less i k) where
      -- its target is not live, so nobody sees what it puts there; and where it strays all may come
      puts : (q : ℕ) (a : Answer Cell) → k q ≡ false → NoFault a → DidAlike PP f k (to temporaries q a (spent 8 s)) (On t)
      puts q (Ok c) dead e = (t, refl, dead_agrees i s t A k q c less dead)
      puts q (Err Strays) dead e = same_events
      puts q (Err (Faults m)) dead e = absurd e

      gone : (o : OpT ℕ) → only_puts o ≡ true → ((q : ℕ) → target o ≡ Some q → k q ≡ false) → DidAlike PP f k (L.act o s) (On t)
      gone (ConstO q n) e d = puts q (Ok (Num n)) (d q refl) tt
      gone (NullO q) e d = puts q (Ok Null) (d q refl) tt
      gone (MoveO q a) e d = puts q (Ok (s.cells a)) (d q refl) tt
      gone (OneO o q a) e d = puts q (one_word o (s.cells a)) (d q refl) (one_fine o (s.cells a))
      gone (TwoO o q a b) e d = puts q (two_words o (s.cells a) (s.cells b)) (d q refl) (two_fine o (s.cells a) (s.cells b) (off (divides o) e))
      gone (GlobalO q n) e d = puts q (Ok (Ptr n 0)) (d q refl) tt
      gone (LocalO q n) e d = puts q (first_cell (local_object s.world.store.locals n)) (d q refl) (first_fine (local_object s.world.store.locals n))
      gone (LiteralO q n) e d = puts q (Ok (Ptr (z.first_literal + n) 0)) (d q refl) tt
      gone (CardO q) e d = puts q (Ok (Ptr z.card 0)) (d q refl) tt
      gone (StepO q a b) e d = absurd (false≢true e)
      gone (ApartO q a b) e d = absurd (false≢true e)
      gone (PtrTestO o q a b) e d = absurd (false≢true e)
      gone (LoadO q p) e d = absurd (false≢true e)
      gone (StoreO p a) e d = absurd (false≢true e)
      gone (FreshO n) e d = absurd (false≢true e)
      gone (EndO n) e d = absurd (false≢true e)
      gone (InO q port) e d = absurd (false≢true e)
      gone (OutO port a) e d = absurd (false≢true e)
      gone WaitO e d = absurd (false≢true e)
      gone HaltO e d = absurd (false≢true e)

    pub each : (o : OpT ℕ) (ps : List (OpT ℕ)) (k : Set) → Sweeps i o ps k → DidAlike PP f k (L.act o s) (acts L' ps t)
    each o ps k (stays e u v) = subst (λ qs. DidAlike PP f k (L.act o s) (acts L' qs t)) (sym e) (does k o u v)
    each o ps k (goes e p l d) = subst (λ qs. DidAlike PP f k (L.act o s) (acts L' qs t)) (sym e) (gone k l o p d)
