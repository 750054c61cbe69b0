-- Each operation keeps the states alike.
use Rattle.std.proofs.Common.{◌≡◌, ℕ, zero, suc, ◌+◌, ◌<◌, ◌≤◌, ◌⊎◌, inl, inr, Bool, true, false, cond, eqb, List, [], ◌∷◌, ◌++◌, length, set, get_or, replicate, Option, Some, None, refl, sym, ap, ◌∙◌, subst, arith}
use Rattle.std.proofs.lemmas.Bool.{eqb-true, eq-eqb}
use Rattle.kit_base.specs.declared.event.Event.{Event}
use Rattle.obj_mem.specs.declared.cell.Cell.{Cell}
use Rattle.obj_mem.specs.declared.cell.Cell.TheVariants.{Unwritten, Num, Ptr, Null}
use Rattle.obj_mem.specs.declared.cell.ObjectKind.TheVariants.{Local}
use Rattle.obj_mem.specs.Objects.{ObjectT, object, object_at, ended, unwritten}
use Rattle.obj_mem.specs.Stores.{Store, Sizes, with_objects, local_object, words_here, end_local, end_one}
use Rattle.obj_mem.specs.Worlds.{World, on_store}
use Rattle.obj_mem.specs.Runs.{Stray}
use Rattle.mid_code.specs.Code.{OpT, CodeT}
use Rattle.mid_code.specs.Meaning.{Did, On, Ends, Next, Lang, did}
use Rattle.mid_code.specs.States.{State, temporaries, put, put_in, in_world, spent, over_worlds, sizes_of}
use Rattle.mid_code.specs.inner.Passing.{then_act, acts, state_of, Prefix, Pass, Kept, did_state}
use Rattle.mid_code.specs.inner.Alike.{Known, Twin}
use Rattle.mid_code.proofs.Values.{set_length, word_kept}
use Rattle.mid_code.proofs.More.{acts_more}
use Rattle.mid_scalars.specs.inner.Plan.{Kind, Own, Address, Variable, Plan}
use Rattle.mid_scalars.specs.inner.Named.{Name, Away, Here, name_at, IsHere, Points, LocalKnown, Begun, Core, Holds, count_of, Fits, Alive, KeptStates, promoting}
use Rattle.mid_scalars.proofs.Names.{decide, set_off, join_first, join_last, closed_live, away_in, name_last, here_more, away_more, known_more, away_not_here}
use Rattle.mid_scalars.proofs.Growing.{core_end_away, core_end, core_away, core_here, later_length, points_more}

-- ---- plain facts

pub off : (a b : ℕ) → (a ≡ b → ⊥) → eqb a b ≡ false
off a b n = go (eqb a b) refl
  where
    go : (x : Bool) → eqb a b ≡ x → eqb a b ≡ false
    go true e = absurd (n (eqb-true a b e))
    go false e = e

pub put_off : (f : ℕ → Cell) (t : ℕ) (c : Cell) (q : ℕ) → (q ≡ t → ⊥) → put temporaries f t c q ≡ f q
put_off f t c q n = ap (λ b. cond b c (f q)) (off q t n)

pub put_on : (f : ℕ → Cell) (t : ℕ) (c : Cell) → put temporaries f t c t ≡ c
put_on f t c = ap (λ b. cond b c (f t)) (eq-eqb t t refl)

pub local_on : (l : List (Option ℕ)) (k n : ℕ) → k < length l → local_object (set l k (Some n)) k ≡ Some n
local_on [] k n lt = absurd (omega (arith, lt))
local_on (x ∷ l) zero n lt = refl
local_on (x ∷ l) (suc k) n lt = local_on l k n (omega (arith, lt))

pub local_off : (l : List (Option ℕ)) (k n j : ℕ) → (j ≡ k → ⊥) → local_object (set l k (Some n)) j ≡ local_object l j
local_off [] k n j h = refl
local_off (x ∷ l) zero n zero h = absurd (h refl)
local_off (x ∷ l) zero n (suc j) h = refl
local_off (x ∷ l) (suc k) n zero h = refl
local_off (x ∷ l) (suc k) n (suc j) h = local_off l k n j (λ e. h (ap suc e))

pub own_address : (k : ℕ) → Own ≡ Address k → ⊥
own_address k e = cc

pub own_variable : (k : ℕ) → Own ≡ Variable k → ⊥
own_variable k e = cc

pub variable_same : (j k : ℕ) → Variable j ≡ Variable k → j ≡ k
variable_same j k e = cc

pub address_same : (j k : ℕ) → Address j ≡ Address k → j ≡ k
address_same j k e = cc

pub true_false : true ≡ false → ⊥
true_false e = cc

pub some_same : (a b : ℕ) → Some a ≡ Some b → a ≡ b
some_same a b e = cc

pub known_cond : (N : ℕ → ℕ → Type 0) (b : Bool) (c d c' d' : Cell) → Known N c d → Known N c' d' → Known N (cond b c c') (cond b d d')
known_cond N true c d c' d' h g = h
known_cond N false c d c' d' h g = g

pub then_on : (d : Did (State ℕ)) → then_act d (λ s. On s) ≡ d
then_on (On s) = refl
then_on (Ends f s) = refl

pub cell_unwritten : (n i : ℕ) → get_or (replicate n Unwritten) i Unwritten ≡ Unwritten
cell_unwritten zero i = refl
cell_unwritten (suc n) zero = refl
cell_unwritten (suc n) (suc i) = cell_unwritten n i

pub twin_made : (N : ℕ → ℕ → Type 0) (a b : ℕ) → b ≡ a → Twin N (object Local (unwritten a)) (object Local (unwritten b))
twin_made N a b e = subst (λ z. Twin N (object Local (unwritten a)) (object Local (unwritten z))) (sym e) (record { kind = refl; lives = refl; long = refl; cells = λ i. subst (λ c. Known N c (get_or (replicate a Unwritten) i Unwritten)) (sym (cell_unwritten a i)) tt })

pub local_more : (ns ms : List Name) (l m : Option ℕ) → LocalKnown ns l m → LocalKnown (ns ++ ms) l m
local_more ns ms None m h = h
local_more ns ms (Some o) m h = (h.0, here_more ns ms o h.0 h.1, h.2)

-- a local is made: an object behind the others, with this number
abbrev pub with_made : ObjectT → (k n : ℕ) → Store → Store
with_made x k n st = record st { objects = st.objects ++ x ∷ []; locals = set st.locals k (Some n) }

module _ (X : Plan) (x y : CodeT ℕ) (frames : List ℕ) (F : Fits X x y frames) where
  abbrev L' : Lang ℕ
  L' = over_worlds temporaries y frames

  abbrev PP : Pass (over_worlds temporaries x frames) L'
  PP = promoting X x y frames

  abbrev z : Sizes
  z = sizes_of x frames

  abbrev z' : Sizes
  z' = sizes_of y frames

  abbrev opened : ℕ
  opened = suc (length x.globals + length x.literals)

  abbrev M : Begun → State ℕ → State ℕ → Type 0
  M κ s t = Alive X x y frames κ s t

  pub kinds_off : (f : Option ℕ) (a b : ℕ) {u v : Kind} → X.kind f a ≡ u → X.kind f b ≡ v → (u ≡ v → ⊥) → a ≡ b → ⊥
  kinds_off f a b h g n e = n (sym h ∙ ap (X.kind f) e ∙ g)

  apart : (f : Option ℕ) (j k : ℕ) → X.promoted f j ≡ true → X.promoted f k ≡ false → j ≡ k → ⊥
  apart f j k a b e = true_false (sym a ∙ ap (X.promoted f) e ∙ b)

  pub now_kept : (κ : Begun) (s t : State ℕ) → M κ s t → KeptStates x s t
  now_kept κ s t A = record {
    so_far = record { events = A.events; work = A.work };
    there = λ o lt h. A.core.mem.below o o (A.core.fixed o (omega (arith, lt)));
    of_globals = λ o lt. word_kept (IsHere A.names) (object_at s.world.store.objects o) (object_at t.world.store.objects o) (A.core.mem.twin o o (A.core.fixed o (omega (arith, lt))));
    of_card = word_kept (IsHere A.names) (object_at s.world.store.objects (length x.globals + length x.literals)) (object_at t.world.store.objects (length x.globals + length x.literals)) (A.core.mem.twin _ _ (A.core.fixed (length x.globals + length x.literals) (omega arith)));
  }

  module _ (κ : Begun) (s t : State ℕ) (A : M κ s t) where
    pub stray : (ps : List (OpT ℕ)) (n : ℕ) → Kept PP Stray (spent n s) (did (acts L' ps t) (λ q. Next q))
    stray ps n = subst (λ e. Prefix e (state_of (did (acts L' ps t) (λ q. Next q))).world.events) A.events (go (acts L' ps t) (acts_more temporaries y frames ps t))
      where
        go : (d : Did (State ℕ)) → Prefix t.world.events (did_state d).world.events → Prefix t.world.events (state_of (did d (λ q. Next q))).world.events
        go (On q) p = p
        go (Ends f q) p = p

    -- work is counted
    abbrev pub timed : (n n' : ℕ) → n' ≤ n → M κ (spent n s) (spent n' t)
    timed n n' le = record { names = A.names; core = A.core; answers = A.answers; events = A.events; work = omega (arith, A.work, le); fn = A.fn; fn' = A.fn'; used = A.used; count = A.count; count' = A.count'; own = A.own; address = A.address; hidden = A.hidden; variable = A.variable; locals = A.locals }

    abbrev pub timed_left : (n : ℕ) → M κ (spent n s) t
    timed_left n = record { names = A.names; core = A.core; answers = A.answers; events = A.events; work = omega (arith, A.work); fn = A.fn; fn' = A.fn'; used = A.used; count = A.count; count' = A.count'; own = A.own; address = A.address; hidden = A.hidden; variable = A.variable; locals = A.locals }

    -- a port operation
    abbrev pub asked : (ps bs : List ℕ) (es fs : List Event) → bs ≡ ps → fs ≡ es → M κ (in_world (record s.world { store = record s.world.store { answers = ps }; events = es }) s) (in_world (record t.world { store = record t.world.store { answers = bs }; events = fs }) t)
    asked ps bs es fs a b = record { names = A.names; core = A.core; answers = a; events = b; work = A.work; fn = A.fn; fn' = A.fn'; used = A.used; count = A.count; count' = A.count'; own = A.own; address = A.address; hidden = A.hidden; variable = A.variable; locals = A.locals }

    -- a temporary of its own is set
    pub set_alive : (q : ℕ) (c d : Cell) → X.kind κ.fn q ≡ Own → Known (IsHere A.names) c d → M κ (put_in temporaries q c s) (put_in temporaries q d t)
    set_alive q c d e h = record {
      names = A.names;
      core = A.core;
      answers = A.answers;
      events = A.events;
      work = A.work;
      fn = A.fn;
      fn' = A.fn';
      used = A.used;
      count = A.count;
      count' = A.count';
      own = λ r f. known_cond (IsHere A.names) (eqb r q) c d (s.cells r) (t.cells r) h (A.own r f);
      address = λ r k f. subst (λ w. Points A.names s.world k w) (sym (put_off s.cells q c r (λ g. kinds_off κ.fn q r e f (own_address k) (sym g)))) (A.address r k f);
      hidden = A.hidden;
      variable = λ k o f g l. subst (λ w. Holds A.names (object_at s.world.store.objects o) w) (sym (put_off t.cells q d (X.variable κ.fn k) (λ w. kinds_off κ.fn q (X.variable κ.fn k) e (F.variable_is κ.fn k f) (own_variable k) (sym w)))) (A.variable k o f g l);
      locals = A.locals;
    }

    -- the address of a promoted local is set on the first side alone
    pub address_alive : (q k o : ℕ) → X.kind κ.fn q ≡ Address k → X.promoted κ.fn k ≡ true → local_object s.world.store.locals k ≡ Some o → M κ (put_in temporaries q (Ptr o 0) s) t
    address_alive q k o e p l = record {
      names = A.names;
      core = A.core;
      answers = A.answers;
      events = A.events;
      work = A.work;
      fn = A.fn;
      fn' = A.fn';
      used = A.used;
      count = A.count;
      count' = A.count';
      own = λ r f. subst (λ w. Known (IsHere A.names) w (t.cells r)) (sym (put_off s.cells q (Ptr o 0) r (λ g. kinds_off κ.fn r q f e (own_address k) g))) (A.own r f);
      address = λ r j f. points r j f (decide r q);
      hidden = A.hidden;
      variable = A.variable;
      locals = A.locals;
    }
      where
        points : (r j : ℕ) → X.kind κ.fn r ≡ Address j → (r ≡ q) ⊎ (r ≡ q → ⊥) → Points A.names s.world j (put temporaries s.cells q (Ptr o 0) r)
        points r j f (inl g) =
            let h : k ≡ j = address_same k j (sym e ∙ ap (X.kind κ.fn) (sym g) ∙ f) in
            subst (λ w. Points A.names s.world j w) (sym (ap (put temporaries s.cells q (Ptr o 0)) g ∙ put_on s.cells q (Ptr o 0))) (refl, (A.hidden k o p l).0 ∙ ap Away h, λ _. subst (λ w. local_object s.world.store.locals w ≡ Some o) h l)
        points r j f (inr n) = subst (λ w. Points A.names s.world j w) (sym (put_off s.cells q (Ptr o 0) r n)) (A.address r j f)

    -- both memories change, but not in the objects of promoted locals
    pub objects_alive : (xs ys : List ObjectT) → Core opened κ A.names xs ys → ((o k : ℕ) → name_at A.names o ≡ Away k → object_at xs o ≡ object_at s.world.store.objects o) → M κ (in_world (on_store (with_objects xs) s.world) s) (in_world (on_store (with_objects ys) t.world) t)
    objects_alive xs ys c same = record {
      names = A.names;
      core = c;
      answers = A.answers;
      events = A.events;
      work = A.work;
      fn = A.fn;
      fn' = A.fn';
      used = A.used;
      count = A.count;
      count' = A.count';
      own = A.own;
      address = λ q k e. points_more A.names A.names s.world (on_store (with_objects xs) s.world) k (s.cells q) (λ o h. h) (λ o h l. ap (λ w. w.lives) (sym (same o k h)) ∙ l) refl (A.address q k e);
      hidden = A.hidden;
      variable = λ k o p e l. let w = same o k (A.hidden k o p e).0 in subst (λ u. Holds A.names u (t.cells (X.variable κ.fn k))) (sym w) (A.variable k o p e (ap (λ u. u.lives) (sym w) ∙ l));
      locals = A.locals;
    }

    -- a promoted local ends
    pub end_away : (k : ℕ) → X.promoted κ.fn k ≡ true → M κ (in_world (on_store (end_one k) s.world) s) t
    end_away k p = record {
      names = A.names;
      core = core_end_away opened κ A.names s.world.store.objects t.world.store.objects A.core (local_object s.world.store.locals k) k (λ o e. A.hidden k o p e);
      answers = A.answers;
      events = A.events;
      work = A.work;
      fn = A.fn;
      fn' = A.fn';
      used = A.used;
      count = A.count;
      count' = A.count';
      own = A.own;
      address = λ q j e. points_more A.names A.names s.world (on_store (end_one k) s.world) j (s.cells q) (λ o h. h) (λ o h l. ap (λ w. w.lives) (sym (closed_live (local_object s.world.store.locals k) s.world.store.objects o l)) ∙ l) refl (A.address q j e);
      hidden = A.hidden;
      variable = λ j o p e l. let w = closed_live (local_object s.world.store.locals k) s.world.store.objects o l in subst (λ u. Holds A.names u (t.cells (X.variable κ.fn j))) (sym w) (A.variable j o p e (ap (λ u. u.lives) (sym w) ∙ l));
      locals = A.locals;
    }

    -- another local ends
    pub end_both : (k : ℕ) → k < count_of z κ.fn → X.promoted κ.fn k ≡ false → M κ (in_world (on_store (end_one k) s.world) s) (in_world (on_store (end_one (X.moved κ.fn k)) t.world) t)
    end_both k lt p = objects_alive (end_local (local_object s.world.store.locals k) s.world.store.objects) (end_local (local_object t.world.store.locals (X.moved κ.fn k)) t.world.store.objects) (core_end opened κ A.names s.world.store.objects t.world.store.objects A.core (local_object s.world.store.locals k) (local_object t.world.store.locals (X.moved κ.fn k)) (A.locals k lt p)) (λ o j h. same (local_object s.world.store.locals k) (local_object t.world.store.locals (X.moved κ.fn k)) (A.locals k lt p) o j h)
      where
        same : (l l' : Option ℕ) → LocalKnown A.names l l' → (o j : ℕ) → name_at A.names o ≡ Away j → object_at (end_local l s.world.store.objects) o ≡ object_at s.world.store.objects o
        same None l' h o j e = refl
        same (Some q) l' h o j e = set_off s.world.store.objects q o ended (λ f. away_not_here A.names o q j h.0 e h.1 (sym f))

    abbrev x1 : ℕ → ObjectT
    x1 k = object Local (unwritten (words_here z s.world.store.function k))

    abbrev y1 : ℕ → ObjectT
    y1 k = object Local (unwritten (words_here z' t.world.store.function (X.moved κ.fn k)))

    abbrev away_names : ℕ → List Name
    away_names k = A.names ++ Away k ∷ []

    abbrev here_names : List Name
    here_names = A.names ++ Here (length t.world.store.objects) ∷ []

    abbrev v1 : (k n : ℕ) → World
    v1 k n = on_store (with_made (x1 k) k n) s.world

    -- objects of before
    before : (k o j : ℕ) → name_at A.names o ≡ Away j → object_at (s.world.store.objects ++ x1 k ∷ []) o ≡ object_at s.world.store.objects o
    before k o j h = join_first s.world.store.objects (x1 k) o (subst (λ l. o < l) A.core.mem.long (away_in A.names o j h))

    module _ (k n : ℕ) (p : X.promoted κ.fn k ≡ true) (e : n ≡ length s.world.store.objects) (dead : (o : ℕ) → local_object s.world.store.locals k ≡ Some o → (object_at s.world.store.objects o).lives ≡ false) where
      here : k < length s.world.store.locals
      here = subst (λ l. k < l) (sym A.count) (F.in_range κ.fn k p)

      the_new : (o : ℕ) → o ≡ n → object_at (s.world.store.objects ++ x1 k ∷ []) o ≡ object Local (unwritten 1)
      the_new o f = ap (object_at (s.world.store.objects ++ x1 k ∷ [])) (f ∙ e) ∙ join_last s.world.store.objects (x1 k) ∙ ap (λ w. object Local (unwritten w)) (ap (λ w. words_here z w k) A.fn ∙ F.one_word κ.fn k p)

      still : (j o : ℕ) → local_object s.world.store.locals j ≡ Some o → (object_at s.world.store.objects o).lives ≡ true → (j ≡ k) ⊎ (j ≡ k → ⊥) → local_object (set s.world.store.locals k (Some n)) j ≡ Some o
      still j o g l (inl f) = absurd (true_false (sym l ∙ dead o (ap (local_object s.world.store.locals) (sym f) ∙ g)))
      still j o g l (inr f) = local_off s.world.store.locals k n j f ∙ g

      points : (j : ℕ) (c : Cell) → Points A.names s.world j c → Points (away_names k) (v1 k n) j c
      points j Unwritten h = tt
      points j (Num w) h = absurd h
      points j Null h = absurd h
      points j (Ptr o i) h = (h.0, away_more A.names (Away k ∷ []) o j h.1, λ l. let l1 = ap (λ w. w.lives) (sym (before k o j h.1)) ∙ l in still j o (h.2 l1) l1 (decide j k))

      same_new : (j o : ℕ) → local_object (set s.world.store.locals k (Some n)) j ≡ Some o → j ≡ k → n ≡ o
      same_new j o l f = some_same n o (sym (local_on s.world.store.locals k n here) ∙ ap (local_object (set s.world.store.locals k (Some n))) (sym f) ∙ l)

      hidden : (j o : ℕ) → X.promoted κ.fn j ≡ true → local_object (set s.world.store.locals k (Some n)) j ≡ Some o → (j ≡ k) ⊎ (j ≡ k → ⊥) → (name_at (away_names k) o ≡ Away j) × (length κ.names ≤ o)
      hidden j o h l (inl f) =
          let a : n ≡ o = same_new j o l f in
          let b : o ≡ length A.names = sym a ∙ e ∙ sym A.core.mem.long in
          (ap (name_at (away_names k)) b ∙ name_last A.names (Away k) ∙ ap Away (sym f), let c = later_length κ.names A.names κ.base A.core.later in omega (arith, c, b))
      hidden j o h l (inr f) = let g = A.hidden j o h (sym (local_off s.world.store.locals k n j f) ∙ l) in (away_more A.names (Away k ∷ []) o j g.0, g.1)

      variable : (j o : ℕ) → X.promoted κ.fn j ≡ true → local_object (set s.world.store.locals k (Some n)) j ≡ Some o → (object_at (s.world.store.objects ++ x1 k ∷ []) o).lives ≡ true → (j ≡ k) ⊎ (j ≡ k → ⊥) → Holds (away_names k) (object_at (s.world.store.objects ++ x1 k ∷ []) o) (t.cells (X.variable κ.fn j))
      variable j o h l v (inl f) = subst (λ w. Holds (away_names k) w (t.cells (X.variable κ.fn j))) (sym (the_new o (sym (same_new j o l f)))) (record { kind = refl; long = refl; cell = tt })
      variable j o h l v (inr f) =
          let l' = sym (local_off s.world.store.locals k n j f) ∙ l in
          let w = before k o j (A.hidden j o h l').0 in
          let g = A.variable j o h l' (ap (λ u. u.lives) (sym w) ∙ v) in
          subst (λ u. Holds (away_names k) u (t.cells (X.variable κ.fn j))) (sym w) (record { kind = g.kind; long = g.long; cell = known_more A.names (Away k ∷ []) _ _ g.cell })

      -- a promoted local is made
      pub new_away : M κ (in_world (v1 k n) s) t
      new_away = record {
        names = away_names k;
        core = core_away opened κ A.names s.world.store.objects t.world.store.objects A.core k (x1 k);
        answers = A.answers;
        events = A.events;
        work = A.work;
        fn = A.fn;
        fn' = A.fn';
        used = A.used;
        count = set_length s.world.store.locals k (Some n) ∙ A.count;
        count' = A.count';
        own = λ q h. known_more A.names (Away k ∷ []) (s.cells q) (t.cells q) (A.own q h);
        address = λ q j h. points j (s.cells q) (A.address q j h);
        hidden = λ j o h l. hidden j o h l (decide j k);
        variable = λ j o h l v. variable j o h l v (decide j k);
        locals = λ j lt h. subst (λ w. LocalKnown (away_names k) w (local_object t.world.store.locals (X.moved κ.fn j))) (sym (local_off s.world.store.locals k n j (λ f. apart κ.fn k j p h (sym f)))) (local_more A.names (Away k ∷ []) (local_object s.world.store.locals j) (local_object t.world.store.locals (X.moved κ.fn j)) (A.locals j lt h));
      }

    module _ (k n n' : ℕ) (lt : k < count_of z κ.fn) (p : X.promoted κ.fn k ≡ false) (e : n ≡ length s.world.store.objects) (e' : n' ≡ length t.world.store.objects) where
      off_here : (j o : ℕ) → X.promoted κ.fn j ≡ true → local_object (set s.world.store.locals k (Some n)) j ≡ Some o → local_object s.world.store.locals j ≡ Some o
      off_here j o h l = sym (local_off s.world.store.locals k n j (apart κ.fn j k h p)) ∙ l

      variable_here : (j o : ℕ) → X.promoted κ.fn j ≡ true → local_object s.world.store.locals j ≡ Some o → (object_at (s.world.store.objects ++ x1 k ∷ []) o).lives ≡ true → Holds here_names (object_at (s.world.store.objects ++ x1 k ∷ []) o) (t.cells (X.variable κ.fn j))
      variable_here j o h l v =
          let w = before k o j (A.hidden j o h l).0 in
          let g = A.variable j o h l (ap (λ u. u.lives) (sym w) ∙ v) in
          subst (λ u. Holds here_names u (t.cells (X.variable κ.fn j))) (sym w) (record { kind = g.kind; long = g.long; cell = known_more A.names (Here (length t.world.store.objects) ∷ []) _ _ g.cell })

      locals_here : (j : ℕ) → j < count_of z κ.fn → X.promoted κ.fn j ≡ false → (j ≡ k) ⊎ (j ≡ k → ⊥) → LocalKnown here_names (local_object (set s.world.store.locals k (Some n)) j) (local_object (set t.world.store.locals (X.moved κ.fn k) (Some n')) (X.moved κ.fn j))
      locals_here j jl h (inl f) =
          let a : local_object (set s.world.store.locals k (Some n)) j ≡ Some n = ap (local_object (set s.world.store.locals k (Some n))) f ∙ local_on s.world.store.locals k n (subst (λ l. k < l) (sym A.count) lt) in
          let b : local_object (set t.world.store.locals (X.moved κ.fn k) (Some n')) (X.moved κ.fn j) ≡ Some n' = ap (λ w. local_object (set t.world.store.locals (X.moved κ.fn k) (Some n')) (X.moved κ.fn w)) f ∙ local_on t.world.store.locals (X.moved κ.fn k) n' (subst (λ l. X.moved κ.fn k < l) (sym A.count') (F.moved_in κ.fn k lt p)) in
          subst (λ w. LocalKnown here_names w (local_object (set t.world.store.locals (X.moved κ.fn k) (Some n')) (X.moved κ.fn j))) (sym a) (length t.world.store.objects, ap (name_at here_names) (e ∙ sym A.core.mem.long) ∙ name_last A.names (Here (length t.world.store.objects)), b ∙ ap Some e')
      locals_here j jl h (inr f) = subst (λ w. LocalKnown here_names w (local_object (set t.world.store.locals (X.moved κ.fn k) (Some n')) (X.moved κ.fn j))) (sym (local_off s.world.store.locals k n j f)) (subst (λ w. LocalKnown here_names (local_object s.world.store.locals j) w) (sym (local_off t.world.store.locals (X.moved κ.fn k) n' (X.moved κ.fn j) (λ g. f (F.moved_apart κ.fn j k jl lt h p g)))) (local_more A.names (Here (length t.world.store.objects) ∷ []) (local_object s.world.store.locals j) (local_object t.world.store.locals (X.moved κ.fn j)) (A.locals j jl h)))

      -- another local is made
      pub new_here : M κ (in_world (v1 k n) s) (in_world (on_store (with_made (y1 k) (X.moved κ.fn k) n') t.world) t)
      new_here = record {
        names = here_names;
        core = core_here opened κ A.names s.world.store.objects t.world.store.objects A.core (x1 k) (y1 k) (twin_made (IsHere A.names) (words_here z s.world.store.function k) (words_here z' t.world.store.function (X.moved κ.fn k)) (ap (λ w. words_here z' w (X.moved κ.fn k)) A.fn' ∙ F.words κ.fn k lt p ∙ ap (λ w. words_here z w k) (sym A.fn)));
        answers = A.answers;
        events = A.events;
        work = A.work;
        fn = A.fn;
        fn' = A.fn';
        used = A.used;
        count = set_length s.world.store.locals k (Some n) ∙ A.count;
        count' = set_length t.world.store.locals (X.moved κ.fn k) (Some n') ∙ A.count';
        own = λ q h. known_more A.names (Here (length t.world.store.objects) ∷ []) (s.cells q) (t.cells q) (A.own q h);
        address = λ q j h. points_more A.names here_names s.world (v1 k n) j (s.cells q) (λ o f. away_more A.names (Here (length t.world.store.objects) ∷ []) o j f) (λ o f l. ap (λ w. w.lives) (sym (before k o j f)) ∙ l) (sym (local_off s.world.store.locals k n j (apart κ.fn j k (F.address_is κ.fn q j h) p))) (A.address q j h);
        hidden = λ j o h l. let g = A.hidden j o h (off_here j o h l) in (away_more A.names (Here (length t.world.store.objects) ∷ []) o j g.0, g.1);
        variable = λ j o h l v. variable_here j o h (off_here j o h l) v;
        locals = λ j jl h. locals_here j jl h (decide j k);
      }
