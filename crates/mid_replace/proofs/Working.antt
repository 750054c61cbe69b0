-- What changes on both sides keeps the states alike.
use Rattle.std.proofs.Common.{◌≡◌, ℕ, suc, ◌+◌, ◌<◌, ◌≤◌, ◌⊎◌, inl, inr, Bool, true, false, cond, eqb, List, [], ◌∷◌, ◌++◌, length, set, get_or, Option, Some, None, refl, sym, ap, ◌∙◌, subst, arith, length-append}
use Rattle.kit_base.specs.declared.event.Event.{Event}
use Rattle.obj_mem.specs.declared.cell.Cell.{Cell}
use Rattle.obj_mem.specs.declared.cell.Cell.TheVariants.{Unwritten}
use Rattle.obj_mem.specs.declared.cell.ObjectKind.TheVariants.{Local}
use Rattle.obj_mem.specs.Objects.{ObjectT, object, object_at, cell_at, unwritten}
use Rattle.obj_mem.specs.Stores.{Sizes, with_objects, local_object, words_here, end_local, end_one}
use Rattle.obj_mem.specs.Worlds.{World, on_store}
use Rattle.obj_mem.specs.Runs.{Stray}
use Rattle.std.proofs.lemmas.List.{length-replicate}
use Rattle.mid_code.specs.Code.{OpT, CodeT}
use Rattle.mid_code.specs.Meaning.{Did, On, Ends, Next, Lang, did}
use Rattle.std.proofs.lemmas.Bool.{eqb-true}
use Rattle.mid_code.specs.States.{State, temporaries, put_in, in_world, spent, over_worlds, sizes_of}
use Rattle.mid_code.specs.inner.Passing.{acts, state_of, Prefix, Pass, Kept, did_state}
use Rattle.mid_code.specs.inner.Alike.{Known}
use Rattle.mid_code.proofs.Values.{set_length, word_kept}
use Rattle.mid_code.proofs.More.{acts_more}
use Rattle.mid_scalars.specs.inner.Named.{Name, Away, Here, name_at, IsHere, LocalKnown, Begun, Core, count_of, KeptStates}
use Rattle.mid_scalars.proofs.Names.{decide, set_off, join_first, join_last, closed_live, close_length, away_in, name_last, away_more, known_more, away_not_here}
use Rattle.mid_scalars.proofs.Growing.{core_end_away, core_end, core_away, core_here, later_length}
use Rattle.mid_scalars.proofs.Working.{put_off, local_on, local_off, some_same, true_false, cell_unwritten, twin_made, local_more, with_made}
use Rattle.mid_replace.specs.inner.Facts.{Fact, Plan, with_target, Follows}
use Rattle.mid_replace.specs.inner.Held.{Tells, Holds, Fits, Alive, replacing}
use Rattle.mid_replace.proofs.Spare.{core_more, core_end_other, here_old, here_new, Kept as KeptNames, tells_kept, tells_weaker}

module _ (X : Option ℕ → Plan) (x y : CodeT ℕ) (frames : List ℕ) (F : Fits X x y frames) where
  abbrev L' : Lang ℕ
  L' = over_worlds temporaries y frames

  abbrev PP : Pass (over_worlds temporaries x frames) L'
  PP = replacing X x y frames

  abbrev z : Sizes
  z = sizes_of x frames

  abbrev opened : ℕ
  opened = suc (length x.globals + length x.literals)

  abbrev M : Begun → (ℕ → Fact) → State ℕ → State ℕ → Type 0
  M κ i s t = Alive X x y frames κ i s t

  pub now_kept : (κ : Begun) (i : ℕ → Fact) (s t : State ℕ) → M κ i s t → KeptStates x s t
  now_kept κ i s t A = record {
    so_far = record { events = A.events; work = A.work };
    there = λ o lt h. A.core.mem.below o o (A.core.fixed o (omega (arith, lt)));
    of_globals = λ o lt. word_kept (IsHere A.names) (object_at s.world.store.objects o) (object_at t.world.store.objects o) (A.core.mem.twin o o (A.core.fixed o (omega (arith, lt))));
    of_card = word_kept (IsHere A.names) (object_at s.world.store.objects (length x.globals + length x.literals)) (object_at t.world.store.objects (length x.globals + length x.literals)) (A.core.mem.twin _ _ (A.core.fixed (length x.globals + length x.literals) (omega arith)));
  }

  module _ (κ : Begun) (i : ℕ → Fact) (s t : State ℕ) (A : M κ i s t) where
    pub stray : (ps : List (OpT ℕ)) (n : ℕ) → Kept PP Stray (spent n s) (did (acts L' ps t) (λ q. Next q))
    stray ps n = subst (λ e. Prefix e (state_of (did (acts L' ps t) (λ q. Next q))).world.events) A.events (go (acts L' ps t) (acts_more temporaries y frames ps t))
      where
        go : (d : Did (State ℕ)) → Prefix t.world.events (did_state d).world.events → Prefix t.world.events (state_of (did d (λ q. Next q))).world.events
        go (On q) p = p
        go (Ends f q) p = p

    -- work is counted, on the second side no more
    abbrev pub timed : (n n' : ℕ) → n' ≤ n → M κ i (spent n s) (spent n' t)
    timed n n' le = record { names = A.names; core = A.core; answers = A.answers; events = A.events; work = omega (arith, A.work, le); fn = A.fn; fn' = A.fn'; used = A.used; count = A.count; count' = A.count'; known = A.known; hidden = A.hidden; spare = A.spare; holds = A.holds; locals = A.locals }

    abbrev pub timed_left : (n : ℕ) → M κ i (spent n s) t
    timed_left n = record { names = A.names; core = A.core; answers = A.answers; events = A.events; work = omega (arith, A.work); fn = A.fn; fn' = A.fn'; used = A.used; count = A.count; count' = A.count'; known = A.known; hidden = A.hidden; spare = A.spare; holds = A.holds; locals = A.locals }

    -- less is known
    abbrev pub follow : (k : ℕ → Fact) → Follows i k → M κ k s t
    follow k f = record { names = A.names; core = A.core; answers = A.answers; events = A.events; work = A.work; fn = A.fn; fn' = A.fn'; used = A.used; count = A.count; count' = A.count'; known = λ q lt. tells_weaker A.names s.world (i q) (k q) (s.cells q) (t.cells q) (f q) (A.known q lt); hidden = A.hidden; spare = A.spare; holds = A.holds; locals = A.locals }

    -- a port operation
    abbrev pub asked : (ps bs : List ℕ) (es fs : List Event) → bs ≡ ps → fs ≡ es → M κ i (in_world (record s.world { store = record s.world.store { answers = ps }; events = es }) s) (in_world (record t.world { store = record t.world.store { answers = bs }; events = fs }) t)
    asked ps bs es fs a b = record { names = A.names; core = A.core; answers = a; events = b; work = A.work; fn = A.fn; fn' = A.fn'; used = A.used; count = A.count; count' = A.count'; known = A.known; hidden = A.hidden; spare = A.spare; holds = A.holds; locals = A.locals }

    -- the words of locals stand above the temporaries that code names
    above : (q k w : ℕ) → q < (X κ.fn).temps → (X κ.fn).held k ≡ true → w < (X κ.fn).size k → (X κ.fn).variable k w ≡ q → ⊥
    above q k w lt h g e = let a = F.above κ.fn k w h g in omega (arith, lt, a, e)

    told : (q r : ℕ) (u : Fact) (c d : Cell) → Tells A.names s.world u c d → r < (X κ.fn).temps → (b : Bool) → eqb r q ≡ b → Tells A.names s.world (cond b u (i r)) (cond b c (s.cells r)) (cond b d (t.cells r))
    told q r u c d h lt true e = h
    told q r u c d h lt false e = A.known r lt

    -- a temporary is set
    pub set_alive : (q : ℕ) (u : Fact) (c d : Cell) → q < (X κ.fn).temps → Tells A.names s.world u c d → M κ (with_target (Some q) u i) (put_in temporaries q c s) (put_in temporaries q d t)
    set_alive q u c d lt h = record {
      names = A.names;
      core = A.core;
      answers = A.answers;
      events = A.events;
      work = A.work;
      fn = A.fn;
      fn' = A.fn';
      used = A.used;
      count = A.count;
      count' = A.count';
      known = λ r g. told q r u c d h g (eqb r q) refl;
      hidden = A.hidden;
      spare = A.spare;
      holds = λ k o f g l. (let H = A.holds k o f g l in record { kind = H.kind; long = H.long; cell = λ w m. subst (λ v. Known (IsHere A.names) (cell_at (object_at s.world.store.objects o) w) v) (sym (put_off t.cells q d ((X κ.fn).variable k w) (above q k w lt f m))) (H.cell w m) });
      locals = A.locals;
    }

    -- on the first side alone, where nothing is told of the second
    told_left : (q r : ℕ) (u : Fact) (c : Cell) → Tells A.names s.world u c (t.cells q) → r < (X κ.fn).temps → (b : Bool) → eqb r q ≡ b → Tells A.names s.world (cond b u (i r)) (cond b c (s.cells r)) (t.cells r)
    told_left q r u c h lt true e = subst (λ w. Tells A.names s.world u c (t.cells w)) (sym (eqb-true r q e)) h
    told_left q r u c h lt false e = A.known r lt

    pub set_left : (q : ℕ) (u : Fact) (c : Cell) → Tells A.names s.world u c (t.cells q) → M κ (with_target (Some q) u i) (put_in temporaries q c s) t
    set_left q u c h = record {
      names = A.names;
      core = A.core;
      answers = A.answers;
      events = A.events;
      work = A.work;
      fn = A.fn;
      fn' = A.fn';
      used = A.used;
      count = A.count;
      count' = A.count';
      known = λ r g. told_left q r u c h g (eqb r q) refl;
      hidden = A.hidden;
      spare = A.spare;
      holds = A.holds;
      locals = A.locals;
    }

    -- both memories change, but not in the objects of locals that are held
    pub objects_alive : (xs ys : List ObjectT) → Core opened κ A.names xs ys → length ys ≡ length t.world.store.objects → ((o k : ℕ) → name_at A.names o ≡ Away k → object_at xs o ≡ object_at s.world.store.objects o)
        → M κ i (in_world (on_store (with_objects xs) s.world) s) (in_world (on_store (with_objects ys) t.world) t)
    objects_alive xs ys c long same = record {
      names = A.names;
      core = c;
      answers = A.answers;
      events = A.events;
      work = A.work;
      fn = A.fn;
      fn' = A.fn';
      used = A.used;
      count = A.count;
      count' = A.count';
      known = λ q lt. tells_kept A.names A.names s.world (on_store (with_objects xs) s.world) (i q) (s.cells q) (t.cells q) (λ h. h) (λ o k h. (h, λ l. (ap (λ w. w.lives) (sym (same o k h)) ∙ l, λ g. g))) (A.known q lt);
      hidden = A.hidden;
      spare = λ k p h e. (let g = A.spare k p h e in (omega (arith, g.0, long), g.1));
      holds = λ k o p e l. (let w = same o k (A.hidden k o p e).0 in subst (λ u. Holds A.names ((X κ.fn).size k) u (λ v. t.cells ((X κ.fn).variable k v))) (sym w) (A.holds k o p e (ap (λ u. u.lives) (sym w) ∙ l)));
      locals = A.locals;
    }

    -- a local that is held ends
    pub end_held : (k : ℕ) → (X κ.fn).held k ≡ true → M κ i (in_world (on_store (end_one k) s.world) s) (in_world (on_store (end_one k) t.world) t)
    end_held k p = record {
      names = A.names;
      core = core_end_other opened κ A.names (end_local (local_object s.world.store.locals k) s.world.store.objects) t.world.store.objects (core_end_away opened κ A.names s.world.store.objects t.world.store.objects A.core (local_object s.world.store.locals k) k (λ o e. A.hidden k o p e)) (local_object t.world.store.locals k) (λ q e. (A.spare k q p e).1);
      answers = A.answers;
      events = A.events;
      work = A.work;
      fn = A.fn;
      fn' = A.fn';
      used = A.used;
      count = A.count;
      count' = A.count';
      known = λ q lt. tells_kept A.names A.names s.world (on_store (end_one k) s.world) (i q) (s.cells q) (t.cells q) (λ h. h) (λ o j h. (h, λ l. (ap (λ w. w.lives) (sym (closed_live (local_object s.world.store.locals k) s.world.store.objects o l)) ∙ l, λ g. g))) (A.known q lt);
      hidden = A.hidden;
      spare = λ j q h e. (let g = A.spare j q h e in let a = close_length (local_object t.world.store.locals k) t.world.store.objects in (omega (arith, g.0, a), g.1));
      holds = λ j o h e l. (let w = closed_live (local_object s.world.store.locals k) s.world.store.objects o l in subst (λ u. Holds A.names ((X κ.fn).size j) u (λ v. t.cells ((X κ.fn).variable j v))) (sym w) (A.holds j o h e (ap (λ u. u.lives) (sym w) ∙ l)));
      locals = A.locals;
    }

    -- another local ends
    pub end_both : (k : ℕ) → k < count_of z κ.fn → (X κ.fn).held k ≡ false → M κ i (in_world (on_store (end_one k) s.world) s) (in_world (on_store (end_one k) t.world) t)
    end_both k lt p = objects_alive (end_local (local_object s.world.store.locals k) s.world.store.objects) (end_local (local_object t.world.store.locals k) t.world.store.objects) (core_end opened κ A.names s.world.store.objects t.world.store.objects A.core (local_object s.world.store.locals k) (local_object t.world.store.locals k) (A.locals k lt p)) (close_length (local_object t.world.store.locals k) t.world.store.objects) (λ o j h. same (local_object s.world.store.locals k) (local_object t.world.store.locals k) (A.locals k lt p) o j h)
      where
        same : (l l' : Option ℕ) → LocalKnown A.names l l' → (o j : ℕ) → name_at A.names o ≡ Away j → object_at (end_local l s.world.store.objects) o ≡ object_at s.world.store.objects o
        same None l' h o j e = refl
        same (Some q) l' h o j e = set_off s.world.store.objects q o _ (λ f. away_not_here A.names o q j h.0 e h.1 (sym f))

    -- ---- a local is made

    abbrev x1 : ℕ → ObjectT
    x1 k = object Local (unwritten (words_here z s.world.store.function k))

    abbrev y1 : ℕ → ObjectT
    y1 k = object Local (unwritten (words_here (sizes_of y frames) t.world.store.function k))

    abbrev away_names : ℕ → List Name
    away_names k = A.names ++ Away k ∷ []

    abbrev here_names : List Name
    here_names = A.names ++ Here (length t.world.store.objects) ∷ []

    abbrev v1 : (k n : ℕ) → World
    v1 k n = on_store (with_made (x1 k) k n) s.world

    -- objects of before
    before : (k o j : ℕ) → name_at A.names o ≡ Away j → object_at (s.world.store.objects ++ x1 k ∷ []) o ≡ object_at s.world.store.objects o
    before k o j h = join_first s.world.store.objects (x1 k) o (subst (λ l. o < l) A.core.mem.long (away_in A.names o j h))

    longer : (k : ℕ) → length (t.world.store.objects ++ y1 k ∷ []) ≡ length t.world.store.objects + 1
    longer k = length-append t.world.store.objects (y1 k ∷ [])

    module _ (k n n' : ℕ) (p : (X κ.fn).held k ≡ true) (e : n ≡ length s.world.store.objects) (e' : n' ≡ length t.world.store.objects) (dead : (o : ℕ) → local_object s.world.store.locals k ≡ Some o → (object_at s.world.store.objects o).lives ≡ false) where
      lt : k < length s.world.store.locals
      lt = subst (λ l. k < l) (sym A.count) (F.in_range κ.fn k p)

      lt' : k < length t.world.store.locals
      lt' = subst (λ l. k < l) (sym A.count') (F.in_range κ.fn k p)

      words : words_here z s.world.store.function k ≡ (X κ.fn).size k
      words = ap (λ w. words_here z w k) A.fn ∙ sym (F.words κ.fn k p)

      the_new : (o : ℕ) → o ≡ n → object_at (s.world.store.objects ++ x1 k ∷ []) o ≡ object Local (unwritten ((X κ.fn).size k))
      the_new o f = ap (object_at (s.world.store.objects ++ x1 k ∷ [])) (f ∙ e) ∙ join_last s.world.store.objects (x1 k) ∙ ap (λ w. object Local (unwritten w)) words

      still : (j o : ℕ) → local_object s.world.store.locals j ≡ Some o → (object_at s.world.store.objects o).lives ≡ true → (j ≡ k) ⊎ (j ≡ k → ⊥) → local_object (set s.world.store.locals k (Some n)) j ≡ Some o
      still j o g l (inl f) = absurd (true_false (sym l ∙ dead o (ap (local_object s.world.store.locals) (sym f) ∙ g)))
      still j o g l (inr f) = local_off s.world.store.locals k n j f ∙ g

      kept_away : KeptNames A.names (away_names k) s.world (v1 k n)
      kept_away o j h = (away_more A.names (Away k ∷ []) o j h, λ l. (let l1 = ap (λ w. w.lives) (sym (before k o j h)) ∙ l in (l1, λ g. still j o g l1 (decide j k))))

      same_new : (j o : ℕ) → local_object (set s.world.store.locals k (Some n)) j ≡ Some o → j ≡ k → n ≡ o
      same_new j o l f = some_same n o (sym (local_on s.world.store.locals k n lt) ∙ ap (local_object (set s.world.store.locals k (Some n))) (sym f) ∙ l)

      hidden : (j o : ℕ) → (X κ.fn).held j ≡ true → local_object (set s.world.store.locals k (Some n)) j ≡ Some o → (j ≡ k) ⊎ (j ≡ k → ⊥) → (name_at (away_names k) o ≡ Away j) × (length κ.names ≤ o)
      hidden j o h l (inl f) =
          let a : n ≡ o = same_new j o l f in
          let b : o ≡ length A.names = sym a ∙ e ∙ sym A.core.mem.long in
          (ap (name_at (away_names k)) b ∙ name_last A.names (Away k) ∙ ap Away (sym f), let c = later_length κ.names A.names κ.base A.core.later in omega (arith, c, b))
      hidden j o h l (inr f) = let g = A.hidden j o h (sym (local_off s.world.store.locals k n j f) ∙ l) in (away_more A.names (Away k ∷ []) o j g.0, g.1)

      spare : (j q : ℕ) → (X κ.fn).held j ≡ true → local_object (set t.world.store.locals k (Some n')) j ≡ Some q → (j ≡ k) ⊎ (j ≡ k → ⊥) → (q < length (t.world.store.objects ++ y1 k ∷ [])) × ((o : ℕ) → IsHere (away_names k) o q → ⊥)
      spare j q h l (inl f) =
          let a : n' ≡ q = some_same n' q (sym (local_on t.world.store.locals k n' lt') ∙ ap (local_object (set t.world.store.locals k (Some n'))) (sym f) ∙ l) in
          let b = longer k in
          (omega (arith, a, b, e'), λ o g. (let c = A.core.mem.below o q (here_old A.names k o q g) in omega (arith, c, a, e')))
      spare j q h l (inr f) =
          let g = A.spare j q h (sym (local_off t.world.store.locals k n' j f) ∙ l) in
          let b = longer k in
          (omega (arith, g.0, b), λ o w. g.1 o (here_old A.names k o q w))

      holds : (j o : ℕ) → (X κ.fn).held j ≡ true → local_object (set s.world.store.locals k (Some n)) j ≡ Some o → (object_at (s.world.store.objects ++ x1 k ∷ []) o).lives ≡ true → (j ≡ k) ⊎ (j ≡ k → ⊥)
          → Holds (away_names k) ((X κ.fn).size j) (object_at (s.world.store.objects ++ x1 k ∷ []) o) (λ w. t.cells ((X κ.fn).variable j w))
      holds j o h l v (inl f) =
          let sizes : (X κ.fn).size k ≡ (X κ.fn).size j = ap (X κ.fn).size (sym f) in
          subst (λ u. Holds (away_names k) ((X κ.fn).size j) u (λ w. t.cells ((X κ.fn).variable j w))) (sym (the_new o (sym (same_new j o l f)))) (record {
            kind = refl;
            long = length-replicate ((X κ.fn).size k) Unwritten ∙ sizes;
            cell = λ w m. subst (λ c. Known (IsHere (away_names k)) c (t.cells ((X κ.fn).variable j w))) (sym (cell_unwritten ((X κ.fn).size k) w)) tt;
          })
      holds j o h l v (inr f) =
          let l' = sym (local_off s.world.store.locals k n j f) ∙ l in
          let w = before k o j (A.hidden j o h l').0 in
          let g = A.holds j o h l' (ap (λ u. u.lives) (sym w) ∙ v) in
          subst (λ u. Holds (away_names k) ((X κ.fn).size j) u (λ c. t.cells ((X κ.fn).variable j c))) (sym w) (record { kind = g.kind; long = g.long; cell = λ c m. known_more A.names (Away k ∷ []) _ _ (g.cell c m) })

      apart_from : (j : ℕ) → (X κ.fn).held j ≡ false → j ≡ k → ⊥
      apart_from j h f = true_false (sym p ∙ ap (X κ.fn).held (sym f) ∙ h)

      -- a local that is held is made
      pub new_held : M κ i (in_world (v1 k n) s) (in_world (on_store (with_made (y1 k) k n') t.world) t)
      new_held = record {
        names = away_names k;
        core = core_more opened κ (away_names k) (s.world.store.objects ++ x1 k ∷ []) t.world.store.objects (core_away opened κ A.names s.world.store.objects t.world.store.objects A.core k (x1 k)) (y1 k);
        answers = A.answers;
        events = A.events;
        work = A.work;
        fn = A.fn;
        fn' = A.fn';
        used = A.used;
        count = set_length s.world.store.locals k (Some n) ∙ A.count;
        count' = set_length t.world.store.locals k (Some n') ∙ A.count';
        known = λ q g. tells_kept A.names (away_names k) s.world (v1 k n) (i q) (s.cells q) (t.cells q) (known_more A.names (Away k ∷ []) (s.cells q) (t.cells q)) kept_away (A.known q g);
        hidden = λ j o h l. hidden j o h l (decide j k);
        spare = λ j q h l. spare j q h l (decide j k);
        holds = λ j o h l v. holds j o h l v (decide j k);
        locals = λ j g h. subst (λ w. LocalKnown (away_names k) w (local_object (set t.world.store.locals k (Some n')) j)) (sym (local_off s.world.store.locals k n j (apart_from j h))) (subst (λ w. LocalKnown (away_names k) (local_object s.world.store.locals j) w) (sym (local_off t.world.store.locals k n' j (apart_from j h))) (local_more A.names (Away k ∷ []) (local_object s.world.store.locals j) (local_object t.world.store.locals j) (A.locals j g h)));
      }

    module _ (k n n' : ℕ) (lt : k < count_of z κ.fn) (p : (X κ.fn).held k ≡ false) (e : n ≡ length s.world.store.objects) (e' : n' ≡ length t.world.store.objects) where
      off : (j : ℕ) → (X κ.fn).held j ≡ true → j ≡ k → ⊥
      off j h f = true_false (sym h ∙ ap (X κ.fn).held f ∙ p)

      off_here : (j o : ℕ) → (X κ.fn).held j ≡ true → local_object (set s.world.store.locals k (Some n)) j ≡ Some o → local_object s.world.store.locals j ≡ Some o
      off_here j o h l = sym (local_off s.world.store.locals k n j (off j h)) ∙ l

      kept_here : KeptNames A.names here_names s.world (v1 k n)
      kept_here o j h = (away_more A.names (Here (length t.world.store.objects) ∷ []) o j h, λ l. (ap (λ w. w.lives) (sym (before k o j h)) ∙ l, λ g. still o j h g (decide j k)))
        where
          still : (o j : ℕ) → name_at A.names o ≡ Away j → local_object s.world.store.locals j ≡ Some o → (j ≡ k) ⊎ (j ≡ k → ⊥) → local_object (set s.world.store.locals k (Some n)) j ≡ Some o
          still o j h g (inr f) = local_off s.world.store.locals k n j f ∙ g
          still o j h g (inl f) = absurd (no (A.locals k lt p))
            where
              no : LocalKnown A.names (local_object s.world.store.locals k) (local_object t.world.store.locals k) → ⊥
              no q = let r = subst (λ w. LocalKnown A.names w (local_object t.world.store.locals k)) (ap (local_object s.world.store.locals) (sym f) ∙ g) q in away_not_here A.names o o j r.0 h r.1 refl

      spare_here : (j q : ℕ) → (X κ.fn).held j ≡ true → local_object (set t.world.store.locals k (Some n')) j ≡ Some q → (q < length (t.world.store.objects ++ y1 k ∷ [])) × ((o : ℕ) → IsHere here_names o q → ⊥)
      spare_here j q h l =
          let g = A.spare j q h (sym (local_off t.world.store.locals k n' j (off j h)) ∙ l) in
          let b = longer k in
          (omega (arith, g.0, b), λ o w. none o (here_new A.names (length t.world.store.objects) o q w) g)
        where
          none : (o : ℕ) → (name_at A.names o ≡ Here q) ⊎ (length t.world.store.objects ≡ q) → (q < length t.world.store.objects) × ((o : ℕ) → IsHere A.names o q → ⊥) → ⊥
          none o (inl w) g = g.1 o w
          none o (inr w) g = omega (arith, w, g.0)

      holds_here : (j o : ℕ) → (X κ.fn).held j ≡ true → local_object s.world.store.locals j ≡ Some o → (object_at (s.world.store.objects ++ x1 k ∷ []) o).lives ≡ true → Holds here_names ((X κ.fn).size j) (object_at (s.world.store.objects ++ x1 k ∷ []) o) (λ w. t.cells ((X κ.fn).variable j w))
      holds_here j o h l v =
          let w = before k o j (A.hidden j o h l).0 in
          let g = A.holds j o h l (ap (λ u. u.lives) (sym w) ∙ v) in
          subst (λ u. Holds here_names ((X κ.fn).size j) u (λ c. t.cells ((X κ.fn).variable j c))) (sym w) (record { kind = g.kind; long = g.long; cell = λ c m. known_more A.names (Here (length t.world.store.objects) ∷ []) _ _ (g.cell c m) })

      locals_here : (j : ℕ) → j < count_of z κ.fn → (X κ.fn).held j ≡ false → (j ≡ k) ⊎ (j ≡ k → ⊥) → LocalKnown here_names (local_object (set s.world.store.locals k (Some n)) j) (local_object (set t.world.store.locals k (Some n')) j)
      locals_here j jl h (inl f) =
          let a : local_object (set s.world.store.locals k (Some n)) j ≡ Some n = ap (local_object (set s.world.store.locals k (Some n))) f ∙ local_on s.world.store.locals k n (subst (λ l. k < l) (sym A.count) lt) in
          let b : local_object (set t.world.store.locals k (Some n')) j ≡ Some n' = ap (local_object (set t.world.store.locals k (Some n'))) f ∙ local_on t.world.store.locals k n' (subst (λ l. k < l) (sym A.count') lt) in
          subst (λ w. LocalKnown here_names w (local_object (set t.world.store.locals k (Some n')) j)) (sym a) (length t.world.store.objects, ap (name_at here_names) (e ∙ sym A.core.mem.long) ∙ name_last A.names (Here (length t.world.store.objects)), b ∙ ap Some e')
      locals_here j jl h (inr f) = subst (λ w. LocalKnown here_names w (local_object (set t.world.store.locals k (Some n')) j)) (sym (local_off s.world.store.locals k n j f)) (subst (λ w. LocalKnown here_names (local_object s.world.store.locals j) w) (sym (local_off t.world.store.locals k n' j f)) (local_more A.names (Here (length t.world.store.objects) ∷ []) (local_object s.world.store.locals j) (local_object t.world.store.locals j) (A.locals j jl h)))

      same_words : words_here (sizes_of y frames) t.world.store.function k ≡ words_here z s.world.store.function k
      same_words = ap (λ w. words_here (sizes_of y frames) w k) A.fn' ∙ by κ.fn ∙ ap (λ w. words_here z w k) (sym A.fn)
        where
          by : (f : Option ℕ) → words_here (sizes_of y frames) f k ≡ words_here z f k
          by None = refl
          by (Some g) = ap (λ l. get_or l k 0) (F.locals g)

      -- another local is made
      pub new_here : M κ i (in_world (v1 k n) s) (in_world (on_store (with_made (y1 k) k n') t.world) t)
      new_here = record {
        names = here_names;
        core = core_here opened κ A.names s.world.store.objects t.world.store.objects A.core (x1 k) (y1 k) (twin_made (IsHere A.names) (words_here z s.world.store.function k) (words_here (sizes_of y frames) t.world.store.function k) same_words);
        answers = A.answers;
        events = A.events;
        work = A.work;
        fn = A.fn;
        fn' = A.fn';
        used = A.used;
        count = set_length s.world.store.locals k (Some n) ∙ A.count;
        count' = set_length t.world.store.locals k (Some n') ∙ A.count';
        known = λ q g. tells_kept A.names here_names s.world (v1 k n) (i q) (s.cells q) (t.cells q) (known_more A.names (Here (length t.world.store.objects) ∷ []) (s.cells q) (t.cells q)) kept_here (A.known q g);
        hidden = λ j o h l. (let g = A.hidden j o h (off_here j o h l) in (away_more A.names (Here (length t.world.store.objects) ∷ []) o j g.0, g.1));
        spare = λ j q h l. spare_here j q h l;
        holds = λ j o h l v. holds_here j o h (off_here j o h l) v;
        locals = λ j jl h. locals_here j jl h (decide j k);
      }
