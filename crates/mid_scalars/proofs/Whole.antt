-- The pass over a whole program.
use Rattle.std.proofs.Common.{◌≡◌, ℕ, zero, suc, ◌+◌, ◌<◌, ◌≤◌, Bool, true, false, cond, List, [], ◌∷◌, ◌++◌, map, length, get_or, replicate, Option, Some, None, refl, sym, ap, ◌∙◌, subst, arith, length-append}
use Rattle.obj_mem.specs.declared.cell.Cell.{Cell}
use Rattle.obj_mem.specs.declared.cell.Cell.TheVariants.{Unwritten, Num, Ptr, Null}
use Rattle.obj_mem.specs.Objects.{ObjectT, object_at, cell_at, ended, opening_objects, global_object, literal_object, card_object}
use Rattle.mid_code.specs.Code.{OpT, ConstO, NullO, MoveO, OneO, TwoO, GlobalO, LocalO, LiteralO, CardO, StepO, ApartO, PtrTestO, LoadO, StoreO, FreshO, EndO, InO, OutO, WaitO, HaltO, NodesT, Stop, Do, Call, Choose, Block, Loop, Leave, Again, Return, CodeT}
use Rattle.mid_code.specs.States.{temporaries, function_at, op_weight}
use Rattle.mid_code.specs.Runs.{opening, mid_runs, nodes_weight}
use Rattle.mid_code.specs.Keeps.{KeepsRuns, WorksAtMost}
use Rattle.mid_code.specs.inner.Passing.{doing, Like}
use Rattle.mid_code.specs.inner.Alike.{Known, Twin}
use Rattle.mid_code.specs.inner.Programs.{Program}
use Rattle.mid_code.proofs.Programs.{program_keeps, program_works}
use Rattle.mid_scalars.specs.inner.Plan.{Kind, Own, Address, Variable, Plan, by_kind, promoted_op, promoted_nodes}
use Rattle.mid_scalars.specs.inner.Named.{Name, Away, Here, name_at, IsHere, Begun, Core, Fits, Alive, promoting}
use Rattle.mid_scalars.specs.inner.Promoted.{IsPromotion}
use Rattle.mid_scalars.proofs.Growing.{later_self}
use Rattle.mid_scalars.proofs.Promoted.{keeps, like}

-- ---- where a run begins: all objects are there under their own numbers

abbrev pub ids : ℕ → ℕ → List Name
ids i zero = []
ids i (suc n) = Here i ∷ ids (suc i) n

ids_length : (i n : ℕ) → length (ids i n) ≡ n
ids_length i zero = refl
ids_length i (suc n) = ap suc (ids_length (suc i) n)

ids_at : (i n o : ℕ) → o < n → name_at (ids i n) o ≡ Here (i + o)
ids_at i zero o lt = absurd (omega (arith, lt))
ids_at i (suc n) zero lt = ap Here (omega arith)
ids_at i (suc n) (suc o) lt = ids_at (suc i) n o (omega (arith, lt)) ∙ ap Here (omega arith)

ids_is : (i n o p : ℕ) → name_at (ids i n) o ≡ Here p → (p ≡ i + o) × (o < n)
ids_is i zero o p e = absurd (cc)
ids_is i (suc n) zero p e = (go (cc), omega arith)
  where
    go : i ≡ p → p ≡ i + 0
    go h = omega (arith, h)
ids_is i (suc n) (suc o) p e = let h = ids_is (suc i) n o p e in (omega (arith, h.0), omega (arith, h.1))

ids_away : (i n o k : ℕ) → name_at (ids i n) o ≡ Away k → ⊥
ids_away i zero o k e = cc
ids_away i (suc n) zero k e = cc
ids_away i (suc n) (suc o) k e = ids_away (suc i) n o k e

-- ---- no cell is a pointer

abbrev NoPointer : Cell → Type 0
NoPointer Unwritten = Unit {0}
NoPointer (Num n) = Unit {0}
NoPointer (Ptr o i) = ⊥
NoPointer Null = Unit {0}

known_self : (N : ℕ → ℕ → Type 0) (c : Cell) → NoPointer c → Known N c c
known_self N Unwritten h = tt
known_self N (Num n) h = refl
known_self N (Ptr o i) h = absurd h
known_self N Null h = refl

abbrev Clean : ObjectT → Type 0
Clean x = (i : ℕ) → NoPointer (cell_at x i)

abbrev AllClean : List ObjectT → Type 0
AllClean [] = Unit {0}
AllClean (x ∷ xs) = Clean x × AllClean xs

clean_none : Clean ended
clean_none i = tt

clean_at : (xs : List ObjectT) → AllClean xs → (o : ℕ) → Clean (object_at xs o)
clean_at [] h o = clean_none
clean_at (x ∷ xs) h zero = h.0
clean_at (x ∷ xs) h (suc o) = clean_at xs h.1 o

clean_both : (xs ys : List ObjectT) → AllClean xs → AllClean ys → AllClean (xs ++ ys)
clean_both [] ys h g = g
clean_both (x ∷ xs) ys h g = (h.0, clean_both xs ys h.1 g)

clean_zeros : (n i : ℕ) → NoPointer (get_or (replicate n (Num 0)) i Unwritten)
clean_zeros zero i = tt
clean_zeros (suc n) zero = tt
clean_zeros (suc n) (suc i) = clean_zeros n i

clean_words : (ws : List ℕ) (i : ℕ) → NoPointer (get_or (map Num ws) i Unwritten)
clean_words [] i = tt
clean_words (w ∷ ws) zero = tt
clean_words (w ∷ ws) (suc i) = clean_words ws i

clean_globals : (sizes : List ℕ) → AllClean (map global_object sizes)
clean_globals [] = tt
clean_globals (s ∷ sizes) = (clean_zeros s, clean_globals sizes)

clean_literals : (texts : List (List ℕ)) → AllClean (map literal_object texts)
clean_literals [] = tt
clean_literals (t ∷ texts) = (clean_words (t ++ 0 ∷ []), clean_literals texts)

clean_card : (card : Option (List ℕ)) → Clean (card_object card)
clean_card None i = tt
clean_card (Some ws) i = clean_words ws i

clean_opening : (globals : List ℕ) (literals : List (List ℕ)) (card : Option (List ℕ)) → AllClean (opening_objects globals literals card)
clean_opening globals literals card = clean_both (map global_object globals) (map literal_object literals ++ card_object card ∷ []) (clean_globals globals) (clean_both (map literal_object literals) (card_object card ∷ []) (clean_literals literals) (clean_card card, tt))

map_length : {A B : Type 0} (f : A → B) (xs : List A) → length (map f xs) ≡ length xs
map_length f [] = refl
map_length f (x ∷ xs) = ap suc (map_length f xs)

opening_length : (globals : List ℕ) (literals : List (List ℕ)) (card : Option (List ℕ)) → length (opening_objects globals literals card) ≡ suc (length globals + length literals)
opening_length globals literals card =
    let a = length-append (map global_object globals) (map literal_object literals ++ card_object card ∷ []) in
    let b = length-append (map literal_object literals) (card_object card ∷ []) in
    let c = map_length global_object globals in
    let d = map_length literal_object literals in
    omega (arith, a, b, c, d)

module _ (x : CodeT ℕ) where
  abbrev pub objects_opened : ℕ
  objects_opened = suc (length x.globals + length x.literals)

  -- what the start begins with
  abbrev pub start_begun : Begun
  start_begun = record { fn = None; names = ids 0 objects_opened; objects = []; base = objects_opened }

  abbrev os : Option (List ℕ) → List ObjectT
  os card = opening_objects x.globals x.literals card

  pub opens : (card : Option (List ℕ)) → Core objects_opened start_begun (ids 0 objects_opened) (os card) (os card)
  opens card = record {
    later = later_self (ids 0 objects_opened) objects_opened;
    base_in = let e = opening_length x.globals x.literals card in omega (arith, e);
    mem = record {
      long = ids_length 0 objects_opened ∙ sym (opening_length x.globals x.literals card);
      below = λ o p h. let e = ids_is 0 objects_opened o p h in let f = opening_length x.globals x.literals card in omega (arith, e.0, e.1, f);
      one = λ o q p h g. let a = ids_is 0 objects_opened o p h in let b = ids_is 0 objects_opened q p g in omega (arith, a.0, b.0);
      twin = λ o p h. let e : p ≡ o = omega (arith, (ids_is 0 objects_opened o p h).0) in subst (λ w. Twin (IsHere (ids 0 objects_opened)) (object_at (os card) o) (object_at (os card) w)) (sym e) (record { kind = refl; lives = refl; long = refl; cells = λ i. known_self (IsHere (ids 0 objects_opened)) (cell_at (object_at (os card) o) i) (clean_at (os card) (clean_opening x.globals x.literals card) o i) });
    };
    frozen = λ o k h. absurd (ids_away 0 objects_opened o k h);
    fixed = λ o lt. ids_at 0 objects_opened o lt ∙ ap Here (omega arith);
  }

module _ (X : Plan) (x y : CodeT ℕ) (frames : List ℕ) (P : IsPromotion X x y frames) where
  abbrev F : Fits X x y frames
  F = P.fits

  abbrev κ0 : Begun
  κ0 = start_begun x

  none_promoted : (k : ℕ) → X.promoted None k ≡ true → ⊥
  none_promoted k e = let h = F.in_range None k e in omega (arith, h)

  none_some : (o : ℕ) → None ≡ Some o → ⊥
  none_some o e = cc

  -- the states at the opening, where the second has the globals and literals of the first
  alike : (answers : List ℕ) (card : Option (List ℕ)) → Alive X x y frames κ0 (opening x answers card) (opening x answers card)
  alike answers card = record {
    names = ids 0 (objects_opened x);
    core = opens x card;
    answers = refl;
    events = refl;
    work = omega arith;
    fn = refl;
    fn' = refl;
    used = refl;
    count = refl;
    count' = refl;
    own = λ q h. tt;
    address = λ q k h. tt;
    hidden = λ k o h e. absurd (none_promoted k h);
    variable = λ k o h e l. absurd (none_promoted k h);
    locals = λ k lt h. refl;
  }

  opening_same : (answers : List ℕ) (card : Option (List ℕ)) → opening {P = ℕ} y answers card ≡ opening x answers card
  opening_same answers card = ap (λ gs. opening {P = ℕ} (record y { globals = gs }) answers card) F.globals ∙ ap (λ ls. opening {P = ℕ} (record x { literals = ls }) answers card) F.literals

  program : Program temporaries temporaries x y frames frames (promoting X x y frames)
  program = record {
    keeps = keeps X x y frames F (λ g. subst (λ c. Like (promoting X x y frames) (Some g) [] tt (function_at x g).body c tt) (sym (P.bodies g)) (like X x y frames F (Some g) [] (function_at x g).body (P.good g)));
    ev = λ s. refl;
    ev' = λ t. refl;
    globals = ap length F.globals;
    literals = ap length F.literals;
    main = F.main;
    begun = κ0;
    of_start = refl;
    start = subst (λ c. Like (promoting X x y frames) None [] tt x.start.body c tt) (sym P.start) (like X x y frames F None [] x.start.body P.start_good);
    opening = λ answers card is. subst (Alive X x y frames κ0 (opening x answers card)) (sym (opening_same answers card)) (alike answers card);
    goes = λ s t g. g.alive;
    call = (refl, refl, tt, tt);
    ended = λ s t k. k;
    out = λ s t k. k;
    deep = λ s t k. k;
  }

-- Promoted code keeps the runs, whatever the sizes of the frames.
pub promotion_keeps : (X : Plan) (x y : CodeT ℕ) (frames : List ℕ) → IsPromotion X x y frames → KeepsRuns (mid_runs x frames) (mid_runs y frames)
promotion_keeps X x y frames P = program_keeps temporaries temporaries x y frames frames (promoting X x y frames) (program X x y frames P)

-- It does no more work.
pub promotion_works : (X : Plan) (x y : CodeT ℕ) (frames : List ℕ) → IsPromotion X x y frames → WorksAtMost 1 (mid_runs x frames) (mid_runs y frames)
promotion_works X x y frames P = program_works temporaries temporaries x y frames frames (promoting X x y frames) (program X x y frames P)

-- ---- weight

op_lighter : (X : Plan) (f : Option ℕ) (o : OpT ℕ) (c : NodesT ℕ) (n : ℕ) → nodes_weight c ≤ n → nodes_weight (doing (promoted_op X f o) c) ≤ op_weight o + n
op_lighter X f (ConstO t word) c m h = omega (arith, h)
op_lighter X f (NullO t) c m h = omega (arith, h)
op_lighter X f (MoveO t a) c m h = omega (arith, h)
op_lighter X f (OneO o t a) c m h = omega (arith, h)
op_lighter X f (TwoO o t a b) c m h = omega (arith, h)
op_lighter X f (GlobalO t number) c m h = omega (arith, h)
op_lighter X f (LiteralO t number) c m h = omega (arith, h)
op_lighter X f (CardO t) c m h = omega (arith, h)
op_lighter X f (StepO t p n) c m h = omega (arith, h)
op_lighter X f (ApartO t p q) c m h = omega (arith, h)
op_lighter X f (PtrTestO o t p q) c m h = omega (arith, h)
op_lighter X f (InO t port) c m h = omega (arith, h)
op_lighter X f (OutO port a) c m h = omega (arith, h)
op_lighter X f WaitO c m h = omega (arith, h)
op_lighter X f HaltO c m h = omega (arith, h)
op_lighter X f (LocalO t k) c n h = go (X.promoted f k)
  where
    go : (b : Bool) → nodes_weight (doing (cond b [] (LocalO t (X.moved f k) ∷ [])) c) ≤ 8 + n
    go true = omega (arith, h)
    go false = omega (arith, h)
op_lighter X f (LoadO t p) c n h = go (X.kind f p)
  where
    go : (b : Kind) → nodes_weight (doing (by_kind b (LoadO t p ∷ []) (λ k. MoveO t (X.variable f k) ∷ [])) c) ≤ 8 + n
    go Own = omega (arith, h)
    go (Address k) = omega (arith, h)
    go (Variable k) = omega (arith, h)
op_lighter X f (StoreO p a) c n h = go (X.kind f p)
  where
    go : (b : Kind) → nodes_weight (doing (by_kind b (StoreO p a ∷ []) (λ k. MoveO (X.variable f k) a ∷ [])) c) ≤ 8 + n
    go Own = omega (arith, h)
    go (Address k) = omega (arith, h)
    go (Variable k) = omega (arith, h)
op_lighter X f (FreshO k) c n h = go (X.promoted f k)
  where
    go : (b : Bool) → nodes_weight (doing (cond b [] (FreshO (X.moved f k) ∷ [])) c) ≤ 0 + n
    go true = omega (arith, h)
    go false = omega (arith, h)
op_lighter X f (EndO k) c n h = go (X.promoted f k)
  where
    go : (b : Bool) → nodes_weight (doing (cond b [] (EndO (X.moved f k) ∷ [])) c) ≤ 0 + n
    go true = omega (arith, h)
    go false = omega (arith, h)

pub lighter : (X : Plan) (f : Option ℕ) (c : NodesT ℕ) → nodes_weight (promoted_nodes X f c) ≤ nodes_weight c
lighter X f Stop = omega arith
lighter X f (Do o c) = op_lighter X f o (promoted_nodes X f c) (nodes_weight c) (lighter X f c)
lighter X f (Call t g args c) = let h = lighter X f c in omega (arith, h)
lighter X f (Choose p a b c) = let d = lighter X f a in let e = lighter X f b in let h = lighter X f c in omega (arith, d, e, h)
lighter X f (Block b c) = let a = lighter X f b in let h = lighter X f c in omega (arith, a, h)
lighter X f (Loop b c) = let a = lighter X f b in let h = lighter X f c in omega (arith, a, h)
lighter X f (Leave k c) = let h = lighter X f c in omega (arith, h)
lighter X f (Again k c) = let h = lighter X f c in omega (arith, h)
lighter X f (Return p c) = let h = lighter X f c in omega (arith, h)
