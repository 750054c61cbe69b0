-- What `place` gives is placed code.
use Rattle.std.proofs.Common.{◌≡◌, ℕ, zero, suc, ◌<◌, ◌≤◌, Bool, true, false, eqb, List, [], ◌∷◌, map, length, slice_get, option_map, Option, Some, None, refl, sym, ap, ◌∙◌, subst, arith}
use Rattle.mid_code.specs.declared.placed.Where.{Where}
use Rattle.mid_code.specs.declared.placed.Where.TheVariants.{Reg, Slot}
use Rattle.mid_code.specs.Code.{OpT, ConstO, NullO, MoveO, OneO, TwoO, GlobalO, LocalO, LiteralO, CardO, StepO, ApartO, PtrTestO, LoadO, StoreO, FreshO, EndO, InO, OutO, WaitO, HaltO, NodesT, Stop, Do, Call, Choose, Block, Loop, Leave, Again, Return, FunctionT, CodeT, uses, target, maybe}
use Rattle.mid_code.specs.Live.{is_among}
use Rattle.mid_code.specs.Safe.{place_of, IsChosen, AllPlaces, IsSafe}
use Rattle.mid_code.specs.Invariants.{IsOp, IsCall, AreNodes, AllOf, Names, CallsNone, DifferFrom, AreDifferent, IsFunction, IsTemporary, IsMid, IsPlace, HasSlot, AllSpots, IsStartPlace, IsPlaced}
use Rattle.reg_frames.specs.inner.Placing.{placed_op, placed_maybe, placed_nodes, placed_function, renumbered, placing, spots_of, placed_functions, frame_sizes, all_spots, placed_code, placed}
use Rattle.mid_code.specs.Choices.{slots_named, slot_count, EachSafe}
use Rattle.reg_frames.proofs.Moving.{among_first, or_right}
use Rattle.reg_frames.proofs.Slots.{index_below, slot_named, placing_one, named_count}
use Rattle.reg_frames.proofs.Frames.{are_spots, rising_length}

map_length : {A B : Type 0} (f : A → B) (xs : List A) → length (map f xs) ≡ length xs
map_length f [] = refl
map_length f (x ∷ xs) = ap suc (map_length f xs)

-- ---- names

module _ (w : ℕ → Where) where
  uses_placed : (o : OpT ℕ) → uses (placed_op w o) ≡ map w (uses o)
  uses_placed (ConstO t word) = refl
  uses_placed (NullO t) = refl
  uses_placed (MoveO t a) = refl
  uses_placed (OneO o t a) = refl
  uses_placed (TwoO o t a b) = refl
  uses_placed (GlobalO t number) = refl
  uses_placed (LocalO t number) = refl
  uses_placed (LiteralO t number) = refl
  uses_placed (CardO t) = refl
  uses_placed (StepO t p n) = refl
  uses_placed (ApartO t p q) = refl
  uses_placed (PtrTestO o t p q) = refl
  uses_placed (LoadO t p) = refl
  uses_placed (StoreO p a) = refl
  uses_placed (FreshO number) = refl
  uses_placed (EndO number) = refl
  uses_placed (InO t port) = refl
  uses_placed (OutO port a) = refl
  uses_placed WaitO = refl
  uses_placed HaltO = refl

  target_placed : (o : OpT ℕ) → maybe (target (placed_op w o)) ≡ map w (maybe (target o))
  target_placed (ConstO t word) = refl
  target_placed (NullO t) = refl
  target_placed (MoveO t a) = refl
  target_placed (OneO o t a) = refl
  target_placed (TwoO o t a b) = refl
  target_placed (GlobalO t number) = refl
  target_placed (LocalO t number) = refl
  target_placed (LiteralO t number) = refl
  target_placed (CardO t) = refl
  target_placed (StepO t p n) = refl
  target_placed (ApartO t p q) = refl
  target_placed (PtrTestO o t p q) = refl
  target_placed (LoadO t p) = refl
  target_placed (StoreO p a) = refl
  target_placed (FreshO number) = refl
  target_placed (EndO number) = refl
  target_placed (InO t port) = refl
  target_placed (OutO port a) = refl
  target_placed WaitO = refl
  target_placed HaltO = refl

  maybe_placed : (t : Option ℕ) → maybe (placed_maybe w t) ≡ map w (maybe t)
  maybe_placed None = refl
  maybe_placed (Some t) = refl

  module _ (Q : ℕ → Type 0) (R : Where → Type 0) (f : (t : ℕ) → Q t → R (w t)) where
    pub all_placed : (ts : List ℕ) → AllOf Q ts → AllOf R (map w ts)
    all_placed [] n = tt
    all_placed (t ∷ ts) n = (f t n.0, all_placed ts n.1)

    pub names_placed : (c : NodesT ℕ) → Names Q c → Names R (placed_nodes w c)
    names_placed Stop n = tt
    names_placed (Do o c) n = ((subst (AllOf R) (sym (uses_placed o)) (all_placed (uses o) n.0.0), subst (AllOf R) (sym (target_placed o)) (all_placed (maybe (target o)) n.0.1)), names_placed c n.1)
    names_placed (Call t g args c) n = ((all_placed args n.0.0, subst (AllOf R) (sym (maybe_placed t)) (all_placed (maybe t) n.0.1)), names_placed c n.1)
    names_placed (Choose p a b c) n = ((all_placed (p ∷ []) n.0.0, tt), names_placed a n.1, names_placed b n.2, names_placed c n.3)
    names_placed (Block b c) n = (names_placed b n.0, names_placed c n.1)
    names_placed (Loop b c) n = (names_placed b n.0, names_placed c n.1)
    names_placed (Leave k c) n = names_placed c n
    names_placed (Again k c) n = names_placed c n
    names_placed (Return p c) n = ((subst (AllOf R) (sym (maybe_placed p)) (all_placed (maybe p) n.0.0), tt), names_placed c n.1)

  none_called : (c : NodesT ℕ) → CallsNone c → CallsNone (placed_nodes w c)
  none_called Stop n = tt
  none_called (Do o c) n = none_called c n
  none_called (Call t g args c) n = n
  none_called (Choose p a b c) n = (none_called a n.0, none_called b n.1, none_called c n.2)
  none_called (Block b c) n = (none_called b n.0, none_called c n.1)
  none_called (Loop b c) n = (none_called b n.0, none_called c n.1)
  none_called (Leave k c) n = none_called c n
  none_called (Again k c) n = none_called c n
  none_called (Return p c) n = none_called c n

  differ_placed : (ps : List ℕ) (p : ℕ) → ((q : ℕ) → is_among ps q ≡ true → w p ≡ w q → p ≡ q) → DifferFrom p ps → DifferFrom (w p) (map w ps)
  differ_placed [] p a d = tt
  differ_placed (q ∷ ps) p a d = ((λ e. d.0 (a q (among_first q ps) e)), differ_placed ps p (λ r e. a r (or_right (eqb q r) (is_among ps r) e)) d.1)

  different_placed : (ps : List ℕ) → ((p q : ℕ) → is_among ps p ≡ true → is_among ps q ≡ true → w p ≡ w q → p ≡ q) → AreDifferent ps → AreDifferent (map w ps)
  different_placed [] a d = tt
  different_placed (p ∷ ps) a d = (differ_placed ps p (λ q e. a p q (among_first p ps) (or_right (eqb p q) (is_among ps q) e)) d.0, different_placed ps (λ q r e f. a q r (or_right (eqb p q) (is_among ps q) e) (or_right (eqb p r) (is_among ps r) f)) d.1)

-- ---- places

chosen_place : (ws : List Where) (t : ℕ) → AllPlaces IsChosen ws → t < length ws → (f : FunctionT Where) → IsPlace f (placing ws t)
chosen_place ws t h lt f = go (place_of ws t) (at ws t h lt)
  where
    at : (us : List Where) (i : ℕ) → AllPlaces IsChosen us → i < length us → IsChosen (place_of us i)
    at [] i a b = absurd (omega (arith, b))
    at (u ∷ us) zero a b = a.0
    at (u ∷ us) (suc i) a b = at us i a.1 (omega (arith, b))

    go : (p : Where) → IsChosen p → IsPlace f (renumbered (slots_named ws) p)
    go (Reg n) i = i
    go (Slot n) i = tt

has_slot : (ws : List Where) (f : FunctionT ℕ) (t : ℕ) → t < length ws → HasSlot (spots_of ws f) (placing ws t)
has_slot ws f t lt = go (place_of ws t) refl
  where
    go : (p : Where) → place_of ws t ≡ p → HasSlot (spots_of ws f) (renumbered (slots_named ws) (place_of ws t))
    go (Reg n) e = subst (λ p. HasSlot (spots_of ws f) (renumbered (slots_named ws) p)) (sym e) tt
    go (Slot n) e = subst (λ p. HasSlot (spots_of ws f) (renumbered (slots_named ws) p)) (sym e) (let a = index_below (slots_named ws) n (slot_named ws t n lt e) in let b = rising_length 0 (slot_count ws) in omega (arith, a, b))

start_slot : (ws : List Where) (t : ℕ) → length ws ≤ 1000000 → t < length ws → IsStartPlace (placing ws t)
start_slot ws t le lt = go (place_of ws t) refl
  where
    go : (p : Where) → place_of ws t ≡ p → IsStartPlace (renumbered (slots_named ws) (place_of ws t))
    go (Reg n) e = subst (λ p. IsStartPlace (renumbered (slots_named ws) p)) (sym e) tt
    go (Slot n) e = subst (λ p. IsStartPlace (renumbered (slots_named ws) p)) (sym e) (let a = index_below (slots_named ws) n (slot_named ws t n lt e) in let b = named_count ws in omega (arith, a, b, le))

-- ---- programs

-- functions keep their parameters
counts_same : (wss : List (List Where)) (fs : List (FunctionT ℕ)) (g : ℕ) → option_map (λ f. length f.params) (slice_get (placed_functions wss fs) g) ≡ option_map (λ f. length f.params) (slice_get fs g)
counts_same wss [] g = refl
counts_same [] (f ∷ fs) zero = ap Some (map_length (placing []) f.params)
counts_same [] (f ∷ fs) (suc g) = counts_same [] fs g
counts_same (ws ∷ wss) (f ∷ fs) zero = ap Some (map_length (placing ws) f.params)
counts_same (ws ∷ wss) (f ∷ fs) (suc g) = counts_same wss fs g

module _ (x : CodeT ℕ) (start : List Where) (wss : List (List Where)) where
  abbrev Y : CodeT Where
  Y = placed_code start wss x

  module _ (w : ℕ → Where) (m : ℕ) where
    op_placed : (o : OpT ℕ) → IsOp x m o → IsOp Y m (placed_op w o)
    op_placed (ConstO t word) i = i
    op_placed (NullO t) i = i
    op_placed (MoveO t a) i = i
    op_placed (OneO o t a) i = i
    op_placed (TwoO o t a b) i = i
    op_placed (GlobalO t number) i = i
    op_placed (LocalO t number) i = i
    op_placed (LiteralO t number) i = i
    op_placed (CardO t) i = i
    op_placed (StepO t p n) i = i
    op_placed (ApartO t p q) i = i
    op_placed (PtrTestO o t p q) i = i
    op_placed (LoadO t p) i = i
    op_placed (StoreO p a) i = i
    op_placed (FreshO number) i = i
    op_placed (EndO number) i = i
    op_placed (InO t port) i = i
    op_placed (OutO port a) i = i
    op_placed WaitO i = i
    op_placed HaltO i = i

    call_placed : (g : ℕ) (args : List ℕ) → IsCall x g args → IsCall Y g (map w args)
    call_placed g args c = counts_same wss x.functions g ∙ c ∙ ap Some (sym (map_length w args))

    nodes_placed : (ls : List Bool) (c : NodesT ℕ) → AreNodes x m ls c → AreNodes Y m ls (placed_nodes w c)
    nodes_placed ls Stop n = tt
    nodes_placed ls (Do o c) n = (op_placed o n.0, nodes_placed ls c n.1)
    nodes_placed ls (Call t g args c) n = (call_placed g args n.0, nodes_placed ls c n.1)
    nodes_placed ls (Choose p a b c) n = (nodes_placed ls a n.0, nodes_placed ls b n.1, nodes_placed ls c n.2)
    nodes_placed ls (Block b c) n = (nodes_placed (false ∷ ls) b n.0, nodes_placed ls c n.1)
    nodes_placed ls (Loop b c) n = (nodes_placed (true ∷ ls) b n.0, nodes_placed ls c n.1)
    nodes_placed ls (Leave k c) n = (n.0, nodes_placed ls c n.1)
    nodes_placed ls (Again k c) n = (n.0, nodes_placed ls c n.1)
    nodes_placed ls (Return p c) n = nodes_placed ls c n

  pub function_placed : (ws : List Where) (f : FunctionT ℕ) → IsSafe f ws → IsFunction IsTemporary x f → IsFunction IsPlace Y (placed_function (placing ws) f)
  function_placed ws f s i = record {
    nodes = nodes_placed (placing ws) (length f.locals) [] f.body i.nodes;
    names = names_placed (placing ws) (IsTemporary f) (IsPlace (placed_function (placing ws) f)) (λ t lt. chosen_place ws t s.chosen (subst (λ n. t < n) (sym s.count) lt) (placed_function (placing ws) f)) f.body i.names;
    params_named = all_placed (placing ws) (IsTemporary f) (IsPlace (placed_function (placing ws) f)) (λ t lt. chosen_place ws t s.chosen (subst (λ n. t < n) (sym s.count) lt) (placed_function (placing ws) f)) f.params i.params_named;
    params_differ = different_placed (placing ws) f.params (λ p q a b e. s.params p q a b (placing_one ws p q e)) i.params_differ;
    count = i.count;
    sizes = i.sizes;
    words = i.words;
  }

  functions_placed : (fs : List (FunctionT ℕ)) (vs : List (List Where)) → EachSafe fs vs → AllOf (IsFunction IsTemporary x) fs → AllOf (IsFunction IsPlace Y) (placed_functions vs fs)
  functions_placed [] [] s i = tt
  functions_placed [] (v ∷ vs) s i = absurd s
  functions_placed (f ∷ fs) [] s i = absurd s
  functions_placed (f ∷ fs) (v ∷ vs) s i = (function_placed v f s.0 i.0, functions_placed fs vs s.1 i.1)

  spots_placed : (fs : List (FunctionT ℕ)) (vs : List (List Where)) → EachSafe fs vs → AllOf (IsFunction IsTemporary x) fs → AllSpots (frame_sizes vs fs) (placed_functions vs fs) (all_spots vs fs)
  spots_placed [] [] s i = tt
  spots_placed [] (v ∷ vs) s i = absurd s
  spots_placed (f ∷ fs) [] s i = absurd s
  spots_placed (f ∷ fs) (v ∷ vs) s i = (
    are_spots v f,
    names_placed (placing v) (IsTemporary f) (HasSlot (spots_of v f)) (λ t lt. has_slot v f t (subst (λ n. t < n) (sym s.0.count) lt)) f.body i.0.names,
    all_placed (placing v) (IsTemporary f) (HasSlot (spots_of v f)) (λ t lt. has_slot v f t (subst (λ n. t < n) (sym s.0.count) lt)) f.params i.0.params_named,
    spots_placed fs vs s.1 i.1,
  )

  -- What is made of mid code by safe choices is placed code.
  pub placed_is : IsMid x → IsSafe x.start start → EachSafe x.functions wss → IsPlaced (placed start wss x)
  placed_is m s a =
      let i = m.start.function in
      record {
        code = record {
          start = record {
            function = function_placed start x.start s i;
            params = ap (map (placing start)) m.start.params;
            locals = m.start.locals;
            gives = m.start.gives;
            calls = none_called (placing start) x.start.body m.start.calls;
          };
          functions = functions_placed x.functions wss a m.functions;
          globals = m.globals;
          main = counts_same wss x.functions x.main ∙ m.main;
        };
        spots = spots_placed x.functions wss a m.functions;
        start = names_placed (placing start) (IsTemporary x.start) IsStartPlace (λ t lt. start_slot start t (let b = i.count in let c = s.count in omega (arith, b, c)) (subst (λ n. t < n) (sym s.count) lt)) x.start.body i.names;
      }
