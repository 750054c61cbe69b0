-- Placed code is placed code: its names, its slots, its frames, its weight.
use Rattle.std.proofs.Common.{◌≡◌, ℕ, zero, suc, ◌+◌, ◌<◌, ◌≤◌, ◌⊎◌, inl, inr, List, [], ◌∷◌, map, length, sum, slice_get, Some, refl, sym, ap, ◌∙◌, arith, Bool, true, false, ◌||◌, eqb}
use Rattle.std.specs.Prelude.{sum_by}
use Rattle.std.specs.List.{fold}
use Rattle.std.proofs.lemmas.List.Sums.{sum_by-cons}
use Rattle.std.proofs.lemmas.Bool.{eqb-true, eq-eqb}
use Rattle.mid_code.specs.Live.{is_among}
use Rattle.mid_code.specs.declared.placed.Where.{Where}
use Rattle.mid_code.specs.Code.{OpT, ConstO, NullO, MoveO, OneO, TwoO, GlobalO, LocalO, LiteralO, CardO, StepO, ApartO, PtrTestO, LoadO, StoreO, FreshO, EndO, InO, OutO, WaitO, HaltO, NodesT, Stop, Do, Call, Choose, Block, Loop, Leave, Again, Return, FunctionT, CodeT}
use Rattle.mid_code.specs.Meaning.{node_weight}
use Rattle.mid_code.specs.States.{op_weight}
use Rattle.mid_code.specs.Runs.{nodes_weight, function_weight, weight}
use Rattle.mid_code.specs.Calls.{loops, CallsTo, AddsNone, NoneAdd}
use Rattle.mid_code.specs.Invariants.{SpotWord, OfSlot, OfLocal, OfEmitter, StandsAt, slot, local, emitter, AreSpots, AllOf, DifferFrom, AreDifferent}
use Rattle.reg_frames.specs.inner.Placing.{placed_op, placed_nodes, placed_function, placing, frame_size, rising, begins_from, spots_of, placed_functions, placed}
use Rattle.mid_code.specs.Choices.{slot_count}

map_length : {A B : Type 0} (f : A → B) (xs : List A) → length (map f xs) ≡ length xs
map_length f [] = refl
map_length f (x ∷ xs) = ap suc (map_length f xs)

-- ---- weight

op_same : {P Q : Type 0} (w : P → Q) (o : OpT P) → op_weight (placed_op w o) ≡ op_weight o
op_same w (ConstO t word) = refl
op_same w (NullO t) = refl
op_same w (MoveO t a) = refl
op_same w (OneO o t a) = refl
op_same w (TwoO o t a b) = refl
op_same w (GlobalO t number) = refl
op_same w (LocalO t number) = refl
op_same w (LiteralO t number) = refl
op_same w (CardO t) = refl
op_same w (StepO t p n) = refl
op_same w (ApartO t p q) = refl
op_same w (PtrTestO o t p q) = refl
op_same w (LoadO t p) = refl
op_same w (StoreO p a) = refl
op_same w (FreshO number) = refl
op_same w (EndO number) = refl
op_same w (InO t port) = refl
op_same w (OutO port a) = refl
op_same w WaitO = refl
op_same w HaltO = refl

pub nodes_same : {P Q : Type 0} (w : P → Q) (c : NodesT P) → nodes_weight (placed_nodes w c) ≡ nodes_weight c
nodes_same w Stop = refl
nodes_same w (Do o c) = let a = op_same w o in let b = nodes_same w c in omega (arith, a, b)
nodes_same w (Call t f args c) = let a = map_length w args in let b = nodes_same w c in omega (arith, a, b)
nodes_same w (Choose p a b c) = let e = nodes_same w a in let f = nodes_same w b in let g = nodes_same w c in omega (arith, e, f, g)
nodes_same w (Block b c) = let e = nodes_same w b in let f = nodes_same w c in omega (arith, e, f)
nodes_same w (Loop b c) = let e = nodes_same w b in let f = nodes_same w c in omega (arith, e, f)
nodes_same w (Leave k c) = ap (λ n. node_weight + n) (nodes_same w c)
nodes_same w (Again k c) = ap (λ n. node_weight + n) (nodes_same w c)
nodes_same w (Return p c) = ap (λ n. node_weight + n) (nodes_same w c)

functions_same : (wss : List (List Where)) (fs : List (FunctionT ℕ)) → sum_by function_weight (placed_functions wss fs) ≡ sum_by function_weight fs
functions_same wss [] = refl
functions_same [] (f ∷ fs) = let a = nodes_same (placing []) f.body in let b = functions_same [] fs in let c = sum_by-cons function_weight f fs in let d = sum_by-cons function_weight (placed_function (placing []) f) (placed_functions [] fs) in omega (arith, a, b, c, d)
functions_same (ws ∷ wss) (f ∷ fs) = let a = nodes_same (placing ws) f.body in let b = functions_same wss fs in let c = sum_by-cons function_weight f fs in let d = sum_by-cons function_weight (placed_function (placing ws) f) (placed_functions wss fs) in omega (arith, a, b, c, d)

-- the weight stays
pub weight_same : (x : CodeT ℕ) (start : List Where) (wss : List (List Where)) → weight (placed start wss x).code ≡ weight x
weight_same x start wss = let a = nodes_same (placing start) x.start.body in let b = functions_same wss x.functions in omega (arith, a, b)

-- ---- loops and calls

pub loops_same : {P Q : Type 0} (w : P → Q) (c : NodesT P) → loops (placed_nodes w c) ≡ loops c
loops_same w Stop = refl
loops_same w (Do o c) = loops_same w c
loops_same w (Call t f args c) = loops_same w c
loops_same w (Choose p a b c) = let e = loops_same w a in let f = loops_same w b in let g = loops_same w c in omega (arith, e, f, g)
loops_same w (Block b c) = let e = loops_same w b in let f = loops_same w c in omega (arith, e, f)
loops_same w (Loop b c) = let e = loops_same w b in let f = loops_same w c in omega (arith, e, f)
loops_same w (Leave k c) = loops_same w c
loops_same w (Again k c) = loops_same w c
loops_same w (Return p c) = loops_same w c

pub calls_before : {P Q : Type 0} (w : P → Q) (f : ℕ) (c : NodesT P) → CallsTo f (placed_nodes w c) → CallsTo f c
calls_before w f Stop h = h
calls_before w f (Do o c) h = calls_before w f c h
calls_before w f (Call t g args c) h = elim h [ inl e ↦ inl e | inr r ↦ inr (calls_before w f c r) ]
calls_before w f (Choose p a b c) h = elim h [ inl r ↦ inl (calls_before w f a r) | inr s ↦ elim s [ inl r ↦ inr (inl (calls_before w f b r)) | inr r ↦ inr (inr (calls_before w f c r)) ] ]
calls_before w f (Block b c) h = elim h [ inl r ↦ inl (calls_before w f b r) | inr r ↦ inr (calls_before w f c r) ]
calls_before w f (Loop b c) h = elim h [ inl r ↦ inl (calls_before w f b r) | inr r ↦ inr (calls_before w f c r) ]
calls_before w f (Leave k c) h = calls_before w f c h
calls_before w f (Again k c) h = calls_before w f c h
calls_before w f (Return p c) h = calls_before w f c h

pub adds_none : (ws : List Where) (f : FunctionT ℕ) → AddsNone f.body (placed_function (placing ws) f).body
adds_none ws f = record { loop_count = let e = loops_same (placing ws) f.body in omega (arith, e); calls = λ g. calls_before (placing ws) g f.body }

-- no loop and no call more
pub none_added : (wss : List (List Where)) (fs : List (FunctionT ℕ)) → NoneAdd fs (placed_functions wss fs)
none_added wss [] = tt
none_added [] (f ∷ fs) = (adds_none [] f, none_added [] fs)
none_added (ws ∷ wss) (f ∷ fs) = (adds_none ws f, none_added wss fs)

-- ---- frames

rising_at : (n k i o : ℕ) → slice_get (rising n k) i ≡ Some o → (o ≡ n + i) × (i < k)
rising_at n zero i o e = absurd (cc)
rising_at n (suc k) zero o e = (go (cc), omega arith)
  where
    go : n ≡ o → o ≡ n + 0
    go h = omega (arith, h)
rising_at n (suc k) (suc i) o e = let h = rising_at (suc n) k i o e in (omega (arith, h.0), omega (arith, h.1))

pub rising_length : (n k : ℕ) → length (rising n k) ≡ k
rising_length n zero = refl
rising_length n (suc k) = ap suc (rising_length (suc n) k)

begins_length : (n : ℕ) (sizes : List ℕ) → length (begins_from n sizes) ≡ length sizes
begins_length n [] = refl
begins_length n (size ∷ sizes) = ap suc (begins_length (n + size) sizes)

fold_from : (n : ℕ) (sizes : List ℕ) → fold ◌+◌ n sizes ≡ n + fold ◌+◌ 0 sizes
fold_from n [] = omega arith
fold_from n (s ∷ sizes) = let a = fold_from (n + s) sizes in let b = fold_from (0 + s) sizes in omega (arith, a, b)

pub sum_first : (s : ℕ) (sizes : List ℕ) → sum (s ∷ sizes) ≡ s + sum sizes
sum_first s sizes = fold_from (0 + s) sizes ∙ omega arith

begins_at : (n : ℕ) (sizes : List ℕ) (j o size : ℕ) → slice_get (begins_from n sizes) j ≡ Some o → slice_get sizes j ≡ Some size → (n ≤ o) × (o + size ≤ n + sum sizes)
begins_at n [] j o size e f = absurd (cc)
begins_at n (s ∷ sizes) zero o size e f = go (cc) (cc)
  where
    go : n ≡ o → s ≡ size → (n ≤ o) × (o + size ≤ n + sum (s ∷ sizes))
    go a b = let c = sum_first s sizes in (omega (arith, a), omega (arith, a, b, c))
begins_at n (s ∷ sizes) (suc j) o size e f = let h = begins_at (n + s) sizes j o size e f in let c = sum_first s sizes in (omega (arith, h.0), omega (arith, h.1, c))

-- locals stand apart
begins_apart : (n : ℕ) (sizes : List ℕ) (j k o p size : ℕ) → j < k → slice_get (begins_from n sizes) j ≡ Some o → slice_get sizes j ≡ Some size → slice_get (begins_from n sizes) k ≡ Some p → (q : ℕ) → slice_get sizes k ≡ Some q → o + size ≤ p
begins_apart n [] j k o p size lt e f g q h = absurd (cc)
begins_apart n (s ∷ sizes) j zero o p size lt e f g q h = absurd (omega (arith, lt))
begins_apart n (s ∷ sizes) zero (suc k) o p size lt e f g q h = let r = begins_at (n + s) sizes k p q g h in go (cc) (cc) r.0
  where
    go : n ≡ o → s ≡ size → n + s ≤ p → o + size ≤ p
    go a b c = omega (arith, a, b, c)
begins_apart n (s ∷ sizes) (suc j) (suc k) o p size lt e f g q h = begins_apart (n + s) sizes j k o p size (omega (arith, lt)) e f g q h

some_same : (a b : ℕ) → Some a ≡ Some b → a ≡ b
some_same a b e = cc

-- ---- few parameters stand in registers

compare_all : (j k : ℕ) → (j ≡ k) ⊎ (j < k) ⊎ (k < j)
compare_all zero zero = inl refl
compare_all zero (suc k) = inr (inl (omega arith))
compare_all (suc j) zero = inr (inr (omega arith))
compare_all (suc j) (suc k) = go (compare_all j k)
  where
    go : (j ≡ k) ⊎ (j < k) ⊎ (k < j) → (suc j ≡ suc k) ⊎ (suc j < suc k) ⊎ (suc k < suc j)
    go (inl e) = inl (ap suc e)
    go (inr (inl e)) = inr (inl (omega (arith, e)))
    go (inr (inr e)) = inr (inr (omega (arith, e)))

false_true : false ≡ true → ⊥
false_true e = cc

off_false : (a b : ℕ) → (a ≡ b → ⊥) → eqb a b ≡ false
off_false a b n = go (eqb a b) refl
  where
    go : (c : Bool) → eqb a b ≡ c → eqb a b ≡ false
    go true e = absurd (n (eqb-true a b e))
    go false e = e

abbrev Distinct : List ℕ → Type 0
Distinct [] = Unit {0}
Distinct (y ∷ ys) = (is_among ys y ≡ false) × Distinct ys

abbrev AllBelow : ℕ → List ℕ → Type 0
AllBelow n [] = Unit {0}
AllBelow n (y ∷ ys) = (y < n) × AllBelow n ys

or_no : (a b : Bool) → (a || b) ≡ false → (a ≡ false) × (b ≡ false)
or_no true b e = absurd (false_true (sym e))
or_no false b e = (refl, e)

absent_below : (n : ℕ) (ys : List ℕ) → AllBelow (suc n) ys → is_among ys n ≡ false → AllBelow n ys
absent_below n [] h e = tt
absent_below n (y ∷ ys) h e =
    let r = or_no (eqb y n) (is_among ys n) e in
    let lt = h.0 in
    (less lt (λ z. false_true (sym r.0 ∙ eq-eqb y n z)), absent_below n ys h.1 r.1)
  where
    less : y < suc n → (y ≡ n → ⊥) → y < n
    less a b = elim (compare_all y n) [ inl e ↦ absurd (b e) | inr c ↦ elim c [ inl d ↦ d | inr d ↦ absurd (omega (arith, a, d)) ] ]

abbrev Shrinks : ℕ → List ℕ → Type 0
Shrinks n ns = (ms : List ℕ) × (length ns ≤ suc (length ms)) × Distinct ms × AllBelow n ms × ((x : ℕ) → is_among ns x ≡ false → is_among ms x ≡ false)

shrink : (n : ℕ) (ns : List ℕ) → Distinct ns → AllBelow (suc n) ns → Shrinks n ns
shrink n [] d h = ([], omega arith, tt, tt, λ x e. refl)
shrink n (y ∷ ys) d h = go (shrink n ys d.1 h.1) (eqb y n) refl
  where
    less : y < suc n → (y ≡ n → ⊥) → y < n
    less a b = elim (compare_all y n) [ inl e ↦ absurd (b e) | inr c ↦ elim c [ inl d ↦ d | inr d ↦ absurd (omega (arith, a, d)) ] ]

    go : Shrinks n ys → (b : Bool) → eqb y n ≡ b → Shrinks n (y ∷ ys)
    go r true e = (ys, omega arith, d.1, absent_below n ys h.1 (ap (is_among ys) (sym (eqb-true y n e)) ∙ d.0), λ x i. (or_no (eqb y x) (is_among ys x) i).1)
    go r false e = (y ∷ r.0, (let a = r.1 in omega (arith, a)), (r.4 y d.0, r.2), (less h.0 (λ z. false_true (sym e ∙ eq-eqb y n z)), r.3), λ x i. (let o = or_no (eqb y x) (is_among ys x) i in ap (λ b. b || is_among r.0 x) o.0 ∙ r.4 x o.1))

few : (n : ℕ) (ns : List ℕ) → Distinct ns → AllBelow n ns → length ns ≤ n
few zero [] d h = omega arith
few zero (y ∷ ys) d h = let a = h.0 in absurd (omega (arith, a))
few (suc n) ns d h = let r = shrink n ns d h in let a = few n r.0 r.2 r.3 in let b = r.1 in omega (arith, a, b)

number_off : (n : ℕ) (ps : List ℕ) → DifferFrom n ps → is_among ps n ≡ false
number_off n [] d = refl
number_off n (m ∷ ps) d = ap (λ b. b || is_among ps n) (off_false m n (λ e. d.0 (sym e))) ∙ number_off n ps d.1

numbers_distinct : (ps : List ℕ) → AreDifferent ps → Distinct ps
numbers_distinct [] d = tt
numbers_distinct (n ∷ ps) d = (number_off n ps d.0, numbers_distinct ps d.1)

numbers_below : (n : ℕ) (ps : List ℕ) → AllOf (λ t. t < n) ps → AllBelow n ps
numbers_below n [] h = tt
numbers_below n (p ∷ ps) h = (h.0, numbers_below n ps h.1)

-- different numbers below one are at most as many
pub numbers_few : (n : ℕ) (ps : List ℕ) → AllOf (λ t. t < n) ps → AreDifferent ps → length ps ≤ n
numbers_few n ps h d = few n ps (numbers_distinct ps d) (numbers_below n ps h)

module _ (ws : List Where) (f : FunctionT ℕ) where
  abbrev g : FunctionT Where
  g = placed_function (placing ws) f

  -- where a word stands
  abbrev Stands : SpotWord → ℕ → Type 0
  Stands (OfSlot n) o = (o ≡ n) × (n < slot_count ws)
  Stands (OfLocal j i) o = (b : ℕ) × (size : ℕ) × (slice_get (begins_from (slot_count ws) f.locals) j ≡ Some b) × (slice_get f.locals j ≡ Some size) × (i < size) × (o ≡ b + i)
  Stands (OfEmitter n) o = ⊥

  at : {a : SpotWord} {o : ℕ} → StandsAt (spots_of ws f) g a o → Stands a o
  at (slot {number} {offset} e) = let h = rising_at 0 (slot_count ws) number offset e in (omega (arith, h.0), h.1)
  at (local {number} {i} {offset} {size} e h lt) = (offset, size, e, h, lt, refl)
  at (emitter {number} {offset} e) = absurd cc

  below : (a : SpotWord) (o : ℕ) → Stands a o → o < frame_size ws f
  below (OfSlot n) o h = omega (arith, h.0, h.1)
  below (OfLocal j i) o h = let r = begins_at (slot_count ws) f.locals j h.0 h.1 h.2 h.3 in omega (arith, r.1, h.4, h.5)
  below (OfEmitter n) o h = absurd h

  locals_apart : (j i k l o : ℕ) → Stands (OfLocal j i) o → Stands (OfLocal k l) o → (j ≡ k) ⊎ (j < k) ⊎ (k < j) → OfLocal j i ≡ OfLocal k l
  locals_apart j i k l o a b (inl e) =
      let h : a.0 ≡ b.0 = some_same a.0 b.0 (sym a.2 ∙ ap (slice_get (begins_from (slot_count ws) f.locals)) e ∙ b.2) in
      let d : i ≡ l = omega (arith, a.5, b.5, h) in
      ap (λ n. OfLocal n i) e ∙ ap (OfLocal k) d
  locals_apart j i k l o a b (inr (inl lt)) = let h = begins_apart (slot_count ws) f.locals j k a.0 b.0 a.1 lt a.2 a.3 b.2 b.1 b.3 in absurd (omega (arith, h, a.4, a.5, b.5))
  locals_apart j i k l o a b (inr (inr lt)) = let h = begins_apart (slot_count ws) f.locals k j b.0 a.0 b.1 lt b.2 b.3 a.2 a.1 a.3 in absurd (omega (arith, h, b.4, a.5, b.5))

  apart : (a b : SpotWord) (o : ℕ) → Stands a o → Stands b o → a ≡ b
  apart (OfSlot n) (OfSlot m) o h k = ap OfSlot (sym h.0 ∙ k.0)
  apart (OfSlot n) (OfLocal j i) o h k = let r = begins_at (slot_count ws) f.locals j k.0 k.1 k.2 k.3 in absurd (omega (arith, r.0, h.0, h.1, k.5))
  apart (OfSlot n) (OfEmitter m) o h k = absurd k
  apart (OfLocal j i) (OfSlot m) o h k = let r = begins_at (slot_count ws) f.locals j h.0 h.1 h.2 h.3 in absurd (omega (arith, r.0, k.0, k.1, h.5))
  apart (OfLocal j i) (OfLocal m l) o h k = locals_apart j i m l o h k (compare_all j m)
  apart (OfLocal j i) (OfEmitter m) o h k = absurd k
  apart (OfEmitter n) b o h k = absurd h

  pub are_spots : AreSpots (frame_size ws f) g (spots_of ws f)
  are_spots = record {
    last = λ k offset e. absurd cc;
    locals = begins_length (slot_count ws) f.locals;
    own = omega arith;
    below = λ {a} {offset} h. below a offset (at h);
    apart = λ {a} {b} {offset} h k. apart a b offset (at h) (at k);
  }

-- A size is the words of the locals and the slots that the choice names.
pub size_at_most : (ws : List Where) (f : FunctionT ℕ) → frame_size ws f ≤ sum f.locals + slot_count ws
size_at_most ws f = omega arith

pub size_at_least : (ws : List Where) (f : FunctionT ℕ) → sum f.locals ≤ frame_size ws f
size_at_least ws f = omega arith
