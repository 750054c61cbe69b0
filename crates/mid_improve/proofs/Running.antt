-- The code that comes of forward propagation runs as the code does.
use Rattle.std.proofs.Common.{◌≡◌, ℕ, zero, suc, ◌+◌, ◌*◌, List, [], ◌∷◌, map, get_or, sum, length, Option, Some, None, option_map, refl, ap, ◌∙◌}
use Rattle.obj_mem.specs.Stores.{has_room}
use Rattle.mid_code.specs.Code.{OpT, NodesT, Stop, Do, Call, Choose, Block, Loop, Leave, Again, Return, FunctionT, CodeT}
use Rattle.mid_code.specs.Meaning.{Did, On, Ends, Res, Next, Leaves, Repeats, Returns, Over, Lang, node_weight, call_weight, then_next, did, block_done, turn_done, choose, call_done, called, does, below}
use Rattle.mid_code.specs.States.{State, temporaries, sizes_of, function_at, no_function, over_worlds, acted, op_weight, spent, if_room, begun, back, word_tested, received}
use Rattle.mid_code.specs.Runs.{opening, start_done, main_done, final_of, run_of, mid_runs}
use Rattle.mid_improve.specs.inner.Facts.{Known, none_known, behind_maybe, known_behind}
use Rattle.mid_improve.specs.inner.Forward.{serves, forwarded_op, forwarded, forwarded_function, forwarded_code}
use Rattle.mid_improve.proofs.Holding.{Knows, knows_none, knows_same, serves_same, all_same, as_many, still_known, put_off}
use Rattle.mid_improve.proofs.Acting.{op_same, weight_same, known_after}

-- ---- functions

at_forward : (fs : List (FunctionT ℕ)) (h : ℕ) → get_or (map forwarded_function fs) h no_function ≡ forwarded_function (get_or fs h no_function)
at_forward [] h = refl
at_forward (f ∷ fs) zero = refl
at_forward (f ∷ fs) (suc h) = at_forward fs h

-- ---- parts of a run

did_same : {S : Type 0} (d e : Did S) (f g : S → Res S) → d ≡ e → ((u : S) → d ≡ On u → f u ≡ g u) → did d f ≡ did e g
did_same {S} d e f g same h = go d refl ∙ ap (λ k. did k g) same
  where
    go : (k : Did S) → d ≡ k → did k f ≡ did k g
    go (On u) q = h u q
    go (Ends end u) q = refl

then_same : {S : Type 0} (d e : Res S) (f g : S → Res S) → d ≡ e → ((u : S) → e ≡ Next u → f u ≡ g u) → then_next d f ≡ then_next e g
then_same {S} d e f g same h = ap (λ k. then_next k f) same ∙ go e refl
  where
    go : (k : Res S) → e ≡ k → then_next k f ≡ then_next k g
    go (Next u) q = h u q
    go (Leaves j u) q = refl
    go (Repeats j u) q = refl
    go (Returns u) q = refl
    go (Over end u) q = refl

choose_same : {S : Type 0} (v w : Option ℕ) (s : S) (f g a b : S → Res S) → v ≡ w → f s ≡ a s → g s ≡ b s → choose v s f g ≡ choose w s a b
choose_same {S} v w s f g a b e p q = ap (λ z. choose z s f g) e ∙ go w
  where
    go : (z : Option ℕ) → choose z s f g ≡ choose z s a b
    go None = refl
    go (Some zero) = q
    go (Some (suc x)) = p

-- back in the caller nothing but the target has changed
back_known : (k : Known) (t : Option ℕ) (s v : State ℕ) → Knows k s.cells → Knows (behind_maybe k t) (back temporaries t s v).cells
back_known k None s v h = h
back_known k (Some t) s v h = still_known k t s.cells (back temporaries (Some t) s v).cells (λ r n. put_off s.cells t v.given r n) h

module _ (x : CodeT ℕ) (frames : List ℕ) where
  abbrev y : CodeT ℕ
  y = forwarded_code x

  abbrev S : Type 0
  S = State ℕ

  abbrev L : Lang ℕ
  L = over_worlds temporaries x frames

  abbrev L' : Lang ℕ
  L' = over_worlds temporaries y frames

  fs : (h : ℕ) → function_at y h ≡ forwarded_function (function_at x h)
  fs h = at_forward x.functions h

  sizes : sizes_of y frames ≡ sizes_of x frames
  sizes = λ i. record { frame = λ h. get_or frames h 0; locals = λ h. (fs h i).locals; globals = sum x.globals; first_literal = length x.globals; card = length x.globals + length x.literals }

  act_same : (k : Known) (o : OpT ℕ) (s : S) → Knows k s.cells → L'.act (forwarded_op k o) s ≡ L.act o s
  act_same k o s h =
      ap (λ z. acted temporaries z (forwarded_op k o) (spent (op_weight (forwarded_op k o)) s)) sizes
      ∙ ap (λ n. acted temporaries (sizes_of x frames) (forwarded_op k o) (spent n s)) (weight_same k o)
      ∙ op_same (sizes_of x frames) k (spent (op_weight o) s) h o

  enter_same : (k : Known) (g : ℕ) (args : List ℕ) (s : S) → Knows k s.cells → L'.enter g (map (serves k) args) s ≡ L.enter g args s
  enter_same k g args s h =
      (λ i. if_room (has_room (sizes i) g s.world.store) s (begun temporaries (sizes i) (fs g i).params g (map (serves k) args) s))
      ∙ ap (λ cs. if_room (has_room (sizes_of x frames) g s.world.store) s (record (begun temporaries (sizes_of x frames) (function_at x g).params g args s) { cells = received temporaries (function_at x g).params cs })) (all_same k s.cells args h)

  body_same : (g : ℕ) → L'.body g ≡ forwarded none_known (L.body g)
  body_same g = ap (λ f. f.body) (fs g)

  -- what is done with one less of the bound is the same
  abbrev Below : (prev prev' : NodesT ℕ → S → Res S) → Type 0
  Below prev prev' = (c : NodesT ℕ) (s : S) → prev' (forwarded none_known c) s ≡ prev c s

  called_same : (n : ℕ) (prev prev' : NodesT ℕ → S → Res S) → Below prev prev' → (k : Known) (t : Option ℕ) (g : ℕ) (args : List ℕ) (s : S) → Knows k s.cells → called L' n prev' t g (map (serves k) args) s ≡ called L n prev t g args s
  called_same zero prev prev' P k t g args s h = refl
  called_same (suc n) prev prev' P k t g args s h =
      λ i. did (enter_same k g args s h i) (λ v. call_done L.none (L.back t s) ((ap (λ b. prev' b v) (body_same g) ∙ P (L.body g) v) i))

  -- what is known behind a call that comes back
  done_known : (k : Known) (t : Option ℕ) (s u : S) (r : Res S) → Knows k s.cells → call_done L.none (L.back t s) r ≡ Next u → Knows (behind_maybe k t) u.cells
  done_known k t s u (Next v) h e = let same : L.back t s (L.none v) ≡ u = cc in knows_same (behind_maybe k t) (L.back t s (L.none v)).cells u.cells (ap (λ (w : State ℕ). w.cells) same) (back_known k t s (L.none v) h)
  done_known k t s u (Leaves j v) h e = absurd cc
  done_known k t s u (Repeats j v) h e = absurd cc
  done_known k t s u (Returns v) h e = let same : L.back t s v ≡ u = cc in knows_same (behind_maybe k t) (L.back t s v).cells u.cells (ap (λ (w : State ℕ). w.cells) same) (back_known k t s v h)
  done_known k t s u (Over end v) h e = absurd cc

  entered_known : (k : Known) (t : Option ℕ) (s u : S) (d : Did S) (go : S → Res S) → Knows k s.cells → did d (λ v. call_done L.none (L.back t s) (go v)) ≡ Next u → Knows (behind_maybe k t) u.cells
  entered_known k t s u (On v) go h e = done_known k t s u (go v) h e
  entered_known k t s u (Ends end v) go h e = absurd cc

  called_known : (n : ℕ) (prev : NodesT ℕ → S → Res S) (k : Known) (t : Option ℕ) (g : ℕ) (args : List ℕ) (s u : S) → Knows k s.cells → called L n prev t g args s ≡ Next u → Knows (behind_maybe k t) u.cells
  called_known zero prev k t g args s u h e = absurd cc
  called_known (suc n) prev k t g args s u h e = entered_known k t s u (L.enter g args s) (prev (L.body g)) h e

  give_same : (k : Known) (p : Option ℕ) (s : S) → Knows k s.cells → L'.give (option_map (serves k) p) s ≡ L.give p s
  give_same k None s h = refl
  give_same k (Some q) s h = ap (λ c. record s { given = c }) (serves_same k s.cells q h)

  does_same : (n : ℕ) (prev prev' : NodesT ℕ → S → Res S) → Below prev prev' → (k : Known) (c : NodesT ℕ) (s : S) → Knows k s.cells → does L' n prev' (forwarded k c) s ≡ does L n prev c s
  does_same n prev prev' P k Stop s h = refl
  does_same n prev prev' P k (Do o c) s h =
      did_same (L'.act (forwarded_op k o) s) (L.act o s) (does L' n prev' (forwarded (known_behind k (forwarded_op k o)) c)) (does L n prev c) (act_same k o s h)
      (λ u e. does_same n prev prev' P (known_behind k (forwarded_op k o)) c u (known_after (sizes_of y frames) k (forwarded_op k o) (spent (op_weight (forwarded_op k o)) s) u h e))
  does_same n prev prev' P k (Call t g args c) s h =
      let w = call_weight args in
      then_same (called L' n prev' t g (map (serves k) args) (spent (call_weight (map (serves k) args)) s)) (called L n prev t g args (spent w s)) (does L' n prev' (forwarded (behind_maybe k t) c)) (does L n prev c)
      (ap (λ m. called L' n prev' t g (map (serves k) args) (spent (node_weight + 4 * m) s)) (as_many k args) ∙ called_same n prev prev' P k t g args (spent w s) h)
      (λ u e. does_same n prev prev' P (behind_maybe k t) c u (called_known n prev k t g args (spent w s) u h e))
  does_same n prev prev' P k (Choose p a b c) s h =
      let u = spent node_weight s in
      let w = choose_same (L'.test (serves k p) s) (L.test p s) u (does L' n prev' (forwarded none_known a)) (does L' n prev' (forwarded none_known b)) (does L n prev a) (does L n prev b) (ap word_tested (serves_same k s.cells p h)) (does_same n prev prev' P none_known a u (knows_none u.cells)) (does_same n prev prev' P none_known b u (knows_none u.cells)) in
      λ i. then_next (w i) (λ u. does_same n prev prev' P none_known c u (knows_none u.cells) i)
  does_same n prev prev' P k (Block b c) s h =
      λ i. then_next (block_done (does_same n prev prev' P none_known b (spent node_weight s) (knows_none s.cells) i)) (λ u. does_same n prev prev' P none_known c u (knows_none u.cells) i)
  does_same n prev prev' P k (Loop b c) s h =
      λ i. then_next (turn_done (does_same n prev prev' P none_known b (spent node_weight s) (knows_none s.cells) i) (λ u. P (Loop b Stop) u i)) (λ u. does_same n prev prev' P none_known c u (knows_none u.cells) i)
  does_same n prev prev' P k (Leave j c) s h = refl
  does_same n prev prev' P k (Again j c) s h = refl
  does_same n prev prev' P k (Return p c) s h = ap Returns (give_same k p (spent node_weight s) h)

  below_same : (n : ℕ) → Below (below L n) (below L' n)
  below_same zero c s = refl
  below_same (suc n) c s = does_same n (below L n) (below L' n) (below_same n) none_known c s (knows_none s.cells)

  final_same : (n : ℕ) (answers : List ℕ) (card : Option (List ℕ)) → final_of temporaries y frames n answers card ≡ final_of temporaries x frames n answers card
  final_same n answers card =
      λ i. start_done (does_same n (below L n) (below L' n) (below_same n) none_known x.start.body (opening x answers card) (knows_none (opening x answers card).cells) i)
      (λ s. main_done (called_same n (below L n) (below L' n) (below_same n) none_known None x.main [] s (knows_none s.cells) i))

  -- Each run is the same.
  pub run_same : (n : ℕ) (answers : List ℕ) (card : Option (List ℕ)) → mid_runs y frames n answers card ≡ mid_runs x frames n answers card
  run_same n answers card = ap (run_of x) (final_same n answers card)
