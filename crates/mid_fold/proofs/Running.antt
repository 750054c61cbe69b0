-- Folded code runs as the code does.
use Rattle.std.proofs.Common.{◌≡◌, ℕ, zero, suc, ◌+◌, List, [], ◌∷◌, map, get_or, sum, length, Option, Some, None, refl, ap, ◌∙◌}
use Rattle.obj_mem.specs.Stores.{has_room}
use Rattle.mid_code.specs.Code.{OpT, NodesT, Stop, Do, Call, Choose, Block, Loop, Leave, Again, Return, FunctionT, CodeT}
use Rattle.mid_code.specs.Meaning.{Did, On, Ends, Res, Lang, node_weight, call_weight, then_next, did, block_done, turn_done, choose, ask, call_done, called, does, below}
use Rattle.mid_code.specs.States.{State, temporaries, sizes_of, function_at, no_function, over_worlds, acted, op_weight, spent, if_room, begun}
use Rattle.mid_code.specs.Runs.{opening, start_done, main_done, final_of, run_of, mid_runs}
use Rattle.mid_fold.specs.inner.Folding.{Words, known_behind, folded_op, folded, folded_function, folded_code}
use Rattle.mid_fold.proofs.Knowing.{Knows}
use Rattle.mid_fold.proofs.Acting.{op_same, weight_same, known_after}

-- ---- functions

at_folded : (fs : List (FunctionT ℕ)) (h : ℕ) → get_or (map folded_function fs) h no_function ≡ folded_function (get_or fs h no_function)
at_folded [] h = refl
at_folded (f ∷ fs) zero = refl
at_folded (f ∷ fs) (suc h) = at_folded fs h

-- ---- parts of a run

pub did_same : {S : Type 0} (d e : Did S) (f g : S → Res S) → d ≡ e → ((u : S) → d ≡ On u → f u ≡ g u) → did d f ≡ did e g
did_same {S} d e f g same h = go d refl ∙ ap (λ k. did k g) same
  where
    go : (k : Did S) → d ≡ k → did k f ≡ did k g
    go (On u) q = h u q
    go (Ends end u) q = refl

pub choose_same : {S : Type 0} (w : Option ℕ) (s : S) (f g a b : S → Res S) → f s ≡ a s → g s ≡ b s → choose w s f g ≡ choose w s a b
choose_same None s f g a b p q = refl
choose_same (Some zero) s f g a b p q = q
choose_same (Some (suc x)) s f g a b p q = p

module _ (x : CodeT ℕ) (frames : List ℕ) where
  abbrev y : CodeT ℕ
  y = folded_code x

  abbrev S : Type 0
  S = State ℕ

  abbrev L : Lang ℕ
  L = over_worlds temporaries x frames

  abbrev L' : Lang ℕ
  L' = over_worlds temporaries y frames

  fs : (h : ℕ) → function_at y h ≡ folded_function (function_at x h)
  fs h = at_folded x.functions h

  sizes : sizes_of y frames ≡ sizes_of x frames
  sizes = λ i. record { frame = λ h. get_or frames h 0; locals = λ h. (fs h i).locals; globals = sum x.globals; first_literal = length x.globals; card = length x.globals + length x.literals }

  act_same : (es : Words) (o : OpT ℕ) (s : S) → Knows es s.cells → L'.act (folded_op es o) s ≡ L.act o s
  act_same es o s k =
      ap (λ z. acted temporaries z (folded_op es o) (spent (op_weight (folded_op es o)) s)) sizes
      ∙ ap (λ n. acted temporaries (sizes_of x frames) (folded_op es o) (spent n s)) (weight_same es o)
      ∙ op_same (sizes_of x frames) es o (spent (op_weight o) s) k

  enter_same : (g : ℕ) (args : List ℕ) (s : S) → L'.enter g args s ≡ L.enter g args s
  enter_same g args s = λ i. if_room (has_room (sizes i) g s.world.store) s (begun temporaries (sizes i) (fs g i).params g args s)

  body_same : (g : ℕ) → L'.body g ≡ folded [] (L.body g)
  body_same g = ap (λ f. f.body) (fs g)

  -- what is done with one less of the bound is the same
  abbrev Below : (prev prev' : NodesT ℕ → S → Res S) → Type 0
  Below prev prev' = (c : NodesT ℕ) (s : S) → prev' (folded [] c) s ≡ prev c s

  called_same : (n : ℕ) (prev prev' : NodesT ℕ → S → Res S) → Below prev prev' → (t : Option ℕ) (g : ℕ) (args : List ℕ) (s : S) → called L' n prev' t g args s ≡ called L n prev t g args s
  called_same n prev prev' P t g args s = λ i. ask n s (λ u. did (enter_same g args u i) (λ v. call_done L.none (L.back t u) ((ap (λ b. prev' b v) (body_same g) ∙ P (L.body g) v) i)))

  does_same : (n : ℕ) (prev prev' : NodesT ℕ → S → Res S) → Below prev prev' → (es : Words) (c : NodesT ℕ) (s : S) → Knows es s.cells → does L' n prev' (folded es c) s ≡ does L n prev c s
  does_same n prev prev' P es Stop s k = refl
  does_same n prev prev' P es (Do o c) s k =
      did_same (L'.act (folded_op es o) s) (L.act o s) (does L' n prev' (folded (known_behind es (folded_op es o)) c)) (does L n prev c) (act_same es o s k)
      (λ u e. does_same n prev prev' P (known_behind es (folded_op es o)) c u (known_after (sizes_of y frames) es (folded_op es o) (spent (op_weight (folded_op es o)) s) u k e))
  does_same n prev prev' P es (Call t g args c) s k =
      λ i. then_next (called_same n prev prev' P t g args (spent (call_weight args) s) i) (λ u. does_same n prev prev' P [] c u tt i)
  does_same n prev prev' P es (Choose p a b c) s k =
      let u = spent node_weight s in
      let w = choose_same (L.test p s) u (does L' n prev' (folded es a)) (does L' n prev' (folded es b)) (does L n prev a) (does L n prev b) (does_same n prev prev' P es a u k) (does_same n prev prev' P es b u k) in
      λ i. then_next (w i) (λ u. does_same n prev prev' P [] c u tt i)
  does_same n prev prev' P es (Block b c) s k =
      λ i. then_next (block_done (does_same n prev prev' P es b (spent node_weight s) k i)) (λ u. does_same n prev prev' P [] c u tt i)
  does_same n prev prev' P es (Loop b c) s k =
      λ i. then_next (turn_done (does_same n prev prev' P [] b (spent node_weight s) tt i) (λ u. P (Loop b Stop) u i)) (λ u. does_same n prev prev' P [] c u tt i)
  does_same n prev prev' P es (Leave j c) s k = refl
  does_same n prev prev' P es (Again j c) s k = refl
  does_same n prev prev' P es (Return p c) s k = refl

  below_same : (n : ℕ) → Below (below L n) (below L' n)
  below_same zero c s = refl
  below_same (suc n) c s = does_same n (below L n) (below L' n) (below_same n) [] c s tt

  final_same : (n : ℕ) (answers : List ℕ) (card : Option (List ℕ)) → final_of temporaries y frames n answers card ≡ final_of temporaries x frames n answers card
  final_same n answers card =
      λ i. start_done (does_same n (below L n) (below L' n) (below_same n) [] x.start.body (opening x answers card) tt i)
      (λ s. main_done (called_same n (below L n) (below L' n) (below_same n) None x.main [] s i))

  -- Each run is the same.
  pub run_same : (n : ℕ) (answers : List ℕ) (card : Option (List ℕ)) → mid_runs y frames n answers card ≡ mid_runs x frames n answers card
  run_same n answers card = ap (run_of x) (final_same n answers card)
