-- Code whose results are used again runs as the code does.
use Rattle.std.proofs.Common.{◌≡◌, ℕ, zero, suc, ◌+◌, List, [], ◌∷◌, map, get_or, sum, length, Option, None, refl, ap, ◌∙◌}
use Rattle.obj_mem.specs.Stores.{has_room}
use Rattle.mid_code.specs.Code.{OpT, NodesT, Stop, Do, Call, Choose, Block, Loop, Leave, Again, Return, FunctionT, CodeT}
use Rattle.mid_code.specs.Meaning.{Res, Lang, node_weight, call_weight, then_next, did, block_done, turn_done, ask, call_done, called, does, below}
use Rattle.mid_code.specs.States.{State, temporaries, sizes_of, function_at, no_function, over_worlds, acted, op_weight, spent, if_room, begun}
use Rattle.mid_code.specs.Runs.{opening, start_done, main_done, final_of, run_of, mid_runs}
use Rattle.mid_fold.specs.inner.Reusing.{Seen, nothing_seen, seen_behind, reused_op, reused, reused_function, reused_code}
use Rattle.mid_fold.proofs.Running.{did_same, choose_same}
use Rattle.mid_fold.proofs.ReuseActing.{HoldsOf, same_done, same_weight, holds_after}

-- ---- functions

at_reused : (fs : List (FunctionT ℕ)) (h : ℕ) → get_or (map reused_function fs) h no_function ≡ reused_function (get_or fs h no_function)
at_reused [] h = refl
at_reused (f ∷ fs) zero = refl
at_reused (f ∷ fs) (suc h) = at_reused fs h

module _ (x : CodeT ℕ) (frames : List ℕ) where
  abbrev y : CodeT ℕ
  y = reused_code x

  abbrev S : Type 0
  S = State ℕ

  abbrev L : Lang ℕ
  L = over_worlds temporaries x frames

  abbrev L' : Lang ℕ
  L' = over_worlds temporaries y frames

  fs : (h : ℕ) → function_at y h ≡ reused_function (function_at x h)
  fs h = at_reused x.functions h

  sizes : sizes_of y frames ≡ sizes_of x frames
  sizes = λ i. record { frame = λ h. get_or frames h 0; locals = λ h. (fs h i).locals; globals = sum x.globals; first_literal = length x.globals; card = length x.globals + length x.literals }

  act_same : (known : Seen) (o : OpT ℕ) (s : S) → HoldsOf known s.cells → L'.act (reused_op known o) s ≡ L.act o s
  act_same known o s k =
      ap (λ z. acted temporaries z (reused_op known o) (spent (op_weight (reused_op known o)) s)) sizes
      ∙ ap (λ n. acted temporaries (sizes_of x frames) (reused_op known o) (spent n s)) (same_weight known o)
      ∙ same_done (sizes_of x frames) known o (spent (op_weight o) s) k

  enter_same : (g : ℕ) (args : List ℕ) (s : S) → L'.enter g args s ≡ L.enter g args s
  enter_same g args s = λ i. if_room (has_room (sizes i) g s.world.store) s (begun temporaries (sizes i) (fs g i).params g args s)

  body_same : (g : ℕ) → L'.body g ≡ reused nothing_seen (L.body g)
  body_same g = ap (λ f. f.body) (fs g)

  -- what is done with one less of the bound is the same
  abbrev Below : (prev prev' : NodesT ℕ → S → Res S) → Type 0
  Below prev prev' = (c : NodesT ℕ) (s : S) → prev' (reused nothing_seen c) s ≡ prev c s

  called_same : (n : ℕ) (prev prev' : NodesT ℕ → S → Res S) → Below prev prev' → (t : Option ℕ) (g : ℕ) (args : List ℕ) (s : S) → called L' n prev' t g args s ≡ called L n prev t g args s
  called_same n prev prev' P t g args s = λ i. ask n s (λ u. did (enter_same g args u i) (λ v. call_done L.none (L.back t u) ((ap (λ b. prev' b v) (body_same g) ∙ P (L.body g) v) i)))

  does_same : (n : ℕ) (prev prev' : NodesT ℕ → S → Res S) → Below prev prev' → (known : Seen) (c : NodesT ℕ) (s : S) → HoldsOf known s.cells → does L' n prev' (reused known c) s ≡ does L n prev c s
  does_same n prev prev' P known Stop s k = refl
  does_same n prev prev' P known (Do o c) s k =
      did_same (L'.act (reused_op known o) s) (L.act o s) (does L' n prev' (reused (seen_behind known (reused_op known o)) c)) (does L n prev c) (act_same known o s k)
      (λ u e. does_same n prev prev' P (seen_behind known (reused_op known o)) c u (holds_after (sizes_of y frames) known (reused_op known o) (spent (op_weight (reused_op known o)) s) u k e))
  does_same n prev prev' P known (Call t g args c) s k =
      λ i. then_next (called_same n prev prev' P t g args (spent (call_weight args) s) i) (λ u. does_same n prev prev' P nothing_seen c u (tt, tt) i)
  does_same n prev prev' P known (Choose p a b c) s k =
      let u = spent node_weight s in
      let w = choose_same (L.test p s) u (does L' n prev' (reused known a)) (does L' n prev' (reused known b)) (does L n prev a) (does L n prev b) (does_same n prev prev' P known a u k) (does_same n prev prev' P known b u k) in
      λ i. then_next (w i) (λ u. does_same n prev prev' P nothing_seen c u (tt, tt) i)
  does_same n prev prev' P known (Block b c) s k =
      λ i. then_next (block_done (does_same n prev prev' P known b (spent node_weight s) k i)) (λ u. does_same n prev prev' P nothing_seen c u (tt, tt) i)
  does_same n prev prev' P known (Loop b c) s k =
      λ i. then_next (turn_done (does_same n prev prev' P nothing_seen b (spent node_weight s) (tt, tt) i) (λ u. P (Loop b Stop) u i)) (λ u. does_same n prev prev' P nothing_seen c u (tt, tt) i)
  does_same n prev prev' P known (Leave j c) s k = refl
  does_same n prev prev' P known (Again j c) s k = refl
  does_same n prev prev' P known (Return p c) s k = refl

  below_same : (n : ℕ) → Below (below L n) (below L' n)
  below_same zero c s = refl
  below_same (suc n) c s = does_same n (below L n) (below L' n) (below_same n) nothing_seen c s (tt, tt)

  final_same : (n : ℕ) (answers : List ℕ) (card : Option (List ℕ)) → final_of temporaries y frames n answers card ≡ final_of temporaries x frames n answers card
  final_same n answers card =
      λ i. start_done (does_same n (below L n) (below L' n) (below_same n) nothing_seen x.start.body (opening x answers card) (tt, tt) i)
      (λ s. main_done (called_same n (below L n) (below L' n) (below_same n) None x.main [] s i))

  -- Each run is the same.
  pub run_same : (n : ℕ) (answers : List ℕ) (card : Option (List ℕ)) → mid_runs y frames n answers card ≡ mid_runs x frames n answers card
  run_same n answers card = ap (run_of x) (final_same n answers card)
