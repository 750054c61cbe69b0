-- A node, and then what follows it.
use Rattle.std.proofs.Common.{◌≡◌, ℕ, zero, suc, ◌+◌, ◌<◌, arith, Bool, true, false, List, [], ◌∷◌, Option, Some, None, Result, refl, sym, ap, ◌∙◌, subst}
use Rattle.obj_mem.specs.Runs.{Ending, Stray, OutOfBound}
use Rattle.mid_code.specs.declared.node.Op.{Op}
use Rattle.mid_code.specs.declared.node.Op.TheVariants as op
use Rattle.mid_code.specs.Code.{NodesT, Stop, Loop, CodeT}
use Rattle.mid_code.specs.Functions.{NodeT, DoN, ChooseN, BlockN, LoopN, LeaveN, AgainN, ReturnN, op_before, before, joined, listed}
use Rattle.mid_code.specs.Meaning.{Did, On, Ends as EndsIn, Lang, Res, Next, Leaves, Repeats, Returns, Over, did, then_next, turn_done, choose, call_done, called, below, node_weight}
use Rattle.obj_mem.specs.declared.cell.Cell.TheVariants.{Unwritten}
use Rattle.obj_mem.specs.Stores.{has_room}
use Rattle.mid_code.specs.States.{temporaries, over_worlds, sizes_of, spent, function_at, if_room, begun, back}
use Rattle.mid_evaluate.specs.declared.flow.Flow.{Flow}
use Rattle.mid_evaluate.specs.declared.flow.Flow.TheVariants as flow
use Rattle.kit_base.specs.declared.failure.Failure.TheVariants.{Memory, Cause}
use Rattle.mid_evaluate.specs.View.{CallerT, ending}
use Rattle.mid_evaluate.specs.inner.Answers as answers
use Rattle.mid_evaluate.specs.inner.Answers.{S, went, Leads, Stops, StopsIn}
use Rattle.mid_evaluate.specs.inner.Once.{performed, weight_of, call_parts, op_once, ran, taken, choose_by, turn_left, looped, node_once, caller_of, returned}

lower : (n m : ℕ) → m + 1 ≡ suc n → n ≡ m
lower n m z = omega (arith, z)

did_next : (d : Did S) (go : S → Res S) → did d go ≡ then_next (did d Next) go
did_next (On s) go = refl
did_next (EndsIn end s) go = refl

next_next : (r : Res S) (go : S → Res S) → then_next r go ≡ then_next (then_next r Next) go
next_next (Next s) go = refl
next_next (Leaves k s) go = refl
next_next (Repeats k s) go = refl
next_next (Returns s) go = refl
next_next (Over end s) go = refl

next_same : (r : Res S) → then_next r Next ≡ r
next_same (Next s) = refl
next_same (Leaves k s) = refl
next_same (Repeats k s) = refl
next_same (Returns s) = refl
next_same (Over end s) = refl

abbrev or_next : Option Flow → Flow
or_next None = flow.Next
or_next (Some f) = f

choose_same : (w : Option ℕ) (s : S) (go other : S → Res S) → choose w s go other ≡ choose_by (taken w) s go other
choose_same None s go other = refl
choose_same (Some zero) s go other = refl
choose_same (Some (suc x)) s go other = refl

module _ (x : CodeT ℕ) (fs : List ℕ) (n : ℕ) where
  op_then : (o : Op ℕ) (c : NodesT ℕ) (s : S) → ran x fs n (op_before o c) s ≡ then_next (op_once x fs n o (call_parts o) s) (ran x fs n c)
  op_then (op.Const t word) c s = did_next (performed (sizes_of x fs) (op.Const t word) (spent 8 s)) (ran x fs n c)
  op_then (op.Null t) c s = did_next (performed (sizes_of x fs) (op.Null t) (spent 8 s)) (ran x fs n c)
  op_then (op.Move t a) c s = did_next (performed (sizes_of x fs) (op.Move t a) (spent 8 s)) (ran x fs n c)
  op_then (op.One o t a) c s = did_next (performed (sizes_of x fs) (op.One o t a) (spent 8 s)) (ran x fs n c)
  op_then (op.Two o t a b) c s = did_next (performed (sizes_of x fs) (op.Two o t a b) (spent 8 s)) (ran x fs n c)
  op_then (op.Global t number) c s = did_next (performed (sizes_of x fs) (op.Global t number) (spent 8 s)) (ran x fs n c)
  op_then (op.Local t number) c s = did_next (performed (sizes_of x fs) (op.Local t number) (spent 8 s)) (ran x fs n c)
  op_then (op.Literal t number) c s = did_next (performed (sizes_of x fs) (op.Literal t number) (spent 8 s)) (ran x fs n c)
  op_then (op.Card t) c s = did_next (performed (sizes_of x fs) (op.Card t) (spent 8 s)) (ran x fs n c)
  op_then (op.Step t p y) c s = did_next (performed (sizes_of x fs) (op.Step t p y) (spent 8 s)) (ran x fs n c)
  op_then (op.Apart t p q) c s = did_next (performed (sizes_of x fs) (op.Apart t p q) (spent 8 s)) (ran x fs n c)
  op_then (op.PtrTest o t p q) c s = did_next (performed (sizes_of x fs) (op.PtrTest o t p q) (spent 8 s)) (ran x fs n c)
  op_then (op.Load t p) c s = did_next (performed (sizes_of x fs) (op.Load t p) (spent 8 s)) (ran x fs n c)
  op_then (op.Store p a) c s = did_next (performed (sizes_of x fs) (op.Store p a) (spent 8 s)) (ran x fs n c)
  op_then (op.Fresh local) c s = did_next (performed (sizes_of x fs) (op.Fresh local) (spent 0 s)) (ran x fs n c)
  op_then (op.End local) c s = did_next (performed (sizes_of x fs) (op.End local) (spent 0 s)) (ran x fs n c)
  op_then (op.Call t f args) c s = refl
  op_then (op.In t port) c s = did_next (performed (sizes_of x fs) (op.In t port) (spent 8 s)) (ran x fs n c)
  op_then (op.Out port a) c s = did_next (performed (sizes_of x fs) (op.Out port a) (spent 8 s)) (ran x fs n c)
  op_then op.Wait c s = did_next (performed (sizes_of x fs) op.Wait (spent 8 s)) (ran x fs n c)
  op_then op.Halt c s = did_next (performed (sizes_of x fs) op.Halt (spent 8 s)) (ran x fs n c)

  node_then : (y : NodeT ℕ) (c : NodesT ℕ) (s : S) → ran x fs n (before y c) s ≡ then_next (node_once x fs n y s) (ran x fs n c)
  node_then (DoN o) c s = op_then o c s
  node_then (ChooseN p a b) c s = ap (λ r. then_next r (ran x fs n c)) (choose_same _ (spent node_weight s) (ran x fs n (joined a)) (ran x fs n (joined b)))
  node_then (BlockN b) c s = refl
  node_then (LoopN b) c s = next_next _ (ran x fs n c)
  node_then (LeaveN k) c s = refl
  node_then (AgainN k) c s = refl
  node_then (ReturnN p) c s = refl

  -- what a node comes to, where more nodes follow it
  pub then_on : (y : NodeT ℕ) (c : NodesT ℕ) (s t : S) (due : Res S) → ran x fs n (before y c) s ≡ due → node_once x fs n y s ≡ Next t → ran x fs n c t ≡ due
  then_on y c s t due e h = sym (node_then y c s ∙ ap (λ r. then_next r (ran x fs n c)) h) ∙ e

  pub then_leaves : (y : NodeT ℕ) (c : NodesT ℕ) (s t : S) (k : ℕ) (due : Res S) → ran x fs n (before y c) s ≡ due → node_once x fs n y s ≡ Leaves k t → due ≡ Leaves k t
  then_leaves y c s t k due e h = sym e ∙ node_then y c s ∙ ap (λ r. then_next r (ran x fs n c)) h

  pub then_repeats : (y : NodeT ℕ) (c : NodesT ℕ) (s t : S) (k : ℕ) (due : Res S) → ran x fs n (before y c) s ≡ due → node_once x fs n y s ≡ Repeats k t → due ≡ Repeats k t
  then_repeats y c s t k due e h = sym e ∙ node_then y c s ∙ ap (λ r. then_next r (ran x fs n c)) h

  pub then_returns : (y : NodeT ℕ) (c : NodesT ℕ) (s t : S) (due : Res S) → ran x fs n (before y c) s ≡ due → node_once x fs n y s ≡ Returns t → due ≡ Returns t
  then_returns y c s t due e h = sym e ∙ node_then y c s ∙ ap (λ r. then_next r (ran x fs n c)) h

  pub then_over : (y : NodeT ℕ) (c : NodesT ℕ) (s t : S) (end : Ending) (due : Res S) → ran x fs n (before y c) s ≡ due → node_once x fs n y s ≡ Over end t → due ≡ Over end t
  then_over y c s t end due e h = sym e ∙ node_then y c s ∙ ap (λ r. then_next r (ran x fs n c)) h

  -- ---- loops

  abbrev again : NodesT ℕ → S → Res S
  again b = below (over_worlds temporaries x fs) n (Loop b Stop)

  left_so : (f o : Flow) (t : S) (go : S → Res S) → turn_left f ≡ Some o → turn_done (went f t) go ≡ went o t
  left_so flow.Next o t go e = ap (λ z. went (or_next z) t) e
  left_so (flow.Leaves zero) o t go e = ap (λ z. went (or_next z) t) e
  left_so (flow.Leaves (suc k)) o t go e = ap (λ z. went (or_next z) t) e
  left_so (flow.Repeats zero) o t go e = absurd cc
  left_so (flow.Repeats (suc k)) o t go e = ap (λ z. went (or_next z) t) e
  left_so flow.Returns o t go e = ap (λ z. went (or_next z) t) e

  none_so : (f : Flow) (t : S) (go : S → Res S) → turn_left f ≡ None → turn_done (went f t) go ≡ go t
  none_so flow.Next t go e = absurd cc
  none_so (flow.Leaves zero) t go e = absurd cc
  none_so (flow.Leaves (suc k)) t go e = absurd cc
  none_so (flow.Repeats zero) t go e = refl
  none_so (flow.Repeats (suc k)) t go e = absurd cc
  none_so flow.Returns t go e = absurd cc

  -- the last turn
  pub turn_out : (b : NodesT ℕ) (s t : S) (f o : Flow) (due : Res S) → ran x fs n (Loop b Stop) s ≡ due → ran x fs n b (spent 8 s) ≡ went f t → turn_left f ≡ Some o → due ≡ went o t
  turn_out b s t f o due e h l = sym e ∙ next_same _ ∙ ap (λ r. turn_done r (again b)) h ∙ left_so f o t (again b) l

  -- a run that ends in a turn
  pub turn_over : (b : NodesT ℕ) (s t : S) (end : Ending) (due : Res S) → ran x fs n (Loop b Stop) s ≡ due → ran x fs n b (spent 8 s) ≡ Over end t → due ≡ Over end t
  turn_over b s t end due e h = sym e ∙ next_same _ ∙ ap (λ r. turn_done r (again b)) h

  turn_again : (b : NodesT ℕ) (s t : S) (f : Flow) (due : Res S) → ran x fs n (Loop b Stop) s ≡ due → ran x fs n b (spent 8 s) ≡ went f t → turn_left f ≡ None → again b t ≡ due
  turn_again b s t f due e h l = sym (next_same _ ∙ ap (λ r. turn_done r (again b)) h ∙ none_so f t (again b) l) ∙ e

  -- ---- lists in memory

  pub list_on : (ys rest : List (NodeT ℕ)) (y : NodeT ℕ) (s t : S) (due : Res S) → ys ≡ y ∷ rest → ran x fs n (joined (listed ys)) s ≡ due → node_once x fs n y s ≡ Next t → ran x fs n (joined (listed rest)) t ≡ due
  list_on ys rest y s t due l e h = then_on y (joined (listed rest)) s t due (sym (ap (λ z. ran x fs n (joined (listed z)) s) l) ∙ e) h

  pub list_out : (ys rest : List (NodeT ℕ)) (y : NodeT ℕ) (s : S) (due r : Res S) → (then_next r (ran x fs n (joined (listed rest))) ≡ r) → ys ≡ y ∷ rest → ran x fs n (joined (listed ys)) s ≡ due → node_once x fs n y s ≡ r → due ≡ r
  list_out ys rest y s due r same l e h = sym (sym (ap (λ z. ran x fs n (joined (listed z)) s) l) ∙ e) ∙ node_then y (joined (listed rest)) s ∙ ap (λ z. then_next z (ran x fs n (joined (listed rest)))) h ∙ same

  pub list_stops : (ys rest : List (NodeT ℕ)) (y : NodeT ℕ) (s t : S) (due : Res S) (e : answers.Stop) → ys ≡ y ∷ rest → ran x fs n (joined (listed ys)) s ≡ due → Stops e t (node_once x fs n y s) → Stops e t due
  list_stops ys rest y s t due Memory l e h = h
  list_stops ys rest y s t due (Cause end) l e h = list_out ys rest y s due (Over (ending end) t) refl l e h

  pub list_end : (ys : List (NodeT ℕ)) (s : S) (due : Res S) → ys ≡ [] → ran x fs n (joined (listed ys)) s ≡ due → due ≡ Next s
  list_end ys s due l e = sym e ∙ ap (λ z. ran x fs n (joined (listed z)) s) l

  pub turn_stops : (b : NodesT ℕ) (s t : S) (due : Res S) (e : answers.Stop) → looped x fs n b s ≡ due → Stops e t (ran x fs n b (spent 8 s)) → Stops e t due
  turn_stops b s t due Memory e h = h
  turn_stops b s t due (Cause end) e h = turn_over b s t (ending end) due e h

-- ---- calls

module _ (x : CodeT ℕ) (fs : List ℕ) where
  abbrev pub entering : ℕ → List ℕ → S → Did S
  entering f args s = if_room (has_room (sizes_of x fs) f s.world.store) s (begun temporaries (sizes_of x fs) (function_at x f).params f args s)

  abbrev pub calling : ℕ → Option ℕ → ℕ → List ℕ → S → Res S
  calling n t f args s = called (over_worlds temporaries x fs) n (below (over_worlds temporaries x fs) n) t f args s

  done_same : (t : Option ℕ) (s : S) (r : Res S) → call_done (λ v. record v { given = Unwritten }) (back temporaries t s) r ≡ returned (caller_of s) t r
  done_same t s (Next v) = refl
  done_same t s (Leaves k v) = refl
  done_same t s (Repeats k v) = refl
  done_same t s (Returns v) = refl
  done_same t s (Over end v) = refl

  pub call_none : (n : ℕ) (t : Option ℕ) (f : ℕ) (args : List ℕ) (s : S) → n ≡ 0 → calling n t f args s ≡ Over OutOfBound s
  call_none zero t f args s z = refl
  call_none (suc n) t f args s z = absurd (omega (arith, z))

  call_on : (n m : ℕ) (t : Option ℕ) (f : ℕ) (args : List ℕ) (s v : S) (r : Res S) → m + 1 ≡ n → entering f args s ≡ On v → ran x fs m (function_at x f).body v ≡ r → calling n t f args s ≡ returned (caller_of s) t r
  call_on zero m t f args s v r z e h = absurd (omega (arith, z))
  call_on (suc n) m t f args s v r z e h =
      ap (λ d. did d (λ v. call_done (λ v. record v { given = Unwritten }) (back temporaries t s) (ran x fs n (function_at x f).body v))) e
      ∙ done_same t s (ran x fs n (function_at x f).body v)
      ∙ ap (returned (caller_of s) t) (ap (λ k. ran x fs k (function_at x f).body v) (lower n m z) ∙ h)

  call_ends : (n m : ℕ) (t : Option ℕ) (f : ℕ) (args : List ℕ) (s v : S) (end : Ending) → m + 1 ≡ n → entering f args s ≡ EndsIn end v → calling n t f args s ≡ Over end v
  call_ends zero m t f args s v end z e = absurd (omega (arith, z))
  call_ends (suc n) m t f args s v end z e = ap (λ d. did d (λ v. call_done (λ v. record v { given = Unwritten }) (back temporaries t s) (ran x fs n (function_at x f).body v))) e

  pub call_shut : (n m : ℕ) (t : Option ℕ) (f : ℕ) (args : List ℕ) (s v : S) (e : answers.Stop) → m + 1 ≡ n → StopsIn e v (entering f args s) → Stops e v (calling n t f args s)
  call_shut n m t f args s v Memory z h = h
  call_shut n m t f args s v (Cause end) z h = call_ends n m t f args s v (ending end) z h

  pub call_stops : (n m : ℕ) (t : Option ℕ) (f : ℕ) (args : List ℕ) (s v w : S) (b : NodesT ℕ) (e : answers.Stop) → m + 1 ≡ n → entering f args s ≡ On v → b ≡ (function_at x f).body → Stops e w (ran x fs m b v) → Stops e w (calling n t f args s)
  call_stops n m t f args s v w b Memory z o c h = h
  call_stops n m t f args s v w b (Cause end) z o c h = call_on n m t f args s v (Over (ending end) w) z o (sym (ap (λ y. ran x fs m y v) c) ∙ h)

  pub call_leads : (n m : ℕ) (t : Option ℕ) (f : ℕ) (args : List ℕ) (s v w u : S) (b : NodesT ℕ) (o : Flow) (kept : CallerT) (r : Result Flow answers.Stop) → m + 1 ≡ n → entering f args s ≡ On v → b ≡ (function_at x f).body → ran x fs m b v ≡ went o w → kept ≡ caller_of s → Leads r u (returned kept t (went o w)) → Leads r u (calling n t f args s)
  call_leads n m t f args s v w u b o kept r z e c h k l =
      subst (λ d. Leads r u d) (ap (λ z. returned z t (went o w)) k ∙ sym (call_on n m t f args s v (went o w) z e (sym (ap (λ y. ran x fs m y v) c) ∙ h))) l

module _ (x : CodeT ℕ) (fs : List ℕ) where
  -- a further turn, where no more of the bound is left
  pub turn_none : (n : ℕ) (b : NodesT ℕ) (s t : S) (f : Flow) (due : Res S) → n ≡ 0 → ran x fs n (Loop b Stop) s ≡ due → ran x fs n b (spent 8 s) ≡ went f t → turn_left f ≡ None → due ≡ Over OutOfBound t
  turn_none zero b s t f due z e h l = sym (turn_again x fs zero b s t f due e h l)
  turn_none (suc n) b s t f due z e h l = absurd (omega (arith, z))

  pub turn_next : (n m : ℕ) (b : NodesT ℕ) (s t : S) (f : Flow) (due : Res S) → m + 1 ≡ n → ran x fs n (Loop b Stop) s ≡ due → ran x fs n b (spent 8 s) ≡ went f t → turn_left f ≡ None → ran x fs m (Loop b Stop) t ≡ due
  turn_next zero m b s t f due z e h l = absurd (omega (arith, z))
  turn_next (suc n) m b s t f due z e h l = subst (λ k. ran x fs k (Loop b Stop) t ≡ due) (lower n m z) (turn_again x fs (suc n) b s t f due e h l)
