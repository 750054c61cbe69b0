-- What stands for nodes is a pair with them.
use Rattle.std.proofs.Common.{◌≡◌, ℕ, ◌<◌, Bool, true, false, cond, ltb, List, [], ◌∷◌, ◌++◌, Option, Some, None, refl, sym, ap, ◌∙◌, arith}
use Rattle.mid_code.specs.declared.node.Op.{Op}
use Rattle.mid_code.specs.declared.node.Op.TheVariants as op
use Rattle.mid_code.specs.Code.{ConstO, NullO, MoveO, OneO, TwoO, GlobalO, LocalO, LiteralO, CardO, StepO, ApartO, PtrTestO, LoadO, StoreO, FreshO, EndO, InO, OutO, WaitO, HaltO, NodesT, Do, Choose, Block, Loop, Leave, Again, Return}
use Rattle.mid_code.specs.Functions.{NodeT, DoN, ChooseN, BlockN, LoopN, LeaveN, AgainN, ReturnN, ListT, NoN, MoreN, op_before, before, joined, listed}
use Rattle.mid_replace.specs.inner.Facts.{Fact, Plain, Word, Place, Any, Note, Plan, fact_at, step_fact}
use Rattle.mid_replace.specs.inner.Replaced.{is_access, is_plain, unless_hidden, or_move, turn_of, may_stand, may_be_made, some_node, noted, noted_maybe, is_maybe_plain, asks_by, if_some, when, prepended, loop_by, replaced, node_replaced}
use Rattle.mid_replace.proofs.Tables.{both_0, both_1}
use Rattle.mid_replace.proofs.Asks.{asks_shape}
use Rattle.mid_replace.proofs.Pairs.{Pair, stopP, goneP, movedP, doP, callP, chooseP, blockP, loopP, leaveP, againP, returnP, old, new, move, local, step, loaded, stored}

-- ---- what an answer tells

none_some : {A : Type 0} (x : A) → None ≡ Some x → ⊥
none_some x e = cc

some_same : {A : Type 0} (x y : A) → Some x ≡ Some y → x ≡ y
some_same x y e = cc

false_true : false ≡ true → ⊥
false_true e = cc

record Added (add : List (NodeT ℕ)) (r : Option (List (NodeT ℕ))) (c : List (NodeT ℕ)) : Type 0 where
  behind : List (NodeT ℕ)
  is : r ≡ Some behind
  all : add ++ behind ≡ c

pre_some : (add : List (NodeT ℕ)) (r : Option (List (NodeT ℕ))) (c : List (NodeT ℕ)) → prepended add r ≡ Some c → Added add r c
pre_some add None c e = absurd (none_some c e)
pre_some add (Some b) c e = record { behind = b; is = refl; all = some_same (add ++ b) c e }

when_true : {A : Type 0} (b : Bool) (r : Option A) (c : A) → when b r ≡ Some c → b ≡ true
when_true true r c e = refl
when_true false r c e = absurd (none_some c e)

when_some : {A : Type 0} (b : Bool) (r : Option A) (c : A) → when b r ≡ Some c → r ≡ Some c
when_some true r c e = e
when_some false r c e = absurd (none_some c e)

record Inside (r : Option (List (NodeT ℕ))) (go : List (NodeT ℕ) → Option (List (NodeT ℕ))) (c : List (NodeT ℕ)) : Type 0 where
  inside : List (NodeT ℕ)
  is : r ≡ Some inside
  then : go inside ≡ Some c

bind_some : (r : Option (List (NodeT ℕ))) (go : List (NodeT ℕ) → Option (List (NodeT ℕ))) (c : List (NodeT ℕ)) → if_some r go ≡ Some c → Inside r go c
bind_some None go c e = absurd (none_some c e)
bind_some (Some b) go c e = record { inside = b; is = refl; then = e }

-- ---- one operation

abbrev after_op : Option (Op ℕ) → NodesT ℕ → NodesT ℕ
after_op None c = c
after_op (Some q) c = op_before q c

some_joined : (s : Option (Op ℕ)) (d : List (NodeT ℕ)) → joined (listed (some_node s ++ d)) ≡ after_op s (joined (listed d))
some_joined None d = refl
some_joined (Some q) d = refl

module _ (X : Plan) (T : ℕ) (fits : (k w : ℕ) → X.held k ≡ true → w < X.size k → X.variable k w < T) where
  record OpPair (before after : NodesT ℕ) : Type 0 where
    pair : Pair T
    is_old : old pair ≡ before
    is_new : new pair ≡ after

  below : (a b : ℕ) → ltb a b ≡ true → a < b
  below a b e = grind (arith, e)

  variable_fits : (k w : ℕ) → is_access X (Place k w) ≡ true → X.variable k w < T
  variable_fits k w e = fits k w (both_0 (X.held k) (ltb w (X.size k)) e) (below w (X.size k) (both_1 (X.held k) (ltb w (X.size k)) e))

  move_pair : (t a : ℕ) (u : Fact) (w : Pair T) → OpPair (Do (MoveO t a) (old w)) (after_op (unless_hidden u (op.Move t a)) (new w))
  move_pair t a Plain w = record { pair = doP (MoveO t a) w; is_old = refl; is_new = refl }
  move_pair t a (Word n) w = record { pair = doP (MoveO t a) w; is_old = refl; is_new = refl }
  move_pair t a (Place k v) w = record { pair = goneP (move t a) w; is_old = refl; is_new = refl }
  move_pair t a Any w = record { pair = goneP (move t a) w; is_old = refl; is_new = refl }

  step_pair : (t p n : ℕ) (u : Fact) (w : Pair T) → OpPair (Do (StepO t p n) (old w)) (after_op (unless_hidden u (op.Step t p n)) (new w))
  step_pair t p n Plain w = record { pair = doP (StepO t p n) w; is_old = refl; is_new = refl }
  step_pair t p n (Word m) w = record { pair = doP (StepO t p n) w; is_old = refl; is_new = refl }
  step_pair t p n (Place k v) w = record { pair = goneP (step t p n) w; is_old = refl; is_new = refl }
  step_pair t p n Any w = record { pair = goneP (step t p n) w; is_old = refl; is_new = refl }

  local_pair : (t k : ℕ) (b : Bool) (w : Pair T) → OpPair (Do (LocalO t k) (old w)) (after_op (cond b None (Some (op.Local t k))) (new w))
  local_pair t k true w = record { pair = goneP (local t k) w; is_old = refl; is_new = refl }
  local_pair t k false w = record { pair = doP (LocalO t k) w; is_old = refl; is_new = refl }

  load_pair : (t p : ℕ) (u : Fact) (w : Pair T) → is_access X u ≡ true → OpPair (Do (LoadO t p) (old w)) (op_before (or_move u (op.Load t p) (λ k v. op.Move t (X.variable k v))) (new w))
  load_pair t p Plain w e = record { pair = doP (LoadO t p) w; is_old = refl; is_new = refl }
  load_pair t p (Word m) w e = record { pair = doP (LoadO t p) w; is_old = refl; is_new = refl }
  load_pair t p (Place k v) w e = record { pair = movedP (loaded t p (X.variable k v) (variable_fits k v e)) w; is_old = refl; is_new = refl }
  load_pair t p Any w e = absurd (false_true e)

  store_pair : (p a : ℕ) (u : Fact) (w : Pair T) → is_access X u ≡ true → OpPair (Do (StoreO p a) (old w)) (op_before (or_move u (op.Store p a) (λ k v. op.Move (X.variable k v) a)) (new w))
  store_pair p a Plain w e = record { pair = doP (StoreO p a) w; is_old = refl; is_new = refl }
  store_pair p a (Word m) w e = record { pair = doP (StoreO p a) w; is_old = refl; is_new = refl }
  store_pair p a (Place k v) w e = record { pair = movedP (stored p a (X.variable k v) (variable_fits k v e)) w; is_old = refl; is_new = refl }
  store_pair p a Any w e = absurd (false_true e)

  op_pair : (i : ℕ → Fact) (o : Op ℕ) (w : Pair T) → (turn_of X i o).fine ≡ true → OpPair (op_before o (old w)) (after_op (turn_of X i o).stands (new w))
  op_pair i (op.Const t n) w e = record { pair = doP (ConstO t n) w; is_old = refl; is_new = refl }
  op_pair i (op.Null t) w e = record { pair = doP (NullO t) w; is_old = refl; is_new = refl }
  op_pair i (op.Move t a) w e = move_pair t a (i a) w
  op_pair i (op.One o t a) w e = record { pair = doP (OneO o t a) w; is_old = refl; is_new = refl }
  op_pair i (op.Two o t a b) w e = record { pair = doP (TwoO o t a b) w; is_old = refl; is_new = refl }
  op_pair i (op.Global t k) w e = record { pair = doP (GlobalO t k) w; is_old = refl; is_new = refl }
  op_pair i (op.Local t k) w e = local_pair t k (X.held k) w
  op_pair i (op.Literal t k) w e = record { pair = doP (LiteralO t k) w; is_old = refl; is_new = refl }
  op_pair i (op.Card t) w e = record { pair = doP (CardO t) w; is_old = refl; is_new = refl }
  op_pair i (op.Step t p n) w e = step_pair t p n (step_fact (i p) (i n)) w
  op_pair i (op.Apart t p q) w e = record { pair = doP (ApartO t p q) w; is_old = refl; is_new = refl }
  op_pair i (op.PtrTest o t p q) w e = record { pair = doP (PtrTestO o t p q) w; is_old = refl; is_new = refl }
  op_pair i (op.Load t p) w e = load_pair t p (i p) w e
  op_pair i (op.Store p a) w e = store_pair p a (i p) w (both_0 (is_access X (i p)) (is_plain (i a)) e)
  op_pair i (op.Fresh k) w e = record { pair = doP (FreshO k) w; is_old = refl; is_new = refl }
  op_pair i (op.End k) w e = record { pair = doP (EndO k) w; is_old = refl; is_new = refl }
  op_pair i (op.Call None g args) w e = record { pair = callP None g args w; is_old = refl; is_new = refl }
  op_pair i (op.Call (Some t) g args) w e = record { pair = callP (Some t) g args w; is_old = refl; is_new = refl }
  op_pair i (op.In t port) w e = record { pair = doP (InO t port) w; is_old = refl; is_new = refl }
  op_pair i (op.Out port a) w e = record { pair = doP (OutO port a) w; is_old = refl; is_new = refl }
  op_pair i op.Wait w e = record { pair = doP WaitO w; is_old = refl; is_new = refl }
  op_pair i op.Halt w e = record { pair = doP HaltO w; is_old = refl; is_new = refl }

  -- ---- nodes

  pub record Paired (before : NodesT ℕ) (after : List (NodeT ℕ)) : Type 0 where
    pub pair : Pair T
    pub is_old : old pair ≡ before
    pub is_new : new pair ≡ joined (listed after)

  abbrev Goes : NodesT ℕ → (List Note → Option (List (NodeT ℕ))) → Type 0
  Goes rest go = (ms : List Note) (d : List (NodeT ℕ)) → go ms ≡ Some d → Paired rest d

  op_paired : (ns : List Note) (o : Op ℕ) (rest : NodesT ℕ) (go : List Note → Option (List (NodeT ℕ))) (c : List (NodeT ℕ)) → Goes rest go
      → when (may_stand X (turn_of X (fact_at (X.base) ns) o)) (prepended (some_node (turn_of X (fact_at (X.base) ns) o).stands) (go (noted_maybe (turn_of X (fact_at (X.base) ns) o).made ns))) ≡ Some c
      → Paired (op_before o rest) c
  op_paired ns o rest go c f e =
      let i = fact_at (X.base) ns in
      let u = turn_of X i o in
      let r = prepended (some_node u.stands) (go (noted_maybe u.made ns)) in
      let a = pre_some (some_node u.stands) (go (noted_maybe u.made ns)) c (when_some (may_stand X u) r c e) in
      let w = f (noted_maybe u.made ns) a.behind a.is in
      let q = op_pair i o w.pair (both_0 u.fine (may_be_made X u.made) (when_true (may_stand X u) r c e)) in
      record {
        pair = q.pair;
        is_old = q.is_old ∙ ap (op_before o) w.is_old;
        is_new = q.is_new ∙ ap (after_op u.stands) w.is_new ∙ sym (some_joined u.stands a.behind) ∙ ap (λ d. joined (listed d)) a.all;
      }

  -- a node that stays, before what comes behind it
  one_paired : (x : NodeT ℕ) (make : Pair T → Pair T) (before' : NodesT ℕ → NodesT ℕ) (rest : NodesT ℕ) (go : List Note → Option (List (NodeT ℕ))) (ms : List Note) (c : List (NodeT ℕ))
      → ((w : Pair T) → old (make w) ≡ before' (old w)) → ((w : Pair T) → new (make w) ≡ before x (new w)) → Goes rest go → prepended (x ∷ []) (go ms) ≡ Some c → Paired (before' rest) c
  one_paired x make before' rest go ms c g h f e =
      let a = pre_some (x ∷ []) (go ms) c e in
      let w = f ms a.behind a.is in
      record {
        pair = make w.pair;
        is_old = g w.pair ∙ ap before' w.is_old;
        is_new = h w.pair ∙ ap (before x) w.is_new ∙ ap (λ d. joined (listed d)) a.all;
      }

  asks_paired : (ns : List Note) (b : ListT ℕ) (t : ℕ) (rest : NodesT ℕ) (go : List Note → Option (List (NodeT ℕ))) (c : List (NodeT ℕ)) → asks_by b ≡ Some t → Goes rest go
      → when (is_plain (fact_at (X.base) ns t)) (prepended (LoopN b ∷ []) (go (noted t Plain ns))) ≡ Some c → Paired (Loop (joined b) rest) c
  asks_paired ns b t rest go c asks f e =
      let shape = ap (λ d. joined d) (asks_shape b t asks) in
      one_paired (LoopN b) (loopP (chooseP t (doP (ConstO t 0) (againP 0 stopP)) stopP stopP)) (Loop (joined b)) rest go (noted t Plain ns) c
      (λ w i. Loop (sym shape i) (old w)) (λ w i. Loop (sym shape i) (new w)) f
      (when_some (is_plain (fact_at (X.base) ns t)) (prepended (LoopN b ∷ []) (go (noted t Plain ns))) c e)

  loop_paired : (ns : List Note) (b : ListT ℕ) (asks : Option ℕ) (rest : NodesT ℕ) (go : List Note → Option (List (NodeT ℕ))) (c : List (NodeT ℕ)) → asks_by b ≡ asks → Goes rest go
      → ((d : List (NodeT ℕ)) → replaced X [] b ≡ Some d → Paired (joined b) d) → loop_by (fact_at (X.base) ns) ns b asks (replaced X [] b) go ≡ Some c → Paired (Loop (joined b) rest) c
  loop_paired ns b (Some t) rest go c asks f inside e = asks_paired ns b t rest go c asks f e
  loop_paired ns b None rest go c asks f inside e =
      let g = bind_some (replaced X [] b) (λ c'. prepended (LoopN (listed c') ∷ []) (go [])) c e in
      let v = inside g.inside g.is in
      one_paired (LoopN (listed g.inside)) (loopP v.pair) (Loop (joined b)) rest go [] c (λ z i. Loop (v.is_old i) (old z)) (λ z i. Loop (v.is_new i) (new z)) f g.then

  mutual
    pub list_paired : (ns : List Note) (l : ListT ℕ) (c : List (NodeT ℕ)) → replaced X ns l ≡ Some c → Paired (joined l) c
    list_paired ns NoN c e = record { pair = stopP; is_old = refl; is_new = ap (λ d. joined (listed d)) (some_same [] c e) }
    list_paired ns (MoreN x rest) c e = node_paired ns x (joined rest) (λ ms. replaced X ms rest) c (λ ms d f. list_paired ms rest d f) e

    node_paired : (ns : List Note) (x : NodeT ℕ) (rest : NodesT ℕ) (go : List Note → Option (List (NodeT ℕ))) (c : List (NodeT ℕ)) → Goes rest go → node_replaced X ns x go ≡ Some c → Paired (before x rest) c
    node_paired ns (DoN o) rest go c f e = op_paired ns o rest go c f e
    node_paired ns (ChooseN p a b) rest go c f e =
        let q = is_plain (fact_at (X.base) ns p) in
        let second : List (NodeT ℕ) → Option (List (NodeT ℕ)) = λ c'. if_some (replaced X [] b) (λ d'. prepended (ChooseN p (listed c') (listed d') ∷ []) (go [])) in
        let g = bind_some (replaced X [] a) second c (when_some q (if_some (replaced X [] a) second) c e) in
        let h = bind_some (replaced X [] b) (λ d'. prepended (ChooseN p (listed g.inside) (listed d') ∷ []) (go [])) c g.then in
        let v = list_paired [] a g.inside g.is in
        let w = list_paired [] b h.inside h.is in
        one_paired (ChooseN p (listed g.inside) (listed h.inside)) (chooseP p v.pair w.pair) (Choose p (joined a) (joined b)) rest go [] c
        (λ z i. Choose p (v.is_old i) (w.is_old i) (old z)) (λ z i. Choose p (v.is_new i) (w.is_new i) (new z)) f h.then
    node_paired ns (BlockN b) rest go c f e =
        let g = bind_some (replaced X [] b) (λ c'. prepended (BlockN (listed c') ∷ []) (go [])) c e in
        let v = list_paired [] b g.inside g.is in
        one_paired (BlockN (listed g.inside)) (blockP v.pair) (Block (joined b)) rest go [] c (λ z i. Block (v.is_old i) (old z)) (λ z i. Block (v.is_new i) (new z)) f g.then
    node_paired ns (LoopN b) rest go c f e = loop_paired ns b (asks_by b) rest go c refl f (λ d h. list_paired [] b d h) e
    node_paired ns (LeaveN k) rest go c f e = one_paired (LeaveN k) (leaveP k) (Leave k) rest go [] c (λ z. refl) (λ z. refl) f e
    node_paired ns (AgainN k) rest go c f e = one_paired (AgainN k) (againP k) (Again k) rest go [] c (λ z. refl) (λ z. refl) f e
    node_paired ns (ReturnN p) rest go c f e =
        one_paired (ReturnN p) (returnP p) (Return p) rest go [] c (λ z. refl) (λ z. refl) f (when_some (is_maybe_plain (fact_at (X.base) ns) p) (prepended (ReturnN p ∷ []) (go [])) c e)
