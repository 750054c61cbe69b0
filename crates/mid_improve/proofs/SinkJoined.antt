-- Nodes in memory that a walk has gone through are what is said of them.
use Rattle.std.proofs.Common.{◌≡◌, ℕ, Bool, true, false, cond, List, [], ◌∷◌, ◌++◌, map, Option, Some, None, refl, ap, ◌∙◌}
use Rattle.std.proofs.lemmas.List.{append_assoc}
use Rattle.mid_code.specs.declared.node.Op.{Op}
use Rattle.mid_code.specs.declared.node.Op.TheVariants as op
use Rattle.mid_code.specs.declared.node.Node.{Node}
use Rattle.mid_code.specs.inner.Passing.{doing}
use Rattle.mid_code.specs.Code.{OpT, ConstO, NullO, MoveO, OneO, TwoO, GlobalO, LocalO, LiteralO, CardO, StepO, ApartO, PtrTestO, LoadO, StoreO, FreshO, EndO, InO, OutO, WaitO, HaltO, NodesT, Stop, Do, Call, Choose, Block, Loop, Leave, Again, Return, FunctionT}
use Rattle.mid_code.specs.Functions.{op_before, NodeT, DoN, ChooseN, BlockN, LoopN, LeaveN, AgainN, ReturnN, ListT, NoN, MoreN, listed, node, before, joined, nodes}
use Rattle.mid_improve.specs.declared.sinking.Walk.{Walk}
use Rattle.mid_improve.specs.inner.Sinking.{Held, held_ops, is_free, goes_on, ops_alone, held_alone, ops_at, held_behind, sunk, sunk_function}
use Rattle.mid_improve.specs.inner.SinkListed.{op_of, node_op, held_nodes, nodes_at, held_at, node_sunk, list_sunk}

-- an operation in memory before nodes
op_first : (p : OpT ℕ) (c : NodesT ℕ) → op_before (op_of p) c ≡ Do p c
op_first (ConstO t word) c = refl
op_first (NullO t) c = refl
op_first (MoveO t a) c = refl
op_first (OneO o t a) c = refl
op_first (TwoO o t a b) c = refl
op_first (GlobalO t number) c = refl
op_first (LocalO t k) c = refl
op_first (LiteralO t number) c = refl
op_first (CardO t) c = refl
op_first (StepO t p n) c = refl
op_first (ApartO t p q) c = refl
op_first (PtrTestO o t p q) c = refl
op_first (LoadO t p) c = refl
op_first (StoreO p a) c = refl
op_first (FreshO k) c = refl
op_first (EndO k) c = refl
op_first (InO t port) c = refl
op_first (OutO port a) c = refl
op_first WaitO c = refl
op_first HaltO c = refl

-- what stands for nodes in memory, by what is held back before them
abbrev Stands : (Held → List (NodeT ℕ)) → (Held → NodesT ℕ) → Type 0
Stands zs c = (h : Held) → joined (listed (zs h)) ≡ c h

held_first : (h : Held) (zs : List (NodeT ℕ)) → joined (listed (held_nodes h ++ zs)) ≡ doing (held_ops h) (joined (listed zs))
held_first None zs = refl
held_first (Some p) zs = op_first p (joined (listed zs))

held_last : (h : Held) → joined (listed (held_nodes h)) ≡ doing (held_ops h) Stop
held_last None = refl
held_last (Some p) = op_first p Stop

module _ (W : Walk) where
  -- nodes behind a node
  abbrev More : Option (OpT ℕ) → NodeT ℕ → (Held → List (NodeT ℕ)) → Held → List (NodeT ℕ)
  More o x zs h = nodes_at W h o x ++ zs (held_at W h o)

  -- a node that is an operation
  op_sunk : (x : NodeT ℕ) (o : OpT ℕ) (zs : Held → List (NodeT ℕ)) (c : NodesT ℕ) → ((d : NodesT ℕ) → before x d ≡ Do o d) → Stands zs (λ h. sunk W h c) → Stands (More (Some o) x zs) (λ h. sunk W h (Do o c))
  op_sunk x o zs c first r h = go h
    where
      free : (b : Bool) → joined (listed (cond b [] (x ∷ []) ++ zs (cond b (Some o) None))) ≡ doing (cond b [] (o ∷ [])) (sunk W (cond b (Some o) None) c)
      free true = r (Some o)
      free false = ap (before x) (r None) ∙ first (sunk W None c)

      held : (p : OpT ℕ) (b : Bool) → joined (listed (cond b (x ∷ []) (DoN (op_of p) ∷ cond (is_free W (Some p) o) [] (x ∷ [])) ++ zs (cond b (Some p) (held_alone W (Some p) o)))) ≡ doing (cond b (o ∷ []) (p ∷ ops_alone W (Some p) o)) (sunk W (cond b (Some p) (held_alone W (Some p) o)) c)
      held p true = ap (before x) (r (Some p)) ∙ first (sunk W (Some p) c)
      held p false = op_first p _ ∙ ap (Do p) (free (is_free W (Some p) o))

      go : (h : Held) → joined (listed (More (Some o) x zs h)) ≡ doing (ops_at W h o) (sunk W (held_behind W h o) c)
      go None = free (is_free W None o)
      go (Some p) = held p (goes_on W (Some p) o)

  -- a node that is no operation
  other_sunk : (x : NodeT ℕ) (d : NodesT ℕ) (zs : Held → List (NodeT ℕ)) (c : NodesT ℕ) → before x (sunk W None c) ≡ d → Stands zs (λ h. sunk W h c) → Stands (More None x zs) (λ h. doing (held_ops h) d)
  other_sunk x d zs c first r h =
      ap (λ xs. joined (listed xs)) (append_assoc (held_nodes h) (x ∷ []) (zs None))
      ∙ held_first h (x ∷ zs None)
      ∙ ap (doing (held_ops h)) (ap (before x) (r None) ∙ first)

  -- an operation or a call in memory
  do_sunk : (o : Op ℕ) (zs : Held → List (NodeT ℕ)) (c : NodesT ℕ) → Stands zs (λ h. sunk W h c) → Stands (More (node_op (DoN o)) (DoN o) zs) (λ h. sunk W h (op_before o c))
  do_sunk (op.Const t word) zs c r = op_sunk (DoN (op.Const t word)) (ConstO t word) zs c (λ d. refl) r
  do_sunk (op.Null t) zs c r = op_sunk (DoN (op.Null t)) (NullO t) zs c (λ d. refl) r
  do_sunk (op.Move t a) zs c r = op_sunk (DoN (op.Move t a)) (MoveO t a) zs c (λ d. refl) r
  do_sunk (op.One o t a) zs c r = op_sunk (DoN (op.One o t a)) (OneO o t a) zs c (λ d. refl) r
  do_sunk (op.Two o t a b) zs c r = op_sunk (DoN (op.Two o t a b)) (TwoO o t a b) zs c (λ d. refl) r
  do_sunk (op.Global t number) zs c r = op_sunk (DoN (op.Global t number)) (GlobalO t number) zs c (λ d. refl) r
  do_sunk (op.Local t k) zs c r = op_sunk (DoN (op.Local t k)) (LocalO t k) zs c (λ d. refl) r
  do_sunk (op.Literal t number) zs c r = op_sunk (DoN (op.Literal t number)) (LiteralO t number) zs c (λ d. refl) r
  do_sunk (op.Card t) zs c r = op_sunk (DoN (op.Card t)) (CardO t) zs c (λ d. refl) r
  do_sunk (op.Step t p n) zs c r = op_sunk (DoN (op.Step t p n)) (StepO t p n) zs c (λ d. refl) r
  do_sunk (op.Apart t p q) zs c r = op_sunk (DoN (op.Apart t p q)) (ApartO t p q) zs c (λ d. refl) r
  do_sunk (op.PtrTest o t p q) zs c r = op_sunk (DoN (op.PtrTest o t p q)) (PtrTestO o t p q) zs c (λ d. refl) r
  do_sunk (op.Load t p) zs c r = op_sunk (DoN (op.Load t p)) (LoadO t p) zs c (λ d. refl) r
  do_sunk (op.Store p a) zs c r = op_sunk (DoN (op.Store p a)) (StoreO p a) zs c (λ d. refl) r
  do_sunk (op.Fresh k) zs c r = op_sunk (DoN (op.Fresh k)) (FreshO k) zs c (λ d. refl) r
  do_sunk (op.End k) zs c r = op_sunk (DoN (op.End k)) (EndO k) zs c (λ d. refl) r
  do_sunk (op.Call t f args) zs c r = other_sunk (DoN (op.Call t f args)) (Call t f args (sunk W None c)) zs c refl r
  do_sunk (op.In t port) zs c r = op_sunk (DoN (op.In t port)) (InO t port) zs c (λ d. refl) r
  do_sunk (op.Out port a) zs c r = op_sunk (DoN (op.Out port a)) (OutO port a) zs c (λ d. refl) r
  do_sunk op.Wait zs c r = op_sunk (DoN op.Wait) WaitO zs c (λ d. refl) r
  do_sunk op.Halt zs c r = op_sunk (DoN op.Halt) HaltO zs c (λ d. refl) r

  mutual
    node_is : (x : NodeT ℕ) (zs : Held → List (NodeT ℕ)) (c : NodesT ℕ) → Stands zs (λ h. sunk W h c) → Stands (More (node_op x) (node_sunk W x) zs) (λ h. sunk W h (before x c))
    node_is (DoN o) zs c r = do_sunk o zs c r
    node_is (ChooseN p a b) zs c r =
        other_sunk (node_sunk W (ChooseN p a b)) (Choose p (sunk W None (joined a)) (sunk W None (joined b)) (sunk W None c)) zs c (λ i. Choose p (list_is a None i) (list_is b None i) (sunk W None c)) r
    node_is (BlockN b) zs c r = other_sunk (node_sunk W (BlockN b)) (Block (sunk W None (joined b)) (sunk W None c)) zs c (λ i. Block (list_is b None i) (sunk W None c)) r
    node_is (LoopN b) zs c r = other_sunk (node_sunk W (LoopN b)) (Loop (sunk W None (joined b)) (sunk W None c)) zs c (λ i. Loop (list_is b None i) (sunk W None c)) r
    node_is (LeaveN k) zs c r = other_sunk (LeaveN k) (Leave k (sunk W None c)) zs c refl r
    node_is (AgainN k) zs c r = other_sunk (AgainN k) (Again k (sunk W None c)) zs c refl r
    node_is (ReturnN p) zs c r = other_sunk (ReturnN p) (Return p (sunk W None c)) zs c refl r

    list_is : (xs : ListT ℕ) (h : Held) → joined (listed (list_sunk W h xs)) ≡ sunk W h (joined xs)
    list_is NoN h = held_last h
    list_is (MoreN x rest) h = node_is x (λ k. list_sunk W k rest) (joined rest) (λ k. list_is rest k) h

  -- the nodes of a body
  pub sunk_joined : (ns ms : List (Node ℕ)) → map node ms ≡ list_sunk W None (listed (map node ns)) → nodes ms ≡ sunk W None (nodes ns)
  sunk_joined ns ms e = ap (λ xs. joined (listed xs)) e ∙ list_is (listed (map node ns)) None

  pub function_is : (f : FunctionT ℕ) (body : NodesT ℕ) → body ≡ sunk W None f.body → record f { body = body } ≡ sunk_function W f
  function_is f body b = λ i. record f { body = b i }
