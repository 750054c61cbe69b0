-- Nodes that are rewritten in memory are the promoted nodes; and plans that say the same give the same code.
use Rattle.std.proofs.Common.{◌≡◌, ℕ, Bool, true, false, cond, List, [], ◌∷◌, ◌++◌, map, Option, Some, None, refl, sym, ap, ◌∙◌}
use Rattle.std.specs.Option.{option_map_or}
use Rattle.mid_code.specs.declared.node.Op.{Op}
use Rattle.mid_code.specs.declared.node.Op.TheVariants as op
use Rattle.mid_code.specs.declared.node.Node.{Node}
use Rattle.mid_code.specs.Code.{OpT, ConstO, NullO, MoveO, OneO, TwoO, GlobalO, LocalO, LiteralO, CardO, StepO, ApartO, PtrTestO, LoadO, StoreO, FreshO, EndO, InO, OutO, WaitO, HaltO, NodesT, Stop, Do, Call, Choose, Block, Loop, Leave, Again, Return}
use Rattle.mid_code.specs.Functions.{NodeT, DoN, ChooseN, BlockN, LoopN, LeaveN, AgainN, ReturnN, ListT, NoN, MoreN, op_before, before, joined, listed, node, nodes}
use Rattle.mid_code.specs.inner.Passing.{doing}
use Rattle.mid_scalars.specs.inner.Plan.{Kind, Own, Address, Variable, by_kind, Plan, promoted_op, promoted_nodes}
use Rattle.mid_scalars.specs.inner.Rewriting.{addressed, op_by, some_node, node_by, list_by}

-- ---- nodes in memory

rest_of : (X : Plan) (h : Option ℕ) (o : Op ℕ) (zs : List (NodeT ℕ)) (c : NodesT ℕ) → joined (listed zs) ≡ promoted_nodes X h c → joined (listed (some_node (op_by X h o) ++ zs)) ≡ promoted_nodes X h (op_before o c)
rest_of X h (op.Local t k) zs c e = go (X.promoted h k)
  where
    go : (b : Bool) → joined (listed (some_node (cond b None (Some (op.Local t (X.moved h k)))) ++ zs)) ≡ doing (cond b [] (LocalO t (X.moved h k) ∷ [])) (promoted_nodes X h c)
    go true = e
    go false = ap (Do (LocalO t (X.moved h k))) e
rest_of X h (op.Fresh k) zs c e = go (X.promoted h k)
  where
    go : (b : Bool) → joined (listed (some_node (cond b None (Some (op.Fresh (X.moved h k)))) ++ zs)) ≡ doing (cond b [] (FreshO (X.moved h k) ∷ [])) (promoted_nodes X h c)
    go true = e
    go false = ap (Do (FreshO (X.moved h k))) e
rest_of X h (op.End k) zs c e = go (X.promoted h k)
  where
    go : (b : Bool) → joined (listed (some_node (cond b None (Some (op.End (X.moved h k)))) ++ zs)) ≡ doing (cond b [] (EndO (X.moved h k) ∷ [])) (promoted_nodes X h c)
    go true = e
    go false = ap (Do (EndO (X.moved h k))) e
rest_of X h (op.Load t p) zs c e = go (X.kind h p)
  where
    go : (q : Kind) → joined (listed (some_node (option_map_or (λ k. Some (op.Move t (X.variable h k))) (addressed q) (Some (op.Load t p))) ++ zs)) ≡ doing (by_kind q (LoadO t p ∷ []) (λ k. MoveO t (X.variable h k) ∷ [])) (promoted_nodes X h c)
    go Own = ap (Do (LoadO t p)) e
    go (Address k) = ap (Do (MoveO t (X.variable h k))) e
    go (Variable k) = ap (Do (LoadO t p)) e
rest_of X h (op.Store p a) zs c e = go (X.kind h p)
  where
    go : (q : Kind) → joined (listed (some_node (option_map_or (λ k. Some (op.Move (X.variable h k) a)) (addressed q) (Some (op.Store p a))) ++ zs)) ≡ doing (by_kind q (StoreO p a ∷ []) (λ k. MoveO (X.variable h k) a ∷ [])) (promoted_nodes X h c)
    go Own = ap (Do (StoreO p a)) e
    go (Address k) = ap (Do (MoveO (X.variable h k) a)) e
    go (Variable k) = ap (Do (StoreO p a)) e
rest_of X h (op.Const t word) zs c e = ap (Do (ConstO t word)) e
rest_of X h (op.Null t) zs c e = ap (Do (NullO t)) e
rest_of X h (op.Move t a) zs c e = ap (Do (MoveO t a)) e
rest_of X h (op.One o t a) zs c e = ap (Do (OneO o t a)) e
rest_of X h (op.Two o t a b) zs c e = ap (Do (TwoO o t a b)) e
rest_of X h (op.Global t number) zs c e = ap (Do (GlobalO t number)) e
rest_of X h (op.Literal t number) zs c e = ap (Do (LiteralO t number)) e
rest_of X h (op.Card t) zs c e = ap (Do (CardO t)) e
rest_of X h (op.Step t p n) zs c e = ap (Do (StepO t p n)) e
rest_of X h (op.Apart t p q) zs c e = ap (Do (ApartO t p q)) e
rest_of X h (op.PtrTest o t p q) zs c e = ap (Do (PtrTestO o t p q)) e
rest_of X h (op.Call t f args) zs c e = ap (Call t f args) e
rest_of X h (op.In t port) zs c e = ap (Do (InO t port)) e
rest_of X h (op.Out port a) zs c e = ap (Do (OutO port a)) e
rest_of X h op.Wait zs c e = ap (Do WaitO) e
rest_of X h op.Halt zs c e = ap (Do HaltO) e

module _ (X : Plan) (h : Option ℕ) where
  mutual
    node_rewritten : (x : NodeT ℕ) (zs : List (NodeT ℕ)) (c : NodesT ℕ) → joined (listed zs) ≡ promoted_nodes X h c → joined (listed (node_by X h x ++ zs)) ≡ promoted_nodes X h (before x c)
    node_rewritten (DoN o) zs c e = rest_of X h o zs c e
    node_rewritten (ChooseN p a b) zs c e = let f = list_rewritten a in let g = list_rewritten b in λ i. Choose p (f i) (g i) (e i)
    node_rewritten (BlockN b) zs c e = let g = list_rewritten b in λ i. Block (g i) (e i)
    node_rewritten (LoopN b) zs c e = let g = list_rewritten b in λ i. Loop (g i) (e i)
    node_rewritten (LeaveN k) zs c e = ap (Leave k) e
    node_rewritten (AgainN k) zs c e = ap (Again k) e
    node_rewritten (ReturnN p) zs c e = ap (Return p) e

    list_rewritten : (xs : ListT ℕ) → joined (listed (list_by X h xs)) ≡ promoted_nodes X h (joined xs)
    list_rewritten NoN = refl
    list_rewritten (MoreN x rest) = node_rewritten x (list_by X h rest) (joined rest) (list_rewritten rest)

  pub rewritten : (ns ms : List (Node ℕ)) → map node ms ≡ list_by X h (listed (map node ns)) → nodes ms ≡ promoted_nodes X h (nodes ns)
  rewritten ns ms e = ap (λ xs. joined (listed xs)) e ∙ list_rewritten (listed (map node ns))

-- ---- plans that say the same

-- of each local: whether it is promoted, and its new number where it is not; of each temporary: whether it is the address of a promoted
-- local, and the temporary of that
pub record SamePlans (X : Plan) (h : Option ℕ) (Y : Plan) (g : Option ℕ) : Type 0 where
  pub promoted : (k : ℕ) → X.promoted h k ≡ Y.promoted g k
  pub moved : (k : ℕ) → Y.promoted g k ≡ false → X.moved h k ≡ Y.moved g k
  pub variable : (p : ℕ) → option_map_or (λ k. Some (X.variable h k)) (addressed (X.kind h p)) None ≡ option_map_or (λ k. Some (Y.variable g k)) (addressed (Y.kind g p)) None

module _ (X : Plan) (h : Option ℕ) (Y : Plan) (g : Option ℕ) (s : SamePlans X h Y g) where
  by_promoted : (k : ℕ) (make : ℕ → OpT ℕ) → cond (X.promoted h k) [] (make (X.moved h k) ∷ []) ≡ cond (Y.promoted g k) [] (make (Y.moved g k) ∷ [])
  by_promoted k make = ap (λ b. cond b [] (make (X.moved h k) ∷ [])) (s.promoted k) ∙ go (Y.promoted g k) refl
    where
      go : (b : Bool) → Y.promoted g k ≡ b → cond b [] (make (X.moved h k) ∷ []) ≡ cond b [] (make (Y.moved g k) ∷ [])
      go true e = refl
      go false e = ap (λ n. make n ∷ []) (s.moved k e)

  chosen : Option ℕ → OpT ℕ → (ℕ → OpT ℕ) → List (OpT ℕ)
  chosen o own make = option_map_or (λ v. make v ∷ []) o (own ∷ [])

  as_chosen : (Z : Plan) (i : Option ℕ) (q : Kind) (own : OpT ℕ) (make : ℕ → OpT ℕ) → by_kind q (own ∷ []) (λ k. make (Z.variable i k) ∷ []) ≡ option_map_or (λ v. make v ∷ []) (option_map_or (λ k. Some (Z.variable i k)) (addressed q) None) (own ∷ [])
  as_chosen Z i Own own make = refl
  as_chosen Z i (Address k) own make = refl
  as_chosen Z i (Variable k) own make = refl

  by_address : (p : ℕ) (own : OpT ℕ) (make : ℕ → OpT ℕ) → by_kind (X.kind h p) (own ∷ []) (λ k. make (X.variable h k) ∷ []) ≡ by_kind (Y.kind g p) (own ∷ []) (λ k. make (Y.variable g k) ∷ [])
  by_address p own make = as_chosen X h (X.kind h p) own make ∙ ap (λ o. option_map_or (λ v. make v ∷ []) o (own ∷ [])) (s.variable p) ∙ sym (as_chosen Y g (Y.kind g p) own make)

  op_same : (o : OpT ℕ) → promoted_op X h o ≡ promoted_op Y g o
  op_same (LocalO t k) = by_promoted k (LocalO t)
  op_same (LoadO t p) = by_address p (LoadO t p) (MoveO t)
  op_same (StoreO p a) = by_address p (StoreO p a) (λ v. MoveO v a)
  op_same (FreshO k) = by_promoted k FreshO
  op_same (EndO k) = by_promoted k EndO
  op_same (ConstO q word) = refl
  op_same (NullO q) = refl
  op_same (MoveO q a) = refl
  op_same (OneO o q a) = refl
  op_same (TwoO o q a b) = refl
  op_same (GlobalO q number) = refl
  op_same (LiteralO q number) = refl
  op_same (CardO q) = refl
  op_same (StepO q p n) = refl
  op_same (ApartO q p s) = refl
  op_same (PtrTestO o q p s) = refl
  op_same (InO q port) = refl
  op_same (OutO port a) = refl
  op_same WaitO = refl
  op_same HaltO = refl

  pub code_same : (c : NodesT ℕ) → promoted_nodes X h c ≡ promoted_nodes Y g c
  code_same Stop = refl
  code_same (Do o c) = let e = op_same o in let f = code_same c in λ i. doing (e i) (f i)
  code_same (Call t f args c) = ap (Call t f args) (code_same c)
  code_same (Choose p a b c) = let d = code_same a in let e = code_same b in let f = code_same c in λ i. Choose p (d i) (e i) (f i)
  code_same (Block b c) = let e = code_same b in let f = code_same c in λ i. Block (e i) (f i)
  code_same (Loop b c) = let e = code_same b in let f = code_same c in λ i. Loop (e i) (f i)
  code_same (Leave k c) = ap (Leave k) (code_same c)
  code_same (Again k c) = ap (Again k) (code_same c)
  code_same (Return p c) = ap (Return p) (code_same c)
