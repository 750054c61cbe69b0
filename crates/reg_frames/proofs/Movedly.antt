-- Lists of nodes in memory over other places are code over other places.
use Rattle.std.proofs.Common.{◌≡◌, ◌≤◌, ℕ, List, [], ◌∷◌, ◌++◌, map, drop, length, refl, sym, ap, ◌∙◌}
use Rattle.std.proofs.lemmas.List.{drop_all, append-nil}
use Rattle.mid_code.specs.declared.node.Op.{Op}
use Rattle.mid_code.specs.declared.node.Op.TheVariants as op
use Rattle.mid_code.specs.declared.node.Node.{Node}
use Rattle.mid_code.specs.Code.{NodesT}
use Rattle.mid_code.specs.Functions.{NodeT, DoN, ChooseN, BlockN, LoopN, LeaveN, AgainN, ReturnN, ListT, NoN, MoreN, op_before, before, joined, listed, node, nodes}
use Rattle.mid_code.specs.Code.{Choose, Block, Loop}
use Rattle.reg_frames.specs.inner.Placing.{placed_nodes}
use Rattle.reg_frames.specs.inner.Moved.{op_moved, node_moved, list_moved}

module _ {P Q : Type 0} (w : P → Q) where
  op_moves : (o : Op P) (c : NodesT P) → op_before (op_moved w o) (placed_nodes w c) ≡ placed_nodes w (op_before o c)
  op_moves (op.Const t word) c = refl
  op_moves (op.Null t) c = refl
  op_moves (op.Move t a) c = refl
  op_moves (op.One o t a) c = refl
  op_moves (op.Two o t a b) c = refl
  op_moves (op.Global t number) c = refl
  op_moves (op.Local t number) c = refl
  op_moves (op.Literal t number) c = refl
  op_moves (op.Card t) c = refl
  op_moves (op.Step t p n) c = refl
  op_moves (op.Apart t p q) c = refl
  op_moves (op.PtrTest o t p q) c = refl
  op_moves (op.Load t p) c = refl
  op_moves (op.Store p a) c = refl
  op_moves (op.Fresh local) c = refl
  op_moves (op.End local) c = refl
  op_moves (op.Call t f args) c = refl
  op_moves (op.In t port) c = refl
  op_moves (op.Out port a) c = refl
  op_moves op.Wait c = refl
  op_moves op.Halt c = refl

  mutual
    node_moves : (x : NodeT P) (c : NodesT P) → before (node_moved w x) (placed_nodes w c) ≡ placed_nodes w (before x c)
    node_moves (DoN o) c = op_moves o c
    node_moves (ChooseN p a b) c = ap (λ d. Choose (w p) d (joined (list_moved w b)) (placed_nodes w c)) (list_moves a) ∙ ap (λ d. Choose (w p) (placed_nodes w (joined a)) d (placed_nodes w c)) (list_moves b)
    node_moves (BlockN b) c = ap (λ d. Block d (placed_nodes w c)) (list_moves b)
    node_moves (LoopN b) c = ap (λ d. Loop d (placed_nodes w c)) (list_moves b)
    node_moves (LeaveN k) c = refl
    node_moves (AgainN k) c = refl
    node_moves (ReturnN p) c = refl

    list_moves : (xs : ListT P) → joined (list_moved w xs) ≡ placed_nodes w (joined xs)
    list_moves NoN = refl
    list_moves (MoreN x rest) = ap (before (node_moved w x)) (list_moves rest) ∙ node_moves x (joined rest)

  pub nodes_moves : (ns : List (Node P)) (ms : List (Node Q)) → listed (map node ms) ≡ list_moved w (listed (map node ns)) → nodes ms ≡ placed_nodes w (nodes ns)
  nodes_moves ns ms e = ap joined e ∙ list_moves (listed (map node ns))

  each_moves : (ns : List (Node P)) → listed (map (λ n. node_moved w (node n)) ns) ≡ list_moved w (listed (map node ns))
  each_moves [] = refl
  each_moves (n ∷ ns) = ap (MoreN (node_moved w (node n))) (each_moves ns)

  pub maps_move : (ns : List (Node P)) (ms : List (Node Q)) → map node ms ≡ map (λ n. node_moved w (node n)) ns → listed (map node ms) ≡ list_moved w (listed (map node ns))
  maps_move ns ms e = ap listed e ∙ each_moves ns

  pub all_moved : (ns : List (Node P)) (ms : List (Node Q)) (i : ℕ) → length ns ≤ i → map node ms ++ map (λ n. node_moved w (node n)) (drop i ns) ≡ map (λ n. node_moved w (node n)) ns → listed (map node ms) ≡ list_moved w (listed (map node ns))
  all_moved ns ms i le e = maps_move ns ms (sym (append-nil (map node ms)) ∙ ap (λ xs. map node ms ++ map (λ n. node_moved w (node n)) xs) (sym (drop_all i ns le)) ∙ e)
