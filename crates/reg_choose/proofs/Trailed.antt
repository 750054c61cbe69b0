-- Places of nodes, and what is live before a choice.
use Rattle.std.proofs.Common.{◌≡◌, ℕ, suc, ◌+◌, Bool, true, false, ◌||◌, eqb, List, [], ◌∷◌, length, map, refl, ap, sym, ◌∙◌, arith}
use Rattle.mid_code.specs.declared.node.Op.{Op}
use Rattle.mid_code.specs.declared.node.Op.TheVariants as op
use Rattle.mid_code.specs.declared.node.Node.{Node}
use Rattle.mid_code.specs.Code.{NodesT, Stop}
use Rattle.mid_code.specs.Functions.{NodeT, ListT, DoN, ChooseN, BlockN, LoopN, LeaveN, AgainN, ReturnN, before, NoN, joined, listed, op_before, node, nodes}
use Rattle.mid_code.specs.Live.{Label, live_before, is_live}
use Rattle.mid_code.specs.Spans.{places}

pub op_places : (o : Op ℕ) (c : NodesT ℕ) → places (op_before o c) ≡ suc (places c)
op_places (op.Const t w) c = refl
op_places (op.Null t) c = refl
op_places (op.Move t a) c = refl
op_places (op.One k t a) c = refl
op_places (op.Two k t a b) c = refl
op_places (op.Global t k) c = refl
op_places (op.Local t k) c = refl
op_places (op.Literal t k) c = refl
op_places (op.Card t) c = refl
op_places (op.Step t p i) c = refl
op_places (op.Apart t p q) c = refl
op_places (op.PtrTest k t p q) c = refl
op_places (op.Load t p) c = refl
op_places (op.Store p a) c = refl
op_places (op.Fresh k) c = refl
op_places (op.End k) c = refl
op_places (op.Call t f args) c = refl
op_places (op.In t k) c = refl
op_places (op.Out k a) c = refl
op_places op.Wait c = refl
op_places op.Halt c = refl

pub places_node : (x : NodeT ℕ) (c : NodesT ℕ) → places (before x c) ≡ places (before x Stop) + places c
places_node (DoN o) c = let a = op_places o c in let b = op_places o Stop in omega (arith, a, b)
places_node (ChooseN p a b) c = omega arith
places_node (BlockN b) c = omega arith
places_node (LoopN b) c = omega arith
places_node (LeaveN k) c = omega arith
places_node (AgainN k) c = omega arith
places_node (ReturnN p) c = omega arith

used_or : (u w : Bool) → (u || w) ≡ live_before (u || false) false w
used_or true w = refl
used_or false w = refl

-- a second part without nodes
pub no_nodes : (ns : List (Node ℕ)) → length ns ≡ 0 → listed (map node ns) ≡ NoN
no_nodes [] e = refl
no_nodes (x ∷ ns) e = absurd (omega (arith, e))

pub choose_live : (y : ℕ) (ls : List Label) (x : NodeT ℕ) (p : ℕ) (a b : ListT ℕ) (j s t w v : Bool) → x ≡ ChooseN p a b → s ≡ is_live y ls (joined a) j → t ≡ is_live y ls (joined b) j → w ≡ (s || t) → v ≡ (eqb p y || w) → v ≡ is_live y ls (before x Stop) j
choose_live y ls x p a b j s t w v e f g h i =
    let k : w ≡ (is_live y ls (joined a) j || is_live y ls (joined b) j) = h ∙ ap (λ z. z || t) f ∙ ap (λ z. is_live y ls (joined a) j || z) g in
    i ∙ ap (λ z. eqb p y || z) k ∙ used_or (eqb p y) (is_live y ls (joined a) j || is_live y ls (joined b) j) ∙ ap (λ z. is_live y ls (before z Stop) j) (sym e)

pub places_turn : (n : Node ℕ) (ns : List (Node ℕ)) → places (nodes (n ∷ ns)) ≡ places (before (node n) Stop) + places (nodes ns)
places_turn n ns = places_node (node n) (nodes ns)
