-- What is found of nodes one by one is what is found of the list.
use Rattle.std.proofs.Common.{◌≡◌, ℕ, List, ◌∷◌, refl}
use Rattle.mid_code.specs.declared.node.Op.{Op}
use Rattle.mid_code.specs.declared.node.Op.TheVariants as op
use Rattle.mid_code.specs.declared.node.Node.{Node}
use Rattle.mid_code.specs.Code.{NodesT, Stop}
use Rattle.mid_code.specs.Functions.{NodeT, DoN, ChooseN, BlockN, LoopN, LeaveN, AgainN, ReturnN, op_before, before, node, nodes}
use Rattle.mid_scalars.specs.declared.roles.Role.{Role}
use Rattle.mid_scalars.specs.inner.Purposes.{role_in}

op_role : (y : ℕ) (o : Op ℕ) (c : NodesT ℕ) (r : Role) → role_in y (op_before o c) r ≡ role_in y c (role_in y (op_before o Stop) r)
op_role y (op.Const t word) c r = refl
op_role y (op.Null t) c r = refl
op_role y (op.Move t a) c r = refl
op_role y (op.One o t a) c r = refl
op_role y (op.Two o t a b) c r = refl
op_role y (op.Global t number) c r = refl
op_role y (op.Local t number) c r = refl
op_role y (op.Literal t number) c r = refl
op_role y (op.Card t) c r = refl
op_role y (op.Step t p n) c r = refl
op_role y (op.Apart t p q) c r = refl
op_role y (op.PtrTest o t p q) c r = refl
op_role y (op.Load t p) c r = refl
op_role y (op.Store p a) c r = refl
op_role y (op.Fresh local) c r = refl
op_role y (op.End local) c r = refl
op_role y (op.Call t f args) c r = refl
op_role y (op.In t port) c r = refl
op_role y (op.Out port a) c r = refl
op_role y op.Wait c r = refl
op_role y op.Halt c r = refl

node_role : (y : ℕ) (x : NodeT ℕ) (c : NodesT ℕ) (r : Role) → role_in y (before x c) r ≡ role_in y c (role_in y (before x Stop) r)
node_role y (DoN o) c r = op_role y o c r
node_role y (ChooseN p a b) c r = refl
node_role y (BlockN b) c r = refl
node_role y (LoopN b) c r = refl
node_role y (LeaveN k) c r = refl
node_role y (AgainN k) c r = refl
node_role y (ReturnN p) c r = refl

pub role_turn : (y : ℕ) (n : Node ℕ) (ns : List (Node ℕ)) (r : Role) → role_in y (nodes (n ∷ ns)) r ≡ role_in y (nodes ns) (role_in y (before (node n) Stop) r)
role_turn y n ns r = node_role y (node n) (nodes ns) r
