-- Whether addresses are worked out in a node, and in those behind it.
use Rattle.std.proofs.Common.{◌≡◌, Bool, true, false, ◌||◌, refl, ap, ◌∙◌}
use Rattle.mid_code.specs.declared.placed.Where.{Where}
use Rattle.mid_code.specs.declared.node.Op.{Op}
use Rattle.mid_code.specs.declared.node.Op.TheVariants as op
use Rattle.mid_code.specs.Code.{NodesT, Stop}
use Rattle.mid_code.specs.Functions.{NodeT, DoN, ChooseN, BlockN, LoopN, LeaveN, AgainN, ReturnN, op_before, before, joined}
use Rattle.asm_laws.specs.Live.{addresses}

three : (a b c : Bool) → a || (b || c) ≡ (a || (b || false)) || c
three true b c = refl
three false true c = refl
three false false c = refl

two : (a c : Bool) → a || c ≡ (a || false) || c
two true c = refl
two false c = refl

op_addressed : (o : Op Where) (c : NodesT Where) → addresses (op_before o c) ≡ addresses (op_before o Stop) || addresses c
op_addressed (op.Const t word) c = refl
op_addressed (op.Null t) c = refl
op_addressed (op.Move t a) c = refl
op_addressed (op.One o t a) c = refl
op_addressed (op.Two o t a b) c = refl
op_addressed (op.Global t number) c = refl
op_addressed (op.Local t number) c = refl
op_addressed (op.Literal t number) c = refl
op_addressed (op.Card t) c = refl
op_addressed (op.Step t p x) c = refl
op_addressed (op.Apart t p q) c = refl
op_addressed (op.PtrTest o t p q) c = refl
op_addressed (op.Load t p) c = refl
op_addressed (op.Store p a) c = refl
op_addressed (op.Fresh local) c = refl
op_addressed (op.End local) c = refl
op_addressed (op.Call t f args) c = refl
op_addressed (op.In t port) c = refl
op_addressed (op.Out port a) c = refl
op_addressed op.Wait c = refl
op_addressed op.Halt c = refl

node_addressed : (x : NodeT Where) (c : NodesT Where) → addresses (before x c) ≡ addresses (before x Stop) || addresses c
node_addressed (DoN o) c = op_addressed o c
node_addressed (ChooseN p a b) c = three (addresses (joined a)) (addresses (joined b)) (addresses c)
node_addressed (BlockN b) c = two (addresses (joined b)) (addresses c)
node_addressed (LoopN b) c = two (addresses (joined b)) (addresses c)
node_addressed (LeaveN k) c = refl
node_addressed (AgainN k) c = refl
node_addressed (ReturnN p) c = refl

pub addressed : (x : NodeT Where) (c : NodesT Where) → addresses (before x Stop) ≡ true → addresses (before x c) ≡ true
addressed x c e = node_addressed x c ∙ ap (λ b. b || addresses c) e

pub unaddressed : (x : NodeT Where) (c : NodesT Where) → addresses (before x Stop) ≡ false → addresses (before x c) ≡ addresses c
unaddressed x c e = node_addressed x c ∙ ap (λ b. b || addresses c) e
