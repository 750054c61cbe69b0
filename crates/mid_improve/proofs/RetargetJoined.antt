-- Nodes in memory whose targets are moved at once are what is said of them.
use Rattle.std.proofs.Common.{◌≡◌, ℕ, List, map, Option, Some, None, refl, ap, ◌∙◌}
use Rattle.mid_code.specs.declared.node.Op.{Op}
use Rattle.mid_code.specs.declared.node.Op.TheVariants as op
use Rattle.mid_code.specs.declared.node.Node.{Node}
use Rattle.mid_code.specs.Code.{ConstO, NullO, MoveO, OneO, TwoO, GlobalO, LocalO, LiteralO, CardO, StepO, ApartO, PtrTestO, LoadO, StoreO, FreshO, EndO, InO, OutO, WaitO, HaltO, NodesT, Do, Call, Choose, Block, Loop, Leave, Again, Return, FunctionT}
use Rattle.mid_code.specs.Functions.{op_before, NodeT, DoN, ChooseN, BlockN, LoopN, LeaveN, AgainN, ReturnN, ListT, NoN, MoreN, listed, node, before, joined, nodes}
use Rattle.mid_code.specs.Operands.{op_target}
use Rattle.mid_improve.specs.inner.Retarget.{landing, lands, Turn, turn_of, or_else, retargeted, retargeted_function}
use Rattle.mid_improve.specs.inner.RetargetListed.{op_to, op_landing, list_landing, list_lands, turned_move, unless_turned, node_target, node_turn, node_retargeted, list_retargeted}

-- ---- where targets land

landing_is : (t : ℕ) (xs : ListT ℕ) → list_landing t xs ≡ landing t (joined xs)
landing_is t NoN = refl
landing_is t (MoreN (DoN o) rest) = op_landing_is t o (joined rest)
  where
    op_landing_is : (t : ℕ) (o : Op ℕ) (c : NodesT ℕ) → op_landing t o ≡ landing t (op_before o c)
    op_landing_is t (op.Const q n) c = refl
    op_landing_is t (op.Null q) c = refl
    op_landing_is t (op.Move q a) c = refl
    op_landing_is t (op.One o q a) c = refl
    op_landing_is t (op.Two o q a b) c = refl
    op_landing_is t (op.Global q n) c = refl
    op_landing_is t (op.Local q n) c = refl
    op_landing_is t (op.Literal q n) c = refl
    op_landing_is t (op.Card q) c = refl
    op_landing_is t (op.Step q a b) c = refl
    op_landing_is t (op.Apart q a b) c = refl
    op_landing_is t (op.PtrTest o q a b) c = refl
    op_landing_is t (op.Load q p) c = refl
    op_landing_is t (op.Store p a) c = refl
    op_landing_is t (op.Fresh n) c = refl
    op_landing_is t (op.End n) c = refl
    op_landing_is t (op.In q port) c = refl
    op_landing_is t (op.Out port a) c = refl
    op_landing_is t op.Wait c = refl
    op_landing_is t op.Halt c = refl
    op_landing_is t (op.Call q f args) c = refl
landing_is t (MoreN (ChooseN p a b) rest) = refl
landing_is t (MoreN (BlockN b) rest) = refl
landing_is t (MoreN (LoopN b) rest) = refl
landing_is t (MoreN (LeaveN k) rest) = refl
landing_is t (MoreN (AgainN k) rest) = refl
landing_is t (MoreN (ReturnN p) rest) = refl

lands_is : (t : Option ℕ) (xs : ListT ℕ) → list_lands t xs ≡ lands t (joined xs)
lands_is None xs = refl
lands_is (Some t) xs = ap Some (landing_is t xs)

-- ---- one operation

abbrev put_there : Turn → Op ℕ → Option ℕ → NodesT ℕ → NodesT ℕ
put_there h o u d = op_before (or_else (turned_move h o) (op_to u o)) d

abbrev turn_there : Turn → Op ℕ → Option ℕ → Turn
turn_there h o u = unless_turned (turned_move h o) (turn_of (op_target o) u)

op_is : (h : Turn) (o : Op ℕ) (c d : NodesT ℕ) → d ≡ retargeted (turn_there h o (lands (op_target o) c)) c → put_there h o (lands (op_target o) c) d ≡ retargeted h (op_before o c)
op_is None (op.Const t n) c d e = ap (Do (ConstO (landing t c) n)) e
op_is None (op.Null t) c d e = ap (Do (NullO (landing t c))) e
op_is None (op.Move t a) c d e = ap (Do (MoveO (landing t c) a)) e
op_is None (op.One o t a) c d e = ap (Do (OneO o (landing t c) a)) e
op_is None (op.Two o t a b) c d e = ap (Do (TwoO o (landing t c) a b)) e
op_is None (op.Global t n) c d e = ap (Do (GlobalO (landing t c) n)) e
op_is None (op.Local t n) c d e = ap (Do (LocalO (landing t c) n)) e
op_is None (op.Literal t n) c d e = ap (Do (LiteralO (landing t c) n)) e
op_is None (op.Card t) c d e = ap (Do (CardO (landing t c))) e
op_is None (op.Step t a b) c d e = ap (Do (StepO (landing t c) a b)) e
op_is None (op.Apart t a b) c d e = ap (Do (ApartO (landing t c) a b)) e
op_is None (op.PtrTest o t a b) c d e = ap (Do (PtrTestO o (landing t c) a b)) e
op_is None (op.Load t b) c d e = ap (Do (LoadO (landing t c) b)) e
op_is None (op.Store b a) c d e = ap (Do (StoreO b a)) e
op_is None (op.Fresh n) c d e = ap (Do (FreshO n)) e
op_is None (op.End n) c d e = ap (Do (EndO n)) e
op_is None (op.In t port) c d e = ap (Do (InO (landing t c) port)) e
op_is None (op.Out port a) c d e = ap (Do (OutO port a)) e
op_is None op.Wait c d e = ap (Do WaitO) e
op_is None op.Halt c d e = ap (Do HaltO) e
op_is None (op.Call None f args) c d e = ap (Call None f args) e
op_is None (op.Call (Some t) f args) c d e = ap (Call (Some (landing t c)) f args) e
op_is (Some p) (op.Const t n) c d e = ap (Do (ConstO (landing t c) n)) e
op_is (Some p) (op.Null t) c d e = ap (Do (NullO (landing t c))) e
op_is (Some p) (op.Move t a) c d e = ap (Do (MoveO p.0 p.1)) e
op_is (Some p) (op.One o t a) c d e = ap (Do (OneO o (landing t c) a)) e
op_is (Some p) (op.Two o t a b) c d e = ap (Do (TwoO o (landing t c) a b)) e
op_is (Some p) (op.Global t n) c d e = ap (Do (GlobalO (landing t c) n)) e
op_is (Some p) (op.Local t n) c d e = ap (Do (LocalO (landing t c) n)) e
op_is (Some p) (op.Literal t n) c d e = ap (Do (LiteralO (landing t c) n)) e
op_is (Some p) (op.Card t) c d e = ap (Do (CardO (landing t c))) e
op_is (Some p) (op.Step t a b) c d e = ap (Do (StepO (landing t c) a b)) e
op_is (Some p) (op.Apart t a b) c d e = ap (Do (ApartO (landing t c) a b)) e
op_is (Some p) (op.PtrTest o t a b) c d e = ap (Do (PtrTestO o (landing t c) a b)) e
op_is (Some p) (op.Load t b) c d e = ap (Do (LoadO (landing t c) b)) e
op_is (Some p) (op.Store b a) c d e = ap (Do (StoreO b a)) e
op_is (Some p) (op.Fresh n) c d e = ap (Do (FreshO n)) e
op_is (Some p) (op.End n) c d e = ap (Do (EndO n)) e
op_is (Some p) (op.In t port) c d e = ap (Do (InO (landing t c) port)) e
op_is (Some p) (op.Out port a) c d e = ap (Do (OutO port a)) e
op_is (Some p) op.Wait c d e = ap (Do WaitO) e
op_is (Some p) op.Halt c d e = ap (Do HaltO) e
op_is (Some p) (op.Call None f args) c d e = ap (Call None f args) e
op_is (Some p) (op.Call (Some t) f args) c d e = ap (Call (Some (landing t c)) f args) e

mutual
  node_is : (h : Turn) (x : NodeT ℕ) (rest : ListT ℕ) (zs : List (NodeT ℕ)) → joined (listed zs) ≡ retargeted (node_turn h x (list_lands (node_target x) rest)) (joined rest)
      → before (node_retargeted h x (list_lands (node_target x) rest)) (joined (listed zs)) ≡ retargeted h (before x (joined rest))
  node_is h (DoN o) rest zs e =
      (λ i. put_there h o (lands_is (op_target o) rest i) (joined (listed zs)))
      ∙ op_is h o (joined rest) (joined (listed zs)) (e ∙ (λ i. retargeted (turn_there h o (lands_is (op_target o) rest i)) (joined rest)))
  node_is h (ChooseN p a b) rest zs e = λ i. Choose p (list_is a None i) (list_is b None i) (e i)
  node_is h (BlockN b) rest zs e = λ i. Block (list_is b None i) (e i)
  node_is h (LoopN b) rest zs e = λ i. Loop (list_is b None i) (e i)
  node_is h (LeaveN k) rest zs e = ap (Leave k) e
  node_is h (AgainN k) rest zs e = ap (Again k) e
  node_is h (ReturnN p) rest zs e = ap (Return p) e

  list_is : (xs : ListT ℕ) (h : Turn) → joined (listed (list_retargeted h xs)) ≡ retargeted h (joined xs)
  list_is NoN h = refl
  list_is (MoreN x rest) h =
      let k = node_turn h x (list_lands (node_target x) rest) in
      node_is h x rest (list_retargeted k rest) (list_is rest k)

-- the nodes of a body
pub retargeted_joined : (ns ms : List (Node ℕ)) → map node ms ≡ list_retargeted None (listed (map node ns)) → nodes ms ≡ retargeted None (nodes ns)
retargeted_joined ns ms e = ap (λ xs. joined (listed xs)) e ∙ list_is (listed (map node ns)) None

pub function_is : (f : FunctionT ℕ) (body : NodesT ℕ) → body ≡ retargeted None f.body → record f { body = body } ≡ retargeted_function f
function_is f body b = λ i. record f { body = b i }
