-- What code in memory has is the code that comes of forward propagation.
use Rattle.std.proofs.Common.{◌≡◌, ℕ, ◌^◌, Bool, true, false, cond, nat_lt, List, map, option_map, Option, Some, None, refl, ap, ◌∙◌}
use Rattle.mid_code.specs.declared.node.Op.{Op}
use Rattle.mid_code.specs.declared.node.Op.TheVariants as op
use Rattle.mid_code.specs.declared.node.Node.{Node}
use Rattle.mid_code.specs.Code.{OpT, ConstO, MoveO, OneO, TwoO, NodesT, Do, Choose, Block, Loop, Leave, Again, Return, FunctionT}
use Rattle.mid_code.specs.Functions.{NodeT, DoN, ChooseN, BlockN, LoopN, LeaveN, AgainN, ReturnN, ListT, NoN, MoreN, op_before, listed, node, before, joined, nodes}
use Rattle.mid_improve.specs.inner.Facts.{Known, none_known, fact_word, known_behind}
use Rattle.mid_improve.specs.inner.Listed.{op_known, node_known}
use Rattle.mid_fold.specs.Lasting.{one_known, two_known}
use Rattle.mid_improve.specs.inner.Forward.{serves, word_or, forwarded, forwarded_function}
use Rattle.mid_improve.specs.inner.ForwardListed.{or_word, op_forwarded, node_forwarded, list_forwarded}

-- an operation that stays or becomes a constant for its target, in memory and as plain data
stands : (k : Known) (t : ℕ) (o : Op ℕ) (p : OpT ℕ) (r : Option ℕ) (c d : NodesT ℕ) → ((a : NodesT ℕ) → op_before o a ≡ Do p a) → op_known k o ≡ known_behind k p
    → d ≡ forwarded (op_known k (or_word t o r)) c → op_before (or_word t o r) d ≡ Do (word_or t p r) (forwarded (known_behind k (word_or t p r)) c)
stands k t o p None c d is m e = is d ∙ ap (Do p) (e ∙ ap (λ u. forwarded u c) m)
stands k t o p (Some w) c d is m e = go (nat_lt w (2 ^ 32)) e
  where
    go : (b : Bool) → d ≡ forwarded (op_known k (cond b (op.Const t w) o)) c → op_before (cond b (op.Const t w) o) d ≡ Do (cond b (ConstO t w) p) (forwarded (known_behind k (cond b (ConstO t w) p)) c)
    go true f = ap (Do (ConstO t w)) f
    go false f = is d ∙ ap (Do p) (f ∙ ap (λ u. forwarded u c) m)

op_is : (k : Known) (o : Op ℕ) (c d : NodesT ℕ) → d ≡ forwarded (op_known k (op_forwarded k o)) c → op_before (op_forwarded k o) d ≡ forwarded k (op_before o c)
op_is k (op.Const t word) c d e = ap (op_before (op.Const t word)) e
op_is k (op.Null t) c d e = ap (op_before (op.Null t)) e
op_is k (op.Move t a) c d e = stands k t (op.Move t (serves k a)) (MoveO t (serves k a)) (fact_word (k a)) c d (λ u. refl) refl e
op_is k (op.One o t a) c d e = stands k t (op.One o t (serves k a)) (OneO o t (serves k a)) (one_known o (fact_word (k a))) c d (λ u. refl) refl e
op_is k (op.Two o t a b) c d e = stands k t (op.Two o t (serves k a) (serves k b)) (TwoO o t (serves k a) (serves k b)) (two_known o (fact_word (k a)) (fact_word (k b))) c d (λ u. refl) refl e
op_is k (op.Global t n) c d e = ap (op_before (op.Global t n)) e
op_is k (op.Local t j) c d e = ap (op_before (op.Local t j)) e
op_is k (op.Literal t n) c d e = ap (op_before (op.Literal t n)) e
op_is k (op.Card t) c d e = ap (op_before (op.Card t)) e
op_is k (op.Step t p n) c d e = ap (op_before (op.Step t (serves k p) (serves k n))) e
op_is k (op.Apart t p q) c d e = ap (op_before (op.Apart t (serves k p) (serves k q))) e
op_is k (op.PtrTest o t p q) c d e = ap (op_before (op.PtrTest o t (serves k p) (serves k q))) e
op_is k (op.Load t p) c d e = ap (op_before (op.Load t (serves k p))) e
op_is k (op.Store p a) c d e = ap (op_before (op.Store (serves k p) (serves k a))) e
op_is k (op.Fresh j) c d e = ap (op_before (op.Fresh j)) e
op_is k (op.End j) c d e = ap (op_before (op.End j)) e
op_is k (op.Call t f args) c d e = ap (op_before (op.Call t f (map (serves k) args))) e
op_is k (op.In t port) c d e = ap (op_before (op.In t port)) e
op_is k (op.Out port a) c d e = ap (op_before (op.Out port (serves k a))) e
op_is k op.Wait c d e = ap (op_before op.Wait) e
op_is k op.Halt c d e = ap (op_before op.Halt) e

mutual
  node_is : (k : Known) (x : NodeT ℕ) (c d : NodesT ℕ) → d ≡ forwarded (node_known k (node_forwarded k x)) c → before (node_forwarded k x) d ≡ forwarded k (before x c)
  node_is k (DoN o) c d e = op_is k o c d e
  node_is k (ChooseN p a b) c d e = λ i. Choose (serves k p) (list_is none_known a i) (list_is none_known b i) (e i)
  node_is k (BlockN b) c d e = λ i. Block (list_is none_known b i) (e i)
  node_is k (LoopN b) c d e = λ i. Loop (list_is none_known b i) (e i)
  node_is k (LeaveN j) c d e = ap (Leave j) e
  node_is k (AgainN j) c d e = ap (Again j) e
  node_is k (ReturnN p) c d e = ap (Return (option_map (serves k) p)) e

  list_is : (k : Known) (xs : ListT ℕ) → joined (listed (list_forwarded k xs)) ≡ forwarded k (joined xs)
  list_is k NoN = refl
  list_is k (MoreN x rest) = node_is k x (joined rest) (joined (listed (list_forwarded (node_known k (node_forwarded k x)) rest))) (list_is (node_known k (node_forwarded k x)) rest)

-- the nodes of a body
pub forward_joined : (ns ms : List (Node ℕ)) → map node ms ≡ list_forwarded none_known (listed (map node ns)) → nodes ms ≡ forwarded none_known (nodes ns)
forward_joined ns ms e = ap (λ xs. joined (listed xs)) e ∙ list_is none_known (listed (map node ns))

pub function_is : (f : FunctionT ℕ) (body : NodesT ℕ) → body ≡ forwarded none_known f.body → record f { body = body } ≡ forwarded_function f
function_is f body b = λ i. record f { body = b i }
