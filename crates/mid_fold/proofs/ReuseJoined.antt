-- What code in memory has is the code whose results are used again.
use Rattle.std.proofs.Common.{◌≡◌, ℕ, Bool, true, false, not, cond, eqb, ◌||◌, filter, List, [], ◌∷◌, map, Option, Some, None, refl, ap, ◌∙◌}
use Rattle.mid_code.specs.declared.node.Op.{Op}
use Rattle.mid_code.specs.declared.node.Op.TheVariants as op
use Rattle.mid_code.specs.declared.node.Node.{Node}
use Rattle.mid_code.specs.Code.{MoveO, TwoO, StepO, NodesT, Do, Choose, Block, Loop, Leave, Again, Return, FunctionT}
use Rattle.mid_code.specs.Functions.{NodeT, DoN, ChooseN, BlockN, LoopN, LeaveN, AgainN, ReturnN, ListT, NoN, MoreN, op_before, listed, node, before, joined, nodes}
use Rattle.v32_isa.specs.declared.instruction.Two.{Two}
use Rattle.mid_fold.specs.declared.made.Made.{Made}
use Rattle.mid_fold.specs.declared.made.Maker.TheVariants.{Operator}
use Rattle.mid_fold.specs.inner.Reusing.{Seen, Operands, Results, nothing_seen, is_cell, operands_behind, results_behind, made, result_of, step_found, seen_behind, moved_or, reused, reused_function}
use Rattle.mid_fold.specs.inner.ReusingListed.{or_move, op_reused, op_seen, node_seen, node_reused, list_reused}

-- an operator or a step that stays or becomes a move to its target, in memory and as plain data
two_is : (k : Seen) (o : Two) (t a b : ℕ) (r : Option ℕ) (c d : NodesT ℕ) → d ≡ reused (op_seen k (or_move t (op.Two o t a b) r)) c
    → op_before (or_move t (op.Two o t a b) r) d ≡ Do (moved_or t (TwoO o t a b) r) (reused (seen_behind k (moved_or t (TwoO o t a b) r)) c)
two_is k o t a b None c d e = ap (Do (TwoO o t a b)) e
two_is k o t a b (Some q) c d e = ap (Do (MoveO t q)) e

step_is : (k : Seen) (t p n : ℕ) (r : Option ℕ) (c d : NodesT ℕ) → d ≡ reused (op_seen k (or_move t (op.Step t p n) r)) c
    → op_before (or_move t (op.Step t p n) r) d ≡ Do (moved_or t (StepO t p n) r) (reused (seen_behind k (moved_or t (StepO t p n) r)) c)
step_is k t p n None c d e = ap (Do (StepO t p n)) e
step_is k t p n (Some q) c d e = ap (Do (MoveO t q)) e

op_is : (k : Seen) (o : Op ℕ) (c d : NodesT ℕ) → d ≡ reused (op_seen k (op_reused k o)) c → op_before (op_reused k o) d ≡ reused k (op_before o c)
op_is k (op.Const t word) c d e = ap (op_before (op.Const t word)) e
op_is k (op.Null t) c d e = ap (op_before (op.Null t)) e
op_is k (op.Move t a) c d e = ap (op_before (op.Move t a)) e
op_is k (op.One o t a) c d e = ap (op_before (op.One o t a)) e
op_is k (op.Two o t a b) c d e = two_is k o t a b (result_of k.1 (made k.0 (Operator o) t a b)) c d e
op_is k (op.Global t n) c d e = ap (op_before (op.Global t n)) e
op_is k (op.Local t n) c d e = ap (op_before (op.Local t n)) e
op_is k (op.Literal t n) c d e = ap (op_before (op.Literal t n)) e
op_is k (op.Card t) c d e = ap (op_before (op.Card t)) e
op_is k (op.Step t p n) c d e = step_is k t p n (step_found k t p n) c d e
op_is k (op.Apart t p q) c d e = ap (op_before (op.Apart t p q)) e
op_is k (op.PtrTest o t p q) c d e = ap (op_before (op.PtrTest o t p q)) e
op_is k (op.Load t p) c d e = ap (op_before (op.Load t p)) e
op_is k (op.Store p a) c d e = ap (op_before (op.Store p a)) e
op_is k (op.Fresh n) c d e = ap (op_before (op.Fresh n)) e
op_is k (op.End n) c d e = ap (op_before (op.End n)) e
op_is k (op.Call t f args) c d e = ap (op_before (op.Call t f args)) e
op_is k (op.In t port) c d e = ap (op_before (op.In t port)) e
op_is k (op.Out port a) c d e = ap (op_before (op.Out port a)) e
op_is k op.Wait c d e = ap (op_before op.Wait) e
op_is k op.Halt c d e = ap (op_before op.Halt) e

mutual
  node_is : (k : Seen) (x : NodeT ℕ) (c d : NodesT ℕ) → d ≡ reused (node_seen k (node_reused k x)) c → before (node_reused k x) d ≡ reused k (before x c)
  node_is k (DoN o) c d e = op_is k o c d e
  node_is k (ChooseN p a b) c d e = λ i. Choose p (list_is k a i) (list_is k b i) (e i)
  node_is k (BlockN b) c d e = λ i. Block (list_is k b i) (e i)
  node_is k (LoopN b) c d e = λ i. Loop (list_is nothing_seen b i) (e i)
  node_is k (LeaveN j) c d e = ap (Leave j) e
  node_is k (AgainN j) c d e = ap (Again j) e
  node_is k (ReturnN p) c d e = ap (Return p) e

  list_is : (k : Seen) (xs : ListT ℕ) → joined (listed (list_reused k xs)) ≡ reused k (joined xs)
  list_is k NoN = refl
  list_is k (MoreN x rest) = node_is k x (joined rest) (joined (listed (list_reused (node_seen k (node_reused k x)) rest))) (list_is (node_seen k (node_reused k x)) rest)

-- the nodes of a body
pub reused_joined : (ns ms : List (Node ℕ)) → map node ms ≡ list_reused nothing_seen (listed (map node ns)) → nodes ms ≡ reused nothing_seen (nodes ns)
reused_joined ns ms e = ap (λ xs. joined (listed xs)) e ∙ list_is nothing_seen (listed (map node ns))

pub function_is : (f : FunctionT ℕ) (body : NodesT ℕ) → body ≡ reused nothing_seen f.body → record f { body = body } ≡ reused_function f
function_is f body b = λ i. record f { body = b i }

-- ---- what is not known any more

pub operands_left : (es : Operands) (t : ℕ) → filter (λ e. not (eqb e.0 t || is_cell e.1 t)) es ≡ operands_behind es t
operands_left [] t = refl
operands_left (e ∷ es) t = go (eqb e.0 t || is_cell e.1 t) (operands_left es t)
  where
    left : Operands
    left = filter (λ d. not (eqb d.0 t || is_cell d.1 t)) es

    go : (b : Bool) → left ≡ operands_behind es t → cond (not b) (e ∷ left) left ≡ cond b (operands_behind es t) (e ∷ operands_behind es t)
    go true r = r
    go false r = ap (λ ds. e ∷ ds) r

pub results_left : (ms : Results) (t : ℕ) → filter (λ (m : Made). not (eqb m.target t || (is_cell m.first t || is_cell m.second t))) ms ≡ results_behind ms t
results_left [] t = refl
results_left (m ∷ ms) t = go (eqb m.target t || (is_cell m.first t || is_cell m.second t)) (results_left ms t)
  where
    left : Results
    left = filter (λ (d : Made). not (eqb d.target t || (is_cell d.first t || is_cell d.second t))) ms

    go : (b : Bool) → left ≡ results_behind ms t → cond (not b) (m ∷ left) left ≡ cond b (results_behind ms t) (m ∷ results_behind ms t)
    go true r = r
    go false r = ap (λ ds. m ∷ ds) r
