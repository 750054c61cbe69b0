-- What code in memory has is the folded code.
use Rattle.std.proofs.Common.{◌≡◌, ℕ, ◌^◌, Bool, true, false, not, cond, eqb, filter, nat_lt, List, [], ◌∷◌, map, Option, Some, None, refl, ap, ◌∙◌}
use Rattle.mid_code.specs.declared.node.Op.{Op}
use Rattle.mid_code.specs.declared.node.Op.TheVariants as op
use Rattle.mid_code.specs.declared.node.Node.{Node}
use Rattle.mid_code.specs.Code.{OpT, ConstO, MoveO, OneO, TwoO, NodesT, Do, Choose, Block, Loop, Leave, Again, Return, FunctionT}
use Rattle.mid_code.specs.Functions.{NodeT, DoN, ChooseN, BlockN, LoopN, LeaveN, AgainN, ReturnN, ListT, NoN, MoreN, op_before, listed, node, before, joined, nodes}
use Rattle.mid_fold.specs.Lasting.{one_known, two_known}
use Rattle.mid_fold.specs.inner.Folding.{Words, word_in, behind, word_or, known_behind, folded, folded_function}
use Rattle.mid_fold.specs.inner.Listed.{or_word, op_folded, op_known, node_known, node_folded, list_folded}

-- an operation that stays or becomes a constant for its target, in memory and as plain data
stands : (es : Words) (t : ℕ) (o : Op ℕ) (p : OpT ℕ) (r : Option ℕ) (c d : NodesT ℕ) → ((a : NodesT ℕ) → op_before o a ≡ Do p a) → op_known es o ≡ known_behind es p
    → d ≡ folded (op_known es (or_word t o r)) c → op_before (or_word t o r) d ≡ Do (word_or t p r) (folded (known_behind es (word_or t p r)) c)
stands es t o p None c d is k e = is d ∙ ap (Do p) (e ∙ ap (λ u. folded u c) k)
stands es t o p (Some w) c d is k e = go (nat_lt w (2 ^ 32)) e
  where
    go : (b : Bool) → d ≡ folded (op_known es (cond b (op.Const t w) o)) c → op_before (cond b (op.Const t w) o) d ≡ Do (cond b (ConstO t w) p) (folded (known_behind es (cond b (ConstO t w) p)) c)
    go true f = ap (Do (ConstO t w)) f
    go false f = is d ∙ ap (Do p) (f ∙ ap (λ u. folded u c) k)

op_is : (es : Words) (o : Op ℕ) (c d : NodesT ℕ) → d ≡ folded (op_known es (op_folded es o)) c → op_before (op_folded es o) d ≡ folded es (op_before o c)
op_is es (op.Const t word) c d e = ap (op_before (op.Const t word)) e
op_is es (op.Null t) c d e = ap (op_before (op.Null t)) e
op_is es (op.Move t a) c d e = stands es t (op.Move t a) (MoveO t a) (word_in es a) c d (λ u. refl) refl e
op_is es (op.One o t a) c d e = stands es t (op.One o t a) (OneO o t a) (one_known o (word_in es a)) c d (λ u. refl) refl e
op_is es (op.Two o t a b) c d e = stands es t (op.Two o t a b) (TwoO o t a b) (two_known o (word_in es a) (word_in es b)) c d (λ u. refl) refl e
op_is es (op.Global t n) c d e = ap (op_before (op.Global t n)) e
op_is es (op.Local t k) c d e = ap (op_before (op.Local t k)) e
op_is es (op.Literal t n) c d e = ap (op_before (op.Literal t n)) e
op_is es (op.Card t) c d e = ap (op_before (op.Card t)) e
op_is es (op.Step t p n) c d e = ap (op_before (op.Step t p n)) e
op_is es (op.Apart t p q) c d e = ap (op_before (op.Apart t p q)) e
op_is es (op.PtrTest o t p q) c d e = ap (op_before (op.PtrTest o t p q)) e
op_is es (op.Load t p) c d e = ap (op_before (op.Load t p)) e
op_is es (op.Store p a) c d e = ap (op_before (op.Store p a)) e
op_is es (op.Fresh k) c d e = ap (op_before (op.Fresh k)) e
op_is es (op.End k) c d e = ap (op_before (op.End k)) e
op_is es (op.Call t f args) c d e = ap (op_before (op.Call t f args)) e
op_is es (op.In t port) c d e = ap (op_before (op.In t port)) e
op_is es (op.Out port a) c d e = ap (op_before (op.Out port a)) e
op_is es op.Wait c d e = ap (op_before op.Wait) e
op_is es op.Halt c d e = ap (op_before op.Halt) e

mutual
  node_is : (es : Words) (x : NodeT ℕ) (c d : NodesT ℕ) → d ≡ folded (node_known es (node_folded es x)) c → before (node_folded es x) d ≡ folded es (before x c)
  node_is es (DoN o) c d e = op_is es o c d e
  node_is es (ChooseN p a b) c d e = λ i. Choose p (list_is es a i) (list_is es b i) (e i)
  node_is es (BlockN b) c d e = λ i. Block (list_is es b i) (e i)
  node_is es (LoopN b) c d e = λ i. Loop (list_is [] b i) (e i)
  node_is es (LeaveN k) c d e = ap (Leave k) e
  node_is es (AgainN k) c d e = ap (Again k) e
  node_is es (ReturnN p) c d e = ap (Return p) e

  list_is : (es : Words) (xs : ListT ℕ) → joined (listed (list_folded es xs)) ≡ folded es (joined xs)
  list_is es NoN = refl
  list_is es (MoreN x rest) = node_is es x (joined rest) (joined (listed (list_folded (node_known es (node_folded es x)) rest))) (list_is (node_known es (node_folded es x)) rest)

-- the nodes of a body
pub folded_joined : (ns ms : List (Node ℕ)) → map node ms ≡ list_folded [] (listed (map node ns)) → nodes ms ≡ folded [] (nodes ns)
folded_joined ns ms e = ap (λ xs. joined (listed xs)) e ∙ list_is [] (listed (map node ns))

pub function_is : (f : FunctionT ℕ) (body : NodesT ℕ) → body ≡ folded [] f.body → record f { body = body } ≡ folded_function f
function_is f body b = λ i. record f { body = b i }

-- what is not known any more
pub left_behind : (es : Words) (t : ℕ) → filter (λ e. not (eqb e.0 t)) es ≡ behind es t
left_behind [] t = refl
left_behind (e ∷ es) t = go (eqb e.0 t) (left_behind es t)
  where
    go : (b : Bool) → filter (λ d. not (eqb d.0 t)) es ≡ behind es t → cond (not b) (e ∷ filter (λ d. not (eqb d.0 t)) es) (filter (λ d. not (eqb d.0 t)) es) ≡ cond b (behind es t) (e ∷ behind es t)
    go true r = r
    go false r = ap (λ ds. e ∷ ds) r
