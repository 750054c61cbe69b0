-- Loops that only ask, part by part.
use Rattle.std.proofs.Common.{◌≡◌, ℕ, zero, suc, Bool, true, false, ◌&&◌, cond, eqb, Some, None, refl, sym, ap, ◌∙◌, arith}
use Rattle.mid_code.specs.declared.node.Op.{Op}
use Rattle.mid_code.specs.declared.node.Op.TheVariants as op
use Rattle.mid_code.specs.Functions.{NodeT, DoN, ChooseN, BlockN, LoopN, LeaveN, AgainN, ReturnN, ListT, NoN, MoreN}
use Rattle.mid_replace.specs.inner.Replaced.{turns_once, asks_by}
use Rattle.mid_replace.specs.inner.Loops.{is_nothing, is_again, is_zero_op, is_zero, asks_node, asking}
use Rattle.mid_replace.proofs.Tables.{both_0, both_1}

and_no : (b : Bool) → false ≡ (b && false)
and_no true = refl
and_no false = refl

and_yes : (b : Bool) → b ≡ (b && true)
and_yes true = refl
and_yes false = refl

not_zero : (n : ℕ) → eqb (suc n) 0 ≡ false
not_zero n = go (eqb (suc n) 0) refl
  where
    go : (b : Bool) → eqb (suc n) 0 ≡ b → b ≡ false
    go true e = absurd (grind (arith, e))
    go false e = refl

no_more : (a : Bool) (n : ℕ) (b : Bool) → false ≡ (a && (eqb (suc n) 0 && b))
no_more a n b = and_no a ∙ ap (λ c. a && (c && b)) (sym (not_zero n))

-- the node before is a 0, and behind it stands an `Again` alone
const_turns : (u n t : ℕ) (rest : ListT ℕ) → turns_once (MoreN (DoN (op.Const u n)) rest) t ≡ ((eqb u t && eqb n 0) && is_again rest)
const_turns u zero t NoN = and_no (eqb u t && eqb 0 0)
const_turns u zero t (MoreN (AgainN zero) NoN) = and_yes (eqb u t) ∙ and_yes (eqb u t && true)
const_turns u zero t (MoreN (AgainN zero) (MoreN x r)) = and_no (eqb u t && eqb 0 0)
const_turns u zero t (MoreN (AgainN (suc k)) NoN) = no_more (eqb u t && eqb 0 0) k true
const_turns u zero t (MoreN (AgainN (suc k)) (MoreN x r)) = no_more (eqb u t && eqb 0 0) k false
const_turns u zero t (MoreN (DoN o) r) = and_no (eqb u t && eqb 0 0)
const_turns u zero t (MoreN (ChooseN p a b) r) = and_no (eqb u t && eqb 0 0)
const_turns u zero t (MoreN (BlockN b) r) = and_no (eqb u t && eqb 0 0)
const_turns u zero t (MoreN (LoopN b) r) = and_no (eqb u t && eqb 0 0)
const_turns u zero t (MoreN (LeaveN k) r) = and_no (eqb u t && eqb 0 0)
const_turns u zero t (MoreN (ReturnN p) r) = and_no (eqb u t && eqb 0 0)
const_turns u (suc n) t rest = ap (λ b. b && is_again rest) (and_no (eqb u t) ∙ ap (λ c. eqb u t && c) (sym (not_zero n)))

pub turns_is : (x : NodeT ℕ) (rest : ListT ℕ) (t : ℕ) → turns_once (MoreN x rest) t ≡ (is_zero x t && is_again rest)
turns_is (DoN (op.Const u n)) rest t = const_turns u n t rest
turns_is (DoN (op.Null u)) rest t = refl
turns_is (DoN (op.Move u a)) rest t = refl
turns_is (DoN (op.One o u a)) rest t = refl
turns_is (DoN (op.Two o u a b)) rest t = refl
turns_is (DoN (op.Global u k)) rest t = refl
turns_is (DoN (op.Local u k)) rest t = refl
turns_is (DoN (op.Literal u k)) rest t = refl
turns_is (DoN (op.Card u)) rest t = refl
turns_is (DoN (op.Step u p n)) rest t = refl
turns_is (DoN (op.Apart u p q)) rest t = refl
turns_is (DoN (op.PtrTest o u p q)) rest t = refl
turns_is (DoN (op.Load u p)) rest t = refl
turns_is (DoN (op.Store p a)) rest t = refl
turns_is (DoN (op.Fresh k)) rest t = refl
turns_is (DoN (op.End k)) rest t = refl
turns_is (DoN (op.Call u g args)) rest t = refl
turns_is (DoN (op.In u port)) rest t = refl
turns_is (DoN (op.Out port a)) rest t = refl
turns_is (DoN op.Wait) rest t = refl
turns_is (DoN op.Halt) rest t = refl
turns_is (ChooseN p a b) rest t = refl
turns_is (BlockN b) rest t = refl
turns_is (LoopN b) rest t = refl
turns_is (LeaveN k) rest t = refl
turns_is (AgainN k) rest t = refl
turns_is (ReturnN p) rest t = refl

pub asks_is : (x : NodeT ℕ) (rest : ListT ℕ) → asks_by (MoreN x rest) ≡ cond (is_nothing rest) (asks_node x) None
asks_is (ChooseN t a NoN) NoN = refl
asks_is (ChooseN t a (MoreN x r)) NoN = refl
asks_is (ChooseN t a NoN) (MoreN y s) = refl
asks_is (ChooseN t a (MoreN x r)) (MoreN y s) = refl
asks_is (DoN o) NoN = refl
asks_is (DoN o) (MoreN y s) = refl
asks_is (BlockN b) NoN = refl
asks_is (BlockN b) (MoreN y s) = refl
asks_is (LoopN b) NoN = refl
asks_is (LoopN b) (MoreN y s) = refl
asks_is (LeaveN k) NoN = refl
asks_is (LeaveN k) (MoreN y s) = refl
asks_is (AgainN k) NoN = refl
asks_is (AgainN k) (MoreN y s) = refl
asks_is (ReturnN p) NoN = refl
asks_is (ReturnN p) (MoreN y s) = refl

-- ---- what asks is known in full

none_some : (t : ℕ) → None ≡ Some t → ⊥
none_some t e = cc

some_same : (a b : ℕ) → Some a ≡ Some b → a ≡ b
some_same a b e = cc

false_true : false ≡ true → ⊥
false_true e = cc

same_number : (u t : ℕ) → eqb u t ≡ true → u ≡ t
same_number u t e = grind (arith, e)

again_shape : (r : ListT ℕ) → is_again r ≡ true → r ≡ MoreN (AgainN 0) NoN
again_shape NoN e = absurd (false_true e)
again_shape (MoreN (AgainN k) NoN) e = let z = same_number k 0 (both_0 (eqb k 0) true e) in λ i. MoreN (AgainN (z i)) NoN
again_shape (MoreN (AgainN k) (MoreN x r)) e = absurd (false_true (both_1 (eqb k 0) false e))
again_shape (MoreN (DoN o) r) e = absurd (false_true e)
again_shape (MoreN (ChooseN p a b) r) e = absurd (false_true e)
again_shape (MoreN (BlockN b) r) e = absurd (false_true e)
again_shape (MoreN (LoopN b) r) e = absurd (false_true e)
again_shape (MoreN (LeaveN k) r) e = absurd (false_true e)
again_shape (MoreN (ReturnN p) r) e = absurd (false_true e)

op_shape : (o : Op ℕ) (t : ℕ) → is_zero_op o t ≡ true → DoN o ≡ DoN (op.Const t 0)
op_shape (op.Const u n) t e =
    let a = same_number u t (both_0 (eqb u t) (eqb n 0) e) in let b = same_number n 0 (both_1 (eqb u t) (eqb n 0) e) in λ i. DoN (op.Const (a i) (b i))
op_shape (op.Null u) t e = absurd (false_true e)
op_shape (op.Move u a) t e = absurd (false_true e)
op_shape (op.One o u a) t e = absurd (false_true e)
op_shape (op.Two o u a b) t e = absurd (false_true e)
op_shape (op.Global u k) t e = absurd (false_true e)
op_shape (op.Local u k) t e = absurd (false_true e)
op_shape (op.Literal u k) t e = absurd (false_true e)
op_shape (op.Card u) t e = absurd (false_true e)
op_shape (op.Step u p n) t e = absurd (false_true e)
op_shape (op.Apart u p q) t e = absurd (false_true e)
op_shape (op.PtrTest o u p q) t e = absurd (false_true e)
op_shape (op.Load u p) t e = absurd (false_true e)
op_shape (op.Store p a) t e = absurd (false_true e)
op_shape (op.Fresh k) t e = absurd (false_true e)
op_shape (op.End k) t e = absurd (false_true e)
op_shape (op.Call u g args) t e = absurd (false_true e)
op_shape (op.In u port) t e = absurd (false_true e)
op_shape (op.Out port a) t e = absurd (false_true e)
op_shape op.Wait t e = absurd (false_true e)
op_shape op.Halt t e = absurd (false_true e)

zero_shape : (x : NodeT ℕ) (t : ℕ) → is_zero x t ≡ true → x ≡ DoN (op.Const t 0)
zero_shape (DoN o) t e = op_shape o t e
zero_shape (ChooseN p a b) t e = absurd (false_true e)
zero_shape (BlockN b) t e = absurd (false_true e)
zero_shape (LoopN b) t e = absurd (false_true e)
zero_shape (LeaveN k) t e = absurd (false_true e)
zero_shape (AgainN k) t e = absurd (false_true e)
zero_shape (ReturnN p) t e = absurd (false_true e)

turns_shape : (a : ListT ℕ) (t : ℕ) → turns_once a t ≡ true → a ≡ MoreN (DoN (op.Const t 0)) (MoreN (AgainN 0) NoN)
turns_shape NoN t e = absurd (false_true e)
turns_shape (MoreN x r) t e =
    let f = sym (turns_is x r t) ∙ e in
    let g = zero_shape x t (both_0 (is_zero x t) (is_again r) f) in
    let h = again_shape r (both_1 (is_zero x t) (is_again r) f) in
    λ i. MoreN (g i) (h i)

node_shape : (x : NodeT ℕ) (t : ℕ) → asks_node x ≡ Some t → x ≡ ChooseN t (MoreN (DoN (op.Const t 0)) (MoreN (AgainN 0) NoN)) NoN
node_shape (ChooseN u a NoN) t e = go (turns_once a u) refl e
  where
    go : (b : Bool) → turns_once a u ≡ b → cond b (Some u) None ≡ Some t → ChooseN u a NoN ≡ ChooseN t (MoreN (DoN (op.Const t 0)) (MoreN (AgainN 0) NoN)) NoN
    go true f e = let g = some_same u t e in let h = turns_shape a u f in (λ i. ChooseN u (h i) NoN) ∙ (λ i. ChooseN (g i) (MoreN (DoN (op.Const (g i) 0)) (MoreN (AgainN 0) NoN)) NoN)
    go false f e = absurd (none_some t e)
node_shape (ChooseN u a (MoreN x r)) t e = absurd (none_some t e)
node_shape (DoN o) t e = absurd (none_some t e)
node_shape (BlockN b) t e = absurd (none_some t e)
node_shape (LoopN b) t e = absurd (none_some t e)
node_shape (LeaveN k) t e = absurd (none_some t e)
node_shape (AgainN k) t e = absurd (none_some t e)
node_shape (ReturnN p) t e = absurd (none_some t e)

pub asks_shape : (b : ListT ℕ) (t : ℕ) → asks_by b ≡ Some t → b ≡ asking t
asks_shape NoN t e = absurd (none_some t e)
asks_shape (MoreN x NoN) t e = let f = node_shape x t (sym (asks_is x NoN) ∙ e) in λ i. MoreN (f i) NoN
asks_shape (MoreN x (MoreN y r)) t e = absurd (none_some t (sym (asks_is x (MoreN y r)) ∙ e))
