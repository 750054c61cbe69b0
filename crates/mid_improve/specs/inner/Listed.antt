-- The same as code in memory has it: what is known behind a node, and whether nodes are settled by it.
use Rattle.std.specs.Prelude.{ℕ, Bool, true, not, eqb, cond, ◌&&◌, [], ◌∷◌, is_some, Option}
use Rattle.std.specs.List.{list_all}
use Rattle.mid_code.specs.declared.node.Op.{Op}
use Rattle.mid_code.specs.declared.node.Op.TheVariants as op
use Rattle.mid_code.specs.Functions.{NodeT, DoN, ChooseN, BlockN, LoopN, LeaveN, AgainN, ReturnN, ListT, NoN, MoreN}
use Rattle.mid_code.specs.Operands.{op_target, op_uses}
use Rattle.mid_fold.specs.Lasting.{divides}
use Rattle.mid_improve.specs.Settled.{is_zero}
use Rattle.mid_improve.specs.inner.Facts.{Known, IsWord, IsCopy, none_known, behind, behind_maybe, with_fact, fact_word, is_no_copy}

-- ---- operations

abbrev pub op_known : Known → Op ℕ → Known
op_known k (op.Const t word) = with_fact t (IsWord word) (behind k t)
op_known k (op.Move t a) = cond (eqb a t) (behind k t) (with_fact t (IsCopy a) (behind k t))
op_known k o = behind_maybe k (op_target o)

-- an operator is not to be worked out, and its operands are no copies
abbrev pub one_settled : Known → ℕ → Bool
one_settled k a = not (is_some (fact_word (k a))) && list_all (is_no_copy k) (a ∷ [])

abbrev pub two_folds : Bool → Option ℕ → Option ℕ → Bool
two_folds division x y = is_some x && (is_some y && not (division && is_zero y))

abbrev pub op_settled : Known → Op ℕ → Bool
op_settled k (op.One o t a) = one_settled k a
op_settled k (op.Two o t a b) = not (two_folds (divides o) (fact_word (k a)) (fact_word (k b))) && list_all (is_no_copy k) (a ∷ b ∷ [])
op_settled k o = list_all (is_no_copy k) (op_uses o)

-- ---- nodes

abbrev pub node_known : Known → NodeT ℕ → Known
node_known k (DoN o) = op_known k o
node_known k (ChooseN p a b) = none_known
node_known k (BlockN b) = none_known
node_known k (LoopN b) = none_known
node_known k (LeaveN j) = none_known
node_known k (AgainN j) = none_known
node_known k (ReturnN p) = none_known

abbrev mutual
  pub node_settled : Known → NodeT ℕ → Bool
  node_settled k (DoN o) = op_settled k o
  node_settled k (ChooseN p a b) = list_settled none_known a && list_settled none_known b
  node_settled k (BlockN b) = list_settled none_known b
  node_settled k (LoopN b) = list_settled none_known b
  node_settled k (LeaveN j) = true
  node_settled k (AgainN j) = true
  node_settled k (ReturnN p) = true

  pub list_settled : Known → ListT ℕ → Bool
  list_settled k NoN = true
  list_settled k (MoreN x rest) = node_settled k x && list_settled (node_known k x) rest
