-- The same as code in memory has it.
use Rattle.std.specs.Prelude.{ℕ, ◌^◌, nat_lt, cond, List, [], ◌∷◌, Option, Some, None}
use Rattle.mid_code.specs.declared.node.Op.{Op}
use Rattle.mid_code.specs.declared.node.Op.TheVariants as op
use Rattle.mid_code.specs.Functions.{NodeT, DoN, ChooseN, BlockN, LoopN, LeaveN, AgainN, ReturnN, ListT, NoN, MoreN, listed}
use Rattle.mid_code.specs.Operands.{op_target}
use Rattle.mid_fold.specs.Lasting.{one_known, two_known}
use Rattle.mid_fold.specs.inner.Folding.{Words, word_in, behind, few}

abbrev pub or_word : ℕ → Op ℕ → Option ℕ → Op ℕ
or_word t o None = o
or_word t o (Some word) = cond (nat_lt word (2 ^ 32)) (op.Const t word) o

abbrev pub op_folded : Words → Op ℕ → Op ℕ
op_folded es (op.Move t a) = or_word t (op.Move t a) (word_in es a)
op_folded es (op.One o t a) = or_word t (op.One o t a) (one_known o (word_in es a))
op_folded es (op.Two o t a b) = or_word t (op.Two o t a b) (two_known o (word_in es a) (word_in es b))
op_folded es o = o

abbrev pub behind_maybe : Words → Option ℕ → Words
behind_maybe es None = es
behind_maybe es (Some t) = behind es t

abbrev pub op_known : Words → Op ℕ → Words
op_known es (op.Const t word) = (t, word) ∷ few (behind es t)
op_known es (op.Call t f args) = []
op_known es o = behind_maybe es (op_target o)

abbrev pub node_known : Words → NodeT ℕ → Words
node_known es (DoN o) = op_known es o
node_known es (ChooseN p a b) = []
node_known es (BlockN b) = []
node_known es (LoopN b) = []
node_known es (LeaveN k) = []
node_known es (AgainN k) = []
node_known es (ReturnN p) = []

abbrev mutual
  pub node_folded : Words → NodeT ℕ → NodeT ℕ
  node_folded es (DoN o) = DoN (op_folded es o)
  node_folded es (ChooseN p a b) = ChooseN p (listed (list_folded es a)) (listed (list_folded es b))
  node_folded es (BlockN b) = BlockN (listed (list_folded es b))
  node_folded es (LoopN b) = LoopN (listed (list_folded [] b))
  node_folded es (LeaveN k) = LeaveN k
  node_folded es (AgainN k) = AgainN k
  node_folded es (ReturnN p) = ReturnN p

  pub list_folded : Words → ListT ℕ → List (NodeT ℕ)
  list_folded es NoN = []
  list_folded es (MoreN x rest) = node_folded es x ∷ list_folded (node_known es (node_folded es x)) rest
