-- Common subexpressions of code as it stands in memory.
use Rattle.std.specs.Prelude.{ℕ, List, [], ◌∷◌, Option, Some, None}
use Rattle.mid_code.specs.declared.node.Op.{Op}
use Rattle.mid_code.specs.declared.node.Op.TheVariants as op
use Rattle.mid_code.specs.Functions.{NodeT, DoN, ChooseN, BlockN, LoopN, LeaveN, AgainN, ReturnN, ListT, NoN, MoreN, listed}
use Rattle.mid_code.specs.Operands.{op_target}
use Rattle.mid_fold.specs.declared.operand.Operand.TheVariants.{Word, Address}
use Rattle.mid_fold.specs.declared.made.Maker.TheVariants.{Operator, Step}
use Rattle.mid_fold.specs.declared.seen.Known.{Known}
use Rattle.mid_fold.specs.inner.Reusing.{Seen, nothing_seen, operand_in, operands_behind, results_behind, behind_maybe}
use Rattle.mid_fold.specs.inner.Reusing.{with_operand, with_result, made, result_of, address_of_local, step_found}

-- what is known, as it stands in memory
abbrev pub seen : Known → Seen
seen k = (k.operands.items, k.results.items)

abbrev pub or_move : ℕ → Op ℕ → Option ℕ → Op ℕ
or_move t o None = o
or_move t o (Some q) = op.Move t q

abbrev pub op_reused : Seen → Op ℕ → Op ℕ
op_reused k (op.Two o t a b) = or_move t (op.Two o t a b) (result_of k.1 (made k.0 (Operator o) t a b))
op_reused k (op.Step t p n) = or_move t (op.Step t p n) (step_found k t p n)
op_reused k o = o

abbrev pub op_seen : Seen → Op ℕ → Seen
op_seen k (op.Const t word) = (with_operand (operands_behind k.0 t) t (Word word), results_behind k.1 t)
op_seen k (op.Move t a) = (with_operand (operands_behind k.0 t) t (operand_in k.0 a), results_behind k.1 t)
op_seen k (op.Global t number) = (with_operand (operands_behind k.0 t) t (Address number), results_behind k.1 t)
op_seen k (op.Local t number) = (operands_behind k.0 t, with_result (results_behind k.1 t) (address_of_local t))
op_seen k (op.Two o t a b) = (operands_behind k.0 t, with_result (results_behind k.1 t) (made k.0 (Operator o) t a b))
op_seen k (op.Step t p n) = (operands_behind k.0 t, with_result (results_behind k.1 t) (made k.0 Step t p n))
op_seen k (op.Call t f args) = nothing_seen
op_seen k o = behind_maybe k (op_target o)

abbrev pub node_seen : Seen → NodeT ℕ → Seen
node_seen k (DoN o) = op_seen k o
node_seen k (ChooseN p a b) = nothing_seen
node_seen k (BlockN b) = nothing_seen
node_seen k (LoopN b) = nothing_seen
node_seen k (LeaveN j) = nothing_seen
node_seen k (AgainN j) = nothing_seen
node_seen k (ReturnN p) = nothing_seen

abbrev mutual
  pub node_reused : Seen → NodeT ℕ → NodeT ℕ
  node_reused k (DoN o) = DoN (op_reused k o)
  node_reused k (ChooseN p a b) = ChooseN p (listed (list_reused k a)) (listed (list_reused k b))
  node_reused k (BlockN b) = BlockN (listed (list_reused k b))
  node_reused k (LoopN b) = LoopN (listed (list_reused nothing_seen b))
  node_reused k (LeaveN j) = LeaveN j
  node_reused k (AgainN j) = AgainN j
  node_reused k (ReturnN p) = ReturnN p

  pub list_reused : Seen → ListT ℕ → List (NodeT ℕ)
  list_reused k NoN = []
  list_reused k (MoreN x rest) = node_reused k x ∷ list_reused (node_seen k (node_reused k x)) rest
