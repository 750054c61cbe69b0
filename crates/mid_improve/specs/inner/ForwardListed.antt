-- The same as code in memory has it.
use Rattle.std.specs.Prelude.{ℕ, ◌^◌, nat_lt, cond, List, [], ◌∷◌, map, option_map, Option, Some, None}
use Rattle.mid_code.specs.declared.node.Op.{Op}
use Rattle.mid_code.specs.declared.node.Op.TheVariants as op
use Rattle.mid_code.specs.Functions.{NodeT, DoN, ChooseN, BlockN, LoopN, LeaveN, AgainN, ReturnN, ListT, NoN, MoreN, listed}
use Rattle.mid_code.specs.Operands.{op_reading}
use Rattle.mid_improve.specs.inner.Facts.{Known, none_known, fact_word}
use Rattle.mid_improve.specs.inner.Listed.{node_known}
use Rattle.mid_fold.specs.Lasting.{one_known, two_known}
use Rattle.mid_improve.specs.inner.Forward.{serves}

abbrev pub or_word : ℕ → Op ℕ → Option ℕ → Op ℕ
or_word t o None = o
or_word t o (Some word) = cond (nat_lt word (2 ^ 32)) (op.Const t word) o

-- the target of an operation that can be worked out from words, and its word where those are known
abbrev pub op_word : Known → Op ℕ → Option (ℕ × Option ℕ)
op_word k (op.Move t a) = Some (t, fact_word (k a))
op_word k (op.One o t a) = Some (t, one_known o (fact_word (k a)))
op_word k (op.Two o t a b) = Some (t, two_known o (fact_word (k a)) (fact_word (k b)))
op_word k o = None

abbrev pub or_known : Option (ℕ × Option ℕ) → Op ℕ → Op ℕ
or_known None o = o
or_known (Some p) o = or_word p.0 o p.1

abbrev pub op_forwarded : Known → Op ℕ → Op ℕ
op_forwarded k o = or_known (op_word k o) (op_reading (serves k) o)

abbrev mutual
  pub node_forwarded : Known → NodeT ℕ → NodeT ℕ
  node_forwarded k (DoN o) = DoN (op_forwarded k o)
  node_forwarded k (ChooseN p a b) = ChooseN (serves k p) (listed (list_forwarded none_known a)) (listed (list_forwarded none_known b))
  node_forwarded k (BlockN b) = BlockN (listed (list_forwarded none_known b))
  node_forwarded k (LoopN b) = LoopN (listed (list_forwarded none_known b))
  node_forwarded k (LeaveN j) = LeaveN j
  node_forwarded k (AgainN j) = AgainN j
  node_forwarded k (ReturnN p) = ReturnN (option_map (serves k) p)

  pub list_forwarded : Known → ListT ℕ → List (NodeT ℕ)
  list_forwarded k NoN = []
  list_forwarded k (MoreN x rest) = node_forwarded k x ∷ list_forwarded (node_known k (node_forwarded k x)) rest
