-- The same as code in memory has it.
use Rattle.std.specs.Prelude.{ℕ, eqb, cond, List, [], ◌∷◌, Option, Some, None}
use Rattle.mid_code.specs.declared.node.Op.{Op}
use Rattle.mid_code.specs.declared.node.Op.TheVariants as op
use Rattle.mid_code.specs.Functions.{NodeT, DoN, ChooseN, BlockN, LoopN, LeaveN, AgainN, ReturnN, ListT, NoN, MoreN, before, listed}
use Rattle.mid_code.specs.Code.{Stop, node_target as target_there}
use Rattle.mid_code.specs.Operands.{op_target, op_into}
use Rattle.mid_improve.specs.inner.Retarget.{Turn, turn_of, or_else}

abbrev pub op_to : Option ℕ → Op ℕ → Op ℕ
op_to None o = o
op_to (Some x) o = op_into x o

abbrev pub op_landing : ℕ → Op ℕ → ℕ
op_landing t (op.Move x a) = cond (eqb a t) x t
op_landing t o = t

abbrev pub node_landing : ℕ → NodeT ℕ → ℕ
node_landing t (DoN o) = op_landing t o
node_landing t _ = t

abbrev pub list_landing : ℕ → ListT ℕ → ℕ
list_landing t NoN = t
list_landing t (MoreN x rest) = node_landing t x

abbrev pub list_lands : Option ℕ → ListT ℕ → Option ℕ
list_lands None rest = None
list_lands (Some t) rest = Some (list_landing t rest)

abbrev pub turned_move : Turn → Op ℕ → Option (Op ℕ)
turned_move (Some p) (op.Move x a) = Some (op.Move p.0 p.1)
turned_move h o = None

abbrev pub unless_turned : Option (Op ℕ) → Turn → Turn
unless_turned None h = h
unless_turned (Some o) h = None

abbrev pub node_target : NodeT ℕ → Option ℕ
node_target x = target_there (before x Stop)

-- what has its cell elsewhere behind a node, and what stands for it, by where its target goes
abbrev pub node_turn : Turn → NodeT ℕ → Option ℕ → Turn
node_turn h (DoN o) to = unless_turned (turned_move h o) (turn_of (op_target o) to)
node_turn h _ to = None

abbrev mutual
  pub node_retargeted : Turn → NodeT ℕ → Option ℕ → NodeT ℕ
  node_retargeted h (DoN o) to = DoN (or_else (turned_move h o) (op_to to o))
  node_retargeted h (ChooseN p a b) to = ChooseN p (listed (list_retargeted None a)) (listed (list_retargeted None b))
  node_retargeted h (BlockN b) to = BlockN (listed (list_retargeted None b))
  node_retargeted h (LoopN b) to = LoopN (listed (list_retargeted None b))
  node_retargeted h (LeaveN k) to = LeaveN k
  node_retargeted h (AgainN k) to = AgainN k
  node_retargeted h (ReturnN p) to = ReturnN p

  pub list_retargeted : Turn → ListT ℕ → List (NodeT ℕ)
  list_retargeted h NoN = []
  list_retargeted h (MoreN x rest) =
      node_retargeted h x (list_lands (node_target x) rest) ∷ list_retargeted (node_turn h x (list_lands (node_target x) rest)) rest
