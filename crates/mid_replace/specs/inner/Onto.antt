-- One node, with what stands for it behind nodes that stand already.
use Rattle.std.specs.Prelude.{ℕ, List, [], ◌∷◌, ◌++◌, Option, Some, None}
use Rattle.mid_code.specs.declared.node.Op.{Op}
use Rattle.mid_code.specs.Functions.{NodeT, DoN, ChooseN, BlockN, LoopN, LeaveN, AgainN, ReturnN, ListT, listed}
use Rattle.mid_replace.specs.inner.Facts.{Plain, Note, Plan, fact_at}
use Rattle.mid_replace.specs.inner.Replaced.{turn_of, may_stand, some_node, noted, noted_maybe, is_plain, is_maybe_plain, asks_by, if_some, when, replaced}

-- the nodes so far, and what is noted behind them
pub record Onto : Type 0 where
  pub out : List (NodeT ℕ)
  pub notes : List Note

abbrev pub onto : List (NodeT ℕ) → List Note → Onto
onto out ns = record { out = out; notes = ns }

abbrev pub op_onto : Plan → List (NodeT ℕ) → List Note → Op ℕ → Option Onto
op_onto X out ns o =
    when (may_stand X (turn_of X (fact_at (X.base) ns) o))
    (Some (onto (out ++ some_node (turn_of X (fact_at (X.base) ns) o).stands) (noted_maybe (turn_of X (fact_at (X.base) ns) o).made ns)))

abbrev pub asking_onto : Plan → List (NodeT ℕ) → List Note → ListT ℕ → ℕ → Option Onto
asking_onto X out ns b t = when (is_plain (fact_at (X.base) ns t)) (Some (onto (out ++ LoopN b ∷ []) (noted t Plain ns)))

abbrev pub loop_onto : Plan → List (NodeT ℕ) → List Note → ListT ℕ → (asks : Option ℕ) → Option Onto
loop_onto X out ns b None = if_some (replaced X [] b) (λ c. Some (onto (out ++ LoopN (listed c) ∷ []) []))
loop_onto X out ns b (Some t) = asking_onto X out ns b t

abbrev pub node_onto : Plan → List (NodeT ℕ) → List Note → NodeT ℕ → Option Onto
node_onto X out ns (DoN o) = op_onto X out ns o
node_onto X out ns (ChooseN p a b) =
    when (is_plain (fact_at (X.base) ns p))
    (if_some (replaced X [] a) (λ c. if_some (replaced X [] b) (λ d. Some (onto (out ++ ChooseN p (listed c) (listed d) ∷ []) []))))
node_onto X out ns (BlockN b) = if_some (replaced X [] b) (λ c. Some (onto (out ++ BlockN (listed c) ∷ []) []))
node_onto X out ns (LoopN b) = loop_onto X out ns b (asks_by b)
node_onto X out ns (LeaveN k) = Some (onto (out ++ LeaveN k ∷ []) [])
node_onto X out ns (AgainN k) = Some (onto (out ++ AgainN k ∷ []) [])
node_onto X out ns (ReturnN p) = when (is_maybe_plain (fact_at (X.base) ns) p) (Some (onto (out ++ ReturnN p ∷ []) []))
