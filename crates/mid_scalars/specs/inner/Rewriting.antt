-- Nodes as they stand in memory, rewritten by a plan; and the plan of a table.
use Rattle.std.specs.Prelude.{ℕ, ◌+◌, ◌-◌, false, cond, ltb, List, [], ◌∷◌, ◌++◌, length, get_or, Option, None, Some}
use Rattle.std.specs.Option.{option_map_or}
use Rattle.mid_code.specs.declared.node.Op.{Op}
use Rattle.mid_code.specs.declared.node.Op.TheVariants as op
use Rattle.mid_code.specs.Functions.{NodeT, DoN, ChooseN, BlockN, LoopN, LeaveN, AgainN, ReturnN, ListT, NoN, MoreN, listed}
use Rattle.mid_scalars.specs.inner.Plan.{Kind, Own, Address, Variable, Plan}
use Rattle.mid_scalars.specs.inner.Purposes.{kind_by, role_at}
use Rattle.mid_scalars.specs.declared.table.Table.{Table}

-- the promoted local whose address a temporary of this kind is
abbrev pub addressed : Kind → Option ℕ
addressed Own = None
addressed (Address k) = Some k
addressed (Variable k) = None

abbrev pub op_by : Plan → Option ℕ → Op ℕ → Option (Op ℕ)
op_by X h (op.Local t k) = cond (X.promoted h k) None (Some (op.Local t (X.moved h k)))
op_by X h (op.Load t p) = option_map_or (λ k. Some (op.Move t (X.variable h k))) (addressed (X.kind h p)) (Some (op.Load t p))
op_by X h (op.Store p a) = option_map_or (λ k. Some (op.Move (X.variable h k) a)) (addressed (X.kind h p)) (Some (op.Store p a))
op_by X h (op.Fresh k) = cond (X.promoted h k) None (Some (op.Fresh (X.moved h k)))
op_by X h (op.End k) = cond (X.promoted h k) None (Some (op.End (X.moved h k)))
op_by X h o = Some o

abbrev pub some_node : Option (Op ℕ) → List (NodeT ℕ)
some_node None = []
some_node (Some o) = DoN o ∷ []

abbrev mutual
  pub node_by : Plan → Option ℕ → NodeT ℕ → List (NodeT ℕ)
  node_by X h (DoN o) = some_node (op_by X h o)
  node_by X h (ChooseN p a b) = ChooseN p (listed (list_by X h a)) (listed (list_by X h b)) ∷ []
  node_by X h (BlockN b) = BlockN (listed (list_by X h b)) ∷ []
  node_by X h (LoopN b) = LoopN (listed (list_by X h b)) ∷ []
  node_by X h (LeaveN k) = LeaveN k ∷ []
  node_by X h (AgainN k) = AgainN k ∷ []
  node_by X h (ReturnN p) = ReturnN p ∷ []

  pub list_by : Plan → Option ℕ → ListT ℕ → List (NodeT ℕ)
  list_by X h NoN = []
  list_by X h (MoreN x rest) = node_by X h x ++ list_by X h rest

-- ---- the plan of a table

-- the temporary of a plain local, or the new number of another; those behind the last local are numbered on
abbrev pub number_in : List ℕ → (kept : ℕ) → ℕ → ℕ
number_in numbers kept k = cond (ltb k (length numbers)) (get_or numbers k 0) (kept + (k - length numbers))

abbrev pub plan_by : Table → Plan
plan_by t = record {
  promoted = λ h k. get_or t.plain.items k false;
  variable = λ h k. number_in t.numbers.items t.kept k;
  kind = λ h p. kind_by t.plain.items (role_at t.roles.items p);
  moved = λ h k. number_in t.numbers.items t.kept k;
}
