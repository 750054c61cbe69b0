-- Loops that ask for one more turn where a temporary is not 0, and do nothing else: part by part, and as a whole.
use Rattle.std.specs.Prelude.{ℕ, Bool, true, false, ◌&&◌, cond, eqb, Option, Some, None}
use Rattle.mid_code.specs.declared.node.Op.{Op}
use Rattle.mid_code.specs.declared.node.Op.TheVariants as op
use Rattle.mid_code.specs.Functions.{NodeT, DoN, ChooseN, AgainN, ListT, NoN, MoreN}
use Rattle.mid_replace.specs.inner.Replaced.{turns_once}

abbrev pub is_nothing : ListT ℕ → Bool
is_nothing NoN = true
is_nothing (MoreN x rest) = false

abbrev pub is_again_node : NodeT ℕ → Bool
is_again_node (AgainN k) = eqb k 0
is_again_node _ = false

abbrev pub is_again : ListT ℕ → Bool
is_again NoN = false
is_again (MoreN x rest) = is_again_node x && is_nothing rest

abbrev pub is_zero_op : Op ℕ → ℕ → Bool
is_zero_op (op.Const u n) t = eqb u t && eqb n 0
is_zero_op _ t = false

abbrev pub is_zero : NodeT ℕ → ℕ → Bool
is_zero (DoN o) t = is_zero_op o t
is_zero _ t = false

abbrev pub asks_node : NodeT ℕ → Option ℕ
asks_node (ChooseN t a b) = cond (is_nothing b && turns_once a t) (Some t) None
asks_node _ = None

abbrev pub asking : ℕ → ListT ℕ
asking t = MoreN (ChooseN t (MoreN (DoN (op.Const t 0)) (MoreN (AgainN 0) NoN)) NoN) NoN
