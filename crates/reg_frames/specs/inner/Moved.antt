-- Nodes as they stand in memory, over other places.
use Rattle.std.specs.Prelude.{ℕ, get_or, map}
use Rattle.mid_code.specs.declared.placed.Where.{Where}
use Rattle.mid_code.specs.declared.node.Op.{Op}
use Rattle.mid_code.specs.declared.node.Op.TheVariants as op
use Rattle.mid_code.specs.Functions.{NodeT, DoN, ChooseN, BlockN, LoopN, LeaveN, AgainN, ReturnN, ListT, NoN, MoreN}
use Rattle.reg_frames.specs.inner.Placing.{placed_maybe}
use Rattle.reg_frames.specs.declared.places.Places.{Places}

abbrev pub op_moved : {P Q : Type 0} → (P → Q) → Op P → Op Q
op_moved w (op.Const t word) = op.Const (w t) word
op_moved w (op.Null t) = op.Null (w t)
op_moved w (op.Move t a) = op.Move (w t) (w a)
op_moved w (op.One o t a) = op.One o (w t) (w a)
op_moved w (op.Two o t a b) = op.Two o (w t) (w a) (w b)
op_moved w (op.Global t number) = op.Global (w t) number
op_moved w (op.Local t number) = op.Local (w t) number
op_moved w (op.Literal t number) = op.Literal (w t) number
op_moved w (op.Card t) = op.Card (w t)
op_moved w (op.Step t p n) = op.Step (w t) (w p) (w n)
op_moved w (op.Apart t p q) = op.Apart (w t) (w p) (w q)
op_moved w (op.PtrTest o t p q) = op.PtrTest o (w t) (w p) (w q)
op_moved w (op.Load t p) = op.Load (w t) (w p)
op_moved w (op.Store p a) = op.Store (w p) (w a)
op_moved w (op.Fresh local) = op.Fresh local
op_moved w (op.End local) = op.End local
op_moved w (op.Call t f args) = op.Call (placed_maybe w t) f (map w args)
op_moved w (op.In t port) = op.In (w t) port
op_moved w (op.Out port a) = op.Out port (w a)
op_moved w op.Wait = op.Wait
op_moved w op.Halt = op.Halt

abbrev mutual
  pub node_moved : {P Q : Type 0} → (P → Q) → NodeT P → NodeT Q
  node_moved w (DoN o) = DoN (op_moved w o)
  node_moved w (ChooseN p a b) = ChooseN (w p) (list_moved w a) (list_moved w b)
  node_moved w (BlockN b) = BlockN (list_moved w b)
  node_moved w (LoopN b) = LoopN (list_moved w b)
  node_moved w (LeaveN k) = LeaveN k
  node_moved w (AgainN k) = AgainN k
  node_moved w (ReturnN p) = ReturnN (placed_maybe w p)

  pub list_moved : {P Q : Type 0} → (P → Q) → ListT P → ListT Q
  list_moved w NoN = NoN
  list_moved w (MoreN x rest) = MoreN (node_moved w x) (list_moved w rest)

-- where a temporary stands
abbrev pub stands : Places → ℕ → Where
stands p x = get_or p.at.items x p.other
