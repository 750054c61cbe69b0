-- The same as code in memory has it: an operation that is held back, the nodes that stand for one, and what is held back behind it.
use Rattle.std.specs.Prelude.{ℕ, Bool, false, cond, List, [], ◌∷◌, ◌++◌, Option, Some, None}
use Rattle.mid_code.specs.declared.node.Op.{Op}
use Rattle.mid_code.specs.declared.node.Op.TheVariants as op
use Rattle.mid_code.specs.Code.{OpT, ConstO, NullO, MoveO, OneO, TwoO, GlobalO, LocalO, LiteralO, CardO, StepO, ApartO, PtrTestO, LoadO, StoreO, FreshO, EndO}
use Rattle.mid_code.specs.Code.{InO, OutO, WaitO, HaltO}
use Rattle.mid_code.specs.Functions.{NodeT, DoN, ChooseN, BlockN, LoopN, LeaveN, AgainN, ReturnN, ListT, NoN, MoreN, listed}
use Rattle.mid_improve.specs.declared.sinking.Free.{Free}
use Rattle.mid_improve.specs.declared.sinking.Free.TheVariants as free
use Rattle.mid_improve.specs.declared.sinking.Walk.{Walk}
use Rattle.mid_improve.specs.inner.Sinking.{Held, is_free, is_apart, stops, goes_on, held_behind}

-- ---- what is held back

abbrev pub free_op : Free → OpT ℕ
free_op (free.Const t word) = ConstO t word
free_op (free.Global t number) = GlobalO t number
free_op (free.Step t p n) = StepO t p n

abbrev pub held_of : Option Free → Held
held_of None = None
held_of (Some f) = Some (free_op f)

-- the operation, where a walk holds it back
abbrev pub free_in : Walk → Held → Option (OpT ℕ) → Held
free_in w h None = None
free_in w h (Some o) = cond (is_free w h o) (Some o) None

-- an operation that is apart from what is held back
abbrev pub apart_in : OpT ℕ → Option (OpT ℕ) → Bool
apart_in p None = false
apart_in p (Some o) = is_apart (Some p) o

-- that it is held behind still
abbrev pub goes_in : Walk → OpT ℕ → Option (OpT ℕ) → Bool
goes_in w p None = false
goes_in w p (Some o) = goes_on w (Some p) o

abbrev pub stops_in : Walk → OpT ℕ → Option (OpT ℕ) → Bool
stops_in w p None = false
stops_in w p (Some o) = stops w (Some p) o

-- what is held back goes behind the operation
abbrev pub passes : Walk → Held → Option (OpT ℕ) → Bool
passes w None o = false
passes w (Some p) o = goes_in w p o

-- ---- operations and nodes

-- an operation in memory, and one but a call that a node in memory is
abbrev pub op_of : OpT ℕ → Op ℕ
op_of (ConstO t word) = op.Const t word
op_of (NullO t) = op.Null t
op_of (MoveO t a) = op.Move t a
op_of (OneO o t a) = op.One o t a
op_of (TwoO o t a b) = op.Two o t a b
op_of (GlobalO t number) = op.Global t number
op_of (LocalO t k) = op.Local t k
op_of (LiteralO t number) = op.Literal t number
op_of (CardO t) = op.Card t
op_of (StepO t p n) = op.Step t p n
op_of (ApartO t p q) = op.Apart t p q
op_of (PtrTestO o t p q) = op.PtrTest o t p q
op_of (LoadO t p) = op.Load t p
op_of (StoreO p a) = op.Store p a
op_of (FreshO k) = op.Fresh k
op_of (EndO k) = op.End k
op_of (InO t port) = op.In t port
op_of (OutO port a) = op.Out port a
op_of WaitO = op.Wait
op_of HaltO = op.Halt

abbrev pub plain_op : Op ℕ → Option (OpT ℕ)
plain_op (op.Const t word) = Some (ConstO t word)
plain_op (op.Null t) = Some (NullO t)
plain_op (op.Move t a) = Some (MoveO t a)
plain_op (op.One o t a) = Some (OneO o t a)
plain_op (op.Two o t a b) = Some (TwoO o t a b)
plain_op (op.Global t number) = Some (GlobalO t number)
plain_op (op.Local t k) = Some (LocalO t k)
plain_op (op.Literal t number) = Some (LiteralO t number)
plain_op (op.Card t) = Some (CardO t)
plain_op (op.Step t p n) = Some (StepO t p n)
plain_op (op.Apart t p q) = Some (ApartO t p q)
plain_op (op.PtrTest o t p q) = Some (PtrTestO o t p q)
plain_op (op.Load t p) = Some (LoadO t p)
plain_op (op.Store p a) = Some (StoreO p a)
plain_op (op.Fresh k) = Some (FreshO k)
plain_op (op.End k) = Some (EndO k)
plain_op (op.Call t f args) = None
plain_op (op.In t port) = Some (InO t port)
plain_op (op.Out port a) = Some (OutO port a)
plain_op op.Wait = Some WaitO
plain_op op.Halt = Some HaltO

abbrev pub node_op : NodeT ℕ → Option (OpT ℕ)
node_op (DoN o) = plain_op o
node_op (ChooseN p a b) = None
node_op (BlockN b) = None
node_op (LoopN b) = None
node_op (LeaveN k) = None
node_op (AgainN k) = None
node_op (ReturnN p) = None

abbrev pub held_nodes : Held → List (NodeT ℕ)
held_nodes None = []
held_nodes (Some p) = DoN (op_of p) ∷ []

-- what stands for a node, and what is held back behind it
abbrev pub nodes_at : Walk → Held → Option (OpT ℕ) → NodeT ℕ → List (NodeT ℕ)
nodes_at w h None x = held_nodes h ++ x ∷ []
nodes_at w None (Some o) x = cond (is_free w None o) [] (x ∷ [])
nodes_at w (Some p) (Some o) x = cond (goes_on w (Some p) o) (x ∷ []) (DoN (op_of p) ∷ cond (is_free w (Some p) o) [] (x ∷ []))

abbrev pub held_at : Walk → Held → Option (OpT ℕ) → Held
held_at w h None = None
held_at w h (Some o) = held_behind w h o

-- nodes that a walk has gone through, inside of them too
abbrev mutual
  pub node_sunk : Walk → NodeT ℕ → NodeT ℕ
  node_sunk w (DoN o) = DoN o
  node_sunk w (ChooseN p a b) = ChooseN p (listed (list_sunk w None a)) (listed (list_sunk w None b))
  node_sunk w (BlockN b) = BlockN (listed (list_sunk w None b))
  node_sunk w (LoopN b) = LoopN (listed (list_sunk w None b))
  node_sunk w (LeaveN k) = LeaveN k
  node_sunk w (AgainN k) = AgainN k
  node_sunk w (ReturnN p) = ReturnN p

  pub list_sunk : Walk → Held → ListT ℕ → List (NodeT ℕ)
  list_sunk w h NoN = held_nodes h
  list_sunk w h (MoreN x rest) = nodes_at w h (node_op x) (node_sunk w x) ++ list_sunk w (held_at w h (node_op x)) rest
