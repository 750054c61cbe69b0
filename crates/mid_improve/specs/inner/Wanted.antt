-- Whether targets are live behind their operations, as it is computed from the end, of the temporaries below a number.
use Rattle.std.specs.Prelude.{ℕ, Bool, true, false, not, nat_lt, ◌&&◌, ◌||◌, List, ◌∷◌, Option, Some, None}
use Rattle.mid_code.specs.declared.node.Op.{Op}
use Rattle.mid_code.specs.declared.node.Op.TheVariants as op
use Rattle.mid_code.specs.Code.{target, NodesT, Stop, Do, Call, Choose, Block, Loop, Leave, Again, Return}
use Rattle.mid_code.specs.Functions.{NodeT, DoN, ChooseN, BlockN, LoopN, LeaveN, AgainN, ReturnN, ListT, NoN, MoreN, joined}
use Rattle.mid_code.specs.Live.{Label, label, is_live}
use Rattle.mid_fold.specs.Lasting.{divides}
use Rattle.mid_improve.specs.Settled.{only_puts}

abbrev pub Labels : Type 0
Labels = ℕ → List Label

abbrev pub Set : Type 0
Set = ℕ → Bool

-- what is live before nodes, from what is live behind them
abbrev pub live_set : Labels → NodesT ℕ → Set → Set
live_set ls c s y = is_live y (ls y) c (s y)

abbrev pub in_block : Set → Labels → Labels
in_block s ls y = label false (s y) ∷ ls y

abbrev pub in_loop : Set → Set → Labels → Labels
in_loop h s ls y = label (h y) (s y) ∷ ls y

-- a target, of an operation that only puts something into it or of another
abbrev pub is_wanted : ℕ → (only : Bool) → ℕ → Set → Bool
is_wanted n only t s = not only || (not (nat_lt t n) || s t)

abbrev pub maybe_wanted : ℕ → (only : Bool) → Option ℕ → Set → Bool
maybe_wanted n only None s = true
maybe_wanted n only (Some t) s = is_wanted n only t s

-- ---- code

abbrev pub all_wanted : ℕ → Labels → NodesT ℕ → Set → Bool
all_wanted n ls Stop s = true
all_wanted n ls (Do o c) s = maybe_wanted n (only_puts o) (target o) (live_set ls c s) && all_wanted n ls c s
all_wanted n ls (Call t f args c) s = all_wanted n ls c s
all_wanted n ls (Choose p a b c) s = all_wanted n ls a (live_set ls c s) && (all_wanted n ls b (live_set ls c s) && all_wanted n ls c s)
all_wanted n ls (Block b c) s = all_wanted n (in_block (live_set ls c s) ls) b (live_set ls c s) && all_wanted n ls c s
all_wanted n ls (Loop b c) s = all_wanted n (in_loop (live_set ls (Loop b c) s) (live_set ls c s) ls) b (live_set ls c s) && all_wanted n ls c s
all_wanted n ls (Leave k c) s = all_wanted n ls c s
all_wanted n ls (Again k c) s = all_wanted n ls c s
all_wanted n ls (Return p c) s = all_wanted n ls c s

-- ---- code in memory

abbrev pub op_wanted : ℕ → Op ℕ → Set → Bool
op_wanted n (op.Const t word) s = is_wanted n true t s
op_wanted n (op.Null t) s = is_wanted n true t s
op_wanted n (op.Move t a) s = is_wanted n true t s
op_wanted n (op.One o t a) s = is_wanted n true t s
op_wanted n (op.Two o t a b) s = is_wanted n (not (divides o)) t s
op_wanted n (op.Global t number) s = is_wanted n true t s
op_wanted n (op.Local t local) s = is_wanted n true t s
op_wanted n (op.Literal t number) s = is_wanted n true t s
op_wanted n (op.Card t) s = is_wanted n true t s
op_wanted n o s = true

abbrev mutual
  pub node_wanted : ℕ → Labels → NodeT ℕ → Set → Bool
  node_wanted n ls (DoN o) s = op_wanted n o s
  node_wanted n ls (ChooseN p a b) s = list_wanted n ls a s && list_wanted n ls b s
  node_wanted n ls (BlockN b) s = list_wanted n (in_block s ls) b s
  node_wanted n ls (LoopN b) s = list_wanted n (in_loop (live_set ls (Loop (joined b) Stop) s) s ls) b s
  node_wanted n ls (LeaveN k) s = true
  node_wanted n ls (AgainN k) s = true
  node_wanted n ls (ReturnN p) s = true

  pub list_wanted : ℕ → Labels → ListT ℕ → Set → Bool
  list_wanted n ls NoN s = true
  list_wanted n ls (MoreN x rest) s = node_wanted n ls x (live_set ls (joined rest) s) && list_wanted n ls rest s
