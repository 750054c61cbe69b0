-- Loops in the order of a walk from the end, and what a table tells of their heads.
use Rattle.std.specs.Prelude.{◌≡◌, ℕ, suc, ◌+◌, ◌*◌, ◌<◌, List, length, get_or, Bool, false, not, ◌||◌, ◌&&◌}
use Rattle.mid_code.specs.Code.{NodesT, Stop, Do, Call, Choose, Block, Loop, Leave, Again, Return}
use Rattle.mid_code.specs.Functions.{NodeT, ListT, DoN, ChooseN, BlockN, LoopN, LeaveN, AgainN, ReturnN, NoN, MoreN, joined}
use Rattle.mid_code.specs.Live.{Label, is_live, is_used, is_target}
use Rattle.mid_live.specs.Sets.{on}
use Rattle.mid_live.specs.declared.heads.Known.{Known}
use Rattle.mid_live.specs.declared.heads.Head.{Head}
use Rattle.mid_live.specs.declared.heads.Head.TheVariants as head

abbrev mutual
  -- how many loops there are
  pub node_loops : NodeT ℕ → ℕ
  node_loops (DoN o) = 0
  node_loops (ChooseN p a b) = list_loops b + list_loops a
  node_loops (BlockN b) = list_loops b
  node_loops (LoopN b) = suc (list_loops b)
  node_loops (LeaveN k) = 0
  node_loops (AgainN k) = 0
  node_loops (ReturnN p) = 0

  pub list_loops : ListT ℕ → ℕ
  list_loops NoN = 0
  list_loops (MoreN x rest) = list_loops rest + node_loops x

-- whether a temporary is named somewhere
abbrev pub named : NodesT ℕ → ℕ → Bool
named Stop y = false
named (Do o c) y = (is_used (Do o c) y || is_target (Do o c) y) || named c y
named (Call t f args c) y = (is_used (Call t f args c) y || is_target (Call t f args c) y) || named c y
named (Choose p a b c) y = is_used (Choose p a b c) y || (named a y || (named b y || named c y))
named (Block b c) y = named b y || named c y
named (Loop b c) y = named b y || named c y
named (Leave k c) y = named c y
named (Again k c) y = named c y
named (Return p c) y = is_used (Return p c) y || named c y

-- What is known of a loop with the body `b`, of the temporaries of `w` words: how many loops it has, what it names, and that live at its head are those
-- that it needs, and those that are live behind it and not gone.
pub record IsKnown (w : ℕ) (h : Known) (b : ListT ℕ) : Type 0 where
  pub inside : h.inside ≡ list_loops b
  pub names : (y : ℕ) → y < 64 * w → on h.names y ≡ named (joined b) y
  pub told : (y : ℕ) (ls : List Label) (j : Bool) → y < 64 * w → is_live y ls (Loop (joined b) Stop) j ≡ ((j && not (on h.gone y)) || on h.needs y)

-- what is told of it: what is known, or only how many loops it has
abbrev pub IsHead : ℕ → Head → ListT ℕ → Type 0
IsHead w (head.Unknown n) b = n ≡ list_loops b
IsHead w (head.Known h) b = IsKnown w h.value b

-- The entries from k on are those of the loops of a node, or of a list, the last loop first, each before those inside it.
abbrev mutual
  pub NodeTold : ℕ → List Head → ℕ → NodeT ℕ → Type 0
  NodeTold w t k (DoN o) = Unit {0}
  NodeTold w t k (ChooseN p a b) = ListTold w t k b × ListTold w t (list_loops b + k) a
  NodeTold w t k (BlockN b) = ListTold w t k b
  NodeTold w t k (LoopN b) = (k < length t) × ((d : Head) → IsHead w (get_or t k d) b) × ListTold w t (suc k) b
  NodeTold w t k (LeaveN n) = Unit {0}
  NodeTold w t k (AgainN n) = Unit {0}
  NodeTold w t k (ReturnN p) = Unit {0}

  pub ListTold : ℕ → List Head → ℕ → ListT ℕ → Type 0
  ListTold w t k NoN = Unit {0}
  ListTold w t k (MoreN x rest) = ListTold w t k rest × NodeTold w t (list_loops rest + k) x
