-- The same as code in memory has it.
use Rattle.std.specs.Prelude.{ℕ, eqb, cond, ◌||◌, List, [], ◌∷◌, Option, Some, None}
use Rattle.mid_code.specs.Code.{Stop, maybe}
use Rattle.mid_code.specs.Functions.{op_before, NodeT, DoN, ChooseN, BlockN, LoopN, LeaveN, AgainN, ReturnN, ListT, NoN, MoreN, listed, joined}
use Rattle.mid_code.specs.Live.{ends_of, begins_of, is_among, is_live}
use Rattle.mid_improve.specs.inner.Wanted.{Labels, Set, live_set, in_block, in_loop, op_wanted}

-- what is live before a node and before nodes, where what is not wanted is taken out
abbrev mutual
  pub node_left : ℕ → Labels → NodeT ℕ → Set → Set
  node_left n ls (DoN o) s = λ y. cond (op_wanted n o s) (is_live y (ls y) (op_before o Stop) (s y)) (s y)
  node_left n ls (ChooseN p a b) s = λ y. eqb p y || (list_left n ls a s y || list_left n ls b s y)
  node_left n ls (BlockN b) s = list_left n (in_block s ls) b s
  node_left n ls (LoopN b) s = list_left n (in_loop (live_set (in_block s ls) (joined b) s) s ls) b s
  node_left n ls (LeaveN k) s = λ y. ends_of (ls y) k
  node_left n ls (AgainN k) s = λ y. begins_of (ls y) k
  node_left n ls (ReturnN p) s = λ y. is_among (maybe p) y

  pub list_left : ℕ → Labels → ListT ℕ → Set → Set
  list_left n ls NoN s = s
  list_left n ls (MoreN x rest) s = node_left n ls x (list_left n ls rest s)

-- a node in front, where there is one
abbrev pub maybe_before : Option (NodeT ℕ) → List (NodeT ℕ) → List (NodeT ℕ)
maybe_before None xs = xs
maybe_before (Some x) xs = x ∷ xs

abbrev mutual
  pub node_swept : ℕ → Labels → NodeT ℕ → Set → Option (NodeT ℕ)
  node_swept n ls (DoN o) s = cond (op_wanted n o s) (Some (DoN o)) None
  node_swept n ls (ChooseN p a b) s = Some (ChooseN p (listed (list_swept n ls a s)) (listed (list_swept n ls b s)))
  node_swept n ls (BlockN b) s = Some (BlockN (listed (list_swept n (in_block s ls) b s)))
  node_swept n ls (LoopN b) s = Some (LoopN (listed (list_swept n (in_loop (live_set (in_block s ls) (joined b) s) s ls) b s)))
  node_swept n ls (LeaveN k) s = Some (LeaveN k)
  node_swept n ls (AgainN k) s = Some (AgainN k)
  node_swept n ls (ReturnN p) s = Some (ReturnN p)

  pub list_swept : ℕ → Labels → ListT ℕ → Set → List (NodeT ℕ)
  list_swept n ls NoN s = []
  list_swept n ls (MoreN x rest) s = maybe_before (node_swept n ls x (list_left n ls rest s)) (list_swept n ls rest s)
