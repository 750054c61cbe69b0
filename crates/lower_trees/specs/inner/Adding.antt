-- What lowering adds to what was lowered of a function.
use Rattle.std.specs.Prelude.{ℕ, ◌≡◌, ◌≤◌, ◌+◌, List, ◌++◌, length, map, Vec}
use Rattle.std.specs.declared.alloc.Global.{Global}
use Rattle.mid_code.specs.declared.node.Node.{Node}
use Rattle.mid_code.specs.Functions.{node}
use Rattle.lower_trees.specs.declared.output.Output.{Output}
use Rattle.lower_trees.specs.Pieces.{Piece, Listing, listing}

-- the nodes of a piece are appended
abbrev pub AddsCode : (old new : Vec (Node ℕ) Global) → Piece → Type 0
AddsCode old new p = map node new.items ≡ map node old.items ++ listing p

-- Nodes are appended that have so many temporaries of their own, and locals of these sizes: those from the first on that nothing had.
pub record AddsNodes (old new : Output) (added : (n m : ℕ) → Listing) (temps : ℕ) (sizes : List ℕ) : Type 0 where
  pub nodes : map node new.nodes.items ≡ map node old.nodes.items ++ added old.next (length old.locals.items)
  pub locals : new.locals.items ≡ old.locals.items ++ sizes
  pub next : new.next ≡ old.next + temps

-- the same, as a piece
abbrev pub Adds : (old new : Output) → ((n m : ℕ) → Piece) → (temps : ℕ) → (sizes : List ℕ) → Type 0
Adds old new code temps sizes = AddsNodes old new (λ n m. listing (code n m)) temps sizes

-- the same of nodes that come to stand inside of others: they are kept apart
pub record AddsInside (old new : Output) (apart : Vec (Node ℕ) Global) (added : (n m : ℕ) → Listing) (temps : ℕ) (sizes : List ℕ) : Type 0 where
  pub inside : map node apart.items ≡ added old.next (length old.locals.items)
  pub nodes : new.nodes ≡ old.nodes
  pub locals : new.locals.items ≡ old.locals.items ++ sizes
  pub next : new.next ≡ old.next + temps

-- so many temporaries are taken
pub record Takes (old new : Output) (count : ℕ) : Type 0 where
  pub nodes : new.nodes ≡ old.nodes
  pub locals : new.locals ≡ old.locals
  pub next : new.next ≡ old.next + count

-- there is room for so many temporaries, and for locals of these sizes
pub record HasRoom (old : Output) (temps : ℕ) (sizes : List ℕ) : Type 0 where
  pub next : old.next + temps ≤ 1000000
  pub local : length old.locals.items + length sizes ≤ 1000000
