-- Nodes of a function without blocks and loops.
use Rattle.std.specs.Prelude.{ℕ, ◌<◌, []}
use Rattle.mid_code.specs.Code.{NodesT, CodeT}
use Rattle.mid_code.specs.Invariants.{AreNodes, Names}

-- They are nodes of the code, in a function of so many locals, and name temporaries below a number.
abbrev pub Fine : CodeT ℕ → (temps locals : ℕ) → NodesT ℕ → Type 0
Fine x temps locals c = AreNodes x locals [] c × Names (λ t. t < temps) c
