use Rattle.std.proofs.Common.{◌≡◌, ◌++◌, map, drop}
use Rattle.mid_code.specs.Functions.{node}
use Rattle.reg_frames.specs.inner.Moved.{stands, node_moved}
use Rattle.reg_frames.proofs.code.+place.Given as goal

abbrev pub invariant-place_nodes-loop-n : goal.invariant-place_nodes-loop-n
invariant-place_nodes-loop-n l = map node l.placed.items ++ map (λ n. node_moved (stands l.p) (node n)) (drop l.n-index l.ns) ≡ map (λ n. node_moved (stands l.p) (node n)) l.ns
