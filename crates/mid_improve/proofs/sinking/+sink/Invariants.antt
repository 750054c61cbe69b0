use Rattle.std.proofs.Common.{◌≡◌, ℕ, ◌≤◌, drop, length, get_or}
use Rattle.mid_code.specs.declared.node.Node.{Node}
use Rattle.mid_improve.specs.inner.SinkListed.{held_of}
use Rattle.mid_improve.proofs.SinkPlaced.{Sunk}
use Rattle.mid_improve.proofs.sinking.+sink.Given as goal

abbrev pub invariant-sink_nodes-loop-i : goal.invariant-sink_nodes-loop-i
invariant-sink_nodes-loop-i l = record {
  sunk : Sunk l.w (held_of l.held) l.i l.ns (drop l.i l.initial.ns) l.initial.ns;
  len : length l.ns ≡ length l.initial.ns;
  unvisited : (k : ℕ) (d : Node ℕ) → l.i ≤ k → get_or l.ns k d ≡ get_or l.initial.ns k d;
}
