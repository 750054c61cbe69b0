use Rattle.std.proofs.Common.{◌≡◌, ◌++◌, drop}
use Rattle.std.specs.String.{string_bytes}
use Rattle.mid_code.specs.Functions.{nodes}
use Rattle.mid_text.specs.Text.{inside, nodes_text}
use Rattle.mid_text.proofs.nodes.+nodes.Given as goal

abbrev pub invariant-put_inside-loop-n : goal.invariant-put_inside-loop-n
invariant-put_inside-loop-n l = string_bytes l.out ++ nodes_text (inside l.lead) (nodes (drop l.n-index l.ns)) ≡ string_bytes l.initial.out ++ nodes_text (inside l.lead) (nodes l.ns)
