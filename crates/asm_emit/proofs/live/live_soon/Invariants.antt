use Rattle.std.proofs.Common.{◌≡◌}
use Rattle.mid_code.specs.Functions.{nodes}
use Rattle.asm_laws.specs.Live.{live_soon}
use Rattle.asm_emit.proofs.live.live_soon.Given as goal

abbrev pub decreases-nodes : goal.decreases-nodes
decreases-nodes l = l.left

abbrev pub invariant-nodes : goal.invariant-nodes
invariant-nodes l = live_soon l.left l.lasting (nodes l.rest) l.r ≡ live_soon l.count l.lasting (nodes l.xs) l.r
