use Rattle.std.proofs.Common.{◌≤◌, vec_len}
use Rattle.kit_main.proofs.streams.read_whole.Given as goal

abbrev pub invariant-loop : goal.invariant-loop
invariant-loop g l = vec_len l.bytes ≤ 268435456
