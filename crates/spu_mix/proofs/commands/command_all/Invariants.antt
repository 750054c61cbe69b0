use Rattle.std.proofs.Common.{◌≡◌, ◌++◌, take, drop}
use Rattle.std.specs.Prelude.{map}
use Rattle.spu_mix.specs.Channels.{commanded_all}
use Rattle.spu_mix.proofs.commands.command_all.Given as goal

abbrev pub invariant-loop-i : goal.invariant-loop-i
invariant-loop-i l = l.channels ≡ map (commanded_all l.word) (take l.i l.initial.channels) ++ drop l.i l.initial.channels
