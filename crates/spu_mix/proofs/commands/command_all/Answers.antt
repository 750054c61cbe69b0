use Rattle.std.proofs.Common.{ℕ, ◌<◌, arith, List, length, get_or}
use Rattle.std.proofs.lemmas.List.{get_or_default}
use Rattle.std.proofs.lemmas.List.Edits.{map_over_more}
use Rattle.spu_mix.specs.Channels.{commanded_all, first_channel}
use Rattle.spu_mix.specs.declared.channel.Channel.{Channel}
use Rattle.spu_mix.proofs.commands.command_all.Goals as goal

pub loop-i-preserved : goal.loop-i-preserved
loop-i-preserved c =
    let xs : List Channel = c.args.channels.now in
    let i : ℕ = c.loop-i.i in
    let within : i < length xs = omega arith in
    let in_now : i < length c.loop-i.channels = omega arith in
    rw c.commanded_all.ensures.value (map_over_more (commanded_all c.args.word) xs c.loop-i.channels i (get_or c.loop-i.channels i first_channel) within c.loop-i.invariant
    (get_or_default c.loop-i.channels i first_channel (get_or c.loop-i.channels i first_channel) in_now))
