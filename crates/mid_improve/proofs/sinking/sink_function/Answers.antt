use Rattle.std.proofs.Common.{rules, ◌≡◌, None, map}
use Rattle.mid_code.specs.Functions.{function, node, listed}
use Rattle.mid_improve.specs.inner.SinkListed.{list_sunk}
use Rattle.mid_improve.proofs.SinkJoined.{function_is, sunk_joined}
use Rattle.mid_improve.proofs.sinking.sink_function.Goals as goal

pub returns : goal.returns
returns c =
    let body : map node c.sink_list.new.b ≡ list_sunk c.args.w None (listed (map node c.args.f.now.body)) = search rules in
    function_is c.args.w (function c.args.f.now) _ (sunk_joined c.args.w c.args.f.now.body c.sink_list.new.b body)
