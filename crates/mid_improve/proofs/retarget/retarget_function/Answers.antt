use Rattle.std.proofs.Common.{rules, ◌≡◌, None, map}
use Rattle.mid_code.specs.Functions.{function, node, listed}
use Rattle.mid_improve.specs.inner.RetargetListed.{list_retargeted}
use Rattle.mid_improve.proofs.RetargetJoined.{function_is, retargeted_joined}
use Rattle.mid_improve.proofs.retarget.retarget_function.Goals as goal

pub returns : goal.returns
returns c =
    let body : map node c.retarget_inside.new.b ≡ list_retargeted None (listed (map node c.args.f.now.body)) = search rules in
    function_is (function c.args.f.now) _ (retargeted_joined c.args.f.now.body c.retarget_inside.new.b body)
