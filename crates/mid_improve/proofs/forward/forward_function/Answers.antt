use Rattle.std.proofs.Common.{rules, ◌≡◌, map}
use Rattle.mid_code.specs.Functions.{function, node, listed}
use Rattle.mid_improve.specs.inner.Facts.{none_known}
use Rattle.mid_improve.specs.inner.ForwardListed.{list_forwarded}
use Rattle.mid_improve.proofs.ForwardJoined.{function_is, forward_joined}
use Rattle.mid_improve.proofs.forward.forward_function.Goals as goal

pub returns : goal.returns
returns c =
    let body : map node c.forward_inside.new.b ≡ list_forwarded none_known (listed (map node c.args.f.now.body)) = search rules in
    function_is (function c.args.f.now) _ (forward_joined c.args.f.now.body c.forward_inside.new.b body)
