use Rattle.std.proofs.Common.{rules, ◌≡◌, map}
use Rattle.mid_code.specs.Functions.{function, node, listed}
use Rattle.mid_fold.specs.inner.Reusing.{nothing_seen}
use Rattle.mid_fold.specs.inner.ReusingListed.{list_reused}
use Rattle.mid_fold.proofs.ReuseJoined.{function_is, reused_joined}
use Rattle.mid_fold.proofs.functions.reuse_function.Goals as goal

pub returns : goal.returns
returns c =
    let body : map node c.reuse_inside.new.b ≡ list_reused nothing_seen (listed (map node c.args.f.now.body)) = search rules in
    function_is (function c.args.f.now) _ (reused_joined c.args.f.now.body c.reuse_inside.new.b body)
