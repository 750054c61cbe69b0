use Rattle.std.proofs.Common.{rules, ◌≡◌, [], map}
use Rattle.mid_code.specs.Functions.{function, node, listed}
use Rattle.mid_fold.specs.inner.Listed.{list_folded}
use Rattle.mid_fold.proofs.Joined.{function_is, folded_joined}
use Rattle.mid_fold.proofs.functions.fold_function.Goals as goal

pub returns : goal.returns
returns c =
    let body : map node c.fold_inside.new.b ≡ list_folded [] (listed (map node c.args.f.now.body)) = search rules in
    function_is (function c.args.f.now) _ (folded_joined c.args.f.now.body c.fold_inside.new.b body)
