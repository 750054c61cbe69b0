use Rattle.std.proofs.Common.{rules, ◌≡◌, map}
use Rattle.mid_code.specs.Functions.{function, node, listed}
use Rattle.mid_live.specs.Sets.{on}
use Rattle.mid_live.specs.Labels.{labels_of}
use Rattle.mid_improve.specs.inner.Wanted.{Labels}
use Rattle.mid_improve.specs.inner.SweepListed.{list_swept}
use Rattle.mid_improve.proofs.SweepJoined.{swept_joined, function_is}
use Rattle.mid_improve.proofs.sweep.sweep_function.Goals as goal

pub returns-clause-swept : goal.returns-clause-swept
returns-clause-swept c =
    let f = function c.args.f.now in
    let ls : Labels = λ y. labels_of y c.outside-around.result in
    let body : map node c.sweep_inside.new.b ≡ list_swept f.temps ls (listed (map node c.args.f.now.body)) (on c.heads_in.new.s) = search rules in
    function_is f _ (swept_joined f.temps c.args.f.now.body c.sweep_inside.new.b ls (on c.heads_in.new.s) (λ y. c.outside-around.ensures y) (λ y. c.in_ok-heads.ensures.none y) body)
