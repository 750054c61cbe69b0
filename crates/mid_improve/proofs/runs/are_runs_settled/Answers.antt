use Rattle.std.proofs.Common.{rules, ◌≡◌, [], ap, ◌∙◌}
use Rattle.mid_code.specs.Functions.{nodes}
use Rattle.mid_improve.specs.Settled.{nodes_settled}
use Rattle.mid_improve.proofs.Joined.{settled_joined}
use Rattle.mid_improve.proofs.runs.are_runs_settled.Goals as goal

pub returns : goal.returns
returns c =
    let same : c.as_slice.result.now ≡ c.args.f.now.body = search rules in
    c.in_ok-settled.ensures ∙ settled_joined c.as_slice.result.now ∙ ap (λ ns. nodes_settled [] (nodes ns)) same
