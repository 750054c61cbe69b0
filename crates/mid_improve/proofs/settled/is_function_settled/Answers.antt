use Rattle.mid_code.specs.Functions.{function}
use Rattle.mid_improve.proofs.Whole.{runs_not, targets_then}
use Rattle.mid_improve.proofs.settled.is_function_settled.Goals as goal

pub returns-then-not-runs-clause-settled : goal.returns-then-not-runs-clause-settled
returns-then-not-runs-clause-settled c = runs_not (function c.args.f.now) c.in_ok-runs.runs c.in_ok-runs.ensures c.if-not-runs.true

pub returns-clause-settled : goal.returns-clause-settled
returns-clause-settled c = targets_then (function c.args.f.now) c.in_ok-runs.runs c.in_ok-targets.targets c.in_ok-runs.ensures c.if-not-runs.false c.in_ok-targets.ensures.live
